-- Fill and run, one after the other.
use Rattle.std.proofs.Common.{◌≡◌, ℕ, ◌+◌, ◌-◌, ◌<◌, ◌≤◌, Bool, true, eqb, leb, List, reverse, length, get_or, Ok, Err, sym, refl, ap, ◌∙◌, subst, ⊎_elim, arith}
use Rattle.std.proofs.lemmas.Bool.{cases_Bool, both_ways, cond-true, eq-eqb, le-leb}
use Rattle.std.proofs.lemmas.List.{length-reverse}
use Rattle.cnf.specs.Sinks.{Model}
use Rattle.sinks.specs.Models.{assigned}
use Rattle.mtl.specs.declared.row.Row.{Row}
use Rattle.mtl.specs.Runs.{Run, endless_word, formula, Settled, Belongs}
use Rattle.mtl.specs.Tables.{has_signal, lawful, Asked}
use Rattle.mtl.specs.Statements.{Obeys, BelongsTo, Agree}
use Rattle.mtl.proofs.Tables.{ordered, top_least}
use Rattle.mtl.proofs.OneRun.{one_run}
use Rattle.job.proofs.RunLaws.{ran_good, good_fresh}
use Rattle.job.specs.Calls.{State, highest}
use Rattle.evaluate.specs.Letters.{has}
use Rattle.witness.specs.Areas.{Bits}
use Rattle.witness.specs.Fills.{Answer, SignalsKnown, run_of, early_answer, SettledAnswer, Then, Filled}
use Rattle.witness.specs.Shown.{starts_true, start_below, run_answer, LettersShown, IsRun}
use Rattle.witness.specs.Trips.{Words, RoundTrip, Refill, RefillAfter}
use Rattle.witness.proofs.Digits.{eqb_same, same_letters}
use Rattle.witness.proofs.Filling.{passed, highest_begun}
use Rattle.witness.proofs.Coming.{belongs_start, is_run, passed_run}
use Rattle.witness.proofs.Moving.{SameRows, settled_moved, belongs_moved, keeps_moved, belongs_same}

then_ok : (x : Answer) (P : Answer → Type 0) → Then x P (Ok tt) → Ok tt ≡ x
then_ok (Ok y) P p = refl
then_ok (Err e) P p = p

accepts : (s : State) (area : List ℕ) (room l : ℕ) → s.begun ≡ true → room ≡ s.bound + 1 → highest s ≤ length area → starts_true (assigned area) (s.bound + 1) ≡ 1 → start_below (assigned area) (s.bound + 1) ≡ l → run_answer s area room ≡ Ok l
accepts s area room l b n h one is =
    cond-true s.begun _ _ b
    ∙ cond-true (eqb room (s.bound + 1)) _ _ (eq-eqb room (s.bound + 1) n)
    ∙ cond-true (leb (highest s) (length area)) _ _ (le-leb (highest s) (length area) h)
    ∙ cond-true (eqb (starts_true (assigned area) (s.bound + 1)) 1) _ _ (eq-eqb (starts_true (assigned area) (s.bound + 1)) 1 one)
    ∙ ap Ok is

pub round_trip : RoundTrip
round_trip s l letters before after work law len q f = record { answer = answer; signals = signals; unchanged = unchanged }
  where
    run : Run s.bound
    run = run_of s.bound l f.inside letters

    start : (starts_true (assigned after) (s.bound + 1) ≡ 1) × (start_below (assigned after) (s.bound + 1) ≡ l)
    start = belongs_start s.bound s.rows (assigned after) (run_of s.bound l f.inside letters) f.belongs

    early : Ok tt ≡ early_answer s l (length letters) q.0 (length before) work
    early = then_ok (early_answer s l (length letters) q.0 (length before) work) (SettledAnswer s l letters) q.2

    answer : run_answer s after (length letters) ≡ Ok l
    answer =
        let p = passed s l letters q.0 (length before) work early in
        accepts s after (length letters) l p.begun p.as_many (omega (arith, p.roomy, len)) start.0 start.1

    signals : (back : List ℕ) → LettersShown s.bound (assigned after) s.rows back → (i a : ℕ) → i ≤ s.bound → a < 32 → has back i a ≡ has letters i a
    signals back w i a c d =
        let p = passed s l letters q.0 (length before) work early in
        let r = is_run s.bound s.rows (assigned after) law l back (sym start.1) w (run_of s.bound l f.inside letters) f.belongs in
        let known = q.1.0 p.all_known in
        ⊎_elim (λ e. r.on i a c e)
        (λ e. r.off i a c d e ∙ sym (⊎_elim (λ t. absurd (both_ways (has_signal a s.rows) e (known i a (omega (arith, p.as_many)) d t))) (λ t. t) (cases_Bool (has letters i a))))
        (cases_Bool (has_signal a s.rows))

    unchanged : (back : List ℕ) → LettersShown s.bound (assigned after) s.rows back → length back ≡ length letters → Words back → Words letters → back ≡ letters
    unchanged back w n x y =
        let p = passed s l letters q.0 (length before) work early in
        same_letters s.bound back letters (n ∙ p.as_many) p.as_many x y (signals back w)

-- what the run that comes out shares with the one that the assignment belongs to
module _ (k : ℕ) (rows : List Row) (law : lawful rows ≡ true) (p out : Run k) (agree : Agree k rows p out) where
  same : SameRows k p.loop p.bounded (endless_word p) (endless_word out) (formula (reverse rows)) (length (reverse rows))
  same m c = one_run.alike k rows p out law agree m (let e = length-reverse rows in omega arith)

  pub settled_out : Settled k p.loop (endless_word p) (reverse rows) → Settled k out.loop (endless_word out) (reverse rows)
  settled_out s = subst (λ m. Settled k m (endless_word out) (reverse rows)) agree.loop (settled_moved k p.loop p.bounded (endless_word p) (endless_word out) (reverse rows) (ordered rows law) same s)

  pub belongs_out : (α : ℕ → Bool) → BelongsTo α p rows → BelongsTo α out rows
  belongs_out α b = subst (λ m. Belongs k m (endless_word out) α (reverse rows)) agree.loop (belongs_moved k p.loop p.bounded (endless_word p) (endless_word out) α (reverse rows) (ordered rows law) same b)

pub refill : Refill
refill s area l room letters law asked shows e w = record { inside = inside; obeys = obeys; known = known; variables = variables; bytes = bytes }
  where
    found : IsRun s.bound s.rows shows.0 l letters
    found = is_run s.bound s.rows (assigned area) law l letters (passed_run s area room l (sym e)).start w shows.0 shows.2

    inside : l ≤ s.bound
    inside = let h = shows.0.bounded in omega (arith, found.loop)

    agree : Agree s.bound s.rows shows.0 (run_of s.bound l inside letters)
    agree = record { loop = sym found.loop; letters = λ i a c h. sym (found.on i a c h) }

    obeys : Obeys s.bound s.rows s.kept (run_of s.bound l inside letters)
    obeys = record {
      settled = settled_out s.bound s.rows law shows.0 (run_of s.bound l inside letters) agree shows.1.settled;
      keeps =
          keeps_moved s.bound shows.0.loop shows.0.bounded (endless_word shows.0) (endless_word (run_of s.bound l inside letters)) (reverse s.rows) s.kept
          (subst (λ n. Asked s.bound n s.kept) (sym (length-reverse s.rows)) asked) (same s.bound s.rows law shows.0 (run_of s.bound l inside letters) agree) shows.1.keeps;
    }

    known : length letters ≡ s.bound + 1 → SignalsKnown s.rows letters
    known n i a c d t = ⊎_elim (λ x. x) (λ x. absurd (both_ways (has letters i a) (found.off i a (omega arith) d x) t)) (cases_Bool (has_signal a s.rows))

    variables : (before after : List ℕ) → Filled s l letters before after → (v : ℕ) → 1 ≤ v → v ≤ highest s → assigned after v ≡ assigned area v
    variables before after f v o c =
        let h = highest_begun s (passed_run s area room l (sym e)).begun in
        let t = top_least s.bound (reverse s.rows) in
        belongs_same s.bound l (endless_word (run_of s.bound l inside letters)) (assigned after) (assigned area) (reverse s.rows) f.belongs
        (belongs_out s.bound s.rows law shows.0 (run_of s.bound l inside letters) agree (assigned area) shows.2) v o (omega arith)

    bytes : (before after : List ℕ) → Filled s l letters before after → Bits 0 (highest s) area → (j : ℕ) → j < highest s → get_or after j 0 ≡ get_or area j 0
    bytes before after f bits j c =
        let z : j + 1 - 1 ≡ j = omega arith in
        let x = f.bits j (omega arith) c in
        let y = bits j (omega arith) c in
        eqb_same (get_or after j 0) (get_or area j 0) (omega arith) (omega arith)
        (subst (λ (n : ℕ). eqb (get_or after n 0) 1 ≡ eqb (get_or area n 0) 1) z (variables before after f (j + 1) (omega arith) (omega arith)))

pub refill_after : {S : Type 0} (m : Model S) → RefillAfter m
refill_after m k k' cs rs s ran area l room letters shows e w =
    let g = ran_good m ran good_fresh in
    refill s area l room letters g.lawful g.asked shows e w
