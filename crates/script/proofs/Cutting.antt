-- Texts that begin with the same bytes: their lines, and what comes of them as scripts.
use Rattle.std.proofs.Common.{◌≡◌, ℕ, suc, ◌+◌, ◌*◌, ◌<◌, ◌≤◌, Bool, true, false, cond, eqb, ◌⊎◌, ◌↔◌, List, [], ◌∷◌, ◌++◌, map, length, take, drop, Err, Result, sym, refl, ap, ◌∙◌, subst, inl, inr, ⊎_elim, arith}
use lib.ListN.{length-map}
use Rattle.std.proofs.lemmas.List.{append-nil, take-append-drop, take_all, length-take-le}
use Rattle.std.proofs.lemmas.Bool.{and_left, and_right, lt-leb, cond-false, cases_lt}
use Rattle.std.specs.List.{AllByRecursion}
use Rattle.cnf.specs.Sinks.{Model}
use Rattle.text.specs.Split.{start, lines}
use Rattle.frames.specs.declared.refusals.Refusal.TheVariants.{Digits}
use Rattle.frames.specs.Script.{calling, written_call}
use Rattle.job.specs.Calls.{State, fresh}
use Rattle.script.specs.declared.refusal.Stop.{Stop}
use Rattle.script.specs.Scripts.{by_line, line_answer, Ended, ScriptRan, DroveScript}
use Rattle.script.specs.Files.{Filed}
use Rattle.script.specs.Cut.{enough, ScriptCut, FileCut}
use Rattle.script.proofs.Counting.{Short, at_most_97, all_short}

-- the lines of two texts that begin with the same n bytes: the same lines, and then two that both begin with what is left
abbrev Alike : ℕ → List (List ℕ) → List (List ℕ) → Type 0
Alike n [] ms = n ≡ 0
Alike n (l ∷ ls) [] = n ≡ 0
Alike n (l ∷ ls) (k ∷ ms) = ((n ≤ length l) × (n ≤ length k)) ⊎ ((j : ℕ) × (l ≡ k) × (n ≡ length l + 1 + j) × Alike j ls ms)

alike_none : (ls ms : List (List ℕ)) → Alike 0 ls ms
alike_none [] ms = refl
alike_none (l ∷ ls) [] = refl
alike_none (l ∷ ls) (k ∷ ms) = inl (omega arith, omega arith)

alike_start : (b n : ℕ) (ls ms : List (List ℕ)) → Alike n ls ms → Alike (suc n) (start b ls) (start b ms)
alike_start b n [] [] e = inl (omega arith, omega arith)
alike_start b n [] (k ∷ ms) e = inl (omega arith, omega arith)
alike_start b n (l ∷ ls) [] e = inl (omega arith, omega arith)
alike_start b n (l ∷ ls) (k ∷ ms) (inl (p, q)) = inl (omega arith, omega arith)
alike_start b n (l ∷ ls) (k ∷ ms) (inr (j, same, count, rest)) = inr (j, ap (λ x. b ∷ x) same, omega arith, rest)

alike : (p q q' : List ℕ) → Alike (length p) (lines (p ++ q)) (lines (p ++ q'))
alike [] q q' = alike_none (lines q) (lines q')
alike (b ∷ bs) q q' = at (eqb b 10) (alike bs q q')
  where
    at : (t : Bool) → Alike (length bs) (lines (bs ++ q)) (lines (bs ++ q')) → Alike (suc (length bs)) (cond t ([] ∷ lines (bs ++ q)) (start b (lines (bs ++ q)))) (cond t ([] ∷ lines (bs ++ q')) (start b (lines (bs ++ q'))))
    at true a = inr (length bs, refl, omega arith, a)
    at false a = alike_start b (length bs) (lines (bs ++ q)) (lines (bs ++ q')) a

-- behind short lines that have fewer bytes than are the same
behind : (a rest ms : List (List ℕ)) (n : ℕ) → AllByRecursion Short a → 15 * length a < n → Alike n (a ++ rest) ms → (rest' : List (List ℕ)) × (j : ℕ) × (ms ≡ a ++ rest') × (n ≤ 15 * length a + j) × Alike j rest rest'
behind [] rest ms n short h e = (ms, n, refl, omega arith, e)
behind (l ∷ a) rest [] n short h e = absurd (omega arith)
behind (l ∷ a) rest (k ∷ ms) n (short, shorts) h (inl (p, q)) = absurd (omega arith)
behind (l ∷ a) rest (k ∷ ms) n (short, shorts) h (inr (j, same, count, e)) =
    let (rest', i, is, left, f) = behind a rest ms j shorts (omega arith) e in
    (rest', i, ap (λ x. x ∷ ms) (sym same) ∙ ap (λ x. l ∷ x) is, omega arith, f)

-- a line of more than 14 characters is refused
too_long : (l : List ℕ) → 14 < length l → calling l ≡ Err Digits
too_long l h = cond-false _ _ (Err Digits) (and_left _ _ (and_right _ _ (and_left _ _ (lt-leb (length l) 14 h))))

module _ {S : Type 0} (m : Model S) (k : S) (s : State) (n : ℕ) (r : Result (Unit {0}) Stop) where
  ended_alike : (j : ℕ) (rest rest' : List (List ℕ)) → 14 < j → Alike j rest rest' → Ended m k s n rest r → Ended m k s n rest' r
  ended_alike j [] rest' h e end = absurd (omega arith)
  ended_alike j (l ∷ ls) [] h e end = absurd (omega arith)
  ended_alike j (l ∷ ls) (l' ∷ ms) h (inl (p, q)) (e, refused, is) = (e, ap (by_line m k s) (too_long l' (omega arith) ∙ sym (too_long l (omega arith))) ∙ refused, is)
  ended_alike j (l ∷ ls) (l' ∷ ms) h (inr (_, same, _, _)) (e, refused, is) = (e, ap (line_answer m k s) (sym same) ∙ refused, is)

module _ (p q q' : List ℕ) (h : enough ≤ length p) where
  module _ {S : Type 0} {m : Model S} {k : S} {r : Result (Unit {0}) Stop} {k' : S} {s : State} where
    end : (d : ScriptRan m k fresh (p ++ q) r k' s) → (rest : List (List ℕ)) × (lines (p ++ q') ≡ map written_call d.calls ++ rest) × Ended m k' s (length d.calls) rest r
    end d =
        let a = map written_call d.calls in
        let few = at_most_97 m d.ran d.accepted in
        let count = length-map d.calls written_call in
        let same = subst (λ ls. Alike (length p) ls (lines (p ++ q'))) d.made (alike p q q') in
        let (rest, j, is, left, e) = behind a d.rest (lines (p ++ q')) (length p) (all_short d.calls) (omega arith) same in
        (rest, is, ended_alike m k' s (length d.calls) r j d.rest rest (omega arith) e d.ended)

    -- the calls and the answers are the same ones
    abbrev ran : ScriptRan m k fresh (p ++ q) r k' s → ScriptRan m k fresh (p ++ q') r k' s
    ran d = record {
      calls = d.calls;
      answers = d.answers;
      accepted = d.accepted;
      rest = (end d).0;
      made = (end d).1;
      reads = d.reads;
      ran = d.ran;
      ended = (end d).2;
    }

    abbrev drove : DroveScript m k (p ++ q) r k' s → DroveScript m k (p ++ q') r k' s
    drove d = record { script = ran d.script; promise = d.promise }

  filed : (work before after : List ℕ) (r : Result ℕ Stop) → Filed work (p ++ q) before after r → Filed work (p ++ q') before after r
  filed work before after r f = record {
    result = f.result;
    state = f.state;
    start = f.start;
    end = f.end;
    new = f.new;
    drove = drove f.drove;
    made = f.made;
    exact = f.exact;
  }

-- what does not change with what stands behind enough bytes holds of a text if it holds of so many bytes of it, and back
first-bytes : (P : List ℕ → Type 0) → ((p q q' : List ℕ) → enough ≤ length p → P (p ++ q) → P (p ++ q')) → (text : List ℕ) → P (take enough text) ↔ P text
first-bytes P law text = ⊎_elim whole cut (cases_lt (length text) enough)
  where
    whole : length text < enough → P (take enough text) ↔ P text
    whole h = let e : take enough text ≡ text = take_all enough text (omega arith) in (subst P e, subst P (sym e))

    cut : enough ≤ length text → P (take enough text) ↔ P text
    cut h =
        let p = take enough text in
        let long = length-take-le enough text h in
        let front = append-nil p in
        let all = take-append-drop enough text in (
          λ x. subst P all (law p [] (drop enough text) (omega arith) (subst P (sym front) x)),
          λ x. subst P front (law p (drop enough text) [] (omega arith) (subst P (sym all) x)),
        )

pub script_cut : {S : Type 0} (m : Model S) → ScriptCut m
script_cut m k text r k' s = first-bytes (λ t. DroveScript m k t r k' s) (λ p q q' h. drove p q q' h) text

pub file_cut : FileCut
file_cut work text before after r = first-bytes (λ t. Filed work t before after r) (λ p q q' h. filed p q q' h work before after r) text
