-- The answers of fill, and what is known once its questions are answered yes.
use Rattle.std.proofs.Common.{◌≡◌, ℕ, zero, suc, ◌+◌, ◌-◌, ◌*◌, ◌<◌, ◌≤◌, Bool, true, false, not, ◌&&◌, ◌||◌, cond, leb, List, reverse, length, Ok, Err, Decides, sym, refl, ap, subst, arith}
use Rattle.std.proofs.lemmas.Bool.{and_parts, leb-true, eqb-true, false≢true}
use Rattle.std.proofs.lemmas.Bool.Decides.{Decides-like, Decides-below_and}
use Rattle.mtl.specs.declared.row.Row.{Row}
use Rattle.mtl.specs.Lists.{top}
use Rattle.mtl.specs.Tables.{has_signal, lawful}
use Rattle.mtl.proofs.Tables.{top_least}
use Rattle.evaluate.specs.Letters.{has}
use Rattle.evaluate.specs.Truths.{Evaluated}
use Rattle.job.specs.Calls.{State, highest}
use Rattle.job.proofs.Accepted.{all_yes}
use Rattle.witness.specs.declared.refusal.Refusal.{Refusal}
use Rattle.witness.specs.Fills.{SignalsKnown, fill_asks, early_answer, Answer, SettledAnswer, Then, FillAnswer, Filled}
use Rattle.witness.specs.Areas.{SameFrom, Bits}
use Rattle.witness.specs.Blocks.{Laid}
use Rattle.witness.proofs.Belonging.{run_belongs}

pub highest_begun : (s : State) → s.begun ≡ true → highest s ≡ top s.bound (reverse s.rows) - 1
highest_begun s b = ap (λ x. cond x (top s.bound (reverse s.rows) - 1) 0) b

pub highest_least : (s : State) → s.begun ≡ true → 2 * s.bound + 2 ≤ highest s
highest_least s b = let e = highest_begun s b in let t = top_least s.bound (reverse s.rows) in omega arith

-- whether the signals are known is a yes or a no
below : (ℕ → Bool) → ℕ → Bool
below p zero = true
below p (suc n) = p n && below p n

below_decides : (p : ℕ → Bool) (P : ℕ → Type 0) → ((k : ℕ) → Decides (p k) (P k)) → (n : ℕ) → Decides (below p n) ((k : ℕ) → k < n → P k)
unfolding below
below_decides p P d n = Decides-below_and p P (below p) d refl (λ _. refl) n

follows : (x y : Bool) → Decides (not x || y) (x ≡ true → y ≡ true)
follows true true = ((λ e _. e), λ _. refl)
follows true false = ((λ e _. e), λ f. f refl)
follows false y = ((λ _ e. absurd (false≢true e)), λ _. refl)

pub decided : (rows : List Row) (letters : List ℕ) → (known : Bool) × Decides known (SignalsKnown rows letters)
decided rows letters =
    let each = λ (i : ℕ). below_decides (λ a. not (has letters i a) || has_signal a rows) (λ a. has letters i a ≡ true → has_signal a rows ≡ true) (λ a. follows (has letters i a) (has_signal a rows)) 32 in
    let all = below_decides (λ i. below (λ a. not (has letters i a) || has_signal a rows) 32) (λ i. (a : ℕ) → a < 32 → has letters i a ≡ true → has_signal a rows ≡ true) each (length letters) in
    (_, Decides-like _ (λ f i a b c. f i b a c) (λ f i b a c. f i a b c) all)

module _ (s : State) (l : ℕ) (letters : List ℕ) (known : Bool) (area work : ℕ) where
  pub record Passed : Type 0 where
    pub begun : s.begun ≡ true
    pub as_many : length letters ≡ s.bound + 1
    pub inside : l ≤ s.bound
    pub all_known : known ≡ true
    pub roomy : highest s ≤ area
    pub work_roomy : length s.rows * (s.bound + 1) ≤ work

  pub passed : Ok tt ≡ early_answer s l (length letters) known area work → Passed
  passed e =
      let y = (all_yes (fill_asks s l (length letters) known area work) tt tt (sym e)).1 in
      let room = and_parts (leb (highest s) area) (leb (length s.rows * (s.bound + 1)) work) y.1.1.1.1.0 in
      record {
        begun = y.0;
        as_many = eqb-true (length letters) (s.bound + 1) y.1.0;
        inside = leb-true l s.bound y.1.1.0;
        all_known = y.1.1.1.0;
        roomy = leb-true (highest s) area room.0;
        work_roomy = leb-true (length s.rows * (s.bound + 1)) work room.1;
      }

  -- the answer to the earlier questions, or to the last one
  pub refused : Decides known (SignalsKnown s.rows letters) → (e : Refusal) → Err e ≡ early_answer s l (length letters) known area work → FillAnswer s l letters area work (Err e)
  refused d e h = (known, d, subst (λ x. Then x (SettledAnswer s l letters) (Err e)) h refl)

  pub asked : Decides known (SignalsKnown s.rows letters) → Ok tt ≡ early_answer s l (length letters) known area work → (r : Answer) → SettledAnswer s l letters r → FillAnswer s l letters area work r
  asked d h r p = (known, d, subst (λ x. Then x (SettledAnswer s l letters) r) h p)

-- what the calls of fill come to, for a run and these rows
module _ (work before after : List ℕ) where
  pub record Done (k l : ℕ) (letters : List ℕ) (rows : List Row) : Type 0 where
    pub evaluated : Evaluated k l letters rows work
    pub laid : Laid k l work after (reverse rows)
    pub bits : Bits 0 (top k (reverse rows) - 1) after
    pub rest : SameFrom (top k (reverse rows) - 1) after before

  pub filled : (s : State) (l : ℕ) (letters : List ℕ) → s.begun ≡ true → l ≤ s.bound → lawful s.rows ≡ true → Done s.bound l letters s.rows → Filled s l letters before after
  filled s l letters b h law d = record {
    inside = h;
    belongs = run_belongs s.bound l h letters work after s.rows law d.evaluated.says d.laid;
    bits = rw (highest_begun s b) d.bits;
    rest = rw (highest_begun s b) d.rest;
  }

-- the run that is asked about is the one that is at hand
pub of_same : (P : ℕ → ℕ → List ℕ → List Row → Type 0) {k k' l l' : ℕ} {ls ls' : List ℕ} {rs rs' : List Row} → (k ≡ k') × (l ≡ l') × (ls ≡ ls') → rs ≡ rs' → P k l ls rs → P k' l' ls' rs'
of_same P {k} {k'} {l} {l'} {ls} {ls'} {rs} {rs'} e f p =
    subst (λ (r : List Row). P k' l' ls' r) f (subst (λ (x : List ℕ). P k' l' x rs) e.2 (subst (λ (n : ℕ). P k' n ls rs) e.1 (subst (λ (n : ℕ). P n l ls rs) e.0 p)))
