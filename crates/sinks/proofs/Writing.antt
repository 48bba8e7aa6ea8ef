-- What one more line does to a writer's area.
use Rattle.std.proofs.Common.{◌≡◌, ℕ, ◌+◌, ◌≤◌, Bool, true, false, ◌&&◌, List, [], ◌∷◌, ◌++◌, length, take, Some, None, Ok, Option, sym, refl, ap, ◌∙◌, arith}
use Rattle.std.proofs.lemmas.List.{length_push}
use Rattle.std.proofs.lemmas.Bool.{and_parts, and_from, eq-eqb, eqb-true, false≢true}
use Rattle.cnf.specs.Clauses.{Assignment, Clause, Clauses, sat, sat_all, in_range, all_in_range}
use Rattle.cnf.specs.Refusals.{verdict}
use Rattle.sinks.specs.Lines.{line, over, read, all_true, has_clauses, writer_cells, Written}
use Rattle.cnf.proofs.Accepting.{accepted}
use Rattle.sinks.proofs.Over.{take-over, length_over, line-length, literals-length}
use Rattle.sinks.proofs.Reading.{joined_push, read-lines, lines_exact}

and_true : (b : Bool) → b ≡ (b && true)
and_true true = refl
and_true false = refl

and_assoc : (a b c : Bool) → ((a && b) && c) ≡ (a && (b && c))
and_assoc true b c = refl
and_assoc false b c = refl

sat_all_push : (α : Assignment) (cs : Clauses) (c : Clause) → sat_all α (cs ++ (c ∷ [])) ≡ (sat_all α cs && sat α c)
sat_all_push α [] c = sym (and_true (sat α c))
sat_all_push α (d ∷ ds) c = ap (λ b. sat α d && b) (sat_all_push α ds c) ∙ sym (and_assoc (sat α d) (sat_all α ds) (sat α c))

all_in_range_push : (h : ℕ) (cs : Clauses) (c : Clause) → all_in_range h cs ≡ true → in_range h c ≡ true → all_in_range h (cs ++ (c ∷ [])) ≡ true
all_in_range_push h [] c e w = and_from (in_range h c) true w refl
all_in_range_push h (d ∷ ds) c e w =
    let both = and_parts (in_range h d) (all_in_range h ds) e in
    and_from (in_range h d) _ both.0 (all_in_range_push h ds c both.1 w)

-- the clauses that a text of whole lines holds
pub record Text (text : List ℕ) (n : ℕ) : Type 0 where
  pub cs : Clauses
  pub held : read text ≡ Some cs
  pub count : length cs ≡ n

text_of : (text : List ℕ) (n : ℕ) → has_clauses n (read text) ≡ true → Text text n
text_of text n e = found (read text) refl e
  where
    found : (o : Option Clauses) → read text ≡ o → has_clauses n o ≡ true → Text text n
    found None f g = absurd (false≢true g)
    found (Some cs) f g = record { cs = cs; held = f; count = eqb-true (length cs) n g }

-- a text of lines with one line more
read_next : (text : List ℕ) (cs : Clauses) (c : Clause) → read text ≡ Some cs → in_range 9999 c ≡ true → read (text ++ line c) ≡ Some (cs ++ (c ∷ []))
read_next text cs c e ok =
    let (is, ranged) = (lines_exact text cs).0 e in
    ap (λ t. read (t ++ line c)) is ∙ ap read (sym (joined_push line cs c)) ∙ read-lines (cs ++ (c ∷ [])) (all_in_range_push 9999 cs c ranged ok)

module _ (s s₁ : List ℕ) (used used₁ taken : ℕ) (c : Clause) (old : Written s used taken) (ok : in_range 9999 c ≡ true) (e : s₁ ≡ over s used (line c)) (e₁ : used₁ ≡ used + length (line c)) where
  text_next : take used₁ s₁ ≡ take used s ++ line c
  text_next = ap (take used₁) e ∙ take-over s used (line c) old.0 used₁ e₁

  read-after : (t : Text (take used s) taken) → read (take used₁ s₁) ≡ Some (t.cs ++ (c ∷ []))
  read-after t = ap read text_next ∙ read_next (take used s) t.cs c t.held ok

  pub written_next : used₁ ≤ length s → used₁ ≤ 16777216 → Written s₁ used₁ (taken + 1)
  written_next fits few =
      let t = text_of (take used s) taken old.3 in
      let long : length s₁ ≡ length s = ap length e ∙ length_over s used (line c) old.0 (omega arith) in
      let n : length (t.cs ++ (c ∷ [])) ≡ taken + 1 = length_push t.cs c ∙ ap (λ m. m + 1) t.count in
      (omega arith, few, omega (arith, line-length c), ap (has_clauses (taken + 1)) (read-after t) ∙ eq-eqb _ _ n)

  pub inside_next : (α : Assignment) → all_true α (read (take used₁ s₁)) ≡ (all_true α (read (take used s)) && sat α c)
  inside_next α =
      let t = text_of (take used s) taken old.3 in
      ap (all_true α) (read-after t) ∙ sat_all_push α t.cs c ∙ ap (λ o. all_true α o && sat α c) (sym t.held)

-- what the writer needs of a clause that it does not refuse
pub record Roomy (len used : ℕ) (c : Clause) : Type 0 where
  pub held : used + length (line c) ≤ len
  pub few : used + length (line c) ≤ 16777216
  pub ranged : in_range 9999 c ≡ true
  pub left : writer_cells len used ≤ writer_cells len (used + length (line c)) + (length c + 1)

pub roomy : (len used : ℕ) (c : Clause) → verdict 40 9999 (writer_cells len used) c ≡ Ok tt → Roomy len used c
roomy len used c v =
    let a = accepted 40 9999 (writer_cells len used) c v in
    let l = line-length c in
    let m = literals-length c a.ranged in
    record { held = omega arith; few = omega arith; ranged = a.ranged; left = omega arith }
