-- An assignment belongs to one run, as far as the signals with a row go, and those fix the truth of every row.
use Rattle.std.proofs.Common.{◌≡◌, ℕ, suc, ◌+◌, ◌-◌, ◌<◌, ◌≤◌, true, false, cond, ◌↔◌, List, [], ◌∷◌, reverse, length, sym, refl, ap, ◌∙◌, inl, inr, ⊎_elim, arith}
use Rattle.std.proofs.lemmas.Bool.{eq-eqb, eqb-true, or_left, or_right, or_cases, cases_Bool, cond-true, cond-false, both_ways, false≢true}
use Rattle.std.proofs.lemmas.List.{length-reverse}
use Rattle.cnf.specs.Clauses.{Assignment, truth}
use Rattle.mtl.specs.declared.row.Row.{Row}
use Rattle.mtl.specs.declared.row.Row.TheVariants.{Signal, Not, And, Or, Next, Until, Release, After, Within, Throughout, Previous, WeakPrevious, Since, Trigger, Ago, Lately, Steadily}
use Rattle.mtl.specs.Formula.{Formula, Word, Sat}
use Rattle.mtl.specs.Rows.{operands}
use Rattle.mtl.specs.Lists.{block, top, value}
use Rattle.mtl.specs.Runs.{Run, endless_word, lasso, Marks, word, form, formula, Belongs}
use Rattle.mtl.specs.Tables.{is_signal, has_signal, lawful}
use Rattle.mtl.specs.Statements.{TrueAt, BelongsTo, Agree, OneRun}
use Rattle.mtl.proofs.Lasso.{lasso_le}
use Rattle.mtl.proofs.Tables.{Below, Ordered, ordered, newest, has_signal-reverse}
use Rattle.mtl.proofs.Exact.{read, reads, marks_of}

one_start : (k l m : ℕ) (α : Assignment) → l ≤ k → Marks k α l → Marks k α m → m ≡ l
one_start k l m α h p q = eqb-true m l (sym (q l h).0 ∙ (p l h).0 ∙ eq-eqb l l refl)

-- the letters of the run are those that the assignment shows
letters_read : (k l : ℕ) (α : Assignment) (letters : Word) → l ≤ k → (rs : List Row) → Belongs k l (word k l letters) α rs → (i a : ℕ) → i ≤ k → has_signal a rs ≡ true → letters i a ≡ read k α rs i a
letters_read k l α letters in' [] b i a c s = absurd (false≢true s)
letters_read k l α letters in' (r ∷ rs) b i a c s = ⊎_elim here (there (λ u. letters_read k l α letters in' rs b.0 i a c u)) (cases_Bool (is_signal a r))
  where
    here : is_signal a r ≡ true → letters i a ≡ read k α (r ∷ rs) i a
    here t =
        reads k l in' α (marks_of k l (word k l letters) α rs b.0) letters (value k rs) (block (top k rs)) (block (top k rs + suc k)) (formula rs) r b.1 a t i c
        ∙ sym (cond-true (is_signal a r) (truth α (block (top k rs) i)) (read k α rs i a) t)

    there : (has_signal a rs ≡ true → letters i a ≡ read k α rs i a) → is_signal a r ≡ false → letters i a ≡ read k α (r ∷ rs) i a
    there later t =
        later (⊎_elim (λ u. absurd (both_ways (is_signal a r) t u)) (λ u. u) (or_cases (is_signal a r) (has_signal a rs) s))
        ∙ sym (cond-false (is_signal a r) (truth α (block (top k rs) i)) (read k α rs i a) t)

-- a row's truth goes over from w to u if its operands' truth and its signal do
moved : (w u : Word) (f : ℕ → Formula) (n : ℕ) → ((m : ℕ) → m < n → (i : ℕ) → Sat w (f m) i ↔ Sat u (f m) i) → (r : Row) → Below n (operands r) → ((a : ℕ) → is_signal a r ≡ true → (i : ℕ) → w i a ≡ u i a) → (i : ℕ) → Sat w (form f r) i → Sat u (form f r) i
moved w u f n h (Signal a) o s i p = sym (s a (eq-eqb a a refl) i) ∙ p
moved w u f n h (Not a) o s i p = λ q. p ((h a o.0 i).1 q)
moved w u f n h (And a b) o s i p = ((h a o.0 i).0 p.0, (h b o.1.0 i).0 p.1)
moved w u f n h (Or a b) o s i p = ⊎_elim (λ q. inl ((h a o.0 i).0 q)) (λ q. inr ((h b o.1.0 i).0 q)) p
moved w u f n h (Next a) o s i p = (h a o.0 (suc i)).0 p
moved w u f n h (Until a b) o s i p = (p.0, p.1, (h b o.1.0 p.0).0 p.2, λ m c d. (h a o.0 m).0 (p.3 m c d))
moved w u f n h (Release a b) o s i p = λ j c. ⊎_elim (λ q. inl ((h b o.1.0 j).0 q)) (λ q. inr (q.0, q.1, q.2, (h a o.0 q.0).0 q.3)) (p j c)
moved w u f n h (After a t) o s i p = (h a o.0 (i + t)).0 p
moved w u f n h (Within a t) o s i p = (p.0, p.1, p.2, (h a o.0 p.0).0 p.3)
moved w u f n h (Throughout a t) o s i p = λ j c d. (h a o.0 j).0 (p j c d)
moved w u f n h (Previous a) o s i p = (p.0, (h a o.0 (i - 1)).0 p.1)
moved w u f n h (WeakPrevious a) o s i p = ⊎_elim inl (λ q. inr ((h a o.0 (i - 1)).0 q)) p
moved w u f n h (Since a b) o s i p = (p.0, p.1, (h b o.1.0 p.0).0 p.2, λ m c d. (h a o.0 m).0 (p.3 m c d))
moved w u f n h (Trigger a b) o s i p = λ j c. ⊎_elim (λ q. inl ((h b o.1.0 j).0 q)) (λ q. inr (q.0, q.1, q.2, (h a o.0 q.0).0 q.3)) (p j c)
moved w u f n h (Ago a t) o s i p = (p.0, (h a o.0 (i - t)).0 p.1)
moved w u f n h (Lately a t) o s i p = (p.0, p.1, p.2, (h a o.0 p.0).0 p.3)
moved w u f n h (Steadily a t) o s i p = λ j c d. (h a o.0 j).0 (p j c d)

-- words that agree on the signals with a row have the same truth of every row
same_truth : (w u : Word) (rs : List Row) → Ordered rs → ((a : ℕ) → has_signal a rs ≡ true → (i : ℕ) → w i a ≡ u i a) → (n : ℕ) → n < length rs → (i : ℕ) → Sat w (formula rs n) i ↔ Sat u (formula rs n) i
same_truth w u [] o s n c i = absurd (omega arith)
same_truth w u (r ∷ rs) o s n c i =
    let old : (m : ℕ) → m < length rs → (j : ℕ) → Sat w (formula rs m) j ↔ Sat u (formula rs m) j = same_truth w u rs o.0 (λ a t. s a (or_right (is_signal a r) (has_signal a rs) t)) in
    let new : (a : ℕ) → is_signal a r ≡ true → (j : ℕ) → w j a ≡ u j a = λ a t. s a (or_left (is_signal a r) (has_signal a rs) t) in
    newest (λ b. Sat w (cond b (form (formula rs) r) (formula rs n)) i ↔ Sat u (cond b (form (formula rs) r) (formula rs n)) i) n (length rs) c
    (λ e. (
      moved w u (formula rs) (length rs) old r o.1 new i,
      moved u w (formula rs) (length rs) (λ m d j. ((old m d j).1, (old m d j).0)) r o.1 (λ a t j. sym (new a t j)) i,
    ))
    (λ d. old n d i)

pub one_run : OneRun
one_run = record { once = once; alike = alike }
  where
    once : (k : ℕ) (rows : List Row) (α : Assignment) (p q : Run k) → BelongsTo α p rows → BelongsTo α q rows → Agree k rows p q
    once k rows α p q b c = record {
      loop = one_start k q.loop p.loop α q.bounded (marks_of k q.loop (endless_word q) α (reverse rows) c) (marks_of k p.loop (endless_word p) α (reverse rows) b);
      letters = λ i a h s.
          letters_read k p.loop α p.letters p.bounded (reverse rows) b i a h (has_signal-reverse a rows ∙ s)
          ∙ sym (letters_read k q.loop α q.letters q.bounded (reverse rows) c i a h (has_signal-reverse a rows ∙ s));
    }

    alike : (k : ℕ) (rows : List Row) (p q : Run k) → lawful rows ≡ true → Agree k rows p q → (n : ℕ) → n < length rows → (i : ℕ) → TrueAt p rows n i ↔ TrueAt q rows n i
    alike k rows p q o g n c =
        same_truth (endless_word p) (endless_word q) (reverse rows) (ordered rows o)
        (λ a s i. g.letters (lasso k p.loop i) a (lasso_le k p.loop p.bounded i) (sym (has_signal-reverse a rows) ∙ s) ∙ ap (λ l. q.letters (lasso k l i) a) g.loop)
        n (let e = length-reverse rows in omega arith)
