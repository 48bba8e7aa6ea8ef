-- From the values to the answer and the bytes.
use Rattle.std.proofs.Common.{◌≡◌, ℕ, zero, suc, ◌+◌, ◌<◌, ◌≤◌, Bool, true, false, cond, List, [], ◌∷◌, ◌++◌, map, length, replicate, get_or, take, drop, set, is_some, None, Ok, Err, Option, sym, refl, ap, ◌∙◌, ⊎_elim, append_assoc, append-nil, arith}
use Rattle.std.proofs.lemmas.List.{drop_all, drop_more, set_at, map_more, length-map, length-take-le, take_all}
use Rattle.std.proofs.lemmas.Bool.{cond-true, cond-false, and_from, and_parts, cases_eq, false_from_ne_true}
use Rattle.cnf.specs.Questions.{Question, ask, first_no}
use Rattle.cnf.specs.declared.clause.Literal.{Literal}
use Rattle.answers.specs.declared.verdicts.Verdict.TheVariants.{Satisfiable}
use Rattle.answers.specs.declared.refusals.Refusal.TheVariants.{Missing}
use Rattle.answers.specs.Values.{value, given, complete, bit, bytes}
use Rattle.answers.specs.Answer.{or_empty, value_asks, model_asks}

-- where no variable has a value yet
pub none_given : (n m k : ℕ) → get_or (take n (replicate {A = Option Bool} m None)) k None ≡ None
none_given zero m k = refl
none_given (suc n) zero k = refl
none_given (suc n) (suc m) zero = refl
none_given (suc n) (suc m) (suc k) = none_given n m k

-- one byte more
pub put : (vs : List (Option Bool)) (old : List ℕ) (i b : ℕ) (area : List ℕ) → area ≡ map bit (take i vs) ++ drop i old → i < length vs → i < length old → b ≡ bit (get_or vs i None) → set area i b ≡ map bit (take (i + 1) vs) ++ drop (i + 1) old
put vs old i b area e p q h =
    let n : length (map bit (take i vs)) ≡ i = length-map (take i vs) bit ∙ length-take-le i vs (omega arith) in
    ap (λ l. set l i b) (e ∙ ap (λ l. map bit (take i vs) ++ l) (drop_more old i 0 q))
    ∙ set_at (map bit (take i vs)) (get_or old i 0) (drop (i + 1) old) b i n
    ∙ ap (λ y. map bit (take i vs) ++ y ∷ drop (i + 1) old) h
    ∙ sym (append_assoc (map bit (take i vs)) (bit (get_or vs i None) ∷ []) (drop (i + 1) old))
    ∙ ap (λ l. l ++ drop (i + 1) old) (sym (map_more bit vs i None p))

-- some questions that are answered by yes, and then further ones
so_far_yes : {X Y E : Type 0} (qs rs : List (Question E)) (x : X) (y z : Y) → Ok z ≡ first_no qs y → first_no (qs ++ rs) x ≡ first_no rs x
so_far_yes [] rs x y z h = refl
so_far_yes {X} {Y} {E} (q ∷ qs) rs x y z h = at q.yes (so_far_yes qs rs x y z) h
  where
    at : (b : Bool) → (Ok z ≡ first_no qs y → first_no (qs ++ rs) x ≡ first_no rs x) → Ok z ≡ cond b (first_no qs y) (Err q.refusal) → cond b (first_no (qs ++ rs) x) (Err q.refusal) ≡ first_no rs x
    at true k h = k h
    at false k h = cc

-- the values of literals to which questions 46 and 47 are answered by yes
module _ (v m : ℕ) (vs : List (Option Bool)) (o : Option (List Literal)) (sized : length vs ≡ v) (size : length vs ≡ m) (u : Unit {0}) (yes : Ok u ≡ first_no (value_asks m o) (tt {0})) (valued : (k : ℕ) → k < m → get_or vs k None ≡ value (or_empty o) (k + 1)) where
  at_next : (k : ℕ) → k < v → get_or vs k None ≡ value (or_empty o) (suc k)
  at_next k l = valued k (omega (arith, sized, size)) ∙ ap (value (or_empty o)) (let e : k + 1 ≡ suc k = omega arith in e)

  complete-upto : (n : ℕ) → n ≤ v → ((k : ℕ) → k < length vs → is_some (get_or vs k None) ≡ true) → complete n (or_empty o) ≡ true
  complete-upto zero l all = refl
  complete-upto (suc n) l all = and_from (given (or_empty o) (suc n)) (complete n (or_empty o)) (sym (ap is_some (at_next n (omega arith))) ∙ all n (omega (arith, sized))) (complete-upto n (omega arith) all)

  each_given : (n k : ℕ) → complete n (or_empty o) ≡ true → n ≤ v → k < n → is_some (get_or vs k None) ≡ true
  each_given zero k t l m = absurd (omega arith)
  each_given (suc n) k t l m =
      let p = and_parts (given (or_empty o) (suc n)) (complete n (or_empty o)) t in
      ⊎_elim
      (λ z. ap (λ j. is_some (get_or vs j None)) z ∙ ap is_some (at_next n (omega arith)) ∙ p.0)
      (λ z. each_given n k p.1 (omega arith) (omega (arith, z)))
      (cases_eq k n)

  bytes-upto : (n : ℕ) → n ≤ v → map bit (take n vs) ≡ bytes n (or_empty o)
  bytes-upto zero l = refl
  bytes-upto (suc n) l =
      let e : suc n ≡ n + 1 = omega arith in
      let p : n < length vs = omega (arith, sized) in
      ap (λ j. map bit (take j vs)) e ∙ map_more bit vs n None p
      ∙ ap (λ o. map bit (take n vs) ++ bit o ∷ []) (at_next n (omega arith))
      ∙ ap (λ b. b ++ bit (value (or_empty o) (suc n)) ∷ []) (bytes-upto n (omega arith))

  pub filled : (before : List ℕ) → length before ≡ v → map bit vs ≡ bytes v (or_empty o) ++ drop v before
  filled before e =
      ap (map bit) (sym (take_all v vs (omega (arith, sized)))) ∙ bytes-upto v (omega arith)
      ∙ sym (ap (λ l. bytes v (or_empty o) ++ l) (drop_all v before (omega (arith, e))) ∙ append-nil (bytes v (or_empty o)))

  asked : first_no (model_asks v Satisfiable o) Satisfiable ≡ cond (complete v (or_empty o)) (Ok Satisfiable) (Err Missing)
  asked =
      ap (λ n. first_no (value_asks n o ++ ask (complete v (or_empty o)) Missing ∷ []) Satisfiable) (sym sized ∙ size)
      ∙ so_far_yes (value_asks m o) (ask (complete v (or_empty o)) Missing ∷ []) Satisfiable (tt {0}) u yes

  pub values_given : ((k : ℕ) → k < length vs → is_some (get_or vs k None) ≡ true) → Ok Satisfiable ≡ first_no (model_asks v Satisfiable o) Satisfiable
  values_given all = sym (asked ∙ cond-true (complete v (or_empty o)) (Ok Satisfiable) (Err Missing) (complete-upto v (omega arith) all))

  pub value_missing : (((k : ℕ) → k < length vs → is_some (get_or vs k None) ≡ true) → ⊥) → Err Missing ≡ first_no (model_asks v Satisfiable o) Satisfiable
  value_missing none = sym (asked ∙ cond-false (complete v (or_empty o)) (Ok Satisfiable) (Err Missing) (false_from_ne_true (complete v (or_empty o)) (λ t. none (λ k l. each_given v k t (omega arith) (omega (arith, sized))))))
