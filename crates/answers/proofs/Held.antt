-- Laws of the literals that values hold.
use Rattle.std.proofs.Common.{◌≡◌, ℕ, ◌+◌, ◌-◌, ◌<◌, ◌≤◌, Bool, true, false, cond, not, ◌&&◌, ◌||◌, eqb, leb, List, [], ◌∷◌, ◌++◌, length, get_or, set, is_some, Some, None, Ok, Option, Result, sym, refl, ap, ◌∙◌, subst, ⊎_elim, append_assoc, arith, length-set, get_or-set_other, get_or-set_same}
use Rattle.std.specs.Result.{result_and}
use Rattle.std.proofs.lemmas.Bool.{cond-true, cond-false, eq-eqb, ne_eqb, leb-true, and_parts, not-true, cases_eq, both_ways}
use Rattle.cnf.specs.declared.clause.Literal.{Literal}
use Rattle.cnf.specs.Clauses.{within}
use Rattle.answers.specs.declared.refusals.Refusal.{Refusal}
use Rattle.answers.specs.Reading.{front, join}
use Rattle.answers.specs.Values.{value, given, fresh}
use Rattle.answers.specs.Left.{Like, Takes}
use Rattle.answers.specs.Held.{sound_if, free, Holds}

-- a literal moves from what is left to what was given
pub regroup : (ms : List Literal) (x : Literal) (o : Option (List Literal)) → join (Some ms) (front (Some x) o) ≡ join (Some (ms ++ x ∷ [])) o
regroup ms x None = refl
regroup ms x (Some zs) = ap Some (sym (append_assoc ms (x ∷ []) zs))

-- a value that is given stands, and otherwise x may give it
abbrev or_else : Option Bool → Option Bool → Option Bool
or_else (Some b) o = Some b
or_else None o = o

keep : (o : Option Bool) → or_else o None ≡ o
keep (Some b) = refl
keep None = refl

value_push : (ms : List Literal) (x : Literal) (k : ℕ) → value (ms ++ x ∷ []) k ≡ or_else (value ms k) (cond (eqb x.variable k) (Some x.positive) None)
value_push [] x k = refl
value_push (m ∷ ms) x k = at (eqb m.variable k) (value_push ms x k)
  where
    at : (b : Bool) → value (ms ++ x ∷ []) k ≡ or_else (value ms k) (cond (eqb x.variable k) (Some x.positive) None) → cond b (Some m.positive) (value (ms ++ x ∷ []) k) ≡ or_else (cond b (Some m.positive) (value ms k)) (cond (eqb x.variable k) (Some x.positive) None)
    at true h = refl
    at false h = h

given_push : (ms : List Literal) (x : Literal) (k : ℕ) → given (ms ++ x ∷ []) k ≡ (given ms k || eqb x.variable k)
given_push ms x k = ap is_some (value_push ms x k) ∙ at (value ms k) (eqb x.variable k)
  where
    at : (o : Option Bool) (b : Bool) → is_some (or_else o (cond b (Some x.positive) None)) ≡ (is_some o || b)
    at (Some a) b = refl
    at None true = refl
    at None false = refl

given_head : (m : Literal) (ms : List Literal) (k : ℕ) → given (m ∷ ms) k ≡ (eqb m.variable k || given ms k)
given_head m ms k = at (eqb m.variable k)
  where
    at : (b : Bool) → is_some (cond b (Some m.positive) (value ms k)) ≡ (b || is_some (value ms k))
    at true = refl
    at false = refl

eqb_comm : (a b : ℕ) → eqb a b ≡ eqb b a
eqb_comm a b = ⊎_elim (λ e. eq-eqb a b e ∙ sym (eq-eqb b a (sym e))) (λ n. ne_eqb a b n ∙ sym (ne_eqb b a (λ e. n (sym e)))) (cases_eq a b)

swap : (a g e f b h : Bool) → ((a && not (g || e)) && (f && (b && not h))) ≡ (((a && not g) && f) && (b && not (e || h)))
swap false g e f b h = refl
swap true true e f b h = refl
swap true false false f b h = refl
swap true false true false b h = refl
swap true false true true false h = refl
swap true false true true true h = refl

pub fresh_push : (v : ℕ) (ms : List Literal) (x : Literal) → fresh v (ms ++ x ∷ []) ≡ (fresh v ms && (within v x && not (given ms x.variable)))
fresh_push v [] x = at (within v x)
  where
    at : (b : Bool) → ((b && true) && true) ≡ (true && (b && true))
    at true = refl
    at false = refl
fresh_push v (m ∷ ms) x =
    ap (λ g. (within v m && not g) && fresh v (ms ++ x ∷ [])) (given_push ms x m.variable ∙ ap (λ b. given ms m.variable || b) (eqb_comm x.variable m.variable))
    ∙ ap (λ f. (within v m && not (given ms m.variable || eqb m.variable x.variable)) && f) (fresh_push v ms x)
    ∙ swap (within v m) (given ms m.variable) (eqb m.variable x.variable) (fresh v ms) (within v x) (given ms x.variable)
    ∙ ap (λ g. fresh v (m ∷ ms) && (within v x && not g)) (sym (given_head m ms x.variable))

-- n is given, which is x, cut at 10,000
module _ (values : List (Option Bool)) (sound : Result (Unit {0}) Refusal) (ms : List Literal) (n x : Literal) (h : Holds values sound ms) (like : Like x n) (some : 0 < n.variable) (low : length values ≤ 2112) where
  same_within : within (length values) n ≡ true → x.variable ≡ n.variable
  same_within w =
      let p = and_parts (leb 1 n.variable) (leb n.variable (length values)) w in
      let top : n.variable ≤ length values = leb-true n.variable (length values) p.1 in
      omega (arith, like.1)

  not_within : within (length values) n ≡ false → within (length values) x ≡ false
  not_within w = at (within (length values) x) refl
    where
      at : (b : Bool) → within (length values) x ≡ b → b ≡ false
      at false e = refl
      at true e =
          let p = and_parts (leb 1 x.variable) (leb x.variable (length values)) e in
          let top : x.variable ≤ length values = leb-true x.variable (length values) p.1 in
          let same : n.variable ≡ x.variable = omega (arith, like.1) in
          absurd (both_ways (within (length values) n) w (ap (λ k. leb 1 k && leb k (length values)) same ∙ e))

  held : fresh (length values) ms ≡ true → within (length values) n ≡ true → get_or values (n.variable - 1) None ≡ value ms x.variable
  held f w =
      let p = and_parts (leb 1 n.variable) (leb n.variable (length values)) w in
      let top : n.variable ≤ length values = leb-true n.variable (length values) p.1 in
      let back : n.variable - 1 + 1 ≡ x.variable = omega (arith, same_within w) in
      h.valued f (n.variable - 1) (omega arith) ∙ ap (value ms) back

  fresh_given : fresh (length values) ms ≡ true → fresh (length values) (ms ++ x ∷ []) ≡ free values n
  fresh_given f = fresh_push (length values) ms x ∙ ap (λ b. b && (within (length values) x && not (given ms x.variable))) f ∙ at (within (length values) n) refl
    where
      at : (b : Bool) → within (length values) n ≡ b → (within (length values) x && not (given ms x.variable)) ≡ (within (length values) n && not (is_some (get_or values (n.variable - 1) None)))
      at true w = ap (λ k. (leb 1 k && leb k (length values)) && not (given ms x.variable)) (same_within w) ∙ ap (λ o. within (length values) n && not (is_some o)) (sym (held f w))
      at false w = ap (λ b. b && not (given ms x.variable)) (not_within w) ∙ sym (ap (λ b. b && not (is_some (get_or values (n.variable - 1) None))) w)

  judged : result_and sound (sound_if (free values n)) ≡ sound_if (fresh (length values) (ms ++ x ∷ []))
  judged = at (fresh (length values) ms) refl
    where
      at : (b : Bool) → fresh (length values) ms ≡ b → result_and sound (sound_if (free values n)) ≡ sound_if (fresh (length values) (ms ++ x ∷ []))
      at true f = ap (λ s. result_and s (sound_if (free values n))) (h.judged ∙ ap sound_if f) ∙ ap sound_if (sym (fresh_given f))
      at false f =
          ap (λ s. result_and s (sound_if (free values n))) (h.judged ∙ ap sound_if f)
          ∙ sym (ap sound_if (fresh_push (length values) ms x ∙ ap (λ b. b && (within (length values) x && not (given ms x.variable))) f))

  valued : fresh (length values) (ms ++ x ∷ []) ≡ true → (k : ℕ) → k < length values → get_or (set values (n.variable - 1) (Some n.positive)) k None ≡ value (ms ++ x ∷ []) (k + 1)
  valued e k l =
      let p = and_parts (fresh (length values) ms) (within (length values) x && not (given ms x.variable)) (sym (fresh_push (length values) ms x) ∙ e) in
      let q = and_parts (within (length values) n) (not (is_some (get_or values (n.variable - 1) None))) (sym (fresh_given p.0) ∙ e) in
      ⊎_elim (here p.0 q.0 (not-true (is_some (get_or values (n.variable - 1) None)) q.1)) (there p.0 q.0) (cases_eq k (n.variable - 1))
    where
      none : (o : Option Bool) → is_some o ≡ false → o ≡ None
      none (Some b) e = absurd (both_ways (is_some (Some b)) e refl)
      none None e = refl

      here : fresh (length values) ms ≡ true → within (length values) n ≡ true → is_some (get_or values (n.variable - 1) None) ≡ false → k ≡ n.variable - 1 → get_or (set values (n.variable - 1) (Some n.positive)) k None ≡ value (ms ++ x ∷ []) (k + 1)
      here f w g z =
          let same : k + 1 ≡ x.variable = omega (arith, z, same_within w) in
          let lt : n.variable - 1 < length values = omega arith in
          ap (λ j. get_or (set values (n.variable - 1) (Some n.positive)) j None) z
          ∙ get_or-set_same values (n.variable - 1) (Some n.positive) None lt
          ∙ ap Some like.0
          ∙ sym (ap (value (ms ++ x ∷ [])) same
          ∙ value_push ms x x.variable
          ∙ ap (λ o. or_else o (cond (eqb x.variable x.variable) (Some x.positive) None)) (sym (held f w) ∙ none (get_or values (n.variable - 1) None) g)
          ∙ cond-true (eqb x.variable x.variable) (Some x.positive) None (eq-eqb x.variable x.variable refl))

      there : fresh (length values) ms ≡ true → within (length values) n ≡ true → (k ≡ n.variable - 1 → ⊥) → get_or (set values (n.variable - 1) (Some n.positive)) k None ≡ value (ms ++ x ∷ []) (k + 1)
      there f w z =
          get_or-set_other values (n.variable - 1) k (Some n.positive) None z
          ∙ h.valued f k l
          ∙ sym (value_push ms x (k + 1)
          ∙ ap (or_else (value ms (k + 1))) (cond-false (eqb x.variable (k + 1)) (Some x.positive) None (ne_eqb x.variable (k + 1) (λ d. z (omega (arith, d, same_within w)))))
          ∙ keep (value ms (k + 1)))

  pub holds_given : Holds (set values (n.variable - 1) (Some n.positive)) (result_and sound (sound_if (free values n))) (ms ++ x ∷ [])
  holds_given =
      let long : length (set values (n.variable - 1) (Some n.positive)) ≡ length values = length-set values (n.variable - 1) (Some n.positive) in
      record {
        judged = judged ∙ ap (λ v. sound_if (fresh v (ms ++ x ∷ []))) (sym long);
        valued = λ e k l. valued (ap (λ v. fresh v (ms ++ x ∷ [])) (sym long) ∙ e) k (omega (arith, long));
      }

-- one literal more
pub turn : (values values' : List (Option Bool)) (sound sound' r : Result (Unit {0}) Refusal) (ms : List Literal) (n : Literal) (whole before after : Option (List Literal)) → Holds values sound ms → whole ≡ join (Some ms) before → Takes before (Ok (Some n)) after → 0 < n.variable → length values ≤ 2112 → r ≡ sound_if (free values n) → values' ≡ set values (n.variable - 1) (Some n.positive) → sound' ≡ result_and sound r → (ms' : List Literal) × Holds values' sound' ms' × (whole ≡ join (Some ms') after)
turn values values' sound sound' r ms n whole before after h e t some low a g s =
    let x = t.0 in (
      ms ++ x ∷ [],
      subst (λ vs. Holds vs sound' (ms ++ x ∷ [])) (sym g)
          (subst (λ q. Holds (set values (n.variable - 1) (Some n.positive)) q (ms ++ x ∷ [])) (sym (s ∙ ap (result_and sound) a))
          (holds_given values sound ms n x h t.1 some low)),
      e ∙ ap (join (Some ms)) t.2 ∙ regroup ms x after,
    )
