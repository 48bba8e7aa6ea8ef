-- One call more of a list of exchanges.
use Rattle.std.proofs.Common.{◌≡◌, ℕ, suc, ◌+◌, ◌<◌, ◌≤◌, List, [], ◌∷◌, ◌++◌, length, get_or, take, drop, set, Some, Ok, Err, sym, refl, ap, ◌∙◌, subst, append_assoc, arith}
use lib.ListN.{length-map}
use Rattle.std.proofs.lemmas.List.{drop_more, take_more, get_or_at, set_at, map_push, length_push, length-take-le, take_all, drop_all, append-nil}
use Rattle.cnf.specs.Sinks.{Model}
use Rattle.calls.specs.declared.Call.{Call}
use Rattle.job.specs.declared.call.Exchange.{Exchange}
use Rattle.job.specs.declared.job.Job.{Job}
use Rattle.job.specs.Calls.{State, Answer, fresh, list, after}
use Rattle.job.specs.Feeding.{TakenAll, taken_none}
use Rattle.job.specs.Runs.{then_knows, handed, Move, Ran, none, more}
use Rattle.job.specs.Steps.{known, Step, Came}
use Rattle.job.specs.Drives.{calls_of, answered, Performed, Drove}
use Rattle.job.proofs.RunLaws.{promised}

came_knows : {S : Type 0} (m : Model S) (j k : Job S) (c : Call) (a : Answer) → Came m j (list (known j) c) (after (known j) c) a k → known k ≡ then_knows (known j) c a
came_knows m j k c (Ok r) h = h.0
came_knows m j k c (Err e) h = ap known h

came_taken : {S : Type 0} (m : Model S) (j k : Job S) (c : Call) (a : Answer) → Came m j (list (known j) c) (after (known j) c) a k → TakenAll m (handed (known j) c a) j.sink k.sink
came_taken m j k c (Ok r) h = h.1
came_taken m j k c (Err e) h = subst (λ i. TakenAll m [] j.sink i.sink) (sym h) (taken_none m j.sink)

pub move_of : {S : Type 0} (m : Model S) (j k : Job S) (c : Call) (a : Answer) → Step m j c a k → Move m j.sink (known j) c a k.sink (known k)
move_of m j k c a s = record { answer = s.answer; knows = came_knows m j k c a s.came; taken = came_taken m j k c a s.came }

pub ran_push : {S : Type 0} (m : Model S) {k k' k'' : S} {s s' s'' : State} {cs : List Call} {rs : List Answer} (c : Call) (a : Answer) → Ran m k s cs rs k' s' → Move m k' s' c a k'' s'' → Ran m k s (cs ++ (c ∷ [])) (rs ++ (a ∷ [])) k'' s''
ran_push m c a none move = more move none
ran_push m c a (more first rest) move = more first (ran_push m c a rest move)

answered-length : (cs : List Call) (rs : List Answer) → length cs ≡ length rs → length (answered cs rs) ≡ length rs
answered-length [] rs e = e
answered-length (c ∷ cs) [] e = refl
answered-length (c ∷ cs) (r ∷ rs) e = ap suc (answered-length cs rs (omega arith))

answered_push : (cs : List Call) (rs : List Answer) (c : Call) (r : Answer) → length cs ≡ length rs → answered (cs ++ (c ∷ [])) (rs ++ (r ∷ [])) ≡ answered cs rs ++ (record { call = c; answer = Some r } ∷ [])
answered_push [] [] c r e = refl
answered_push [] (q ∷ rs) c r e = let z : ⊥ = omega arith in absurd z
answered_push (d ∷ cs) [] c r e = let z : ⊥ = omega arith in absurd z
answered_push (d ∷ cs) (q ∷ rs) c r e = ap (λ xs. record { call = d; answer = Some q } ∷ xs) (answered_push cs rs c r (omega arith))

-- the exchanges xs, of which the first i are performed
abbrev pub SoFar : {S : Type 0} → Model S → Job S → List Exchange → ℕ → List Exchange → Job S → Type 0
SoFar m j xs i ys k =
    (rs : List Answer)
    × (length rs ≡ i)
    × (ys ≡ answered (calls_of (take i xs)) rs ++ drop i xs)
    × Ran m j.sink (known j) (calls_of (take i xs)) rs k.sink (known k)

module _ {S : Type 0} (m : Model S) (j : Job S) (xs : List Exchange) where
  pub none_yet : SoFar m j xs 0 xs j
  none_yet = ([], refl, refl, none)

  module _ (i : ℕ) (ys : List Exchange) (k : Job S) (d : Exchange) (lt : i < length xs) (old : SoFar m j xs i ys k) where
    calls_length : length (calls_of (take i xs)) ≡ length old.0
    calls_length = length-map (take i xs) (λ x. x.call) ∙ length-take-le i xs (omega arith) ∙ sym old.1

    front : length (answered (calls_of (take i xs)) old.0) ≡ i
    front = answered-length (calls_of (take i xs)) old.0 calls_length ∙ old.1

    here : ys ≡ answered (calls_of (take i xs)) old.0 ++ (get_or xs i d ∷ drop (i + 1) xs)
    here = old.2 ∙ ap (λ zs. answered (calls_of (take i xs)) old.0 ++ zs) (drop_more xs i d lt)

    same_call : get_or ys i d ≡ get_or xs i d
    same_call = ap (λ zs. get_or zs i d) here ∙ get_or_at (answered (calls_of (take i xs)) old.0) (get_or xs i d) (drop (i + 1) xs) d i front

    calls_more : calls_of (take (i + 1) xs) ≡ calls_of (take i xs) ++ ((get_or xs i d).call ∷ [])
    calls_more = ap calls_of (take_more xs i d lt) ∙ map_push (λ x. x.call) (take i xs) (get_or xs i d)

    pub one_more : (a : Answer) (k' : Job S) → Step m k (get_or ys i d).call a k' → SoFar m j xs (i + 1) (set ys i (record { call = (get_or ys i d).call; answer = Some a })) k'
    one_more a k' step =
        let c = (get_or xs i d).call in
        let e : (get_or ys i d).call ≡ (get_or xs i d).call = ap (λ x. x.call) same_call in
        let moved = subst (λ c. Move m k.sink (known k) c a k'.sink (known k')) e (move_of m k k' (get_or ys i d).call a step) in (
          old.0 ++ (a ∷ []),
          length_push old.0 a ∙ ap (λ n. n + 1) old.1,
          ap (λ zs. set zs i (record { call = (get_or ys i d).call; answer = Some a })) here
              ∙ set_at (answered (calls_of (take i xs)) old.0) (get_or xs i d) (drop (i + 1) xs) (record { call = (get_or ys i d).call; answer = Some a }) i front
              ∙ ap (λ c. answered (calls_of (take i xs)) old.0 ++ (record { call = c; answer = Some a } ∷ drop (i + 1) xs)) e
              ∙ sym (append_assoc (answered (calls_of (take i xs)) old.0) (record { call = (get_or xs i d).call; answer = Some a } ∷ []) (drop (i + 1) xs))
              ∙ ap (λ zs. zs ++ drop (i + 1) xs) (sym (ap (λ cs. answered cs (old.0 ++ (a ∷ []))) calls_more ∙ answered_push (calls_of (take i xs)) old.0 (get_or xs i d).call a calls_length)),
          subst (λ cs. Ran m j.sink (known j) cs (old.0 ++ (a ∷ [])) k'.sink (known k')) (sym calls_more) (ran_push m (get_or xs i d).call a old.3 moved),
        )

  pub all_done : (i : ℕ) (ys : List Exchange) (k : Job S) → length xs ≤ i → SoFar m j xs i ys k → Performed m j xs ys k
  all_done i ys k h old = record {
    answers = old.0;
    told = old.2 ∙ ap (λ zs. answered (calls_of (take i xs)) old.0 ++ zs) (drop_all i xs h) ∙ append-nil _ ∙ ap (λ zs. answered (calls_of zs) old.0) (take_all i xs h);
    ran = subst (λ zs. Ran m j.sink (known j) (calls_of zs) old.0 k.sink (known k)) (take_all i xs h) old.3;
  }

-- from the making of the job
pub drove : {S : Type 0} (m : Model S) (s : S) (j k : Job S) (xs ys : List Exchange) → j.sink ≡ s → known j ≡ fresh → Performed m j xs ys k → Drove m s xs ys k.sink (known k)
drove m s j k xs ys e f p = record {
  answers = p.answers;
  told = p.told;
  promise = promised m s k.sink (calls_of xs) p.answers (known k)
      (subst (λ u. Ran m u fresh (calls_of xs) p.answers k.sink (known k)) e
      (subst (λ z. Ran m j.sink z (calls_of xs) p.answers k.sink (known k)) f p.ran));
}
