-- A sink that takes a list of clauses, one after another.
use Rattle.std.specs.Prelude.{◌≡◌, ℕ, ◌+◌, ◌≤◌, max, Bool, true, false, ◌&&◌, [], ◌∷◌, ◌++◌, length, refl}
use Rattle.std.proofs.Common.{sym, ap, subst, ◌∙◌, arith, length-append}
use Rattle.cnf.specs.Clauses.{Assignment, Clause, Clauses, sat, sat_all, cells_of, longest_of, in_range, all_in_range}
use Rattle.cnf.specs.Sinks.{Model}
use Rattle.mtl.specs.Statements.{none_empty, Takes}
use Rattle.encode.specs.Reception.{Reception}
use Rattle.job.specs.declared.feed.Feed.{Feed}

-- s comes to t by the clauses of the list, one after another
abbrev pub Chain : {S : Type 0} (takes : S → Clause → S → Type 0) → Clauses → S → S → Type 0
Chain {S} takes [] s t = t ≡ s
Chain {S} takes (c ∷ cs) s t = (u : S) × takes s c u × Chain takes cs u t

-- from s, taking the clauses cs one after another, the sink came to t
pub record TakenAll {S : Type 0} (m : Model S) (cs : Clauses) (s t : S) : Type 0 where
  pub meaning : (α : Assignment) → m.watched s α → m.inside t α ≡ (m.inside s α && sat_all (m.gives s α) cs)
  pub counted : m.count t ≡ m.count s + length cs
  pub room : m.cells s ≤ m.cells t + cells_of cs
  pub same_longest : m.longest t ≡ m.longest s
  pub same_highest : m.highest t ≡ m.highest s
  pub same_values : (α : Assignment) → m.gives t α ≡ m.gives s α
  pub still_watched : (α : Assignment) → m.watched s α → m.watched t α
  pub watched_before : (α : Assignment) → m.watched t α → m.watched s α
  pub steps : Chain m.takes cs s t

-- the sink takes every clause of the list, in order
pub record Fits {S : Type 0} (m : Model S) (cs : Clauses) (s : S) : Type 0 where
  pub takes : Takes (m.highest s) cs
  pub short : longest_of cs ≤ m.longest s
  pub room : cells_of cs ≤ m.cells s

and_left : (a b : Bool) → (a && b) ≡ true → a ≡ true
and_left true b e = refl
and_left false b e = e

and_right : (a b : Bool) → (a && b) ≡ true → b ≡ true
and_right true b e = e
and_right false b e = cc

and_assoc : (a b c : Bool) → ((a && b) && c) ≡ (a && (b && c))
and_assoc true b c = refl
and_assoc false b c = refl

and_true : (a : Bool) → a ≡ (a && true)
and_true true = refl
and_true false = refl

cells-++ : (a b : Clauses) → cells_of (a ++ b) ≡ cells_of a + cells_of b
cells-++ [] b = omega arith
cells-++ (c ∷ a) b = omega (arith, cells-++ a b)

longest-++ : (a b : Clauses) → longest_of (a ++ b) ≡ max (longest_of a) (longest_of b)
longest-++ [] b = omega arith
longest-++ (c ∷ a) b = omega (arith, longest-++ a b)

pub sat_all-++ : (α : Assignment) (a b : Clauses) → sat_all α (a ++ b) ≡ (sat_all α a && sat_all α b)
sat_all-++ α [] b = refl
sat_all-++ α (c ∷ a) b = ap (λ x. sat α c && x) (sat_all-++ α a b) ∙ sym (and_assoc (sat α c) (sat_all α a) (sat_all α b))

ranged-++ : (v : ℕ) (a b : Clauses) → all_in_range v (a ++ b) ≡ (all_in_range v a && all_in_range v b)
ranged-++ v [] b = refl
ranged-++ v (c ∷ a) b = ap (λ x. in_range v c && x) (ranged-++ v a b) ∙ sym (and_assoc (in_range v c) (all_in_range v a) (all_in_range v b))

none_empty-++ : (a b : Clauses) → none_empty (a ++ b) ≡ (none_empty a && none_empty b)
none_empty-++ [] b = refl
none_empty-++ ([] ∷ a) b = refl
none_empty-++ ((l ∷ c) ∷ a) b = none_empty-++ a b

pub chain_join : {S : Type 0} (takes : S → Clause → S → Type 0) (a b : Clauses) (s t u : S) → Chain takes a s t → Chain takes b t u → Chain takes (a ++ b) s u
chain_join takes [] b s t u e h = let P : _ → Type 0 = λ v. Chain takes b v u in subst P e h
chain_join takes (c ∷ a) b s t u (v, first, rest) h = (v, first, chain_join takes a b v t u rest h)

module _ {S : Type 0} (m : Model S) where
  pub taken_none : (s : S) → TakenAll m [] s s
  taken_none s = record {
    meaning = λ α w. and_true (m.inside s α);
    counted = omega arith;
    room = omega arith;
    same_longest = refl;
    same_highest = refl;
    same_values = λ α. refl;
    still_watched = λ α w. w;
    watched_before = λ α w. w;
    steps = refl;
  }

  pub taken_join : (s t u : S) (a b : Clauses) → TakenAll m a s t → TakenAll m b t u → TakenAll m (a ++ b) s u
  taken_join s t u a b p q = record {
    meaning = λ α w.
        q.meaning α (p.still_watched α w) ∙ ap (λ x. x && sat_all (m.gives t α) b) (p.meaning α w)
        ∙ ap (λ β. (m.inside s α && sat_all (m.gives s α) a) && sat_all β b) (p.same_values α)
        ∙ and_assoc (m.inside s α) (sat_all (m.gives s α) a) (sat_all (m.gives s α) b)
        ∙ ap (λ x. m.inside s α && x) (sym (sat_all-++ (m.gives s α) a b));
    counted = omega (arith, p.counted, q.counted, length-append a b);
    room = omega (arith, p.room, q.room, cells-++ a b);
    same_longest = q.same_longest ∙ p.same_longest;
    same_highest = q.same_highest ∙ p.same_highest;
    same_values = λ α. q.same_values α ∙ p.same_values α;
    still_watched = λ α w. q.still_watched α (p.still_watched α w);
    watched_before = λ α w. p.watched_before α (q.watched_before α w);
    steps = chain_join m.takes a b s t u p.steps q.steps;
  }

  pub fits_front : (s : S) (a b : Clauses) → Fits m (a ++ b) s → Fits m a s
  fits_front s a b h = record {
    takes = record {
      ranged = and_left (all_in_range (m.highest s) a) (all_in_range (m.highest s) b) (sym (ranged-++ (m.highest s) a b) ∙ h.takes.ranged);
      full = and_left (none_empty a) (none_empty b) (sym (none_empty-++ a b) ∙ h.takes.full);
    };
    short = omega (arith, longest-++ a b, h.short);
    room = omega (arith, cells-++ a b, h.room);
  }

  pub fits_back : (s t : S) (a b : Clauses) → Fits m (a ++ b) s → TakenAll m a s t → Fits m b t
  fits_back s t a b h k = record {
    takes = record {
      ranged = ap (λ v. all_in_range v b) k.same_highest ∙ and_right (all_in_range (m.highest s) a) (all_in_range (m.highest s) b) (sym (ranged-++ (m.highest s) a b) ∙ h.takes.ranged);
      full = and_right (none_empty a) (none_empty b) (sym (none_empty-++ a b) ∙ h.takes.full);
    };
    short = omega (arith, longest-++ a b, h.short, k.same_longest);
    room = omega (arith, cells-++ a b, h.room, k.room);
  }

-- a sink as a receiver of clauses
abbrev pub feeding : {S : Type 0} → Model S → Reception (Feed S)
feeding m = record {
  took = λ s cs t. TakenAll m cs s.sink t.sink;
  fits = λ s cs. Fits m cs s.sink;
  none = λ s. taken_none m s.sink;
  join = λ s t u a b. taken_join m s.sink t.sink u.sink a b;
  front = λ s a b. fits_front m s.sink a b;
  back = λ s t a b. fits_back m s.sink t.sink a b;
}
