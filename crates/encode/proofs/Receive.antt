-- How the lists of a receiver are put together: one clause, or one turn of a loop, after another.
use Rattle.std.proofs.Common.{◌≡◌, ℕ, zero, suc, ◌+◌, ◌-◌, ◌<◌, List, [], ◌∷◌, ◌++◌, map, length, get_or, take, drop, sym, ap, ◌∙◌, subst, append_assoc, append-nil, add-zero, add-suc, suc-add, zero-add, arith, take-append-drop}
use mathlib.Core.List.{map-append}
use Rattle.std.proofs.lemmas.List.{drop_more, map_more}
use Rattle.cnf.specs.Clauses.{Clause, Clauses}
use Rattle.mtl.specs.Shapes.{each}
use Rattle.encode.specs.Reception.{Reception}

pub each_add : (f : ℕ → Clauses) (a i d : ℕ) → each a (i + d) f ≡ each a i f ++ each (a + i) d f
each_add f a zero d = rw (zero-add, add-zero)
each_add f a (suc i) d =
    rw (suc-add, add-suc) (ap (λ l. f a ++ l) (rw suc-add at (each_add f (suc a) i d)) ∙ sym (append_assoc (f a) _ _))

pub each_more : (f : ℕ → Clauses) (i : ℕ) → each 0 (i + 1) f ≡ each 0 i f ++ f i
each_more f i = each_add f 0 i 1 ∙ ap (λ l. each 0 i f ++ l) (append-nil _ ∙ ap f (zero-add i))

pub each_cut : (f : ℕ → Clauses) (i n : ℕ) → i < n → each 0 n f ≡ (each 0 i f ++ f i) ++ each (0 + (i + 1)) (n - (i + 1)) f
each_cut f i n h =
    let e : n ≡ (i + 1) + (n - (i + 1)) = omega arith in
    ap (λ m. each 0 m f) e ∙ each_add f 0 (i + 1) (n - (i + 1)) ∙ ap (λ l. l ++ each (0 + (i + 1)) (n - (i + 1)) f) (each_more f i)

module _ {S : Type 0} (m : Reception S) where
  -- two lists one after another
  -- clauses that are the same fit alike
  pub fits_as : {s : S} {cs : Clauses} (ds : Clauses) → cs ≡ ds → m.fits s ds → m.fits s cs
  fits_as ds same h = subst (m.fits _) (sym same) h

  pub first_fits : {s : S} {cs : Clauses} (a b : Clauses) → cs ≡ a ++ b → m.fits s cs → m.fits s a
  first_fits {s} a b e h = m.front s a b (subst (m.fits s) e h)

  pub next_fits : {s t : S} {cs : Clauses} (a b : Clauses) → cs ≡ a ++ b → m.fits s cs → m.took s a t → m.fits t b
  next_fits {s} {t} a b e h k = m.back s t a b (subst (m.fits s) e h) k

  pub both_took : {s t u : S} {cs : Clauses} (a b : Clauses) → cs ≡ a ++ b → m.took s a t → m.took t b u → m.took s cs u
  both_took {s} {t} {u} a b e k l = subst (λ cs. m.took s cs u) (sym e) (m.join s t u a b k l)

  -- a loop whose turn i hands over f i
  module _ (f : ℕ → Clauses) where
    pub turn_fits : {s t : S} (i n : ℕ) → m.fits s (each 0 n f) → i < n → m.took s (each 0 i f) t → m.fits t (f i)
    turn_fits {s} {t} i n h lt k =
        m.back s t (each 0 i f) (f i) (m.front s (each 0 i f ++ f i) _ (subst (m.fits s) (each_cut f i n lt) h)) k

    pub turn_took : {s t u : S} (i : ℕ) → m.took s (each 0 i f) t → m.took t (f i) u → m.took s (each 0 (i + 1) f) u
    turn_took {s} {t} {u} i k l = subst (λ cs. m.took s cs u) (sym (each_more f i)) (m.join s t u (each 0 i f) (f i) k l)

  -- a loop over xs that hands over one clause for each
  module _ {X : Type 0} (h : X → Clause) (xs : List X) where
    item_cut : (i : ℕ) (d : X) → i < length xs → map h xs ≡ map h (take i xs) ++ ((h (get_or xs i d) ∷ []) ++ map h (drop (i + 1) xs))
    item_cut i d lt =
        ap (map h) (sym (take-append-drop i xs)) ∙ map-append h (take i xs) (drop i xs) ∙ ap (λ l. map h (take i xs) ++ map h l) (drop_more xs i d lt)

    pub item_fits : {s t : S} (i : ℕ) (d : X) → m.fits s (map h xs) → i < length xs → m.took s (map h (take i xs)) t → m.fits t (h (get_or xs i d) ∷ [])
    item_fits {s} {t} i d f lt k =
        m.front t (h (get_or xs i d) ∷ []) (map h (drop (i + 1) xs)) (m.back s t (map h (take i xs)) ((h (get_or xs i d) ∷ []) ++ map h (drop (i + 1) xs)) (subst (m.fits s) (item_cut i d lt) f) k)

    pub item_took : {s t u : S} (i : ℕ) (d : X) → i < length xs → m.took s (map h (take i xs)) t → m.took t (h (get_or xs i d) ∷ []) u → m.took s (map h (take (i + 1) xs)) u
    item_took {s} {t} {u} i d lt k l = subst (λ cs. m.took s cs u) (sym (map_more h xs i d lt)) (m.join s t u (map h (take i xs)) (h (get_or xs i d) ∷ []) k l)
