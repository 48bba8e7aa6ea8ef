-- Parts of an area that are written one after the other.
use Rattle.std.proofs.Common.{◌≡◌, ℕ, suc, ◌+◌, ◌-◌, ◌<◌, ◌≤◌, List, [], length, get_or, drop, ◌++◌, sym, ap, ◌∙◌, subst, ⊎_elim, arith, rules}
use Rattle.std.proofs.lemmas.Bool.{cases_lt}
use Rattle.std.proofs.lemmas.List.{get_or_append_left, places}
use borrow.Rule.Slice.PartMut.{put_mid}
use Rattle.mtl.specs.declared.row.Row.{Row}
use Rattle.mtl.specs.Rows.{extra}
use Rattle.mtl.specs.Lists.{top}
use Rattle.evaluate.specs.Truths.{row_at, older}
use Rattle.evaluate.proofs.Tables.{older_more, older-length}
use Rattle.witness.specs.Areas.{SameFrom, SameBelow, Bits, Tell}
use Rattle.witness.specs.Blocks.{Block, Laid}
use Rattle.witness.proofs.Laying.{tell_moved, block_moved, laid_like}

-- zs is xs with ys written from byte a on
pub record Put (a : ℕ) (xs ys zs : List ℕ) : Type 0 where
  pub at : (j : ℕ) → j < length ys → get_or zs (a + j) 0 ≡ get_or ys j 0
  pub below : SameBelow a zs xs
  pub above : SameFrom (a + length ys) zs xs

pub put_middle : (a k : ℕ) (xs ys : List ℕ) → a ≤ length xs → length ys ≡ k → Put a xs ys (put_mid a k xs ys)
put_middle a k xs ys h e = record {
  at = λ j c. search (rules, places);
  below = λ j c. search (rules, places);
  above = λ j c. search (rules, places);
}

pub put_front : (k : ℕ) (xs ys : List ℕ) → length ys ≡ k → Put 0 xs ys (ys ++ drop k xs)
put_front k xs ys e = record {
  at = λ j c. let z : 0 + j ≡ j = omega arith in ap (λ i. get_or (ys ++ drop k xs) i 0) z ∙ get_or_append_left ys (drop k xs) 0 j c;
  below = λ j c. absurd (omega arith);
  above = λ j c. search (rules, places);
}

-- the variables of begin
pub begun_laid : (k l m : ℕ) (work xs ys zs us vs : List ℕ) → m ≡ k + 1 → length ys ≡ k + 1 → length us ≡ k + 1 → Put 0 xs ys zs → Put m zs us vs → Tell ys 0 (k + 1) (λ i. l ≡ i) → Tell us 0 (k + 1) (λ i. l ≤ i) → Laid k l work vs []
begun_laid k l m work xs ys zs us vs w d e p q s t = (
  tell_moved ys vs 0 0 (k + 1) (λ i. l ≡ i) (λ j c. let z : 0 + j ≡ j = omega arith in q.below (0 + j) (omega arith) ∙ p.at j (omega arith) ∙ sym (ap (λ i. get_or ys i 0) z)) s,
  tell_moved us vs 0 (k + 1) (k + 1) (λ i. l ≤ i) (λ j c. let z : 0 + j ≡ j = omega arith in let y : k + 1 + j ≡ m + j = omega arith in ap (λ i. get_or vs i 0) y ∙ q.at j (omega arith) ∙ sym (ap (λ i. get_or us i 0) z)) t,
)

module _ (a : ℕ) (xs ys zs : List ℕ) (p : Put a xs ys zs) where
  -- one row more
  pub block_laid : (k l : ℕ) (work : List ℕ) (rows : List Row) (n : ℕ) → n < length rows → a + 1 ≡ top k (older rows n) → length ys ≡ suc k + extra k (row_at rows n) → Laid k l work xs (older rows n) → Block k l work ys 0 n (row_at rows n) → Laid k l work zs (older rows (n + 1))
  block_laid k l work rows n h e len laid block =
      let z = older-length rows n (omega arith) in
      let w : a ≡ top k (older rows n) - 1 = omega arith in
      let there : Block k l work zs a n (row_at rows n) = block_moved ys zs 0 a k l work n (row_at rows n) (λ j c. let y : 0 + j ≡ j = omega arith in p.at j (omega arith) ∙ sym (ap (λ i. get_or ys i 0) y)) block in
      subst (λ (rs : List Row). Laid k l work zs rs) (sym (older_more rows n h)) (
        laid_like xs zs k l work (older rows n) (λ j d. p.below j (omega arith)) laid,
        subst (λ m. Block k l work zs (top k (older rows n) - 1) m (row_at rows n)) (sym z) (subst (λ s. Block k l work zs s n (row_at rows n)) w there),
      )

  pub bits_put : (e : ℕ) → e ≡ a + length ys → Bits 0 a xs → Bits 0 (length ys) ys → Bits 0 e zs
  bits_put e w f g = λ j d b. ⊎_elim (λ c. subst (λ x. x ≤ 1) (sym (p.below j c)) (f j d c))
      (λ c. let y : a + (j - a) ≡ j = omega arith in subst (λ x. x ≤ 1) (sym (ap (λ i. get_or zs i 0) (sym y) ∙ p.at (j - a) (omega arith))) (g (j - a) (omega arith) (omega arith)))
      (cases_lt j a)

  pub same_put : (e : ℕ) (before : List ℕ) → e ≡ a + length ys → SameFrom a xs before → SameFrom e zs before
  same_put e before w f = λ j c. p.above j (omega arith) ∙ f j (omega arith)
