-- A loop through the successors of a block: where it stands in their list. Assumes nothing.
use mathlib.Core.Path.{◌≡◌, refl, sym, ap, ◌∙◌, subst}
use mathlib.Core.Logic.{⊎_elim}
use mathlib.Core.List.{List, [], ◌∷◌}
use Prim.Native.Nat.{ℕ, suc, ◌+◌, ◌≤◌, ◌<◌}
use native.Mathlib.Numerals.{add-one}
use native.Mathlib.Omega.{arith}
use lib.ListN.{length, get_or, drop, length-drop, drop_of_length-le}
use lib.Seq.{drop-cons}
use Rattle.words.proofs.Bools.{lt?}
use Rattle.inst.specs.declared.index.BlockId.{BlockId}
use Rattle.cfg.specs.Succs.{blocks, numbers}

-- what is left of numbers below n is below n
pub rest_below : {xs ys : List ℕ} {x n : ℕ} → xs ≡ x ∷ ys → ((j : ℕ) → j < length xs → get_or xs j 0 < n) → (j : ℕ) → j < length ys → get_or ys j 0 < n
rest_below {xs} {ys} {x} {n} e h j k = subst (λ (l : List ℕ). (j : ℕ) → j < length l → get_or l j 0 < n) e h (suc j) (omega arith)

-- the blocks that are left are those from place k of the list on
pub record From (ss : List ℕ) (k : ℕ) (bs : List BlockId) : Type 0 where
  pub are : numbers bs ≡ drop k ss
  pub inside : k ≤ length ss

numbers_of : (xs : List ℕ) → numbers (blocks xs) ≡ xs
numbers_of [] = refl
numbers_of (x ∷ xs) = ap (λ (l : List ℕ). x ∷ l) (numbers_of xs)

pub from_start : (ss : List ℕ) {bs : List BlockId} → bs ≡ blocks ss → From ss 0 bs
from_start ss e = record { are = ap numbers e ∙ numbers_of ss; inside = omega arith }

module _ {ss : List ℕ} {k : ℕ} {bs : List BlockId} (f : From ss k bs) where
  pub from_end : bs ≡ [] → length ss ≤ k
  from_end e =
      let z : length (drop k ss) ≡ 0 = ap length (sym f.are ∙ ap numbers e) in
      omega (arith, length-drop k ss)

  module _ {b : BlockId} {rest : List BlockId} (e : bs ≡ b ∷ rest) where
    split : b.0 ∷ numbers rest ≡ drop k ss
    split = sym (ap numbers e) ∙ f.are

    pub from_in : k < length ss
    from_in = ⊎_elim (λ (h : k < length ss). h) (λ (h : length ss ≤ k). let z : suc (length (numbers rest)) ≡ 0 = ap length (split ∙ drop_of_length-le ss h) in absurd (omega arith)) (lt? k (length ss))

    pub from_here : b.0 ≡ get_or ss k 0
    from_here = ap (λ (l : List ℕ). get_or l 0 0) (split ∙ drop-cons ss k 0 from_in)

    pub from_more : From ss (k + 1) rest
    from_more = record { are = ap (drop 1) (split ∙ drop-cons ss k 0 from_in) ∙ ap (λ (i : ℕ). drop i ss) (sym (add-one k)); inside = omega (arith, from_in) }

    pub from_low : {m n : ℕ} → m ≡ n → ((j : ℕ) → j < length ss → get_or ss j 0 < m) → b.0 < n
    from_low q h = omega (arith, h k from_in, from_here)
