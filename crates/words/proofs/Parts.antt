-- Parts of a list, `take n (drop a xs)`: after a store, lent as `&mut xs[a..e]` and put back, and rows of w words. Assumes nothing.
use mathlib.Core.Path.{◌≡◌, refl, sym, ap, ◌∙◌}
use mathlib.Core.Logic.{◌⊎◌, inl, inr, ⊎_elim}
use mathlib.Core.List.{List, [], ◌∷◌, ◌++◌}
use Prim.Native.Nat.{ℕ, zero, suc, ◌+◌, ◌-◌, ◌*◌, ◌/◌, ◌%◌, ◌≤◌, ◌<◌}
use native.Mathlib.Nat.{le_trans, le_of_eq, suc-mul, mul-le-mul_right, eq-or-lt_of_le, le_of_suc-le-suc}
use native.Mathlib.Numerals.{add-one}
use native.Mathlib.Omega.{arith}
use lib.Arith.{digits_div, digits_mod}
use lib.ListN.{length, take, drop, get_or, set, length-drop}
use lib.Seq.{take-suc, take-suc-set, drop-set-add, get_or-drop, get_or-take, take_all, take-take, take_at, drop_at, length-take-le}
use borrow.Rule.Slice.PartMut.{mid_of, post_of, put_mid}

module _ {A : Type 0} where
  -- ---- reading a part

  pub get_d_part : (xs : List A) (a n j : ℕ) (d : A) → j < n → get_or (take n (drop a xs)) j d ≡ get_or xs (a + j) d
  get_d_part xs a n j d h = get_or-take n (drop a xs) j d h ∙ get_or-drop a xs j d

  -- a part of the first m elements
  pub part_first : (s n m : ℕ) (xs : List A) → s + n ≤ m → take n (drop s (take m xs)) ≡ take n (drop s xs)
  part_first zero n m xs h = take-take n m xs (omega arith)
  part_first (suc s) n zero xs h = absurd (omega arith)
  part_first (suc s) n (suc m) [] h = refl
  part_first (suc s) n (suc m) (x ∷ xs) h = part_first s n m xs (omega arith)

  -- ---- a part after a store

  -- one more element: stored, or as it was
  pub part_push : (a n : ℕ) (xs : List A) (v : A) → a + n < length xs → take (n + 1) (drop a (set xs (a + n) v)) ≡ take n (drop a xs) ++ (v ∷ [])
  part_push a n xs v h = rw (add-one, drop-set-add) (take-suc-set (drop a xs) n v (simp length-drop (omega arith)))

  pub part_snoc : (a n : ℕ) (xs : List A) (d : A) → a + n < length xs → take (n + 1) (drop a xs) ≡ take n (drop a xs) ++ (get_or xs (a + n) d ∷ [])
  part_snoc a n xs d h =
      rw add-one (take-suc (drop a xs) n d (simp length-drop (omega arith)) ∙ ap (λ (x : A). take n (drop a xs) ++ (x ∷ [])) (get_or-drop a xs n d))

  -- ---- a part that was lent comes back as ys (borrow.Rule.Slice.PartMut has more)

  -- the part itself
  pub put_part : (a k : ℕ) (xs ys : List A) (n : ℕ) → a ≤ length xs → length ys ≡ n → take n (drop a (put_mid a k xs ys)) ≡ ys
  put_part a k xs ys n h e = ap (take n) (drop_at (take a xs) (ys ++ post_of a k xs) a (length-take-le a xs h)) ∙ take_at ys (post_of a k xs) n e

  -- a part that is the whole tail, and the whole when the tail is back
  pub tail_is : (a : ℕ) (xs : List A) → mid_of a (length xs - a) xs ≡ drop a xs
  tail_is a xs = take_all (length xs - a) (drop a xs) (simp length-drop (omega arith))

-- ---- rows of w words

pub row_fits : {t n : ℕ} (w : ℕ) → t < n → t * w + w ≤ n * w
row_fits {t} w h = le_trans (le_of_eq (sym (suc-mul t w))) (mul-le-mul_right w h)

-- a cell is in one row, at one place
pub cell_inj : {w b i b' i' : ℕ} → i < w → i' < w → b' * w + i' ≡ b * w + i → (b' ≡ b) × (i' ≡ i)
cell_inj {w} {b} {i} {b'} {i'} h h' e = (
  sym (digits_div b' h') ∙ ap (λ (x : ℕ). x / w) e ∙ digits_div b h,
  sym (digits_mod b' h') ∙ ap (λ (x : ℕ). x % w) e ∙ digits_mod b h,
)

pub below_split : (j i : ℕ) → j < i + 1 → (j < i) ⊎ (j ≡ i)
below_split j i h = ⊎_elim (λ e. inr e) (λ l. inl l) (eq-or-lt_of_le (le_of_suc-le-suc (rw add-one at h)))
