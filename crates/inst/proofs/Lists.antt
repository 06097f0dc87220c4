-- Laws on lists beside those of `words`: a test at a place, and a part by its two ends. Assumes nothing.
use mathlib.Core.Bool.{Bool, true}
use mathlib.Core.Path.{◌≡◌, ap, ◌∙◌}
use mathlib.Core.List.{List, [], ◌∷◌}
use Prim.Native.Nat.{ℕ, zero, suc, ◌+◌, ◌-◌}
use native.Mathlib.Omega.{arith}
use lib.ListN.{get_or, take, drop}
use Rattle.words.specs.Lists.{all}
use Rattle.words.proofs.Bools.{left_true, right_true}

module _ {A : Type 0} where
  -- a test over a whole list, and of the default, passes at every place
  pub all_at : (f : A → Bool) (xs : List A) (d : A) → all f xs ≡ true → f d ≡ true → (k : ℕ) → f (get_or xs k d) ≡ true
  all_at f [] d t e k = e
  all_at f (x ∷ xs) d t e zero = left_true (f x) (all f xs) t
  all_at f (x ∷ xs) d t e (suc k) = all_at f xs d (right_true (f x) (all f xs) t) e k

-- the part from a on, n long
pub part_is : {A : Type 0} {a n s l : ℕ} (xs : List A) → a ≡ s → n ≡ l → take (a + n - a) (drop a xs) ≡ take l (drop s xs)
part_is {A} {a} {n} {s} {l} xs e q =
    let h : a + n - a ≡ l = omega arith in
    ap (λ (m : ℕ). take m (drop a xs)) h ∙ ap (λ (m : ℕ). take l (drop m xs)) e
