-- Tests over all numbers below n, `all f (upto n)` and `any f (upto n)`, and over a table; the fixed answers of the loops that decide
-- them. Assumes nothing.
use mathlib.Core.Path.{◌≡◌, refl, sym, ap, ◌∙◌, subst}
use mathlib.Core.Bool.{Bool, true, false, not, ◌&&◌, ◌||◌, or-false}
use mathlib.Core.List.{List, [], ◌∷◌, ◌++◌, map}
use Prim.Native.Nat.{ℕ, suc, ◌+◌, ◌≤◌, ◌<◌}
use native.Mathlib.Numerals.{add-one}
use native.Mathlib.Omega.{arith}
use lib.Dec.{T, eqb}
use lib.ListN.{length, get_or, drop, drop_of_length-le}
use lib.Seq.{drop-cons}
use borrow.Author.Count.{below_more}
use Rattle.words.specs.Lists.{range, upto, all, any, mem}
use Rattle.words.proofs.Bools.{T_true, true_T, or_mono, and_mono, bool_ext}
use Rattle.words.proofs.Members.{all_in, all_of, any_in, any_no, no_any, in_range, range_in, in_get_or, in_index}

-- ---- a range

pub all_range : (f : ℕ → Bool) (s n : ℕ) → ((q : ℕ) → s ≤ q → q < s + n → T (f q)) → T (all f (range s n))
all_range f s n h = all_of f (range s n) (λ q i. let z = range_in q s n i in h q z.0 z.1)

pub range_all : (f : ℕ → Bool) (s n : ℕ) → T (all f (range s n)) → (k : ℕ) → k < n → T (f (s + k))
range_all f s n t k h = all_in f (s + k) (range s n) t (in_range (s + k) s n (omega arith) (omega arith))

module _ {A : Type 0} (f g : A → Bool) (i : (a : A) → T (f a) → T (g a)) where
  pub all_mono : (xs : List A) → T (all f xs) → T (all g xs)
  all_mono [] t = tt
  all_mono (x ∷ xs) t = and_mono (f x) (all f xs) (g x) (all g xs) (i x) (all_mono xs) t

  pub any_mono : (xs : List A) → T (any f xs) → T (any g xs)
  any_mono [] t = t
  any_mono (x ∷ xs) t = or_mono (f x) (any f xs) (g x) (any g xs) (i x) (any_mono xs) t

module _ {A : Type 0} (f : A → Bool) where
  pub any_append : (xs ys : List A) → any f (xs ++ ys) ≡ (any f xs || any f ys)
  any_append [] ys = refl
  any_append (x ∷ xs) ys = ap (λ (b : Bool). f x || b) (any_append xs ys) ∙ sym (mathlib.Core.Bool.or_assoc (f x) (any f xs) (any f ys))

  pub all_append : (xs ys : List A) → all f (xs ++ ys) ≡ (all f xs && all f ys)
  all_append [] ys = refl
  all_append (x ∷ xs) ys = ap (λ (b : Bool). f x && b) (all_append xs ys) ∙ sym (mathlib.Core.Bool.and_assoc (f x) (all f xs) (all f ys))

  -- element k, and then those after it: a loop over a slice that ends early
  pub all_step : (d : A) (xs : List A) (k : ℕ) → k < length xs → (c : Bool) {b : Bool} → b ≡ f (get_or xs k d) → b ≡ c → all f (drop k xs) ≡ (c && all f (drop (k + 1) xs))
  all_step d xs k h c e q =
      ap (all f) (drop-cons xs k d h) ∙ ap (λ (n : ℕ). f (get_or xs k d) && all f (drop n xs)) (sym (add-one k))
      ∙ ap (λ (y : Bool). y && all f (drop (k + 1) xs)) (sym e ∙ q)

  pub all_past : (xs : List A) (k : ℕ) → length xs ≤ k → all f (drop k xs) ≡ true
  all_past xs k h = ap (all f) (drop_of_length-le xs h)

  -- a test over the elements, by their places: what a loop over a slice decides
  pub all_places : (d : A) (xs : List A) → all f xs ≡ all (λ i. f (get_or xs i d)) (upto (length xs))
  all_places d xs = bool_ext (all f xs) (all (λ i. f (get_or xs i d)) (upto (length xs)))
      (λ t. all_range (λ i. f (get_or xs i d)) 0 (length xs) (λ q a b. all_in f (get_or xs q d) xs t (in_get_or d xs q (omega arith))))
      (λ t. all_of f xs (λ a i. let z = in_index d a xs i in
      subst (λ (y : A). T (f y)) z.2 (all_in (λ i. f (get_or xs i d)) z.0 (upto (length xs)) t (in_range z.0 0 (length xs) (omega arith) (let h = z.1 in omega arith)))))

pub mem_append : (r : ℕ) (xs ys : List ℕ) → mem r (xs ++ ys) ≡ (mem r xs || mem r ys)
mem_append r = any_append (λ x. eqb r x)

pub any_map : {A B : Type 0} (f : B → Bool) (g : A → B) (xs : List A) → any f (map g xs) ≡ any (λ x. f (g x)) xs
any_map f g [] = refl
any_map f g (x ∷ xs) = ap (λ (b : Bool). f (g x) || b) (any_map f g xs)

pub all_map : {A B : Type 0} (f : B → Bool) (g : A → B) (xs : List A) → all f (map g xs) ≡ all (λ x. f (g x)) xs
all_map f g [] = refl
all_map f g (x ∷ xs) = ap (λ (b : Bool). f (g x) && b) (all_map f g xs)

-- a test of a list in two parts, the first of which was made by f
module _ {A : Type 0} (t : ℕ → Bool) (f : A → ℕ) (xs : List A) (ys : List ℕ) {zs : List ℕ} (e : map f xs ++ ys ≡ zs) {b : Bool} (q : b ≡ all (λ x. t (f x)) xs) where
  both_parts : (b && all t ys) ≡ all t zs
  both_parts = ap (λ (x : Bool). x && all t ys) (q ∙ sym (all_map t f xs)) ∙ sym (all_append t (map f xs) ys) ∙ ap (all t) e

  pub parts_no : b ≡ false → false ≡ all t zs
  parts_no n = ap (λ (x : Bool). x && all t ys) (sym n) ∙ both_parts

  pub parts_on : b ≡ true → {r : Bool} → r ≡ all t ys → r ≡ all t zs
  parts_on y k = k ∙ ap (λ (x : Bool). x && all t ys) (sym y) ∙ both_parts

-- ---- a table: the test f passes at each entry and its place, counted from i. antt computes it, one entry after the other.

abbrev pub every : (ℕ → ℕ → Bool) → ℕ → List ℕ → Bool
every f i [] = true
every f i (x ∷ xs) = f i x && every f (suc i) xs

-- ---- below n, as equations

module _ (f : ℕ → Bool) where
  pub all_below : (n : ℕ) → ((i : ℕ) → i < n → f i ≡ true) → all f (upto n) ≡ true
  all_below n h = T_true (all f (upto n)) (all_range f 0 n (λ q a b. true_T (f q) (h q (omega arith))))

  pub all_at : (n : ℕ) → all f (upto n) ≡ true → (i : ℕ) → i < n → f i ≡ true
  all_at n e i h = T_true (f i) (all_in f i (upto n) (true_T (all f (upto n)) e) (in_range i 0 n (omega arith) (omega arith)))

  pub any_at : (n : ℕ) → any f (upto n) ≡ false → (i : ℕ) → i < n → f i ≡ false
  any_at n e i h = any_no f i (upto n) e (in_range i 0 n (omega arith) (omega arith))

  pub any_below : (n : ℕ) → ((i : ℕ) → i < n → f i ≡ false) → any f (upto n) ≡ false
  any_below n h = no_any f (upto n) (λ q i. h q (let z = range_in q 0 n i in let b = z.1 in omega arith))

  one_more : (v : Bool) (i : ℕ) → ((k : ℕ) → k < i → f k ≡ v) → f i ≡ v → (k : ℕ) → k < i + 1 → f k ≡ v
  one_more v i h e k l = below_more (λ (j : ℕ). f j ≡ v) i h e k l

  -- An early `true` of a loop over the numbers below n, where f's contract says r ≡ f i, and a turn more, where the invariant is
  -- any f (upto i) ≡ false.
  pub find_yes : {n i : ℕ} {r : Bool} → i < n → r ≡ f i → r ≡ true → true ≡ any f (upto n)
  find_yes {n} {i} {r} k e h = sym (T_true (any f (upto n)) (any_in f i (upto n) (in_range i 0 n (omega arith) (omega arith)) (true_T (f i) (sym e ∙ h))))

  pub find_on : {i : ℕ} {r : Bool} → any f (upto i) ≡ false → r ≡ f i → r ≡ false → any f (upto (i + 1)) ≡ false
  find_on {i} {r} t e h = any_below (i + 1) (one_more false i (any_at i t) (sym e ∙ h))

-- The places of `if f() { g() } else { false }` and `if f() { true } else { g() }`, and so of a chain of early returns.
pub and_yes : {a b r s : Bool} → r ≡ a → r ≡ true → s ≡ b → s ≡ a && b
and_yes {b = b} e t k = k ∙ ap (λ (x : Bool). x && b) (sym t ∙ e)

pub and_nay : {a r : Bool} (b : Bool) → r ≡ a → r ≡ false → false ≡ a && b
and_nay b e t = ap (λ (x : Bool). x && b) (sym t ∙ e)
