-- Laws of membership, `In a xs`, and of the tests over all elements of a list. Assumes nothing.
use mathlib.Core.Path.{◌≡◌, refl, sym, ap, ap₂, ◌∙◌, subst}
use mathlib.Core.Logic.{◌⊎◌, inl, inr, ⊎_elim}
use mathlib.Core.Bool.{Bool, true, false, cond, ◌&&◌, ◌||◌}
use mathlib.Core.List.{List, [], ◌∷◌, ◌++◌, map}
use Prim.Native.Nat.{ℕ, zero, suc, ◌+◌, ◌≤◌, ◌<◌}
use native.Mathlib.Nat.{le_of_suc-le-suc, not-suc-le-zero}
use native.Mathlib.Omega.{arith}
use lib.Dec.{T, eqb}
use lib.ListN.{length, get_or, take, drop}
use Rattle.words.specs.Lists.{In, range, all, any, filter, concat, mem}
use Rattle.words.proofs.Bools.{T_true, true_T, clash, both, left, right, or_first, or_second, or_cases, not_true_is_false, eq?}

module _ {A : Type 0} where
  -- ---- append, take, drop, concat

  pub in_left : (a : A) (xs ys : List A) → In a xs → In a (xs ++ ys)
  in_left a [] ys i = absurd i
  in_left a (x ∷ xs) ys (inl e) = inl e
  in_left a (x ∷ xs) ys (inr i) = inr (in_left a xs ys i)

  pub in_right : (a : A) (xs ys : List A) → In a ys → In a (xs ++ ys)
  in_right a [] ys i = i
  in_right a (x ∷ xs) ys i = inr (in_right a xs ys i)

  pub in_split : (a : A) (xs ys : List A) → In a (xs ++ ys) → In a xs ⊎ In a ys
  in_split a [] ys i = inr i
  in_split a (x ∷ xs) ys (inl e) = inl (inl e)
  in_split a (x ∷ xs) ys (inr i) = ⊎_elim (λ k. inl (inr k)) (λ k. inr k) (in_split a xs ys i)

  pub in_mid : (pre : List A) (b : A) (post : List A) → In b (pre ++ b ∷ post)
  in_mid pre b post = in_right b pre (b ∷ post) (inl refl)

  pub in_drop : (a : A) (n : ℕ) (xs : List A) → In a (drop n xs) → In a xs
  in_drop a zero xs i = i
  in_drop a (suc n) [] i = i
  in_drop a (suc n) (x ∷ xs) i = inr (in_drop a n xs i)

  pub in_take : (a : A) (n : ℕ) (xs : List A) → In a (take n xs) → In a xs
  in_take a zero xs i = absurd i
  in_take a (suc n) [] i = i
  in_take a (suc n) (x ∷ xs) (inl e) = inl e
  in_take a (suc n) (x ∷ xs) (inr i) = inr (in_take a n xs i)

  pub in_concat : (a : A) (xs : List A) (xss : List (List A)) → In a xs → In xs xss → In a (concat xss)
  in_concat a xs [] i j = absurd j
  in_concat a xs (ys ∷ xss) i (inl e) = in_left a ys (concat xss) (subst (In a) e i)
  in_concat a xs (ys ∷ xss) i (inr j) = in_right a ys (concat xss) (in_concat a xs xss i j)

  pub concat_in : (a : A) (xss : List (List A)) → In a (concat xss) → (xs : List A) × In a xs × In xs xss
  concat_in a [] i = absurd i
  concat_in a (ys ∷ xss) i =
      ⊎_elim (λ (k : In a ys). (ys, k, inl refl)) (λ (k : In a (concat xss)). let z = concat_in a xss k in (z.0, z.1, inr z.2)) (in_split a ys (concat xss) i)

  -- ---- places

  pub in_get_or : (d : A) (xs : List A) (k : ℕ) → k < length xs → In (get_or xs k d) xs
  in_get_or d [] k h = absurd (not-suc-le-zero h)
  in_get_or d (x ∷ xs) zero h = inl refl
  in_get_or d (x ∷ xs) (suc k) h = inr (in_get_or d xs k (le_of_suc-le-suc h))

  pub in_index : (d a : A) (xs : List A) → In a xs → (k : ℕ) × (k < length xs) × (get_or xs k d ≡ a)
  in_index d a [] i = absurd i
  in_index d a (x ∷ xs) (inl e) = (0, omega arith, sym e)
  in_index d a (x ∷ xs) (inr i) = let z = in_index d a xs i in let h = z.1 in (suc z.0, omega arith, z.2)

  pub one_in : (xs : List A) (a b : A) → length xs ≡ 1 → In a xs → In b xs → a ≡ b
  one_in [] a b e i j = absurd i
  one_in (x ∷ []) a b e (inl p) (inl q) = p ∙ sym q
  one_in (x ∷ []) a b e (inr i) j = absurd i
  one_in (x ∷ []) a b e (inl p) (inr j) = absurd j
  one_in (x ∷ y ∷ xs) a b e i j = absurd (omega arith)

  -- ---- tests over all elements

  module _ (f : A → Bool) where
    pub in_filter : (a : A) (xs : List A) → In a xs → f a ≡ true → In a (filter f xs)
    in_filter a [] i e = absurd i
    in_filter a (x ∷ xs) i e = go (λ j. in_filter a xs j e) (f x) refl i
      where
        go : (In a xs → In a (filter f xs)) → (b : Bool) → f x ≡ b → In a (x ∷ xs) → In a (cond b (x ∷ filter f xs) (filter f xs))
        go k true g (inl h) = inl h
        go k true g (inr j) = inr (k j)
        go k false g (inl h) = clash (sym (ap f h) ∙ e) g
        go k false g (inr j) = k j

    pub filter_in : (a : A) (xs : List A) → In a (filter f xs) → In a xs × (f a ≡ true)
    filter_in a [] i = absurd i
    filter_in a (x ∷ xs) i = go (filter_in a xs) (f x) refl i
      where
        go : (In a (filter f xs) → In a xs × (f a ≡ true)) → (b : Bool) → f x ≡ b → In a (cond b (x ∷ filter f xs) (filter f xs)) → In a (x ∷ xs) × (f a ≡ true)
        go k true g (inl h) = (inl h, ap f h ∙ g)
        go k true g (inr j) = (inr (k j).0, (k j).1)
        go k false g j = (inr (k j).0, (k j).1)

    pub all_in : (a : A) (xs : List A) → T (all f xs) → In a xs → T (f a)
    all_in a [] t i = absurd i
    all_in a (x ∷ xs) t (inl e) = subst (λ (y : A). T (f y)) (sym e) (left (f x) (all f xs) t)
    all_in a (x ∷ xs) t (inr i) = all_in a xs (right (f x) (all f xs) t) i

    pub all_of : (xs : List A) → ((a : A) → In a xs → T (f a)) → T (all f xs)
    all_of [] h = tt
    all_of (x ∷ xs) h = both (f x) (all f xs) (h x (inl refl)) (all_of xs (λ a i. h a (inr i)))

    pub any_in : (a : A) (xs : List A) → In a xs → T (f a) → T (any f xs)
    any_in a [] i t = absurd i
    any_in a (x ∷ xs) (inl e) t = or_first (f x) (any f xs) (subst (λ (y : A). T (f y)) e t)
    any_in a (x ∷ xs) (inr i) t = or_second (f x) (any f xs) (any_in a xs i t)

    pub any_of : (xs : List A) → T (any f xs) → (a : A) × In a xs × T (f a)
    any_of [] t = absurd t
    any_of (x ∷ xs) t =
        ⊎_elim (λ (k : T (f x)). (x, inl refl, k)) (λ (k : T (any f xs)). let z = any_of xs k in (z.0, inr z.1, z.2)) (or_cases (f x) (any f xs) t)

    pub any_no : (a : A) (xs : List A) → any f xs ≡ false → In a xs → f a ≡ false
    any_no a xs e i = not_true_is_false (f a) (λ t. clash (T_true (any f xs) (any_in a xs i (true_T (f a) t))) e)

    pub no_any : (xs : List A) → ((a : A) → In a xs → f a ≡ false) → any f xs ≡ false
    no_any xs h = not_true_is_false (any f xs) (λ t. let z = any_of xs (true_T (any f xs) t) in clash (T_true (f z.0) z.2) (h z.0 z.1))

-- two tests that agree on the list
module _ {A : Type 0} (f g : A → Bool) where
  pub any_on : (xs : List A) → ((a : A) → In a xs → f a ≡ g a) → any f xs ≡ any g xs
  any_on [] h = refl
  any_on (x ∷ xs) h = ap₂ (λ (a b : Bool). a || b) (h x (inl refl)) (any_on xs (λ a i. h a (inr i)))

  pub all_on : (xs : List A) → ((a : A) → In a xs → f a ≡ g a) → all f xs ≡ all g xs
  all_on [] h = refl
  all_on (x ∷ xs) h = ap₂ (λ (a b : Bool). a && b) (h x (inl refl)) (all_on xs (λ a i. h a (inr i)))

  pub filter_on : (xs : List A) → ((a : A) → In a xs → f a ≡ g a) → filter f xs ≡ filter g xs
  filter_on [] h = refl
  filter_on (x ∷ xs) h = ap₂ (λ (t : Bool) (l : List A). cond t (x ∷ l) l) (h x (inl refl)) (filter_on xs (λ a i. h a (inr i)))

-- ---- map

pub in_map : {A B : Type 0} (f : A → B) (y : B) (xs : List A) → In y (map f xs) → (x : A) × In x xs × (y ≡ f x)
in_map f y [] i = absurd i
in_map f y (x ∷ xs) (inl e) = (x, inl refl, e)
in_map f y (x ∷ xs) (inr i) = let z = in_map f y xs i in (z.0, inr z.1, z.2)

pub map_in : {A B : Type 0} (f : A → B) (x : A) (xs : List A) → In x xs → In (f x) (map f xs)
map_in f x [] i = absurd i
map_in f x (y ∷ xs) (inl e) = inl (ap f e)
map_in f x (y ∷ xs) (inr i) = inr (map_in f x xs i)

-- two functions that agree on the list, and back
pub map_on : {A B : Type 0} (f g : A → B) (xs : List A) → ((a : A) → In a xs → f a ≡ g a) → map f xs ≡ map g xs
map_on f g [] h = refl
map_on {B = B} f g (x ∷ xs) h = ap₂ (λ (y : B) (l : List B). y ∷ l) (h x (inl refl)) (map_on f g xs (λ a i. h a (inr i)))

pub on_map : {A B : Type 0} (f g : A → B) (xs : List A) → map f xs ≡ map g xs → (a : A) → In a xs → f a ≡ g a
on_map f g [] e a i = absurd i
on_map f g (x ∷ xs) e a (inl q) = ap f q ∙ mathlib.Core.List.head-eq_of_cons-eq e ∙ ap g (sym q)
on_map f g (x ∷ xs) e a (inr i) = on_map f g xs (mathlib.Core.List.tail-eq_of_cons-eq e) a i

-- ---- ranges, and numbers in a list

pub in_range : (q s n : ℕ) → s ≤ q → q < s + n → In q (range s n)
in_range q s zero a b = absurd (omega arith)
in_range q s (suc n) a b = ⊎_elim (λ (e : q ≡ s). inl e) (λ (e : q ≡ s → ⊥). inr (in_range q (suc s) n (omega arith) (omega arith))) (eq? q s)

pub range_in : (q s n : ℕ) → In q (range s n) → (s ≤ q) × (q < s + n)
range_in q s zero i = absurd i
range_in q s (suc n) (inl e) = (omega arith, omega arith)
range_in q s (suc n) (inr i) = let z = range_in q (suc s) n i in let a = z.0 in let b = z.1 in (omega arith, omega arith)

pub mem_in : (r : ℕ) (l : List ℕ) → mem r l ≡ true → In r l
mem_in r l e = let z = any_of (λ x. eqb r x) l (true_T (mem r l) e) in subst (λ (y : ℕ). In y l) (sym (lib.Dec.eqb→eq r z.0 z.2)) z.1

pub in_mem : (r : ℕ) (l : List ℕ) → In r l → mem r l ≡ true
in_mem r l i = T_true (mem r l) (any_in (λ x. eqb r x) r l i (lib.Dec.eqb_refl r))

pub not_in_mem : (r : ℕ) (l : List ℕ) → (In r l → ⊥) → mem r l ≡ false
not_in_mem r l n = not_true_is_false (mem r l) (λ e. n (mem_in r l e))

pub mem-not_in : (r : ℕ) (l : List ℕ) → mem r l ≡ false → In r l → ⊥
mem-not_in r l e i = clash (in_mem r l i) e

pub in? : (r : ℕ) (l : List ℕ) → In r l ⊎ (In r l → ⊥)
in? r l = go (mem r l) refl
  where
    go : (b : Bool) → mem r l ≡ b → In r l ⊎ (In r l → ⊥)
    go true e = inl (mem_in r l e)
    go false e = inr (mem-not_in r l e)
