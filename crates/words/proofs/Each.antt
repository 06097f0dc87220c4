-- `Each P xs`: every element of the list satisfies P. (In specs a predicate of this kind is better a test, `all f xs`.) Assumes nothing.
use mathlib.Core.Path.{refl, sym, subst}
use mathlib.Core.Logic.{inl, inr}
use mathlib.Core.List.{List, [], ◌∷◌, ◌++◌, map}
use Prim.Native.Nat.{ℕ, zero, suc, ◌+◌, ◌≤◌, ◌<◌}
use native.Mathlib.Omega.{arith}
use Rattle.words.specs.Lists.{In, range, concat}

abbrev pub Each : {A : Type 0} → (A → Type 0) → List A → Type 0
Each P [] = Unit {0}
Each P (x ∷ xs) = P x × Each P xs

module _ {A : Type 0} (P : A → Type 0) where
  pub each_of : (xs : List A) → ((a : A) → In a xs → P a) → Each P xs
  each_of [] h = tt
  each_of (x ∷ xs) h = (h x (inl refl), each_of xs (λ a i. h a (inr i)))

  pub each_in : (a : A) (xs : List A) → Each P xs → In a xs → P a
  each_in a [] e i = absurd i
  each_in a (x ∷ xs) e (inl q) = subst P (sym q) e.0
  each_in a (x ∷ xs) e (inr i) = each_in a xs e.1 i

  pub each_append : (xs ys : List A) → Each P xs → Each P ys → Each P (xs ++ ys)
  each_append [] ys e f = f
  each_append (x ∷ xs) ys e f = (e.0, each_append xs ys e.1 f)

  pub each_concat : (xss : List (List A)) → Each (Each P) xss → Each P (concat xss)
  each_concat [] e = tt
  each_concat (xs ∷ xss) e = each_append xs (concat xss) e.0 (each_concat xss e.1)

  -- a list made by a rule
  pub each_made : (f : ℕ → A) (s n : ℕ) → ((b : ℕ) → s ≤ b → b < s + n → P (f b)) → Each P (map f (range s n))
  each_made f s zero h = tt
  each_made f s (suc n) h = (h s (omega arith) (omega arith), each_made f (suc s) n (λ b u v. h b (omega arith) (omega arith)))
