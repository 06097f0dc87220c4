-- Sums over a list: with `hit (eqb o x)` how often o stands in it, with 1 how long it is. Assumes nothing.
use mathlib.Core.Path.{◌≡◌, refl, sym, ap, ap₂, ◌∙◌}
use mathlib.Core.Logic.{inl, inr, ⊎_elim}
use mathlib.Core.Bool.{Bool, true, false, not, cond}
use mathlib.Core.List.{List, [], ◌∷◌, ◌++◌, map}
use Prim.Native.Nat.{ℕ, zero, suc, ◌+◌, ◌≤◌, ◌<◌}
use native.Mathlib.Nat.{zero-add}
use native.Mathlib.Omega.{arith}
use lib.Dec.{eqb}
use lib.ListN.{length, get_or}
use borrow.Author.Tests.{ne_eqb, eq-eqb}
use Rattle.words.specs.Lists.{In, hit, range, filter, concat}
use Rattle.words.proofs.Bools.{eq?}

abbrev pub sum : {A : Type 0} → (A → ℕ) → List A → ℕ
sum v [] = 0
sum v (x ∷ xs) = v x + sum v xs

module _ {A : Type 0} (v : A → ℕ) where
  pub sum_append : (xs ys : List A) → sum v (xs ++ ys) ≡ sum v xs + sum v ys
  sum_append [] ys = sym (zero-add (sum v ys))
  sum_append (x ∷ xs) ys = omega (arith, sum_append xs ys)

  pub sum_concat : (xss : List (List A)) → sum v (concat xss) ≡ sum (λ xs. sum v xs) xss
  sum_concat [] = refl
  sum_concat (xs ∷ xss) = omega (arith, sum_append xs (concat xss), sum_concat xss)

  pub sum_map : {B : Type 0} (g : B → A) (xs : List B) → sum v (map g xs) ≡ sum (λ x. v (g x)) xs
  sum_map g [] = refl
  sum_map g (x ∷ xs) = omega (arith, sum_map g xs)

  -- a list is what a test takes and what it leaves
  pub sum_split : (f : A → Bool) (xs : List A) → sum v (filter (λ p. not (f p)) xs) + sum v (filter f xs) ≡ sum v xs
  sum_split f [] = refl
  sum_split f (x ∷ xs) = go (f x) (sum_split f xs)
    where
      go : (b : Bool) → sum v (filter (λ p. not (f p)) xs) + sum v (filter f xs) ≡ sum v xs
          → sum v (cond (not b) (x ∷ filter (λ p. not (f p)) xs) (filter (λ p. not (f p)) xs)) + sum v (cond b (x ∷ filter f xs) (filter f xs)) ≡ v x + sum v xs
      go true e = omega arith
      go false e = omega arith

  -- sums that agree element by element; two at once
  pub sum_on : (w : A → ℕ) (xs : List A) → ((a : A) → In a xs → v a ≡ w a) → sum v xs ≡ sum w xs
  sum_on w [] h = refl
  sum_on w (x ∷ xs) h = ap₂ ◌+◌ (h x (inl refl)) (sum_on w xs (λ a i. h a (inr i)))

  pub sum_add : (w : A → ℕ) (xs : List A) → sum (λ a. v a + w a) xs ≡ sum v xs + sum w xs
  sum_add w [] = refl
  sum_add w (x ∷ xs) = omega (arith, sum_add w xs)

pub sum_ones : {A : Type 0} (xs : List A) → sum (λ x. 1) xs ≡ length xs
sum_ones [] = refl
sum_ones (x ∷ xs) = omega (arith, sum_ones xs)

-- ---- m at one place of a range, 0 elsewhere

pub sum_miss : (x m s k : ℕ) → x < s → sum (λ b. cond (eqb b x) m 0) (range s k) ≡ 0
sum_miss x m s zero h = refl
sum_miss x m s (suc k) h = rw (ne_eqb s x (λ e. omega arith)) (omega (arith, sum_miss x m (suc s) k (omega arith)))

pub sum_hit : (x m s k : ℕ) → s ≤ x → x < s + k → sum (λ b. cond (eqb b x) m 0) (range s k) ≡ m
sum_hit x m s zero l h = absurd (omega arith)
sum_hit x m s (suc k) l h =
    ⊎_elim (λ (e : s ≡ x). rw (eq-eqb s x e) (omega (arith, sum_miss x m (suc s) k (omega arith))))
    (λ (n : s ≡ x → ⊥). rw (ne_eqb s x n) (omega (arith, sum_hit x m (suc s) k (omega arith) (omega arith)))) (eq? s x)

-- ---- how often o stands in a list

pub once_range : (o s n : ℕ) → s ≤ o → o < s + n → sum (λ x. hit (eqb o x)) (range s n) ≡ 1
once_range o s n l h =
    sum_on (λ x. hit (eqb o x)) (λ b. cond (eqb b o) 1 0) (range s n) (λ a i. ap hit (Rattle.words.proofs.Bools.eqb_comm o a) ∙ one (eqb a o)) ∙ sum_hit o 1 s n l h
  where
    one : (c : Bool) → hit c ≡ cond c 1 0
    one true = refl
    one false = refl

pub once_in : (o : ℕ) (l : List ℕ) → sum (λ x. hit (eqb o x)) l ≡ 1 → In o l
once_in o [] e = absurd (omega arith)
once_in o (x ∷ l) e =
    ⊎_elim (λ (q : o ≡ x). inl q) (λ (n : o ≡ x → ⊥). let m : hit (eqb o x) ≡ 0 = ap hit (ne_eqb o x n) in inr (once_in o l (omega arith))) (eq? o x)

-- and at one place only
none_in : (o : ℕ) (l : List ℕ) (p : ℕ) → sum (λ x. hit (eqb o x)) l ≡ 0 → p < length l → get_or l p 0 ≡ o → ⊥
none_in o [] p e h q = omega arith
none_in o (x ∷ l) zero e h q = let m : hit (eqb o x) ≡ 1 = ap hit (eq-eqb o x (sym q)) in omega arith
none_in o (x ∷ l) (suc p) e h q = none_in o l p (omega arith) (omega arith) q

pub once_place : (o : ℕ) (l : List ℕ) → sum (λ x. hit (eqb o x)) l ≡ 1 → (p q : ℕ) → p < length l → q < length l → get_or l p 0 ≡ o → get_or l q 0 ≡ o → p ≡ q
once_place o [] e p q h k u v = absurd (omega arith)
once_place o (x ∷ l) e zero zero h k u v = refl
once_place o (x ∷ l) e zero (suc q) h k u v = let m : hit (eqb o x) ≡ 1 = ap hit (eq-eqb o x (sym u)) in absurd (none_in o l q (omega arith) (omega arith) v)
once_place o (x ∷ l) e (suc p) zero h k u v = let m : hit (eqb o x) ≡ 1 = ap hit (eq-eqb o x (sym v)) in absurd (none_in o l p (omega arith) (omega arith) u)
once_place o (x ∷ l) e (suc p) (suc q) h k u v =
    ⊎_elim
    (λ (f : o ≡ x). let m : hit (eqb o x) ≡ 1 = ap hit (eq-eqb o x f) in absurd (none_in o l p (omega arith) (omega arith) u))
    (λ (n : o ≡ x → ⊥). let m : hit (eqb o x) ≡ 0 = ap hit (ne_eqb o x n) in ap suc (once_place o l (omega arith) p q (omega arith) (omega arith) u v)) (eq? o x)
