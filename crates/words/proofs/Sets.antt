-- Sets of numbers as lists of Bool, and operators on them that only drop or only add members: repeated often enough they come to
-- rest. Assumes nothing.
use mathlib.Core.Path.{◌≡◌, refl, sym, ap, ◌∙◌}
use mathlib.Core.Logic.{◌⊎◌, inl, inr, ⊎_elim}
use mathlib.Core.Bool.{Bool, true, false}
use mathlib.Core.List.{List, [], ◌∷◌}
use Prim.Native.Nat.{ℕ, zero, suc, ◌+◌, ◌≤◌, ◌<◌, zero-le, suc-le-suc}
use native.Mathlib.Nat.{suc_inj}
use native.Mathlib.Omega.{arith}
use lib.Dec.{T}
use lib.ListN.{length}
use Rattle.words.specs.Lists.{iterate, member, count}

infix 20 ◌⊑◌
abbrev pub ◌⊑◌ : (ℕ → Bool) → (ℕ → Bool) → Type 0
L ⊑ M = (p : ℕ) → T (L p) → T (M p)

pub count_le : (S : List Bool) → count S ≤ length S
count_le [] = zero-le
count_le (true ∷ S) = suc-le-suc (count_le S)
count_le (false ∷ S) = omega (arith, count_le S)

-- a part that is no smaller is the whole
pub part_or_less : (S S' : List Bool) → length S ≡ length S' → member S' ⊑ member S → (S' ≡ S) ⊎ (count S' < count S)
part_or_less [] [] e h = inl refl
part_or_less [] (y ∷ S') e h = absurd (omega arith)
part_or_less (x ∷ S) [] e h = absurd (omega arith)
part_or_less (x ∷ S) (y ∷ S') e h = go x y (h 0) (part_or_less S S' (suc_inj e) (λ p t. h (suc p) t))
  where
    go : (x y : Bool) → (T y → T x) → (S' ≡ S) ⊎ (count S' < count S) → (◌≡◌ {A = List Bool} (y ∷ S') (x ∷ S)) ⊎ (count (y ∷ S') < count (x ∷ S))
    go true true k (inl e) = inl (ap (λ (X : List Bool). true ∷ X) e)
    go true true k (inr l) = inr (suc-le-suc l)
    go true false k (inl e) = inr (omega (arith, ap count e))
    go true false k (inr l) = inr (omega arith)
    go false true k r = absurd (k tt)
    go false false k (inl e) = inl (ap (λ (X : List Bool). false ∷ X) e)
    go false false k (inr l) = inr l

-- the same for sets of any lengths
pub count_within : (S S' : List Bool) → member S ⊑ member S' → count S ≤ count S'
count_within [] S' h = zero-le
count_within (true ∷ S) [] h = absurd (h 0 tt)
count_within (false ∷ S) [] h = count_within S [] (λ p t. h (suc p) t)
count_within (true ∷ S) (true ∷ S') h = suc-le-suc (count_within S S' (λ p t. h (suc p) t))
count_within (true ∷ S) (false ∷ S') h = absurd (h 0 tt)
count_within (false ∷ S) (true ∷ S') h = omega (arith, count_within S S' (λ p t. h (suc p) t))
count_within (false ∷ S) (false ∷ S') h = count_within S S' (λ p t. h (suc p) t)

pub at_rest : {A : Type 0} (D : A → A) (a : A) → D a ≡ a → (k : ℕ) → iterate D k a ≡ a
at_rest D a e zero = refl
at_rest D a e (suc k) = ap (iterate D k) e ∙ at_rest D a e k

-- what is kept by one step is kept by all
pub iterate_keeps : {A : Type 0} (P : A → Type 0) (D : A → A) → ((a : A) → P a → P (D a)) → (k : ℕ) (a : A) → P a → P (iterate D k a)
iterate_keeps P D h zero a p = p
iterate_keeps P D h (suc k) a p = iterate_keeps P D h k (D a) (h a p)

-- ---- operators that keep the length m

module _ (D : List Bool → List Bool) (m : ℕ) (size : (S : List Bool) → length (D S) ≡ m) where
  still : (S : List Bool) → D S ≡ S → (k : ℕ) → D (iterate D k S) ≡ iterate D k S
  still S e k = ap D (at_rest D S e k) ∙ e ∙ sym (at_rest D S e k)

  -- and only drop
  pub rests : ((S : List Bool) → member (D S) ⊑ member S) → (k : ℕ) (S : List Bool) → length S ≡ m → count S ≤ k → D (iterate D k S) ≡ iterate D k S
  rests d zero S e h = ⊎_elim (λ (f : D S ≡ S). f) (λ (n : count (D S) < count S). absurd (omega arith)) (part_or_less S (D S) (e ∙ sym (size S)) (d S))
  rests d (suc k) S e h =
      ⊎_elim (λ (f : D S ≡ S). still S f (suc k)) (λ (n : count (D S) < count S). rests d k (D S) (size S) (omega arith)) (part_or_less S (D S) (e ∙ sym (size S)) (d S))

  -- and grow with their argument
  pub rests_up : ((S S' : List Bool) → member S ⊑ member S' → member (D S) ⊑ member (D S')) → (k : ℕ) (S : List Bool) → length S ≡ m → member S ⊑ member (D S)
      → m ≤ count S + k → D (iterate D k S) ≡ iterate D k S
  rests_up mono zero S e i h =
      ⊎_elim (λ (f : S ≡ D S). sym f) (λ (n : count S < count (D S)). absurd (omega (arith, count_le (D S), size S))) (part_or_less (D S) S (size S ∙ sym e) i)
  rests_up mono (suc k) S e i h =
      ⊎_elim (λ (f : S ≡ D S). still S (sym f) (suc k)) (λ (n : count S < count (D S)). rests_up mono k (D S) (size S) (mono S (D S) i) (omega arith))
      (part_or_less (D S) S (size S ∙ sym e) i)
