-- Laws of `last_below f p`, and the fixed answers of the loop that looks for it from behind. Assumes nothing.
use mathlib.Core.Path.{◌≡◌, refl, sym, ap, ◌∙◌, subst}
use mathlib.Core.Logic.{◌⊎◌, inl, inr, ⊎_elim}
use mathlib.Core.Bool.{Bool, true, false, cond}
use Prim.Native.Nat.{ℕ, zero, suc, ◌≤◌, ◌<◌}
use native.Mathlib.Nat.{eq-or-lt_of_le, le_of_suc-le-suc, suc_inj, suc-ne-zero}
use native.Mathlib.Omega.{arith}
use lib.Dec.{T}
use Rattle.words.specs.Last.{last_below}
use Rattle.words.proofs.Bools.{true_T, clash, bool?, lt?}

module _ (f : ℕ → Bool) where
  pub last_yes : (p : ℕ) → f p ≡ true → last_below f (suc p) ≡ suc p
  unfolding last_below
  last_yes p e = ap (λ (b : Bool). cond b (suc p) (last_below f p)) e

  pub last_no : (p : ℕ) → f p ≡ false → last_below f (suc p) ≡ last_below f p
  unfolding last_below
  last_no p e = ap (λ (b : Bool). cond b (suc p) (last_below f p)) e

  pub last_step : (p : ℕ) → last_below f (suc p) ≡ cond (f p) (suc p) (last_below f p)
  unfolding last_below
  last_step p = refl

  pub last_low : (p : ℕ) → last_below f p ≤ p
  unfolding last_below
  last_low zero = omega arith
  last_low (suc p) = ⊎_elim (λ e. omega (arith, last_yes p e)) (λ e. let h = last_low p in omega (arith, last_no p e)) (bool? (f p))

  -- ---- what it is

  -- nothing behind it passes
  pub last_after : (p k : ℕ) → last_below f p ≤ k → k < p → f k ≡ false
  last_after zero k l h = absurd (omega arith)
  last_after (suc p) k l h = go (last_after p k) (f p) refl (eq-or-lt_of_le (le_of_suc-le-suc h))
    where
      go : (last_below f p ≤ k → k < p → f k ≡ false) → (b : Bool) → f p ≡ b → (k ≡ p) ⊎ (k < p) → f k ≡ false
      go r true e c = absurd (omega (arith, last_yes p e))
      go r false e (inl q) = ap f q ∙ e
      go r false e (inr m) = r (omega (arith, last_no p e)) m

  -- it passes
  pub last_passes : (p q : ℕ) → last_below f p ≡ suc q → (q < p) × (f q ≡ true)
  unfolding last_below
  last_passes zero q e = absurd (suc-ne-zero q (sym e))
  last_passes (suc p) q e = go (last_passes p q) (f p) refl
    where
      go : (last_below f p ≡ suc q → (q < p) × (f q ≡ true)) → (b : Bool) → f p ≡ b → (q < suc p) × (f q ≡ true)
      go r true t = let s : p ≡ q = suc_inj (sym (last_yes p t) ∙ e) in (omega arith, sym (ap f s) ∙ t)
      go r false t = let z = r (sym (last_no p t) ∙ e) in let l = z.0 in (omega arith, z.1)

  -- found at q: it passes, and none behind it
  pub last_is : (n q : ℕ) → q < n → f q ≡ true → ((k : ℕ) → q < k → k < n → f k ≡ false) → last_below f n ≡ suc q
  last_is zero q h e g = absurd (omega arith)
  last_is (suc n) q h e g = ⊎_elim (λ (t : f n ≡ true). last_yes n t ∙ here t) (λ (t : f n ≡ false). last_no n t ∙ last_is n q (below t) e (λ k a b. g k a (omega arith))) (bool? (f n))
    where
      here : f n ≡ true → suc n ≡ suc q
      here t = ⊎_elim (λ (z : q < n). clash t (g n z (omega arith))) (λ (z : n ≤ q). omega arith) (lt? q n)

      below : f n ≡ false → q < n
      below t = ⊎_elim (λ (z : q < n). z) (λ (z : n ≤ q). let y : q ≡ n = omega arith in clash e (ap f y ∙ t)) (lt? q n)

pub last_mono : (f g : ℕ → Bool) (n : ℕ) → ((k : ℕ) → T (f k) → T (g k)) → last_below f n ≤ last_below g n
unfolding last_below
last_mono f g zero h = omega arith
last_mono f g (suc n) h = go (f n) (g n) refl refl (h n) (last_mono f g n h)
  where
    go : (a b : Bool) → f n ≡ a → g n ≡ b → (T (f n) → T (g n)) → last_below f n ≤ last_below g n → last_below f (suc n) ≤ last_below g (suc n)
    go true true d e k i = omega (arith, last_yes f n d, last_yes g n e)
    go true false d e k i = absurd (subst T e (k (true_T (f n) d)))
    go false true d e k i = omega (arith, last_no f n d, last_yes g n e, last_low f n)
    go false false d e k i = omega (arith, last_no f n d, last_no g n e)

pub last_ext : (f g : ℕ → Bool) (p : ℕ) → ((k : ℕ) → k < p → f k ≡ g k) → last_below f p ≡ last_below g p
unfolding last_below
last_ext f g zero h = refl
last_ext f g (suc p) h = rw (h p (omega arith), last_ext f g p (λ k l. h k (omega arith)))
