-- Marks dropped one by one: what a pass keeps, for any rule that only gets easier as the set grows; and that passes which drop
-- nothing leave the greatest legal set. Assumes nothing.
use mathlib.Core.Path.{◌≡◌, refl, sym, ap, ◌∙◌, subst}
use mathlib.Core.Logic.{◌⊎◌, inl, inr, ⊎_elim}
use mathlib.Core.Bool.{Bool, true, false, not, ◌&&◌, cond}
use mathlib.Core.List.{List, [], ◌∷◌}
use Prim.Native.Nat.{ℕ, zero, suc, ◌+◌, ◌-◌, ◌≤◌, ◌<◌}
use native.Mathlib.Nat.{add-zero, eq-or-lt_of_le}
use native.Mathlib.Omega.{arith}
use lib.Dec.{T, eqb}
use lib.ListN.{length, set, length-set}
use lib.Seq.{get_or-set_same, get_or-set_other}
use Rattle.words.specs.Lists.{hit}
use Rattle.words.proofs.Bools.{T_true, true_T, clash, eq?}
use Rattle.legalset.specs.Marks.{in_set, members, sifted, lost, own, Passed, ◌⊑◌}

-- ---- one mark made 0

gone : (S : List ℕ) (p : ℕ) → p < length S → in_set (set S p 0) p ≡ false
unfolding in_set
gone S p h = ap (λ (x : ℕ). not (eqb x 0)) (get_or-set_same S p 0 0 h)

stays : (S : List ℕ) (p q : ℕ) → (q ≡ p → ⊥) → in_set (set S p 0) q ≡ in_set S q
unfolding in_set
stays S p q z = ap (λ (x : ℕ). not (eqb x 0)) (get_or-set_other S p q 0 0 z)

members_set : (S : List ℕ) (p : ℕ) → in_set S p ≡ true → members (set S p 0) + 1 ≡ members S
unfolding members in_set
members_set [] p e = absurd (mathlib.Core.Bool.true≢false (sym e))
members_set (x ∷ S) zero e = ap (λ (b : Bool). 0 + members S + 1) e ∙ (let h = ap hit e in omega arith)
members_set (x ∷ S) (suc p) e = let h = members_set S p e in omega arith

-- ---- one position looked at

module _ (S : List ℕ) (p : ℕ) (ok : Bool) where
  -- what happens
  pub data Sifts : List ℕ → ℕ → Type 0 where
    keeps : (T (in_set S p) → ok ≡ true) → Sifts S 0
    drops : in_set S p ≡ true → ok ≡ false → Sifts (set S p 0) 1

  pub sifts : Sifts (sifted S p ok) (lost S p ok)
  unfolding sifted lost
  sifts = go (in_set S p) ok refl refl
    where
      go : (a b : Bool) → in_set S p ≡ a → ok ≡ b → Sifts (cond (a && not b) (set S p 0) S) (hit (a && not b))
      go true true e f = keeps (λ t. f)
      go true false e f = drops e f
      go false b e f = keeps (λ t. absurd (subst T e t))

module _ (ok2 : (ℕ → Bool) → (ℕ → Bool) → ℕ → Bool) where
  abbrev pub Mono : Type 0
  Mono = (L A B : ℕ → Bool) → L ⊑ A → L ⊑ B → (p : ℕ) → T (ok2 L L p) → T (ok2 A B p)

  pub passed_none : (a : ℕ) (S : List ℕ) → Passed (own ok2) a a S S 0
  passed_none a S = record { size = refl; within = λ p t. t; holds = λ L h g. h; count = add-zero (members S); left = λ z. (refl, λ p h k. absurd (omega arith)) }

  module _ (mono : Mono) {S U : List ℕ} {a b r : ℕ} (i : Passed (own ok2) a b S U r) (p : ℕ) {ok : Bool} (e : ok ≡ ok2 (in_set S) (in_set U) p) where
    -- position p besides
    go : {W : List ℕ} {d : ℕ} → Sifts U p ok W d → (c z : ℕ) → ((q : ℕ) → c ≤ q → q < z → ((a ≤ q) × (q < b)) ⊎ (q ≡ p)) → Passed (own ok2) c z S W (r + d)
    go (keeps k) c z cover = record {
      size = i.size;
      within = i.within;
      holds = i.holds;
      count = let h = i.count in omega arith;
      left = λ n. let f = i.left (omega arith) in (
        f.0,
        λ q l h t. ⊎_elim (λ y. f.1 q y.0 y.1 t)
            (λ y. let u : T (in_set U p) = subst T (ap (λ (X : List ℕ). in_set X p) (sym f.0)) (subst (λ (x : ℕ). T (in_set S x)) y t) in
            subst (λ (x : ℕ). T (own ok2 (in_set S) x)) (sym y) (subst (λ (X : List ℕ). T (ok2 (in_set S) (in_set X) p)) f.0 (true_T _ (sym e ∙ k u)))) (cover q l h),
      );
    }
    go (drops m f) c z cover = record {
      size = length-set U p 0 ∙ i.size;
      within = λ q t. i.within q (was q t (eq? q p));
      holds = λ L h g q t. still L h g q t (eq? q p);
      count = let h = i.count in let k = members_set U p m in omega arith;
      left = λ n. absurd (omega arith);
    }
      where
        was : (q : ℕ) → T (in_set (set U p 0) q) → (q ≡ p) ⊎ (q ≡ p → ⊥) → T (in_set U q)
        was q t (inl y) = true_T (in_set U q) (ap (in_set U) y ∙ m)
        was q t (inr y) = subst T (stays U p q y) t

        still : (L : ℕ → Bool) → L ⊑ in_set S → ((p : ℕ) → T (L p) → T (own ok2 L p)) → (q : ℕ) → T (L q) → (q ≡ p) ⊎ (q ≡ p → ⊥) → T (in_set (set U p 0) q)
        still L h g q t (inl y) =
            clash (T_true (ok2 (in_set S) (in_set U) p) (mono L (in_set S) (in_set U) h (i.holds L h g) p (subst (λ (x : ℕ). T (own ok2 L x)) y (g q t)))) (sym e ∙ f)
        still L h g q t (inr y) = subst T (sym (stays U p q y)) (i.holds L h g q t)

  -- up, and down
  pub passed_up : Mono → {S U : List ℕ} {a b r : ℕ} → Passed (own ok2) a b S U r → {ok : Bool} → ok ≡ ok2 (in_set S) (in_set U) b → {W : List ℕ} {d : ℕ} → W ≡ sifted U b ok → d ≡ lost U b ok
      → Passed (own ok2) a (b + 1) S W (r + d)
  passed_up mono {S} {U} {a} {b} {r} i {ok} e {W} {d} f g =
      subst (λ (X : List ℕ). Passed (own ok2) a (b + 1) S X (r + d)) (sym f) (subst (λ (x : ℕ). Passed (own ok2) a (b + 1) S (sifted U b ok) (r + x)) (sym g)
      (go mono i b e (sifts U b ok) a (b + 1) (λ q l h. ⊎_elim (λ (y : q ≡ b). inr y) (λ (y : q < b). inl (l, y)) (eq-or-lt_of_le (omega arith)))))

  pub passed_down : Mono → {S U : List ℕ} {a b r : ℕ} → 0 < a → Passed (own ok2) a b S U r → {ok : Bool} → ok ≡ ok2 (in_set S) (in_set U) (a - 1) → {W : List ℕ} {d : ℕ} → W ≡ sifted U (a - 1) ok
      → d ≡ lost U (a - 1) ok → Passed (own ok2) (a - 1) b S W (r + d)
  passed_down mono {S} {U} {a} {b} {r} h i {ok} e {W} {d} f g =
      subst (λ (X : List ℕ). Passed (own ok2) (a - 1) b S X (r + d)) (sym f) (subst (λ (x : ℕ). Passed (own ok2) (a - 1) b S (sifted U (a - 1) ok) (r + x)) (sym g)
      (go mono i (a - 1) e (sifts U (a - 1) ok) (a - 1) b (λ q l k. ⊎_elim (λ (y : a - 1 ≡ q). inr (sym y)) (λ (y : a - 1 < q). inl (omega arith, k)) (eq-or-lt_of_le l))))
