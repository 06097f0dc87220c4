-- The registers that the pool has given: every member that writes has one, and it is held at least until the last reader of its value.
-- Assumes nothing.
use mathlib.Core.Path.{◌≡◌, refl, sym, subst}
use mathlib.Core.Logic.{inl, inr}
use mathlib.Core.Bool.{Bool, true, false, cond}
use mathlib.Core.List.{List, [], ◌∷◌}
use Prim.Native.Nat.{ℕ, ◌≤◌, max}
use native.Mathlib.Nat.{le_trans, le-max_left, le-max_right}
use lib.Dec.{T, eqb}
use lib.ListN.{get_or}
use borrow.Author.Tests.{eqb-true, eqb-false}
use Rattle.words.specs.Lists.{lookup, In}
use Rattle.model.specs.Analyse.{Fact}
use Rattle.model.specs.Legal.{fact_at, reads_from}
use Rattle.model.specs.Move.{Pool, found, given_reg, give, gives, release, last_of, last_use, pooled}
use Rattle.laws.proofs.Reuse.{Got}

-- ---- lookups

pub look_got : (gs : List (ℕ × ℕ)) (p r d : ℕ) → Got p r gs → Got p (lookup gs p d) gs
look_got [] p r d g = absurd g
look_got (x ∷ gs) p r d g = go (λ h. look_got gs p r d h) (eqb p x.0) refl g
  where
    go : (Got p r gs → Got p (lookup gs p d) gs) → (b : Bool) → eqb p x.0 ≡ b → Got p r (x ∷ gs) → Got p (elim b as (λ z. ℕ) [ true ↦ x.1 | false ↦ lookup gs p d ]) (x ∷ gs)
    go k true e g = inl (eqb-true p x.0 e, refl)
    go k false e (inl f) = absurd (eqb-false p x.0 e f.0)
    go k false e (inr h) = inr (k h)

pub look_any : (gs : List (ℕ × ℕ)) (p r d d' : ℕ) → Got p r gs → lookup gs p d ≡ lookup gs p d'
look_any [] p r d d' g = absurd g
look_any (x ∷ gs) p r d d' g = go (λ h. look_any gs p r d d' h) (eqb p x.0) refl g
  where
    go : (Got p r gs → lookup gs p d ≡ lookup gs p d') → (b : Bool) → eqb p x.0 ≡ b → Got p r (x ∷ gs)
        → ◌≡◌ {A = ℕ} (elim b as (λ z. ℕ) [ true ↦ x.1 | false ↦ lookup gs p d ]) (elim b as (λ z. ℕ) [ true ↦ x.1 | false ↦ lookup gs p d' ])
    go k true e g = refl
    go k false e (inl f) = absurd (eqb-false p x.0 e f.0)
    go k false e (inr h) = k h

-- ---- each member that writes is given one

gives_keeps : (q u : ℕ) (ds : List ℕ) (s : Pool) (p r : ℕ) → Got p r s.given → Got p r (gives q u s ds).given
gives_keeps q u [] s p r g = g
gives_keeps q u (d ∷ ds) s p r g = gives_keeps q u ds (give q u s d) p r (inr g)

gives_gets : (q u : ℕ) (ds : List ℕ) (d : ℕ) (s : Pool) → In d ds → (r : ℕ) × Got q r (gives q u s ds).given
gives_gets q u [] d s i = absurd i
gives_gets q u (e ∷ ds) d s i =
    let r = given_reg s.types (found (get_or s.types e 0) s.free) in
    (r, gives_keeps q u ds (give q u s e) q r (inl (refl, refl)))

module _ (run : List Fact) (there : ℕ → Bool) where
  pooled_keeps : (ps : List ℕ) (s : Pool) (p r : ℕ) → Got p r s.given → Got p r (pooled run there s ps).given
  pooled_keeps [] s p r g = g
  pooled_keeps (q ∷ ps) s p r g =
      pooled_keeps ps (gives q (last_use run there q) (release q s) (fact_at run q).defs) p r (gives_keeps q (last_use run there q) (fact_at run q).defs (release q s) p r g)

  pub pooled_gets : (ps : List ℕ) (s : Pool) (p d : ℕ) → In p ps → In d (fact_at run p).defs → (r : ℕ) × Got p r (pooled run there s ps).given
  pooled_gets [] s p d i j = absurd i
  pooled_gets (q ∷ ps) s p d (inl e) j =
      let g = gives_gets q (last_use run there q) (fact_at run q).defs d (release q s) (subst (λ y. In d (fact_at run y).defs) e j) in
      (g.0, pooled_keeps ps (gives q (last_use run there q) (release q s) (fact_at run q).defs) p g.0 (subst (λ y. Got y g.0 (gives q (last_use run there q) (release q s) (fact_at run q).defs).given) (sym e) g.1))
  pooled_gets (q ∷ ps) s p d (inr i) j = pooled_gets ps (gives q (last_use run there q) (release q s) (fact_at run q).defs) p d i j

  -- ---- last uses

  pub last_reader : (p q : ℕ) (qs : List ℕ) → In q qs → T (reads_from run q p) → q ≤ last_of run there p qs
  last_reader p q [] i t = absurd i
  last_reader p q (x ∷ qs) i t = go (λ j. last_reader p q qs j t) (reads_from run x p) refl i
    where
      go : (In q qs → q ≤ last_of run there p qs) → (b : Bool) → reads_from run x p ≡ b → In q (x ∷ qs) → q ≤ cond b (max x (last_of run there p qs)) (last_of run there p qs)
      go k true e (inl f) = subst (λ y. y ≤ max x (last_of run there p qs)) (sym f) (le-max_left x (last_of run there p qs))
      go k true e (inr j) = le_trans (k j) (le-max_right x (last_of run there p qs))
      go k false e (inl f) = absurd (subst T e (subst (λ y. T (reads_from run y p)) f t))
      go k false e (inr j) = k j
