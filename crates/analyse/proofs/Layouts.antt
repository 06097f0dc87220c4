-- Which origins point to layouts, as positions are added. Assumes nothing.
use mathlib.Core.Bool.{Bool, true, false, cond}
use mathlib.Core.List.{List, [], ◌∷◌, ◌++◌}
use mathlib.Core.Logic.{⊎_elim}
use mathlib.Core.Path.{◌≡◌, refl, sym, ap, ◌∙◌}
use Prim.Native.Nat.{ℕ, zero, suc, ◌+◌, ◌*◌, ◌-◌, ◌/◌, ◌%◌, ◌≤◌, ◌<◌}
use native.Mathlib.Decide.{ℕ_discrete}
use native.Mathlib.Nat.{lt_irrefl, le_trans}
use native.Mathlib.Omega.{arith}
use lib.Dec.{eqb}
use lib.ListN.{length, length-append, get_or-append, get_or-eq_default}
use lib.Seq.{get_or-append_seam}
use Rattle.words.proofs.Bools.{lt?}
use Rattle.model.specs.Analyse.{Fact, Org, Unknown, Ro, Heap, Frame, Temp, Img, no_fact, is_layout, sized}
use Rattle.effects.specs.Origin.{org_at}

-- ---- one more position

sized_by : (f g : ℕ → Bool) (b : Bool) (k : ℕ) → f k ≡ g k → sized f (cond b (Temp k) (Img k)) ≡ sized g (cond b (Temp k) (Img k))
sized_by f g true k e = e
sized_by f g false k e = refl

sized_same : (f g : ℕ → Bool) (o : ℕ) → (4 ≤ o → f ((o - 4) / 2) ≡ g ((o - 4) / 2)) → sized f (org_at o) ≡ sized g (org_at o)
unfolding org_at
sized_same f g zero e = refl
sized_same f g (suc zero) e = refl
sized_same f g (suc (suc zero)) e = refl
sized_same f g (suc (suc (suc zero))) e = refl
sized_same f g (suc (suc (suc (suc m)))) e =
    let q : (suc (suc (suc (suc m))) - 4) / 2 ≡ m / 2 = omega arith in
    sized_by f g (eqb (m % 2) 0) (m / 2) (ap f (sym q) ∙ e (omega arith) ∙ ap g q)

pub lay_low : (past : List Fact) (o : ℕ) → o < 4 → sized (λ k. false) (org_at o) ≡ sized (is_layout past) (org_at o)
lay_low past o h = sized_same (λ k. false) (is_layout past) o (λ l. absurd (lt_irrefl o (le_trans h l)))

module _ (past : List Fact) (f : Fact) where
  lay_append : (k : ℕ) → (k ≡ length past → f.does.layout ≡ false) → is_layout past k ≡ is_layout (past ++ (f ∷ [])) k
  lay_append k n = ⊎_elim (λ (h : k < length past). ap (λ (x : Fact). x.does.layout) (sym (get_or-append past (f ∷ []) no_fact k h))) (λ (h : length past ≤ k). none_there h ∙ sym (there h (ℕ_discrete k (length past)))) (lt? k (length past))
    where
      none_there : length past ≤ k → is_layout past k ≡ false
      none_there h = ap (λ (x : Fact). x.does.layout) (get_or-eq_default past no_fact h)

      there : length past ≤ k → Dec (k ≡ length past) → is_layout (past ++ (f ∷ [])) k ≡ false
      there h (yes e) = ap (is_layout (past ++ (f ∷ []))) e ∙ ap (λ (x : Fact). x.does.layout) (get_or-append_seam past f [] no_fact) ∙ n e
      there h (no e) = ap (λ (x : Fact). x.does.layout) (get_or-eq_default (past ++ (f ∷ [])) no_fact (omega (arith, length-append past (f ∷ []), h, e)))

  -- an origin of the positions so far
  pub lay_keep : (o : ℕ) → o < 4 + 2 * length past → sized (is_layout past) (org_at o) ≡ sized (is_layout (past ++ (f ∷ []))) (org_at o)
  lay_keep o h = sized_same (is_layout past) (is_layout (past ++ (f ∷ []))) o (λ l. lay_append ((o - 4) / 2) (λ e. absurd (omega (arith, l, h, e))))

  -- any, if it is no layout
  lay_other : f.does.layout ≡ false → (o : Org) → sized (is_layout past) o ≡ sized (is_layout (past ++ (f ∷ []))) o
  lay_other e Unknown = refl
  lay_other e Ro = refl
  lay_other e Heap = refl
  lay_other e Frame = refl
  lay_other e (Temp k) = lay_append k (λ q. e)
  lay_other e (Img k) = refl

  lay_own : f.does.layout ≡ is_layout (past ++ (f ∷ [])) (length past)
  lay_own = ap (λ (x : Fact). x.does.layout) (sym (get_or-append_seam past f [] no_fact))

-- the layouts are y, and y' after position p, which is one or is none
pub record After (y y' : ℕ → Bool) (p : ℕ) (b : Bool) : Type 0 where
  pub own : b ≡ y' p
  pub others : b ≡ false → (o : Org) → sized y o ≡ sized y' o

pub after_fact : (past : List Fact) (f : Fact) → After (is_layout past) (is_layout (past ++ (f ∷ []))) (length past) f.does.layout
after_fact past f = record { own = lay_own past f; others = lay_other past f }
