-- Whether the value of an instruction points to a layout, arm by arm. Assumes nothing.
use Rattle.std.specs.Prelude.{None, Some}
use mathlib.Core.Bool.{Bool, true, false, cond, ◌&&◌, ◌||◌}
use mathlib.Core.List.{List, [], ◌∷◌}
use mathlib.Core.Path.{◌≡◌, refl, ◌∙◌}
use Prim.Native.Nat.{ℕ}
use lib.Dec.{eqb, leb, ltb}
use lib.ListN.{get_or}
use Rattle.model.specs.Picture.{Inst, form}
use Rattle.model.specs.Analyse as M
use Rattle.model.specs.Analyse.{Org, Unknown, Ro, Heap, Frame, Temp, Img, Movable, No, sized, inside, same_org, eff, arm}
use Rattle.effects.specs.Arms.{arm_of, read_at, leads}
use Rattle.effects.specs.declared.arms.Arm.{Arm}
use Rattle.effects.specs.declared.arms.Arm.TheVariants.{Const, ConstF, AddrOf, Move, Select, Truth, Bin, Index, Check, DopeLen, Load, Alloc, LayoutOf, Signal, Fills, Store, Cat, Native, Stops, Deref, Writes, Other}
use Rattle.effects.specs.declared.arms.Effect.{Effect}
use Rattle.effects.specs.declared.input.Input.{Input}
use Rattle.analyse.proofs.Layouts.{After}

module _ (i : Inst) (p : ℕ) (list : List Org) (k : Bool) (o : ℕ → Org) (l : ℕ → Bool) (y y' : ℕ → Bool) (x : Input) (e : Effect) (e0 : sized (λ j. (read_at x 0).layout) (o 0) ≡ sized y (o 0)) (e1 : sized (λ j. (read_at x 1).layout) (o 1) ≡ sized y (o 1)) where
  abbrev plain : M.Effect
  plain = eff No [] false None false Unknown false false

  abbrev Leads : Bool → M.Effect → Type 0
  Leads b E = sized (λ j. b) E.org ≡ sized y' E.org

  -- of a native call
  abbrev told : Bool → Bool → M.Effect
  told a b = cond a (eff Movable [] true None false (Img p) false false) (cond b (eff No [] false None false (Temp p) false false) (eff No [] false None true Unknown false false))

  either : (b c : Bool) (E F : M.Effect) → Leads b E → Leads b F → Leads b (cond c E F)
  either b true E F u v = u
  either b false E F u v = v

  no_block : (b : Bool) (a : Org) → sized (λ j. b) (inside a) ≡ sized y' (inside a)
  no_block b Unknown = refl
  no_block b Ro = refl
  no_block b Heap = refl
  no_block b Frame = refl
  no_block b (Temp j) = refl
  no_block b (Img j) = refl

  pub leads_right : (A : Arm) → e.layout ≡ (arm i p k o l y list (arm_of A)).layout → After y y' p (arm i p k o l y list (arm_of A)).layout → Leads (leads A x.reads e) (arm i p k o l y list (arm_of A))
  unfolding leads
  leads_right Const h t = refl
  leads_right ConstF h t = refl
  leads_right AddrOf h t = go (eqb (form i) 2 || eqb (form i) 4) (eqb (form i) 0)
    where
      go : (a b : Bool) → sized (λ j. e.layout) (cond a Ro (cond b Frame Unknown)) ≡ sized y' (cond a Ro (cond b Frame Unknown))
      go true b = refl
      go false true = refl
      go false false = refl
  leads_right Move h t = e0 ∙ t.others refl (o 0)
  leads_right Select h t = go (same_org (o 1) (o 2))
    where
      go : (a : Bool) → sized (λ j. (read_at x 1).layout) (cond a (o 1) Unknown) ≡ sized y' (cond a (o 1) Unknown)
      go true = e1 ∙ t.others refl (o 1)
      go false = refl
  leads_right Truth h t = refl
  leads_right Bin h t = either e.layout (l 0 && (ltb 0 (form i) && leb (form i) 3 && l 1 || eqb (form i) 4 && k)) (eff Movable [] false None false Unknown true false) plain refl refl
  leads_right Index h t = e0 ∙ t.others refl (o 0)
  leads_right Check h t = either e.layout (eqb (form i) 3 && l 0) (eff Movable [] false None false Unknown false false) plain refl refl
  leads_right DopeLen h t = refl
  leads_right Load h t = either e.layout (eqb (form i) 4) plain (eff Movable (o 0 ∷ []) false None false (inside (o 0)) (sized y (o 0)) false) refl (no_block e.layout (o 0))
  leads_right Alloc h t = h ∙ t.own
  leads_right LayoutOf h t = go (eqb (form i) 0) h t.own
    where
      go : (a : Bool) → e.layout ≡ (cond a (eff Movable (o 0 ∷ []) true None false (Temp p) false true) plain).layout → (cond a (eff Movable (o 0 ∷ []) true None false (Temp p) false true) plain).layout ≡ y' p
          → Leads e.layout (cond a (eff Movable (o 0 ∷ []) true None false (Temp p) false true) plain)
      go true u v = u ∙ v
      go false u v = refl
  leads_right Signal h t = refl
  leads_right Fills h t = refl
  leads_right Store h t = either e.layout (eqb (form i) 4) plain (eff Movable [] false (Some (o 0)) false Unknown false false) refl refl
  leads_right Cat h t = refl
  leads_right Native h t = go (eqb (form i) 1 && eqb (get_or i 8 0) 1) (eqb (form i) 2) h t.own
    where
      go : (a b : Bool) → e.layout ≡ (told a b).layout → (told a b).layout ≡ y' p → Leads e.layout (told a b)
      go true b u v = refl
      go false true u v = u ∙ v
      go false false u v = refl
  leads_right Stops h t = refl
  leads_right Deref h t = refl
  leads_right Writes h t = refl
  leads_right Other h t = refl
