-- An arm looks only at the first three registers read. Assumes nothing.
use Rattle.std.specs.Prelude.{None, Some}
use mathlib.Core.Bool.{Bool, true, false, cond, ◌&&◌, ◌||◌}
use mathlib.Core.List.{List, [], ◌∷◌}
use mathlib.Core.Path.{◌≡◌, refl, ap, ◌∙◌}
use Prim.Native.Nat.{ℕ}
use lib.Dec.{eqb, leb, ltb}
use lib.ListN.{get_or}
use Rattle.model.specs.Kinds.{Arm, const, constF, addr_of, move, select, truth, bin, index, check, dopeLen, load, alloc, layout_of, signal, fills, store, cat, native, stops, deref, writes, other}
use Rattle.model.specs.Picture.{Inst, form}
use Rattle.model.specs.Analyse.{Org, Unknown, Temp, No, Movable, eff, arm, inside, sized, same_org, pieces}

module _ (i : Inst) (p : ℕ) (list : List Org) (k k' : Bool) (o o' : ℕ → Org) (l l' : ℕ → Bool) (y y' : ℕ → Bool)
    (ek : k ≡ k') (e0 : o 0 ≡ o' 0) (e1 : o 1 ≡ o' 1) (e2 : o 2 ≡ o' 2) (m0 : l 0 ≡ l' 0) (m1 : l 1 ≡ l' 1) (m2 : l 2 ≡ l' 2) (ey : sized y (o 0) ≡ sized y' (o 0)) where
  pub arm_ext : (A : Arm) → arm i p k o l y list A ≡ arm i p k' o' l' y' list A
  arm_ext const = refl
  arm_ext constF = refl
  arm_ext addr_of = refl
  arm_ext move = ap (λ (a : Org). eff Movable [] false None false a (l 0) false) e0 ∙ ap (λ (b : Bool). eff Movable [] false None false (o' 0) b false) m0
  arm_ext select =
      ap (λ (a : Org). eff Movable [] false None false (cond (same_org a (o 2)) a Unknown) (l 1 && l 2) false) e1
      ∙ ap (λ (a : Org). eff Movable [] false None false (cond (same_org (o' 1) a) (o' 1) Unknown) (l 1 && l 2) false) e2
      ∙ ap (λ (a : Bool). eff Movable [] false None false (cond (same_org (o' 1) (o' 2)) (o' 1) Unknown) (a && l 2) false) m1
      ∙ ap (λ (a : Bool). eff Movable [] false None false (cond (same_org (o' 1) (o' 2)) (o' 1) Unknown) (l' 1 && a) false) m2
  arm_ext truth = refl
  arm_ext bin =
      ap (λ (a : Bool). cond (a && (ltb 0 (form i) && leb (form i) 3 && l 1 || eqb (form i) 4 && k)) (eff Movable [] false None false Unknown true false) (eff No [] false None false Unknown false false)) m0
      ∙ ap (λ (a : Bool). cond (l' 0 && (ltb 0 (form i) && leb (form i) 3 && a || eqb (form i) 4 && k)) (eff Movable [] false None false Unknown true false) (eff No [] false None false Unknown false false)) m1
      ∙ ap (λ (a : Bool). cond (l' 0 && (ltb 0 (form i) && leb (form i) 3 && l' 1 || eqb (form i) 4 && a)) (eff Movable [] false None false Unknown true false) (eff No [] false None false Unknown false false)) ek
  arm_ext index = ap (λ (a : Org). eff Movable [] false None false a false false) e0
  arm_ext check = ap (λ (a : Bool). cond (eqb (form i) 3 && a) (eff Movable [] false None false Unknown false false) (eff No [] false None false Unknown false false)) m0
  arm_ext dopeLen = ap (λ (a : Org). eff Movable (a ∷ []) false None false Unknown true false) e0
  arm_ext load =
      ap (λ (b : Bool). cond (eqb (form i) 4) (eff No [] false None false Unknown false false) (eff Movable (o 0 ∷ []) false None false (inside (o 0)) b false)) ey
      ∙ ap (λ (a : Org). cond (eqb (form i) 4) (eff No [] false None false Unknown false false) (eff Movable (a ∷ []) false None false (inside a) (sized y' a) false)) e0
  arm_ext alloc = ap (λ (b : Bool). eff (cond b Movable No) [] b None false (Temp p) false false) m0
  arm_ext layout_of = ap (λ (a : Org). cond (eqb (form i) 0) (eff Movable (a ∷ []) true None false (Temp p) false true) (eff No [] false None false Unknown false false)) e0
  arm_ext signal = refl
  arm_ext fills = ap (λ (a : Org). eff Movable [] false (Some a) false Unknown false false) e0
  arm_ext store = ap (λ (a : Org). cond (eqb (form i) 4) (eff No [] false None false Unknown false false) (eff Movable [] false (Some a) false Unknown false false)) e0
  arm_ext cat = ap (λ (a : Org). eff Movable (pieces (get_or i 9 0) list) false (Some a) false Unknown false false) e0
  arm_ext native = refl
  arm_ext stops = refl
  arm_ext deref = refl
  arm_ext writes = ap (λ (a : Org). eff No [] false (Some a) false Unknown false false) e0
  arm_ext other = refl
