-- Each arm: the struct that the code gives is what `analyse` says. Assumes nothing.
use Rattle.std.specs.Prelude.{Some}
use mathlib.Core.Bool.{Bool, true, false, cond, ◌&&◌, ◌||◌}
use mathlib.Core.List.{List, [], ◌∷◌}
use mathlib.Core.Logic.{◌⊎◌, inl, inr}
use mathlib.Core.Path.{◌≡◌, refl, sym, ap, ◌∙◌, subst}
use Prim.Native.Nat.{ℕ, suc, ◌+◌, ◌*◌, ◌≤◌, ◌<◌}
use native.Mathlib.Numerals.{add-one}
use native.Mathlib.Omega.{arith}
use borrow.Author.Tests.{eq-eqb, ne_eqb}
use lib.Dec.{eqb, leb, ltb}
use lib.ListN.{get_or}
use Rattle.model.specs.Kinds.{cat}
use Rattle.model.specs.Picture.{Inst, form}
use Rattle.model.specs.Analyse.{Org, Unknown, Ro, Frame, pieces, small, whole, same_org, inside, sized}
use Rattle.effects.specs.Origin.{org_at, wrote_at, from_at}
use Rattle.effects.specs.Arms.{arm_of, effect_of, does, read_at, asked, Right}
use Rattle.effects.specs.declared.arms.Arm.{Arm}
use Rattle.effects.specs.declared.arms.Arm.TheVariants.{Const, ConstF, AddrOf, Move, Select, Truth, Bin, Index, Check, DopeLen, Load, Alloc, LayoutOf, Signal, Fills, Store, Cat, Native, Stops, Deref, Writes, Other}
use Rattle.effects.specs.declared.arms.Class.TheVariants.{No, Movable, Free}
use Rattle.effects.specs.declared.arms.Effect.{Effect}
use Rattle.effects.specs.declared.input.Input.{Input}
use Rattle.effects.proofs.Origins.{temp_at, img_at}

pub wrote_one : (n : ℕ) → wrote_at (n + 1) ≡ Some (org_at n)
unfolding wrote_at
wrote_one n = ap wrote_at (add-one n)

pub from_one : (n : ℕ) (ps : List Org) → n < 2004 → from_at (n + 1) ps ≡ org_at n ∷ []
unfolding from_at
from_one n ps h = ap (λ (x : ℕ). from_at x ps) (add-one n) ∙ ap (λ (b : Bool). cond b ps (org_at n ∷ [])) (ne_eqb (suc n) 4294967295 (λ e. omega arith))

-- a rule for each arm, at the arm itself
abbrev At : Effect → Arm → Input → Type 0
At r a x = (i : Inst) (list : List Org) → form i ≡ x.form → get_or i 8 0 ≡ x.list → (a ≡ Const → small (whole i) ≡ x.small) → does r (pieces (get_or i 9 0) list) ≡ asked i a x list

known : {r s : Effect} {a b : Arm} {x : Input} → r ≡ s → a ≡ b → s.org < 6 + 2 * x.p → s.wrote ≤ 2004 → (s.from ≤ 2004) ⊎ ((s.from ≡ 4294967295) × (arm_of b ≡ cat)) → At s b x → Right r a x
known {r} {s} {a} {b} {x} q e l w c h = subst (λ (t : Effect). Right t a x) (sym q) (record {
  near = l;
  wrote = w;
  from = subst (λ (m : Arm). (s.from ≤ 2004) ⊎ ((s.from ≡ 4294967295) × (arm_of m ≡ cat))) (sym e) c;
  right = λ i list f g z. h i list f g (λ y. z (e ∙ y)) ∙ ap (λ (m : Arm). asked i m x list) (sym e);
})

module _ (x : Input) where
  first_low : (read_at x 0).org < 2004
  first_low = omega (arith, x.low.first, x.low.place)

  pub arm_const : {a : Arm} {r : Effect} → a ≡ Const → r ≡ effect_of Free 0 x.small false false 0 false 0 → Right r a x
  unfolding asked does wrote_at from_at org_at
  arm_const e q = known q e (omega (arith, x.low.first, x.low.place)) (omega (arith, x.low.first, x.low.place)) (inl (omega (arith, x.low.first, x.low.place))) (λ i list f g8 s. simp (s refl))

  pub arm_constF : {a : Arm} {r : Effect} → a ≡ ConstF → r ≡ effect_of Free 0 false false false 0 false 0 → Right r a x
  unfolding asked does wrote_at from_at org_at
  arm_constF e q = known q e (omega (arith, x.low.first, x.low.place)) (omega (arith, x.low.first, x.low.place)) (inl (omega (arith, x.low.first, x.low.place))) (λ i list f g8 s. refl)

  pub arm_addr_of : {a : Arm} {r : Effect} → a ≡ AddrOf → (g : ℕ) → org_at g ≡ cond (eqb x.form 2 || eqb x.form 4) Ro (cond (eqb x.form 0) Frame Unknown) → g < 4 → r ≡ effect_of Free g false false false 0 false 0 → Right r a x
  unfolding asked does wrote_at from_at org_at
  arm_addr_of e g eg ng q = known q e (omega (arith, ng)) (omega (arith, x.low.first, x.low.place)) (inl (omega (arith, x.low.first, x.low.place))) (λ i list f g8 s. simp (f, eg))

  pub arm_move : {a : Arm} {r : Effect} → a ≡ Move → r ≡ effect_of Movable (read_at x 0).org (read_at x 0).len false false 0 false 0 → Right r a x
  unfolding asked does wrote_at from_at org_at
  arm_move e q = known q e (omega (arith, x.low.first, x.low.place)) (omega (arith, x.low.first, x.low.place)) (inl (omega (arith, x.low.first, x.low.place))) (λ i list f g8 s. refl)

  pub arm_select : {a : Arm} {r : Effect} → a ≡ Select → (g : ℕ) → org_at g ≡ cond (same_org (org_at (read_at x 1).org) (org_at (read_at x 2).org)) (org_at (read_at x 1).org) Unknown → g ≤ (read_at x 1).org → r ≡ effect_of Movable g ((read_at x 1).len && (read_at x 2).len) false false 0 false 0 → Right r a x
  unfolding asked does wrote_at from_at org_at
  arm_select e g eg ng q = known q e (omega (arith, ng, x.low.second)) (omega (arith, x.low.first, x.low.place)) (inl (omega (arith, x.low.first, x.low.place))) (λ i list f g8 s. simp (eg))

  pub arm_truth : {a : Arm} {r : Effect} → a ≡ Truth → r ≡ effect_of Movable 0 true false false 0 false 0 → Right r a x
  unfolding asked does wrote_at from_at org_at
  arm_truth e q = known q e (omega (arith, x.low.first, x.low.place)) (omega (arith, x.low.first, x.low.place)) (inl (omega (arith, x.low.first, x.low.place))) (λ i list f g8 s. refl)

  pub arm_bin_yes : {a : Arm} {r : Effect} → a ≡ Bin → ((read_at x 0).len && (ltb 0 x.form && leb x.form 3 && (read_at x 1).len || eqb x.form 4 && x.divisor)) ≡ true → r ≡ effect_of Movable 0 true false false 0 false 0 → Right r a x
  unfolding asked does wrote_at from_at org_at
  arm_bin_yes e h0 q = known q e (omega (arith, x.low.first, x.low.place)) (omega (arith, x.low.first, x.low.place)) (inl (omega (arith, x.low.first, x.low.place))) (λ i list f g8 s. simp (f, h0))

  pub arm_bin_no : {a : Arm} {r : Effect} → a ≡ Bin → ((read_at x 0).len && (ltb 0 x.form && leb x.form 3 && (read_at x 1).len || eqb x.form 4 && x.divisor)) ≡ false → r ≡ effect_of No 0 false false false 0 false 0 → Right r a x
  unfolding asked does wrote_at from_at org_at
  arm_bin_no e h0 q = known q e (omega (arith, x.low.first, x.low.place)) (omega (arith, x.low.first, x.low.place)) (inl (omega (arith, x.low.first, x.low.place))) (λ i list f g8 s. simp (f, h0))

  pub arm_index : {a : Arm} {r : Effect} → a ≡ Index → r ≡ effect_of Movable (read_at x 0).org false false false 0 false 0 → Right r a x
  unfolding asked does wrote_at from_at org_at
  arm_index e q = known q e (omega (arith, x.low.first, x.low.place)) (omega (arith, x.low.first, x.low.place)) (inl (omega (arith, x.low.first, x.low.place))) (λ i list f g8 s. refl)

  pub arm_check_yes : {a : Arm} {r : Effect} → a ≡ Check → (eqb x.form 3 && (read_at x 0).len) ≡ true → r ≡ effect_of Movable 0 false false false 0 false 0 → Right r a x
  unfolding asked does wrote_at from_at org_at
  arm_check_yes e h0 q = known q e (omega (arith, x.low.first, x.low.place)) (omega (arith, x.low.first, x.low.place)) (inl (omega (arith, x.low.first, x.low.place))) (λ i list f g8 s. simp (f, h0))

  pub arm_check_no : {a : Arm} {r : Effect} → a ≡ Check → (eqb x.form 3 && (read_at x 0).len) ≡ false → r ≡ effect_of No 0 false false false 0 false 0 → Right r a x
  unfolding asked does wrote_at from_at org_at
  arm_check_no e h0 q = known q e (omega (arith, x.low.first, x.low.place)) (omega (arith, x.low.first, x.low.place)) (inl (omega (arith, x.low.first, x.low.place))) (λ i list f g8 s. simp (f, h0))

  pub arm_dopeLen : {a : Arm} {r : Effect} → a ≡ DopeLen → r ≡ effect_of Movable 0 true false false 0 false ((read_at x 0).org + 1) → Right r a x
  unfolding asked does wrote_at org_at
  arm_dopeLen e q = known q e (omega (arith, x.low.first, x.low.place)) (omega (arith, x.low.first, x.low.place)) (inl (omega (arith, x.low.first, x.low.place))) (λ i list f g8 s. simp (from_one (read_at x 0).org (pieces (get_or i 9 0) list) first_low))

  pub arm_load_no : {a : Arm} {r : Effect} → a ≡ Load → x.form ≡ 4 → r ≡ effect_of No 0 false false false 0 false 0 → Right r a x
  unfolding asked does wrote_at from_at org_at
  arm_load_no e h0 q = known q e (omega (arith, x.low.first, x.low.place)) (omega (arith, x.low.first, x.low.place)) (inl (omega (arith, x.low.first, x.low.place))) (λ i list f g8 s. simp (f, eq-eqb x.form 4 h0))

  pub arm_load_yes : {a : Arm} {r : Effect} → a ≡ Load → (x.form ≡ 4 → ⊥) → (g : ℕ) (b : Bool) → org_at g ≡ inside (org_at (read_at x 0).org) → g ≤ (read_at x 0).org → b ≡ sized (λ k. (read_at x 0).layout) (org_at (read_at x 0).org) → r ≡ effect_of Movable g b false false 0 false ((read_at x 0).org + 1) → Right r a x
  unfolding asked does wrote_at org_at
  arm_load_yes e h0 g b eg ng eb q = known q e (omega (arith, ng, x.low.first)) (omega (arith, x.low.first, x.low.place)) (inl (omega (arith, x.low.first, x.low.place))) (λ i list f g8 s. simp (f, ne_eqb x.form 4 h0, from_one (read_at x 0).org (pieces (get_or i 9 0) list) first_low, eg, eb))

  pub arm_alloc_yes : {a : Arm} {r : Effect} → a ≡ Alloc → (read_at x 0).len ≡ true → r ≡ effect_of Movable (4 + 2 * x.p) false false true 0 false 0 → Right r a x
  unfolding asked does wrote_at from_at
  arm_alloc_yes e h0 q = known q e (omega (arith, x.low.first, x.low.place)) (omega (arith, x.low.first, x.low.place)) (inl (omega (arith, x.low.first, x.low.place))) (λ i list f g8 s. simp (h0, temp_at x.p))

  pub arm_alloc_no : {a : Arm} {r : Effect} → a ≡ Alloc → (read_at x 0).len ≡ false → r ≡ effect_of No (4 + 2 * x.p) false false false 0 false 0 → Right r a x
  unfolding asked does wrote_at from_at
  arm_alloc_no e h0 q = known q e (omega (arith, x.low.first, x.low.place)) (omega (arith, x.low.first, x.low.place)) (inl (omega (arith, x.low.first, x.low.place))) (λ i list f g8 s. simp (h0, temp_at x.p))

  pub arm_layout_of_yes : {a : Arm} {r : Effect} → a ≡ LayoutOf → x.form ≡ 0 → r ≡ effect_of Movable (4 + 2 * x.p) false true true 0 false ((read_at x 0).org + 1) → Right r a x
  unfolding asked does wrote_at
  arm_layout_of_yes e h0 q = known q e (omega (arith, x.low.first, x.low.place)) (omega (arith, x.low.first, x.low.place)) (inl (omega (arith, x.low.first, x.low.place))) (λ i list f g8 s. simp (f, eq-eqb x.form 0 h0, temp_at x.p, from_one (read_at x 0).org (pieces (get_or i 9 0) list) first_low))

  pub arm_layout_of_no : {a : Arm} {r : Effect} → a ≡ LayoutOf → (x.form ≡ 0 → ⊥) → r ≡ effect_of No 0 false false false 0 false 0 → Right r a x
  unfolding asked does wrote_at from_at org_at
  arm_layout_of_no e h0 q = known q e (omega (arith, x.low.first, x.low.place)) (omega (arith, x.low.first, x.low.place)) (inl (omega (arith, x.low.first, x.low.place))) (λ i list f g8 s. simp (f, ne_eqb x.form 0 h0))

  pub arm_signal : {a : Arm} {r : Effect} → a ≡ Signal → r ≡ effect_of Movable 0 false false false 0 false 0 → Right r a x
  unfolding asked does wrote_at from_at org_at
  arm_signal e q = known q e (omega (arith, x.low.first, x.low.place)) (omega (arith, x.low.first, x.low.place)) (inl (omega (arith, x.low.first, x.low.place))) (λ i list f g8 s. refl)

  pub arm_fills : {a : Arm} {r : Effect} → a ≡ Fills → r ≡ effect_of Movable 0 false false false ((read_at x 0).org + 1) false 0 → Right r a x
  unfolding asked does from_at org_at
  arm_fills e q = known q e (omega (arith, x.low.first, x.low.place)) (omega (arith, x.low.first, x.low.place)) (inl (omega (arith, x.low.first, x.low.place))) (λ i list f g8 s. simp (wrote_one (read_at x 0).org))

  pub arm_store_no : {a : Arm} {r : Effect} → a ≡ Store → x.form ≡ 4 → r ≡ effect_of No 0 false false false 0 false 0 → Right r a x
  unfolding asked does wrote_at from_at org_at
  arm_store_no e h0 q = known q e (omega (arith, x.low.first, x.low.place)) (omega (arith, x.low.first, x.low.place)) (inl (omega (arith, x.low.first, x.low.place))) (λ i list f g8 s. simp (f, eq-eqb x.form 4 h0))

  pub arm_store_yes : {a : Arm} {r : Effect} → a ≡ Store → (x.form ≡ 4 → ⊥) → r ≡ effect_of Movable 0 false false false ((read_at x 0).org + 1) false 0 → Right r a x
  unfolding asked does from_at org_at
  arm_store_yes e h0 q = known q e (omega (arith, x.low.first, x.low.place)) (omega (arith, x.low.first, x.low.place)) (inl (omega (arith, x.low.first, x.low.place))) (λ i list f g8 s. simp (f, ne_eqb x.form 4 h0, wrote_one (read_at x 0).org))

  pub arm_cat : {a : Arm} {r : Effect} → a ≡ Cat → r ≡ effect_of Movable 0 false false false ((read_at x 0).org + 1) false 4294967295 → Right r a x
  unfolding asked does from_at org_at
  arm_cat e q = known q e (omega (arith, x.low.first, x.low.place)) (omega (arith, x.low.first, x.low.place)) (inr (refl, refl)) (λ i list f g8 s. simp (wrote_one (read_at x 0).org))

  pub arm_native_image : {a : Arm} {r : Effect} → a ≡ Native → (eqb x.form 1 && eqb x.list 1) ≡ true → r ≡ effect_of Movable (5 + 2 * x.p) false false true 0 false 0 → Right r a x
  unfolding asked does wrote_at from_at
  arm_native_image e h0 q = known q e (omega (arith, x.low.first, x.low.place)) (omega (arith, x.low.first, x.low.place)) (inl (omega (arith, x.low.first, x.low.place))) (λ i list f g8 s. simp (f, g8, h0, img_at x.p))

  pub arm_native_light : {a : Arm} {r : Effect} → a ≡ Native → (eqb x.form 1 && eqb x.list 1) ≡ false → x.form ≡ 2 → r ≡ effect_of No (4 + 2 * x.p) false false false 0 false 0 → Right r a x
  unfolding asked does wrote_at from_at
  arm_native_light e h0 h1 q = known q e (omega (arith, x.low.first, x.low.place)) (omega (arith, x.low.first, x.low.place)) (inl (omega (arith, x.low.first, x.low.place))) (λ i list f g8 s. simp (f, g8, h0, eq-eqb x.form 2 h1, temp_at x.p))

  pub arm_native_stops : {a : Arm} {r : Effect} → a ≡ Native → (eqb x.form 1 && eqb x.list 1) ≡ false → (x.form ≡ 2 → ⊥) → r ≡ effect_of No 0 false false false 0 true 0 → Right r a x
  unfolding asked does wrote_at from_at org_at
  arm_native_stops e h0 h1 q = known q e (omega (arith, x.low.first, x.low.place)) (omega (arith, x.low.first, x.low.place)) (inl (omega (arith, x.low.first, x.low.place))) (λ i list f g8 s. simp (f, g8, h0, ne_eqb x.form 2 h1))

  pub arm_stops : {a : Arm} {r : Effect} → a ≡ Stops → r ≡ effect_of No 0 false false false 0 true 0 → Right r a x
  unfolding asked does wrote_at from_at org_at
  arm_stops e q = known q e (omega (arith, x.low.first, x.low.place)) (omega (arith, x.low.first, x.low.place)) (inl (omega (arith, x.low.first, x.low.place))) (λ i list f g8 s. refl)

  pub arm_deref : {a : Arm} {r : Effect} → a ≡ Deref → r ≡ effect_of No 2 false false false 0 false 0 → Right r a x
  unfolding asked does wrote_at from_at org_at
  arm_deref e q = known q e (omega (arith, x.low.first, x.low.place)) (omega (arith, x.low.first, x.low.place)) (inl (omega (arith, x.low.first, x.low.place))) (λ i list f g8 s. refl)

  pub arm_writes : {a : Arm} {r : Effect} → a ≡ Writes → r ≡ effect_of No 0 false false false ((read_at x 0).org + 1) false 0 → Right r a x
  unfolding asked does from_at org_at
  arm_writes e q = known q e (omega (arith, x.low.first, x.low.place)) (omega (arith, x.low.first, x.low.place)) (inl (omega (arith, x.low.first, x.low.place))) (λ i list f g8 s. simp (wrote_one (read_at x 0).org))

  pub arm_other : {a : Arm} {r : Effect} → a ≡ Other → r ≡ effect_of No 0 false false false 0 false 0 → Right r a x
  unfolding asked does wrote_at from_at org_at
  arm_other e q = known q e (omega (arith, x.low.first, x.low.place)) (omega (arith, x.low.first, x.low.place)) (inl (omega (arith, x.low.first, x.low.place))) (λ i list f g8 s. refl)
