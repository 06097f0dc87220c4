-- One turn of `rename_slots`. Assumes nothing.
use mathlib.Core.Path.{◌≡◌, refl, sym, ap, ap₂, ◌∙◌, subst}
use mathlib.Core.Bool.{Bool, true, false, cond}
use mathlib.Core.List.{List}
use Prim.Native.Nat.{ℕ, ◌+◌, ◌*◌, ◌≤◌, ◌<◌}
use native.Mathlib.Nat.{not-suc-le-zero, le_antisymm}
use native.Mathlib.Omega.{arith}
use borrow.Author.Tests.{eqb-true, eqb-false, eq-eqb, ne_eqb}
use lib.Dec.{eqb}
use lib.ListN.{length, get_or, set, length-set}
use lib.Seq.{get_or-set_same, get_or-set_other}
use Rattle.inst.specs.Table.{two_bits}
use Rattle.rename.specs.Names.{named, reg_or, slotted, Slotted}
use Rattle.model.specs.Picture.{absent}

-- a slot's word, by the tests
module _ (w d : ℕ) (ws : List ℕ) (nw : ℕ) where
  pub slot_absent : w ≡ absent → w ≡ slotted d ws nw w
  unfolding slotted
  slot_absent e = sym (ap (λ (b : Bool). cond b w (cond (eqb d 1) (named ws w) (cond (eqb d 2) (reg_or nw w) w))) (eq-eqb w absent e))

  module _ (f : w ≡ absent → ⊥) where
    present : slotted d ws nw w ≡ cond (eqb d 1) (named ws w) (cond (eqb d 2) (reg_or nw w) w)
    unfolding slotted
    present = ap (λ (b : Bool). cond b w (cond (eqb d 1) (named ws w) (cond (eqb d 2) (reg_or nw w) w))) (ne_eqb w absent f)

    pub slot_read : d ≡ 1 → slotted d ws nw w ≡ named ws w
    slot_read e = present ∙ ap (λ (b : Bool). cond b (named ws w) (cond (eqb d 2) (reg_or nw w) w)) (eq-eqb d 1 e)

    pub slot_write : (d ≡ 1 → ⊥) → d ≡ 2 → slotted d ws nw w ≡ reg_or nw w
    slot_write g e = present ∙ ap₂ (λ (b c : Bool). cond b (named ws w) (cond c (reg_or nw w) w)) (ne_eqb d 1 g) (eq-eqb d 2 e)

    pub slot_other : (d ≡ 1 → ⊥) → (d ≡ 2 → ⊥) → slotted d ws nw w ≡ w
    slot_other g h = present ∙ ap₂ (λ (b c : Bool). cond b (named ws w) (cond c (reg_or nw w) w)) (ne_eqb d 1 g) (ne_eqb d 2 h)

pub slotted_none : (p uses : ℕ) (ws : List ℕ) (nw : ℕ) (xs : List ℕ) → Slotted p uses ws nw xs xs 0
slotted_none p uses ws nw xs = record { size = refl; done = λ s h. absurd (not-suc-le-zero h); later = λ j h. refl; front = λ j h. refl }

pub slotted_more : {p uses nw i d v : ℕ} {ws xs ys : List ℕ} → Slotted p uses ws nw xs ys i → i < 5 → 16 * p + 16 ≤ length xs → d ≡ two_bits uses i → v ≡ slotted d ws nw (get_or ys (16 * p + 2 + i) 0)
    → Slotted p uses ws nw xs (set ys (16 * p + 2 + i) v) (i + 1)
slotted_more {p} {uses} {nw} {i} {d} {v} {ws} {xs} {ys} h lt len ed ev =
    let sz = h.size in
    record {
      size = length-set ys (16 * p + 2 + i) v ∙ sz;
      done = λ s l. go s l (eqb s i) refl;
      later = λ j l. get_or-set_other ys (16 * p + 2 + i) j v 0 (λ e. omega arith) ∙ h.later j (omega arith);
      front = λ j l. get_or-set_other ys (16 * p + 2 + i) j v 0 (λ e. omega arith) ∙ h.front j l;
    }
  where
    here : v ≡ slotted (two_bits uses i) ws nw (get_or xs (16 * p + 2 + i) 0)
    here = ev ∙ ap₂ (λ (r w : ℕ). slotted r ws nw w) ed (h.later (16 * p + 2 + i) (omega arith))

    go : (s : ℕ) → s < i + 1 → (t : Bool) → eqb s i ≡ t → get_or (set ys (16 * p + 2 + i) v) (16 * p + 2 + s) 0 ≡ slotted (two_bits uses s) ws nw (get_or xs (16 * p + 2 + s) 0)
    go s l true e =
        subst (λ (n : ℕ). get_or (set ys (16 * p + 2 + i) v) (16 * p + 2 + n) 0 ≡ slotted (two_bits uses n) ws nw (get_or xs (16 * p + 2 + n) 0)) (sym (eqb-true s i e))
        (get_or-set_same ys (16 * p + 2 + i) v 0 (let sz = h.size in omega arith) ∙ here)
    go s l false e =
        let ne = eqb-false s i e in
        get_or-set_other ys (16 * p + 2 + i) (16 * p + 2 + s) v 0 (λ q. ne (omega arith)) ∙ h.done s (let k : s < i = omega arith in k)

pub slotted_end : {p uses nw i : ℕ} {ws xs ys : List ℕ} → Slotted p uses ws nw xs ys i → i ≤ 5 → 5 ≤ i → Slotted p uses ws nw xs ys 5
slotted_end {p} {uses} {nw} {i} {ws} {xs} {ys} h l k = subst (λ (n : ℕ). Slotted p uses ws nw xs ys n) (le_antisymm l k) h
