-- A record's words where they lie, and how the slots are cut from it. Assumes nothing.
use mathlib.Core.Path.{◌≡◌, sym, ◌∙◌}
use mathlib.Core.List.{List}
use Prim.Native.Nat.{ℕ, ◌+◌, ◌*◌, ◌<◌}
use native.Mathlib.Omega.{arith}
use lib.ListN.{get_or, length, drop, length-drop}
use lib.Seq.{get_or-take, get_or-drop, length-take-le}
use Rattle.model.specs.Picture.{Inst, inst, slots}
use Rattle.inst.specs.Record.{word, Within}

pub word_is : (recs : List ℕ) (p k : ℕ) → k < 16 → get_or recs (16 * p + k) 0 ≡ word recs p k
word_is recs p k h = sym (get_or-take 16 (drop (16 * p) recs) k 0 h ∙ get_or-drop (16 * p) recs k 0)

module _ (recs : List ℕ) (p : ℕ) (w : Within recs p) where
  pub inst_long : length (inst recs p) ≡ 16
  inst_long = length-take-le 16 (drop (16 * p) recs) (rw length-drop (omega (arith, w.whole)))

  pub slots_long : length (slots (inst recs p)) ≡ 5
  slots_long = length-take-le 5 (drop 2 (inst recs p)) (rw (length-drop, inst_long) (omega arith))

pub slot_is : (i : Inst) (s : ℕ) → s < 5 → get_or (slots i) s 0 ≡ get_or i (2 + s) 0
slot_is i s h = get_or-take 5 (drop 2 i) s 0 h ∙ get_or-drop 2 i s 0
