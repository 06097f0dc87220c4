-- `pool::types::add_type` meets its contract. Assumes nothing.
use mathlib.Core.Path.{sym, ap, ◌∙◌}
use Prim.Native.Nat.{ℕ}
use lib.ListN.{get_or}
use Rattle.inst.specs.Index.{word_of}
use Rattle.pool.proofs.Typing.{added_none, added_one, added_two}
use Rattle.pool.proofs.types.add_type.Goals.{then-width-eq2, else-width-eq2}
use Rattle.pool.proofs.types.add_type.Goals as goal

pub returns-then-reg-n : goal.returns-then-reg-n
returns-then-reg-n c = added_none c.if-reg-n.true

pub returns-in_default : goal.returns-in_default
returns-in_default c = absurd ((c.requires.1 (c.if-reg-n.false)).0 (ap word_of c.in_default.is))

pub returns : goal.returns
returns c =
    let is = c.if-reg-n.false in
    let room = (c.requires.1 is).1 in
    let at = c.at.ensures ∙ sym (ap word_of c.in-Some.is) in
    let ty = ap (λ (k : ℕ). get_or c.args.types.now k 0) at in
    let width = c.width_of-width.ensures in
    elim c.if-width-eq2.branch [
      | then-width-eq2 w ↦ rw w.types-is (added_two width w.if-width-eq2.true is room ty)
      | else-width-eq2 w ↦ rw w.types-is (added_one width w.if-width-eq2.false is room ty)
    ]
