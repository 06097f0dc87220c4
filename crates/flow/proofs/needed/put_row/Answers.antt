-- `flow::needed::put_row` meets its contract. Assumes nothing.
use mathlib.Core.Path.{◌∙◌}
use Prim.Native.Nat.{◌≤◌}
use native.Mathlib.Omega.{arith}
use lib.ListN.{length}
use lib.Seq.{length-take-le}
use Rattle.flow.proofs.Elsewhere.{row_none, row_next, row_put}
use Rattle.flow.proofs.needed.put_row.Goals as goal

pub loop-i-init : goal.loop-i-init
loop-i-init c = row_none _

pub loop-i-preserved : goal.loop-i-preserved
loop-i-preserved c = row_next c.loop-i.word-items c.loop-i.invariant (omega (arith, c.loop-i-test.true, c.loop-i.auto.word-items)) c.needed_word.ensures

pub returns : goal.returns
returns c =
    let a = c.args in
    let g = a.grid in
    let parts = c.split_at_mut-rows in
    let room : g.width ≤ length parts.result.1.now = omega (arith, parts.ensures.back_len, c.requires.0.room, c.needed.ensures) in
    let long = c.loop-i.auto.word-items ∙ length-take-le g.width parts.result.1.now room in
    let all : g.width ≤ c.loop-i.i = omega (arith, c.loop-i-test.false, length-take-le g.width parts.result.1.now room) in
    row_put a.succs.list.now g.blocks g.width a.into.0 a.other.0 c.requires.0.target c.requires.0.branch (rw c.requires.1 at a.succs.below)
    parts.result.0.now parts.result.1.now c.loop-i.word-items (parts.ensures.front_len ∙ c.needed.ensures) room long parts.ensures.value all c.loop-i.invariant
