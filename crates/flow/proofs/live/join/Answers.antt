-- `flow::live::join` meets its contract. Assumes nothing.
use mathlib.Core.Path.{◌∙◌}
use native.Mathlib.Nat.{add-mul}
use Rattle.flow.proofs.Joins.{raise_progress, row_more, row_all, room_kept}
use Rattle.flow.proofs.live.join.Goals as goal

pub loop-i-preserved : goal.loop-i-preserved
loop-i-preserved c =
    let a = c.args in
    let g = a.grid in
    let l = c.loop-i in
    let p = l.invariant in
    let e = rw (c.live-to.ensures, c.live-from.ensures, c.writes-writes.ensures ∙ add-mul g.blocks a.b.0 g.width) at c.raise-changed.ensures in
    row_more p
    (raise_progress l.bits g.blocks g.width a.b.0 a.s.0 l.i _ p.rest (room_kept l.bits p.size c.requires.0) c.requires.1 c.requires.2 c.loop-i-test.true e.d_bound.0 e.d_bound.1 _ _ e.bits_after e.value)

pub returns : goal.returns
returns c = row_all c.loop-i.auto.i-end c.loop-i-test.false c.loop-i.invariant
