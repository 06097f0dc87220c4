-- `flow::live::live_in` meets its contract. Assumes nothing.
use mathlib.Core.List.{[]}
use Rattle.flow.proofs.Standing.{room_as, live_from, live_behind}
use Rattle.flow.proofs.live.live_in.Goals as goal

pub returns-clause-by_index : goal.returns-clause-by_index
returns-clause-by_index c = λ ops each.
    let f = c.args.func.now in
    let e = c.width.ensures in
    let head = rw (c.row.ensures, c.row-2.ensures, c.blocks-2.ensures) at c.to_head.ensures in
    live_from f.bounds.now f.recs.now ops f.pairs.now f.targets.now c.width.result c.args.bits.now _ _ (room_as e c.requires.0) head c.solve.ensures e each

pub returns-clause-bits_unchanged : goal.returns-clause-bits_unchanged
returns-clause-bits_unchanged c =
    let f = c.args.func.now in
    let e = c.width.ensures in
    let head = rw (c.row.ensures, c.row-2.ensures, c.blocks-2.ensures) at c.to_head.ensures in
    live_behind f.bounds.now f.recs.now [] f.pairs.now f.targets.now c.width.result c.args.bits.now _ _ (room_as e c.requires.0) head c.solve.ensures e
