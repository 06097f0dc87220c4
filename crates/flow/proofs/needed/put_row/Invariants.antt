-- `flow::needed::put_row` meets its contract. Assumes nothing.
use Rattle.flow.proofs.Elsewhere.{Going}
use Rattle.flow.proofs.needed.put_row.Given as goal

abbrev pub invariant-loop-i : goal.invariant-loop-i
invariant-loop-i l = let a = l.fn in Going l.rows a.succs.list.now a.grid.blocks a.grid.width a.into.0 a.other.0 l.i l.word-items
