-- `flow::needed::put_needed` meets its contract. Assumes nothing.
use Rattle.flow.proofs.Elsewhere.{needed_is}
use Rattle.flow.proofs.needed.put_needed.Goals as goal

pub returns : goal.returns
returns c = let p = c.requires in needed_is c.succs.result.list.now c.succs.ensures.0 c.args.func.now.graphed p.0 p.1 (rw c.blocks-2.ensures at c.put_row.ensures)
