-- `mover::gather::take_one` meets its contract. Assumes nothing.
use Rattle.mover.proofs.Cells.{one_kept, one_gone}
use Rattle.mover.proofs.gather.take_one.Goals as goal

pub returns-then-goes : goal.returns-then-goes
returns-then-goes c = one_gone c.if-goes.true c.copy.ensures

pub returns : goal.returns
returns c = one_kept c.if-goes.false c.slide.ensures
