-- `Counts::start`: fewer parts lie before the part before. Assumes nothing.
use Rattle.layout.proofs.Order.{rank}
use Rattle.layout.proofs.Counts.+start.Given as goal

abbrev pub decreases-start : goal.decreases-start
decreases-start l = rank l.part
