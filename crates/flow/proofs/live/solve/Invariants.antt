-- `flow::live::solve` meets its contract. Assumes nothing.
use Rattle.words.specs.Bits.{room}
use Rattle.model.specs.Picture.{succs}
use Rattle.cfg.specs.Func.{blocks_of, drawn_of}
use Rattle.flow.proofs.Solving.{Between}
use Rattle.flow.proofs.live.solve.Given as goal

abbrev pub invariant-loop-w : goal.invariant-loop-w
invariant-loop-w l = Between (blocks_of l.func) l.w (succs (drawn_of l.func)) l.initial.bits l.bits

abbrev pub decreases-loop-w : goal.decreases-loop-w
decreases-loop-w l = room l.bits
