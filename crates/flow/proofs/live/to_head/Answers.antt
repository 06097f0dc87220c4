-- `flow::live::to_head` meets its contract. Assumes nothing.
use native.Mathlib.Omega.{arith}
use Rattle.flow.proofs.Standing.{head_more}
use Rattle.flow.proofs.live.to_head.Goals as goal

pub loop-i-preserved : goal.loop-i-preserved
loop-i-preserved c = head_more _ _ c.args.s c.loop-i.i (omega arith) c.loop-i.invariant
