-- `copy::lift` meets its contract: the words from i on are copied; the word read next is as it was. Assumes nothing.
use native.Mathlib.Omega.{arith}
use Rattle.words.proofs.Copying.{lift_none, lift_more}
use Rattle.words.proofs.copy.lift.Goals as goal

pub loop-i-init : goal.loop-i-init
loop-i-init c = lift_none c.args.xs.now c.args.s c.args.d c.args.n

pub loop-i-preserved : goal.loop-i-preserved
loop-i-preserved c = lift_more c.args.xs.now _ c.args.s c.args.d c.args.n c.loop-i.i (omega arith) (omega arith) (omega arith) (omega arith) c.loop-i.invariant
