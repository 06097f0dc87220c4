-- `copy::copy` meets its contract: the first i words are copied. Assumes nothing.
use native.Mathlib.Omega.{arith}
use Rattle.words.proofs.Copying.{copy_more}
use Rattle.words.proofs.copy.copy.Goals as goal

pub loop-i-preserved : goal.loop-i-preserved
loop-i-preserved c = copy_more _ _ _ _ _ _ (omega arith) c.loop-i.invariant
