-- `copy::slide` meets its contract: the first i words are copied; the word read next is as it was. Assumes nothing.
use native.Mathlib.Omega.{arith}
use Rattle.words.proofs.Copying.{slide_more}
use Rattle.words.proofs.copy.slide.Goals as goal

pub loop-i-preserved : goal.loop-i-preserved
loop-i-preserved c = slide_more _ _ _ _ _ (omega arith) (omega arith) c.loop-i.invariant
