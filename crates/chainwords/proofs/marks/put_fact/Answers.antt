-- `chainwords::marks::put_fact` meets its contract. Assumes nothing.
use mathlib.Core.Path.{refl}
use Rattle.effects.specs.Origin.{num}
use Rattle.chainwords.specs.Puts.{put_fact}
use Rattle.chainwords.proofs.marks.put_fact.Goals as goal

pub returns : goal.returns
unfolding put_fact num
returns c = rw c.from.ensures refl
