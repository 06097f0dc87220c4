-- `effects::arms::load` meets its contract. Assumes nothing.
use mathlib.Core.Path.{refl}
use Rattle.effects.proofs.ByArm.{arm_load_no, arm_load_yes}
use Rattle.effects.proofs.arms.load.Goals as goal

pub returns-then-x-eq4 : goal.returns-then-x-eq4
returns-then-x-eq4 c = arm_load_no c.args.x refl c.if-x-eq4.true refl

pub returns : goal.returns
returns c = arm_load_yes c.args.x refl c.if-x-eq4.false _ _ c.inside.ensures.0 c.inside.ensures.1 c.is_sized.ensures (rw c.memory.ensures at c.reads.ensures)
