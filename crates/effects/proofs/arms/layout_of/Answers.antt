-- `effects::arms::layout_of` meets its contract. Assumes nothing.
use mathlib.Core.Path.{refl}
use Rattle.effects.proofs.ByArm.{arm_layout_of_no, arm_layout_of_yes}
use Rattle.effects.proofs.arms.layout_of.Goals as goal

pub returns-then-x-eq0 : goal.returns-then-x-eq0
returns-then-x-eq0 c = arm_layout_of_yes c.args.x refl c.if-x-eq0.true (rw (c.temp.ensures, c.memory.ensures) at c.makes.ensures)

pub returns : goal.returns
returns c = arm_layout_of_no c.args.x refl c.if-x-eq0.false refl
