-- `effects::arms::alloc` meets its contract. Assumes nothing.
use mathlib.Core.Path.{refl}
use Rattle.effects.proofs.ByArm.{arm_alloc_no, arm_alloc_yes}
use Rattle.effects.proofs.arms.alloc.Goals as goal

pub returns-then-first : goal.returns-then-first
returns-then-first c = arm_alloc_yes c.args.x refl c.if-first.true (rw c.temp.ensures at c.makes.ensures)

pub returns : goal.returns
returns c = arm_alloc_no c.args.x refl c.if-first.false (rw c.temp-2.ensures at c.value.ensures)
