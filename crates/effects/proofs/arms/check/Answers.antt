-- `effects::arms::check` meets its contract. Assumes nothing.
use mathlib.Core.Path.{refl}
use Rattle.effects.proofs.ByArm.{arm_check_no, arm_check_yes}
use Rattle.effects.proofs.arms.check.Goals as goal

pub returns-then-x-first : goal.returns-then-x-first
returns-then-x-first c = arm_check_yes c.args.x refl c.if-x-first.true c.value.ensures

pub returns : goal.returns
returns c = arm_check_no c.args.x refl c.if-x-first.false refl
