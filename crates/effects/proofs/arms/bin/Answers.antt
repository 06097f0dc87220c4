-- `effects::arms::bin` meets its contract. Assumes nothing.
use mathlib.Core.Path.{refl}
use Rattle.effects.proofs.ByArm.{arm_bin_no, arm_bin_yes}
use Rattle.effects.proofs.arms.bin.Goals as goal

pub returns-then-first-computes : goal.returns-then-first-computes
returns-then-first-computes c = arm_bin_yes c.args.x refl c.if-first-computes.true c.value.ensures

pub returns : goal.returns
returns c = arm_bin_no c.args.x refl c.if-first-computes.false refl
