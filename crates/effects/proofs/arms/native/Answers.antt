-- `effects::arms::native` meets its contract. Assumes nothing.
use mathlib.Core.Path.{refl}
use Rattle.effects.proofs.ByArm.{arm_native_image, arm_native_light, arm_native_stops}
use Rattle.effects.proofs.arms.native.Goals as goal

pub returns-then-x : goal.returns-then-x
returns-then-x c = arm_native_image c.args.x refl c.if-x.true (rw c.image.ensures at c.makes.ensures)

pub returns-then-x-eq2 : goal.returns-then-x-eq2
returns-then-x-eq2 c = arm_native_light c.args.x refl c.if-x.false c.if-x-eq2.true (rw c.temp.ensures at c.value.ensures)

pub returns : goal.returns
returns c = arm_native_stops c.args.x refl c.if-x.false c.if-x-eq2.false c.stops.ensures
