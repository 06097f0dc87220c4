-- `effects::arms::store` meets its contract. Assumes nothing.
use mathlib.Core.Path.{refl}
use Rattle.effects.proofs.ByArm.{arm_store_no, arm_store_yes}
use Rattle.effects.proofs.arms.store.Goals as goal

pub returns-then-x-eq4 : goal.returns-then-x-eq4
returns-then-x-eq4 c = arm_store_no c.args.x refl c.if-x-eq4.true refl

pub returns : goal.returns
returns c = arm_store_yes c.args.x refl c.if-x-eq4.false (rw c.memory.ensures at c.writes.ensures)
