-- `effects::origin::is_sized` meets its contract. Assumes nothing.
use Rattle.effects.proofs.Origins.{sized_is}
use Rattle.effects.proofs.origin.is_sized.Goals as goal

pub returns : goal.returns
returns c = sized_is _ _
