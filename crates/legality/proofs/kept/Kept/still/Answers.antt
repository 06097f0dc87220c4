-- `legality::kept::Kept::still` meets its contract. Assumes nothing.
use Rattle.legality.proofs.Testing.{still_is}
use Rattle.legality.proofs.kept.Kept.still.Goals as goal

pub returns : goal.returns
returns c = still_is _ _ _ _
