-- `legality::kept::Kept::org_ok` meets its contract. Assumes nothing.
use mathlib.Core.Path.{refl}
use Rattle.legality.proofs.Testing.{org_is}
use Rattle.legality.proofs.kept.Kept.org_ok.Goals as goal

pub returns : goal.returns
returns c = rw (c.last_write.ensures, c.last_write-2.ensures) (org_is _ _ _ _ refl)
