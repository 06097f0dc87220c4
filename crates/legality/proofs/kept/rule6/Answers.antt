-- `legality::kept::rule6` meets its contract. Assumes nothing.
use mathlib.Core.Path.{refl}
use Rattle.legality.proofs.Testing.{own_words}
use Rattle.legality.proofs.kept.rule6.Goals as goal

pub returns : goal.returns
returns c = rw c.is_placed.ensures (own_words _ _ refl)
