-- `run::put_left` meets its contract: the picture is written, whichever of the two it is. Assumes nothing.
use mathlib.Core.Logic.{⊎_elim}
use Rattle.host.proofs.run.put_left.Goals as goal

pub returns-in-Done : goal.returns-in-Done
returns-in-Done c = ⊎_elim (λ e. rw e c.write_picture.ensures.made) (λ e. rw e c.write_picture.ensures.made) c.in-Done.is
