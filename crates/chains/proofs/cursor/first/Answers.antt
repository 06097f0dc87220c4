-- `chains::cursor::first` meets its contract. Assumes nothing.
use mathlib.Core.Path.{◌∙◌}
use Rattle.chains.proofs.Seeking.{first_left}
use Rattle.chains.proofs.cursor.first.Goals as goal

pub returns : goal.returns
returns c = (c.seek.ensures.0, λ P e. first_left P _ c.requires e c.part_of-part.ensures ∙ c.seek.ensures.1 P e)
