-- `regfacts::flags::is_small` meets its contract. Assumes nothing.
use mathlib.Core.Path.{◌∙◌}
use mir.Facts.{to_z-of_z}
use Rattle.regfacts.proofs.Turned.{small_is}
use Rattle.regfacts.proofs.flags.is_small.Goals as goal

pub returns : goal.returns
returns c = let v = rw (c.new.ensures.start, c.new.ensures.end, c.new.ensures.exhausted, to_z-of_z c.ranges.z) at c.contains.ensures.value in v ∙ small_is c.args.z
