-- `defuse::sets::read_list` meets its contract. Assumes nothing.
use mathlib.Core.Path.{◌≡◌}
use lib.ListN.{drop}
use Rattle.defuse.specs.Sets.{put}
use Rattle.words.specs.Steps.{steps}
use Rattle.defuse.proofs.sets.read_list.Given as goal

abbrev pub invariant-loop-r : goal.invariant-loop-r
invariant-loop-r l = steps (put l.at.u) l.bits (drop l.r-index l.xs) ≡ steps (put l.at.u) l.initial.bits l.xs
