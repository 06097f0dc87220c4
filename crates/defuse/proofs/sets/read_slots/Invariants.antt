-- `defuse::sets::read_slots` meets its contract. Assumes nothing.
use mathlib.Core.Path.{◌≡◌}
use Rattle.model.specs.Picture.{inst}
use Rattle.inst.specs.Record.{rest_reads}
use Rattle.defuse.specs.Sets.{put}
use Rattle.words.specs.Steps.{steps}
use Rattle.defuse.proofs.sets.read_slots.Given as goal

abbrev pub invariant-loop-s : goal.invariant-loop-s
invariant-loop-s l = let i = inst l.slots.recs.now l.slots.p in steps (put l.at.u) l.bits (rest_reads i l.s) ≡ steps (put l.at.u) l.initial.bits (rest_reads i 0)
