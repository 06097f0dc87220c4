-- `defuse::sets::write_slots` meets its contract. Assumes nothing.
use mathlib.Core.Path.{◌≡◌}
use Rattle.model.specs.Picture.{inst}
use Rattle.inst.specs.Record.{rest_writes}
use Rattle.defuse.specs.Sets.{wrote}
use Rattle.defuse.specs.Writers.{note}
use Rattle.words.specs.Steps.{steps}
use Rattle.defuse.proofs.sets.write_slots.Given as goal

abbrev pub invariant-loop-s : goal.invariant-loop-s
invariant-loop-s l =
    let i = inst l.slots.recs.now l.slots.p in
    (steps (wrote l.at.u l.at.d) l.bits (rest_writes i l.s) ≡ steps (wrote l.at.u l.at.d) l.initial.bits (rest_writes i 0))
    × (steps (note l.slots.p) l.writers (rest_writes i l.s) ≡ steps (note l.slots.p) l.initial.writers (rest_writes i 0))
