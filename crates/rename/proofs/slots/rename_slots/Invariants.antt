-- `rename::slots::rename_slots` meets its contract. Assumes nothing.
use Rattle.rename.specs.Names.{Slotted}
use Rattle.rename.proofs.slots.rename_slots.Given as goal

abbrev pub invariant-loop-s : goal.invariant-loop-s
invariant-loop-s l = Slotted l.p l.uses l.anew.names.now l.anew.new l.initial.recs l.recs l.s
