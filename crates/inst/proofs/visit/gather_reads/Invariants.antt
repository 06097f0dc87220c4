-- `inst::visit::gather_reads` meets its contract. Assumes nothing.
use Rattle.model.specs.Picture.{inst}
use Rattle.inst.specs.Record.{rest_reads}
use Rattle.inst.proofs.Gathered.{Gathering}
use Rattle.inst.proofs.visit.gather_reads.Given as goal

abbrev pub invariant-loop-s : goal.invariant-loop-s
invariant-loop-s l = Gathering 5 l.regs (rest_reads (inst l.slots.recs.now l.slots.p) l.s) (rest_reads (inst l.slots.recs.now l.slots.p) 0)
