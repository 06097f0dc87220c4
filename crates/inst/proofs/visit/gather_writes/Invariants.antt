-- `inst::visit::gather_writes` meets its contract. Assumes nothing.
use Rattle.model.specs.Picture.{inst, writes}
use Rattle.inst.specs.Record.{rest_writes}
use Rattle.inst.proofs.Gathered.{Gathering}
use Rattle.inst.proofs.visit.gather_writes.Given as goal

abbrev pub invariant-loop-s : goal.invariant-loop-s
invariant-loop-s l = Gathering 3 l.regs (rest_writes (inst l.slots.recs.now l.slots.p) l.s) (writes (inst l.slots.recs.now l.slots.p))
