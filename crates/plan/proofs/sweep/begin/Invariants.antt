-- `plan::sweep::begin`: the positions before p are marked. Assumes nothing.
use Rattle.summary.specs.declared.notes.Lasts.{Lasts}
use Rattle.plan.specs.Sweep.{from_first, VisitStart, Swept, Begun}
use Rattle.plan.proofs.sweep.begin.Given as goal

abbrev pub invariant-loop-p : goal.invariant-loop-p
invariant-loop-p l = record {
  begun : Begun l.given.code.recs.now l.given.regs.now l.work l.span l.fn.facts l.p l.facts l.count;
  swept : (ls : Lasts) → Swept (VisitStart l.given.code.recs.now l.given.regs.now l.span) from_first l.work ls l.fn.facts l.p l.work ls l.facts l.count;
}
