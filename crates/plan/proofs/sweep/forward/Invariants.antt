-- `plan::sweep::forward`: the positions before p were looked at, turn by turn. Assumes nothing.
use Rattle.plan.proofs.Sweeping.{AheadSwept}
use Rattle.plan.proofs.sweep.forward.Given as goal

abbrev pub invariant-loop-p : goal.invariant-loop-p
invariant-loop-p l = AheadSwept l.given.code.recs.now l.given.code.ops.now l.given.regs.now l.span l.fn.work l.fn.lasts l.fn.facts l.p l.work l.lasts l.facts l.count
