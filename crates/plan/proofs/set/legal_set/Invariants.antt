-- `plan::set::legal_set`: where the sweeps stand. Assumes nothing.
use Rattle.plan.proofs.Turning.{to_come}
use Rattle.plan.proofs.Choosing.{Choosing}
use Rattle.plan.proofs.set.legal_set.Given as goal

abbrev pub invariant-loop-given : goal.invariant-loop-given
invariant-loop-given l = Choosing l.code.recs.now l.code.ops.now l.regs l.z l.fn.work l.fn.facts l.c l.work l.facts

abbrev pub decreases-loop-given : goal.decreases-loop-given
decreases-loop-given l = to_come l.c
