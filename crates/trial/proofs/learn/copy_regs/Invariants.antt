-- `trial::learn::copy_regs` meets its contract. Assumes nothing.
use Rattle.chainwords.specs.Puts.{Copied}
use Rattle.trial.proofs.learn.copy_regs.Given as goal

abbrev pub invariant-loop-i : goal.invariant-loop-i
invariant-loop-i l = Copied l.work64 l.a l.i l.initial.work32 l.work32
