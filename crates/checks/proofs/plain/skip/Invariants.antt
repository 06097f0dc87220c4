-- `checks::plain::skip` meets its contract: the records passed are plain, and the one where it stops is not. Assumes nothing.
use Rattle.checks.proofs.Freed.{Passed}
use Rattle.checks.proofs.plain.skip.Given as goal

abbrev pub invariant-loop-q : goal.invariant-loop-q
invariant-loop-q l = Passed l.regs l.recs l.n l.p l.q
