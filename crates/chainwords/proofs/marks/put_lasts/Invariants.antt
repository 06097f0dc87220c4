-- `chainwords::marks::put_lasts` meets its contract. Assumes nothing.
use Rattle.chainwords.specs.Puts.{Lasting}
use Rattle.chainwords.proofs.marks.put_lasts.Given as goal

abbrev pub invariant-loop-p : goal.invariant-loop-p
invariant-loop-p l = Lasting l.code.recs.now l.lasts l.asked.regs.now l.asked.bits.now l.initial.words l.words l.asked.at l.n l.p
