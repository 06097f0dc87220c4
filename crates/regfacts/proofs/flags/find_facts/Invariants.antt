-- `regfacts::flags::find_facts` meets its contract. Assumes nothing.
use Rattle.regfacts.proofs.Turned.{Turning}
use Rattle.regfacts.proofs.flags.find_facts.Given as goal

abbrev pub invariant-loop-w : goal.invariant-loop-w
invariant-loop-w l = Turning l.recs l.initial.regs l.n l.w-index l.regs
