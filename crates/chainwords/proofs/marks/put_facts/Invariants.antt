-- `chainwords::marks::put_facts` meets its contract. Assumes nothing.
use Rattle.chainwords.specs.Puts.{Facts}
use Rattle.chainwords.proofs.marks.put_facts.Given as goal

abbrev pub invariant-loop-p : goal.invariant-loop-p
invariant-loop-p l = Facts l.facts l.fn.work32 l.work32 l.p
