-- `rename::lists::append` meets its contract. Assumes nothing.
use Rattle.rename.specs.Names.{Appended}
use Rattle.rename.proofs.lists.append.Given as goal

abbrev pub invariant-loop-k : goal.invariant-loop-k
invariant-loop-k l = Appended l.s l.o l.names l.initial.ops l.ops l.k
