-- `lastuse::uses::last_readers` meets its contract. Assumes nothing.
use Rattle.std.specs.Iterator.Adapters.{enumerate_source, enumerate_count}
use Rattle.chains.specs.Positions.{left}
use Rattle.lastuse.proofs.Going.{Going}
use Rattle.lastuse.proofs.uses.last_readers.Given as goal

abbrev pub invariant-loop-q : goal.invariant-loop-q
invariant-loop-q l = Going l.code.recs.now l.code.ops.now l.bounds l.fn.c l.initial.st l.st l.lasts (left (enumerate_source l.q-iterator)) (enumerate_count l.q-iterator)
