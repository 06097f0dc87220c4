-- `chains::places::chain_len` meets its contract. Assumes nothing.
use Rattle.chains.specs.Chain.{blocks_of}
use Rattle.chains.proofs.Laid.{Counted}
use Rattle.chains.proofs.places.chain_len.Given as goal

abbrev pub invariant-loop-k : goal.invariant-loop-k
invariant-loop-k l = Counted l.bounds (blocks_of l.c) l.n l.k
