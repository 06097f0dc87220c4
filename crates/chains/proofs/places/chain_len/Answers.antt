-- `chains::places::chain_len` meets its contract. Assumes nothing.
use native.Mathlib.Omega.{arith}
use Rattle.chains.proofs.Struct.{blocks_long}
use Rattle.chains.proofs.Laid.{counted_none, counted_more, counted_end}
use Rattle.chains.proofs.places.chain_len.Goals as goal

pub loop-k-init : goal.loop-k-init
loop-k-init c = counted_none _ _

pub part_of-part-requires : goal.part_of-part-requires
part_of-part-requires c = (c.requires, c.loop-k-test.true)

pub overflow_sub-n : goal.overflow_sub-n
overflow_sub-n c = omega (arith, c.part_of-part.ensures.past)

pub overflow_add-n : goal.overflow_add-n
overflow_add-n c = omega (arith, c.loop-k.invariant.low, c.loop-k-test.true, c.requires.few.most, c.part_of-part.ensures.low)

pub loop-k-preserved : goal.loop-k-preserved
loop-k-preserved c = counted_more _ _ _ c.loop-k.invariant (rw (blocks_long c.requires.few) c.loop-k-test.true) c.part_of-part.ensures

pub returns : goal.returns
returns c = counted_end _ _ c.loop-k.invariant (rw (blocks_long c.requires.few) c.loop-k-test.false)
