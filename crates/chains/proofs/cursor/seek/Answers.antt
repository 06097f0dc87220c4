-- `chains::cursor::seek` meets its contract. Assumes nothing.
use native.Mathlib.Omega.{arith}
use Rattle.chains.proofs.Seeking.{seeking_none, seeking_more, at_end, more_blocks, stands}
use Rattle.chains.proofs.cursor.seek.Goals as goal

pub loop-at-init : goal.loop-at-init
loop-at-init c = seeking_none c.requires.1

pub part_of-part-requires : goal.part_of-part-requires
part_of-part-requires c = (c.requires.0, more_blocks c.loop-at.at c.args.c.count c.loop-at-test.true)

pub loop-at-smaller : goal.loop-at-smaller
loop-at-smaller c = omega (arith, more_blocks c.loop-at.at c.args.c.count c.loop-at-test.true)

pub loop-at-preserved : goal.loop-at-preserved
loop-at-preserved c = seeking_more _ c.requires.0 c.loop-at.invariant (at_end c.loop-at.at c.args.c.count c.loop-at-test.true) (more_blocks c.loop-at.at c.args.c.count c.loop-at-test.true) c.part_of-part.ensures

pub returns : goal.returns
returns c = stands _ c.loop-at.invariant c.loop-at-test.false
