-- `pool::types::add_types` meets its contract. Assumes nothing.
use mathlib.Core.Path.{refl}
use Rattle.pool.proofs.Typing.{typing_none, typing_ok, typing_more, typing_end}
use Rattle.pool.proofs.types.add_types.Goals as goal

pub loop-p-init : goal.loop-p-init
loop-p-init c = typing_none c.requires

pub add_type-n-requires : goal.add_type-n-requires
add_type-n-requires c = typing_ok c.requires c.loop-p.invariant c.loop-p-test.true c.new.ensures refl

pub loop-p-preserved : goal.loop-p-preserved
loop-p-preserved c = typing_more c.requires c.loop-p.invariant c.loop-p-test.true c.new.ensures refl c.add_type-n.ensures

pub returns : goal.returns
returns c = typing_end c.loop-p.invariant c.loop-p-test.false
