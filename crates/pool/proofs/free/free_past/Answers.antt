-- `pool::free::free_past` meets its contract. Assumes nothing.
use Rattle.std.proofs.Common.{arith}
use Rattle.pool.proofs.Releases.{releasing_none, releasing_room}
use Rattle.pool.proofs.free.free_past.Goals as goal

pub loop-w-init : goal.loop-w-init
loop-w-init c = releasing_none _ _ _

pub push-requires : goal.push-requires
push-requires c = (omega arith, releasing_room c.args.p c.loop-w.invariant c.loop-w-test.true 800 c.requires)
