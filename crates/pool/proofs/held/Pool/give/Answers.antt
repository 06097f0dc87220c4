-- `pool::held::Pool::give` meets its contract. Assumes nothing.
use Rattle.std.proofs.Common.{refl}
use Rattle.pool.proofs.Gave.{gave_new, gave_again}
use Rattle.pool.proofs.held.Pool.give.Goals as goal

pub returns-in_default : goal.returns-in_default
returns-in_default c =
    let q = c.requires in
    gave_new c.in_default.ensures q.2 q.3 c.width_of.ensures c.push.ensures.items refl refl

pub returns : goal.returns
returns c = let r = c.take_out-w.ensures in gave_again c.take_out-w.result r.value c.in-Some.ensures r.items r.len c.push-2.ensures.items refl
