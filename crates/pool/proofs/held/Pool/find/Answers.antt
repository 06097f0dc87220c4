-- `pool::held::Pool::find` meets its contract. Assumes nothing.
use Rattle.pool.proofs.Founds.{top_of}
use Rattle.pool.proofs.held.Pool.find.Goals as goal

pub returns : goal.returns
returns c = let l = c.last_of.ensures in top_of c.args.ty c.args.self.now _ c.last_of.result c.as_slice.ensures.value (l.none, l.some, l.above)
