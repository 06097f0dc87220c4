-- `cfg::graph::Func::payload` meets its contract. Assumes nothing.
use mathlib.Core.Path.{refl}
use Prim.Native.Nat.{◌+◌, ◌*◌}
use Rattle.inst.proofs.Lists.{part_is}
use Rattle.cfg.proofs.graph.Func.payload.Goals as goal

pub returns : goal.returns
returns c = let a = c.args in part_is {a = 16 * a.p + 9} {n = a.n} a.self.now.recs.now refl refl
