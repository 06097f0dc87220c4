-- `flow::live::settle` meets its contract. Assumes nothing.
use mathlib.Core.Path.{refl, ap}
use Prim.Native.Nat.{◌+◌}
use native.Mathlib.Omega.{arith}
use Rattle.cfg.specs.Succs.{left}
use Rattle.cfg.proofs.Each.{from_start, from_end, from_here, from_low, from_more}
use Rattle.flow.proofs.Joins.{nothing, onto, edge_more, edge_all, room_kept}
use Rattle.flow.proofs.live.settle.Goals as goal

pub loop-s-init : goal.loop-s-init
loop-s-init c = (0, from_start _ (ap left c.into_iter-s-iterator.ensures.into_iter_gives), nothing _ refl (λ b s i d. let z = d.1.1 in omega arith))

pub join-changed-requires : goal.join-changed-requires
join-changed-requires c =
    let i = c.loop-s.invariant in
    (room_kept c.loop-s.bits i.2.size c.requires.0, c.requires.1, from_low i.1 c.in-Some.ensures.steps c.requires.2 c.args.succs.below)

pub loop-s-preserved : goal.loop-s-preserved
loop-s-preserved c =
    let i = c.loop-s.invariant in
    let e = c.in-Some.ensures.steps in
    (i.0 + 1, from_more i.1 e, edge_more c.args.succs.list.now (from_here i.1 e) i.2 (onto i.2.rest c.join-changed.ensures))

pub returns : goal.returns
returns c = let i = c.loop-s.invariant in edge_all c.args.succs.list.now i.1.inside (from_end i.1 c.in-None.ensures.steps.0) i.2
