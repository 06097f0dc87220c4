-- `flow::live::gather` meets its contract. Assumes nothing.
use mathlib.Core.Path.{refl, sym, ap, ◌∙◌}
use Prim.Native.Nat.{◌+◌}
use native.Mathlib.Omega.{arith}
use Rattle.words.proofs.Parts.{row_fits}
use Rattle.cfg.specs.Succs.{left}
use Rattle.cfg.proofs.Each.{from_start, from_end, from_in, from_here, from_low, from_more}
use Rattle.flow.proofs.Outs.{gathered_more, gathered_end}
use Rattle.flow.proofs.live.gather.Goals as goal

pub loop-s-init : goal.loop-s-init
loop-s-init c = (0, from_start _ (ap left c.into_iter-s-iterator.ensures.into_iter_gives), refl)

pub live-requires : goal.live-requires
live-requires c = let low = from_low c.loop-s.invariant.1 c.in-Some.ensures.steps c.requires.2 c.args.succs.below in omega (arith, row_fits c.args.grid.width low, c.requires)

pub overflow_add-x : goal.overflow_add-x
overflow_add-x c = let low = from_low c.loop-s.invariant.1 c.in-Some.ensures.steps c.requires.2 c.args.succs.below in omega (arith, row_fits c.args.grid.width low, c.requires, c.live.ensures)

pub offset_bounds-bits-live : goal.offset_bounds-bits-live
offset_bounds-bits-live c = let low = from_low c.loop-s.invariant.1 c.in-Some.ensures.steps c.requires.2 c.args.succs.below in omega (arith, row_fits c.args.grid.width low, c.requires, c.live.ensures)

pub bounds-bits-live : goal.bounds-bits-live
bounds-bits-live c = let low = from_low c.loop-s.invariant.1 c.in-Some.ensures.steps c.requires.2 c.args.succs.below in omega (arith, row_fits c.args.grid.width low, c.requires, c.live.ensures)

pub loop-s-preserved : goal.loop-s-preserved
loop-s-preserved c =
    let a = c.args in
    let l = c.loop-s in
    let i = l.invariant in
    let e = c.in-Some.ensures.steps in
    (i.0 + 1, from_more i.1 e, rw c.live.ensures (gathered_more a.bits.now a.grid.width a.i l.x a.succs.list.now i.0 _ (from_here i.1 e) (from_in i.1 e) ∙ i.2))

pub returns : goal.returns
returns c = let i = c.loop-s.invariant in sym (gathered_end _ _ _ _ _ _ (from_end i.1 c.in-None.ensures.steps.0)) ∙ i.2
