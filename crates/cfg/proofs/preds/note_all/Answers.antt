-- `cfg::preds::note_all` meets its contract. Assumes nothing.
use mathlib.Core.Path.{refl, ap, ◌∙◌}
use Prim.Native.Nat.{◌+◌}
use native.Mathlib.Omega.{arith}
use Rattle.cfg.specs.Succs.{left}
use Rattle.cfg.specs.Preds.{noted}
use Rattle.words.proofs.Steps.{steps_next, steps_past}
use Rattle.cfg.proofs.Each.{from_start, from_end, from_in, from_here, from_more, from_low}
use Rattle.cfg.proofs.preds.note_all.Goals as goal

pub loop-b-init : goal.loop-b-init
loop-b-init c = (0, from_start _ (ap left c.into_iter-b-iterator.ensures.into_iter_gives), refl)

pub note-requires : goal.note-requires
note-requires c = omega (arith, c.requires, c.loop-b.auto.words, from_low c.loop-b.invariant.1 c.in-Some.ensures.steps refl c.args.succs.below)

pub loop-b-preserved : goal.loop-b-preserved
loop-b-preserved c =
    let l = c.loop-b in
    let at = l.invariant.1 in
    let e = c.in-Some.ensures.steps in
    let f = noted c.args.c.0 in
    (l.invariant.0 + 1, from_more at e, steps_next f c.args.succs.list.now l.invariant.0 (from_in at e) (c.note.ensures ∙ ap (f l.words) (from_here at e)) l.invariant.2)

pub returns : goal.returns
returns c = let i = c.loop-b.invariant in steps_past _ _ _ (from_end i.1 c.in-None.ensures.steps.0) i.2
