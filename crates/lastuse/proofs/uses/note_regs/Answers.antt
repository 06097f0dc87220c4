-- `lastuse::uses::note_regs` meets its contract. Assumes nothing.
use mathlib.Core.Path.{refl}
use Rattle.std.proofs.lemmas.List.{take_all}
use Rattle.words.proofs.Members.{in_get_or, map_in}
use Rattle.inst.specs.declared.index.Reg.{Reg}
use Rattle.summary.proofs.Places.{held}
use Rattle.words.proofs.Lists.{map_more}
use Rattle.lastuse.proofs.Using.{noticed_none, noticed_more}
use Rattle.lastuse.proofs.uses.note_regs.Goals as goal

pub loop-r-init : goal.loop-r-init
loop-r-init c = noticed_none _ c.requires.2

pub note-requires : goal.note-requires
note-requires c =
    let there = in_get_or _ c.args.regs.now c.loop-r.r-index c.loop-r-test.true in
    ((held c.args.regs.now c.requires.0 _ there refl).among, c.requires.1)

pub loop-r-preserved : goal.loop-r-preserved
loop-r-preserved c =
    let regs = c.args.regs.now in
    let l = c.loop-r in
    let h = c.loop-r-test.true in
    let there = map_in (λ (r : Reg). r.0) _ regs (in_get_or _ regs l.r-index h) in
    noticed_more (map_more (λ (r : Reg). r.0) regs l.r-index _ h) c.requires.0 there refl c.note.ensures l.invariant

pub returns : goal.returns
returns c = rw (take_all c.loop-r.r-index c.args.regs.now c.loop-r-test.false) at c.loop-r.invariant
