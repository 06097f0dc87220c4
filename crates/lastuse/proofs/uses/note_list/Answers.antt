-- `lastuse::uses::note_list` meets its contract. Assumes nothing.
use mathlib.Core.Path.{refl, sym}
use Rattle.std.proofs.lemmas.List.{take_more, take_all}
use Rattle.words.proofs.Members.{in_get_or}
use Rattle.summary.proofs.Places.{in_made}
use Rattle.lastuse.proofs.Using.{noticed_none, noticed_more}
use Rattle.lastuse.proofs.uses.note_list.Goals as goal

pub loop-r-init : goal.loop-r-init
loop-r-init c = noticed_none _ c.requires.2

pub note-requires : goal.note-requires
note-requires c =
    let there = in_get_or 0 c.args.list.now c.loop-r.r-index c.loop-r-test.true in
    ((in_made c.requires.0 there refl c.new.ensures).among, c.requires.1)

pub loop-r-preserved : goal.loop-r-preserved
loop-r-preserved c =
    let l = c.loop-r in
    let xs = c.args.list.now in
    let h = c.loop-r-test.true in
    let there = in_get_or 0 xs l.r-index h in
    let made = in_made c.requires.0 there refl c.new.ensures in
    noticed_more (sym (take_more xs l.r-index 0 h)) c.requires.0 there made.word c.note.ensures l.invariant

pub returns : goal.returns
returns c = rw (take_all c.loop-r.r-index c.args.list.now c.loop-r-test.false) at c.loop-r.invariant
