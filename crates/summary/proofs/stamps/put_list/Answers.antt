-- `summary::stamps::put_list` meets its contract. Assumes nothing.
use mathlib.Core.Path.{sym}
use Rattle.std.proofs.lemmas.List.{take_more, take_all}
use Rattle.words.proofs.Members.{in_get_or}
use Rattle.summary.proofs.Places.{in_made}
use Rattle.summary.proofs.Stamping.{stamped_none, stamped_more}
use Rattle.summary.proofs.stamps.put_list.Goals as goal

pub loop-r-init : goal.loop-r-init
loop-r-init c = stamped_none _ _ _ _

pub put-requires : goal.put-requires
put-requires c =
    let l = c.loop-r in
    (in_made c.requires (in_get_or 0 c.args.list.now l.r-index c.loop-r-test.true) l.invariant.size c.new.ensures).among

pub loop-r-preserved : goal.loop-r-preserved
loop-r-preserved c =
    let l = c.loop-r in
    let xs = c.args.list.now in
    let h = c.loop-r-test.true in
    let there = in_get_or 0 xs l.r-index h in
    let made = in_made c.requires there l.invariant.size c.new.ensures in
    stamped_more c.args.d.beside (sym (take_more xs l.r-index 0 h)) c.requires there made.word c.put.ensures l.invariant

pub returns : goal.returns
returns c = rw (take_all c.loop-r.r-index c.args.list.now c.loop-r-test.false) at c.loop-r.invariant
