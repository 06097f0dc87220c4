-- `plan::sweep::back_in` meets its contract. Assumes nothing.
use lib.ListN.{length}
use Rattle.plan.proofs.Lent.{back_part, words_written, words_readable}
use Rattle.plan.proofs.sweep.back_in.Goals as goal

pub back-requires : goal.back-requires
back-requires c =
    let p = c.requires in
    let a = c.args in
    let n = length a.given.now.regs.now in
    (words_written a.s n a.work.now p.4 p.0, words_readable a.s n a.work.now p.4 p.1, p.2, p.3)

pub returns : goal.returns
returns c = back_part c.args.work.now c.requires.4 c.back.ensures
