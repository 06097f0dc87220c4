-- `plan::sweep::forth_in` meets its contract. Assumes nothing.
use mathlib.Core.Path.{sym}
use lib.ListN.{length}
use Rattle.plan.proofs.Lent.{forth_part, words_written, words_readable, words_near, words_long}
use Rattle.plan.proofs.sweep.forth_in.Goals as goal

pub forth-requires : goal.forth-requires
forth-requires c =
    let p = c.requires in
    let a = c.args in
    let s = a.s in
    let n = length a.given.now.regs.now in
    let w = a.work.now in
    (words_written s n w p.5 p.0, words_readable s n w p.5 p.1, p.2, words_near s n w p.5 p.3, sym (words_long s n w p.5), p.4)

pub returns : goal.returns
returns c = forth_part c.args.work.now c.requires.5 c.forth.ensures
