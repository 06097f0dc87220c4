-- `apply::needs::needs` meets its contract. Assumes nothing.
use Rattle.apply.proofs.Asked.{x_words, t_words, ready}
use Rattle.apply.proofs.Done.{asks_kept, ask_at, needs_law}
use Rattle.apply.proofs.needs.needs.Goals as goal

pub allot-regs-requires : goal.allot-regs-requires
allot-regs-requires c = ready c.requires.is

pub walk-walk-requires : goal.walk-walk-requires
walk-walk-requires c = (x_words c.requires.is, t_words c.requires.is)

pub count_all-more-requires : goal.count_all-more-requires
count_all-more-requires c =
    let l = c.allot-regs.ensures in
    let walk = c.walk-walk.ensures in
    let kept = asks_kept _ _ l.all.keeps l.all.size c.requires.is in
    record { u = c.args.c.opers; is = rw (walk.inside.0, walk.inside.1, walk.words) (ask_at kept walk.from walk.start walk.end) }

pub returns : goal.returns
returns c =
    let walk = c.walk-walk.ensures in
    needs_law c.requires.is c.allot-regs.ensures walk.from walk.start walk.end (rw (walk.inside.0, walk.inside.1, walk.words) at c.count_all-more.ensures.0)
