-- `rename::count::count_own` meets its contract. Assumes nothing.
use Rattle.rename.proofs.Lines.{slots_ok, slots_forgot}
use Rattle.rename.proofs.Counting.{counted_own}
use Rattle.rename.proofs.count.count_own.Goals as goal

pub slots-requires : goal.slots-requires
slots-requires c = c.requires.is.line.known

pub forget-requires : goal.forget-requires
forget-requires c =
    let l = c.requires.is.line in
    let e = c.slots.ensures in
    record { few = l.few_regs; by_index = slots_ok l e.recs e.place }

pub returns : goal.returns
returns c = counted_own c.requires.is c.count_list-r.ensures (slots_forgot c.slots.ensures.recs c.slots.ensures.place c.forget.ensures)
