-- `rename::count::count_pass` meets its contract. Assumes nothing.
use Rattle.std.proofs.Common.{rules}
use native.Mathlib.Omega.{arith}
use Rattle.rename.proofs.Lines.{slots_ok, slots_forgot}
use Rattle.rename.proofs.Positions.{among_ok}
use Rattle.rename.proofs.Counting.{counted_kept, counted_moved}
use Rattle.rename.proofs.count.count_pass.Goals as goal

pub slots-requires : goal.slots-requires
slots-requires c = c.requires.0.is.line.known

pub forget-requires : goal.forget-requires
forget-requires c =
    let l = c.requires.0.is.line in
    let e = c.slots.ensures in
    record { few = l.few_regs; by_index = slots_ok l e.recs e.place }

pub returns-then-not-goes : goal.returns-then-not-goes
returns-then-not-goes c = counted_kept c.requires.0.is (search rules) (slots_forgot c.slots.ensures.recs c.slots.ensures.place c.forget.ensures)

pub returns : goal.returns
returns c = counted_moved (search rules) c.count_list-r.ensures (among_ok _ c.args.k.def c.requires.1) (omega arith) c.put.ensures
