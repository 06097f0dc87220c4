-- `rename::walk::skip_all` meets its contract. Assumes nothing.
use mathlib.Core.Path.{refl}
use Rattle.rename.proofs.Lines.{slots_ok, slots_forgot}
use Rattle.rename.proofs.Passing.{skipping_none, skipping_more, skipping_end, line_at}
use Rattle.rename.proofs.walk.skip_all.Goals as goal

pub loop-p-init : goal.loop-p-init
loop-p-init c = skipping_none _ _ _ _ _ c.requires.is.order

pub slots-requires : goal.slots-requires
slots-requires c = (line_at c.requires.is c.loop-p.invariant c.loop-p-test.true refl).known

pub forget-requires : goal.forget-requires
forget-requires c =
    let l = line_at c.requires.is c.loop-p.invariant c.loop-p-test.true refl in
    let e = c.slots.ensures in
    record { few = l.few_regs; by_index = slots_ok l e.recs e.place }

pub loop-p-preserved : goal.loop-p-preserved
loop-p-preserved c = skipping_more c.requires.is c.loop-p.invariant c.loop-p-test.true refl (slots_forgot c.slots.ensures.recs c.slots.ensures.place c.forget.ensures)

pub returns : goal.returns
returns c = skipping_end c.loop-p.invariant c.loop-p-test.false
