-- `inst::code::Slots::scan` meets its contract. Assumes nothing.
use Rattle.inst.proofs.code.Slots.scan.Goals as goal

pub returns : goal.returns
returns c = c.before-3.ensures _ (c.before-2.ensures _ (c.before-c.ensures _ (c.last_before-e.ensures _ c.of_list.ensures)))
