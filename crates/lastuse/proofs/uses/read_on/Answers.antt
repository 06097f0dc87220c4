-- `lastuse::uses::read_on` meets its contract. Assumes nothing.
use native.Mathlib.Omega.{arith}
use Rattle.inst.proofs.Gathered.{slots_below, list_below}
use Rattle.regfacts.proofs.Visiting.{read_low, written_low}
use Rattle.summary.proofs.Stamping.{whole_stamp}
use Rattle.lastuse.proofs.Using.{noticed_both}
use Rattle.lastuse.proofs.uses.read_on.Goals as goal

pub visit-visit-requires-clause-read : goal.visit-visit-requires-clause-read
visit-visit-requires-clause-read c = read_low c.requires.0

pub visit-visit-requires-clause-written : goal.visit-visit-requires-clause-written
visit-visit-requires-clause-written c = written_low c.requires.0.fits

pub note_regs-requires : goal.note_regs-requires
note_regs-requires c =
    (rw c.as_slice.ensures (slots_below _ _ c.visit-visit.ensures.reads (read_low c.requires.0)), c.requires.1, c.requires.2)

pub note_list-requires : goal.note_list-requires
note_list-requires c =
    (rw c.list.ensures (list_below _ _ c.visit-visit.ensures.reads (read_low c.requires.0)), c.requires.1, c.note_regs.ensures.size)

pub invariant_of-d : goal.invariant_of-d
invariant_of-d c = record { beside = whole_stamp _ (omega (arith, c.requires.3)) }

pub put_regs-requires : goal.put_regs-requires
put_regs-requires c = rw (c.as_slice-2.ensures, c.visit-visit.ensures.writes) (written_low c.requires.0.fits)

pub returns : goal.returns
returns c =
    let slots = rw c.as_slice.ensures at c.note_regs.ensures in
    let list = rw c.list.ensures at c.note_list.ensures in
    let written = rw c.as_slice-2.ensures at c.put_regs.ensures in
    let both = noticed_both slots list in
    record { noticed = rw c.visit-visit.ensures.reads at both; stamped = rw c.visit-visit.ensures.writes at written }
