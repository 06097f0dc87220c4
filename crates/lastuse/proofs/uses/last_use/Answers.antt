-- `lastuse::uses::last_use` meets its contract. Assumes nothing.
use native.Mathlib.Omega.{arith}
use Rattle.lastuse.proofs.LastUse.{use_inside, use_past}
use Rattle.lastuse.proofs.uses.last_use.Goals as goal

pub unneeded_slots-requires : goal.unneeded_slots-requires
unneeded_slots-requires c = let p = c.requires in (rw (c.slots.ensures.recs, c.slots.ensures.place) p.1, omega (arith, p.2, p.3), p.4)

pub returns-then-unneeded_slots : goal.returns-then-unneeded_slots
returns-then-unneeded_slots c =
    let a = c.args in
    use_inside a.code.now.recs.now a.asked.now.regs.now a.asked.now.bits.now a.asked.now.at a.lasts.now a.g a.p a.n (rw (c.slots.ensures.recs, c.slots.ensures.place) at c.unneeded_slots.ensures) c.if-unneeded_slots.true

pub returns : goal.returns
returns c =
    let a = c.args in
    use_past a.code.now.recs.now a.asked.now.regs.now a.asked.now.bits.now a.asked.now.at a.lasts.now a.g a.p a.n (rw (c.slots.ensures.recs, c.slots.ensures.place) at c.unneeded_slots.ensures) c.if-unneeded_slots.false
