-- `inst::code::Code::visit` meets its contract. Assumes nothing.
use Rattle.model.specs.Picture.{inst}
use Rattle.inst.proofs.Gathered.{slots_low, visited}
use Rattle.inst.proofs.code.Code.visit.Goals as goal

pub gather_reads-requires : goal.gather_reads-requires
gather_reads-requires c = let e = c.slots-slots.ensures in rw (e.recs, e.place) (slots_low _ _ c.requires.read)

pub gather_writes-requires : goal.gather_writes-requires
gather_writes-requires c = let e = c.slots-slots.ensures in rw (e.recs, e.place) c.requires.written

pub returns-clause-reads : goal.returns-clause-reads
returns-clause-reads c =
    let a = c.args in
    let i = inst a.self.now.recs.now a.p in
    let e = c.slots-slots.ensures in
    visited _ a.self.now.ops.now i (rw (e.recs, e.place) at c.gather_reads.ensures) c.list_start.ensures.0 c.list_len.ensures.0

pub returns-clause-writes : goal.returns-clause-writes
returns-clause-writes c = let e = c.slots-slots.ensures in rw (e.recs, e.place) at c.gather_writes.ensures
