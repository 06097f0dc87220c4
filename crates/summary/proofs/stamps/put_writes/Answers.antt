-- `summary::stamps::put_writes` meets its contract. Assumes nothing.
use Rattle.summary.proofs.Wording.{stamped_is, def_all}
use borrow.Author.Tests.{not-true}
use Rattle.summary.proofs.stamps.put_writes.Goals as goal

pub put_def-requires : goal.put_def-requires
put_def-requires c = c.requires.fits.room

pub returns-then-not-f : goal.returns-then-not-f
returns-then-not-f c =
    stamped_is (def_all c.args.f c.requires (not-true _ c.if-not-f.true)) c.put_def.ensures

pub slots-requires : goal.slots-requires
slots-requires c = c.requires.known

pub put_slots-requires : goal.put_slots-requires
put_slots-requires c = rw (c.slots.ensures.recs, c.slots.ensures.place) c.requires.fits

pub returns : goal.returns
returns c = rw (c.slots.ensures.recs, c.slots.ensures.place) at c.put_slots.ensures
