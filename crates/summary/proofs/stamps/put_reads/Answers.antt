-- `summary::stamps::put_reads` meets its contract. Assumes nothing.
use Rattle.summary.proofs.Wording.{stamped_is, uses_all}
use borrow.Author.Tests.{not-true}
use Rattle.summary.proofs.stamps.put_reads.Goals as goal

pub put_uses-requires : goal.put_uses-requires
put_uses-requires c = c.requires.good.fits.room

pub returns-then-not-f : goal.returns-then-not-f
returns-then-not-f c =
    stamped_is (uses_all c.args.f c.requires (not-true _ c.if-not-f.true)) c.put_uses.ensures

pub put_places-requires : goal.put_places-requires
put_places-requires c = c.requires.good

pub returns : goal.returns
returns c = c.put_places.ensures
