-- `analyse::learn::learn_one` meets its contract. Assumes nothing.
use mathlib.Core.Path.{ap, ◌∙◌}
use native.Mathlib.Omega.{arith}
use Prim.Native.Nat.{ℕ}
use Rattle.inst.specs.Table.{arm_at}
use Rattle.inst.specs.Table as T
use Rattle.analyse.proofs.Verdict.{reads_below}
use Rattle.analyse.proofs.Learned.{fits_more, learned}
use Rattle.analyse.proofs.learn.learn_one.Goals as goal

pub ask-y-requires : goal.ask-y-requires
ask-y-requires c = (c.requires.0, c.requires.1.good.known.within, reads_below c.requires.1.good (rw c.slots-slots.ensures.place at c.scan-x.ensures))

pub mark_record-requires : goal.mark_record-requires
mark_record-requires c =
    let scanned = rw c.slots-slots.ensures.place at c.scan-x.ensures in
    rw (c.slots-slots.ensures.recs, c.slots-slots.ensures.place) (
      c.stamp-d.ensures.1,
      fits_more c.requires.0.in_use c.requires.0.lent c.requires.1.good.fits,
      scanned.d0,
      scanned.d1,
    )

pub may_suspend-requires : goal.may_suspend-requires
may_suspend-requires c = c.requires.1.good.known.within

pub fact_of-requires : goal.fact_of-requires
fact_of-requires c = c.requires.1.small

pub returns : goal.returns
returns c =
    let scanned = rw c.slots-slots.ensures.place at c.scan-x.ensures in
    rw c.fact_of.ensures
    (learned _ _ c.judge-e.result c.may_suspend.result c.ask-y.result c.of.result c.requires.0 c.requires.2 c.requires.1 (c.of.ensures ∙ ap (λ (m : ℕ). arm_at (T.arm m)) c.row-m.ensures)
    (rw c.ask-y.ensures.0 at c.judge-e.ensures.0) scanned (rw (c.stamp-d.ensures.0, c.leads.ensures, c.slots-slots.ensures.recs, c.slots-slots.ensures.place) at c.mark_record.ensures) c.may_suspend.ensures
    (λ G past el s. c.ask-y.ensures.1 _ G past scanned el s)
    (λ G past z. c.judge-e.ensures.1 _ G past _ (omega (arith, c.requires.0.in_use, c.requires.0.lent)) c.requires.1.good z))
