-- `legality::forward::forth` meets its contract. Assumes nothing.
use Rattle.summary.proofs.Stamping.{writer_stamp}
use Rattle.summary.proofs.Forwarding.{forwarded_less, forwarded_same, fact_low}
use Rattle.legality.proofs.forward.forth.Goals.{then-f-stays, else-f-stays}
use Rattle.legality.proofs.forward.forth.Goals as goal

pub put_writes-requires : goal.put_writes-requires
put_writes-requires c = c.requires.0

pub invariant_of-d : goal.invariant_of-d
invariant_of-d c = record { beside = writer_stamp c.stamp_of.ensures (fact_low _ _ c.requires.2.org) }

pub returns : goal.returns
returns c = elim c.if-f-stays.branch [
  | then-f-stays w ↦ rw w.lasts-is (forwarded_less c.may_stay-stays.ensures c.stamp_of.ensures c.put_writes.ensures w.if-f-stays.true w.forget.ensures)
  | else-f-stays w ↦ rw w.lasts-is (forwarded_same c.may_stay-stays.ensures c.stamp_of.ensures c.put_writes.ensures w.if-f-stays.false)
]
