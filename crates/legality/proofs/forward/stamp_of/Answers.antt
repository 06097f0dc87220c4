-- `legality::forward::stamp_of` meets its contract. Assumes nothing.
use Rattle.summary.proofs.Forwarding.{stamp_in, stamp_out}
use Rattle.legality.proofs.forward.stamp_of.Goals as goal

pub returns-then-member : goal.returns-then-member
returns-then-member c = rw c.from-o.ensures (stamp_in c.args.f _ c.if-member.true)

pub returns : goal.returns
returns c = rw c.from-o.ensures (stamp_out c.args.f _ c.if-member.false)
