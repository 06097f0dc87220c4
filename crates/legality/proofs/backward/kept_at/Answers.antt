-- `legality::backward::kept_at` meets its contract. Assumes nothing.
use Rattle.summary.proofs.Backing.{kept_no, kept_yes}
use Rattle.legality.proofs.backward.kept_at.Goals as goal

pub returns-then-member : goal.returns-then-member
returns-then-member c = kept_no _ _ c.if-member.true

pub returns : goal.returns
returns c = kept_yes _ _ c.if-member.false
