-- `effects::origin::agree` meets its contract. Assumes nothing.
use borrow.Author.Rules.{rules}
use Rattle.effects.proofs.Origins.{agree_yes, agree_no}
use Rattle.effects.proofs.origin.agree.Goals as goal

pub returns-then-a-b : goal.returns-then-a-b
returns-then-a-b c = (agree_yes _ _ c.if-a-b.true, search rules)

pub returns : goal.returns
returns c = (agree_no _ _ c.if-a-b.false, search rules)
