-- `effects::origin::inside` meets its contract. Assumes nothing.
use borrow.Author.Rules.{rules}
use Rattle.effects.proofs.Origins.{inside_yes, inside_no}
use Rattle.effects.proofs.origin.inside.Goals as goal

pub returns-then-o : goal.returns-then-o
returns-then-o c = (inside_yes _ c.if-o.true, search rules)

pub returns : goal.returns
returns c = (inside_no _ c.if-o.false, search rules)
