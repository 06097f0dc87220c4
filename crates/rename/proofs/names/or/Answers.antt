-- `rename::names::or` meets its contract. Assumes nothing.
use mathlib.Core.Path.{sym, ap}
use mathlib.Core.Bool.{cond}
use borrow.Author.Tests.{eq-eqb, ne_eqb}
use Rattle.rename.proofs.names.or.Goals as goal

pub returns-then-w-eq-ABSENT : goal.returns-then-w-eq-ABSENT
returns-then-w-eq-ABSENT c = sym (ap (λ b. cond b c.args.x c.args.w) (eq-eqb _ _ c.if-w-eq-ABSENT.true))

pub returns : goal.returns
returns c = sym (ap (λ b. cond b c.args.x c.args.w) (ne_eqb _ _ c.if-w-eq-ABSENT.false))
