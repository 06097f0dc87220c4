-- `trial::target::taken` meets its contract. Assumes nothing.
use mathlib.Core.Path.{sym}
use Rattle.trial.proofs.Aiming.{taken_none, taken_all}
use Rattle.trial.proofs.target.taken.Goals as goal

pub returns-then-least-k : goal.returns-then-least-k
returns-then-least-k c = let a = c.args in sym (taken_none a.k a.least a.n c.if-least-k.true)

pub returns : goal.returns
returns c = let a = c.args in sym (taken_all a.k a.least a.n c.if-least-k.false)
