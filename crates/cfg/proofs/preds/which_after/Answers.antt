-- `cfg::preds::which_after` meets its contract. Assumes nothing.
use mathlib.Core.Path.{◌∙◌}
use Rattle.cfg.proofs.Noted.{which_none, which_same}
use Rattle.cfg.proofs.preds.which_after.Goals as goal

pub returns-then-k-eq0 : goal.returns-then-k-eq0
returns-then-k-eq0 c = let a = c.args in c.number.ensures ∙ which_none a.k a.p a.c.0 c.if-k-eq0.true

pub returns : goal.returns
returns c = let a = c.args in which_same a.k a.p a.c.0 c.if-k-eq0.false
