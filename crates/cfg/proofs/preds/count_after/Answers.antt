-- `cfg::preds::count_after` meets its contract. Assumes nothing.
use Rattle.cfg.proofs.Noted.{count_none, count_more, count_same}
use Rattle.cfg.proofs.preds.count_after.Goals as goal

pub returns-then-k-eq0 : goal.returns-then-k-eq0
returns-then-k-eq0 c = let a = c.args in count_none a.k a.p a.c.0 c.if-k-eq0.true

pub returns-then-k-p : goal.returns-then-k-p
returns-then-k-p c = let a = c.args in let e = c.number.ensures in count_more a.k a.p a.c.0 c.if-k-eq0.false (rw e at c.if-k-p.true)

pub returns : goal.returns
returns c = let a = c.args in let e = c.number.ensures in count_same a.k a.p a.c.0 c.if-k-eq0.false (rw e at c.if-k-p.false)
