-- `analyse::learn::may_suspend` meets its contract. Assumes nothing.
use Rattle.analyse.proofs.learn.may_suspend.Goals as goal

pub returns : goal.returns
returns c = rw (c.kind-k.ensures, c.form-f.ensures)
