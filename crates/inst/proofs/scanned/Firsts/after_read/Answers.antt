-- `inst::scanned::Firsts::after_read` meets its contract. Assumes nothing.
use Rattle.inst.proofs.Firsts.{none_read, one_read}
use Rattle.inst.proofs.scanned.Firsts.after_read.Goals as goal

pub returns-then-r-eq-ABSENT : goal.returns-then-r-eq-ABSENT
returns-then-r-eq-ABSENT c = λ rs ds h. none_read _ h c.if-r-eq-ABSENT.true

pub returns : goal.returns
returns c = λ rs ds h. one_read _ h c.if-r-eq-ABSENT.false
