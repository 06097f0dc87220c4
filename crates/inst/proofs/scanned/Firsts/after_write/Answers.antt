-- `inst::scanned::Firsts::after_write` meets its contract. Assumes nothing.
use Rattle.inst.proofs.Firsts.{none_written, one_written}
use Rattle.inst.proofs.scanned.Firsts.after_write.Goals as goal

pub returns-then-r-eq-ABSENT : goal.returns-then-r-eq-ABSENT
returns-then-r-eq-ABSENT c = λ rs ds h. none_written _ h c.if-r-eq-ABSENT.true

pub returns : goal.returns
returns c = λ rs ds h. one_written _ h c.if-r-eq-ABSENT.false
