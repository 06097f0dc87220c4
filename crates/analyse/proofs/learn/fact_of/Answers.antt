-- `analyse::learn::fact_of` meets its contract. Assumes nothing.
use Rattle.analyse.specs.Step.{fact_of}
use Rattle.analyse.proofs.learn.fact_of.Goals as goal

pub returns : goal.returns
unfolding fact_of
returns c = rw (c.number.ensures, c.more.ensures)
