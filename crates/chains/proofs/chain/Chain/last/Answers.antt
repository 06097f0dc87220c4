-- `chains::chain::Chain::last` meets its contract. Assumes nothing.
use Rattle.chains.specs.Chain.{last_of}
use Rattle.chains.proofs.chain.Chain.last.Goals as goal

pub returns : goal.returns
unfolding last_of
returns c = c.nth.ensures
