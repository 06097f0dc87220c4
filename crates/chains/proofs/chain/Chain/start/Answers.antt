-- `chains::chain::Chain::start` meets its contract. Assumes nothing.
use mathlib.Core.Path.{refl}
use Rattle.chains.specs.Chain.{blocks_of}
use Rattle.chains.proofs.chain.Chain.start.Goals as goal

pub returns : goal.returns
unfolding blocks_of
returns c = (refl, refl)
