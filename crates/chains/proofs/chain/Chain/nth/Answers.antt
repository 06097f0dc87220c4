-- `chains::chain::Chain::nth` meets its contract. Assumes nothing.
use Rattle.chains.proofs.Struct.{nth_is}
use Rattle.chains.proofs.chain.Chain.nth.Goals as goal

pub returns : goal.returns
returns c = nth_is c.args.self c.requires.1
