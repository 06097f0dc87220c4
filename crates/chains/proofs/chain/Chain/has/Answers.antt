-- `chains::chain::Chain::has` meets its contract. Assumes nothing.
use mathlib.Core.Path.{◌∙◌}
use native.Mathlib.Omega.{arith}
use Rattle.chains.proofs.Struct.{has_is}
use Rattle.chains.proofs.chain.Chain.has.Goals as goal

pub returns : goal.returns
returns c = c.contains.ensures.value ∙ has_is c.args.self c.args.b (omega (arith, c.requires.most))
