-- `chains::chain::Chain::with` meets its contract. Assumes nothing.
use native.Mathlib.Omega.{arith}
use Rattle.chains.proofs.Struct.{with_one}
use Rattle.chains.proofs.chain.Chain.with.Goals as goal

pub returns : goal.returns
returns c = with_one c.args.self c.args.b (omega (arith, c.requires.1)) _ _
