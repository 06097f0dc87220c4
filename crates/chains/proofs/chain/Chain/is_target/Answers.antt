-- `chains::chain::Chain::is_target` meets its contract. Assumes nothing.
use Rattle.chains.proofs.Search.{target_in, target_out}
use mathlib.Core.Path.{◌∙◌}
use Rattle.chains.proofs.chain.Chain.is_target.Goals as goal

pub returns-then-has : goal.returns-then-has
returns-then-has c = λ P n h q. target_in c.args.self q h c.has.ensures c.if-has.true

pub returns : goal.returns
returns c =
    let last = c.number.ensures ∙ c.last.ensures in
    λ P n h q. target_out c.args.self q h c.has.ensures c.if-has.false c.at-at.ensures last
