-- `chains::positions::Positions` yields what is left. Assumes nothing.
use mathlib.Core.Path.{◌≡◌}
use mathlib.Core.List.{[]}
use Rattle.chains.specs.Positions.{bounded, left}
use Rattle.chains.proofs.Seeking.{nothing_left}
use Rattle.chains.proofs.positions.PositionsIterator.next.Goals as goal

pub returns-then-self-g-clause-steps : goal.returns-then-self-g-clause-steps
returns-then-self-g-clause-steps c =
    let s = c.args.self.now in
    let z : left s ≡ [] = nothing_left (bounded s.bounds.now) s.laid s.standing c.if-self-g.true in
    (z, z)
