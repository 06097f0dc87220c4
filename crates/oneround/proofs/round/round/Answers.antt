-- `oneround::round::round` meets its contract. Assumes nothing.
use Rattle.oneround.proofs.Rounded.{graphed, finding, ready, making, stepped}
use Rattle.oneround.proofs.Kept.{step_kept}
use Rattle.oneround.proofs.round.round.Goals as goal

pub invariant_of-func : goal.invariant_of-func
invariant_of-func c = record { graphed = graphed c.requires.0 }

pub find_move-found-requires : goal.find_move-found-requires
find_move-found-requires c = (finding c.requires.0, c.requires.1)

pub weigh-r-requires : goal.weigh-r-requires
weigh-r-requires c = ready c.requires.0 c.find_move-found.ensures

pub make-requires : goal.make-requires
make-requires c = making c.requires.0 c.find_move-found.ensures c.weigh-r.ensures

pub returns : goal.returns
returns c = let s = stepped c.requires.0 c.find_move-found.ensures c.weigh-r.ensures c.make.ensures in (s, step_kept s)
