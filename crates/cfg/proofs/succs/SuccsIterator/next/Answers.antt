-- `cfg::succs::Succs` yields what is left. Assumes nothing.
use Rattle.cfg.proofs.Each.{rest_below}
use Rattle.cfg.proofs.succs.SuccsIterator.next.Goals as goal

pub invariant_of-self : goal.invariant_of-self
invariant_of-self c = record { below = rest_below c.in_ok-b.ensures.cases.0 c.args.self.now.below }
