-- `trial::block::try_chain` meets its contract. Assumes nothing.
use Rattle.trial.proofs.Trials as law
use Rattle.trial.proofs.block.try_chain.Goals as goal

pub learn-n-requires : goal.learn-n-requires
learn-n-requires c = (law.learning c.args.k c.requires.0 c.requires.1)

pub toward_t-g-requires : goal.toward_t-g-requires
toward_t-g-requires c = law.measured c.args.k c.requires.0

pub try_target-into_t-requires : goal.try_target-into_t-requires
try_target-into_t-requires c =
    let asks = law.trying_t c.args.k c.requires.0 c.args.facts.now c.requires.1 c.learn-n.ensures c.learn-n.auto.facts c.toward_t-g.ensures in
    (asks.0, asks.1)

pub try_target-into_f-requires : goal.try_target-into_f-requires
try_target-into_f-requires c =
    let asks = law.trying_f c.args.k c.requires.0 c.args.facts.now c.requires.1 c.learn-n.ensures c.learn-n.auto.facts c.toward_t-g.ensures
    c.try_target-into_t.new.facts c.try_target-into_t.ensures c.try_target-into_t.auto.facts c.toward_f-h.ensures in
    (asks.0, asks.1)

pub returns : goal.returns
returns c =
    let a = c.args in
    rw c.found.ensures
    (law.followed a.k c.requires.0 a.facts.now c.requires.1 c.learn-n.ensures c.learn-n.auto.facts c.toward_t-g.ensures
    c.try_target-into_t.new.facts c.try_target-into_t.ensures c.try_target-into_t.auto.facts c.toward_f-h.ensures c.try_target-into_f.ensures.0)
