-- `cfg::graph::Func::next_of` meets its contract. Assumes nothing.
use Rattle.cfg.proofs.Successors.{empty_block, last_known, full_block}
use Rattle.cfg.proofs.graph.Func.next_of.Goals as goal

pub returns-then-past-start : goal.returns-then-past-start
returns-then-past-start c =
    let f = c.args.self.now in
    empty_block f.bounds.now f.recs.now f.pairs.now f.targets.now c.args.b.0 _ _ c.start-start.ensures c.past-past.ensures c.if-past-start.true

pub targets_of-requires : goal.targets_of-requires
targets_of-requires c = last_known _ _ _ _ _ _ _ c.start-start.ensures c.past-past.ensures c.args.self.now.graphed c.requires c.if-past-start.false

pub returns : goal.returns
returns c =
    let f = c.args.self.now in
    full_block f.bounds.now f.recs.now f.pairs.now f.targets.now c.args.b.0 _ _ c.start-start.ensures c.past-past.ensures c.if-past-start.false _ c.targets_of.ensures
