-- `cfg::graph::Func::case_targets` meets its contract. Assumes nothing.
use mathlib.Core.Path.{refl}
use Rattle.cfg.proofs.Successors.{no_table, one_table}
use Rattle.cfg.proofs.graph.Func.case_targets.Goals as goal

pub returns-then-self-i : goal.returns-then-self-i
returns-then-self-i c = let f = c.args.self.now in no_table f.bounds.now f.recs.now f.pairs.now f.targets.now c.args.k c.if-self-i.true

pub returns : goal.returns
returns c = let f = c.args.self.now in one_table f.bounds.now f.recs.now f.pairs.now f.targets.now c.args.k _ _ refl refl
