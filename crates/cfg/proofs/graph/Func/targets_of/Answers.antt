-- `cfg::graph::Func::targets_of` meets its contract. Assumes nothing.
use mathlib.Core.Path.{◌≡◌}
use Rattle.words.proofs.Bools.{clash}
use Rattle.inst.specs.declared.table.Shape.TheVariants.{Cases}
use Rattle.cfg.proofs.Successors.{shape_is, case_ends, ends_in_it}
use Rattle.cfg.proofs.graph.Func.targets_of.Goals.{in-Cases, in_default}
use Rattle.cfg.proofs.graph.Func.targets_of.Goals as goal

pub returns-then-matches : goal.returns-then-matches
returns-then-matches c =
    let f = c.args.self.now in
    let is-case : c.shape-shape.result ≡ Cases = elim c.match-matches.branch [ in-Cases w ↦ w.in-Cases.is | in_default w ↦ clash c.if-matches.true w.matches-is ] in
    case_ends f.bounds.now f.recs.now f.pairs.now f.targets.now c.args.p _ c.requires (shape_is _ c.shape-shape.ensures c.row.ensures c.kind.ensures) is-case c.payload.ensures c.case_targets.ensures

pub returns : goal.returns
returns c =
    let f = c.args.self.now in
    let no-case : c.shape-shape.result ≡ Cases → ⊥ = elim c.match-matches.branch [ in-Cases w ↦ clash w.matches-is c.if-matches.false | in_default w ↦ w.in_default.not-Cases ] in
    ends_in_it f.bounds.now f.recs.now f.pairs.now f.targets.now c.args.p _ c.requires (shape_is _ c.shape-shape.ensures c.row.ensures c.kind.ensures) no-case c.payload-2.ensures
