-- `virdzeba_preds` meets its contract. Assumes nothing.
use mathlib.Core.Path.{sym}
use mathlib.Core.List.{[]}
use lib.ListN.{length}
use Rattle.checks.specs.Causes.{picture_of}
use Rattle.laws.proofs.Accepted.{accepted}
use Rattle.flow.proofs.Accepted.{graph_given}
use Rattle.probe.proofs.Given.{none, its_number, words_room}
use Rattle.probe.proofs.virdzeba_preds.Goals as goal

pub invariant_of-func : goal.invariant_of-func
invariant_of-func c =
    let a = c.args in
    let P = picture_of a.bounds.now a.recs.now a.locs.now a.vias.now a.types.now a.registers a.ops.now a.operands a.pairs.now a.targets.now [] in
    let z = none P a.w64 (length a.words.now) a.records c.accept.ensures c.in_default.is in
    record { graphed = graph_given P (accepted P a.w64 (length a.words.now) a.records z) }

pub find_preds-requires : goal.find_preds-requires
find_preds-requires c =
    let a = c.args in
    let P = picture_of a.bounds.now a.recs.now a.locs.now a.vias.now a.types.now a.registers a.ops.now a.operands a.pairs.now a.targets.now [] in
    let z = none P a.w64 (length a.words.now) a.records c.accept.ensures c.in_default.is in
    words_room P a.w64 (length a.words.now) a.records z

pub returns-in-Err-clause-value : goal.returns-in-Err-clause-value
returns-in-Err-clause-value c =
    let a = c.args in
    its_number (picture_of a.bounds.now a.recs.now a.locs.now a.vias.now a.types.now a.registers a.ops.now a.operands a.pairs.now a.targets.now []) a.w64 (length a.words.now) a.records c.accept.ensures c.in-Err.is c.number.ensures

pub returns-clause-value : goal.returns-clause-value
returns-clause-value c =
    let a = c.args in
    sym (none (picture_of a.bounds.now a.recs.now a.locs.now a.vias.now a.types.now a.registers a.ops.now a.operands a.pairs.now a.targets.now []) a.w64 (length a.words.now) a.records c.accept.ensures c.in_default.is)
