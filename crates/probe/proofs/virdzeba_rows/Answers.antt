-- `virdzeba_rows` meets its contract. Assumes nothing.
use mathlib.Core.Path.{refl, sym}
use mathlib.Core.List.{[]}
use lib.ListN.{length}
use Rattle.checks.specs.Causes.{picture_of}
use Rattle.laws.proofs.Accepted.{needed_records}
use Rattle.search.proofs.Start.{rows_asked}
use Rattle.probe.proofs.Given.{none, its_number}
use Rattle.probe.proofs.virdzeba_rows.Goals as goal

pub all_rows-requires : goal.all_rows-requires
all_rows-requires c =
    let a = c.args in
    let P = picture_of a.bounds.now a.recs.now a.locs.now a.vias.now a.types.now a.registers a.ops.now a.operands a.pairs.now a.targets.now [] in
    let z = none P (length a.bits.now) a.w32 a.records c.accept.ensures c.in_default.is in
    let k = rows_asked P a.w32 a.bits.now (needed_records P (length a.bits.now) a.w32 a.records z) refl refl refl refl in
    (k.0, k.1, k.3)

pub returns-clause-rows : goal.returns-clause-rows
returns-clause-rows c = λ e. c.all_rows.ensures.by_index

pub returns-in-Err-clause-value : goal.returns-in-Err-clause-value
returns-in-Err-clause-value c =
    let a = c.args in
    its_number (picture_of a.bounds.now a.recs.now a.locs.now a.vias.now a.types.now a.registers a.ops.now a.operands a.pairs.now a.targets.now []) (length a.bits.now) a.w32 a.records c.accept.ensures c.in-Err.is c.number.ensures

pub returns-clause-value : goal.returns-clause-value
returns-clause-value c =
    let a = c.args in
    sym (none (picture_of a.bounds.now a.recs.now a.locs.now a.vias.now a.types.now a.registers a.ops.now a.operands a.pairs.now a.targets.now []) (length a.bits.now) a.w32 a.records c.accept.ensures c.in_default.is)
