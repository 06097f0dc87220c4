-- `virdzeba_live` meets its contract. Assumes nothing.
use mathlib.Core.Path.{refl, sym}
use mathlib.Core.List.{[]}
use lib.ListN.{length}
use Rattle.words.specs.Bits.{width}
use Rattle.checks.specs.Causes.{picture_of}
use Rattle.laws.proofs.Accepted.{accepted, needed_records}
use Rattle.flow.proofs.Accepted.{graph_given}
use Rattle.flow.proofs.Whole.{rows_tables}
use Rattle.search.proofs.Start.{rows_asked}
use Rattle.probe.proofs.Given.{none, its_number, live_of}
use Rattle.probe.proofs.virdzeba_live.Goals as goal

pub invariant_of-func : goal.invariant_of-func
invariant_of-func c =
    let a = c.args in
    let P = picture_of a.bounds.now a.recs.now a.locs.now a.vias.now a.types.now a.registers a.ops.now a.operands a.pairs.now a.targets.now [] in
    let z = none P (length a.bits.now) a.w32 a.records c.accept.ensures c.in_default.is in
    record { graphed = graph_given P (accepted P (length a.bits.now) a.w32 a.records z) }

pub all_rows-requires : goal.all_rows-requires
all_rows-requires c =
    let a = c.args in
    let P = picture_of a.bounds.now a.recs.now a.locs.now a.vias.now a.types.now a.registers a.ops.now a.operands a.pairs.now a.targets.now [] in
    let z = none P (length a.bits.now) a.w32 a.records c.accept.ensures c.in_default.is in
    let k = rows_asked P a.w32 a.bits.now (needed_records P (length a.bits.now) a.w32 a.records z) refl refl refl refl in
    (k.0, k.1, k.3)

pub live_in-requires : goal.live_in-requires
live_in-requires c =
    let a = c.args in
    let P = picture_of a.bounds.now a.recs.now a.locs.now a.vias.now a.types.now a.registers a.ops.now a.operands a.pairs.now a.targets.now [] in
    let z = none P (length a.bits.now) a.w32 a.records c.accept.ensures c.in_default.is in
    let k = rows_asked P a.w32 a.bits.now (needed_records P (length a.bits.now) a.w32 a.records z) refl refl refl refl in
    (record { fits = rw c.all_rows.ensures.bits_len_unchanged k.2.fits }, k.1.few)

pub returns-clause-live : goal.returns-clause-live
returns-clause-live c =
    let a = c.args in
    λ e. live_of
    (picture_of a.bounds.now a.recs.now a.locs.now a.vias.now a.types.now a.registers a.ops.now a.operands a.pairs.now a.targets.now [])
    (width a.registers)
    (width a.registers)
    _
    refl
    (c.live_in.ensures.by_index a.ops.now (λ i h. rows_tables a.bounds.now a.recs.now a.ops.now a.pairs.now a.targets.now (width a.registers) i _ (c.all_rows.ensures.by_index i h)))

pub returns-in-Err-clause-value : goal.returns-in-Err-clause-value
returns-in-Err-clause-value c =
    let a = c.args in
    its_number (picture_of a.bounds.now a.recs.now a.locs.now a.vias.now a.types.now a.registers a.ops.now a.operands a.pairs.now a.targets.now []) (length a.bits.now) a.w32 a.records c.accept.ensures c.in-Err.is c.number.ensures

pub returns-clause-value : goal.returns-clause-value
returns-clause-value c =
    let a = c.args in
    sym (none (picture_of a.bounds.now a.recs.now a.locs.now a.vias.now a.types.now a.registers a.ops.now a.operands a.pairs.now a.targets.now []) (length a.bits.now) a.w32 a.records c.accept.ensures c.in_default.is)
