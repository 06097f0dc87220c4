-- `acceptance::accept` meets its contract: past each test the answer is what the rest of the causes say. Assumes nothing.
use borrow.Author.Rules.{rules}
use mathlib.Core.Path.{◌≡◌, ◌∙◌}
use mathlib.Core.List.{[]}
use Rattle.std.specs.Prelude.{Err}
use Rattle.acceptance.specs.Lent.{picture}
use Rattle.acceptance.proofs.Chain.{by_kind, by_slot, by_list, by_branch, by_cat, by_type, by_work, by_none}
use Rattle.acceptance.proofs.accept.Goals as goal

pub returns-in_err-found : goal.returns-in_err-found
returns-in_err-found c =
    let h : c.from_residual.result ≡ Err c.in_err-found.field-0.0 = search rules in
    h ∙ by_kind (picture c.args.lent []) c.args.room.w64 c.args.room.w32 c.args.room.records
    c.too_large.ensures c.if-too_large.false c.uneven.ensures c.if-uneven.false c.gaps.ensures c.if-gaps.false c.look.ensures c.in_err-found.was

pub returns-then-found : goal.returns-then-found
returns-then-found c =
    by_slot (picture c.args.lent []) c.args.room.w64 c.args.room.w32 c.args.room.records
    c.too_large.ensures c.if-too_large.false c.uneven.ensures c.if-uneven.false c.gaps.ensures c.if-gaps.false c.look.ensures
    c.in_ok-found.was c.if-found.true

pub returns-then-bad_lists : goal.returns-then-bad_lists
returns-then-bad_lists c =
    by_list (picture c.args.lent []) c.args.room.w64 c.args.room.w32 c.args.room.records
    c.too_large.ensures c.if-too_large.false c.uneven.ensures c.if-uneven.false c.gaps.ensures c.if-gaps.false c.look.ensures
    c.in_ok-found.was c.if-found.false c.bad_lists.ensures c.if-bad_lists.true

pub returns-then-bad_targets : goal.returns-then-bad_targets
returns-then-bad_targets c =
    by_branch (picture c.args.lent []) c.args.room.w64 c.args.room.w32 c.args.room.records
    c.too_large.ensures c.if-too_large.false c.uneven.ensures c.if-uneven.false c.gaps.ensures c.if-gaps.false c.look.ensures
    c.in_ok-found.was c.if-found.false c.bad_lists.ensures c.if-bad_lists.false c.bad_targets.ensures c.if-bad_targets.true

pub returns-then-found-2 : goal.returns-then-found-2
returns-then-found-2 c =
    by_cat (picture c.args.lent []) c.args.room.w64 c.args.room.w32 c.args.room.records
    c.too_large.ensures c.if-too_large.false c.uneven.ensures c.if-uneven.false c.gaps.ensures c.if-gaps.false c.look.ensures
    c.in_ok-found.was c.if-found.false c.bad_lists.ensures c.if-bad_lists.false c.bad_targets.ensures c.if-bad_targets.false c.if-found-2.true

pub returns-then-bad_types : goal.returns-then-bad_types
returns-then-bad_types c =
    by_type (picture c.args.lent []) c.args.room.w64 c.args.room.w32 c.args.room.records
    c.too_large.ensures c.if-too_large.false c.uneven.ensures c.if-uneven.false c.gaps.ensures c.if-gaps.false c.look.ensures
    c.in_ok-found.was c.if-found.false c.bad_lists.ensures c.if-bad_lists.false c.bad_targets.ensures c.if-bad_targets.false c.if-found-2.false c.bad_types.ensures c.if-bad_types.true

pub returns-then-too_short : goal.returns-then-too_short
returns-then-too_short c =
    by_work (picture c.args.lent []) c.args.room.w64 c.args.room.w32 c.args.room.records
    c.too_large.ensures c.if-too_large.false c.uneven.ensures c.if-uneven.false c.gaps.ensures c.if-gaps.false c.look.ensures
    c.in_ok-found.was c.if-found.false c.bad_lists.ensures c.if-bad_lists.false c.bad_targets.ensures c.if-bad_targets.false c.if-found-2.false c.bad_types.ensures c.if-bad_types.false c.too_short.ensures c.if-too_short.true

pub returns : goal.returns
returns c =
    by_none (picture c.args.lent []) c.args.room.w64 c.args.room.w32 c.args.room.records
    c.too_large.ensures c.if-too_large.false c.uneven.ensures c.if-uneven.false c.gaps.ensures c.if-gaps.false c.look.ensures
    c.in_ok-found.was c.if-found.false c.bad_lists.ensures c.if-bad_lists.false c.bad_targets.ensures c.if-bad_targets.false c.if-found-2.false c.bad_types.ensures c.if-bad_types.false c.too_short.ensures c.if-too_short.false
