-- `attempt::judge` meets its contract. Assumes nothing.
use mathlib.Core.Path.{ap}
use mathlib.Core.List.{List}
use Prim.Native.Nat.{ℕ, ◌+◌}
use native.Mathlib.Omega.{arith}
use Rattle.acceptance.specs.Lent.{picture}
use Rattle.model.proofs.Numbers.{number_low}
use Rattle.probe.specs.Attempt.{refused}
use Rattle.probe.proofs.Given.{none, some_cause, its_number}
use Rattle.probe.proofs.Attempts.{block_judges, no_block_judges}
use Rattle.probe.proofs.attempt.judge.Goals as goal

pub overflow_add-result : goal.overflow_add-result
overflow_add-result c = let h = number_low c.in-Err.cause in let e = c.number.ensures in omega arith

pub returns-in-Err : goal.returns-in-Err
returns-in-Err c =
    let r = c.args.room in
    λ (replay : List ℕ).
    let P = picture c.args.lent replay in
    record {
      is = refused (some_cause P r.w64 r.w32 r.records c.accept.ensures c.in-Err.is)
          (ap (λ (n : ℕ). 200 + n) (its_number P r.w64 r.w32 r.records c.accept.ensures c.in-Err.is c.number.ensures));
    }

pub returns-in_default-new : goal.returns-in_default-new
returns-in_default-new c =
    let r = c.args.room in
    λ (replay : List ℕ). let P = picture c.args.lent replay in no_block_judges P r c.args.x (none P r.w64 r.w32 r.records c.accept.ensures c.in_default.is) c.new.ensures c.in_default-new.is

pub returns : goal.returns
returns c =
    let r = c.args.room in
    λ (replay : List ℕ). let P = picture c.args.lent replay in block_judges P r c.args.x (none P r.w64 r.w32 r.records c.accept.ensures c.in_default.is) c.new.ensures c.in-Some.is
