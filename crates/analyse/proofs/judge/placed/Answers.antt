-- `analyse::judge::placed` meets its contract. Assumes nothing.
use native.Mathlib.Omega.{arith}
use Rattle.analyse.proofs.Verdict.{placed_kept, placed_none, placed_unknown}
use Rattle.analyse.proofs.judge.placed.Goals as goal

pub returns-then-e-ne0 : goal.returns-then-e-ne0
returns-then-e-ne0 c = (placed_kept c.args.e _ _ c.if-e-ne0.true, λ h. h)

pub returns-then-is_movable-e : goal.returns-then-is_movable-e
returns-then-is_movable-e c = (placed_none c.args.e _ _ c.if-e-ne0.false (rw c.is_movable.ensures at c.if-is_movable-e.true), λ h. omega arith)

pub returns : goal.returns
returns c = (rw c.memory.ensures (placed_unknown c.args.e _ _ c.if-e-ne0.false (rw c.is_movable.ensures at c.if-is_movable-e.false)), λ h. omega (arith, c.memory.ensures))
