-- `checks::look::look` meets its contract: among the records passed none is of a bad kind, and the rest is found. Assumes
-- nothing.
use Prim.Native.Nat.{◌-◌, ◌≤◌}
use Rattle.checks.proofs.Seen.{Seen}
use Rattle.checks.proofs.look.look.Given as goal

abbrev pub invariant-loop-p : goal.invariant-loop-p
invariant-loop-p l =
    (l.p ≤ l.n) × Seen l.r l.opers l.blocks l.recs l.p (record { regs = l.regs; lists = l.lists; branches = l.branches; cats = l.cats })

abbrev pub decreases-loop-p : goal.decreases-loop-p
decreases-loop-p l = l.n - l.p
