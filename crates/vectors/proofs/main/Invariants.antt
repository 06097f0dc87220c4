-- Each case counts once.
use Rattle.std.proofs.Common.{◌≤◌, ◌+◌}
use Rattle.vectors.proofs.main.Given as goal

abbrev pub invariant-loop-case : goal.invariant-loop-case
invariant-loop-case l = l.right + l.wrong ≤ l.case
