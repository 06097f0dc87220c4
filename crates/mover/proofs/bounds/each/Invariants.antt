-- `mover::bounds::each` meets its contract: the words before w are made, the others as they were. Assumes nothing.
use Rattle.std.proofs.Common.{◌≡◌, ℕ, ◌≤◌, take, get_or}
use Rattle.std.specs.List.{AllZip}
use Rattle.mover.proofs.bounds.each.Given as goal

abbrev pub invariant-loop-w : goal.invariant-loop-w
invariant-loop-w g l = record { made : AllZip (goal.F-post g l.f) (take l.w-index l.initial.words) (take l.w-index l.words); rest : (k : ℕ) → l.w-index ≤ k → get_or l.words k 0 ≡ get_or l.initial.words k 0 }
