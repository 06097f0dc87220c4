-- `line::place_in`: the word is not among those before this one. Assumes nothing.
use Rattle.std.proofs.Common.{◌≡◌, ◌-◌}
use Rattle.rolelist.specs.Line.{place_from}
use Rattle.rolelist.proofs.line.place_in.Given as goal

abbrev pub invariant-loop-k : goal.invariant-loop-k
invariant-loop-k l = place_from l.t l.w l.k (l.n - l.k) ≡ place_from l.t l.w 0 l.n
