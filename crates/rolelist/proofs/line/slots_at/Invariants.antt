-- `line::slots_at`: no change of the form before this word. Assumes nothing.
use Rattle.std.proofs.Common.{◌≡◌, ◌-◌}
use Rattle.rolelist.specs.Line.{slots_from}
use Rattle.rolelist.proofs.line.slots_at.Given as goal

abbrev pub invariant-loop-k : goal.invariant-loop-k
invariant-loop-k l = slots_from l.f l.k (15 - l.k) l.line ≡ slots_from l.f 8 7 l.line
