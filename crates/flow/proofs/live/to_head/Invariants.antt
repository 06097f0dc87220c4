-- `flow::live::to_head` meets its contract. Assumes nothing.
use mathlib.Core.Path.{◌≡◌}
use lib.ListN.{take, drop}
use lib.Seq.{sets}
use Rattle.flow.proofs.live.to_head.Given as goal

abbrev pub invariant-loop-i : goal.invariant-loop-i
invariant-loop-i l = l.bits ≡ sets l.initial.bits 0 (take l.i (drop l.s l.initial.bits))
