-- `chains::cursor::seek` meets its contract. Assumes nothing.
use Prim.Native.Nat.{◌-◌}
use Rattle.chains.proofs.Seeking.{Seeking}
use Rattle.chains.proofs.cursor.seek.Given as goal

abbrev pub invariant-loop-at : goal.invariant-loop-at
invariant-loop-at l = Seeking l.bounds l.c l.initial.at.k l.initial.at.g l.initial.at.past l.at.k l.at.g l.at.past

abbrev pub decreases-loop-at : goal.decreases-loop-at
decreases-loop-at l = l.c.count - l.at.k
