-- `mover::moving::raise_words` meets its contract. Assumes nothing.
use Prim.Native.Nat.{◌-◌, ◌*◌}
use Rattle.mover.proofs.Raising.{Raising}
use Rattle.mover.proofs.moving.raise_words.Given as goal

abbrev pub invariant-loop-q : goal.invariant-loop-q
invariant-loop-q l = Raising l.r.w l.chain l.r.lo l.r.m (l.r.w * l.t) l.initial.xs l.xs l.initial.saved l.saved l.q l.e

abbrev pub decreases-loop-q : goal.decreases-loop-q
decreases-loop-q l = l.r.m - l.q
