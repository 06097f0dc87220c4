-- `pool::allot::position` meets its contract. Assumes nothing.
use mathlib.Core.Path.{refl}
use Rattle.pool.proofs.Allots.{position_none, position_some, wrote_word, wrote_asks}
use Rattle.pool.proofs.allot.position.Goals as goal

pub returns-then-w-b-eq0 : goal.returns-then-w-b-eq0
returns-then-w-b-eq0 c = position_none c.if-w-b-eq0.true

pub turn-requires-clause-among : goal.turn-requires-clause-among
turn-requires-clause-among c = let q = c.requires in wrote_asks q.0 q.1 c.new.ensures refl

pub returns : goal.returns
returns c = let q = c.requires in position_some c.if-w-b-eq0.false (wrote_word q.0 q.1 c.new.ensures refl) (rw c.unwrap_or.ensures c.turn.ensures)
