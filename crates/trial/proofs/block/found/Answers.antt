-- `trial::block::found` meets its contract. Assumes nothing.
use Rattle.trial.proofs.Moves.{found_t, found_f, found_none}
use Rattle.trial.proofs.block.found.Goals as goal

pub returns-then-k-gt0 : goal.returns-then-k-gt0
returns-then-k-gt0 c = let a = c.args in rw c.move_into.ensures (found_t a.x a.g a.k a.l c.if-k-gt0.true)

pub returns-then-l-gt0 : goal.returns-then-l-gt0
returns-then-l-gt0 c = let a = c.args in rw c.move_into-then-l-gt0.ensures (found_f a.x a.g a.k a.l c.if-k-gt0.false c.if-l-gt0.true)

pub returns : goal.returns
returns c = let a = c.args in found_none a.x a.g a.k a.l c.if-k-gt0.false c.if-l-gt0.false
