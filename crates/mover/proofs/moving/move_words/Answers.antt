-- `mover::moving::move_words` meets its contract. Assumes nothing.
use Rattle.mover.proofs.Moves.{moved_later, moved_earlier}
use Rattle.mover.proofs.moving.move_words.Goals as goal

pub returns-then-r-t : goal.returns-then-r-t
returns-then-r-t c = λ n e. let a = c.args in moved_later a.r.w a.chain.now a.xs.now a.r.m n c.if-r-t.true (c.sink_words.ensures n e)

pub returns-else-r-t : goal.returns-else-r-t
returns-else-r-t c = λ n e. let a = c.args in moved_earlier a.r.w a.chain.now a.xs.now a.r.m n c.if-r-t.false (c.raise_words.ensures n e)
