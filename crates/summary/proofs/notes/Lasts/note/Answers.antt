-- `summary::notes::Lasts::note` meets its contract. Assumes nothing.
use Rattle.summary.proofs.Summing.{noting_in, noting_out}
use Rattle.summary.proofs.notes.Lasts.note.Goals as goal

pub returns-then-member : goal.returns-then-member
returns-then-member c = rw c.temp-k.ensures (noting_in _ _ _ _ c.if-member.true)

pub returns : goal.returns
returns c = noting_out _ _ _ _ c.if-member.false c.note_kept.ensures
