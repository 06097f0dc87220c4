-- `inst::code::Slots::before` meets its contract. Assumes nothing.
use Rattle.inst.proofs.Firsts.{slot_more}
use Rattle.inst.proofs.code.Slots.before.Goals as goal

pub returns : goal.returns
returns c = λ l h. slot_more _ _ _ c.args.self.now.used _ _ _ c.requires c.read_word.ensures c.write_word.ensures l (c.after_write.ensures _ _ (c.after_read.ensures _ _ h))
