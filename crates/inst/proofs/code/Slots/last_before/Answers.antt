-- `inst::code::Slots::last_before` meets its contract. Assumes nothing.
use Rattle.inst.proofs.Firsts.{no_last, no_slot}
use Rattle.inst.proofs.code.Slots.last_before.Goals as goal

pub returns-then-self-lt4096 : goal.returns-then-self-lt4096
returns-then-self-lt4096 c = λ l h. no_last _ _ _ c.args.self.now.used c.if-self-lt4096.true l h

pub returns : goal.returns
returns c = λ l h. c.before-3.ensures l (c.before-2.ensures l (no_slot _ _ _ c.args.self.now.used l h))
