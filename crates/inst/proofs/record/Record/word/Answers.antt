-- `inst::record::Record::word` meets its contract. Assumes nothing.
use Rattle.inst.proofs.Words.{word_is}
use Rattle.inst.proofs.record.Record.word.Goals as goal

pub returns : goal.returns
returns c = let a = c.args in word_is a.self.recs.now a.self.p a.k c.requires
