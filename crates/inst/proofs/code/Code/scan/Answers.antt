-- `inst::code::Code::scan` meets its contract. Assumes nothing.
use Rattle.inst.proofs.Firsts.{scanned}
use Rattle.inst.proofs.code.Code.scan.Goals as goal

pub returns : goal.returns
returns c = scanned c.args.slots.now.p c.requires.recs c.args.self.now.ops.now c.list.ensures c.scan.ensures
