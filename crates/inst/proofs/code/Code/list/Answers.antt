-- `inst::code::Code::list` meets its contract. Assumes nothing.
use Rattle.inst.proofs.Lists.{part_is}
use Rattle.inst.proofs.code.Code.list.Goals as goal

pub returns : goal.returns
returns c = part_is _ c.list_start-a.ensures.0 c.list_len.ensures.0
