-- `run::sink_bytes` meets its contract: within the bounds, what the call gives. Assumes nothing.
use mathlib.Core.Path.{◌≡◌}
use lib.ListN.{length}
use Rattle.host.proofs.Entry.{Within, done}
use Rattle.host.proofs.run.sink_bytes.Goals as goal

pub returns : goal.returns
returns c =
    let a = c.args in
    let picture = c.in_ok-picture.picture in
    let same : picture.bytes.now ≡ a.picture.now = c.in_ok-picture.ensures in
    let within : Within (length a.res.now) a.registers a.operands = record { long = c.if-res-lt-PICTURE_BYTES.false; regs_few = c.if-registers-gt-REGISTERS.false; opers_few = c.if-operands-gt-OPERANDS.false } in
    let said = done a.picture.now a.res.now a.registers a.operands (rw same at picture.can) within (rw same at c.run.ensures) in
    record { value = said.0; res_after = said.1 }
