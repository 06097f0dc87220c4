-- `summary::stamps::Stamp::awaited` meets its contract. Assumes nothing.
use Rattle.summary.proofs.Stamping.{awaited_stamp}
use Rattle.summary.proofs.stamps.Stamp.awaited.Goals as goal

pub invariant_of-result : goal.invariant_of-result
invariant_of-result c = record { beside = awaited_stamp }
