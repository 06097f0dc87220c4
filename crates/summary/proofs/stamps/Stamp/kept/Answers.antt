-- `summary::stamps::Stamp::kept` meets its contract. Assumes nothing.
use Rattle.summary.proofs.Stamping.{kept_stamp}
use Rattle.summary.proofs.stamps.Stamp.kept.Goals as goal

pub invariant_of-result : goal.invariant_of-result
invariant_of-result c = record { beside = kept_stamp _ c.requires }
