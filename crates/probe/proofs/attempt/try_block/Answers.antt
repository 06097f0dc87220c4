-- `attempt::try_block` meets its contract. Assumes nothing.
use Rattle.std.proofs.Common.{rules}
use Rattle.std.specs.Prelude.{◌≡◌, None}
use Rattle.probe.proofs.Seeking.{none_tried, following, tried}
use Rattle.probe.proofs.attempt.try_block.Goals as goal

pub returns-in_err-k : goal.returns-in_err-k
returns-in_err-k c = let h : c.from_residual.result ≡ None = search rules in none_tried c.requires.0 c.seek.ensures c.in_err-k.was h

pub try_chain-requires : goal.try_chain-requires
try_chain-requires c = (following c.requires.0 c.seek.ensures c.in_ok-k.was, c.requires.1)

pub returns : goal.returns
returns c = tried c.requires.0 c.seek.ensures c.in_ok-k.was c.try_chain.ensures
