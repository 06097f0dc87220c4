-- `legality::kept::Kept::piece_ok` meets its contract. Assumes nothing.
use Rattle.legality.proofs.Testing.{piece_odd, piece_even}
use Rattle.legality.proofs.kept.Kept.piece_ok.Goals as goal

pub returns-then-sc-ne0 : goal.returns-then-sc-ne0
returns-then-sc-ne0 c = piece_odd _ _ _ _ _ _ _ c.if-sc-ne0.true

pub returns : goal.returns
returns c = piece_even _ _ _ _ _ _ _ c.if-sc-ne0.false c.reg_org.ensures.0 c.org_ok.ensures
