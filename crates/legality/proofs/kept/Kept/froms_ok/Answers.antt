-- `legality::kept::Kept::froms_ok` meets its contract. Assumes nothing.
use Rattle.legality.proofs.Testing.{from_none, from_one, from_cat, from_small, list_low}
use Rattle.legality.proofs.kept.Kept.froms_ok.Goals as goal

pub returns-then-x-eq0 : goal.returns-then-x-eq0
returns-then-x-eq0 c = from_none _ _ _ _ _ _ _ _ c.if-x-eq0.true

pub org_ok-requires : goal.org_ok-requires
org_ok-requires c = (from_small c.requires.2 c.if-x.true, c.requires.1)

pub returns-then-x : goal.returns-then-x
returns-then-x c = from_one _ _ _ _ _ _ _ _ c.if-x-eq0.false c.if-x.true c.org_ok.ensures

pub list-requires : goal.list-requires
list-requires c = c.requires.0.listed

pub pieces_ok-requires : goal.pieces_ok-requires
pieces_ok-requires c = (list_low c.requires.0 c.list.ensures, c.requires.1)

pub returns : goal.returns
returns c = from_cat _ _ _ _ _ _ _ _ c.if-x.false c.list.ensures c.payload.ensures c.pieces_ok.ensures
