-- `oneround::weigh::count_needs` meets its contract. Assumes nothing.
use mathlib.Core.Path.{refl}
use Rattle.oneround.proofs.Counted.{ask_names, needed}
use Rattle.oneround.proofs.weigh.count_needs.Goals as goal

pub needs-requires : goal.needs-requires
needs-requires c =
    let k = c.requires in
    (record { u = k.u; is = ask_names k.is _ _ c.at_stamps-a.ensures.0 refl })

pub returns : goal.returns
returns c =
    needed c.requires.is _ _ c.needs.new.names _ c.at_stamps-a.ensures.0 refl c.needs.auto.names c.needs.ensures
