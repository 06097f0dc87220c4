-- `oneround::weigh::weigh` meets its contract. Assumes nothing.
use lib.ListN.{length}
use Rattle.oneround.proofs.Prepared.{needing, weighed}
use Rattle.oneround.proofs.weigh.weigh.Goals as goal

pub count_needs-c-requires : goal.count_needs-c-requires
count_needs-c-requires c =
    let k = c.requires in
    (record { u = length k.e.locs; is = needing k c.in-Some.is })

pub returns : goal.returns
returns c =
    weighed c.requires c.in-Some.is c.count_needs-c.ensures c.step_of.ensures
