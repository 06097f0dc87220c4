-- `rename::all::count_all` meets its contract. Assumes nothing.
use Rattle.rename.proofs.Whole.{count_x_ask, count-rest_ask, count_target_ask, count_law}
use Rattle.rename.proofs.all.count_all.Goals as goal

pub count_x-k-requires : goal.count_x-k-requires
count_x-k-requires c = let k = c.requires in (record { u = k.u; is = count_x_ask k.is c.clear.ensures })

pub skip_all-requires : goal.skip_all-requires
skip_all-requires c =
    let k = c.requires in
    (record { u = k.u; is = count-rest_ask k.is c.clear.ensures _ c.count_x-k.ensures })

pub count_target-requires : goal.count_target-requires
count_target-requires c =
    let k = c.requires in
    let q = count_target_ask k.is c.clear.ensures _ c.count_x-k.ensures _ c.skip_all.ensures in
    (record { u = k.u; is = q.0 }, q.1)

pub returns : goal.returns
returns c =
    let k = c.requires in
    let r = c.count_target.ensures in
    (count_law k.is c.clear.ensures _ c.count_x-k.ensures _ c.skip_all.ensures r.0, r.1)
