-- `rename::all::rename_all` meets its contract. Assumes nothing.
use Rattle.rename.proofs.Whole.{pass_ask, rest_ask, own_ask, rename_law}
use Rattle.rename.proofs.all.rename_all.Goals as goal

pub pass_all-o-requires : goal.pass_all-o-requires
pass_all-o-requires c =
    (pass_ask c.requires.t_value c.clear.ensures c.requires.past_in_bounds)

pub skip_all-requires : goal.skip_all-requires
skip_all-requires c =
    (record { u = c.args.u; is = rest_ask c.requires.t_value c.clear.ensures c.requires.past_in_bounds _ _ _ c.pass_all-o.ensures })

pub own_all-requires : goal.own_all-requires
own_all-requires c =
    let asked = own_ask c.requires.t_value c.clear.ensures c.requires.past_in_bounds _ _ _ c.pass_all-o.ensures _ c.skip_all.ensures in
    (record { u = c.args.u; is = asked })

pub returns : goal.returns
returns c =
    rename_law c.requires.t_value c.clear.ensures c.requires.past_in_bounds _ _ _ c.pass_all-o.ensures _ c.skip_all.ensures c.own_all.ensures
