-- `oneround::make::make` meets its contract. Assumes nothing.
use mathlib.Core.Path.{refl}
use Rattle.oneround.proofs.Making.{blocks_few, lent_few, chain_long, names_fit, asked, renewing, made}
use Rattle.oneround.proofs.make.make.Goals as goal

pub at_stamps-a-requires : goal.at_stamps-a-requires
at_stamps-a-requires c = let h = c.requires in (blocks_few h, lent_few h)

pub slice_bounds-apply-end : goal.slice_bounds-apply-end
slice_bounds-apply-end c = names_fit c.requires _ c.at_stamps-a.ensures.0

pub slice_bounds-apply-end-2 : goal.slice_bounds-apply-end-2
slice_bounds-apply-end-2 c = chain_long c.requires

pub apply-requires : goal.apply-requires
apply-requires c =
    let p = c.requires in
    let z = asked p c.in-Goes.is c.at_stamps-a.ensures.0 refl in
    record {
      t_value = z.0;
      fits = z.1;
    }

pub renew-requires : goal.renew-requires
renew-requires c =
    let p = c.requires in
    renewing p c.in-Goes.is c.at_stamps-a.ensures.0 refl c.apply.new.names c.apply.auto.names c.apply.ensures

pub returns : goal.returns
returns c =
    made c.requires c.in-Goes.is c.at_stamps-a.ensures.0 refl c.apply.new.names c.apply.auto.names c.apply.ensures c.renew.ensures
