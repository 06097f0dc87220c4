-- `apply::apply` meets its contract. Assumes nothing.
use native.Mathlib.Omega.{arith}
use mathlib.Core.Path.{refl}
use Rattle.apply.proofs.Asked.{x_words, t_words, types_fit, move_at, bounds_at}
use Rattle.apply.proofs.Done.{ask_at, room_at, apply_law}
use Rattle.apply.proofs.apply.Goals as goal

pub walk-walk-requires : goal.walk-walk-requires
walk-walk-requires c = (x_words c.requires.t_value, t_words c.requires.t_value)

pub add_types-requires : goal.add_types-requires
add_types-requires c = types_fit c.requires.t_value c.requires.fits.0

pub rename_all-requires : goal.rename_all-requires
rename_all-requires c =
    let g = c.args in
    let m = g.m in
    let k = c.requires.t_value in
    let walk = c.walk-walk.ensures in
    let room = room_at m.from.0 m.into.0 m.inside m.places g.c.opers g.bounds.now g.recs.now g.ops.now g.w.now walk.from walk.start walk.end c.requires.fits.0.opers in
    record {
      t_value = rw (walk.inside.0, walk.inside.1, walk.words) (ask_at k walk.from walk.start walk.end);
      past_in_bounds = rw (walk.inside.0, walk.inside.1, walk.words) room;
    }

pub move_all-requires : goal.move_all-requires
move_all-requires c =
    let walk = c.walk-walk.ensures in
    move_at c.requires.t_value _ _ _ refl c.requires.fits.1 c.rename_all.ensures.size walk.from walk.start

pub count-requires : goal.count-requires
count-requires c =
    let k = c.requires.t_value in
    (omega (arith, k.words, k.chain), k.few)

pub move_bounds-requires : goal.move_bounds-requires
move_bounds-requires c = bounds_at c.requires.t_value c.count.ensures

pub returns : goal.returns
returns c =
    let walk = c.walk-walk.ensures in
    apply_law c.requires.t_value walk.from walk.start walk.end c.count.ensures c.add_types.ensures.0
    (rw (walk.inside.0, walk.inside.1, walk.words) at c.rename_all.ensures) c.move_all.ensures c.requires.fits.1.each_or_none c.move_bounds.ensures
