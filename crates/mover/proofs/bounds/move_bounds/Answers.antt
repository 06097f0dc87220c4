-- `mover::bounds::move_bounds` meets its contract. Assumes nothing.
use Rattle.std.proofs.Common.{◌-◌, ◌+◌, arith, rules}
use Rattle.mover.proofs.Bounded.{shifted_down, shifted_up}
use Rattle.mover.proofs.Maps.{mapped_part}
use Rattle.mover.proofs.bounds.move_bounds.Goals as goal

pub returns-then-a-b : goal.returns-then-a-b
returns-then-a-b c =
    let a = c.args in
    let m = mapped_part (λ w. w - a.c) (λ x y p. search rules) _ _ a.bounds.now _ (omega arith) (omega (arith, c.requires.t_in, c.at-b.ensures)) c.each.ensures in
    shifted_down _ _ _ _ _ c.at-a.ensures c.at-b.ensures (omega arith) m

pub returns-else-a-b : goal.returns-else-a-b
returns-else-a-b c =
    let a = c.args in
    let m = mapped_part (λ w. w + a.c) (λ x y p. search rules) _ _ a.bounds.now _ (omega arith) (omega (arith, c.requires.x_in, c.at-a.ensures)) c.each-else-a-b.ensures in
    shifted_up _ _ _ _ _ c.at-a.ensures c.at-b.ensures (omega arith) m
