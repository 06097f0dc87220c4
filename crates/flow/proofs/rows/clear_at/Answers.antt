-- `flow::rows::clear_at` meets its contract. Assumes nothing.
use mathlib.Core.Path.{◌≡◌}
use Prim.Native.Nat.{◌+◌, ◌-◌}
use lib.ListN.{length, take, drop, replicate}
use Rattle.flow.proofs.Renewed.{part_cleared}
use borrow.Author.Rules.{rules}
use Rattle.flow.proofs.rows.clear_at.Goals as goal

pub returns : goal.returns
returns c =
    let a = c.args in
    let zeros : c.fill.new.self ≡ replicate (length (take (a.at + a.n - a.at) (drop a.at a.bits.now))) 0 = search rules in
    part_cleared a.bits.now a.at a.n c.requires zeros
