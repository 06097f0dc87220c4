-- `oneround::make::renew` meets its contract. Assumes nothing.
use mathlib.Core.Path.{refl, sym, ◌∙◌}
use native.Mathlib.Omega.{arith}
use Rattle.oneround.proofs.Renewal.{renew_ask, renewed_two}
use Rattle.oneround.proofs.make.renew.Goals as goal

pub all_rows-requires : goal.all_rows-requires
all_rows-requires c =
    let p = c.requires in
    let z = renew_ask p _ refl refl in
    (z.0, z.1, z.3)

pub block_rows-requires : goal.block_rows-requires
block_rows-requires c =
    let p = c.requires in
    let z = renew_ask p _ refl refl in
    (z.0, z.1, z.2, p.from_block)

pub block_rows-requires-2 : goal.block_rows-requires-2
block_rows-requires-2 c =
    let p = c.requires in
    let z = renew_ask p _ c.block_rows.auto.bits refl in
    (z.0, z.1, z.2, omega (arith, p.from_block, p.into_block))

pub returns : goal.returns
returns c =
    let k = c.requires in
    let same = sym c.width.ensures ∙ c.if-width.false ∙ c.width-2.ensures in
    (renewed_two same k.from_block k.into_block c.block_rows.ensures.rows c.block_rows.ensures.only_rows c.block_rows-2.ensures.rows c.block_rows-2.ensures.only_rows)
