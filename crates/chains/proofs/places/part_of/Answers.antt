-- `chains::places::part_of` meets its contract. Assumes nothing.
use mathlib.Core.Path.{◌∙◌, ap}
use Prim.Native.Nat.{ℕ, ◌*◌, ◌+◌}
use lib.ListN.{get_or}
use native.Mathlib.Omega.{arith}
use Rattle.chains.proofs.Laid.{block_fits, part_inner, part_outer}
use Rattle.chains.proofs.places.part_of.Goals as goal

pub start-s-requires : goal.start-s-requires
start-s-requires c = omega (arith, block_fits c.requires.0 c.requires.1 c.nth-b.ensures)

pub past-e-requires : goal.past-e-requires
past-e-requires c = omega (arith, block_fits c.requires.0 c.requires.1 c.nth-b.ensures)

pub returns-then-k-c : goal.returns-then-k-c
returns-then-k-c c =
    let from = c.start-s.ensures ∙ ap (λ (n : ℕ). get_or c.args.bounds.now (2 * n) 0) c.nth-b.ensures in
    let past = c.past-e.ensures ∙ ap (λ (n : ℕ). get_or c.args.bounds.now (2 * n + 1) 0) c.nth-b.ensures in
    part_inner c.requires.0 c.requires.1 from past (omega (arith, c.past-e.ensures, c.type_inv.bounds (2 * c.nth-b.result.0 + 1))) c.if-k-c.true

pub returns : goal.returns
returns c =
    let from = c.start-s.ensures ∙ ap (λ (n : ℕ). get_or c.args.bounds.now (2 * n) 0) c.nth-b.ensures in
    let past = c.past-e.ensures ∙ ap (λ (n : ℕ). get_or c.args.bounds.now (2 * n + 1) 0) c.nth-b.ensures in
    part_outer c.requires.0 c.requires.1 from past (omega (arith, c.past-e.ensures, c.type_inv.bounds (2 * c.nth-b.result.0 + 1))) c.if-k-c.false
