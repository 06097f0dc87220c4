-- `flow::needed::needed_word` meets its contract. Assumes nothing.
use mathlib.Core.Path.{refl, ap, ◌∙◌}
use Prim.Native.Nat.{ℕ, ◌+◌}
use native.Mathlib.Nat.{add-mul}
use lib.ListN.{get_or}
use Rattle.flow.proofs.Elsewhere.{word_is}
use Rattle.flow.proofs.needed.needed_word.Goals as goal

pub returns : goal.returns
returns c =
    let a = c.args in
    let g = a.grid in
    let at_live = ap (λ (x : ℕ). get_or a.bits.now (x + a.i) 0) c.live.ensures in
    let at_writes = ap (λ (x : ℕ). get_or a.bits.now (x + a.i) 0) (c.writes.ensures ∙ add-mul g.blocks a.into.0 g.width) in
    let fits = (c.type_inv.bits (c.writes.result + a.i)).fits in
    word_is {bits = a.bits.now} {n = g.blocks} {w = g.width} {into = a.into.0} {other = a.other.0} {i = a.i} _ _ _ c.gather-out.result at_live at_writes fits c.gather-out.ensures refl
