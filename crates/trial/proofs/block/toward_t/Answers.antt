-- `trial::block::toward_t` meets its contract. Assumes nothing.
use mathlib.Core.Path.{ap, ap₂, ◌∙◌}
use Prim.Native.Nat.{ℕ, ◌-◌}
use Rattle.model.specs.Move.{minimum}
use Rattle.trial.proofs.block.toward_t.Goals as goal

pub returns : goal.returns
returns c =
    let a = c.args in
    let least_is = c.minimum.ensures ∙ ap minimum c.replays.ensures in
    let size_is = ap₂ (λ (e b : ℕ). e - b) c.past.ensures c.start.ensures in
    ap₂ (λ (i d : ℕ). record { into = a.k.c.t; other = a.k.c.f; least = i; inside = d - 1; places = a.n }) least_is size_is
