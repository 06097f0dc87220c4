-- `chains::cursor::next` meets its contract. Assumes nothing.
use mathlib.Core.Path.{ap, ◌∙◌}
use mathlib.Core.List.{List, ◌∷◌}
use Prim.Native.Nat.{ℕ}
use Rattle.chains.specs.Chain.{blocks_of}
use Rattle.chains.proofs.Seeking.{next_left}
use Rattle.chains.proofs.cursor.next.Goals as goal

pub returns : goal.returns
returns c =
    let bs = blocks_of c.args.c in
    let g = c.args.at.g in
    (c.seek.ensures.0, λ P h. next_left P bs c.args.at c.requires.2 ∙ ap (λ (l : List ℕ). g ∷ l) (c.seek.ensures.1 P h))
