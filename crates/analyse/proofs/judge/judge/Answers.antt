-- `analyse::judge::judge` meets its contract. Assumes nothing.
use mathlib.Core.Path.{◌∙◌, ap}
use Prim.Native.Nat.{ℕ}
use Rattle.inst.specs.Table.{arm_at}
use Rattle.inst.specs.Table as T
use Rattle.analyse.proofs.Verdict.{judged, low_is}
use Rattle.analyse.proofs.judge.judge.Goals as goal

pub returns : goal.returns
returns c =
    let a = c.of.ensures ∙ ap (λ (m : ℕ). arm_at (T.arm m)) c.requires.1 in (
      low_is _ a c.effect-e.ensures (c.placed.ensures.1 c.effect-e.ensures.wrote),
      λ ops G past R l readable q.
          judged G past _ _ _ _ l readable.each q _ a c.effect-e.ensures (rw (c.quiet.ensures, c.requires.1, c.kind.ensures) at c.placed.ensures.0),
    )
