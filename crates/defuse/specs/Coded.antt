-- What acceptance gives of the records and operands of a `Code`. Assumes nothing.
use Rattle.std.specs.Prelude.{ℕ}
use Rattle.inst.specs.declared.code.Code.{Code}
use Rattle.defuse.specs.Sets as S

-- each register that is read or written is one of R
abbrev pub Coded : Code → ℕ → Type 0
Coded c R = S.Code c.recs.now c.ops.now R
