-- `summary::reads::all_regs` meets its contract. Assumes nothing.
use mathlib.Core.Path.{◌≡◌}
use mathlib.Core.Bool.{Bool}
use Prim.Native.Nat.{ℕ}
use lib.ListN.{drop}
use Rattle.std.specs.Prelude.{Some}
use Rattle.words.specs.Lists.{In, all}
use Rattle.inst.specs.declared.index.Reg.{Reg}
use Rattle.summary.proofs.reads.all_regs.Given as goal

abbrev pub invariant-loop-r : goal.invariant-loop-r
invariant-loop-r g l = (t : ℕ → Bool) → ((r : Reg) (b : Bool) → In r l.regs → goal.F-post g l.test (Some r) b → b ≡ t r.0) → all (λ (r : Reg). t r.0) l.regs ≡ all (λ (r : Reg). t r.0) (drop l.r-index l.regs)
