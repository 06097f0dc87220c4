-- `summary::stamps::put_regs` meets its contract. Assumes nothing.
use mathlib.Core.List.{map}
use lib.ListN.{take}
use Rattle.inst.specs.declared.index.Reg.{Reg}
use Rattle.summary.specs.Passes.{Stamped}
use Rattle.summary.proofs.stamps.put_regs.Given as goal

abbrev pub invariant-loop-r : goal.invariant-loop-r
invariant-loop-r l = Stamped (map (λ (r : Reg). r.0) (take l.r-index l.regs)) l.d.keep l.d.lo l.d.v l.initial.st l.st
