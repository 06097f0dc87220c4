-- `lastuse::uses::note_regs` meets its contract. Assumes nothing.
use mathlib.Core.List.{map}
use lib.ListN.{take}
use Rattle.inst.specs.declared.index.Reg.{Reg}
use Rattle.lastuse.specs.Uses.{Noticed}
use Rattle.lastuse.proofs.uses.note_regs.Given as goal

abbrev pub invariant-loop-r : goal.invariant-loop-r
invariant-loop-r l = Noticed l.st (map (λ (r : Reg). r.0) (take l.r-index l.regs)) l.q l.initial.lasts l.lasts
