-- The registers that a `Regs` holds. Assumes nothing.
use Rattle.std.specs.Prelude.{List, ℕ, map, take}
use Rattle.inst.specs.declared.index.Reg.{Reg}
use Rattle.inst.specs.declared.regs.Regs.{Regs}

module _ {N : ℕ} where
  -- those of its places that are in use
  abbrev pub held : Regs N → List Reg
  held x = take x.count x.regs

  -- their numbers
  abbrev pub numbers : Regs N → List ℕ
  numbers x = map (λ (r : Reg). r.0) (held x)
