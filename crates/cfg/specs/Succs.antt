-- The successors of a block as an iterator: what is left of them. Assumes nothing.
use Rattle.std.specs.Prelude.{List, ℕ, map}
use Rattle.inst.specs.declared.index.BlockId.{BlockId}
use Rattle.cfg.specs.declared.succs.Succs.{Succs}

-- the blocks of these numbers
abbrev pub blocks : List ℕ → List BlockId
blocks ns = map (λ n. record { 0 = n }) ns

-- and their numbers
abbrev pub numbers : List BlockId → List ℕ
numbers bs = map (λ b. b.0) bs

abbrev pub left : Succs → List BlockId
left s = blocks s.list.now
