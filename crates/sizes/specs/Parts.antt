-- Where each part lies in the two lent work slices (01, "Port order and sizes"), by the sizes of what is lent. Assumes nothing.
use Rattle.std.specs.Prelude.{ℕ, ◌+◌, ◌*◌, length}
use Rattle.words.specs.Bits.{width}
use Rattle.model.specs.Picture.{Picture, nblocks}
use Rattle.sizes.specs.declared.Sizes.{Sizes}

abbrev pub sizes_of : Picture → Sizes
sizes_of P = record { blocks = nblocks P; insts = length P.locs; regs = P.regs; lent = length P.types; opers = P.opers }

-- 64-bit: the row of registers needed elsewhere; a word a register lent, then another
abbrev pub needed_at : Sizes → ℕ
needed_at s = s.blocks * width s.regs + s.blocks * width s.regs

abbrev pub regs_at : Sizes → ℕ
regs_at s = 4 * s.blocks * width s.lent

abbrev pub stamps_at : Sizes → ℕ
stamps_at s = regs_at s + s.lent

-- 32-bit: the predecessors, two words a block
abbrev pub preds_at : Sizes → ℕ
preds_at s = 8000 + s.lent
