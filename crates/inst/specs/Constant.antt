-- 01, "A constant is a whole number or a float, and the float keeps its bits": the constant that a record's words 9 and 10
-- hold, and the bits of a constant. Assumes nothing.
use Rattle.std.specs.Prelude.{Bool, true, false, ℕ, ◌+◌, ◌*◌, ◌-◌, ◌^◌, ltb, ℤ, pos, negsuc, get_or, Option, Some, None}
use Rattle.std.specs.Float.{binary64}
use Rattle.std.specs.Float.Ieee.{of_bits, to_bits, nan_bits}
use Rattle.model.specs.Kinds.{Const, ConstF}
use Rattle.model.specs.Picture.{Inst, is_kind}
use Rattle.model.specs.Analyse.{whole}
use Rattle.inst.specs.declared.constant.Constant.{Constant}
use Rattle.inst.specs.declared.constant.Constant.TheVariants.{Whole, Float, Nan}

-- words 9 and 10, low half first
unfoldable pub bits_of : Inst → ℕ
bits_of i = get_or i 9 0 + 2 ^ 32 * get_or i 10 0

-- two's complement
unfoldable pub signed : ℕ → ℤ
signed n = elim (ltb n (2 ^ 63)) [ true ↦ pos n | false ↦ negsuc (2 ^ 64 - 1 - n) ]

abbrev pub pick : Bool → Option Constant → Option Constant → Option Constant
pick true a b = a
pick false a b = b

-- a whole number as `model` has it; a float, or its bits where it is no number
unfoldable pub constant_of : Inst → Option Constant
constant_of i =
    pick (is_kind Const i) (Some (Whole (whole i)))
    (pick (is_kind ConstF i) (pick (nan_bits binary64 (bits_of i)) (Some (Nan (bits_of i))) (Some (Float (of_bits binary64 (bits_of i))))) None)

-- the bits of a constant
abbrev pub unsigned : ℤ → ℕ
unsigned (pos n) = n
unsigned (negsuc n) = 2 ^ 64 - 1 - n

abbrev pub bits_in : Option Constant → ℕ
bits_in (Some (Whole z)) = unsigned z
bits_in (Some (Float x)) = to_bits binary64 x
bits_in (Some (Nan n)) = n
bits_in None = 0
