-- A constant keeps the 64 bits of its record, whole number or float, and a whole number is `model`'s. Assumes nothing.
use Rattle.std.specs.Prelude.{Some, None}
use mathlib.Core.Bool.{Bool, true, false, not}
use mathlib.Core.Path.{◌≡◌, refl, sym, ap, ◌∙◌, subst}
use Prim.Native.Nat.{ℕ, ◌-◌, ◌^◌, ◌<◌}
use native.Mathlib.Omega.{arith}
use lib.Dec.{T, ltb}
use lib.IntN.{pos, negsuc}
use lib.Ieee.{binary64, of_bits, nan_bits}
use lib.Ieee.Bits.{to_bits-of_bits, nan_bits_is}
use lib.ListN.{get_or}
use Rattle.model.specs.Kinds.{Const, ConstF}
use Rattle.model.specs.Picture.{Inst, is_kind}
use Rattle.model.specs.Analyse.{whole}
use Rattle.inst.specs.declared.constant.Constant.TheVariants.{Whole, Float, Nan}
use Rattle.inst.specs.Constant.{bits_of, signed, pick, constant_of, unsigned, bits_in}

pub whole_is : (i : Inst) → signed (bits_of i) ≡ whole i
unfolding signed bits_of
whole_is i = refl

-- the constant by the three tests
pub constant_by : (i : Inst) (a b c : Bool) → is_kind Const i ≡ a → is_kind ConstF i ≡ b → nan_bits binary64 (bits_of i) ≡ c
    → constant_of i ≡ pick a (Some (Whole (whole i))) (pick b (pick c (Some (Nan (bits_of i))) (Some (Float (of_bits binary64 (bits_of i))))) None)
unfolding constant_of
constant_by i a b c ea eb ec = rw (ea, eb, ec)

pub whole_constant : (i : Inst) → is_kind Const i ≡ true → constant_of i ≡ Some (Whole (whole i))
whole_constant i e = constant_by i true (is_kind ConstF i) (nan_bits binary64 (bits_of i)) e refl refl

pub signed_kept : (n : ℕ) → n < 2 ^ 64 → unsigned (signed n) ≡ n
unfolding signed
signed_kept n h = go (ltb n (2 ^ 63))
  where
    go : (b : Bool) → unsigned (elim b [ true ↦ pos n | false ↦ negsuc (2 ^ 64 - 1 - n) ]) ≡ n
    go true = refl
    go false = omega arith

float_kept : (n : ℕ) → n < 2 ^ 64 → bits_in (pick (nan_bits binary64 n) (Some (Nan n)) (Some (Float (of_bits binary64 n)))) ≡ n
float_kept n h = go (nan_bits binary64 n) refl
  where
    go : (b : Bool) → nan_bits binary64 n ≡ b → bits_in (pick b (Some (Nan n)) (Some (Float (of_bits binary64 n)))) ≡ n
    go true e = refl
    go false e = to_bits-of_bits binary64 n h (subst (λ (b : Bool). T (not b)) (sym e ∙ nan_bits_is binary64 n) tt)

-- a record's words are of 32 bits
pub bits_small : (i : Inst) → get_or i 9 0 < 2 ^ 32 → get_or i 10 0 < 2 ^ 32 → bits_of i < 2 ^ 64
unfolding bits_of
bits_small i a b = omega arith

-- the bits are kept
module _ (i : Inst) (h : bits_of i < 2 ^ 64) where
  pub whole_kept : is_kind Const i ≡ true → bits_in (constant_of i) ≡ bits_of i
  whole_kept e = ap bits_in (whole_constant i e) ∙ ap unsigned (sym (whole_is i)) ∙ signed_kept (bits_of i) h

  pub floats_kept : is_kind Const i ≡ false → is_kind ConstF i ≡ true → bits_in (constant_of i) ≡ bits_of i
  unfolding constant_of
  floats_kept e q = rw (e, q) (float_kept (bits_of i) h)
