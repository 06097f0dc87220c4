-- The slots of a record, by its word in the table, do and ask what `model`'s roles say, slot by slot. Assumes nothing.
use mathlib.Core.Path.{◌≡◌, refl, ap, ◌∙◌}
use mathlib.Core.List.{List}
use Prim.Native.Nat.{ℕ, zero, suc, ◌*◌, ◌/◌, ◌%◌, ◌^◌, ◌<◌, ◌≤◌}
use native.Mathlib.Omega.{arith}
use lib.Dec.{eqb}
use lib.ListN.{get_or}
use Rattle.model.specs.Kinds.{Role, off, wr, rd, wr?, rd?, kind_of, reading, writing}
use Rattle.model.specs.Picture.{Inst, kind, form, roles}
use Rattle.model.specs.Refusal.{bad_slot}
use Rattle.inst.specs.Table.{role_code, does, pack, packed, uses, two_bits, three_bits}
use Rattle.inst.specs.Record.{uses_of, bad_at}
use Rattle.inst.proofs.Rows.{role_small, uses_is}

pub uses_resolved : (i : Inst) → uses (packed (kind i) (form i)) ≡ uses_of i
unfolding uses_of
uses_resolved i = uses_is (kind i) (form i)

-- where the kind k and the form f were read first
pub uses_by : (i : Inst) {k f u x : ℕ} → k ≡ get_or i 0 0 → f ≡ form i → x ≡ packed (kind_of k) f → u ≡ uses x → u ≡ uses_of i
uses_by i ek ef ex e = e ∙ rw (ex, ek, ef) (uses_resolved i)

-- ---- what a resolved row says of slot s

pub does_small : (o : Role) → does o ≤ 2
does_small off = omega arith
does_small wr = omega arith
does_small rd = omega arith
does_small wr? = omega arith
does_small rd? = omega arith

does_code : (o : Role) → role_code o % 4 ≡ does o
does_code off = refl
does_code wr = refl
does_code rd = refl
does_code wr? = refl
does_code rd? = refl

module _ (os : List Role) where
  abbrev d : ℕ → ℕ
  d k = role_code (get_or os k off)

  by_slot : (s : ℕ) → s < 5 → d 0 ≤ 6 → d 1 ≤ 6 → d 2 ≤ 6 → d 3 ≤ 6 → d 4 ≤ 6 → three_bits (pack os) s ≡ d s
  by_slot zero h a0 a1 a2 a3 a4 = omega arith
  by_slot (suc zero) h a0 a1 a2 a3 a4 = omega arith
  by_slot (suc (suc zero)) h a0 a1 a2 a3 a4 = omega arith
  by_slot (suc (suc (suc zero))) h a0 a1 a2 a3 a4 = omega arith
  by_slot (suc (suc (suc (suc zero)))) h a0 a1 a2 a3 a4 = omega arith
  by_slot (suc (suc (suc (suc (suc s))))) h a0 a1 a2 a3 a4 = absurd (omega arith)

  pub packed_slot : (s : ℕ) → s < 5 → three_bits (pack os) s ≡ role_code (get_or os s off)
  packed_slot s h =
      by_slot s h (role_small (get_or os 0 off)) (role_small (get_or os 1 off)) (role_small (get_or os 2 off)) (role_small (get_or os 3 off)) (role_small (get_or os 4 off))

pub code_slot : (i : Inst) (s : ℕ) → s < 5 → three_bits (uses_of i) s ≡ role_code (get_or (roles i) s off)
unfolding uses_of
code_slot i = packed_slot (roles i)

lower : (x : ℕ) → x % 4 ≡ x % 8 % 4
lower x = omega arith

pub does_slot : (i : Inst) (s : ℕ) → s < 5 → two_bits (uses_of i) s ≡ does (get_or (roles i) s off)
does_slot i s h = lower (uses_of i / 2 ^ (4 * s)) ∙ ap (λ (x : ℕ). x % 4) (code_slot i s h) ∙ does_code (get_or (roles i) s off)

pub reading_is : (o : Role) → reading o ≡ eqb (does o) 1
reading_is off = refl
reading_is wr = refl
reading_is rd = refl
reading_is wr? = refl
reading_is rd? = refl

pub writing_is : (o : Role) → writing o ≡ eqb (does o) 2
writing_is off = refl
writing_is wr = refl
writing_is rd = refl
writing_is wr? = refl
writing_is rd? = refl

pub bad_is : (R r : ℕ) (o : Role) → bad_slot R o r ≡ bad_at R (role_code o) r
bad_is R r off = refl
bad_is R r wr = refl
bad_is R r rd = refl
bad_is R r wr? = refl
bad_is R r rd? = refl
