-- 01, "One listing whole": the bounds of the host's entry, each at its last number and one past it. Past one of them the entry returns
-- 300 and writes nothing, whatever else is lent. Assumes nothing.
use Rattle.std.specs.Prelude.{◌≡◌, refl, Bool, true, false, ◌&&◌, List, [], ◌∷◌, ℕ, leb, length, replicate}
use Rattle.std.proofs.Common.{ap}
use Rattle.words.specs.Bytes.{words_of, bytes_of}
use Rattle.model.specs.Pass.{number}
use Rattle.layout.specs.Layout.{readable}
use Rattle.host.specs.Host.{sunk, within_bounds, returned, put_left, written}

-- ---- rows: result bytes, registers and operands lent

-- neither blocks nor instructions
abbrev pub empty : List ℕ
empty = replicate 32 0

-- the most blocks, 64, all of them empty: with 512 registers lent the work slices are as long as they must be
abbrev pub blocks : List ℕ
blocks = bytes_of (64 ∷ replicate 135 0)

pub at_bounds : returned empty 53024 512 2048 ∷ returned blocks 53024 512 2048 ∷ [] ≡ 0 ∷ 0 ∷ []
unfolding bytes_of words_of
at_bounds = refl

pub one_past : returned empty 53023 512 2048 ∷ returned empty 53024 513 2048 ∷ returned empty 53024 512 2049 ∷ [] ≡ 300 ∷ 300 ∷ 300 ∷ []
unfolding words_of
one_past = refl

-- ---- the same of any bytes

second : (q b c : Bool) → q && false && b && c ≡ false
second true b c = refl
second false b c = refl

third : (q a c : Bool) → q && a && false && c ≡ false
third true true c = refl
third true false c = refl
third false a c = refl

fourth : (q a b : Bool) → q && a && b && false ≡ false
fourth true true true = refl
fourth true true false = refl
fourth true false b = refl
fourth false a b = refl

-- a result byte too few, a register or an operand too many
pub short_result : (bs : List ℕ) (registers operands : ℕ) → within_bounds bs 53023 registers operands ≡ false
short_result bs registers operands = second (readable bs) (leb registers 512) (leb operands 2048)

pub past_registers : (bs : List ℕ) (n operands : ℕ) → within_bounds bs n 513 operands ≡ false
past_registers bs n operands = third (readable bs) (leb 53024 n) (leb operands 2048)

pub past_operands : (bs : List ℕ) (n registers : ℕ) → within_bounds bs n registers 2049 ≡ false
past_operands bs n registers = fourth (readable bs) (leb 53024 n) (leb registers 512)

-- what is past a bound gets 300, and the result stays
pub past : (bs result : List ℕ) (registers operands : ℕ) → within_bounds bs (length result) registers operands ≡ false
    → (returned bs (length result) registers operands ≡ 300) × (written bs result registers operands ≡ result)
past bs result registers operands e = (
  ap (λ (b : Bool). elim b [ true ↦ number (sunk bs registers operands).answer | false ↦ 300 ]) e,
  ap (λ (b : Bool). elim b [ true ↦ put_left (sunk bs registers operands) result | false ↦ result ]) e,
)
