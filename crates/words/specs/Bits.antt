-- Rows of bits in 64-bit words: number r is bit r % 64 of word r / 64. Assumes nothing.
use Rattle.std.specs.Prelude.{Bool, List, [], ◌∷◌, ℕ, ◌+◌, ◌-◌, ◌/◌, ◌%◌, ◌^◌, eqb, get_or, set, sum_by}
use Rattle.std.specs.Int.Bits.{bit_and, bit_or}
use Rattle.std.specs.Int.Count.{ones}

-- the words of a row of n numbers
abbrev pub width : ℕ → ℕ
width n = (n + 63) / 64

-- bit k of a word, 0 or 1
unfoldable pub digit : ℕ → ℕ → ℕ
digit w k = w / 2 ^ k % 2

-- bit r of a row, 0 or 1: past the end 0
unfoldable pub digit_in : List ℕ → ℕ → ℕ
digit_in ws r = digit (get_or ws (r / 64) 0) (r % 64)

-- r is in the row
unfoldable pub is_in : List ℕ → ℕ → Bool
is_in ws r = eqb (digit_in ws r) 1

-- the row with r; past the end the row itself
unfoldable pub set_bit : List ℕ → ℕ → List ℕ
set_bit ws r = set ws (r / 64) (bit_or (get_or ws (r / 64) 0) (2 ^ (r % 64)))

-- the row without r
unfoldable pub unset_bit : List ℕ → ℕ → List ℕ
unset_bit ws r = set ws (r / 64) (bit_and (get_or ws (r / 64) 0) (2 ^ 64 - 1 - 2 ^ (r % 64)))

-- how many are in the row
abbrev pub ones_in : List ℕ → ℕ
ones_in ws = sum_by ones ws

-- how far the words can still rise: a measure for loops that only raise them
unfoldable pub room : List ℕ → ℕ
room [] = 0
room (w ∷ ws) = (2 ^ 64 - w) + room ws
