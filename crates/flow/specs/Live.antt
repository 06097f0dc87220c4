-- The n rows of w words at the head of the slice are live_in (01, "A round"), the n behind them what each block writes, then
-- one row that is not ours, and n of what each block reads before it writes it. Assumes nothing.
use Rattle.std.specs.Prelude.{◌≡◌, ◌⊎◌, List, [], ◌∷◌, ℕ, ◌+◌, ◌*◌, ◌≤◌, ◌<◌, length, get_or}
use Rattle.std.specs.Int.Bits.{bit_or}
use Rattle.words.specs.Bits.{is_in}
use Rattle.model.specs.Picture.{Picture, nblocks, code}
use Rattle.model.specs.Live.{live_in, read_first, written}

-- register r is in block b's row exactly if it is live into b
pub record Live (P : Picture) (w : ℕ) (bits : List ℕ) : Type 0 where
  pub row : (b r : ℕ) → b < nblocks P → r < 64 * w → is_in bits (64 * (b * w) + r) ≡ live_in P b r

-- and in row n + b exactly if b writes it
pub record Wrote (P : Picture) (w : ℕ) (bits : List ℕ) : Type 0 where
  pub row : (b r : ℕ) → b < nblocks P → r < 64 * w → is_in bits (64 * ((nblocks P + b) * w) + r) ≡ written r (code P b)

-- n blocks have all their rows in the slice
pub record RowRoom (n w : ℕ) (bits : List ℕ) : Type 0 where
  pub fits : 3 * n * w + w ≤ length bits

-- the rows of block b stand for its code: what it reads first, in row 2 n + 1 + b, and what it writes, in row n + b
pub record Rows (P : Picture) (w b : ℕ) (bits : List ℕ) : Type 0 where
  pub first : (r : ℕ) → r < 64 * w → is_in bits (64 * ((2 * nblocks P + 1 + b) * w) + r) ≡ read_first P.ops r (code P b)
  pub wrote : (r : ℕ) → r < 64 * w → is_in bits (64 * ((nblocks P + b) * w) + r) ≡ written r (code P b)

-- only those two rows changed
pub record OnlyRows (n w b : ℕ) (before after : List ℕ) : Type 0 where
  pub size : length after ≡ length before
  pub same : (i : ℕ) → (i < (n + b) * w) ⊎ ((n + b) * w + w ≤ i) → (i < (2 * n + 1 + b) * w) ⊎ ((2 * n + 1 + b) * w + w ≤ i)
      → get_or after i 0 ≡ get_or before i 0

-- x with word i of each listed row
unfoldable pub gathered : List ℕ → ℕ → ℕ → ℕ → List ℕ → ℕ
gathered bits w i x [] = x
gathered bits w i x (s ∷ ss) = gathered bits w i (bit_or x (get_or bits (s * w + i) 0)) ss
