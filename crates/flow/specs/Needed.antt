-- 01, "The legal set", rule 2: the registers needed elsewhere than in the target, as a row of w words. The rows lie as `flow`
-- leaves them: of n blocks row b is live-in of b, row n + b what b writes; this row is the next one. Assumes nothing.
use Rattle.std.specs.Prelude.{◌≡◌, Bool, not, ◌&&◌, ◌||◌, List, ℕ, ◌+◌, ◌*◌, ◌/◌, ◌%◌, ◌≤◌, ◌<◌, length, take, drop}
use Rattle.words.specs.Bits.{digit, is_in}
use Rattle.words.specs.Lists.{any, hit}
use Rattle.model.specs.Picture.{Picture}
use Rattle.model.specs.Move.{needed}
use Rattle.flow.specs.Live.{Live, Wrote}

-- what is asked: the target and the other branch are blocks, as the target's successors are by their type, and the row has room
pub record Fits (n w into other : ℕ) (bits : List ℕ) : Type 0 where
  pub target : into < n
  pub branch : other < n
  pub room : n * w + n * w + w ≤ length bits

-- what the rows say of r: in the row of the other branch, or in that of a successor and not in that of what the target writes
unfoldable pub wanted : List ℕ → List ℕ → ℕ → ℕ → ℕ → ℕ → ℕ → Bool
wanted bits ss n w into other r =
    is_in bits (64 * (other * w) + r) || (any (λ s. is_in bits (64 * (s * w) + r)) ss && not (is_in bits (64 * ((n + into) * w) + r)))

-- v is word i of the row
pub record Word (bits ss : List ℕ) (n w into other i v : ℕ) : Type 0 where
  pub bit : (r : ℕ) → r / 64 ≡ i → digit v (r % 64) ≡ hit (wanted bits ss n w into other r)

-- the row is put, and nothing else is changed
pub record Put (bits ss : List ℕ) (n w into other : ℕ) (bits' : List ℕ) : Type 0 where
  pub size : length bits' ≡ length bits
  pub front : take (n * w + n * w) bits' ≡ take (n * w + n * w) bits
  pub back : drop (n * w + n * w + w) bits' ≡ drop (n * w + n * w + w) bits
  pub row : (r : ℕ) → r < 64 * w → is_in bits' (64 * (n * w + n * w) + r) ≡ wanted bits ss n w into other r

-- P is a picture of these lists
pub record Shows (P : Picture) (bounds recs pairs targets : List ℕ) : Type 0 where
  pub bounds_are : P.bounds ≡ bounds
  pub recs_are : P.recs ≡ recs
  pub pairs_are : P.pairs ≡ pairs
  pub targets_are : P.targets ≡ targets

-- the row is `model`'s `needed`, if the rows before it are live-in and what is written; and nothing else is changed
pub record Needed (bounds recs pairs targets : List ℕ) (w into other : ℕ) (bits bits' : List ℕ) : Type 0 where
  pub size : length bits' ≡ length bits
  pub front : take (length bounds / 2 * w + length bounds / 2 * w) bits' ≡ take (length bounds / 2 * w + length bounds / 2 * w) bits
  pub back : drop (length bounds / 2 * w + length bounds / 2 * w + w) bits' ≡ drop (length bounds / 2 * w + length bounds / 2 * w + w) bits
  pub row : (P : Picture) → Shows P bounds recs pairs targets → Live P w bits → Wrote P w bits
      → (r : ℕ) → r < 64 * w → is_in bits' (64 * (length bounds / 2 * w + length bounds / 2 * w) + r) ≡ needed P into other r
