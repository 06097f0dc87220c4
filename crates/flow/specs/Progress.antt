-- What part of a sweep does to the rows (01, "A round": "live into a successor and not written"). The n rows of w words at the
-- head of the slice are live-in so far, and the rest `ds` begins with the n rows of what is written. One step takes what is
-- live into s over into block b, an edge; a record says it of any steps, and bounds them by any solution y, so that what is
-- reached is the least, in whatever order the edges are taken. Assumes nothing.
use Rattle.std.specs.Prelude.{◌≡◌, Bool, true, false, List, ℕ, ◌+◌, ◌-◌, ◌*◌, ◌/◌, ◌%◌, ◌^◌, ◌≤◌, ◌<◌, min, length, get_or, drop}
use Rattle.std.specs.Int.Bits.{bit_and, bit_or}
use Rattle.words.specs.Bits.{digit, room}

-- bit q of row x, 0 or 1
unfoldable pub cell : List ℕ → ℕ → ℕ → ℕ → ℕ
cell ws w x q = digit (get_or ws (x * w + q / 64) 0) (q % 64)

-- word a with what stands at c and not at d
abbrev pub raised : List ℕ → ℕ → ℕ → ℕ → ℕ
raised ws a c d = bit_or (get_or ws a 0) (bit_and (get_or ws c 0) (2 ^ 64 - 1 - get_or ws d 0))

-- x is one of the first k of the list
abbrev pub Among : List ℕ → ℕ → ℕ → Type 0
Among ss k x = (j : ℕ) × (j < k) × (x ≡ get_or ss j 0)

-- every edge of n blocks, at every word
abbrev pub Edges : ℕ → ℕ → (ℕ → List ℕ) → ℕ → ℕ → ℕ → Type 0
Edges n w succ b s i = (b < n) × Among (succ b) (length (succ b)) s × (i < w)

-- l became m, and r tells whether that is a change, after the edges b to s were taken at the words i that Done names
pub record Progress (n w : ℕ) (ds : List ℕ) (Done : ℕ → ℕ → ℕ → Type 0) (l m : List ℕ) (r : Bool) : Type 0 where
  pub size : length m ≡ length l
  pub rest : drop (n * w) m ≡ ds
  pub mono : room m ≤ room l
  pub less : r ≡ true → room m < room l
  pub same : r ≡ false → m ≡ l
  -- no bit is lost; what was live into s is live into b, if b does not write it; words that no edge named are as they were
  pub grow : (b q : ℕ) → q < 64 * w → cell l w b q ≤ cell m w b q
  pub fresh : (b s q : ℕ) → Done b s (q / 64) → q < 64 * w → min (cell l w s q) (1 - cell ds w b q) ≤ cell m w b q
  pub still : (b i : ℕ) → ((s : ℕ) → Done b s i → ⊥) → i < w → get_or m (b * w + i) 0 ≡ get_or l (b * w + i) 0
  -- whatever is closed under the edges named, and was not passed, is not passed
  pub below : (q : ℕ) → q < 64 * w → (y : ℕ → ℕ) → ((b s : ℕ) → Done b s (q / 64) → min (y s) (1 - cell ds w b q) ≤ y b)
      → ((b : ℕ) → b < n → cell l w b q ≤ y b) → (b : ℕ) → b < n → cell m w b q ≤ y b

-- m is the least that holds l and is closed under the edges of the n blocks
pub record Solved (n w : ℕ) (succ : ℕ → List ℕ) (l m : List ℕ) : Type 0 where
  pub size : length m ≡ length l
  pub rest : drop (n * w) m ≡ drop (n * w) l
  pub grow : (b q : ℕ) → q < 64 * w → cell l w b q ≤ cell m w b q
  pub closed : (b s q : ℕ) → b < n → Among (succ b) (length (succ b)) s → q < 64 * w → min (cell m w s q) (1 - cell (drop (n * w) l) w b q) ≤ cell m w b q
  pub below : (q : ℕ) → q < 64 * w → (y : ℕ → ℕ)
      → ((b s : ℕ) → b < n → Among (succ b) (length (succ b)) s → min (y s) (1 - cell (drop (n * w) l) w b q) ≤ y b)
      → ((b : ℕ) → b < n → cell l w b q ≤ y b) → (b : ℕ) → b < n → cell m w b q ≤ y b
