-- The rows of bits that the instructions make (01, "A round": "read before written", "written"): of each block a row of what
-- is read before it is written, from word u of the slice on, and a row of what is written, from word d on. Assumes nothing.
use Rattle.std.specs.Prelude.{List, [], ◌∷◌, ℕ, ◌+◌, ◌*◌, ◌<◌, ◌≤◌, length}
use Rattle.words.specs.Bits.{set_bit, unset_bit}
use Rattle.words.specs.Lists.{In}
use Rattle.words.specs.Steps.{steps}
use Rattle.model.specs.Picture.{Inst, inst, reads, writes}
use Rattle.inst.specs.Record.{Known, Listed}

-- r is read: it goes into the row at u
abbrev pub put : ℕ → List ℕ → ℕ → List ℕ
put u ws r = set_bit ws (64 * u + r)

-- r is written: out of the row at u, into the one at d
abbrev pub wrote : ℕ → ℕ → List ℕ → ℕ → List ℕ
wrote u d ws r = set_bit (unset_bit ws (64 * u + r)) (64 * d + r)

-- an instruction in front of those that the rows are of
unfoldable pub before : List ℕ → ℕ → ℕ → List ℕ → Inst → List ℕ
before ops u d ws i = steps (put u) (steps (wrote u d) ws (writes i)) (reads ops i)

-- a run of instructions, the last one first
unfoldable pub run : List ℕ → ℕ → ℕ → List ℕ → List Inst → List ℕ
run ops u d ws [] = ws
run ops u d ws (i ∷ is) = before ops u d (run ops u d ws is) i

-- what acceptance (01, "The call", causes 1 and 4 to 6) gives of the records: known kinds, lists within the operands, and each
-- register that is read or written is one of R
pub record Code (recs ops : List ℕ) (R : ℕ) : Type 0 where
  pub few : R ≤ 65536
  pub known : (p : ℕ) → 16 * p + 16 ≤ length recs → Known recs p
  pub listed : (p : ℕ) → 16 * p + 16 ≤ length recs → Listed recs ops p
  pub read : (p q : ℕ) → 16 * p + 16 ≤ length recs → In q (reads ops (inst recs p)) → q < R
  pub written : (p q : ℕ) → 16 * p + 16 ≤ length recs → In q (writes (inst recs p)) → q < R

-- n blocks have their rows of live-in and of what they write, of w words each, in the slice
pub record Room (n w : ℕ) (bits : List ℕ) : Type 0 where
  pub fits : n * w + n * w ≤ length bits

-- the row of R registers that begins at word x lies in the words
pub record InRow (x R : ℕ) (bits : List ℕ) : Type 0 where
  pub fits : 64 * x + R ≤ 64 * length bits
