-- 01, "The call", the record: its words, which register each slot reads or writes, and what acceptance gives of a record.
-- Assumes nothing.
use Rattle.std.specs.Prelude.{◌≡◌, Bool, cond, not, ◌&&◌, ◌||◌, List, [], ◌∷◌, ℕ, ◌+◌, ◌*◌, ◌/◌, ◌%◌, ◌≤◌, ◌<◌, eqb, leb, ltb, get_or, length, drop}
use Rattle.model.specs.Kinds.{off, reading, writing}
use Rattle.model.specs.Picture.{Inst, inst, absent, roles, slots, chosen}
use Rattle.inst.specs.Table.{pack}

-- word k of record p
abbrev pub word : List ℕ → ℕ → ℕ → ℕ
word recs p k = get_or (inst recs p) k 0

-- ---- what the slots do: 4 bits a slot

unfoldable pub uses_of : Inst → ℕ
uses_of i = pack (roles i)

-- ---- what acceptance gives, and what was looked up

-- record p lies within
pub record Within (recs : List ℕ) (p : ℕ) : Type 0 where
  pub whole : 16 * p + 16 ≤ length recs

-- and its kind is one
pub record Known (recs : List ℕ) (p : ℕ) : Type 0 where
  pub within : Within recs p
  pub kind : word recs p 0 < 101

-- and its list lies within the operands
pub record Listed (recs ops : List ℕ) (p : ℕ) : Type 0 where
  pub within : Within recs p
  pub list : word recs p 7 + word recs p 8 ≤ length ops

-- and u says what its slots do
pub record Used (recs : List ℕ) (p u : ℕ) : Type 0 where
  pub within : Within recs p
  pub uses : u ≡ uses_of (inst recs p)

-- ---- by place

-- the register that slot s reads, or writes, or absent
unfoldable pub read_at : Inst → ℕ → ℕ
read_at i s = cond (reading (get_or (roles i) s off)) (get_or i (2 + s) 0) absent

unfoldable pub write_at : Inst → ℕ → ℕ
write_at i s = cond (writing (get_or (roles i) s off)) (get_or i (2 + s) 0) absent

-- of what the slots do: so many slots, from the first on, may read
abbrev pub readers : ℕ → ℕ
readers u = cond (ltb u 4096) 3 5

-- one after the first writes
abbrev pub later : ℕ → Bool
later u = eqb (u / 32 % 2) 1 || eqb (u / 512 % 2) 1 || eqb (u / 8192 % 2) 1 || eqb (u / 131072 % 2) 1

-- so many slots, from the first on, may write
abbrev pub writers : ℕ → ℕ
writers u = cond (later u) 5 1

-- r where it is a register
unfoldable pub present : ℕ → List ℕ
present r = cond (eqb r absent) [] (r ∷ [])

-- what slots s, s + 1, .. read, and write
unfoldable pub rest_reads : Inst → ℕ → List ℕ
rest_reads i s = chosen reading (drop s (roles i)) (drop s (slots i))

unfoldable pub rest_writes : Inst → ℕ → List ℕ
rest_writes i s = chosen writing (drop s (roles i)) (drop s (slots i))

-- is r, of R registers, refused in a slot of this role code?
abbrev pub bad_at : ℕ → ℕ → ℕ → Bool
bad_at R o r = cond (eqb o 0) (not (eqb r absent)) (cond (ltb o 4) (leb R r) (leb R r && not (eqb r absent)))
