-- Records in which no cause from 4 to 8 is present, told by one test (01, "The call", the table). Assumes nothing.
use Rattle.std.specs.Prelude.{◌≡◌, Bool, true, false, cond, not, ◌&&◌, ◌||◌, List, ℕ, ◌+◌, ◌≤◌, ◌<◌, eqb, ltb, leb, get_or}
use Rattle.model.specs.Picture.{Inst, inst, absent, kind, form}
use Rattle.inst.specs.Table.{packed, has_list, shape, allowed, two_bits}
use Rattle.inst.specs.Record.{uses_of}

-- a row of a kind that has neither a list nor successors, and may have the form
abbrev pub simple : ℕ → Bool
simple x = not (has_list x) && eqb (shape x) 0 && allowed x

-- no list
abbrev pub bare : Inst → Bool
bare i = eqb (get_or i 7 0) 0 && eqb (get_or i 8 0) 0

-- a slot that is not what it mostly is: absent where nothing is done with it (u is 0), and else a register
abbrev pub odd_at : ℕ → ℕ → ℕ → Bool
odd_at R u r = eqb r absent && not (eqb u 0) || not (eqb r absent) && eqb u 0 || not (eqb r absent) && leb R r

-- one of five, u saying what they do
abbrev pub odd_slot : ℕ → ℕ → Inst → ℕ → Bool
odd_slot R u i s = odd_at R (two_bits u s) (get_or i (2 + s) 0)

-- none of the first four is so, and nothing is done with the last, which is absent
unfoldable pub usual : ℕ → ℕ → Inst → Bool
usual R u i = ltb u 65536 && eqb (get_or i 6 0) absent && not (odd_slot R u i 0 || (odd_slot R u i 1 || (odd_slot R u i 2 || odd_slot R u i 3)))

unfoldable pub plain : ℕ → Inst → Bool
plain R i = cond (ltb 100 (get_or i 0 0)) false (cond (simple (packed (kind i) (form i)) && bare i) (usual R (uses_of i) i) false)

-- of n records, all from p up to q are so, and the one at q, if there is one, is not
pub record Skipped (R : ℕ) (recs : List ℕ) (n p q : ℕ) : Type 0 where
  pub from : p ≤ q
  pub upto : q ≤ n
  pub stops : q < n → plain R (inst recs q) ≡ false
  pub plain : (j : ℕ) → p ≤ j → j < q → plain R (inst recs j) ≡ true
