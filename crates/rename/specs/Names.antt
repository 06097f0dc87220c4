-- 01, "The move": renaming one record in place, by a word for each register, its new name or absent. Assumes nothing.
use Rattle.std.specs.Prelude.{◌≡◌, Bool, true, false, cond, not, List, map, ℕ, ◌+◌, ◌-◌, ◌*◌, ◌%◌, ◌≤◌, ◌<◌, eqb, get_or, length, take, drop, set}
use Rattle.std.specs.List.{list_any}
use Rattle.words.specs.Lists.{mem}
use Rattle.model.specs.Picture.{Inst, inst, absent, writes}
use Rattle.model.specs.Move.{Job, made, changes, more_of}
use Rattle.inst.specs.Table.{two_bits}
use Rattle.inst.specs.Record.{Used}

-- what is asked for some number that the code does not need: the operands that were in use at first, or the instructions
pub record Exists (P : ℕ → Type 0) : Type 0 where
  pub u : ℕ
  pub is : P u

-- ---- names

abbrev pub reg_or : ℕ → ℕ → ℕ
reg_or w x = cond (eqb w absent) x w

-- the new name of r: the low half of its word
abbrev pub named : List ℕ → ℕ → ℕ
named ws r = reg_or (get_or ws r absent % 4294967296) r

abbrev pub put_name : List ℕ → ℕ → ℕ → List ℕ
put_name ws w nw = cond (eqb w absent) ws (set ws w nw)

-- one of two
abbrev pub pick : Bool → ℕ → ℕ → ℕ
pick b x y = elim b as (λ z. ℕ) [ true ↦ x | false ↦ y ]

-- the registers that a record writes keep their names
pub record Forgot (i : Inst) (ws vs : List ℕ) : Type 0 where
  pub size : length vs ≡ length ws
  pub names : (r : ℕ) → named vs r ≡ pick (mem r (writes i)) r (named ws r)

-- ---- slots

-- a slot's word after, by what the slot does: 1 reads, 2 writes
unfoldable pub slotted : ℕ → List ℕ → ℕ → ℕ → ℕ
slotted d ws nw w = cond (eqb w absent) w (cond (eqb d 1) (named ws w) (cond (eqb d 2) (reg_or nw w) w))

-- the first i slots of record p are renamed
pub record Slotted (p uses : ℕ) (ws : List ℕ) (nw : ℕ) (xs ys : List ℕ) (i : ℕ) : Type 0 where
  pub size : length ys ≡ length xs
  pub done : (s : ℕ) → s < i → get_or ys (16 * p + 2 + s) 0 ≡ slotted (two_bits uses s) ws nw (get_or xs (16 * p + 2 + s) 0)
  pub later : (j : ℕ) → 16 * p + 2 + i ≤ j → get_or ys j 0 ≡ get_or xs j 0
  pub front : (j : ℕ) → j < 16 * p + 2 → get_or ys j 0 ≡ get_or xs j 0

-- ---- lists

abbrev pub part : ℕ → ℕ → List ℕ → List ℕ
part a n w = take n (drop a w)

-- does this list of operands change
abbrev pub list_changes : List ℕ → List ℕ → Bool
list_changes ws l = list_any (λ w. not (eqb (named ws w) w)) l

-- the first k of the list's new names stand from o on
pub record Appended (s o : ℕ) (ws xs ys : List ℕ) (k : ℕ) : Type 0 where
  pub size : length ys ≡ length xs
  pub front : take o ys ≡ take o xs
  pub more : part o k ys ≡ map (named ws) (part s k xs)
  pub back : drop (o + k) ys ≡ drop (o + k) xs

-- ---- one record

-- instruction i with its reads named by ws and its write by nw
abbrev pub job : Inst → List ℕ → ℕ → Job
job i ws nw = record { old = i; rd = named ws; wr = reg_or nw }

-- what is asked of record p: u operands were in use at first, o are now
pub record Fit (p uses u o : ℕ) (ws : List ℕ) (nw : ℕ) (recs ops : List ℕ) : Type 0 where
  pub known : Used recs p uses
  pub few_regs : length ws ≤ absent
  pub slots_ok : (s : ℕ) → s < 5 → (get_or recs (16 * p + 2 + s) 0 ≡ absent → ⊥) → get_or recs (16 * p + 2 + s) 0 < length ws
  pub list_ok : get_or recs (16 * p + 7) 0 + get_or recs (16 * p + 8) 0 ≤ u
  pub used : u ≤ o
  pub lent : o ≤ length ops
  pub few : length ops < 4294967296
  pub operands_ok : (k : ℕ) → k < u → get_or ops k 0 < length ws
  pub room : changes ops (job (inst recs p) ws nw) ≡ true → o + get_or recs (16 * p + 8) 0 ≤ length ops

-- record p was made anew, and what its list needs was appended at o: r operands are in use then
pub record Remade (p o : ℕ) (ws : List ℕ) (nw : ℕ) (xs ys ops ops' : List ℕ) (r : ℕ) : Type 0 where
  pub size : length ys ≡ length xs
  pub here : inst ys p ≡ made (job (inst xs p) ws nw) (cond (changes ops (job (inst xs p) ws nw)) o (get_or (inst xs p) 7 0))
  pub front : (k : ℕ) → k < 16 * p → get_or ys k 0 ≡ get_or xs k 0
  pub back : (k : ℕ) → 16 * p + 16 ≤ k → get_or ys k 0 ≡ get_or xs k 0
  pub ops_size : length ops' ≡ length ops
  pub count : r ≡ o + length (more_of ops (job (inst xs p) ws nw))
  pub ops_front : take o ops' ≡ take o ops
  pub ops_more : part o (r - o) ops' ≡ more_of ops (job (inst xs p) ws nw)
  pub ops_back : drop r ops' ≡ drop r ops
