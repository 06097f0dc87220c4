-- What the words and the structs stand for at a position of a chain: the facts of before round 1, the last writers, and the facts of
-- the positions so far. Assumes nothing.
use Rattle.std.specs.Prelude.{◌≡◌, ◌⊎◌, Bool, false, cond, List, ℕ, suc, ◌+◌, ◌*◌, ◌/◌, ◌%◌, ◌≤◌, ◌<◌, eqb, get_or, length, Option, None, Some}
use Rattle.model.specs.Kinds.{row, cat}
use Rattle.model.specs.Picture.{Inst, absent, kind, reads}
use Rattle.model.specs.Analyse.{Facts, Fact, Org, Unknown, no_fact, last_writer, org_of, len_of, is_layout, when_some, known_of, positive, sized}
use Rattle.inst.specs.Constant.{constant_of}
use Rattle.inst.specs.declared.scanned.Firsts.{Firsts}
use Rattle.effects.specs.Origin.{org_at, class_at, class_of, wrote_at, from_at}
unfoldable pub use Rattle.effects.specs.Origin.{place_at}
use Rattle.facts.specs.declared.Fact as F
use Rattle.facts.specs.Marks.{fact_in}
use Rattle.effects.specs.Arms.{read_at}
use Rattle.effects.specs.declared.input.Input.{Input}
use Rattle.effects.specs.declared.arms.Effect.{Effect}
use Rattle.regfacts.specs.Flags.{Seen, is_length}
use Rattle.effects.specs.declared.origin.Value.{Value}

-- ---- a position's fact

-- the struct x stands for the fact f
pub record Stands (x : F.Fact) (f : Fact) : Type 0 where
  pub class : class_at x.class ≡ f.does.class
  pub org : org_at x.org ≡ f.does.org
  pub len : x.len ≡ f.does.len
  pub layout : x.layout ≡ f.does.layout
  pub creates : x.creates ≡ f.does.creates
  pub barrier : x.barrier ≡ f.does.barrier
  pub suspends : x.suspends ≡ f.suspends
  pub wrote : wrote_at x.wrote ≡ f.does.wrote
  pub from : from_at x.from f.does.from ≡ f.does.from
  pub def : x.def ≡ get_or f.defs 0 absent

-- ---- a register's word

-- what it says of the value that the last writer left: where it points, whether it is a length, and whether it points to a layout
unfoldable pub left_in : ℕ → Value
left_in v = record { org = v / 16384 % 2048; len = eqb (v / 16384 / 2048 % 2) 1; layout = eqb (v / 16384 / 4096 % 2) 1 }

-- the word without that: 16 times the last writer's position and 1, or 0, and the flags
abbrev pub plain : ℕ → ℕ
plain v = v % 16384

-- x is what the fact f left, after the facts of the past
pub record Left (past : List Fact) (x : Value) (f : Fact) : Type 0 where
  pub org : org_at x.org ≡ f.does.org
  pub len : x.len ≡ f.does.len
  pub layout : sized (λ k. x.layout) (org_at x.org) ≡ sized (is_layout past) (org_at x.org)

-- the words of the first R registers stand for the facts G, and for what the facts of the past left in them
pub record Marked (G : Facts) (past : List Fact) (R : ℕ) (regs : List ℕ) : Type 0 where
  pub seen : Seen G R regs
  pub writer : (r : ℕ) → r < R → place_at (get_or regs r 0 / 16 % 1024) ≡ last_writer 0 past r
  pub left : (r : ℕ) → r < R → (d : ℕ) → get_or regs r 0 / 16 % 1024 ≡ suc d → Left past (left_in (get_or regs r 0)) (get_or past d no_fact)

-- so do they, and the structs of the positions so far for the facts of the past
pub record State (G : Facts) (past : List Fact) (R : ℕ) (regs : List ℕ) (w : List F.Fact) : Type 0 where
  pub marked : Marked G past R regs
  pub each : (p : ℕ) → p < length past → Stands (fact_in w p) (get_or past p no_fact)

-- a word says no more than n positions can have left
pub record Ranges (n v : ℕ) : Type 0 where
  pub writer : v / 16 % 1024 ≤ n
  pub org : v / 16384 % 2048 < 4 + 2 * n
  pub none : v / 16 % 1024 ≡ 0 → v < 16

-- so do those of the first R registers; the sizes that the code needs
pub record Ranged (R n : ℕ) (regs : List ℕ) : Type 0 where
  pub in_use : R ≤ length regs
  pub lent : length regs ≤ 65536
  pub few : n < 1000
  pub each : (r : ℕ) → r < R → Ranges n (get_or regs r 0)

-- the numbers of x are small, but for the code of a Cat
pub record Near (x : F.Fact) : Type 0 where
  pub org : x.org < 2004
  pub wrote : x.wrote ≤ 2004
  pub from : (x.from ≤ 2004) ⊎ (x.from ≡ 4294967295)

-- so are those of all of the n positions so far
pub record Safe (R n : ℕ) (regs : List ℕ) (w : List F.Fact) : Type 0 where
  pub ranged : Ranged R n regs
  pub near : (p : ℕ) → p < n → Near (fact_in w p)

-- ---- a register that is read

-- a register, or none
abbrev pub Reg? : ℕ → ℕ → Type 0
Reg? R r = (r ≡ absent) ⊎ (r < R)

-- so are the first three that are read
pub record Below (R : ℕ) (x : Firsts) : Type 0 where
  pub r0 : Reg? R x.r0
  pub r1 : Reg? R x.r1
  pub r2 : Reg? R x.r2

-- where it points, and whether it is a length; of none, what the analysis takes for a place past the end
unfoldable pub org_reg : Facts → List Fact → ℕ → Org
org_reg G past r = cond (eqb r absent) Unknown (org_of G past (record { reg = r; writer = last_writer 0 past r }))

unfoldable pub len_reg : Facts → List Fact → ℕ → Bool
len_reg G past r = cond (eqb r absent) false (len_of G past (record { reg = r; writer = last_writer 0 past r }))

-- x is what is known of register r after the facts of the past
pub record Valued (G : Facts) (past : List Fact) (r : ℕ) (x : Value) : Type 0 where
  pub org : org_at x.org ≡ org_reg G past r
  pub len : x.len ≡ len_reg G past r
  pub layout : sized (λ k. x.layout) (org_at x.org) ≡ sized (is_layout past) (org_at x.org)

-- ---- an instruction

-- x holds what instruction i asks, at the position after the past
pub record Asked (G : Facts) (past : List Fact) (ops : List ℕ) (i : Inst) (x : Input) : Type 0 where
  pub form : get_or i 1 0 ≡ x.form
  pub list : get_or i 8 0 ≡ x.list
  pub small : is_length (constant_of i) ≡ x.small
  pub p : x.p ≡ length past
  pub o0 : org_at (read_at x 0).org ≡ org_reg G past (get_or (reads ops i) 0 absent)
  pub o1 : org_at (read_at x 1).org ≡ org_reg G past (get_or (reads ops i) 1 absent)
  pub o2 : org_at (read_at x 2).org ≡ org_reg G past (get_or (reads ops i) 2 absent)
  pub l0 : (read_at x 0).len ≡ len_reg G past (get_or (reads ops i) 0 absent)
  pub l1 : (read_at x 1).len ≡ len_reg G past (get_or (reads ops i) 1 absent)
  pub l2 : (read_at x 2).len ≡ len_reg G past (get_or (reads ops i) 2 absent)
  pub divisor : x.divisor ≡ when_some positive (known_of G (get_or (reads ops i) 1 absent)).konst
  pub layout : sized (λ k. (read_at x 0).layout) (org_at (read_at x 0).org) ≡ sized (is_layout past) (org_at (read_at x 0).org)
  pub layout1 : sized (λ k. (read_at x 1).layout) (org_at (read_at x 1).org) ≡ sized (is_layout past) (org_at (read_at x 1).org)

-- what is not named writes memory nobody can place
unfoldable pub fill_in : Option Org → Bool → Option Org
fill_in o b = elim o [ Some w ↦ Some w | None ↦ cond b None (Some Unknown) ]

-- the numbers of e are small, at position p; the memory read is the code only for a Cat
pub record Low (p : ℕ) (i : Inst) (e : Effect) : Type 0 where
  pub org : e.org < 6 + 2 * p
  pub wrote : e.wrote ≤ 2004
  pub from : (e.from ≤ 2004) ⊎ ((e.from ≡ 4294967295) × ((row (kind i)).arm ≡ cat))

-- the struct e stands for the fact f
pub record Judged (e : Effect) (f : Fact) : Type 0 where
  pub class : class_of e.class ≡ f.does.class
  pub org : org_at e.org ≡ f.does.org
  pub len : e.len ≡ f.does.len
  pub layout : e.layout ≡ f.does.layout
  pub creates : e.creates ≡ f.does.creates
  pub barrier : e.barrier ≡ f.does.barrier
  pub wrote : wrote_at e.wrote ≡ f.does.wrote
  pub from : from_at e.from f.does.from ≡ f.does.from
