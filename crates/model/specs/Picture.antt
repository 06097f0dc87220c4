-- 01, "The call": the picture that the caller lends, its records, and what the roles say of one; a block's successors and
-- predecessors. Assumes nothing.
use Rattle.std.specs.Prelude.{Bool, true, false, not, ◌&&◌, cond, List, [], ◌∷◌, ◌++◌, map, ℕ, zero, suc, ◌+◌, ◌-◌, ◌*◌, ◌/◌, eqb, get_or, length, take, drop}
use Rattle.words.specs.Lists.{range, upto, mem, filter}
use Rattle.model.specs.Kinds.{Kind, Role, row, kind_of, at_form, reading, writing, place, Br, CondBr, Case}

-- a "picture" of one function, all 32-bit words
pub record Picture : Type 0 where
  -- blocks: pairs start, end
  pub bounds : List ℕ
  -- records of 16 words; one loc word each; via words, one each or none at all
  pub recs : List ℕ
  pub locs : List ℕ
  pub vias : List ℕ
  -- register types, as many as are lent (K), and how many are in use (R)
  pub types : List ℕ
  pub regs : ℕ
  -- operands, as many as are lent, and how many are in use
  pub ops : List ℕ
  pub opers : ℕ
  -- case pairs (start, length into the case targets, default first)
  pub pairs : List ℕ
  pub targets : List ℕ
  -- block numbers; one that is no block matches none
  pub replay : List ℕ

-- ---- one instruction: its record of 16 words

abbrev pub Inst : Type 0
Inst = List ℕ

-- the instruction at position p
abbrev pub inst : List ℕ → ℕ → Inst
inst recs p = take 16 (drop (16 * p) recs)

-- what a slot that is not visited holds: "absent"
abbrev pub absent : ℕ
absent = 4294967295

-- word 0 is the kind, word 1 the form, words 2 to 6 are registers in `visit_mut` order
abbrev pub kind : Inst → Kind
kind i = kind_of (get_or i 0 0)

abbrev pub form : Inst → ℕ
form i = get_or i 1 0

abbrev pub slots : Inst → List ℕ
slots i = take 5 (drop 2 i)

abbrev pub is_kind : Kind → Inst → Bool
is_kind k i = eqb (get_or i 0 0) (place k)

-- `visit_mut` fixes the roles
abbrev pub roles : Inst → List Role
roles i = map (at_form (form i)) (row (kind i)).slots

-- the present registers whose role passes the test, in order of slots
abbrev pub chosen : (Role → Bool) → List Role → List ℕ → List ℕ
chosen f [] rs = []
chosen f (o ∷ os) [] = []
chosen f (o ∷ os) (r ∷ rs) = let more = chosen f os rs in cond (f o && not (eqb r absent)) (r ∷ more) more

-- words 7 and 8 are list start and length
abbrev pub list_of : List ℕ → Inst → List ℕ
list_of ops i = take (get_or i 8 0) (drop (get_or i 7 0) ops)

-- the registers it reads (visit order, then its operand list), and writes
abbrev pub reads : List ℕ → Inst → List ℕ
reads ops i = chosen reading (roles i) (slots i) ++ list_of ops i

abbrev pub writes : Inst → List ℕ
writes i = chosen writing (roles i) (slots i)

-- ---- blocks

abbrev pub nblocks : Picture → ℕ
nblocks P = length P.bounds / 2

abbrev pub starts : Picture → ℕ → ℕ
starts P b = get_or P.bounds (2 * b) 0

abbrev pub ends : Picture → ℕ → ℕ
ends P b = get_or P.bounds (2 * b + 1) 0

-- the positions of block b, and its code
abbrev pub places : Picture → ℕ → List ℕ
places P b = range (starts P b) (ends P b - starts P b)

abbrev pub code : Picture → ℕ → List Inst
code P b = map (inst P.recs) (places P b)

abbrev pub size : Picture → ℕ → ℕ
size P b = ends P b - starts P b

-- how a block ends: in Br, CondBr (t, f), Case (its table), or otherwise
pub data End : Type 0 where
  goes : ℕ → End
  parts : ℕ → ℕ → End
  cases : ℕ → End
  stops : End

-- payload read: Br 9; CondBr 9, 10; Case 9
abbrev pub end_of : Inst → End
end_of i =
    elim (is_kind Br i) [
      | true ↦ goes (get_or i 9 0)
      | false ↦ elim (is_kind CondBr i) [ true ↦ parts (get_or i 9 0) (get_or i 10 0) | false ↦ elim (is_kind Case i) [ true ↦ cases (get_or i 9 0) | false ↦ stops ] ]
    ]

abbrev pub ending : Picture → ℕ → End
ending P b = elim (eqb (size P b) 0) [ true ↦ stops | false ↦ end_of (inst P.recs (ends P b - 1)) ]

-- the targets of case table t, none past the last
abbrev pub table : Picture → ℕ → List ℕ
table P t = take (get_or P.pairs (2 * t + 1) 0) (drop (get_or P.pairs (2 * t) 0) P.targets)

abbrev pub end_succs : Picture → End → List ℕ
end_succs P (goes t) = t ∷ []
end_succs P (parts t f) = t ∷ f ∷ []
end_succs P (cases t) = table P t
end_succs P stops = []

-- a block's successors are those of its last instruction
abbrev pub succs : Picture → ℕ → List ℕ
succs P b = end_succs P (ending P b)

-- its predecessors are the blocks that it is a successor of, each once
abbrev pub preds : Picture → ℕ → List ℕ
preds P b = filter (λ c. mem b (succs P c)) (upto (nblocks P))

-- Request 2026-02: the start of the function, as one more predecessor of block 0. It is no block: of n blocks it has the number n.
abbrev pub from_start : ℕ → ℕ → List ℕ
from_start n zero = n ∷ []
from_start n (suc b) = []

-- all that lead to a block, the start of the function among them: a chain goes on to a block, and a block is a target, by these
abbrev pub callers : Picture → ℕ → List ℕ
callers P b = from_start (nblocks P) b ++ preds P b
