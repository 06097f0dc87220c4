-- 01, "One listing whole": the listing, its marked variants, and what each must give; then a second table, with a row for each
-- slip of the checklist that the marked cases do not show. The pages Refused, Arms, Memory, Paths and Moved have a row for every other
-- clause. Assumes nothing.
use Rattle.std.specs.Prelude.{◌≡◌, refl, List, [], ◌∷◌, ◌++◌, map, ℕ, zero, suc, ◌+◌, ◌^◌, ◌%◌, ◌/◌, length, replicate}
use Rattle.words.specs.Lists.{range, upto, concat}
use Rattle.model.specs.declared.Answer.TheVariants.{Done, Short, Refused}
use Rattle.model.specs.Kinds.{Const, AddrOf, Alloc, Cmp, Cat, CondBr, Br, Output, Ret, Stmt, Suspend}
use Rattle.model.specs.Picture.{Picture, Inst}
use Rattle.model.specs.Refusal.{records}
use Rattle.model.specs.Numbered.{refusal_of}
use Rattle.model.specs.Pass.{Outcome, ends_in, used, sink}
use Rattle.model.specs.Build.{op, Room, shows}

-- ---- the instructions of the listing

abbrev pub konst : ℕ → Inst
konst c = op Const 0 (1 ∷ []) [] (c % 2 ^ 32 ∷ c / 2 ^ 32 ∷ [])

abbrev pub alloc : ℕ → Inst
alloc d = op Alloc 0 (d ∷ 1 ∷ []) [] []

abbrev pub cmp : ℕ → ℕ → Inst
cmp d b = op Cmp 0 (d ∷ 1 ∷ b ∷ []) [] []

-- r3 by r1, r4 by r3, .., n in all
abbrev pub cmps : ℕ → List Inst
cmps zero = []
cmps (suc n) = cmp 3 1 ∷ map (λ k. cmp (suc k) k) (range 3 n)

-- of form f, into the block at d, with n operands from the first on, of which the first piece is a scalar
abbrev pub cat : ℕ → ℕ → ℕ → Inst
cat f d n = op Cat f (d ∷ 1 ∷ 1 ∷ []) (0 ∷ n ∷ []) (1 ∷ [])

abbrev pub branch : ℕ → ℕ → Inst
branch t f = op CondBr 0 (0 ∷ []) [] (t ∷ f ∷ [])

abbrev pub jump : ℕ → Inst
jump t = op Br 0 [] [] (t ∷ [])

abbrev pub output : ℕ → Inst
output r = op Output 0 (r ∷ 1 ∷ []) [] []

abbrev pub ret : List ℕ → Inst
ret rs = op Ret 0 rs [] []

abbrev pub stmt : Inst
stmt = op Stmt 0 [] [] []

abbrev pub suspend : Inst
suspend = op Suspend 0 [] [] []

-- ---- its blocks

-- block 0 with a constant c, n Cmps, `more` after the Cat, and the branch to t and f
abbrev pub first : ℕ → ℕ → List Inst → ℕ → ℕ → List Inst
first c n more t f = konst c ∷ alloc 2 ∷ cmps n ++ cat 0 2 0 ∷ more ++ branch t f ∷ []

-- blocks 1 and 2
abbrev pub ends : List (List Inst)
ends = (output 2 ∷ ret [] ∷ []) ∷ (ret [] ∷ []) ∷ []

-- what n Cmps, the Alloc and the Cat become in the target: registers 9 (the Ptr), then 10 and 11 in turn
abbrev pub sunk_cmps : ℕ → ℕ → ℕ → ℕ → List Inst
sunk_cmps zero d e b = []
sunk_cmps (suc n) d e b = cmp d b ∷ sunk_cmps n e d d

abbrev pub sunk : ℕ → List Inst
sunk n = alloc 9 ∷ sunk_cmps n 10 11 1 ++ cat 0 9 0 ∷ []

-- nine registers in use, r2 a Ptr and the others I64, and new ones of the types ts; 16 lent; no operands
abbrev pub nine : List ℕ → Room
nine ts = record { types = 0 ∷ 0 ∷ 1 ∷ replicate 6 0 ++ ts; registers = 16; ops = []; operands = 1 }

-- ---- rows

-- a case: the picture, and what the call gives of it
pub record Row : Type 0 where
  pub what : Picture
  pub gives : Outcome

-- the blocks as lent: each instruction's loc is its place
abbrev pub lent : List (List Inst) → Room → List ℕ → Picture
lent bs m replay = shows bs m replay (upto (length (concat bs)))

-- nothing moves
abbrev pub stays : List (List Inst) → Row
stays bs = let P = lent bs (nine []) [] in record { what = P; gives = ends_in (Done (used 0 P)) P }

abbrev pub refused : ℕ → Picture → Row
refused n P = record { what = P; gives = ends_in (Refused (refusal_of n)) P }

abbrev pub short : Picture → Row
short P = record { what = P; gives = ends_in (Short (used 0 P)) P }

-- one round, or some: the lines, and the picture then
abbrev pub moves : Picture → List (List ℕ) → Picture → Row
moves P ls Q = record { what = P; gives = record { answer = Done (used (length ls) Q); lines = ls; left = Q } }

-- the locs after n members of block 0, from place 1 on, have gone to the head of block 1; k instructions in all
abbrev pub behind : ℕ → ℕ → List ℕ
behind n k = 0 ∷ suc n ∷ range 1 n ++ range (suc (suc n)) k

-- the listing with a constant, and n Cmps: all but the Const moves, m members
abbrev pub listing_moves : ℕ → ℕ → ℕ → List ℕ → Row
listing_moves c n m replay =
    moves (lent (first c n [] 1 2 ∷ ends) (nine []) replay) ((1 ∷ 0 ∷ 1 ∷ m ∷ 12 ∷ 0 ∷ []) ∷ [])
    (shows ((konst c ∷ branch 1 2 ∷ []) ∷ (sunk n ++ output 9 ∷ ret [] ∷ []) ∷ (ret [] ∷ []) ∷ []) (nine (1 ∷ 0 ∷ 0 ∷ [])) replay (behind m 3))

-- ---- the marked cases of 01

abbrev pub marked : List Row
marked =
    listing_moves 8 6 8 []
    -- neither blocks nor instructions
    ∷ stays []
    -- the last Cmp gone; the same with block 1 in replay
    ∷ stays (first 8 5 [] 1 2 ∷ ends)
    ∷ listing_moves 8 5 7 (1 ∷ [])
    -- Ret r8 in block 2
    ∷ stays (first 8 6 [] 1 2 ∷ (output 2 ∷ ret [] ∷ []) ∷ (ret (8 ∷ []) ∷ []) ∷ [])
    -- Const 2^40, and one more
    ∷ listing_moves (2 ^ 40) 6 8 []
    ∷ stays (first (2 ^ 40 + 1) 6 [] 1 2 ∷ ends)
    -- Stmt after the Cat
    ∷ stays (first 8 6 (stmt ∷ []) 1 2 ∷ ends)
    -- both branches to 1
    ∷ stays (first 8 6 [] 1 1 ∷ ends)
    -- Cat of form 1
    ∷ stays ((konst 8 ∷ alloc 2 ∷ cmps 6 ++ cat 1 2 0 ∷ branch 1 2 ∷ []) ∷ ends)
    -- a Cat list of 34
    ∷ refused 8 (lent ((konst 8 ∷ alloc 2 ∷ cmps 6 ++ cat 0 2 34 ∷ branch 1 2 ∷ []) ∷ ends) (record { types = 0 ∷ 0 ∷ 1 ∷ replicate 6 0; registers = 16; ops = replicate 34 1; operands = 35 }) [])
    ∷ []

-- ---- what the marked cases do not tell apart

-- the listing where the Cat's list is r8, which a member writes, and r1
abbrev pub listed : ℕ → Picture
listed room = lent ((konst 8 ∷ alloc 2 ∷ cmps 6 ++ cat 0 2 2 ∷ branch 1 2 ∷ []) ∷ ends) (record { types = 0 ∷ 0 ∷ 1 ∷ replicate 6 0; registers = 16; ops = 8 ∷ 1 ∷ []; operands = room }) []

abbrev pub more : List Row
more =
    -- the target writes r2 after it reads it: the second Output is not renamed
    moves (lent (first 8 6 [] 1 2 ∷ (output 2 ∷ alloc 2 ∷ output 2 ∷ ret [] ∷ []) ∷ (ret [] ∷ []) ∷ []) (nine []) []) ((1 ∷ 0 ∷ 1 ∷ 8 ∷ 12 ∷ 0 ∷ []) ∷ [])
    (shows ((konst 8 ∷ branch 1 2 ∷ []) ∷ (sunk 6 ++ output 9 ∷ alloc 2 ∷ output 2 ∷ ret [] ∷ []) ∷ (ret [] ∷ []) ∷ []) (nine (1 ∷ 0 ∷ 0 ∷ [])) [] (behind 8 5))
    -- rule 1: a kept Output reads r8; the same by the list of a Cat into memory that is not its own
    ∷ stays (first 8 6 (output 8 ∷ []) 1 2 ∷ ends)
    ∷ (let P = lent (first 8 6 (cat 0 0 2 ∷ []) 1 2 ∷ ends) (record { types = 0 ∷ 0 ∷ 1 ∷ replicate 6 0; registers = 16; ops = 1 ∷ 8 ∷ []; operands = 3 }) [] in
    record { what = P; gives = ends_in (Done (used 0 P)) P })
    -- rule 2: r8 is live out of the target, which does not write it
    ∷ stays (first 8 6 [] 1 2 ∷ (output 2 ∷ jump 3 ∷ []) ∷ (ret [] ∷ []) ∷ (ret (8 ∷ []) ∷ []) ∷ [])
    -- rule 3: r1, which they all read, is written again: in x, and in the chain's second block
    ∷ stays (first 8 6 (konst 8 ∷ []) 1 2 ∷ ends)
    ∷ stays ((konst 8 ∷ alloc 2 ∷ cmps 6 ++ cat 0 2 0 ∷ jump 3 ∷ []) ∷ ends ++ (konst 8 ∷ branch 1 2 ∷ []) ∷ [])
    -- rule 4: a Suspend further on in the chain, past which only values would go
    ∷ stays ((konst 8 ∷ cmps 6 ++ cmp 2 1 ∷ cmp 2 2 ∷ cat 0 0 0 ∷ jump 3 ∷ []) ∷ ends ++ (suspend ∷ branch 1 2 ∷ []) ∷ [])
    -- rule 6: the Cat's memory stays, so it does
    ∷ stays ((konst (2 ^ 40 + 1) ∷ alloc 2 ∷ cmps 6 ++ cmp 8 8 ∷ cat 0 2 0 ∷ branch 1 2 ∷ []) ∷ ends)
    -- rule 6: the frame is no Temp, so the Cat stays, and seven are too few
    ∷ stays ((konst 8 ∷ op AddrOf 0 (2 ∷ []) [] [] ∷ cmps 6 ++ cmp 8 8 ∷ cat 0 2 0 ∷ branch 1 2 ∷ []) ∷ ends)
    -- the target has a second predecessor
    ∷ stays (first 8 6 [] 1 2 ∷ ends ++ (jump 1 ∷ []) ∷ [])
    -- three new registers where two are lent, and where three are
    ∷ short (lent (first 8 6 [] 1 2 ∷ ends) (record { types = 0 ∷ 0 ∷ 1 ∷ replicate 6 0; registers = 11; ops = []; operands = 0 }) [])
    ∷ moves (lent (first 8 6 [] 1 2 ∷ ends) (record { types = 0 ∷ 0 ∷ 1 ∷ replicate 6 0; registers = 12; ops = []; operands = 0 }) []) ((1 ∷ 0 ∷ 1 ∷ 8 ∷ 12 ∷ 0 ∷ []) ∷ [])
    (shows ((konst 8 ∷ branch 1 2 ∷ []) ∷ (sunk 6 ++ output 9 ∷ ret [] ∷ []) ∷ (ret [] ∷ []) ∷ []) (record { types = 0 ∷ 0 ∷ 1 ∷ replicate 6 0 ++ 1 ∷ 0 ∷ 0 ∷ []; registers = 12; ops = []; operands = 0 }) [] (behind 8 3))
    -- a changed list of two operands where one is lent, and where two are
    ∷ short (listed 3)
    ∷ moves (listed 4) ((1 ∷ 0 ∷ 1 ∷ 8 ∷ 12 ∷ 4 ∷ []) ∷ [])
    (shows ((konst 8 ∷ branch 1 2 ∷ []) ∷ (alloc 9 ∷ sunk_cmps 6 10 11 1 ++ op Cat 0 (9 ∷ 1 ∷ 1 ∷ []) (2 ∷ 2 ∷ []) (1 ∷ []) ∷ output 9 ∷ ret [] ∷ []) ∷ (ret [] ∷ []) ∷ [])
    (record { types = 0 ∷ 0 ∷ 1 ∷ replicate 6 0 ++ 1 ∷ 0 ∷ 0 ∷ []; registers = 16; ops = 8 ∷ 1 ∷ 11 ∷ 1 ∷ []; operands = 4 }) [] (behind 8 3))
    -- r8 is a Sig: its new register takes the next one as well
    ∷ moves (lent (first 8 6 [] 1 2 ∷ ends) (record { types = 0 ∷ 0 ∷ 1 ∷ replicate 5 0 ++ 4 ∷ []; registers = 16; ops = []; operands = 0 }) []) ((1 ∷ 0 ∷ 1 ∷ 8 ∷ 14 ∷ 0 ∷ []) ∷ [])
    (shows ((konst 8 ∷ branch 1 2 ∷ []) ∷ (alloc 9 ∷ sunk_cmps 5 10 11 1 ++ cmp 12 10 ∷ cat 0 9 0 ∷ output 9 ∷ ret [] ∷ []) ∷ (ret [] ∷ []) ∷ [])
    (record { types = 0 ∷ 0 ∷ 1 ∷ replicate 5 0 ++ 4 ∷ 1 ∷ 0 ∷ 0 ∷ 4 ∷ 0 ∷ []; registers = 16; ops = []; operands = 0 }) [] (behind 8 3))
    -- two rounds: block 2 is a listing of its own
    ∷ moves (lent (first 8 6 [] 1 2 ∷ (output 2 ∷ ret [] ∷ []) ∷ first 8 6 [] 3 4 ∷ ends) (nine []) []) ((1 ∷ 0 ∷ 1 ∷ 8 ∷ 12 ∷ 0 ∷ []) ∷ (2 ∷ 2 ∷ 3 ∷ 8 ∷ 15 ∷ 0 ∷ []) ∷ [])
    (shows ((konst 8 ∷ branch 1 2 ∷ []) ∷ (sunk 6 ++ output 9 ∷ ret [] ∷ []) ∷ (konst 8 ∷ branch 3 4 ∷ [])
    ∷ (alloc 12 ∷ sunk_cmps 6 13 14 1 ++ cat 0 12 0 ∷ output 12 ∷ ret [] ∷ []) ∷ (ret [] ∷ []) ∷ [])
    (nine (1 ∷ 0 ∷ 0 ∷ 1 ∷ 0 ∷ 0 ∷ [])) [] (behind 8 2 ++ 12 ∷ 21 ∷ range 13 8 ++ range 22 3))
    ∷ []

-- ---- by computation: each row's answer, lines and whole picture

-- the call with work slices that are long enough, and records enough
abbrev answered : Row → Outcome
answered w = sink w.what 1000 9000 records

pub marked_cases : map answered marked ≡ map (λ w. w.gives) marked
marked_cases = refl

pub more_cases : map answered more ≡ map (λ w. w.gives) more
more_cases = refl
