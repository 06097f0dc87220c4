-- 01, "The move": new registers, which are held until their last reader, and what is renamed in the target. Assumes nothing.
use Rattle.std.specs.Prelude.{◌≡◌, refl, List, [], ◌∷◌, ◌++◌, map, ℕ, replicate}
use Rattle.model.specs.Kinds.{Call, Index}
use Rattle.model.specs.Picture.{Picture, Inst}
use Rattle.model.specs.Build.{op, Room, shows}
use Rattle.model.specs.Marked.{Row, konst, cmp, branch, output, ret, lent, moves}
use Rattle.model.specs.Small.{in3, pool, load, Step, keep, send, once, other, whole, steps, two, two_to, answered, given}

-- a round with n new registers; the target before and after
abbrev into : ℕ → List Step → List Inst → List Inst → Row
into n ss t t' = once n (steps ss) (t ∷ other ∷ []) t' (other ∷ [])

-- Cmps into r3, r4 and r5, which become these
abbrev three_as : ℕ → ℕ → ℕ → List Step
three_as a b c = send (cmp 3 1) (cmp a 1) ∷ send (cmp 4 1) (cmp b 1) ∷ send (cmp 5 1) (cmp c 1) ∷ []

-- nine registers in use and one new one where the list of operands is given; 6 operands lent
abbrev listed : List ℕ → List ℕ → Room
listed ts os = record { types = replicate 9 0 ++ ts; registers = 12; ops = os; operands = 6 }

-- a Call with two operands from s on
abbrev call : ℕ → Inst
call s = op Call 0 [] (s ∷ 2 ∷ []) []

-- three Cmps into r3, then the target; its list is r3, r1
abbrev by_list : List Inst → Picture
by_list t = lent (whole (cmp 3 1 ∷ two) ∷ t ∷ other ∷ []) (listed [] (3 ∷ 1 ∷ [])) (1 ∷ [])

-- block 0 and the target's head after it
abbrev sunk_three : List Inst → List (List Inst)
sunk_three t = (konst 8 ∷ branch 1 2 ∷ []) ∷ (cmp 9 1 ∷ cmp 9 1 ∷ cmp 9 1 ∷ t) ∷ other ∷ []

abbrev pub moved : List Row
moved =
    -- a value that nobody reads is free at the next member: one register for three
    into 1 (three_as 9 9 9) (ret [] ∷ []) (ret [] ∷ [])
    -- one that the target reads is held
    ∷ into 2 (three_as 9 10 10) (output 3 ∷ ret [] ∷ []) (output 9 ∷ ret [] ∷ [])
    -- also if it reads it by a later instruction, behind another's write
    ∷ into 2 (three_as 9 10 10) (cmp 6 1 ∷ output 3 ∷ ret [] ∷ []) (cmp 6 1 ∷ output 9 ∷ ret [] ∷ [])
    -- not if it writes it before it reads it
    ∷ into 1 (three_as 9 9 9) (cmp 3 1 ∷ output 3 ∷ ret [] ∷ []) (cmp 3 1 ∷ output 3 ∷ ret [] ∷ [])
    -- the target's instruction reads and writes r3: the read is renamed, and nothing after it
    ∷ into 2 (three_as 9 10 10) (in3 Index 0 3 3 1 ∷ output 3 ∷ ret [] ∷ []) (in3 Index 0 3 9 1 ∷ output 3 ∷ ret [] ∷ [])
    -- a member that reads and writes one register: the read is the member before's, the write its own
    ∷ into 2 (send (cmp 3 1) (cmp 9 1) ∷ send (cmp 3 3) (cmp 10 9) ∷ send (cmp 3 3) (cmp 9 10) ∷ []) (output 3 ∷ ret [] ∷ []) (output 9 ∷ ret [] ∷ [])
    -- what a member reads from a kept position keeps its name
    ∷ into 1 (keep pool ∷ send (load 3 4) (load 9 4) ∷ two_to 9) (output 3 ∷ output 4 ∷ ret [] ∷ []) (output 9 ∷ output 4 ∷ ret [] ∷ [])
    -- the target reads r3 by a list: the changed list is appended; behind its own write of r3 the list stays where it is
    ∷ moves (by_list (call 0 ∷ ret [] ∷ [])) ((1 ∷ 0 ∷ 1 ∷ 3 ∷ 10 ∷ 4 ∷ []) ∷ [])
    (shows (sunk_three (call 2 ∷ ret [] ∷ [])) (listed (0 ∷ []) (3 ∷ 1 ∷ 9 ∷ 1 ∷ [])) (1 ∷ []) (0 ∷ 4 ∷ 1 ∷ 2 ∷ 3 ∷ 5 ∷ 6 ∷ 7 ∷ 8 ∷ []))
    ∷ moves (by_list (cmp 3 1 ∷ call 0 ∷ ret [] ∷ [])) ((1 ∷ 0 ∷ 1 ∷ 3 ∷ 10 ∷ 2 ∷ []) ∷ [])
    (shows (sunk_three (cmp 3 1 ∷ call 0 ∷ ret [] ∷ [])) (listed (0 ∷ []) (3 ∷ 1 ∷ [])) (1 ∷ []) (0 ∷ 4 ∷ 1 ∷ 2 ∷ 3 ∷ 5 ∷ 6 ∷ 7 ∷ 8 ∷ 9 ∷ []))
    ∷ []

pub moved_cases : map answered moved ≡ map given moved
moved_cases = refl
