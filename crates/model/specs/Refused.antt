-- 01, "The call": each cause of refusal, at both sides of its bound, and the gates. The sizes of cause 1 and the budget are laws, in
-- proofs/Sizes. Assumes nothing.
use Rattle.std.specs.Prelude.{◌≡◌, refl, List, [], ◌∷◌, ◌++◌, map, ℕ, replicate, Ok, Err}
use Rattle.words.specs.Lists.{range}
use Rattle.model.specs.declared.Answer.TheVariants.{Done, Refused}
use Rattle.model.specs.declared.Refusal.TheVariants as cause
use Rattle.model.specs.Kinds.{AddrOf, Alloc, Bin, BoolOp, Call, CallNative, CallProt, Cat, Check, Drive, LayoutOf, LNum, Load, LogicOp, Ret, SigGather, Stmt, Store, TakeBounds, Zero}
use Rattle.model.specs.Picture.{Picture, Inst, absent}
use Rattle.model.specs.Numbered.{refusals, number_of, refusal_of, verdict}
use Rattle.model.specs.Pass.{Outcome, ends_in, used, sink}
use Rattle.model.specs.Build.{op, pad}
use Rattle.model.specs.Marked.{Row, cmp, cat, branch, jump, ret, stmt, lent, refused}
use Rattle.model.specs.Small.{in1, in2, in3, in4, held, still, shown, whole, two, answered, given}

-- accepted; there is no Cat, so nothing is tried
abbrev taken : Picture → Row
taken P = record { what = P; gives = ends_in (Done (used 0 P)) P }

-- ---- causes 1 to 3, 7 and 9: the words beside one Ret

-- bounds, words behind the record, vias, types, how many are in use, operands, how many, pairs, targets
abbrev words : List ℕ → List ℕ → List ℕ → List ℕ → ℕ → List ℕ → ℕ → List ℕ → List ℕ → Picture
words bs ws vs ts r os o ps xs =
    record { bounds = bs; recs = ret [] ++ ws; locs = 5 ∷ []; vias = vs; types = ts; regs = r; ops = os; opers = o; pairs = ps; targets = xs; replay = [] }

abbrev bounded : List ℕ → Picture
bounded bs = words bs [] [] [] 0 [] 0 [] []

abbrev beside : List ℕ → List ℕ → Picture
beside ws vs = words (0 ∷ 1 ∷ []) ws vs [] 0 [] 0 [] []

-- two registers and two operands are lent
abbrev in_use : ℕ → ℕ → Picture
in_use r o = words (0 ∷ 1 ∷ []) [] [] (7 ∷ 8 ∷ []) r (0 ∷ 1 ∷ []) o [] []

abbrev tabled : List ℕ → List ℕ → Picture
tabled ps xs = words (0 ∷ 1 ∷ []) [] [] [] 0 [] 0 ps xs

abbrev pub shapes : List Row
shapes =
    -- 1: more in use than lent
    refused 1 (in_use 3 0)
    ∷ refused 1 (in_use 1 3)
    -- 2: records not 16 words each; vias not one each, or none; odd words of blocks or case pairs
    ∷ refused 2 (beside (0 ∷ []) [])
    ∷ taken (beside [] [])
    ∷ taken (beside [] (9 ∷ []))
    ∷ refused 2 (beside [] (9 ∷ 9 ∷ []))
    ∷ refused 2 (bounded (0 ∷ 1 ∷ 1 ∷ []))
    ∷ refused 2 (tabled (0 ∷ []) (0 ∷ []))
    -- 3: no blocks; not from the first instruction on, not up to the last, past it; a gap
    ∷ refused 3 (bounded [])
    ∷ refused 3 (bounded (1 ∷ 1 ∷ []))
    ∷ refused 3 (bounded (0 ∷ 0 ∷ []))
    ∷ refused 3 (bounded (0 ∷ 2 ∷ []))
    ∷ refused 3 (bounded (0 ∷ 0 ∷ 1 ∷ 1 ∷ []))
    -- empty blocks before and behind; a block again; an end below its start
    ∷ taken (bounded (0 ∷ 0 ∷ 0 ∷ 1 ∷ 1 ∷ 1 ∷ []))
    ∷ refused 3 (bounded (0 ∷ 1 ∷ 0 ∷ 1 ∷ []))
    ∷ refused 3 (bounded (0 ∷ 1 ∷ 1 ∷ 0 ∷ 0 ∷ 1 ∷ []))
    -- 6: an operand in use, in no list, that is no register; one that is not in use
    ∷ refused 6 (in_use 1 2)
    ∷ taken (in_use 1 1)
    ∷ refused 6 (in_use 0 1)
    -- 7: a case target that is no block, in a pair or in none; an empty pair; a pair past its targets; up to the last
    ∷ refused 7 (tabled (0 ∷ 1 ∷ []) (1 ∷ []))
    ∷ refused 7 (tabled [] (1 ∷ []))
    ∷ refused 7 (tabled (0 ∷ 0 ∷ []) (0 ∷ []))
    ∷ refused 7 (tabled (0 ∷ 1 ∷ 1 ∷ 1 ∷ []) (0 ∷ []))
    ∷ taken (tabled (0 ∷ 1 ∷ 0 ∷ 1 ∷ []) (0 ∷ []))
    -- 9: a type above 7, in use; the row `in_use 1 1` has one that is not
    ∷ refused 9 (in_use 2 2)
    ∷ []

pub shapes_cases : map answered shapes ≡ map given shapes
shapes_cases = refl

-- ---- causes 4 to 8: one instruction before a Ret; 4 registers in use, 40 operands, all r0

abbrev alone : Inst → Picture
alone i = lent ((i ∷ ret [] ∷ []) ∷ []) (record { types = replicate 4 0; registers = 4; ops = replicate 40 0; operands = 40 }) []

abbrev no : ℕ → Inst → Row
no n i = refused n (alone i)

abbrev yes : Inst → Row
yes i = taken (alone i)

-- a record of any kind and form without registers
abbrev blank : ℕ → ℕ → Inst
blank k f = k ∷ f ∷ pad 5 absent [] ++ pad 9 0 []

-- a Cat with its list and `scalars`
abbrev cat_with : ℕ → ℕ → ℕ → ℕ → Inst
cat_with f s n sc = op Cat f (0 ∷ 0 ∷ 0 ∷ []) (s ∷ n ∷ []) (sc ∷ [])

abbrev pub codes : List Row
codes =
    -- 4: kinds up to 100
    yes stmt
    ∷ no 4 (blank 101 0)
    -- the greatest form of each kind that has some, and one more; Load and Store have no form 0
    ∷ no 4 (blank 100 1)
    ∷ yes (in1 AddrOf 5 0)
    ∷ no 4 (in1 AddrOf 6 0)
    ∷ yes (in3 Bin 4 0 0 0)
    ∷ no 4 (in3 Bin 5 0 0 0)
    ∷ no 4 (in2 Load 0 0 0)
    ∷ yes (in2 Load 4 0 0)
    ∷ no 4 (in2 Load 5 0 0)
    ∷ no 4 (in2 Store 0 0 0)
    ∷ yes (in2 Store 4 0 0)
    ∷ no 4 (in2 Store 5 0 0)
    ∷ yes (in3 Check 4 0 0 0)
    ∷ no 4 (in3 Check 5 0 0 0)
    ∷ no 4 (in3 BoolOp 2 0 0 0)
    ∷ no 4 (in4 LogicOp 2 0 0 0 0)
    ∷ no 4 (in4 LNum 2 0 0 0 0)
    ∷ no 4 (cat_with 2 0 0 0)
    ∷ yes (in2 LayoutOf 1 0 0)
    ∷ no 4 (in2 LayoutOf 2 0 0)
    ∷ yes (in1 CallNative 2 0)
    ∷ no 4 (in1 CallNative 3 0)
    ∷ no 4 (in1 Call 2 0)
    ∷ no 4 (in1 CallProt 2 0)
    -- `scalars`
    ∷ yes (cat_with 0 0 0 65535)
    ∷ no 4 (cat_with 0 0 0 65536)
    -- 5: registers below R, read, written, and where they may be absent
    ∷ yes (in2 Alloc 0 3 3)
    ∷ no 5 (in2 Alloc 0 4 3)
    ∷ no 5 (in2 Alloc 0 3 4)
    ∷ yes (in1 Call 0 3)
    ∷ no 5 (in1 Call 0 4)
    ∷ yes (in1 Ret 0 3)
    ∷ no 5 (in1 Ret 0 4)
    -- wrongly absent, wrongly present
    ∷ no 5 (in1 Alloc 0 3)
    ∷ no 5 (in3 Alloc 0 3 3 3)
    ∷ no 5 (op Stmt 0 (absent ∷ absent ∷ absent ∷ absent ∷ 0 ∷ []) [] [])
    -- what the form switches off
    ∷ yes (in2 BoolOp 1 0 0)
    ∷ no 5 (in3 BoolOp 1 0 0 0)
    ∷ no 5 (in2 BoolOp 0 0 0)
    ∷ yes (in1 Check 1 0)
    ∷ no 5 (in2 Check 1 0 0)
    ∷ no 5 (in3 Check 0 0 0 0)
    ∷ no 5 (in2 Check 2 0 0)
    -- SigGather has both or neither of its part registers; Drive's first register and its last may be absent
    ∷ yes (in4 SigGather 0 0 0 0 0)
    ∷ yes (in2 SigGather 0 0 0)
    ∷ no 5 (in3 SigGather 0 0 0 0)
    ∷ no 5 (in4 SigGather 0 0 0 absent 0)
    ∷ yes (in4 Drive 0 0 0 0 0)
    ∷ yes (in3 Drive 0 absent 0 0)
    ∷ no 5 (in3 Drive 0 0 absent 0)
    -- 6: a list on a kind without one; a list past the operands in use, an empty one too
    ∷ no 6 (op Zero 0 (0 ∷ []) (0 ∷ 1 ∷ []) [])
    ∷ no 6 (op Zero 0 (0 ∷ []) (1 ∷ 0 ∷ []) [])
    ∷ yes (cat_with 0 7 33 0)
    ∷ no 6 (cat_with 0 8 33 0)
    ∷ yes (cat_with 1 40 0 0)
    ∷ no 6 (cat_with 0 41 0 0)
    -- 7: a branch to no block, wherever it stands
    ∷ yes (jump 0)
    ∷ no 7 (jump 1)
    ∷ no 7 (branch 1 0)
    ∷ no 7 (branch 0 1)
    -- 8: a Cat list over 33, of either form
    ∷ no 8 (cat_with 0 0 34 0)
    ∷ no 8 (cat_with 1 0 34 0)
    ∷ yes (op Call 0 [] (0 ∷ 34 ∷ []) [])
    -- request 2026-11: what writes more than one register is taken
    ∷ yes (in3 TakeBounds 0 0 1 2)
    ∷ []

pub codes_cases : map answered codes ≡ map given codes
codes_cases = refl

-- ---- cause 10: the work slices for one block and 65 registers lent, of which none is in use, and the records

abbrev roomy : Picture
roomy = words (0 ∷ 1 ∷ []) [] [] (replicate 65 0) 0 [] 0 [] []

abbrev pub works : List Outcome
works = sink roomy 138 8536 800 ∷ sink roomy 137 8536 800 ∷ sink roomy 138 8535 800 ∷ sink roomy 138 8536 799 ∷ []

pub works_cases : works ≡ ends_in (Done (used 0 roomy)) roomy ∷ ends_in (Refused cause.Work) roomy ∷ ends_in (Refused cause.Work) roomy ∷ ends_in (Refused cause.Work) roomy ∷ []
works_cases = refl

-- ---- the gates: three Cmps with replay, which would move

abbrev gate : List Inst → Row
gate is = still (whole (cmp 3 1 ∷ two) ∷ shown 3 ∷ (is ++ ret [] ∷ []) ∷ [])

abbrev pub gates : List Row
gates =
    -- no Cat; a Cat of form 1; refusals come before gates
    gate []
    ∷ gate (cat 1 0 0 ∷ [])
    ∷ refused 5 (held (whole (cmp 3 9 ∷ two) ∷ shown 3 ∷ (ret [] ∷ []) ∷ []))
    ∷ []

pub gates_cases : map answered gates ≡ map given gates
gates_cases = refl

-- ---- the causes by name: each one's number, and back; and what acceptance answers

pub number_cases : map number_of refusals ≡ range 1 10
number_cases = refl

pub cause_cases : map refusal_of (range 1 10) ≡ refusals
cause_cases = refl

pub verdict_cases : map verdict (0 ∷ 1 ∷ 7 ∷ 10 ∷ []) ≡ Ok tt ∷ Err cause.Large ∷ Err cause.Branch ∷ Err cause.Work ∷ []
verdict_cases = refl
