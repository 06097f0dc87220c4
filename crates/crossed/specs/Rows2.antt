-- Pictures by seed and what the Rust makes of them (see proofs/Crossed), page 2: of the first 4000 seeds of the generator, those that show
-- something new. Printed by
-- `compare crossed` in tests/rust, and again by its compare.sh: not to be edited. Assumes nothing.
use Rattle.std.specs.Prelude.{List, [], ◌∷◌, ◌++◌, replicate}
use Rattle.words.specs.Lists.{range, upto}
use Rattle.model.specs.Kinds.{AddrOf, Alloc, Bin, BinRange, BoolOp, BoundsLen, Br, Call, CallIndirect, CallNative}
use Rattle.model.specs.Kinds.{CallProt, Case, Cat, Check, Cmp, CondBr, Const, ConstF, Cover, Deref}
use Rattle.model.specs.Kinds.{DopeLen, Edge, FBin, FCheck, FCmp, Field, Fill, IToF, Index, LGet}
use Rattle.model.specs.Kinds.{LayoutOf, Load, LogicOp, MakeDope, Move, Now, Output, Pos, Report, Ret}
use Rattle.model.specs.Kinds.{Select, SigRead, SigReadScalar, SigVal, Store, Un, Unreachable, WaitAt, WaitOn}
use Rattle.model.specs.Picture.{absent}
use Rattle.model.specs.Build.{op}
use Rattle.crossed.specs.Row.{Row, pic, at, registers, operands, beside, op0, op1, op2, op3, op4, op5, br, fork, const, moves, stays, done, short}

-- seed 40: done 0, rule 1 decides, rule 3 decides
abbrev pub s40 : Row
s40 =
    stays (pic ((const 6 6 ∷ op AddrOf 4 (7 ∷ []) [] [] ∷ op3 FCmp 4 6 6 ∷ op2 Alloc 3 4 ∷ op CallNative 1 [] (0 ∷ 1
    ∷ []) (6 ∷ 7 ∷ 1 ∷ 2 ∷ 7 ∷ 3 ∷ 1 ∷ []) ∷ op3 Cmp 2 6 3 ∷ op4 Select 5 4 2 2 ∷ op Bin 3 (3 ∷ 4 ∷ 5 ∷ []) [] []
    ∷ op2 Alloc 3 4 ∷ op Check 3 (2 ∷ 4 ∷ 2 ∷ []) [] [] ∷ op Move 0 (2 ∷ 2 ∷ []) [] (8 ∷ 1 ∷ 3 ∷ 3 ∷ 5 ∷ 1 ∷ 7 ∷ [])
    ∷ op Cat 0 (3 ∷ 4 ∷ 2 ∷ []) (1 ∷ 2 ∷ []) [] ∷ op Un 0 (1 ∷ 1 ∷ []) [] (0 ∷ 8 ∷ 1 ∷ 1 ∷ 7 ∷ 7 ∷ 8 ∷ []) ∷ br 2
    ∷ []) ∷ (br 4 ∷ []) ∷ (br 1 ∷ []) ∷ [] ∷ (op Const 0 (0 ∷ []) [] (2772615943 ∷ 1375296890 ∷ []) ∷ fork 0 5 3 ∷ [])
    ∷ (op Store 3 (6 ∷ 4 ∷ []) [] [] ∷ const 2 5 ∷ op Report 0 (4 ∷ 3 ∷ 6 ∷ []) [] (2 ∷ 4 ∷ 2 ∷ 5 ∷ 7 ∷ 5 ∷ 6 ∷ [])
    ∷ op0 Unreachable ∷ []) ∷ []) (at (upto 22) []) (registers 8 (0 ∷ 0 ∷ 1 ∷ 0 ∷ 7 ∷ 7 ∷ 0 ∷ 4 ∷ [])) (operands 3 (4
    ∷ 3 ∷ 1 ∷ [])) (beside [] [] (9 ∷ 9 ∷ []))) 40 8160 800 (done 0 8 3)

-- seed 46: chain of 5, done 1, moves with replay, moves with vias, new list, rule 2 decides, target after x, target
-- f, target renamed, target's list renamed
abbrev pub s46 : Row
s46 =
    moves (pic ((const 9 20 ∷ op3 Cmp 5 9 9 ∷ op2 Alloc 2 9 ∷ op SigReadScalar 0 (7 ∷ 2 ∷ []) [] (3 ∷ 6 ∷ 4 ∷ 6 ∷ 8
    ∷ 7 ∷ 5 ∷ []) ∷ op Cat 0 (2 ∷ 9 ∷ 9 ∷ []) [] (42791 ∷ 8 ∷ 8 ∷ 4 ∷ 3 ∷ 4 ∷ 7 ∷ []) ∷ br 1 ∷ []) ∷ (br 2 ∷ [])
    ∷ (br 3 ∷ []) ∷ (br 4 ∷ []) ∷ (fork 9 8 5 ∷ []) ∷ (op CallIndirect 0 (7 ∷ []) (0 ∷ 3 ∷ []) [] ∷ fork 1 6 7 ∷ [])
    ∷ (op2 Output 0 0 ∷ op Ret 0 [] [] (2 ∷ 6 ∷ 3 ∷ 7 ∷ 3 ∷ 4 ∷ 7 ∷ []) ∷ []) ∷ [] ∷ (op0 Unreachable ∷ []) ∷ []) (at
    (upto 15) (46 ∷ 32 ∷ 0 ∷ 26 ∷ 40 ∷ 0 ∷ 5 ∷ replicate 5 0 ++ 9 ∷ 0 ∷ 0 ∷ [])) (registers 10 (0 ∷ 0 ∷ 1 ∷ 1 ∷ 0 ∷ 0
    ∷ 0 ∷ 2 ∷ 2 ∷ 2 ∷ 77 ∷ 7 ∷ 9 ∷ [])) (operands 3 (2 ∷ 0 ∷ 7 ∷ 0 ∷ 0 ∷ 999 ∷ absent ∷ [])) (beside [] [] (7 ∷ 8
    ∷ []))) 62 8248 800 (done 1 13 6) ((1 ∷ 0 ∷ 5 ∷ 4 ∷ 13 ∷ 6 ∷ []) ∷ [])
    (pic ((const 9 20 ∷ br 1 ∷ []) ∷ (br 2 ∷ []) ∷ (br 3 ∷ []) ∷ (br 4 ∷ []) ∷ (fork 9 8 5 ∷ []) ∷ (op3 Cmp 10 9 9
    ∷ op2 Alloc 11 9 ∷ op SigReadScalar 0 (12 ∷ 11 ∷ []) [] (3 ∷ 6 ∷ 4 ∷ 6 ∷ 8 ∷ 7 ∷ 5 ∷ []) ∷ op Cat 0 (11 ∷ 9 ∷ 9
    ∷ []) [] (42791 ∷ 8 ∷ 8 ∷ 4 ∷ 3 ∷ 4 ∷ 7 ∷ []) ∷ op CallIndirect 0 (12 ∷ []) (3 ∷ 3 ∷ []) [] ∷ fork 1 6 7 ∷ [])
    ∷ (op2 Output 0 0 ∷ op Ret 0 [] [] (2 ∷ 6 ∷ 3 ∷ 7 ∷ 3 ∷ 4 ∷ 7 ∷ []) ∷ []) ∷ [] ∷ (op0 Unreachable ∷ []) ∷ []) (at
    (0 ∷ range 5 5 ++ 1 ∷ 2 ∷ 3 ∷ 4 ∷ range 10 5) (46 ∷ 0 ∷ 5 ∷ 0 ∷ 0 ∷ 0 ∷ 32 ∷ 0 ∷ 26 ∷ 40 ∷ 0 ∷ 0 ∷ 9 ∷ 0 ∷ 0
    ∷ [])) (registers 13 (0 ∷ 0 ∷ 1 ∷ 1 ∷ 0 ∷ 0 ∷ 0 ∷ 2 ∷ 2 ∷ 2 ∷ 0 ∷ 1 ∷ 2 ∷ [])) (operands 6 (2 ∷ 0 ∷ 7 ∷ 11 ∷ 0
    ∷ 12 ∷ absent ∷ [])) (beside [] [] (7 ∷ 8 ∷ [])))

-- seed 47: chain of 1, done 2, moves with replay, moves without vias, new list, target after x, target t
abbrev pub s47 : Row
s47 =
    moves (pic ((const 8 14 ∷ op2 Alloc 3 8 ∷ op Cat 0 (3 ∷ 8 ∷ 8 ∷ []) (1 ∷ 4 ∷ []) [] ∷ op2 Move 4 3
    ∷ op4 BoundsLen 7 8 8 3 ∷ op CondBr 0 (1 ∷ []) [] (2 ∷ 1 ∷ 1 ∷ 0 ∷ 6 ∷ 8 ∷ 3 ∷ []) ∷ []) ∷ (op0 Ret ∷ [])
    ∷ (fork 1 4 5 ∷ []) ∷ (op3 Cat 8 8 8 ∷ []) ∷ (op2 Output 1 1 ∷ op Output 0 (1 ∷ 1 ∷ []) [] (8 ∷ 3 ∷ 1 ∷ 2 ∷ 8 ∷ 6
    ∷ 8 ∷ []) ∷ op Case 0 (1 ∷ []) [] (98 ∷ 5 ∷ 7 ∷ 2 ∷ 0 ∷ 4 ∷ 1 ∷ []) ∷ []) ∷ (op3 Field 1 1 0 ∷ []) ∷ []) (at
    (upto 13) []) (registers 9 (1 ∷ 0 ∷ 1 ∷ 0 ∷ 5 ∷ 4 ∷ 5 ∷ 0 ∷ 4 ∷ 7 ∷ 7 ∷ 9 ∷ 77 ∷ 7 ∷ 7 ∷ 7 ∷ [])) (operands 5 (2
    ∷ 3 ∷ 8 ∷ 3 ∷ 8 ∷ 999 ∷ 0 ∷ 0 ∷ 999 ∷ absent ∷ absent ∷ 999 ∷ 0 ∷ absent ∷ [])) (beside [] [] (4 ∷ 2
    ∷ []))) 56 8224 800 (done 2 15 13) ((1 ∷ 0 ∷ 2 ∷ 4 ∷ 12 ∷ 9 ∷ []) ∷ (2 ∷ 2 ∷ 4 ∷ 4 ∷ 15 ∷ 13 ∷ []) ∷ [])
    (pic ((const 8 14 ∷ op CondBr 0 (1 ∷ []) [] (2 ∷ 1 ∷ 1 ∷ 0 ∷ 6 ∷ 8 ∷ 3 ∷ []) ∷ []) ∷ (op0 Ret ∷ []) ∷ (fork 1 4 5
    ∷ []) ∷ (op3 Cat 8 8 8 ∷ []) ∷ (op2 Alloc 12 8 ∷ op Cat 0 (12 ∷ 8 ∷ 8 ∷ []) (9 ∷ 4 ∷ []) [] ∷ op2 Move 13 12
    ∷ op4 BoundsLen 14 8 8 12 ∷ op2 Output 1 1 ∷ op Output 0 (1 ∷ 1 ∷ []) [] (8 ∷ 3 ∷ 1 ∷ 2 ∷ 8 ∷ 6 ∷ 8 ∷ [])
    ∷ op Case 0 (1 ∷ []) [] (98 ∷ 5 ∷ 7 ∷ 2 ∷ 0 ∷ 4 ∷ 1 ∷ []) ∷ []) ∷ (op3 Field 1 1 0 ∷ []) ∷ []) (at (0 ∷ 5 ∷ 6 ∷ 7
    ∷ 8 ∷ 1 ∷ 2 ∷ 3 ∷ 4 ∷ 9 ∷ 10 ∷ 11 ∷ 12 ∷ []) []) (registers 15 (1 ∷ 0 ∷ 1 ∷ 0 ∷ 5 ∷ 4 ∷ 5 ∷ 0 ∷ 4 ∷ 0 ∷ 5 ∷ 0 ∷ 0
    ∷ 5 ∷ 0 ∷ 7 ∷ [])) (operands 13 (2 ∷ 3 ∷ 8 ∷ 3 ∷ 8 ∷ 9 ∷ 8 ∷ 9 ∷ 8 ∷ 12 ∷ 8 ∷ 12 ∷ 8 ∷ absent ∷ [])) (beside [] []
    (4 ∷ 2 ∷ [])))

-- seed 50: chain of 1, moves with replay, moves without vias, new list, short 1, short by a register, target after x,
-- target t
abbrev pub s50 : Row
s50 =
    moves (pic ((const 6 52 ∷ op AddrOf 5 (7 ∷ []) [] (8 ∷ 4 ∷ 6 ∷ 2 ∷ 2 ∷ 4 ∷ []) ∷ op1 WaitAt 0 ∷ op3 Cmp 4 6 6
    ∷ op2 SigReadScalar 2 4 ∷ op2 Alloc 5 4 ∷ op Cat 0 (5 ∷ 4 ∷ 4 ∷ []) (0 ∷ 2 ∷ []) [] ∷ fork 0 1 2 ∷ [])
    ∷ (op CondBr 0 (6 ∷ []) [] (3 ∷ 5 ∷ 0 ∷ 7 ∷ 2 ∷ 2 ∷ 1 ∷ []) ∷ []) ∷ (op0 Ret ∷ []) ∷ (op2 Output 1 1 ∷ [])
    ∷ (op3 Cat 0 0 0 ∷ []) ∷ (op1 Now 1 ∷ op Ret 0 [] [] (2 ∷ 6 ∷ 8 ∷ 6 ∷ 0 ∷ 3 ∷ 3 ∷ []) ∷ []) ∷ []) (at
    (upto 14) []) (registers 8 (0 ∷ 1 ∷ 0 ∷ 4 ∷ 1 ∷ 1 ∷ 0 ∷ 0 ∷ 77 ∷ 77 ∷ 7 ∷ 7 ∷ 77 ∷ [])) (operands 2 (5 ∷ 2
    ∷ absent ∷ 999 ∷ 999 ∷ 999 ∷ [])) (beside [] [] (3 ∷ 1 ∷ []))) 50 8200 800 (short 1 11 4) ((1 ∷ 0 ∷ 1 ∷ 4 ∷ 11 ∷ 4
    ∷ []) ∷ [])
    (pic ((const 6 52 ∷ op AddrOf 5 (7 ∷ []) [] (8 ∷ 4 ∷ 6 ∷ 2 ∷ 2 ∷ 4 ∷ []) ∷ op1 WaitAt 0 ∷ fork 0 1 2 ∷ [])
    ∷ (op3 Cmp 8 6 6 ∷ op2 SigReadScalar 9 8 ∷ op2 Alloc 10 8 ∷ op Cat 0 (10 ∷ 8 ∷ 8 ∷ []) (2 ∷ 2 ∷ []) []
    ∷ op CondBr 0 (6 ∷ []) [] (3 ∷ 5 ∷ 0 ∷ 7 ∷ 2 ∷ 2 ∷ 1 ∷ []) ∷ []) ∷ (op0 Ret ∷ []) ∷ (op2 Output 1 1 ∷ [])
    ∷ (op3 Cat 0 0 0 ∷ []) ∷ (op1 Now 1 ∷ op Ret 0 [] [] (2 ∷ 6 ∷ 8 ∷ 6 ∷ 0 ∷ 3 ∷ 3 ∷ []) ∷ []) ∷ []) (at (0 ∷ 1 ∷ 2
    ∷ 7 ∷ 3 ∷ 4 ∷ 5 ∷ 6 ∷ range 8 6) []) (registers 11 (0 ∷ 1 ∷ 0 ∷ 4 ∷ 1 ∷ 1 ∷ 0 ∷ 0 ∷ 1 ∷ 0 ∷ 1 ∷ 7 ∷ 77 ∷ []))
    (operands 4 (5 ∷ 2 ∷ 10 ∷ 9 ∷ 999 ∷ 999 ∷ [])) (beside [] [] (3 ∷ 1 ∷ [])))

-- seed 51: a register reused, chain of 2, moves with replay, moves without vias, new Sig, new list, rule 1 decides,
-- rule 2 decides, short 1, short by a register, target after x, target f, target renamed
abbrev pub s51 : Row
s51 =
    moves (pic ((const 7 51 ∷ op AddrOf 1 (8 ∷ []) [] [] ∷ op Bin 0 (0 ∷ 1 ∷ 7 ∷ []) [] (0 ∷ 0 ∷ 7 ∷ 0 ∷ 1 ∷ 4 ∷ 4
    ∷ []) ∷ op2 Alloc 6 7 ∷ op Cat 0 (6 ∷ 7 ∷ 7 ∷ []) (0 ∷ 2 ∷ []) (0 ∷ 6 ∷ 0 ∷ 8 ∷ 5 ∷ 5 ∷ 2 ∷ []) ∷ op2 Move 4 7
    ∷ op Bin 1 (2 ∷ 4 ∷ 7 ∷ []) [] [] ∷ op3 Index 3 6 4 ∷ op Load 3 (5 ∷ 6 ∷ []) [] [] ∷ op2 LayoutOf 4 3 ∷ op Cat 0
    (3 ∷ 2 ∷ 7 ∷ []) (3 ∷ []) [] ∷ op2 DopeLen 2 3 ∷ br 3 ∷ []) ∷ (op AddrOf 4 (1 ∷ []) [] [] ∷ op2 Move 0 2
    ∷ fork 1 4 2 ∷ []) ∷ [] ∷ (fork 1 5 1 ∷ []) ∷ (op2 Deref 1 1 ∷ []) ∷ (op0 Ret ∷ []) ∷ []) (at (upto 19) [])
    (registers 9 (6 ∷ 0 ∷ 1 ∷ 2 ∷ 2 ∷ 6 ∷ 4 ∷ 0 ∷ 6 ∷ 9 ∷ 77 ∷ 7 ∷ 77 ∷ 77 ∷ 9 ∷ 9 ∷ 9 ∷ 9 ∷ 77 ∷ 7 ∷ [])) (operands 3
    (6 ∷ 6 ∷ 3 ∷ absent ∷ 0 ∷ absent ∷ 0 ∷ [])) (beside [] [] (9 ∷ 9 ∷ []))) 64 8256 800 (short 1 15 5) ((1 ∷ 0 ∷ 1
    ∷ 9 ∷ 15 ∷ 5 ∷ []) ∷ [])
    (pic ((const 7 51 ∷ op AddrOf 1 (8 ∷ []) [] [] ∷ op Bin 0 (0 ∷ 1 ∷ 7 ∷ []) [] (0 ∷ 0 ∷ 7 ∷ 0 ∷ 1 ∷ 4 ∷ 4 ∷ [])
    ∷ br 3 ∷ []) ∷ (op2 Alloc 9 7 ∷ op Cat 0 (9 ∷ 7 ∷ 7 ∷ []) (3 ∷ 2 ∷ []) (0 ∷ 6 ∷ 0 ∷ 8 ∷ 5 ∷ 5 ∷ 2 ∷ [])
    ∷ op2 Move 11 7 ∷ op Bin 1 (12 ∷ 11 ∷ 7 ∷ []) [] [] ∷ op3 Index 13 9 11 ∷ op Load 3 (14 ∷ 9 ∷ []) [] []
    ∷ op2 LayoutOf 11 13 ∷ op Cat 0 (13 ∷ 12 ∷ 7 ∷ []) (3 ∷ []) [] ∷ op2 DopeLen 12 13 ∷ op AddrOf 4 (1 ∷ []) [] []
    ∷ op2 Move 0 12 ∷ fork 1 4 2 ∷ []) ∷ [] ∷ (fork 1 5 1 ∷ []) ∷ (op2 Deref 1 1 ∷ []) ∷ (op0 Ret ∷ []) ∷ []) (at (0
    ∷ 1 ∷ 2 ∷ 12 ∷ range 3 9 ++ range 13 6) []) (registers 15 (6 ∷ 0 ∷ 1 ∷ 2 ∷ 2 ∷ 6 ∷ 4 ∷ 0 ∷ 6 ∷ 4 ∷ 0 ∷ 2 ∷ 1 ∷ 2
    ∷ 6 ∷ 9 ∷ 9 ∷ 9 ∷ 77 ∷ 7 ∷ [])) (operands 5 (6 ∷ 6 ∷ 3 ∷ 9 ∷ 9 ∷ absent ∷ 0 ∷ [])) (beside [] [] (9 ∷ 9 ∷ [])))

-- seed 54: 7 members are too few, a register reused, chain of 1, done 1, moves without replay, moves without vias,
-- new Sig, new list, rule 2 decides, target after x, target f, target renamed
abbrev pub s54 : Row
s54 =
    moves (pic ((op1 Const 6 ∷ op AddrOf 2 (7 ∷ []) [] [] ∷ br 1 ∷ []) ∷ (op5 BinRange 0 1 1 6 0 ∷ op2 LayoutOf 4 7
    ∷ op2 Alloc 4 6 ∷ op Alloc 0 (5 ∷ 6 ∷ []) [] (5 ∷ 0 ∷ 2 ∷ 7 ∷ 0 ∷ 7 ∷ 7 ∷ []) ∷ op MakeDope 0 (5 ∷ []) (0 ∷ 3
    ∷ []) [] ∷ op Cat 0 (5 ∷ 6 ∷ 6 ∷ []) (3 ∷ []) (9667 ∷ []) ∷ op Alloc 0 (3 ∷ 6 ∷ []) [] (6 ∷ 3 ∷ 3 ∷ 5 ∷ 7 ∷ 6 ∷ 6
    ∷ []) ∷ op3 SigVal 2 6 6 ∷ op Cat 1 (3 ∷ 6 ∷ 6 ∷ []) (3 ∷ 4 ∷ []) [] ∷ fork 1 2 3 ∷ []) ∷ (op ConstF 0 (1 ∷ []) []
    (474650526 ∷ 750683073 ∷ []) ∷ op Ret 0 [] [] (7 ∷ 4 ∷ 8 ∷ 3 ∷ 3 ∷ 0 ∷ 6 ∷ []) ∷ []) ∷ (op Bin 4 (0 ∷ 6 ∷ 4
    ∷ []) [] [] ∷ op Case 0 (6 ∷ []) [] (97 ∷ []) ∷ []) ∷ []) (at (upto 17) []) (registers 8 (1 ∷ 0 ∷ 4 ∷ 1 ∷ 0 ∷ 0
    ∷ 0 ∷ 1 ∷ 77 ∷ 9 ∷ 77 ∷ 9 ∷ 9 ∷ [])) (operands 7 (5 ∷ 4 ∷ 5 ∷ 5 ∷ 6 ∷ 3 ∷ 4 ∷ 0 ∷ 0 ∷ 999 ∷ 999 ∷ 999 ∷ 999
    ∷ absent ∷ [])) (beside [] [] [])) 42 8168 800 (done 1 13 14) ((1 ∷ 1 ∷ 3 ∷ 8 ∷ 13 ∷ 14 ∷ []) ∷ [])
    (pic ((op1 Const 6 ∷ op AddrOf 2 (7 ∷ []) [] [] ∷ br 1 ∷ []) ∷ (op5 BinRange 0 1 1 6 0 ∷ fork 1 2 3 ∷ [])
    ∷ (op ConstF 0 (1 ∷ []) [] (474650526 ∷ 750683073 ∷ []) ∷ op Ret 0 [] [] (7 ∷ 4 ∷ 8 ∷ 3 ∷ 3 ∷ 0 ∷ 6 ∷ []) ∷ [])
    ∷ (op2 LayoutOf 8 7 ∷ op2 Alloc 8 6 ∷ op Alloc 0 (9 ∷ 6 ∷ []) [] (5 ∷ 0 ∷ 2 ∷ 7 ∷ 0 ∷ 7 ∷ 7 ∷ []) ∷ op MakeDope 0
    (9 ∷ []) (7 ∷ 3 ∷ []) [] ∷ op Cat 0 (9 ∷ 6 ∷ 6 ∷ []) (3 ∷ []) (9667 ∷ []) ∷ op Alloc 0 (10 ∷ 6 ∷ []) [] (6 ∷ 3 ∷ 3
    ∷ 5 ∷ 7 ∷ 6 ∷ 6 ∷ []) ∷ op3 SigVal 11 6 6 ∷ op Cat 1 (10 ∷ 6 ∷ 6 ∷ []) (10 ∷ 4 ∷ []) [] ∷ op Bin 4 (0 ∷ 6 ∷ 8
    ∷ []) [] [] ∷ op Case 0 (6 ∷ []) [] (97 ∷ []) ∷ []) ∷ []) (at (0 ∷ 1 ∷ 2 ∷ 3 ∷ 12 ∷ 13 ∷ 14 ∷ range 4 8 ++ 15 ∷ 16
    ∷ []) []) (registers 13 (1 ∷ 0 ∷ 4 ∷ 1 ∷ 0 ∷ 0 ∷ 0 ∷ 1 ∷ 0 ∷ 0 ∷ 1 ∷ 4 ∷ 0 ∷ [])) (operands 14 (5 ∷ 4 ∷ 5 ∷ 5 ∷ 6
    ∷ 3 ∷ 4 ∷ 9 ∷ 8 ∷ 9 ∷ 9 ∷ 6 ∷ 10 ∷ 8 ∷ [])) (beside [] [] []))

-- seed 57: 7 members are too few, a register reused, chain of 2, done 1, moves without replay, moves without vias,
-- new Sig, new list, rule 1 decides, rule 2 decides, target after x, target f, target renamed
abbrev pub s57 : Row
s57 =
    moves (pic ((const 9 15 ∷ op3 Cmp 5 9 0 ∷ op4 Select 6 9 9 9 ∷ op3 Cmp 3 5 9 ∷ op Move 0 (8 ∷ 5 ∷ []) [] (6 ∷ 3
    ∷ 3 ∷ 1 ∷ 3 ∷ 1 ∷ 8 ∷ []) ∷ op2 Alloc 7 8 ∷ op Cat 0 (7 ∷ 6 ∷ 5 ∷ []) (0 ∷ 4 ∷ []) (58896 ∷ [])
    ∷ op2 SigReadScalar 4 3 ∷ op Cat 0 (7 ∷ 9 ∷ 3 ∷ []) (5 ∷ []) [] ∷ op2 Un 1 1 ∷ op2 Move 2 5 ∷ op2 Alloc 5 5
    ∷ op Br 0 [] [] (2 ∷ 8 ∷ 5 ∷ 4 ∷ 6 ∷ 0 ∷ 1 ∷ []) ∷ []) ∷ (op ConstF 0 (1 ∷ []) [] (3674403796 ∷ 962525061 ∷ [])
    ∷ op Case 0 (9 ∷ []) [] (97 ∷ []) ∷ []) ∷ (fork 9 1 3 ∷ []) ∷ (op Store 3 (0 ∷ 3 ∷ []) [] [] ∷ op Store 3 (9 ∷ 2
    ∷ []) [] [] ∷ op0 Ret ∷ []) ∷ []) (at (upto 19) []) (registers 10 (0 ∷ 1 ∷ 0 ∷ 0 ∷ 4 ∷ 0 ∷ 0 ∷ 7 ∷ 0 ∷ 1 ∷ 9 ∷ 7
    ∷ 77 ∷ 9 ∷ 77 ∷ 7 ∷ 77 ∷ [])) (operands 5 (7 ∷ 8 ∷ 7 ∷ 7 ∷ 6 ∷ 0 ∷ 0 ∷ absent ∷ absent ∷ 0 ∷ []))
    (beside [] [] [])) 50 8200 800 (done 1 17 9) ((1 ∷ 0 ∷ 3 ∷ 10 ∷ 17 ∷ 9 ∷ []) ∷ [])
    (pic ((const 9 15 ∷ op2 Un 1 1 ∷ op Br 0 [] [] (2 ∷ 8 ∷ 5 ∷ 4 ∷ 6 ∷ 0 ∷ 1 ∷ []) ∷ []) ∷ (op ConstF 0 (1 ∷ []) []
    (3674403796 ∷ 962525061 ∷ []) ∷ op Case 0 (9 ∷ []) [] (97 ∷ []) ∷ []) ∷ (fork 9 1 3 ∷ []) ∷ (op3 Cmp 10 9 0
    ∷ op4 Select 11 9 9 9 ∷ op3 Cmp 12 10 9 ∷ op Move 0 (13 ∷ 10 ∷ []) [] (6 ∷ 3 ∷ 3 ∷ 1 ∷ 3 ∷ 1 ∷ 8 ∷ [])
    ∷ op2 Alloc 14 13 ∷ op Cat 0 (14 ∷ 11 ∷ 10 ∷ []) (5 ∷ 4 ∷ []) (58896 ∷ []) ∷ op2 SigReadScalar 15 12 ∷ op Cat 0
    (14 ∷ 9 ∷ 12 ∷ []) (5 ∷ []) [] ∷ op2 Move 13 10 ∷ op2 Alloc 11 10 ∷ op Store 3 (0 ∷ 12 ∷ []) [] [] ∷ op Store 3 (9
    ∷ 13 ∷ []) [] [] ∷ op0 Ret ∷ []) ∷ []) (at (0 ∷ 9 ∷ 12 ∷ 13 ∷ 14 ∷ 15 ∷ range 1 8 ++ 10 ∷ 11 ∷ 16 ∷ 17 ∷ 18
    ∷ []) []) (registers 17 (0 ∷ 1 ∷ 0 ∷ 0 ∷ 4 ∷ 0 ∷ 0 ∷ 7 ∷ 0 ∷ 1 ∷ 0 ∷ 0 ∷ 0 ∷ 0 ∷ 7 ∷ 4 ∷ 0 ∷ [])) (operands 9 (7
    ∷ 8 ∷ 7 ∷ 7 ∷ 6 ∷ 14 ∷ 13 ∷ 14 ∷ 14 ∷ 0 ∷ [])) (beside [] [] []))

-- seed 59: chain of 1, chain of 2, done 2, moves with replay, moves without vias, new Sig, target after x, target
-- before x, target t
abbrev pub s59 : Row
s59 =
    moves (pic ((const 7 47 ∷ op AddrOf 4 (8 ∷ []) [] [] ∷ op Cmp 0 (2 ∷ 7 ∷ 7 ∷ []) [] (0 ∷ 6 ∷ 6 ∷ 4 ∷ 6 ∷ 4 ∷ 3
    ∷ []) ∷ op2 Alloc 4 2 ∷ op3 Cat 4 7 7 ∷ op3 BoolOp 6 7 2 ∷ br 4 ∷ []) ∷ (op2 Output 0 0 ∷ op Output 0 (1 ∷ 1
    ∷ []) [] (6 ∷ 0 ∷ 4 ∷ 3 ∷ 3 ∷ 3 ∷ 1 ∷ []) ∷ op Case 0 (7 ∷ []) [] (98 ∷ []) ∷ []) ∷ (op0 Unreachable ∷ [])
    ∷ (op0 Cover ∷ op0 Unreachable ∷ []) ∷ (fork 1 6 3 ∷ []) ∷ (op3 Cat 1 1 1 ∷ []) ∷ (op ConstF 0 (0 ∷ []) []
    (2291784347 ∷ 2781177992 ∷ []) ∷ fork 0 1 2 ∷ []) ∷ []) (at (upto 17) []) (registers 9 (0 ∷ 0 ∷ 4 ∷ 0 ∷ 4 ∷ 4 ∷ 0
    ∷ 0 ∷ 4 ∷ 7 ∷ 7 ∷ 9 ∷ 9 ∷ 77 ∷ 9 ∷ 7 ∷ 9 ∷ 9 ∷ 9 ∷ 77 ∷ 7 ∷ [])) (operands 0 (0 ∷ 999 ∷ 999 ∷ [])) (beside [] []
    (1 ∷ 3 ∷ 10 ∷ 1 ∷ []))) 70 8280 800 (done 2 19 0) ((1 ∷ 0 ∷ 6 ∷ 4 ∷ 14 ∷ 0 ∷ []) ∷ (2 ∷ 6 ∷ 1 ∷ 4 ∷ 19 ∷ 0 ∷ [])
    ∷ [])
    (pic ((const 7 47 ∷ op AddrOf 4 (8 ∷ []) [] [] ∷ br 4 ∷ []) ∷ (op Cmp 0 (14 ∷ 7 ∷ 7 ∷ []) [] (0 ∷ 6 ∷ 6 ∷ 4 ∷ 6
    ∷ 4 ∷ 3 ∷ []) ∷ op2 Alloc 16 14 ∷ op3 Cat 16 7 7 ∷ op3 BoolOp 18 7 14 ∷ op2 Output 0 0 ∷ op Output 0 (1 ∷ 1
    ∷ []) [] (6 ∷ 0 ∷ 4 ∷ 3 ∷ 3 ∷ 3 ∷ 1 ∷ []) ∷ op Case 0 (7 ∷ []) [] (98 ∷ []) ∷ []) ∷ (op0 Unreachable ∷ [])
    ∷ (op0 Cover ∷ op0 Unreachable ∷ []) ∷ (fork 1 6 3 ∷ []) ∷ (op3 Cat 1 1 1 ∷ []) ∷ (op ConstF 0 (0 ∷ []) []
    (2291784347 ∷ 2781177992 ∷ []) ∷ fork 0 1 2 ∷ []) ∷ []) (at (0 ∷ 1 ∷ 6 ∷ 2 ∷ 3 ∷ 4 ∷ 5 ∷ range 7 10) [])
    (registers 19 (0 ∷ 0 ∷ 4 ∷ 0 ∷ 4 ∷ 4 ∷ 0 ∷ 0 ∷ 4 ∷ 4 ∷ 0 ∷ 4 ∷ 0 ∷ 0 ∷ 4 ∷ 0 ∷ 4 ∷ 0 ∷ 0 ∷ 77 ∷ 7 ∷ []))
    (operands 0 (0 ∷ 999 ∷ 999 ∷ [])) (beside [] [] (1 ∷ 3 ∷ 10 ∷ 1 ∷ [])))

-- seed 65: chain of 1, chain of 3, done 2, moves with replay, moves with vias, new list, target after x, target t
abbrev pub s65 : Row
s65 =
    moves (pic ((const 9 6 ∷ op Br 0 [] [] (1 ∷ 7 ∷ 7 ∷ 8 ∷ 7 ∷ 4 ∷ 4 ∷ []) ∷ []) ∷ (op3 FBin 0 0 4 ∷ op2 Alloc 8 9
    ∷ op Cat 0 (8 ∷ 9 ∷ 9 ∷ []) (0 ∷ 2 ∷ []) [] ∷ op MakeDope 0 (8 ∷ []) (2 ∷ 1 ∷ []) [] ∷ op Check 3 (9 ∷ 8 ∷ 8
    ∷ []) [] [] ∷ op4 Select 2 9 9 9 ∷ br 2 ∷ []) ∷ (op Br 0 [] [] (3 ∷ 8 ∷ 3 ∷ 2 ∷ 7 ∷ 8 ∷ 1 ∷ []) ∷ [])
    ∷ (fork 1 4 7 ∷ []) ∷ (fork 1 5 6 ∷ []) ∷ (op2 Output 1 1 ∷ op2 Output 0 0 ∷ op Ret 0 [] [] (6 ∷ 0 ∷ 6 ∷ 3 ∷ 4 ∷ 5
    ∷ 1 ∷ []) ∷ []) ∷ [] ∷ (op1 Ret 0 ∷ []) ∷ (op Cat 0 (1 ∷ 1 ∷ 1 ∷ []) [] (0 ∷ 1 ∷ 2 ∷ 5 ∷ 8 ∷ 2 ∷ 6 ∷ []) ∷ [])
    ∷ []) (at (upto 17) (0 ∷ 0 ∷ 0 ∷ 8 ∷ 0 ∷ 0 ∷ 0 ∷ 43 ∷ 34 ∷ 0 ∷ 0 ∷ 31 ∷ 0 ∷ 21 ∷ 0 ∷ 19 ∷ 0 ∷ [])) (registers 10
    (4 ∷ 1 ∷ 1 ∷ 0 ∷ 3 ∷ 4 ∷ 3 ∷ 4 ∷ 5 ∷ 3 ∷ 77 ∷ 77 ∷ 77 ∷ 7 ∷ 77 ∷ [])) (operands 3 (8 ∷ 8 ∷ 8 ∷ 0 ∷ 0 ∷ 999 ∷ 0
    ∷ 999 ∷ 999 ∷ 0 ∷ 999 ∷ absent ∷ 999 ∷ [])) (beside [] [] (6 ∷ 4 ∷ 12 ∷ 6 ∷ []))) 66 8264 800 (done 2 14 9) ((1
    ∷ 1 ∷ 4 ∷ 5 ∷ 12 ∷ 6 ∷ []) ∷ (2 ∷ 4 ∷ 5 ∷ 5 ∷ 14 ∷ 9 ∷ []) ∷ [])
    (pic ((const 9 6 ∷ op Br 0 [] [] (1 ∷ 7 ∷ 7 ∷ 8 ∷ 7 ∷ 4 ∷ 4 ∷ []) ∷ []) ∷ (op3 FBin 0 0 4 ∷ br 2 ∷ [])
    ∷ (op Br 0 [] [] (3 ∷ 8 ∷ 3 ∷ 2 ∷ 7 ∷ 8 ∷ 1 ∷ []) ∷ []) ∷ (fork 1 4 7 ∷ []) ∷ (fork 1 5 6 ∷ []) ∷ (op2 Alloc 12 9
    ∷ op Cat 0 (12 ∷ 9 ∷ 9 ∷ []) (6 ∷ 2 ∷ []) [] ∷ op MakeDope 0 (12 ∷ []) (8 ∷ 1 ∷ []) [] ∷ op Check 3 (9 ∷ 12 ∷ 12
    ∷ []) [] [] ∷ op4 Select 13 9 9 9 ∷ op2 Output 1 1 ∷ op2 Output 0 0 ∷ op Ret 0 [] [] (6 ∷ 0 ∷ 6 ∷ 3 ∷ 4 ∷ 5 ∷ 1
    ∷ []) ∷ []) ∷ [] ∷ (op1 Ret 0 ∷ []) ∷ (op Cat 0 (1 ∷ 1 ∷ 1 ∷ []) [] (0 ∷ 1 ∷ 2 ∷ 5 ∷ 8 ∷ 2 ∷ 6 ∷ []) ∷ []) ∷ [])
    (at (0 ∷ 1 ∷ 2 ∷ 8 ∷ 9 ∷ 10 ∷ 11 ∷ range 3 5 ++ range 12 5) (0 ∷ 0 ∷ 0 ∷ 34 ∷ 0 ∷ 0 ∷ 31 ∷ 8 ∷ 0 ∷ 0 ∷ 0 ∷ 43 ∷ 0
    ∷ 21 ∷ 0 ∷ 19 ∷ 0 ∷ [])) (registers 14 (4 ∷ 1 ∷ 1 ∷ 0 ∷ 3 ∷ 4 ∷ 3 ∷ 4 ∷ 5 ∷ 3 ∷ 5 ∷ 1 ∷ 5 ∷ 1 ∷ 77 ∷ []))
    (operands 9 (8 ∷ 8 ∷ 8 ∷ 10 ∷ 10 ∷ 10 ∷ 12 ∷ 12 ∷ 12 ∷ 0 ∷ 999 ∷ absent ∷ 999 ∷ [])) (beside [] [] (6 ∷ 4 ∷ 12 ∷ 6
    ∷ [])))

-- seed 70: done 0, rule 1 decides, rule 5 on writes decides
abbrev pub s70 : Row
s70 =
    stays (pic ((op Const 0 (9 ∷ []) [] (0 ∷ 256 ∷ []) ∷ op1 AddrOf 10 ∷ op4 Select 7 9 9 9 ∷ op3 Cmp 6 7 7
    ∷ op2 Alloc 3 7 ∷ op Cat 0 (3 ∷ 6 ∷ 7 ∷ []) [] (0 ∷ 5 ∷ 0 ∷ 5 ∷ 0 ∷ 8 ∷ 4 ∷ []) ∷ op IToF 0 (0 ∷ 0 ∷ []) [] (5 ∷ 0
    ∷ 5 ∷ 7 ∷ 7 ∷ 4 ∷ 8 ∷ []) ∷ op4 BoundsLen 8 6 6 0 ∷ op CallNative 1 [] (0 ∷ 1 ∷ []) [] ∷ op3 Cmp 5 7 8
    ∷ op3 Cmp 2 7 7 ∷ op Cat 0 (3 ∷ 2 ∷ 2 ∷ []) (2 ∷ 2 ∷ []) (0 ∷ 3 ∷ 7 ∷ 3 ∷ 3 ∷ 6 ∷ []) ∷ op Store 1 (3 ∷ 2
    ∷ []) [] [] ∷ op3 Fill 9 9 1 ∷ br 4 ∷ []) ∷ (op CondBr 0 (0 ∷ []) [] (3 ∷ 6 ∷ 1 ∷ 7 ∷ 8 ∷ 5 ∷ 8 ∷ []) ∷ [])
    ∷ (br 1 ∷ []) ∷ [] ∷ (br 5 ∷ []) ∷ (br 2 ∷ []) ∷ (op0 Ret ∷ []) ∷ []) (at (upto 20) []) (registers 11 (0 ∷ 0 ∷ 0
    ∷ 0 ∷ 3 ∷ 0 ∷ 1 ∷ 6 ∷ 3 ∷ 4 ∷ 1 ∷ [])) (operands 4 (8 ∷ 6 ∷ 3 ∷ 0 ∷ [])) (beside [] [] [])) 50 8200 800
    (done 0 11 4)

-- seed 95: a register reused, chain of 1, done 3, moves with replay, moves without vias, new Sig, target after x,
-- target before x, target t
abbrev pub s95 : Row
s95 =
    moves (pic ((op1 Const 8 ∷ op AddrOf 2 (9 ∷ []) [] [] ∷ op Br 0 [] [] (3 ∷ 6 ∷ 8 ∷ 4 ∷ 1 ∷ 7 ∷ 3 ∷ []) ∷ [])
    ∷ (op2 Output 0 0 ∷ op2 Output 1 1 ∷ op Ret 0 [] [] (7 ∷ 4 ∷ 6 ∷ 2 ∷ 4 ∷ 5 ∷ 2 ∷ []) ∷ []) ∷ (op3 FCheck 8 0 8
    ∷ fork 0 6 5 ∷ []) ∷ (op2 Move 2 8 ∷ op3 Index 3 9 8 ∷ op3 FCmp 6 2 2 ∷ fork 8 2 4 ∷ []) ∷ (op2 Edge 1 0 ∷ op0 Ret
    ∷ []) ∷ [] ∷ (fork 0 1 8 ∷ []) ∷ (op3 Cat 8 8 8 ∷ []) ∷ [] ∷ []) (at (upto 16) []) (registers 10 (0 ∷ 0 ∷ 3 ∷ 4
    ∷ 1 ∷ 0 ∷ 4 ∷ 1 ∷ 0 ∷ 0 ∷ 7 ∷ 7 ∷ 9 ∷ 7 ∷ 77 ∷ 7 ∷ 7 ∷ 7 ∷ 77 ∷ [])) (operands 0 []) (beside [] [] (8 ∷ 6 ∷ 4
    ∷ []))) 74 8296 800 (done 3 19 0) ((1 ∷ 3 ∷ 2 ∷ 3 ∷ 13 ∷ 0 ∷ []) ∷ (2 ∷ 2 ∷ 6 ∷ 3 ∷ 16 ∷ 0 ∷ []) ∷ (3 ∷ 6 ∷ 1 ∷ 3
    ∷ 19 ∷ 0 ∷ []) ∷ [])
    (pic ((op1 Const 8 ∷ op AddrOf 2 (9 ∷ []) [] [] ∷ op Br 0 [] [] (3 ∷ 6 ∷ 8 ∷ 4 ∷ 1 ∷ 7 ∷ 3 ∷ []) ∷ [])
    ∷ (op2 Move 16 8 ∷ op3 Index 17 9 8 ∷ op3 FCmp 17 16 16 ∷ op2 Output 0 0 ∷ op2 Output 1 1 ∷ op Ret 0 [] [] (7 ∷ 4
    ∷ 6 ∷ 2 ∷ 4 ∷ 5 ∷ 2 ∷ []) ∷ []) ∷ (op3 FCheck 8 0 8 ∷ fork 0 6 5 ∷ []) ∷ (fork 8 2 4 ∷ []) ∷ (op2 Edge 1 0
    ∷ op0 Ret ∷ []) ∷ [] ∷ (fork 0 1 8 ∷ []) ∷ (op3 Cat 8 8 8 ∷ []) ∷ [] ∷ []) (at (0 ∷ 1 ∷ 2 ∷ 8 ∷ 9 ∷ 10
    ∷ range 3 5 ++ range 11 5) []) (registers 19 (0 ∷ 0 ∷ 3 ∷ 4 ∷ 1 ∷ 0 ∷ 4 ∷ 1 ∷ 0 ∷ 0 ∷ 3 ∷ 4 ∷ 0 ∷ 3 ∷ 4 ∷ 0 ∷ 3
    ∷ 4 ∷ 0 ∷ [])) (operands 0 []) (beside [] [] (8 ∷ 6 ∷ 4 ∷ [])))

-- seed 148: a register reused, chain of 1, moves with vias, moves without replay, new list, short 1, short by a
-- register, target before x, target f, the start of the function decides
abbrev pub s148 : Row
s148 =
    moves (pic ((op3 FCheck 0 0 0 ∷ op Case 0 (1 ∷ []) [] (91 ∷ []) ∷ []) ∷ (fork 1 4 3 ∷ []) ∷ (op Const 0 (8
    ∷ []) [] (0 ∷ 0 ∷ 2 ∷ 5 ∷ 1 ∷ 5 ∷ []) ∷ op AddrOf 3 (9 ∷ []) [] [] ∷ op1 Ret 8 ∷ []) ∷ (op Unreachable 0 [] [] (3
    ∷ 0 ∷ 6 ∷ 0 ∷ 1 ∷ 7 ∷ []) ∷ []) ∷ (op3 Cmp 6 8 8 ∷ op2 Alloc 7 6 ∷ op Cat 0 (7 ∷ 8 ∷ 8 ∷ []) (0 ∷ 4 ∷ []) (0 ∷ 8
    ∷ 8 ∷ 1 ∷ 5 ∷ 8 ∷ 3 ∷ []) ∷ op Bin 4 (5 ∷ 8 ∷ 8 ∷ []) [] [] ∷ op Load 1 (2 ∷ 7 ∷ []) [] [] ∷ op Store 3 (7 ∷ 7
    ∷ []) [] [] ∷ op Cat 0 (7 ∷ 8 ∷ 5 ∷ []) (4 ∷ 4 ∷ []) (7280 ∷ []) ∷ op2 Alloc 3 6 ∷ op Load 2 (4 ∷ 3 ∷ []) [] []
    ∷ op2 Alloc 7 6 ∷ op2 SigRead 3 0 ∷ fork 8 0 1 ∷ []) ∷ []) (at (upto 19) (0 ∷ 0 ∷ 9 ∷ 46 ∷ 0 ∷ 0 ∷ 0 ∷ 11 ∷ 0 ∷ 6
    ∷ 0 ∷ 0 ∷ 0 ∷ 0 ∷ 11 ∷ 0 ∷ 0 ∷ 48 ∷ 0 ∷ [])) (registers 10 (4 ∷ 4 ∷ 0 ∷ 0 ∷ 1 ∷ 0 ∷ 2 ∷ 7 ∷ 0 ∷ 1 ∷ 77 ∷ 9 ∷ 77
    ∷ 9 ∷ [])) (operands 8 (7 ∷ 8 ∷ 7 ∷ 6 ∷ 7 ∷ 6 ∷ 7 ∷ 6 ∷ 999 ∷ 0 ∷ 999 ∷ 999 ∷ 0 ∷ 999 ∷ absent ∷ absent ∷ []))
    (beside [] [] [])) 48 8192 800 (short 1 14 16) ((1 ∷ 4 ∷ 1 ∷ 10 ∷ 14 ∷ 16 ∷ []) ∷ [])
    (pic ((op3 FCheck 0 0 0 ∷ op Case 0 (1 ∷ []) [] (91 ∷ []) ∷ []) ∷ (op3 Cmp 10 8 8 ∷ op2 Alloc 11 10 ∷ op Cat 0 (11
    ∷ 8 ∷ 8 ∷ []) (8 ∷ 4 ∷ []) (0 ∷ 8 ∷ 8 ∷ 1 ∷ 5 ∷ 8 ∷ 3 ∷ []) ∷ op Load 1 (12 ∷ 11 ∷ []) [] [] ∷ op Store 3 (11 ∷ 11
    ∷ []) [] [] ∷ op Cat 0 (11 ∷ 8 ∷ 5 ∷ []) (12 ∷ 4 ∷ []) (7280 ∷ []) ∷ op2 Alloc 12 10 ∷ op Load 2 (13 ∷ 12
    ∷ []) [] [] ∷ op2 Alloc 11 10 ∷ op2 SigRead 12 0 ∷ fork 1 4 3 ∷ []) ∷ (op Const 0 (8 ∷ []) [] (0 ∷ 0 ∷ 2 ∷ 5 ∷ 1
    ∷ 5 ∷ []) ∷ op AddrOf 3 (9 ∷ []) [] [] ∷ op1 Ret 8 ∷ []) ∷ (op Unreachable 0 [] [] (3 ∷ 0 ∷ 6 ∷ 0 ∷ 1 ∷ 7 ∷ [])
    ∷ []) ∷ (op Bin 4 (5 ∷ 8 ∷ 8 ∷ []) [] [] ∷ fork 8 0 1 ∷ []) ∷ []) (at (0 ∷ 1 ∷ 7 ∷ 8 ∷ 9
    ∷ range 11 7 ++ range 2 5 ++ 10 ∷ 18 ∷ []) (0 ∷ 0 ∷ 11 ∷ 0 ∷ 6 ∷ 0 ∷ 0 ∷ 0 ∷ 11 ∷ 0 ∷ 0 ∷ 48 ∷ 9 ∷ 46
    ∷ replicate 5 0)) (registers 14 (4 ∷ 4 ∷ 0 ∷ 0 ∷ 1 ∷ 0 ∷ 2 ∷ 7 ∷ 0 ∷ 1 ∷ 2 ∷ 7 ∷ 0 ∷ 1 ∷ [])) (operands 16 (7 ∷ 8
    ∷ 7 ∷ 6 ∷ 7 ∷ 6 ∷ 7 ∷ 6 ∷ 11 ∷ 8 ∷ 11 ∷ 10 ∷ 11 ∷ 10 ∷ 11 ∷ 10 ∷ [])) (beside [] [] []))

-- seed 170: a register reused, chain of 2, done 1, moves without replay, moves without vias, rule 3 decides, target
-- after x, target t
abbrev pub s170 : Row
s170 =
    moves (pic ((op2 Deref 0 7 ∷ []) ∷ (br 6 ∷ []) ∷ (op Const 0 (7 ∷ []) [] (1 ∷ 0 ∷ 0 ∷ 8 ∷ 5 ∷ 8 ∷ [])
    ∷ op2 Alloc 6 7 ∷ op Cat 0 (6 ∷ 7 ∷ 7 ∷ []) (1 ∷ []) (56398 ∷ []) ∷ op2 SigReadScalar 4 6 ∷ op Bin 2 (5 ∷ 7 ∷ 7
    ∷ []) [] [] ∷ op2 SigReadScalar 4 0 ∷ op2 Edge 0 1 ∷ op BoundsLen 0 (3 ∷ 5 ∷ 5 ∷ 7 ∷ []) [] (4 ∷ 1 ∷ 6 ∷ 4 ∷ 1 ∷ 3
    ∷ 8 ∷ []) ∷ op Load 3 (2 ∷ 6 ∷ []) [] [] ∷ op4 BoundsLen 6 3 3 3 ∷ op Bin 1 (3 ∷ 6 ∷ 6 ∷ []) [] [] ∷ op Bin 4 (2
    ∷ 7 ∷ 7 ∷ []) [] [] ∷ op CallNative 1 [] (1 ∷ 1 ∷ []) (7 ∷ 0 ∷ 3 ∷ 7 ∷ 5 ∷ 4 ∷ []) ∷ op Br 0 [] [] (3 ∷ 1 ∷ 3 ∷ 8
    ∷ 7 ∷ 7 ∷ []) ∷ []) ∷ (op1 AddrOf 1 ∷ op CondBr 0 (0 ∷ []) [] (5 ∷ 1 ∷ 6 ∷ 5 ∷ 7 ∷ 3 ∷ 1 ∷ []) ∷ [])
    ∷ (op2 Output 0 0 ∷ op2 Output 7 7 ∷ []) ∷ (op0 Ret ∷ []) ∷ (fork 1 0 4 ∷ []) ∷ []) (at (upto 22) []) (registers 8
    (4 ∷ 0 ∷ 1 ∷ 1 ∷ 5 ∷ 0 ∷ 0 ∷ 1 ∷ 7 ∷ 7 ∷ 9 ∷ 7 ∷ 7 ∷ [])) (operands 2 (6 ∷ 4 ∷ [])) (beside [] [] [])) 54 8216 800
    (done 1 13 2) ((1 ∷ 2 ∷ 5 ∷ 10 ∷ 13 ∷ 2 ∷ []) ∷ [])
    (pic ((op2 Deref 0 7 ∷ []) ∷ (br 6 ∷ []) ∷ (op Const 0 (7 ∷ []) [] (1 ∷ 0 ∷ 0 ∷ 8 ∷ 5 ∷ 8 ∷ [])
    ∷ op2 SigReadScalar 4 0 ∷ op2 Edge 0 1 ∷ op Br 0 [] [] (3 ∷ 1 ∷ 3 ∷ 8 ∷ 7 ∷ 7 ∷ []) ∷ []) ∷ (op1 AddrOf 1
    ∷ op CondBr 0 (0 ∷ []) [] (5 ∷ 1 ∷ 6 ∷ 5 ∷ 7 ∷ 3 ∷ 1 ∷ []) ∷ []) ∷ (op2 Output 0 0 ∷ op2 Output 7 7 ∷ [])
    ∷ (op2 Alloc 8 7 ∷ op Cat 0 (8 ∷ 7 ∷ 7 ∷ []) (1 ∷ []) (56398 ∷ []) ∷ op2 SigReadScalar 9 8 ∷ op Bin 2 (10 ∷ 7 ∷ 7
    ∷ []) [] [] ∷ op BoundsLen 0 (11 ∷ 10 ∷ 10 ∷ 7 ∷ []) [] (4 ∷ 1 ∷ 6 ∷ 4 ∷ 1 ∷ 3 ∷ 8 ∷ []) ∷ op Load 3 (12 ∷ 8
    ∷ []) [] [] ∷ op4 BoundsLen 8 11 11 11 ∷ op Bin 1 (11 ∷ 8 ∷ 8 ∷ []) [] [] ∷ op Bin 4 (11 ∷ 7 ∷ 7 ∷ []) [] []
    ∷ op CallNative 1 [] (1 ∷ 1 ∷ []) (7 ∷ 0 ∷ 3 ∷ 7 ∷ 5 ∷ 4 ∷ []) ∷ op0 Ret ∷ []) ∷ (fork 1 0 4 ∷ []) ∷ []) (at (0
    ∷ 1 ∷ 2 ∷ 7 ∷ 8 ∷ range 15 5 ++ 3 ∷ 4 ∷ 5 ∷ 6 ∷ range 9 6 ++ 20 ∷ 21 ∷ []) []) (registers 13 (4 ∷ 0 ∷ 1 ∷ 1 ∷ 5
    ∷ 0 ∷ 0 ∷ 1 ∷ 0 ∷ 5 ∷ 0 ∷ 1 ∷ 1 ∷ [])) (operands 2 (6 ∷ 4 ∷ [])) (beside [] [] []))

-- seed 173: a register reused, chain of 3, done 1, moves with replay, moves without vias, rule 2 decides, target
-- after x, target f, the start of the function decides
abbrev pub s173 : Row
s173 =
    moves (pic ((op3 Report 5 5 0 ∷ op0 Ret ∷ []) ∷ (op3 Cat 1 1 1 ∷ []) ∷ (const 6 40 ∷ op1 AddrOf 7
    ∷ op2 DopeLen 5 7 ∷ op2 Alloc 4 5 ∷ op Cat 0 (4 ∷ 6 ∷ 5 ∷ []) (0 ∷ 2 ∷ []) [] ∷ op2 LayoutOf 2 7 ∷ op DopeLen 0 (3
    ∷ 7 ∷ []) [] (5 ∷ 6 ∷ 1 ∷ 5 ∷ 2 ∷ 6 ∷ 6 ∷ []) ∷ op Load 2 (3 ∷ 2 ∷ []) [] (4 ∷ 5 ∷ 4 ∷ 4 ∷ 6 ∷ 2 ∷ 1 ∷ []) ∷ br 5
    ∷ []) ∷ (op FCheck 0 (6 ∷ 1 ∷ 1 ∷ []) [] (3 ∷ 0 ∷ 6 ∷ 1 ∷ 1 ∷ 6 ∷ []) ∷ op Ret 0 [] [] (3 ∷ 7 ∷ 3 ∷ 6 ∷ 5 ∷ 0 ∷ 4
    ∷ []) ∷ []) ∷ (fork 6 0 3 ∷ []) ∷ (br 4 ∷ []) ∷ []) (at (upto 16) []) (registers 8 (0 ∷ 0 ∷ 1 ∷ 3 ∷ 0 ∷ 0 ∷ 1 ∷ 0
    ∷ 77 ∷ 9 ∷ 9 ∷ 9 ∷ 77 ∷ 7 ∷ 77 ∷ 77 ∷ 9 ∷ [])) (operands 2 (7 ∷ 5 ∷ absent ∷ 0 ∷ 0 ∷ 0 ∷ 999 ∷ 999 ∷ []))
    (beside [] [] (0 ∷ []))) 58 8232 800 (done 1 11 2) ((1 ∷ 2 ∷ 3 ∷ 5 ∷ 11 ∷ 2 ∷ []) ∷ [])
    (pic ((op3 Report 5 5 0 ∷ op0 Ret ∷ []) ∷ (op3 Cat 1 1 1 ∷ []) ∷ (const 6 40 ∷ op1 AddrOf 7 ∷ op2 DopeLen 5 7
    ∷ br 5 ∷ []) ∷ (op2 Alloc 8 5 ∷ op Cat 0 (8 ∷ 6 ∷ 5 ∷ []) (0 ∷ 2 ∷ []) [] ∷ op2 LayoutOf 9 7 ∷ op DopeLen 0 (10
    ∷ 7 ∷ []) [] (5 ∷ 6 ∷ 1 ∷ 5 ∷ 2 ∷ 6 ∷ 6 ∷ []) ∷ op Load 2 (10 ∷ 9 ∷ []) [] (4 ∷ 5 ∷ 4 ∷ 4 ∷ 6 ∷ 2 ∷ 1 ∷ [])
    ∷ op FCheck 0 (6 ∷ 1 ∷ 1 ∷ []) [] (3 ∷ 0 ∷ 6 ∷ 1 ∷ 1 ∷ 6 ∷ []) ∷ op Ret 0 [] [] (3 ∷ 7 ∷ 3 ∷ 6 ∷ 5 ∷ 0 ∷ 4 ∷ [])
    ∷ []) ∷ (fork 6 0 3 ∷ []) ∷ (br 4 ∷ []) ∷ []) (at (upto 6 ++ 11 ∷ range 6 5 ++ 12 ∷ 13 ∷ 14 ∷ 15 ∷ []) [])
    (registers 11 (0 ∷ 0 ∷ 1 ∷ 3 ∷ 0 ∷ 0 ∷ 1 ∷ 0 ∷ 0 ∷ 1 ∷ 3 ∷ 9 ∷ 77 ∷ 7 ∷ 77 ∷ 77 ∷ 9 ∷ [])) (operands 2 (7 ∷ 5
    ∷ absent ∷ 0 ∷ 0 ∷ 0 ∷ 999 ∷ 999 ∷ [])) (beside [] [] (0 ∷ [])))

-- seed 183: a seventh block decides, done 0, the start of the function decides
abbrev pub s183 : Row
s183 =
    stays (pic ((br 6 ∷ []) ∷ (br 2 ∷ []) ∷ (op0 Br ∷ []) ∷ (op2 Move 1 2 ∷ op Bin 4 (0 ∷ 6 ∷ 3 ∷ []) [] (6 ∷ 6 ∷ 5
    ∷ 4 ∷ 5 ∷ 2 ∷ 4 ∷ []) ∷ const 3 5 ∷ op3 Report 3 3 6 ∷ op0 Ret ∷ []) ∷ (const 6 26 ∷ op AddrOf 4 (7 ∷ []) [] []
    ∷ op Bin 4 (5 ∷ 6 ∷ 6 ∷ []) [] [] ∷ op Alloc 0 (4 ∷ 6 ∷ []) [] (7 ∷ 0 ∷ 3 ∷ 5 ∷ 6 ∷ 5 ∷ 1 ∷ []) ∷ op3 Index 2 4 6
    ∷ op CallNative 1 [] (0 ∷ 1 ∷ []) [] ∷ op BoolOp 1 (2 ∷ 2 ∷ []) [] [] ∷ op Cat 0 (4 ∷ 5 ∷ 6 ∷ []) (1 ∷ []) (27309
    ∷ 2 ∷ 7 ∷ 8 ∷ 8 ∷ 5 ∷ 7 ∷ []) ∷ op2 DopeLen 3 4 ∷ op CallNative 1 (3 ∷ []) (1 ∷ 1 ∷ []) [] ∷ op4 BoundsLen 5 5 2 2
    ∷ op Br 0 [] [] (1 ∷ 8 ∷ 6 ∷ 0 ∷ 2 ∷ 7 ∷ 6 ∷ []) ∷ []) ∷ (op Case 0 (0 ∷ []) [] (95 ∷ []) ∷ []) ∷ (fork 1 5 3
    ∷ []) ∷ []) (at (upto 22) (2 ∷ 0 ∷ 0 ∷ 0 ∷ 12 ∷ 39 ∷ 0 ∷ 0 ∷ 0 ∷ 10 ∷ 0 ∷ 0 ∷ 19 ∷ 0 ∷ 12 ∷ 0 ∷ 11 ∷ 0 ∷ 0 ∷ 0 ∷ 0
    ∷ 20 ∷ [])) (registers 8 (0 ∷ 1 ∷ 1 ∷ 0 ∷ 4 ∷ 2 ∷ 0 ∷ 3 ∷ 77 ∷ 7 ∷ 77 ∷ 7 ∷ 77 ∷ 9 ∷ 77 ∷ 7 ∷ 77 ∷ 7 ∷ []))
    (operands 2 (5 ∷ 6 ∷ absent ∷ 0 ∷ absent ∷ absent ∷ 999 ∷ 999 ∷ [])) (beside [] [] [])) 64 8256 800 (done 0 8 2)

-- seed 204: done 0, rule 5 on barriers decides
abbrev pub s204 : Row
s204 =
    stays (pic ((op Const 0 (6 ∷ []) [] (64 ∷ 0 ∷ 2 ∷ 3 ∷ 3 ∷ 5 ∷ 8 ∷ []) ∷ br 5 ∷ []) ∷ (br 7 ∷ [])
    ∷ (op3 Report 2 4 1 ∷ op0 Unreachable ∷ []) ∷ (op Ret 0 [] [] (8 ∷ 1 ∷ 3 ∷ 7 ∷ 2 ∷ 2 ∷ []) ∷ []) ∷ (op3 Cat 1 1 1
    ∷ []) ∷ (op Bin 1 (4 ∷ 6 ∷ 6 ∷ []) [] [] ∷ op Check 3 (6 ∷ 4 ∷ 6 ∷ []) [] [] ∷ op2 Alloc 2 6 ∷ op Cat 0 (2 ∷ 6 ∷ 6
    ∷ []) [] (26786 ∷ []) ∷ br 6 ∷ []) ∷ (br 8 ∷ []) ∷ (op CallProt 0 (4 ∷ []) (0 ∷ 1 ∷ []) [] ∷ op CondBr 0 (6
    ∷ []) [] (2 ∷ 3 ∷ 1 ∷ 5 ∷ 3 ∷ 3 ∷ 6 ∷ []) ∷ []) ∷ (br 1 ∷ []) ∷ []) (at (upto 16) []) (registers 7 (4 ∷ 0 ∷ 1 ∷ 0
    ∷ 0 ∷ 1 ∷ 4 ∷ [])) (operands 1 (4 ∷ [])) (beside [] [] (2 ∷ []))) 50 8200 800 (done 0 7 1)

-- seed 211: done 0, rule 5 on barriers decides
abbrev pub s211 : Row
s211 =
    stays (pic ((const 6 18 ∷ op AddrOf 1 (7 ∷ []) [] [] ∷ op LogicOp 0 (6 ∷ 6 ∷ 6 ∷ 6 ∷ []) [] (6 ∷ 3 ∷ 6 ∷ 4 ∷ 1 ∷ 2
    ∷ 8 ∷ []) ∷ op2 Alloc 2 6 ∷ op Cat 0 (2 ∷ 6 ∷ 6 ∷ []) [] (9902 ∷ 4 ∷ 6 ∷ 1 ∷ 1 ∷ 3 ∷ 2 ∷ [])
    ∷ op2 SigReadScalar 3 2 ∷ op Store 1 (2 ∷ 2 ∷ []) [] [] ∷ op Load 1 (5 ∷ 2 ∷ []) [] [] ∷ op Bin 4 (4 ∷ 6 ∷ 6
    ∷ []) [] (7 ∷ 5 ∷ 2 ∷ 5 ∷ 2 ∷ 2 ∷ []) ∷ op4 Select 3 6 6 6 ∷ op3 Cmp 3 3 1 ∷ op Cat 1 (2 ∷ 3 ∷ 6 ∷ []) [] []
    ∷ op Call 0 (0 ∷ []) (0 ∷ 1 ∷ []) [] ∷ br 3 ∷ []) ∷ (op2 Un 1 6 ∷ fork 6 2 5 ∷ []) ∷ (op0 Ret ∷ []) ∷ (fork 0 4 1
    ∷ []) ∷ (op0 Ret ∷ []) ∷ (op2 Output 0 0 ∷ op0 Ret ∷ []) ∷ []) (at (upto 21) []) (registers 8 (1 ∷ 0 ∷ 1 ∷ 7 ∷ 0
    ∷ 7 ∷ 0 ∷ 0 ∷ [])) (operands 1 (0 ∷ [])) (beside [] [] [])) 40 8160 800 (done 0 8 1)

-- seed 260: chain of 1, chain of 3, done 3, empty target, moves without replay, moves without vias, new list, target
-- after x, target before x, target f, target t
abbrev pub s260 : Row
s260 =
    moves (pic ((const 9 1 ∷ op3 Cmp 2 9 9 ∷ op4 BoundsLen 8 9 9 2 ∷ op3 Index 6 8 2 ∷ op3 Cmp 5 9 9 ∷ op Check 3 (5
    ∷ 5 ∷ 6 ∷ []) [] [] ∷ op Alloc 0 (7 ∷ 2 ∷ []) [] (4 ∷ 5 ∷ 7 ∷ 0 ∷ 5 ∷ 5 ∷ 7 ∷ []) ∷ op3 Cat 7 5 2 ∷ op Move 0 (4
    ∷ 8 ∷ []) [] (1 ∷ 0 ∷ 0 ∷ 5 ∷ 1 ∷ 4 ∷ 8 ∷ []) ∷ op1 MakeDope 7 ∷ op Cat 0 (7 ∷ 8 ∷ 9 ∷ []) (0 ∷ 2 ∷ []) []
    ∷ op Check 3 (2 ∷ 6 ∷ 5 ∷ []) [] [] ∷ op1 WaitOn 1 ∷ op Br 0 [] [] (7 ∷ 1 ∷ 0 ∷ 5 ∷ 3 ∷ 4 ∷ 6 ∷ []) ∷ [])
    ∷ (op2 Output 0 0 ∷ op Ret 0 [] [] (2 ∷ 3 ∷ 0 ∷ 4 ∷ 8 ∷ 1 ∷ 1 ∷ []) ∷ []) ∷ (op ConstF 0 (0 ∷ []) [] (1829119207
    ∷ 1615437182 ∷ []) ∷ fork 1 4 1 ∷ []) ∷ (op1 Now 0 ∷ op CondBr 0 (0 ∷ []) [] (5 ∷ 2 ∷ 3 ∷ 6 ∷ 3 ∷ 4 ∷ 7 ∷ [])
    ∷ []) ∷ [] ∷ (op2 IToF 0 9 ∷ op0 Ret ∷ []) ∷ (fork 0 3 5 ∷ []) ∷ (br 6 ∷ []) ∷ []) (at (upto 24) []) (registers 10
    (6 ∷ 5 ∷ 0 ∷ 0 ∷ 0 ∷ 0 ∷ 1 ∷ 0 ∷ 0 ∷ 0 ∷ 77 ∷ 77 ∷ 9 ∷ 9 ∷ 77 ∷ 77 ∷ 9 ∷ 9 ∷ 9 ∷ 77 ∷ 7 ∷ 77 ∷ 77 ∷ 9 ∷ 77 ∷ 77
    ∷ 77 ∷ 7 ∷ 9 ∷ 9 ∷ 77 ∷ 7 ∷ [])) (operands 2 (7 ∷ 5 ∷ absent ∷ 0 ∷ 999 ∷ 999 ∷ 0 ∷ 999 ∷ 999 ∷ 0 ∷ absent ∷ []))
    (beside [] [] [])) 96 8384 800 (done 3 28 8) ((1 ∷ 0 ∷ 3 ∷ 11 ∷ 16 ∷ 4 ∷ []) ∷ (2 ∷ 3 ∷ 2 ∷ 11 ∷ 22 ∷ 6 ∷ []) ∷ (3
    ∷ 2 ∷ 4 ∷ 11 ∷ 28 ∷ 8 ∷ []) ∷ [])
    (pic ((const 9 1 ∷ op1 WaitOn 1 ∷ op Br 0 [] [] (7 ∷ 1 ∷ 0 ∷ 5 ∷ 3 ∷ 4 ∷ 6 ∷ []) ∷ []) ∷ (op2 Output 0 0
    ∷ op Ret 0 [] [] (2 ∷ 3 ∷ 0 ∷ 4 ∷ 8 ∷ 1 ∷ 1 ∷ []) ∷ []) ∷ (op ConstF 0 (0 ∷ []) [] (1829119207 ∷ 1615437182 ∷ [])
    ∷ fork 1 4 1 ∷ []) ∷ (op1 Now 0 ∷ op CondBr 0 (0 ∷ []) [] (5 ∷ 2 ∷ 3 ∷ 6 ∷ 3 ∷ 4 ∷ 7 ∷ []) ∷ []) ∷ (op3 Cmp 22 9 9
    ∷ op4 BoundsLen 23 9 9 22 ∷ op3 Index 24 23 22 ∷ op3 Cmp 25 9 9 ∷ op Check 3 (25 ∷ 25 ∷ 24 ∷ []) [] []
    ∷ op Alloc 0 (26 ∷ 22 ∷ []) [] (4 ∷ 5 ∷ 7 ∷ 0 ∷ 5 ∷ 5 ∷ 7 ∷ []) ∷ op3 Cat 26 25 22 ∷ op Move 0 (27 ∷ 23 ∷ []) []
    (1 ∷ 0 ∷ 0 ∷ 5 ∷ 1 ∷ 4 ∷ 8 ∷ []) ∷ op1 MakeDope 26 ∷ op Cat 0 (26 ∷ 23 ∷ 9 ∷ []) (6 ∷ 2 ∷ []) [] ∷ op Check 3 (22
    ∷ 24 ∷ 25 ∷ []) [] [] ∷ []) ∷ (op2 IToF 0 9 ∷ op0 Ret ∷ []) ∷ (fork 0 3 5 ∷ []) ∷ (br 6 ∷ []) ∷ []) (at (0
    ∷ range 12 8 ++ range 1 11 ++ 20 ∷ 21 ∷ 22 ∷ 23 ∷ []) []) (registers 28 (6 ∷ 5 ∷ 0 ∷ 0 ∷ 0 ∷ 0 ∷ 1
    ∷ replicate 5 0 ++ 1 ∷ replicate 5 0 ++ 1 ∷ replicate 5 0 ++ 1 ∷ 0 ∷ 0 ∷ 0 ∷ 9 ∷ 9 ∷ 77 ∷ 7 ∷ [])) (operands 8 (7
    ∷ 5 ∷ 14 ∷ 13 ∷ 20 ∷ 19 ∷ 26 ∷ 25 ∷ 999 ∷ 0 ∷ absent ∷ [])) (beside [] [] []))

-- seed 292: a register reused, chain of 1, chain of 2, done 4, moves with replay, moves without vias, new list,
-- target after x, target before x, target f, target t
abbrev pub s292 : Row
s292 =
    moves (pic ((const 6 56 ∷ op2 Alloc 5 6 ∷ op Cat 0 (5 ∷ 6 ∷ 6 ∷ []) (0 ∷ 2 ∷ []) (1837 ∷ 3 ∷ 1 ∷ 2 ∷ 5 ∷ 3 ∷ [])
    ∷ op CallNative 1 (2 ∷ []) (0 ∷ 1 ∷ []) [] ∷ op Br 0 [] [] (1 ∷ 7 ∷ 7 ∷ 2 ∷ 8 ∷ 3 ∷ []) ∷ []) ∷ (fork 0 4 5 ∷ [])
    ∷ (op0 Unreachable ∷ []) ∷ (op2 Deref 1 0 ∷ op2 Output 1 1 ∷ op CondBr 0 (1 ∷ []) [] (2 ∷ 4 ∷ 5 ∷ 4 ∷ 4 ∷ 5 ∷ 6
    ∷ []) ∷ []) ∷ (op2 Output 6 6 ∷ op Case 0 (6 ∷ []) [] (96 ∷ 8 ∷ 8 ∷ 2 ∷ 0 ∷ 7 ∷ []) ∷ []) ∷ (op3 LGet 0 0 0
    ∷ fork 6 8 6 ∷ []) ∷ (op3 LGet 1 0 6 ∷ op0 Ret ∷ []) ∷ (op Case 0 (0 ∷ []) [] (95 ∷ []) ∷ []) ∷ (op ConstF 0 (1
    ∷ []) [] (3879814962 ∷ 874165449 ∷ []) ∷ fork 0 3 7 ∷ []) ∷ (op3 Cat 6 6 6 ∷ []) ∷ []) (at (upto 20) [])
    (registers 7 (6 ∷ 0 ∷ 0 ∷ 1 ∷ 6 ∷ 0 ∷ 0 ∷ 9 ∷ 9 ∷ 9 ∷ 77 ∷ [])) (operands 2 (6 ∷ 5 ∷ 0 ∷ absent ∷ 999 ∷ 0 ∷ 999
    ∷ 0 ∷ absent ∷ 999 ∷ [])) (beside [] [] (4 ∷ 7 ∷ 8 ∷ 4 ∷ []))) 62 8248 800 (done 4 11 10) ((1 ∷ 0 ∷ 5 ∷ 3 ∷ 8 ∷ 4
    ∷ []) ∷ (2 ∷ 5 ∷ 8 ∷ 3 ∷ 9 ∷ 6 ∷ []) ∷ (3 ∷ 8 ∷ 3 ∷ 3 ∷ 10 ∷ 8 ∷ []) ∷ (4 ∷ 3 ∷ 2 ∷ 3 ∷ 11 ∷ 10 ∷ []) ∷ [])
    (pic ((const 6 56 ∷ op Br 0 [] [] (1 ∷ 7 ∷ 7 ∷ 2 ∷ 8 ∷ 3 ∷ []) ∷ []) ∷ (fork 0 4 5 ∷ []) ∷ (op2 Alloc 10 6
    ∷ op Cat 0 (10 ∷ 6 ∷ 6 ∷ []) (8 ∷ 2 ∷ []) (1837 ∷ 3 ∷ 1 ∷ 2 ∷ 5 ∷ 3 ∷ []) ∷ op CallNative 1 (10 ∷ []) (0 ∷ 1
    ∷ []) [] ∷ op0 Unreachable ∷ []) ∷ (op2 Deref 1 0 ∷ op2 Output 1 1 ∷ op CondBr 0 (1 ∷ []) [] (2 ∷ 4 ∷ 5 ∷ 4 ∷ 4
    ∷ 5 ∷ 6 ∷ []) ∷ []) ∷ (op2 Output 6 6 ∷ op Case 0 (6 ∷ []) [] (96 ∷ 8 ∷ 8 ∷ 2 ∷ 0 ∷ 7 ∷ []) ∷ [])
    ∷ (op3 LGet 0 0 0 ∷ fork 6 8 6 ∷ []) ∷ (op3 LGet 1 0 6 ∷ op0 Ret ∷ []) ∷ (op Case 0 (0 ∷ []) [] (95 ∷ []) ∷ [])
    ∷ (op ConstF 0 (1 ∷ []) [] (3879814962 ∷ 874165449 ∷ []) ∷ fork 0 3 7 ∷ []) ∷ (op3 Cat 6 6 6 ∷ []) ∷ []) (at (0
    ∷ 4 ∷ 5 ∷ 1 ∷ 2 ∷ 3 ∷ range 6 14) []) (registers 11 (6 ∷ 0 ∷ 0 ∷ 1 ∷ 6 ∷ replicate 6 0)) (operands 10 (6 ∷ 5 ∷ 6
    ∷ 7 ∷ 6 ∷ 8 ∷ 6 ∷ 9 ∷ 6 ∷ 10 ∷ [])) (beside [] [] (4 ∷ 7 ∷ 8 ∷ 4 ∷ [])))

-- seed 325: short 0, short by a register, the Rust as it is stops
abbrev pub s325 : Row
s325 =
    stays (pic ((const 7 39 ∷ op3 SigVal 5 7 7 ∷ op2 Move 4 7 ∷ op2 Alloc 2 4 ∷ op Cat 0 (2 ∷ 7 ∷ 7 ∷ []) (0 ∷ 2
    ∷ []) [] ∷ op2 LayoutOf 3 2 ∷ op3 BoolOp 6 4 5 ∷ op Store 3 (2 ∷ 2 ∷ []) [] [] ∷ op MakeDope 0 (2 ∷ []) (1 ∷ 1
    ∷ []) (7 ∷ 2 ∷ 1 ∷ 0 ∷ 8 ∷ 7 ∷ []) ∷ op Index 0 (4 ∷ 2 ∷ 4 ∷ []) [] (7 ∷ 4 ∷ 4 ∷ 6 ∷ 8 ∷ 2 ∷ 6 ∷ [])
    ∷ op Br 0 [] [] (4 ∷ 2 ∷ 4 ∷ 0 ∷ 8 ∷ 1 ∷ 2 ∷ []) ∷ []) ∷ (op0 Ret ∷ []) ∷ (op3 Pos 1 0 0 ∷ op Bin 4 (0 ∷ 7 ∷ 4
    ∷ []) [] (6 ∷ 0 ∷ 0 ∷ 4 ∷ 3 ∷ 6 ∷ 8 ∷ []) ∷ op CondBr 0 (1 ∷ []) [] (1 ∷ 3 ∷ 3 ∷ 0 ∷ 7 ∷ 5 ∷ 7 ∷ []) ∷ [])
    ∷ (op ConstF 0 (1 ∷ []) [] (2500775947 ∷ 2857339486 ∷ []) ∷ op2 Output 1 1 ∷ fork 7 8 6 ∷ []) ∷ (fork 0 3 2 ∷ [])
    ∷ (op0 Unreachable ∷ []) ∷ (fork 0 5 7 ∷ []) ∷ (op2 Output 1 1 ∷ op1 Ret 0 ∷ []) ∷ (op0 Ret ∷ []) ∷ []) (at
    (upto 24) []) (registers 8 (1 ∷ 0 ∷ 0 ∷ 1 ∷ 0 ∷ 4 ∷ 0 ∷ 1 ∷ 77 ∷ 77 ∷ 7 ∷ 9 ∷ 77 ∷ [])) (operands 2 (2 ∷ 4 ∷ 999
    ∷ 999 ∷ absent ∷ [])) (beside [] [] [])) 62 8248 800 (short 0 8 2)

abbrev pub rows2 : List Row
rows2 =
    s40 ∷ s46 ∷ s47 ∷ s50 ∷ s51 ∷ s54 ∷ s57 ∷ s59 ∷ s65 ∷ s70 ∷ s95 ∷ s148 ∷ s170 ∷ s173 ∷ s183 ∷ s204 ∷ s211 ∷ s260
    ∷ s292 ∷ s325 ∷ []
