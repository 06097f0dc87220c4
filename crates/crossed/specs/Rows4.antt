-- Pictures by seed and what the Rust makes of them (see proofs/Crossed), page 4: of the first 4000 seeds of the generator, those that show
-- something new. Printed by
-- `compare crossed` in tests/rust, and again by its compare.sh: not to be edited. Assumes nothing.
use Rattle.std.specs.Prelude.{List, [], ◌∷◌, ◌++◌, replicate}
use Rattle.words.specs.Lists.{range, upto}
use Rattle.model.specs.Kinds.{AddrOf, Alloc, Bin, BoolOp, BoundsLen, Br, CallNative, CallProt, Case, Cat}
use Rattle.model.specs.Kinds.{Check, Cmp, CondBr, Const, Cover, Deref, DopeLen, FCheck, FCmp, Field}
use Rattle.model.specs.Kinds.{IToF, Index, LGet, LayoutOf, Load, MakeDope, Move, Now, Output, Pos}
use Rattle.model.specs.Kinds.{Report, Ret, Select, SigRead, SigReadScalar, SigVal, Store, Suspend, Unreachable, WaitOn}
use Rattle.model.specs.Picture.{absent}
use Rattle.model.specs.Build.{op}
use Rattle.crossed.specs.Row.{Row, pic, at, registers, operands, beside, op0, op1, op2, op3, op4, br, fork, const, moves, stays, done, short}

-- seed 1223: a second writer decides, chain of 4, done 1, moves with replay, moves without vias, new Sig, rule 6
-- decides, target before x, target t
abbrev pub s1223 : Row
s1223 =
    moves (pic ((op Const 0 (7 ∷ []) [] (12 ∷ 0 ∷ 4 ∷ 4 ∷ 3 ∷ 6 ∷ 6 ∷ []) ∷ op Const 0 (7 ∷ []) [] (12 ∷ 0 ∷ 5 ∷ 1 ∷ 3
    ∷ 1 ∷ 3 ∷ []) ∷ op AddrOf 4 (8 ∷ []) [] [] ∷ br 5 ∷ []) ∷ (br 9 ∷ []) ∷ (op2 Output 0 0 ∷ op0 Unreachable ∷ [])
    ∷ (op3 Cat 0 0 0 ∷ []) ∷ (op3 Pos 1 1 0 ∷ op0 Ret ∷ []) ∷ (op2 Alloc 2 7 ∷ op Cat 0 (2 ∷ 7 ∷ 7 ∷ []) (0 ∷ 4 ∷ [])
    (1703 ∷ []) ∷ op3 Index 3 8 7 ∷ op3 Index 6 2 7 ∷ op Alloc 0 (5 ∷ 7 ∷ []) [] (8 ∷ 7 ∷ 6 ∷ 4 ∷ 5 ∷ 2 ∷ 7 ∷ [])
    ∷ op CallNative 1 [] (4 ∷ 1 ∷ []) [] ∷ br 1 ∷ []) ∷ (op3 Field 1 7 0 ∷ op Unreachable 0 [] [] (1 ∷ 7 ∷ 7 ∷ 3 ∷ 0
    ∷ 2 ∷ []) ∷ []) ∷ (fork 7 4 8 ∷ []) ∷ (op1 WaitOn 1 ∷ br 10 ∷ []) ∷ (op Br 0 [] [] (7 ∷ 1 ∷ 5 ∷ 2 ∷ 5 ∷ 5 ∷ 6
    ∷ []) ∷ []) ∷ (fork 7 2 6 ∷ []) ∷ []) (at (upto 24) []) (registers 9 (4 ∷ 0 ∷ 0 ∷ 1 ∷ 1 ∷ 1 ∷ 4 ∷ 0 ∷ 4 ∷ 7 ∷ 77
    ∷ 77 ∷ 7 ∷ 9 ∷ 7 ∷ 77 ∷ 77 ∷ [])) (operands 5 (7 ∷ 7 ∷ 7 ∷ 7 ∷ 5 ∷ absent ∷ absent ∷ 999 ∷ 0 ∷ absent ∷ []))
    (beside [] [] (2 ∷ 4 ∷ []))) 78 8312 800 (done 1 12 5) ((1 ∷ 5 ∷ 4 ∷ 3 ∷ 12 ∷ 5 ∷ []) ∷ [])
    (pic ((op Const 0 (7 ∷ []) [] (12 ∷ 0 ∷ 4 ∷ 4 ∷ 3 ∷ 6 ∷ 6 ∷ []) ∷ op Const 0 (7 ∷ []) [] (12 ∷ 0 ∷ 5 ∷ 1 ∷ 3 ∷ 1
    ∷ 3 ∷ []) ∷ op AddrOf 4 (8 ∷ []) [] [] ∷ br 5 ∷ []) ∷ (br 9 ∷ []) ∷ (op2 Output 0 0 ∷ op0 Unreachable ∷ [])
    ∷ (op3 Cat 0 0 0 ∷ []) ∷ (op3 Index 9 8 7 ∷ op3 Index 10 2 7 ∷ op CallNative 1 [] (4 ∷ 1 ∷ []) [] ∷ op3 Pos 1 1 0
    ∷ op0 Ret ∷ []) ∷ (op2 Alloc 2 7 ∷ op Cat 0 (2 ∷ 7 ∷ 7 ∷ []) (0 ∷ 4 ∷ []) (1703 ∷ []) ∷ op Alloc 0 (5 ∷ 7 ∷ []) []
    (8 ∷ 7 ∷ 6 ∷ 4 ∷ 5 ∷ 2 ∷ 7 ∷ []) ∷ br 1 ∷ []) ∷ (op3 Field 1 7 0 ∷ op Unreachable 0 [] [] (1 ∷ 7 ∷ 7 ∷ 3 ∷ 0 ∷ 2
    ∷ []) ∷ []) ∷ (fork 7 4 8 ∷ []) ∷ (op1 WaitOn 1 ∷ br 10 ∷ []) ∷ (op Br 0 [] [] (7 ∷ 1 ∷ 5 ∷ 2 ∷ 5 ∷ 5 ∷ 6 ∷ [])
    ∷ []) ∷ (fork 7 2 6 ∷ []) ∷ []) (at (upto 8 ++ 12 ∷ 13 ∷ 15 ∷ 8 ∷ 9 ∷ 10 ∷ 11 ∷ 14 ∷ range 16 8) []) (registers 12
    (4 ∷ 0 ∷ 0 ∷ 1 ∷ 1 ∷ 1 ∷ 4 ∷ 0 ∷ 4 ∷ 1 ∷ 4 ∷ 0 ∷ 7 ∷ 9 ∷ 7 ∷ 77 ∷ 77 ∷ [])) (operands 5 (7 ∷ 7 ∷ 7 ∷ 7 ∷ 5
    ∷ absent ∷ absent ∷ 999 ∷ 0 ∷ absent ∷ [])) (beside [] [] (2 ∷ 4 ∷ [])))

-- seed 1246: chain of 1, chain of 2, done 4, moves with replay, moves without vias, target after x, target t
abbrev pub s1246 : Row
s1246 =
    moves (pic ((op Const 0 (7 ∷ []) [] (0 ∷ 4294967040 ∷ []) ∷ op1 AddrOf 8 ∷ op2 Move 2 7 ∷ op3 FCheck 7 0 7
    ∷ op2 Alloc 5 7 ∷ op3 SigVal 6 7 2 ∷ op2 Alloc 4 7 ∷ op Cat 0 (5 ∷ 2 ∷ 7 ∷ []) [] (13815 ∷ []) ∷ br 1 ∷ [])
    ∷ (fork 1 2 9 ∷ []) ∷ (fork 1 3 8 ∷ []) ∷ (op CondBr 0 (0 ∷ []) [] (4 ∷ 7 ∷ 8 ∷ 8 ∷ 3 ∷ 7 ∷ 7 ∷ []) ∷ [])
    ∷ (op3 LGet 1 7 0 ∷ op2 Output 0 0 ∷ fork 1 6 5 ∷ []) ∷ (op2 Output 7 7 ∷ op2 Output 0 0 ∷ op0 Ret ∷ [])
    ∷ (op Unreachable 0 [] [] (7 ∷ 6 ∷ 7 ∷ 7 ∷ 3 ∷ 7 ∷ []) ∷ []) ∷ [] ∷ (op Deref 0 (0 ∷ 1 ∷ []) [] (1 ∷ 8 ∷ 4 ∷ 2 ∷ 2
    ∷ 5 ∷ 5 ∷ []) ∷ op Ret 0 [] [] (7 ∷ 8 ∷ 0 ∷ 2 ∷ 5 ∷ 6 ∷ 8 ∷ []) ∷ []) ∷ (op0 Unreachable ∷ []) ∷ (op3 Cat 0 0 0
    ∷ []) ∷ []) (at (upto 23) []) (registers 9 (0 ∷ 1 ∷ 1 ∷ 0 ∷ 6 ∷ 0 ∷ 1 ∷ 0 ∷ 4 ∷ 77 ∷ 7 ∷ 9 ∷ 7 ∷ 77 ∷ 7 ∷ 7 ∷ 7
    ∷ 7 ∷ 9 ∷ 7 ∷ 7 ∷ 9 ∷ 9 ∷ 77 ∷ 9 ∷ 7 ∷ 9 ∷ 9 ∷ 7 ∷ [])) (operands 0 (999 ∷ absent ∷ 0 ∷ [])) (beside [] [] (6 ∷ 4
    ∷ 3 ∷ 9 ∷ []))) 102 8408 800 (done 4 25 0) ((1 ∷ 0 ∷ 2 ∷ 5 ∷ 13 ∷ 0 ∷ []) ∷ (2 ∷ 2 ∷ 3 ∷ 5 ∷ 17 ∷ 0 ∷ []) ∷ (3 ∷ 3
    ∷ 4 ∷ 5 ∷ 21 ∷ 0 ∷ []) ∷ (4 ∷ 4 ∷ 6 ∷ 5 ∷ 25 ∷ 0 ∷ []) ∷ [])
    (pic ((op Const 0 (7 ∷ []) [] (0 ∷ 4294967040 ∷ []) ∷ op1 AddrOf 8 ∷ op3 FCheck 7 0 7 ∷ br 1 ∷ []) ∷ (fork 1 2 9
    ∷ []) ∷ (fork 1 3 8 ∷ []) ∷ (op CondBr 0 (0 ∷ []) [] (4 ∷ 7 ∷ 8 ∷ 8 ∷ 3 ∷ 7 ∷ 7 ∷ []) ∷ []) ∷ (op3 LGet 1 7 0
    ∷ op2 Output 0 0 ∷ fork 1 6 5 ∷ []) ∷ (op2 Output 7 7 ∷ op2 Output 0 0 ∷ op0 Ret ∷ []) ∷ (op2 Move 21 7
    ∷ op2 Alloc 22 7 ∷ op3 SigVal 23 7 21 ∷ op2 Alloc 24 7 ∷ op Cat 0 (22 ∷ 21 ∷ 7 ∷ []) [] (13815 ∷ [])
    ∷ op Unreachable 0 [] [] (7 ∷ 6 ∷ 7 ∷ 7 ∷ 3 ∷ 7 ∷ []) ∷ []) ∷ [] ∷ (op Deref 0 (0 ∷ 1 ∷ []) [] (1 ∷ 8 ∷ 4 ∷ 2 ∷ 2
    ∷ 5 ∷ 5 ∷ []) ∷ op Ret 0 [] [] (7 ∷ 8 ∷ 0 ∷ 2 ∷ 5 ∷ 6 ∷ 8 ∷ []) ∷ []) ∷ (op0 Unreachable ∷ []) ∷ (op3 Cat 0 0 0
    ∷ []) ∷ []) (at (0 ∷ 1 ∷ 3 ∷ range 8 10 ++ 2 ∷ 4 ∷ 5 ∷ 6 ∷ 7 ∷ range 18 5) []) (registers 25 (0 ∷ 1 ∷ 1 ∷ 0 ∷ 6
    ∷ 0 ∷ 1 ∷ 0 ∷ 4 ∷ 1 ∷ 0 ∷ 1 ∷ 6 ∷ 1 ∷ 0 ∷ 1 ∷ 6 ∷ 1 ∷ 0 ∷ 1 ∷ 6 ∷ 1 ∷ 0 ∷ 1 ∷ 6 ∷ 7 ∷ 9 ∷ 9 ∷ 7 ∷ [])) (operands 0
    (999 ∷ absent ∷ 0 ∷ [])) (beside [] [] (6 ∷ 4 ∷ 3 ∷ 9 ∷ [])))

-- seed 1287: a register reused, chain of 1, moves with vias, moves without replay, new list, short 7, short by a
-- register, target after x, target before x, target t
abbrev pub s1287 : Row
s1287 =
    moves (pic ((const 6 52 ∷ op0 Ret ∷ []) ∷ (op Bin 4 (3 ∷ 6 ∷ 6 ∷ []) [] [] ∷ op Cmp 0 (3 ∷ 6 ∷ 3 ∷ []) [] (7 ∷ 3
    ∷ 3 ∷ 6 ∷ 0 ∷ 3 ∷ 8 ∷ []) ∷ op2 Alloc 5 3 ∷ op3 Cat 5 3 3 ∷ op3 Cat 5 3 3 ∷ op Cat 0 (5 ∷ 3 ∷ 6 ∷ []) [] (0 ∷ 2
    ∷ 5 ∷ 5 ∷ 4 ∷ 0 ∷ 7 ∷ []) ∷ op2 LayoutOf 2 5 ∷ op3 SigVal 4 6 3 ∷ op MakeDope 0 (5 ∷ []) (1 ∷ 1 ∷ []) []
    ∷ op2 Alloc 4 3 ∷ op MakeDope 0 (4 ∷ []) (2 ∷ 3 ∷ []) [] ∷ op CondBr 0 (6 ∷ []) [] (2 ∷ 3 ∷ 5 ∷ 7 ∷ 8 ∷ 7 ∷ 2
    ∷ []) ∷ []) ∷ (fork 0 1 4 ∷ []) ∷ (op1 Now 1 ∷ op0 Unreachable ∷ []) ∷ [] ∷ []) (at (upto 17) (0 ∷ 0 ∷ 0 ∷ 0 ∷ 9
    ∷ 0 ∷ 0 ∷ 0 ∷ 15 ∷ 0 ∷ 0 ∷ 0 ∷ 4 ∷ 0 ∷ 0 ∷ 0 ∷ 0 ∷ [])) (registers 7 (4 ∷ 0 ∷ 0 ∷ 0 ∷ 0 ∷ 5 ∷ 5 ∷ 9 ∷ 7 ∷ 9 ∷ 77
    ∷ 77 ∷ 7 ∷ 7 ∷ 77 ∷ 9 ∷ 77 ∷ 77 ∷ 9 ∷ 77 ∷ 9 ∷ 77 ∷ 9 ∷ 7 ∷ 9 ∷ 77 ∷ 7 ∷ 77 ∷ 77 ∷ 9 ∷ 77 ∷ 9 ∷ 7 ∷ 77 ∷ 77 ∷ 9
    ∷ 9 ∷ 7 ∷ [])) (operands 5 (4 ∷ 1 ∷ 2 ∷ 3 ∷ 4 ∷ 0 ∷ absent ∷ absent ∷ 999 ∷ 0 ∷ absent ∷ 0 ∷ absent ∷ 999 ∷ 0 ∷ 0
    ∷ replicate 5 999 ++ 0 ∷ 999 ∷ 999 ∷ 999 ∷ 0 ∷ 999 ∷ 0 ∷ 0 ∷ [])) (beside [] [] [])) 96 8384 800 (short 7 35 26)
    ((1 ∷ 1 ∷ 2 ∷ 11 ∷ 11 ∷ 8 ∷ []) ∷ (2 ∷ 2 ∷ 1 ∷ 11 ∷ 15 ∷ 11 ∷ []) ∷ (3 ∷ 1 ∷ 2 ∷ 11 ∷ 19 ∷ 14 ∷ []) ∷ (4 ∷ 2 ∷ 1
    ∷ 11 ∷ 23 ∷ 17 ∷ []) ∷ (5 ∷ 1 ∷ 2 ∷ 11 ∷ 27 ∷ 20 ∷ []) ∷ (6 ∷ 2 ∷ 1 ∷ 11 ∷ 31 ∷ 23 ∷ []) ∷ (7 ∷ 1 ∷ 2 ∷ 11 ∷ 35
    ∷ 26 ∷ []) ∷ [])
    (pic ((const 6 52 ∷ op0 Ret ∷ []) ∷ (op CondBr 0 (6 ∷ []) [] (2 ∷ 3 ∷ 5 ∷ 7 ∷ 8 ∷ 7 ∷ 2 ∷ []) ∷ []) ∷ (op Bin 4
    (31 ∷ 6 ∷ 6 ∷ []) [] [] ∷ op Cmp 0 (32 ∷ 6 ∷ 31 ∷ []) [] (7 ∷ 3 ∷ 3 ∷ 6 ∷ 0 ∷ 3 ∷ 8 ∷ []) ∷ op2 Alloc 33 32
    ∷ op3 Cat 33 32 32 ∷ op3 Cat 33 32 32 ∷ op Cat 0 (33 ∷ 32 ∷ 6 ∷ []) [] (0 ∷ 2 ∷ 5 ∷ 5 ∷ 4 ∷ 0 ∷ 7 ∷ [])
    ∷ op2 LayoutOf 31 33 ∷ op3 SigVal 34 6 32 ∷ op MakeDope 0 (33 ∷ []) (1 ∷ 1 ∷ []) [] ∷ op2 Alloc 34 32
    ∷ op MakeDope 0 (34 ∷ []) (23 ∷ 3 ∷ []) [] ∷ fork 0 1 4 ∷ []) ∷ (op1 Now 1 ∷ op0 Unreachable ∷ []) ∷ [] ∷ []) (at
    (0 ∷ 1 ∷ 13 ∷ range 2 11 ++ 14 ∷ 15 ∷ 16 ∷ []) (replicate 5 0 ++ 9 ∷ 0 ∷ 0 ∷ 0 ∷ 15 ∷ 0 ∷ 0 ∷ 0 ∷ 4 ∷ 0 ∷ 0 ∷ 0
    ∷ [])) (registers 35 (4 ∷ 0 ∷ 0 ∷ 0 ∷ 0 ∷ 5 ∷ 5 ∷ 0 ∷ 0 ∷ 5 ∷ 0 ∷ 0 ∷ 0 ∷ 5 ∷ 0 ∷ 0 ∷ 0 ∷ 5 ∷ 0 ∷ 0 ∷ 0 ∷ 5 ∷ 0
    ∷ 0 ∷ 0 ∷ 5 ∷ 0 ∷ 0 ∷ 0 ∷ 5 ∷ 0 ∷ 0 ∷ 0 ∷ 5 ∷ 0 ∷ 9 ∷ 9 ∷ 7 ∷ [])) (operands 26 (4 ∷ 1 ∷ 2 ∷ 3 ∷ 4 ∷ 7 ∷ 8 ∷ 10
    ∷ 11 ∷ 12 ∷ 14 ∷ 15 ∷ 16 ∷ 18 ∷ 19 ∷ 20 ∷ 22 ∷ 23 ∷ 24 ∷ 26 ∷ 27 ∷ 28 ∷ 30 ∷ 31 ∷ 32 ∷ 34 ∷ 999 ∷ 0 ∷ 0 ∷ []))
    (beside [] [] []))

-- seed 1602: a constant just past a length decides, chain of 1, done 1, moves with replay, moves without vias, rule 6
-- decides, target before x, target renamed, target t
abbrev pub s1602 : Row
s1602 =
    moves (pic ((op Const 0 (6 ∷ []) [] (absent ∷ 4294967039 ∷ []) ∷ op Br 0 [] [] (3 ∷ 8 ∷ 8 ∷ 0 ∷ 8 ∷ 3 ∷ 4 ∷ [])
    ∷ []) ∷ (op0 Ret ∷ []) ∷ (op Report 0 (2 ∷ 2 ∷ 1 ∷ []) [] (8 ∷ 4 ∷ 3 ∷ 1 ∷ 2 ∷ 1 ∷ 7 ∷ []) ∷ op Store 3 (6 ∷ 5
    ∷ []) [] [] ∷ op Ret 0 (0 ∷ []) [] (7 ∷ 2 ∷ 7 ∷ 4 ∷ 5 ∷ 7 ∷ []) ∷ []) ∷ (op3 FCmp 0 2 2 ∷ op2 Alloc 4 6 ∷ op Cat 0
    (4 ∷ 6 ∷ 6 ∷ []) (0 ∷ 4 ∷ []) [] ∷ op4 BoundsLen 2 6 6 4 ∷ op Load 2 (5 ∷ 4 ∷ []) [] [] ∷ fork 6 2 1 ∷ [])
    ∷ (op3 Cat 1 1 1 ∷ []) ∷ []) (at (upto 13) []) (registers 7 (2 ∷ 0 ∷ 1 ∷ 4 ∷ 1 ∷ 0 ∷ 2 ∷ 77 ∷ 7 ∷ 9 ∷ 77 ∷ 9 ∷ 77
    ∷ [])) (operands 4 (4 ∷ 6 ∷ 4 ∷ 4 ∷ [])) (beside [] [] (2 ∷ []))) 46 8184 800 (done 1 10 4) ((1 ∷ 3 ∷ 2 ∷ 3 ∷ 10
    ∷ 4 ∷ []) ∷ [])
    (pic ((op Const 0 (6 ∷ []) [] (absent ∷ 4294967039 ∷ []) ∷ op Br 0 [] [] (3 ∷ 8 ∷ 8 ∷ 0 ∷ 8 ∷ 3 ∷ 4 ∷ []) ∷ [])
    ∷ (op0 Ret ∷ []) ∷ (op3 FCmp 7 2 2 ∷ op4 BoundsLen 8 6 6 4 ∷ op Load 2 (9 ∷ 4 ∷ []) [] [] ∷ op Report 0 (8 ∷ 8 ∷ 1
    ∷ []) [] (8 ∷ 4 ∷ 3 ∷ 1 ∷ 2 ∷ 1 ∷ 7 ∷ []) ∷ op Store 3 (6 ∷ 9 ∷ []) [] [] ∷ op Ret 0 (7 ∷ []) [] (7 ∷ 2 ∷ 7 ∷ 4
    ∷ 5 ∷ 7 ∷ []) ∷ []) ∷ (op2 Alloc 4 6 ∷ op Cat 0 (4 ∷ 6 ∷ 6 ∷ []) (0 ∷ 4 ∷ []) [] ∷ fork 6 2 1 ∷ [])
    ∷ (op3 Cat 1 1 1 ∷ []) ∷ []) (at (0 ∷ 1 ∷ 2 ∷ 6 ∷ 9 ∷ 10 ∷ 3 ∷ 4 ∷ 5 ∷ 7 ∷ 8 ∷ 11 ∷ 12 ∷ []) []) (registers 10 (2
    ∷ 0 ∷ 1 ∷ 4 ∷ 1 ∷ 0 ∷ 2 ∷ 2 ∷ 1 ∷ 0 ∷ 77 ∷ 9 ∷ 77 ∷ [])) (operands 4 (4 ∷ 6 ∷ 4 ∷ 4 ∷ [])) (beside [] [] (2
    ∷ [])))

-- seed 1674: a register reused, chain of 1, moves without replay, moves without vias, new Sig, short 4, short by a
-- register, target after x, target before x, target t
abbrev pub s1674 : Row
s1674 =
    moves (pic ((op1 Const 9 ∷ op AddrOf 5 (10 ∷ []) [] [] ∷ op0 Ret ∷ []) ∷ (op3 Cmp 3 9 9 ∷ op2 Alloc 8 9
    ∷ op3 Cat 8 9 9 ∷ op Check 3 (3 ∷ 8 ∷ 8 ∷ []) [] (0 ∷ 7 ∷ 8 ∷ 8 ∷ 0 ∷ 2 ∷ 8 ∷ []) ∷ op Check 3 (9 ∷ 9 ∷ 8
    ∷ []) [] [] ∷ op Check 3 (3 ∷ 3 ∷ 3 ∷ []) [] [] ∷ op Move 0 (7 ∷ 8 ∷ []) [] (5 ∷ 3 ∷ 0 ∷ 2 ∷ 0 ∷ 3 ∷ 1 ∷ [])
    ∷ op2 LayoutOf 4 7 ∷ op2 SigReadScalar 5 1 ∷ op Cat 0 (7 ∷ 9 ∷ 3 ∷ []) [] (0 ∷ 6 ∷ 5 ∷ 5 ∷ 8 ∷ 1 ∷ 7 ∷ [])
    ∷ op2 Alloc 4 9 ∷ fork 0 2 4 ∷ []) ∷ (fork 0 1 3 ∷ []) ∷ (op Ret 0 [] [] (7 ∷ 0 ∷ 7 ∷ 1 ∷ 7 ∷ 6 ∷ 8 ∷ []) ∷ [])
    ∷ (op Ret 0 [] [] (8 ∷ 6 ∷ 6 ∷ 8 ∷ 1 ∷ 0 ∷ 6 ∷ []) ∷ []) ∷ []) (at (upto 18) []) (registers 11 (1 ∷ 4 ∷ 5 ∷ 4 ∷ 0
    ∷ 0 ∷ 5 ∷ 0 ∷ 4 ∷ 0 ∷ 0 ∷ 9 ∷ 77 ∷ 77 ∷ 9 ∷ 9 ∷ 9 ∷ replicate 5 77 ++ 9 ∷ 77 ∷ 7 ∷ 7 ∷ 9 ∷ 77 ∷ 7 ∷ 77 ∷ 9 ∷ 9 ∷ 9
    ∷ 7 ∷ 9 ∷ 7 ∷ 77 ∷ 77 ∷ 7 ∷ 77 ∷ [])) (operands 0 []) (beside [] [] [])) 100 8400 800 (short 4 35 0) ((1 ∷ 1 ∷ 2
    ∷ 11 ∷ 17 ∷ 0 ∷ []) ∷ (2 ∷ 2 ∷ 1 ∷ 11 ∷ 23 ∷ 0 ∷ []) ∷ (3 ∷ 1 ∷ 2 ∷ 11 ∷ 29 ∷ 0 ∷ []) ∷ (4 ∷ 2 ∷ 1 ∷ 11 ∷ 35 ∷ 0
    ∷ []) ∷ [])
    (pic ((op1 Const 9 ∷ op AddrOf 5 (10 ∷ []) [] [] ∷ op0 Ret ∷ []) ∷ (op3 Cmp 29 9 9 ∷ op2 Alloc 31 9
    ∷ op3 Cat 31 9 9 ∷ op Check 3 (29 ∷ 31 ∷ 31 ∷ []) [] (0 ∷ 7 ∷ 8 ∷ 8 ∷ 0 ∷ 2 ∷ 8 ∷ []) ∷ op Check 3 (9 ∷ 9 ∷ 31
    ∷ []) [] [] ∷ op Check 3 (29 ∷ 29 ∷ 29 ∷ []) [] [] ∷ op Move 0 (33 ∷ 31 ∷ []) [] (5 ∷ 3 ∷ 0 ∷ 2 ∷ 0 ∷ 3 ∷ 1 ∷ [])
    ∷ op2 LayoutOf 34 33 ∷ op2 SigReadScalar 34 1 ∷ op Cat 0 (33 ∷ 9 ∷ 29 ∷ []) [] (0 ∷ 6 ∷ 5 ∷ 5 ∷ 8 ∷ 1 ∷ 7 ∷ [])
    ∷ op2 Alloc 33 9 ∷ fork 0 2 4 ∷ []) ∷ (fork 0 1 3 ∷ []) ∷ (op Ret 0 [] [] (7 ∷ 0 ∷ 7 ∷ 1 ∷ 7 ∷ 6 ∷ 8 ∷ []) ∷ [])
    ∷ (op Ret 0 [] [] (8 ∷ 6 ∷ 6 ∷ 8 ∷ 1 ∷ 0 ∷ 6 ∷ []) ∷ []) ∷ []) (at (upto 18) []) (registers 35 (1 ∷ 4 ∷ 5 ∷ 4 ∷ 0
    ∷ 0 ∷ 5 ∷ 0 ∷ 4 ∷ 0 ∷ 0 ∷ 4 ∷ 0 ∷ 4 ∷ 0 ∷ 0 ∷ 0 ∷ 4 ∷ 0 ∷ 4 ∷ 0 ∷ 0 ∷ 0 ∷ 4 ∷ 0 ∷ 4 ∷ 0 ∷ 0 ∷ 0 ∷ 4 ∷ 0 ∷ 4 ∷ 0
    ∷ 0 ∷ 0 ∷ 7 ∷ 77 ∷ 77 ∷ 7 ∷ 77 ∷ [])) (operands 0 []) (beside [] [] []))

-- seed 1720: a register reused, chain of 1, moves without replay, moves without vias, new Sig, new list, short 3,
-- short by a register, target after x, target before x, target t
abbrev pub s1720 : Row
s1720 =
    moves (pic ((const 9 46 ∷ op Unreachable 0 [] [] (8 ∷ 7 ∷ 1 ∷ 4 ∷ 8 ∷ 6 ∷ 1 ∷ []) ∷ []) ∷ (op BoolOp 1 (3 ∷ 9
    ∷ []) [] [] ∷ op Check 3 (9 ∷ 1 ∷ 3 ∷ []) [] [] ∷ op CallNative 1 [] (0 ∷ 1 ∷ []) [] ∷ op2 Alloc 7 9 ∷ op Cmp 0 (2
    ∷ 3 ∷ 7 ∷ []) [] (6 ∷ 2 ∷ 1 ∷ 7 ∷ 6 ∷ 8 ∷ []) ∷ op Store 2 (7 ∷ 2 ∷ []) [] [] ∷ op MakeDope 0 (7 ∷ []) (1 ∷ []) []
    ∷ op2 Alloc 4 2 ∷ op Cat 0 (4 ∷ 9 ∷ 3 ∷ []) (1 ∷ 2 ∷ []) (45807 ∷ []) ∷ fork 0 2 3 ∷ []) ∷ (fork 9 1 4 ∷ [])
    ∷ (op1 Now 0 ∷ op Case 0 (1 ∷ []) [] (92 ∷ []) ∷ []) ∷ (op Ret 0 [] [] (4 ∷ 6 ∷ 4 ∷ 2 ∷ 6 ∷ 1 ∷ 4 ∷ []) ∷ [])
    ∷ []) (at (upto 16) []) (registers 10 (7 ∷ 0 ∷ 4 ∷ 4 ∷ 1 ∷ 7 ∷ 0 ∷ 1 ∷ 1 ∷ 3 ∷ 7 ∷ 9 ∷ 77 ∷ 77 ∷ 9 ∷ 77 ∷ 77 ∷ 77
    ∷ 9 ∷ 9 ∷ 9 ∷ 7 ∷ 7 ∷ 9 ∷ 7 ∷ 7 ∷ 77 ∷ 7 ∷ 77 ∷ [])) (operands 3 (3 ∷ 9 ∷ 9 ∷ 999 ∷ 999 ∷ 0 ∷ absent ∷ 0 ∷ absent
    ∷ 0 ∷ 999 ∷ [])) (beside [] [] [])) 78 8312 800 (short 3 25 6) ((1 ∷ 1 ∷ 2 ∷ 9 ∷ 15 ∷ 4 ∷ []) ∷ (2 ∷ 2 ∷ 1 ∷ 9
    ∷ 20 ∷ 5 ∷ []) ∷ (3 ∷ 1 ∷ 2 ∷ 9 ∷ 25 ∷ 6 ∷ []) ∷ [])
    (pic ((const 9 46 ∷ op Unreachable 0 [] [] (8 ∷ 7 ∷ 1 ∷ 4 ∷ 8 ∷ 6 ∷ 1 ∷ []) ∷ []) ∷ (fork 0 2 3 ∷ [])
    ∷ (op BoolOp 1 (20 ∷ 9 ∷ []) [] [] ∷ op Check 3 (9 ∷ 1 ∷ 20 ∷ []) [] [] ∷ op CallNative 1 [] (5 ∷ 1 ∷ []) []
    ∷ op2 Alloc 22 9 ∷ op Cmp 0 (23 ∷ 20 ∷ 22 ∷ []) [] (6 ∷ 2 ∷ 1 ∷ 7 ∷ 6 ∷ 8 ∷ []) ∷ op Store 2 (22 ∷ 23 ∷ []) [] []
    ∷ op MakeDope 0 (22 ∷ []) (1 ∷ []) [] ∷ op2 Alloc 22 23 ∷ op Cat 0 (22 ∷ 9 ∷ 20 ∷ []) (1 ∷ 2 ∷ []) (45807 ∷ [])
    ∷ fork 9 1 4 ∷ []) ∷ (op1 Now 0 ∷ op Case 0 (1 ∷ []) [] (92 ∷ []) ∷ []) ∷ (op Ret 0 [] [] (4 ∷ 6 ∷ 4 ∷ 2 ∷ 6 ∷ 1
    ∷ 4 ∷ []) ∷ []) ∷ []) (at (0 ∷ 1 ∷ 11 ∷ range 2 9 ++ 12 ∷ 13 ∷ 14 ∷ 15 ∷ []) []) (registers 25 (7 ∷ 0 ∷ 4 ∷ 4 ∷ 1
    ∷ 7 ∷ 0 ∷ 1 ∷ 1 ∷ 3 ∷ 4 ∷ 0 ∷ 1 ∷ 4 ∷ 0 ∷ 4 ∷ 0 ∷ 1 ∷ 4 ∷ 0 ∷ 4 ∷ 0 ∷ 1 ∷ 4 ∷ 0 ∷ 7 ∷ 77 ∷ 7 ∷ 77 ∷ []))
    (operands 6 (3 ∷ 9 ∷ 9 ∷ 10 ∷ 15 ∷ 20 ∷ absent ∷ 0 ∷ absent ∷ 0 ∷ 999 ∷ [])) (beside [] [] []))

-- seed 1981: a register reused, chain of 1, moves with vias, moves without replay, new list, short 5, short by an
-- operand, target after x, target before x, target t
abbrev pub s1981 : Row
s1981 =
    moves (pic ((const 6 34 ∷ op0 Ret ∷ []) ∷ (op2 Move 4 6 ∷ op3 Cmp 2 4 4 ∷ op2 Alloc 3 6 ∷ op Cat 0 (3 ∷ 2 ∷ 6
    ∷ []) (0 ∷ 4 ∷ []) [] ∷ op3 Cmp 5 4 2 ∷ op2 Alloc 4 5 ∷ op2 Move 2 4 ∷ op3 Field 1 1 0 ∷ op4 Select 2 5 5 5
    ∷ op Cat 0 (3 ∷ 2 ∷ 2 ∷ []) (4 ∷ 2 ∷ []) (64016 ∷ 8 ∷ 1 ∷ 8 ∷ 0 ∷ 3 ∷ 6 ∷ []) ∷ op Check 3 (2 ∷ 6 ∷ 5 ∷ []) [] (4
    ∷ 2 ∷ 2 ∷ 3 ∷ 6 ∷ 3 ∷ 5 ∷ []) ∷ op Load 1 (3 ∷ 3 ∷ []) [] [] ∷ op CondBr 0 (0 ∷ []) [] (2 ∷ 4 ∷ 5 ∷ 4 ∷ 4 ∷ 3
    ∷ []) ∷ []) ∷ (fork 0 3 5 ∷ []) ∷ (fork 6 1 6 ∷ []) ∷ (op0 Ret ∷ []) ∷ (op0 Cover ∷ []) ∷ (op Const 0 (1 ∷ []) []
    (2752489373 ∷ 2945121448 ∷ []) ∷ op Case 0 (1 ∷ []) [] (90 ∷ []) ∷ []) ∷ []) (at (upto 21) (replicate 5 0 ++ 29
    ∷ 0 ∷ 38 ∷ 0 ∷ 48 ∷ 15 ∷ 22 ∷ 0 ∷ 0 ∷ 4 ∷ 0 ∷ 0 ∷ 2 ∷ 0 ∷ 0 ∷ 47 ∷ [])) (registers 7 (1 ∷ 1 ∷ 3 ∷ 0 ∷ 0 ∷ 1 ∷ 4
    ∷ 77 ∷ 7 ∷ 9 ∷ 9 ∷ 7 ∷ 77 ∷ 9 ∷ 9 ∷ 7 ∷ 77 ∷ 7 ∷ 7 ∷ 7 ∷ 9 ∷ 7 ∷ 77 ∷ 77 ∷ 77 ∷ 9 ∷ 77 ∷ 7 ∷ 77 ∷ 77 ∷ 9 ∷ 7 ∷ 77
    ∷ 77 ∷ 77 ∷ 7 ∷ 7 ∷ 77 ∷ 77 ∷ [])) (operands 6 (3 ∷ 2 ∷ 3 ∷ 2 ∷ 3 ∷ 6 ∷ 999 ∷ 0 ∷ 999 ∷ 0 ∷ 999 ∷ absent ∷ absent
    ∷ 0 ∷ 0 ∷ 999 ∷ 0 ∷ absent ∷ absent ∷ 999 ∷ 0 ∷ 0 ∷ 999 ∷ 0 ∷ 999 ∷ 999 ∷ 999 ∷ 999 ∷ absent ∷ absent ∷ 999 ∷ 999
    ∷ 0 ∷ 0 ∷ 0 ∷ absent ∷ 999 ∷ absent ∷ absent ∷ 999 ∷ 0 ∷ [])) (beside [] [] [])) 106 8424 800 (short 5 27 36) ((1
    ∷ 1 ∷ 2 ∷ 11 ∷ 11 ∷ 12 ∷ []) ∷ (2 ∷ 2 ∷ 3 ∷ 11 ∷ 15 ∷ 18 ∷ []) ∷ (3 ∷ 3 ∷ 1 ∷ 11 ∷ 19 ∷ 24 ∷ []) ∷ (4 ∷ 1 ∷ 2 ∷ 11
    ∷ 23 ∷ 30 ∷ []) ∷ (5 ∷ 2 ∷ 3 ∷ 11 ∷ 27 ∷ 36 ∷ []) ∷ [])
    (pic ((const 6 34 ∷ op0 Ret ∷ []) ∷ (op3 Field 1 1 0 ∷ op CondBr 0 (0 ∷ []) [] (2 ∷ 4 ∷ 5 ∷ 4 ∷ 4 ∷ 3 ∷ []) ∷ [])
    ∷ (fork 0 3 5 ∷ []) ∷ (op2 Move 23 6 ∷ op3 Cmp 24 23 23 ∷ op2 Alloc 25 6 ∷ op Cat 0 (25 ∷ 24 ∷ 6 ∷ []) (30 ∷ 4
    ∷ []) [] ∷ op3 Cmp 26 23 24 ∷ op2 Alloc 23 26 ∷ op2 Move 24 23 ∷ op4 Select 24 26 26 26 ∷ op Cat 0 (25 ∷ 24 ∷ 24
    ∷ []) (34 ∷ 2 ∷ []) (64016 ∷ 8 ∷ 1 ∷ 8 ∷ 0 ∷ 3 ∷ 6 ∷ []) ∷ op Check 3 (24 ∷ 6 ∷ 26 ∷ []) [] (4 ∷ 2 ∷ 2 ∷ 3 ∷ 6 ∷ 3
    ∷ 5 ∷ []) ∷ op Load 1 (23 ∷ 25 ∷ []) [] [] ∷ fork 6 1 6 ∷ []) ∷ (op0 Ret ∷ []) ∷ (op0 Cover ∷ []) ∷ (op Const 0 (1
    ∷ []) [] (2752489373 ∷ 2945121448 ∷ []) ∷ op Case 0 (1 ∷ []) [] (90 ∷ []) ∷ []) ∷ []) (at (0 ∷ 1 ∷ 9 ∷ 14 ∷ 15
    ∷ range 2 7 ++ 10 ∷ 11 ∷ 12 ∷ 13 ∷ range 16 5) (0 ∷ 0 ∷ 48 ∷ 4 ∷ 0 ∷ 0 ∷ 0 ∷ 0 ∷ 29 ∷ 0 ∷ 38 ∷ 0 ∷ 15 ∷ 22 ∷ 0 ∷ 0
    ∷ 0 ∷ 2 ∷ 0 ∷ 0 ∷ 47 ∷ [])) (registers 27 (1 ∷ 1 ∷ 3 ∷ 0 ∷ 0 ∷ 1 ∷ 4 ∷ 0 ∷ 3 ∷ 0 ∷ 1 ∷ 0 ∷ 3 ∷ 0 ∷ 1 ∷ 0 ∷ 3 ∷ 0
    ∷ 1 ∷ 0 ∷ 3 ∷ 0 ∷ 1 ∷ 0 ∷ 3 ∷ 0 ∷ 1 ∷ 7 ∷ 77 ∷ 77 ∷ 9 ∷ 7 ∷ 77 ∷ 77 ∷ 77 ∷ 7 ∷ 7 ∷ 77 ∷ 77 ∷ [])) (operands 36 (3
    ∷ 2 ∷ 3 ∷ 2 ∷ 3 ∷ 6 ∷ 9 ∷ 8 ∷ 9 ∷ 8 ∷ 9 ∷ 6 ∷ 13 ∷ 12 ∷ 13 ∷ 12 ∷ 13 ∷ 6 ∷ 17 ∷ 16 ∷ 17 ∷ 16 ∷ 17 ∷ 6 ∷ 21 ∷ 20
    ∷ 21 ∷ 20 ∷ 21 ∷ 6 ∷ 25 ∷ 24 ∷ 25 ∷ 24 ∷ 25 ∷ 6 ∷ 999 ∷ absent ∷ absent ∷ 999 ∷ 0 ∷ [])) (beside [] [] []))

-- seed 1984: a register reused, chain of 1, done 4, moves with replay, moves with vias, new Sig, target after x,
-- target before x, target t
abbrev pub s1984 : Row
s1984 =
    moves (pic ((const 6 1 ∷ br 1 ∷ []) ∷ (op3 Cmp 5 6 6 ∷ op3 Cmp 3 6 5 ∷ op2 Alloc 2 3 ∷ op3 Cmp 5 5 3
    ∷ op4 BoundsLen 4 5 3 5 ∷ fork 0 10 9 ∷ []) ∷ (op2 Output 1 1 ∷ fork 1 4 3 ∷ []) ∷ (op0 Ret ∷ [])
    ∷ (op2 Output 6 6 ∷ fork 1 7 6 ∷ []) ∷ (op3 Cat 0 0 0 ∷ []) ∷ (op2 Output 6 6 ∷ op0 Ret ∷ []) ∷ (op1 Ret 0 ∷ [])
    ∷ [] ∷ (op0 Ret ∷ []) ∷ (op3 LGet 0 0 0 ∷ fork 1 2 8 ∷ []) ∷ []) (at (upto 20) (0 ∷ 36 ∷ 0 ∷ 30 ∷ 0 ∷ 34 ∷ 0 ∷ 0
    ∷ 32 ∷ 0 ∷ 0 ∷ 9 ∷ 30 ∷ replicate 7 0)) (registers 7 (1 ∷ 2 ∷ 4 ∷ 1 ∷ 0 ∷ 0 ∷ 0 ∷ 9 ∷ 77 ∷ 7 ∷ 9 ∷ 7 ∷ 77 ∷ 7 ∷ 77
    ∷ 77 ∷ 7 ∷ 9 ∷ 7 ∷ 9 ∷ 9 ∷ 77 ∷ 77 ∷ 7 ∷ 9 ∷ 77 ∷ 9 ∷ [])) (operands 0 []) (beside [] [] (7 ∷ 3 ∷ 8 ∷ 9
    ∷ []))) 98 8392 800 (done 4 27 0) ((1 ∷ 1 ∷ 10 ∷ 5 ∷ 12 ∷ 0 ∷ []) ∷ (2 ∷ 10 ∷ 2 ∷ 5 ∷ 17 ∷ 0 ∷ []) ∷ (3 ∷ 2 ∷ 4
    ∷ 5 ∷ 22 ∷ 0 ∷ []) ∷ (4 ∷ 4 ∷ 7 ∷ 5 ∷ 27 ∷ 0 ∷ []) ∷ [])
    (pic ((const 6 1 ∷ br 1 ∷ []) ∷ (fork 0 10 9 ∷ []) ∷ (op2 Output 1 1 ∷ fork 1 4 3 ∷ []) ∷ (op0 Ret ∷ [])
    ∷ (op2 Output 6 6 ∷ fork 1 7 6 ∷ []) ∷ (op3 Cat 0 0 0 ∷ []) ∷ (op2 Output 6 6 ∷ op0 Ret ∷ []) ∷ (op3 Cmp 22 6 6
    ∷ op3 Cmp 23 6 22 ∷ op2 Alloc 24 23 ∷ op3 Cmp 26 22 23 ∷ op4 BoundsLen 22 26 23 26 ∷ op1 Ret 0 ∷ []) ∷ []
    ∷ (op0 Ret ∷ []) ∷ (op3 LGet 0 0 0 ∷ fork 1 2 8 ∷ []) ∷ []) (at (0 ∷ 1 ∷ range 7 9 ++ range 2 5 ++ 16 ∷ 17 ∷ 18
    ∷ 19 ∷ []) (0 ∷ 36 ∷ 0 ∷ 32 ∷ 0 ∷ 0 ∷ 9 ∷ 30 ∷ 0 ∷ 0 ∷ 0 ∷ 0 ∷ 30 ∷ 0 ∷ 34 ∷ replicate 5 0)) (registers 27 (1 ∷ 2
    ∷ 4 ∷ 1 ∷ 0 ∷ 0 ∷ 0 ∷ 0 ∷ 1 ∷ 4 ∷ 0 ∷ 0 ∷ 0 ∷ 1 ∷ 4 ∷ 0 ∷ 0 ∷ 0 ∷ 1 ∷ 4 ∷ 0 ∷ 0 ∷ 0 ∷ 1 ∷ 4 ∷ 0 ∷ 0 ∷ []))
    (operands 0 []) (beside [] [] (7 ∷ 3 ∷ 8 ∷ 9 ∷ [])))

-- seed 2097: a register reused, chain of 1, chain of 2, done 4, moves without replay, moves without vias, new Sig,
-- target after x, target before x, target f, target t
abbrev pub s2097 : Row
s2097 =
    moves (pic ((op Const 0 (7 ∷ []) [] (64 ∷ 0 ∷ 7 ∷ 3 ∷ 5 ∷ 3 ∷ 5 ∷ []) ∷ op AddrOf 4 (8 ∷ []) [] (6 ∷ 4 ∷ 2 ∷ 2 ∷ 1
    ∷ 8 ∷ 1 ∷ []) ∷ op CallNative 1 [] (0 ∷ 1 ∷ []) [] ∷ op3 SigVal 6 7 7 ∷ op2 Alloc 4 7 ∷ op Cat 0 (4 ∷ 7 ∷ 7 ∷ [])
    (2 ∷ []) [] ∷ op2 SigRead 4 6 ∷ op4 Select 6 7 7 7 ∷ op3 Index 2 8 7 ∷ op Store 3 (4 ∷ 2 ∷ []) [] []
    ∷ op2 DopeLen 5 8 ∷ op LayoutOf 0 (3 ∷ 4 ∷ []) [] (8 ∷ 6 ∷ 0 ∷ 6 ∷ 6 ∷ 0 ∷ 4 ∷ []) ∷ op DopeLen 0 (2 ∷ 4 ∷ []) []
    (2 ∷ 7 ∷ 8 ∷ 2 ∷ 8 ∷ 2 ∷ 2 ∷ []) ∷ fork 7 4 7 ∷ []) ∷ (fork 0 2 6 ∷ []) ∷ (op2 Output 7 7 ∷ op2 Output 7 7
    ∷ op0 Ret ∷ []) ∷ (br 5 ∷ []) ∷ (op FCheck 0 (1 ∷ 0 ∷ 1 ∷ []) [] (0 ∷ 7 ∷ 4 ∷ 6 ∷ 0 ∷ 5 ∷ 6 ∷ []) ∷ [])
    ∷ (fork 1 1 1 ∷ []) ∷ [] ∷ (fork 0 3 4 ∷ []) ∷ []) (at (upto 22) []) (registers 9 (4 ∷ 1 ∷ 0 ∷ 4 ∷ 1 ∷ 0 ∷ 0 ∷ 0
    ∷ 0 ∷ 7 ∷ 9 ∷ 9 ∷ 9 ∷ 9 ∷ 7 ∷ 9 ∷ 77 ∷ 77 ∷ 77 ∷ 9 ∷ 7 ∷ 77 ∷ 77 ∷ 7 ∷ 7 ∷ [])) (operands 2 (7 ∷ 5 ∷ []))
    (beside [] [] [])) 82 8328 800 (done 4 25 2) ((1 ∷ 0 ∷ 7 ∷ 11 ∷ 13 ∷ 2 ∷ []) ∷ (2 ∷ 7 ∷ 3 ∷ 11 ∷ 17 ∷ 2 ∷ []) ∷ (3
    ∷ 3 ∷ 1 ∷ 11 ∷ 21 ∷ 2 ∷ []) ∷ (4 ∷ 1 ∷ 2 ∷ 11 ∷ 25 ∷ 2 ∷ []) ∷ [])
    (pic ((op Const 0 (7 ∷ []) [] (64 ∷ 0 ∷ 7 ∷ 3 ∷ 5 ∷ 3 ∷ 5 ∷ []) ∷ op AddrOf 4 (8 ∷ []) [] (6 ∷ 4 ∷ 2 ∷ 2 ∷ 1 ∷ 8
    ∷ 1 ∷ []) ∷ fork 7 4 7 ∷ []) ∷ (fork 0 2 6 ∷ []) ∷ (op CallNative 1 [] (0 ∷ 1 ∷ []) [] ∷ op3 SigVal 21 7 7
    ∷ op2 Alloc 22 7 ∷ op Cat 0 (22 ∷ 7 ∷ 7 ∷ []) (2 ∷ []) [] ∷ op2 SigRead 22 21 ∷ op4 Select 21 7 7 7
    ∷ op3 Index 21 8 7 ∷ op Store 3 (22 ∷ 21 ∷ []) [] [] ∷ op2 DopeLen 21 8 ∷ op LayoutOf 0 (23 ∷ 22 ∷ []) [] (8 ∷ 6
    ∷ 0 ∷ 6 ∷ 6 ∷ 0 ∷ 4 ∷ []) ∷ op DopeLen 0 (21 ∷ 22 ∷ []) [] (2 ∷ 7 ∷ 8 ∷ 2 ∷ 8 ∷ 2 ∷ 2 ∷ []) ∷ op2 Output 7 7
    ∷ op2 Output 7 7 ∷ op0 Ret ∷ []) ∷ (br 5 ∷ []) ∷ (op FCheck 0 (1 ∷ 0 ∷ 1 ∷ []) [] (0 ∷ 7 ∷ 4 ∷ 6 ∷ 0 ∷ 5 ∷ 6 ∷ [])
    ∷ []) ∷ (fork 1 1 1 ∷ []) ∷ [] ∷ (fork 0 3 4 ∷ []) ∷ []) (at (0 ∷ 1 ∷ 13 ∷ 14 ∷ range 2 11 ++ range 15 7) [])
    (registers 25 (4 ∷ 1 ∷ 0 ∷ 4 ∷ 1 ∷ replicate 5 0 ++ 1 ∷ 4 ∷ 0 ∷ 0 ∷ 1 ∷ 4 ∷ 0 ∷ 0 ∷ 1 ∷ 4 ∷ 0 ∷ 0 ∷ 1 ∷ 4 ∷ 0
    ∷ [])) (operands 2 (7 ∷ 5 ∷ [])) (beside [] [] []))

-- seed 2190: done 0, rule 4 decides
abbrev pub s2190 : Row
s2190 =
    stays (pic ((op Const 0 (7 ∷ []) [] (0 ∷ 4294967040 ∷ []) ∷ op2 Deref 0 7 ∷ op CallNative 1 (3 ∷ []) (0 ∷ 1
    ∷ []) [] ∷ op3 Index 2 3 7 ∷ op4 Select 4 7 2 2 ∷ op FCmp 0 (6 ∷ 7 ∷ 7 ∷ []) [] (0 ∷ 8 ∷ 8 ∷ 2 ∷ 4 ∷ 3 ∷ 4 ∷ [])
    ∷ op2 DopeLen 4 3 ∷ op Check 3 (7 ∷ 1 ∷ 2 ∷ []) [] [] ∷ op Br 0 [] [] (7 ∷ 7 ∷ 1 ∷ 6 ∷ 8 ∷ 0 ∷ 8 ∷ []) ∷ [])
    ∷ (op2 Output 0 0 ∷ op2 Output 0 0 ∷ []) ∷ (op0 Suspend ∷ fork 7 3 5 ∷ []) ∷ (op2 IToF 1 0 ∷ []) ∷ (op3 Pos 1 0 1
    ∷ op0 Ret ∷ []) ∷ (op3 Report 4 7 1 ∷ fork 1 4 1 ∷ []) ∷ (op3 Cat 7 7 7 ∷ []) ∷ (op Br 0 [] [] (2 ∷ 4 ∷ 3 ∷ 7 ∷ 4
    ∷ 5 ∷ []) ∷ []) ∷ []) (at (upto 20) (41 ∷ 6 ∷ 0 ∷ 0 ∷ 0 ∷ 20 ∷ 0 ∷ 0 ∷ 0 ∷ 0 ∷ 15 ∷ 48 ∷ 0 ∷ 0 ∷ 46 ∷ 0 ∷ 40 ∷ 45
    ∷ 13 ∷ 0 ∷ [])) (registers 8 (0 ∷ 2 ∷ 1 ∷ 0 ∷ 0 ∷ 0 ∷ 4 ∷ 1 ∷ 77 ∷ [])) (operands 1 (7 ∷ absent ∷ 0 ∷ absent ∷ 0
    ∷ [])) (beside [] [] (1 ∷ 5 ∷ 11 ∷ 1 ∷ []))) 50 8200 800 (done 0 8 1)

-- seed 2380: done 0, rule 4 decides
abbrev pub s2380 : Row
s2380 =
    stays (pic ((const 8 10 ∷ op AddrOf 5 (9 ∷ []) [] [] ∷ br 1 ∷ []) ∷ (op3 FCheck 8 8 0 ∷ op3 Cmp 6 8 8
    ∷ op3 SigVal 7 8 6 ∷ op3 Cmp 3 8 6 ∷ op Check 3 (8 ∷ 7 ∷ 7 ∷ []) [] [] ∷ op0 Suspend ∷ op CondBr 0 (0 ∷ []) [] (2
    ∷ 3 ∷ 5 ∷ 2 ∷ 5 ∷ 8 ∷ 7 ∷ []) ∷ []) ∷ (op Store 3 (0 ∷ 3 ∷ []) [] [] ∷ op Output 0 (6 ∷ 3 ∷ []) [] (4 ∷ 7 ∷ 6 ∷ 2
    ∷ 4 ∷ 2 ∷ 4 ∷ []) ∷ const 7 5 ∷ op CallProt 0 (3 ∷ []) (0 ∷ 3 ∷ []) [] ∷ op0 Ret ∷ []) ∷ (op2 IToF 0 1 ∷ op0 Ret
    ∷ []) ∷ (op3 Cat 8 8 8 ∷ []) ∷ []) (at (upto 18) []) (registers 10 (0 ∷ 1 ∷ 0 ∷ 0 ∷ 0 ∷ 1 ∷ 1 ∷ 1 ∷ 1 ∷ 4 ∷ 7 ∷ 9
    ∷ 77 ∷ 7 ∷ [])) (operands 3 (6 ∷ 8 ∷ 3 ∷ [])) (beside [] [] (2 ∷ []))) 48 8192 800 (done 0 10 3)

-- seed 2573: rule 5 on origins decides, short 0, short by an operand
abbrev pub s2573 : Row
s2573 =
    stays (pic ((const 8 36 ∷ br 5 ∷ []) ∷ (op2 Output 1 1 ∷ op Ret 0 [] [] (4 ∷ 3 ∷ 8 ∷ 4 ∷ 5 ∷ 2 ∷ []) ∷ []) ∷ []
    ∷ (fork 8 0 1 ∷ []) ∷ [] ∷ (op2 LayoutOf 1 0 ∷ op3 Cmp 3 8 8 ∷ op3 FCmp 4 3 8 ∷ op2 Alloc 7 4 ∷ op Cat 0 (7 ∷ 3
    ∷ 8 ∷ []) (0 ∷ 2 ∷ []) (0 ∷ 2 ∷ 3 ∷ 8 ∷ 1 ∷ 6 ∷ []) ∷ op4 Select 5 4 7 7 ∷ op Store 1 (7 ∷ 5 ∷ []) [] []
    ∷ op MakeDope 0 (7 ∷ []) (1 ∷ 1 ∷ []) (7 ∷ 3 ∷ 0 ∷ 7 ∷ 6 ∷ 1 ∷ 7 ∷ []) ∷ fork 8 9 4 ∷ []) ∷ (op Const 0 (1
    ∷ []) [] (585198874 ∷ 1973302028 ∷ []) ∷ []) ∷ (op2 IToF 1 8 ∷ op2 Output 0 0 ∷ fork 8 6 3 ∷ []) ∷ (op3 Cat 1 1 1
    ∷ []) ∷ (fork 1 2 7 ∷ []) ∷ []) (at (upto 20) (40 ∷ 43 ∷ 0 ∷ 30 ∷ 0 ∷ 0 ∷ 0 ∷ 0 ∷ 1 ∷ 0 ∷ 40 ∷ 47 ∷ 0 ∷ 35 ∷ 8 ∷ 0
    ∷ 0 ∷ 0 ∷ 16 ∷ 0 ∷ [])) (registers 9 (6 ∷ 1 ∷ 0 ∷ 1 ∷ 1 ∷ 6 ∷ 1 ∷ 0 ∷ 3 ∷ 77 ∷ 77 ∷ 77 ∷ 7 ∷ 9 ∷ 9 ∷ 9 ∷ 7 ∷ []))
    (operands 2 (7 ∷ 3 ∷ absent ∷ 999 ∷ [])) (beside [] [] (0 ∷ 6 ∷ 2 ∷ 9 ∷ []))) 74 8296 800 (short 0 9 2)

-- seed 2658: a register reused, chain of 1, moves without replay, moves without vias, new Sig, new list, short 3,
-- short by a register, target after x, target before x, target t
abbrev pub s2658 : Row
s2658 =
    moves (pic ((op Const 0 (6 ∷ []) [] (0 ∷ 256 ∷ []) ∷ op0 Ret ∷ []) ∷ (fork 1 3 4 ∷ []) ∷ (fork 0 1 6 ∷ [])
    ∷ (op3 Cmp 2 6 6 ∷ op3 SigVal 5 2 6 ∷ op2 Alloc 4 2 ∷ op Cat 0 (4 ∷ 6 ∷ 6 ∷ []) (0 ∷ 4 ∷ []) (5735 ∷ 6 ∷ 2 ∷ 4 ∷ 8
    ∷ 8 ∷ 8 ∷ []) ∷ op3 SigVal 3 2 2 ∷ op Cat 0 (4 ∷ 6 ∷ 2 ∷ []) (4 ∷ 4 ∷ []) [] ∷ op CallNative 1 (2 ∷ []) (8 ∷ 1
    ∷ []) [] ∷ op2 Move 3 4 ∷ op2 DopeLen 2 3 ∷ op2 Move 5 5 ∷ fork 6 2 5 ∷ []) ∷ [] ∷ (op2 Deref 0 6
    ∷ op0 Unreachable ∷ []) ∷ (op1 Ret 6 ∷ []) ∷ []) (at (upto 18) []) (registers 7 (1 ∷ 0 ∷ 0 ∷ 4 ∷ 0 ∷ 0 ∷ 0 ∷ 77
    ∷ 9 ∷ 7 ∷ 9 ∷ 9 ∷ 77 ∷ 7 ∷ 7 ∷ 77 ∷ 9 ∷ 7 ∷ 77 ∷ 77 ∷ 7 ∷ 77 ∷ 77 ∷ 7 ∷ 7 ∷ 7 ∷ 9 ∷ 9 ∷ 77 ∷ 7 ∷ [])) (operands 9
    (6 ∷ 2 ∷ 6 ∷ 2 ∷ 4 ∷ 6 ∷ 4 ∷ 5 ∷ 2 ∷ 999 ∷ replicate 5 0 ++ absent ∷ 999 ∷ 999 ∷ 999 ∷ absent ∷ 999 ∷ 0 ∷ 0 ∷ 999
    ∷ 0 ∷ absent ∷ 0 ∷ absent ∷ absent ∷ 999 ∷ absent ∷ absent ∷ 0 ∷ 0 ∷ absent ∷ 0 ∷ absent ∷ 0 ∷ absent ∷ 999 ∷ 0
    ∷ 0 ∷ 0 ∷ 999 ∷ 999 ∷ 0 ∷ absent ∷ 999 ∷ absent ∷ 999 ∷ 0 ∷ absent ∷ 0 ∷ 999 ∷ 999 ∷ absent ∷ absent ∷ 0 ∷ 999
    ∷ absent ∷ 999 ∷ 0 ∷ 0 ∷ replicate 9 absent ++ 0 ∷ 999 ∷ 0 ∷ 0 ∷ absent ∷ absent ∷ 999 ∷ absent ∷ 999 ∷ []))
    (beside [] [] [])) 88 8352 800 (short 3 25 36) ((1 ∷ 3 ∷ 2 ∷ 10 ∷ 13 ∷ 18 ∷ []) ∷ (2 ∷ 2 ∷ 1 ∷ 10 ∷ 19 ∷ 27 ∷ [])
    ∷ (3 ∷ 1 ∷ 3 ∷ 10 ∷ 25 ∷ 36 ∷ []) ∷ [])
    (pic ((op Const 0 (6 ∷ []) [] (0 ∷ 256 ∷ []) ∷ op0 Ret ∷ []) ∷ (fork 1 3 4 ∷ []) ∷ (fork 0 1 6 ∷ [])
    ∷ (op3 Cmp 19 6 6 ∷ op3 SigVal 20 19 6 ∷ op2 Alloc 21 19 ∷ op Cat 0 (21 ∷ 6 ∷ 6 ∷ []) (27 ∷ 4 ∷ []) (5735 ∷ 6 ∷ 2
    ∷ 4 ∷ 8 ∷ 8 ∷ 8 ∷ []) ∷ op3 SigVal 22 19 19 ∷ op Cat 0 (21 ∷ 6 ∷ 19 ∷ []) (31 ∷ 4 ∷ []) [] ∷ op CallNative 1 (24
    ∷ []) (35 ∷ 1 ∷ []) [] ∷ op2 Move 22 21 ∷ op2 DopeLen 21 22 ∷ op2 Move 21 20 ∷ fork 6 2 5 ∷ []) ∷ []
    ∷ (op2 Deref 0 6 ∷ op0 Unreachable ∷ []) ∷ (op1 Ret 6 ∷ []) ∷ []) (at (upto 18) []) (registers 25 (1 ∷ 0 ∷ 0 ∷ 4
    ∷ replicate 6 0 ++ 4 ∷ replicate 5 0 ++ 4 ∷ replicate 5 0 ++ 4 ∷ 0 ∷ 0 ∷ 7 ∷ 9 ∷ 9 ∷ 77 ∷ 7 ∷ [])) (operands 36 (6
    ∷ 2 ∷ 6 ∷ 2 ∷ 4 ∷ 6 ∷ 4 ∷ 5 ∷ 2 ∷ 6 ∷ 7 ∷ 6 ∷ 7 ∷ 9 ∷ 6 ∷ 9 ∷ 8 ∷ 7 ∷ 6 ∷ 13 ∷ 6 ∷ 13 ∷ 15 ∷ 6 ∷ 15 ∷ 14 ∷ 13 ∷ 6
    ∷ 19 ∷ 6 ∷ 19 ∷ 21 ∷ 6 ∷ 21 ∷ 20 ∷ 19 ∷ absent ∷ 0 ∷ absent ∷ 999 ∷ 0 ∷ 0 ∷ 0 ∷ 999 ∷ 999 ∷ 0 ∷ absent ∷ 999
    ∷ absent ∷ 999 ∷ 0 ∷ absent ∷ 0 ∷ 999 ∷ 999 ∷ absent ∷ absent ∷ 0 ∷ 999 ∷ absent ∷ 999 ∷ 0 ∷ 0
    ∷ replicate 9 absent ++ 0 ∷ 999 ∷ 0 ∷ 0 ∷ absent ∷ absent ∷ 999 ∷ absent ∷ 999 ∷ [])) (beside [] [] []))

-- seed 2998: rule 5 on origins decides, short 0, short by a register, the start of the function decides
abbrev pub s2998 : Row
s2998 =
    stays (pic ((const 9 39 ∷ br 1 ∷ []) ∷ (op2 LayoutOf 1 0 ∷ op2 Move 5 9 ∷ op3 Cmp 6 5 5 ∷ op Bin 4 (2 ∷ 5 ∷ 9
    ∷ []) [] [] ∷ op2 Alloc 8 5 ∷ op Cat 0 (8 ∷ 5 ∷ 9 ∷ []) (0 ∷ 2 ∷ []) [] ∷ br 4 ∷ []) ∷ (op3 Cat 1 1 1 ∷ [])
    ∷ (op2 Output 2 2 ∷ op2 Move 0 2 ∷ []) ∷ (fork 0 0 3 ∷ []) ∷ []) (at (upto 13) []) (registers 10 (0 ∷ 3 ∷ 0 ∷ 1
    ∷ 0 ∷ 0 ∷ 1 ∷ 1 ∷ 0 ∷ 1 ∷ 9 ∷ 9 ∷ 7 ∷ [])) (operands 2 (8 ∷ 8 ∷ 0 ∷ 999 ∷ 999 ∷ 0 ∷ 999 ∷ 999 ∷ absent ∷ []))
    (beside [] [] (0 ∷ []))) 46 8184 800 (short 0 10 2)

-- seed 3190: a second writer decides, done 0
abbrev pub s3190 : Row
s3190 =
    stays (pic ((op1 Const 6 ∷ op1 Const 6 ∷ op AddrOf 4 (7 ∷ []) [] [] ∷ br 4 ∷ []) ∷ (op0 Ret ∷ []) ∷ (fork 1 6 3
    ∷ []) ∷ [] ∷ (op Check 3 (6 ∷ 6 ∷ 6 ∷ []) [] [] ∷ op2 Alloc 2 6 ∷ op Cat 0 (2 ∷ 6 ∷ 6 ∷ []) [] (57965 ∷ 7 ∷ 0 ∷ 3
    ∷ 6 ∷ 6 ∷ []) ∷ op3 Index 4 7 6 ∷ br 5 ∷ []) ∷ (br 2 ∷ []) ∷ (op Pos 0 (0 ∷ 0 ∷ 6 ∷ []) [] (8 ∷ 7 ∷ 6 ∷ 5 ∷ 8 ∷ 7
    ∷ 4 ∷ []) ∷ fork 1 1 8 ∷ []) ∷ (op3 Cat 6 6 6 ∷ []) ∷ (op2 Output 0 0 ∷ op Case 0 (0 ∷ []) [] (92 ∷ []) ∷ [])
    ∷ []) (at (upto 17) (0 ∷ 7 ∷ 0 ∷ 21 ∷ 0 ∷ 15 ∷ 17 ∷ 25 ∷ replicate 8 0 ++ 35 ∷ [])) (registers 8 (0 ∷ 0 ∷ 0 ∷ 0
    ∷ 1 ∷ 4 ∷ 0 ∷ 0 ∷ 77 ∷ 9 ∷ [])) (operands 0 (999 ∷ 999 ∷ [])) (beside [] [] (8 ∷ 3 ∷ []))) 56 8224 800
    (done 0 8 0)

abbrev pub rows4 : List Row
rows4 =
    s1223 ∷ s1246 ∷ s1287 ∷ s1602 ∷ s1674 ∷ s1720 ∷ s1981 ∷ s1984 ∷ s2097 ∷ s2190 ∷ s2380 ∷ s2573 ∷ s2658 ∷ s2998
    ∷ s3190 ∷ []
