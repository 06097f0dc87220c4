-- Pictures by seed and what the Rust makes of them (see proofs/Crossed), page 1: of the first 4000 seeds of the generator, those that show
-- something new. Printed by
-- `compare crossed` in tests/rust, and again by its compare.sh: not to be edited. Assumes nothing.
use Rattle.std.specs.Prelude.{List, [], ◌∷◌, ◌++◌, replicate}
use Rattle.words.specs.Lists.{range, upto}
use Rattle.model.specs.Kinds.{AddrOf, Alloc, ArrCmp, Bin, BoolOp, BoundsLen, BoundsSlice, Br, CallForeign, CallIndirect}
use Rattle.model.specs.Kinds.{CallNative, Case, Cat, Check, Cmp, CondBr, Const, ConstF, Cover, Deref}
use Rattle.model.specs.Kinds.{DopeLen, Edge, FCheck, IToF, Index, LFill, LGet, LayoutOf, Load, MakeDope}
use Rattle.model.specs.Kinds.{Move, Now, Output, Pos, Report, Ret, Select, SigDrivingValue, SigRead, SigReadScalar}
use Rattle.model.specs.Kinds.{SigVal, Store, Suspend, Un, Unreachable}
use Rattle.model.specs.Picture.{absent}
use Rattle.model.specs.Build.{op}
use Rattle.crossed.specs.Row.{Row, pic, at, registers, operands, beside, op0, op1, op2, op3, op4, op5, br, fork, const, moves, stays, done, short}

-- seed 1: done 0
abbrev pub s1 : Row
s1 =
    stays (pic ((const 8 46 ∷ br 1 ∷ []) ∷ (op2 Alloc 2 8 ∷ op CallNative 1 [] (0 ∷ 1 ∷ []) [] ∷ op Load 1 (4 ∷ 2
    ∷ []) [] [] ∷ op Cat 0 (2 ∷ 8 ∷ 8 ∷ []) (1 ∷ 4 ∷ []) [] ∷ op0 Suspend ∷ fork 8 9 2 ∷ []) ∷ (op CondBr 0 (8
    ∷ []) [] (3 ∷ 8 ∷ 4 ∷ 5 ∷ 4 ∷ 5 ∷ 5 ∷ []) ∷ []) ∷ (op3 Pos 1 0 0 ∷ op CondBr 0 (8 ∷ []) [] (7 ∷ 4 ∷ 3 ∷ 6 ∷ 2 ∷ 8
    ∷ []) ∷ []) ∷ (fork 0 6 5 ∷ []) ∷ (op2 Output 0 0 ∷ []) ∷ (op0 Ret ∷ []) ∷ (op2 Output 8 8 ∷ op5 ArrCmp 1 0 0 0 8
    ∷ []) ∷ (op2 IToF 0 8 ∷ op0 Ret ∷ []) ∷ (op0 Ret ∷ []) ∷ (op3 Cat 1 1 1 ∷ []) ∷ []) (at (upto 20) []) (registers 9
    (2 ∷ 0 ∷ 0 ∷ 0 ∷ 4 ∷ 0 ∷ 0 ∷ 1 ∷ 0 ∷ [])) (operands 5 (2 ∷ 2 ∷ 1 ∷ 2 ∷ 4 ∷ [])) (beside [] [] (6 ∷ 4 ∷ 8 ∷ 2
    ∷ []))) 62 8248 800 (done 0 9 5)

-- seed 2: chain of 2, done 1, moves with replay, moves without vias, new Sig, new list, target after x, target t
abbrev pub s2 : Row
s2 =
    moves (pic ((op Const 0 (7 ∷ []) [] (44 ∷ 0 ∷ 2 ∷ 6 ∷ 4 ∷ 2 ∷ 8 ∷ []) ∷ op3 SigVal 3 7 7 ∷ op3 Cmp 5 7 3
    ∷ op CallNative 1 [] (0 ∷ 1 ∷ []) [] ∷ op2 Alloc 4 5 ∷ op Cat 0 (4 ∷ 7 ∷ 7 ∷ []) (1 ∷ 2 ∷ []) [] ∷ op Br 0 [] []
    (4 ∷ 2 ∷ 2 ∷ 5 ∷ 1 ∷ 2 ∷ 1 ∷ []) ∷ []) ∷ (op2 Output 0 0 ∷ op Output 0 (0 ∷ 0 ∷ []) [] (6 ∷ 0 ∷ 0 ∷ 5 ∷ 8 ∷ 2 ∷ 1
    ∷ []) ∷ []) ∷ (fork 7 1 3 ∷ []) ∷ (op1 Ret 1 ∷ []) ∷ (fork 0 5 7 ∷ []) ∷ (op1 Ret 1 ∷ []) ∷ [] ∷ (op1 Now 0
    ∷ fork 0 6 2 ∷ []) ∷ (op3 Cat 0 0 0 ∷ []) ∷ []) (at (upto 16) []) (registers 8 (1 ∷ 6 ∷ 1 ∷ 2 ∷ 2 ∷ 4 ∷ 0 ∷ 1 ∷ 77
    ∷ 9 ∷ 9 ∷ 77 ∷ 77 ∷ 9 ∷ [])) (operands 3 (7 ∷ 4 ∷ 3 ∷ 0 ∷ 0 ∷ 0 ∷ absent ∷ [])) (beside [] [] (1 ∷ 2 ∷ 7
    ∷ []))) 64 8256 800 (done 1 12 5) ((1 ∷ 0 ∷ 5 ∷ 5 ∷ 12 ∷ 5 ∷ []) ∷ [])
    (pic ((op Const 0 (7 ∷ []) [] (44 ∷ 0 ∷ 2 ∷ 6 ∷ 4 ∷ 2 ∷ 8 ∷ []) ∷ op Br 0 [] [] (4 ∷ 2 ∷ 2 ∷ 5 ∷ 1 ∷ 2 ∷ 1 ∷ [])
    ∷ []) ∷ (op2 Output 0 0 ∷ op Output 0 (0 ∷ 0 ∷ []) [] (6 ∷ 0 ∷ 0 ∷ 5 ∷ 8 ∷ 2 ∷ 1 ∷ []) ∷ []) ∷ (fork 7 1 3 ∷ [])
    ∷ (op1 Ret 1 ∷ []) ∷ (fork 0 5 7 ∷ []) ∷ (op3 SigVal 8 7 7 ∷ op3 Cmp 9 7 8 ∷ op CallNative 1 [] (0 ∷ 1 ∷ []) []
    ∷ op2 Alloc 11 9 ∷ op Cat 0 (11 ∷ 7 ∷ 7 ∷ []) (3 ∷ 2 ∷ []) [] ∷ op1 Ret 1 ∷ []) ∷ [] ∷ (op1 Now 0 ∷ fork 0 6 2
    ∷ []) ∷ (op3 Cat 0 0 0 ∷ []) ∷ []) (at (0 ∷ range 6 6 ++ range 1 5 ++ 12 ∷ 13 ∷ 14 ∷ 15 ∷ []) []) (registers 12 (1
    ∷ 6 ∷ 1 ∷ 2 ∷ 2 ∷ 4 ∷ 0 ∷ 1 ∷ 2 ∷ 4 ∷ 0 ∷ 2 ∷ 77 ∷ 9 ∷ [])) (operands 5 (7 ∷ 4 ∷ 3 ∷ 11 ∷ 8 ∷ 0 ∷ absent ∷ []))
    (beside [] [] (1 ∷ 2 ∷ 7 ∷ [])))

-- seed 3: a register reused, chain of 1, done 1, empty target, moves with vias, moves without replay, target before
-- x, target t
abbrev pub s3 : Row
s3 =
    moves (pic ((const 6 36 ∷ op Br 0 [] [] (5 ∷ 4 ∷ 3 ∷ 0 ∷ 7 ∷ 5 ∷ 3 ∷ []) ∷ []) ∷ (op0 Ret ∷ []) ∷ [] ∷ (fork 0 6 4
    ∷ []) ∷ (op1 Now 0 ∷ fork 6 1 7 ∷ []) ∷ (op3 Cmp 4 6 6 ∷ op2 Alloc 3 6 ∷ op3 Cat 3 4 4 ∷ op3 Cat 3 4 6
    ∷ op2 Alloc 2 4 ∷ op3 SigVal 5 4 6 ∷ op Index 0 (2 ∷ 2 ∷ 4 ∷ []) [] (4 ∷ 3 ∷ 0 ∷ 3 ∷ 6 ∷ 2 ∷ 4 ∷ [])
    ∷ op2 SigRead 2 5 ∷ op Check 3 (6 ∷ 2 ∷ 2 ∷ []) [] [] ∷ op CondBr 0 (6 ∷ []) [] (2 ∷ 3 ∷ 2 ∷ 8 ∷ 3 ∷ 7 ∷ 8 ∷ [])
    ∷ []) ∷ (op Ret 0 [] [] (1 ∷ 2 ∷ 8 ∷ 3 ∷ 0 ∷ 7 ∷ 4 ∷ []) ∷ []) ∷ (op2 Output 6 6 ∷ op2 Output 6 6
    ∷ op0 Unreachable ∷ []) ∷ []) (at (upto 20) (replicate 6 0 ++ 41 ∷ 45 ∷ 0 ∷ 42 ∷ replicate 5 0 ++ 10 ∷ 0 ∷ 2 ∷ 0
    ∷ 0 ∷ [])) (registers 7 (0 ∷ 1 ∷ replicate 5 0 ++ 9 ∷ 77 ∷ 9 ∷ 7 ∷ 77 ∷ 77 ∷ [])) (operands 0 (absent ∷ 999 ∷ []))
    (beside [] [] [])) 58 8232 800 (done 1 11 0) ((1 ∷ 5 ∷ 2 ∷ 9 ∷ 11 ∷ 0 ∷ []) ∷ [])
    (pic ((const 6 36 ∷ op Br 0 [] [] (5 ∷ 4 ∷ 3 ∷ 0 ∷ 7 ∷ 5 ∷ 3 ∷ []) ∷ []) ∷ (op0 Ret ∷ []) ∷ (op3 Cmp 7 6 6
    ∷ op2 Alloc 8 6 ∷ op3 Cat 8 7 7 ∷ op3 Cat 8 7 6 ∷ op2 Alloc 8 7 ∷ op3 SigVal 9 7 6 ∷ op Index 0 (10 ∷ 8 ∷ 7
    ∷ []) [] (4 ∷ 3 ∷ 0 ∷ 3 ∷ 6 ∷ 2 ∷ 4 ∷ []) ∷ op2 SigRead 10 9 ∷ op Check 3 (6 ∷ 10 ∷ 10 ∷ []) [] [] ∷ [])
    ∷ (fork 0 6 4 ∷ []) ∷ (op1 Now 0 ∷ fork 6 1 7 ∷ []) ∷ (op CondBr 0 (6 ∷ []) [] (2 ∷ 3 ∷ 2 ∷ 8 ∷ 3 ∷ 7 ∷ 8 ∷ [])
    ∷ []) ∷ (op Ret 0 [] [] (1 ∷ 2 ∷ 8 ∷ 3 ∷ 0 ∷ 7 ∷ 4 ∷ []) ∷ []) ∷ (op2 Output 6 6 ∷ op2 Output 6 6
    ∷ op0 Unreachable ∷ []) ∷ []) (at (0 ∷ 1 ∷ 2 ∷ range 6 9 ++ 3 ∷ 4 ∷ 5 ∷ range 15 5) (0 ∷ 0 ∷ 0 ∷ 41 ∷ 45 ∷ 0 ∷ 42
    ∷ replicate 8 0 ++ 10 ∷ 0 ∷ 2 ∷ 0 ∷ 0 ∷ [])) (registers 11 (0 ∷ 1 ∷ replicate 9 0 ++ 77 ∷ 77 ∷ [])) (operands 0
    (absent ∷ 999 ∷ [])) (beside [] [] []))

-- seed 4: 2 members are too few, done 0, rule 6 decides
abbrev pub s4 : Row
s4 =
    stays (pic ((op Const 0 (8 ∷ []) [] (absent ∷ 4294967039 ∷ 0 ∷ 1 ∷ 8 ∷ 3 ∷ 5 ∷ []) ∷ op2 Alloc 4 8 ∷ op Cat 0 (4
    ∷ 8 ∷ 8 ∷ []) (0 ∷ 3 ∷ []) (45817 ∷ []) ∷ op3 SigVal 7 8 8 ∷ op Store 2 (4 ∷ 8 ∷ []) [] [] ∷ op3 Index 3 4 8
    ∷ op Bin 4 (2 ∷ 8 ∷ 0 ∷ []) [] [] ∷ op CondBr 0 (1 ∷ []) [] (1 ∷ []) ∷ []) ∷ (op Bin 4 (0 ∷ 8 ∷ 4 ∷ []) [] []
    ∷ op CallNative 0 [] (3 ∷ 1 ∷ []) [] ∷ op1 Ret 8 ∷ []) ∷ (op3 Cat 1 1 1 ∷ []) ∷ []) (at (upto 12) []) (registers 9
    (1 ∷ 0 ∷ 0 ∷ 0 ∷ 2 ∷ 0 ∷ 0 ∷ 1 ∷ 0 ∷ [])) (operands 4 (8 ∷ 4 ∷ 4 ∷ 7 ∷ [])) (beside [] [] (1 ∷ []))) 30 8120 800
    (done 0 9 4)

-- seed 5: short 0, short by an operand
abbrev pub s5 : Row
s5 =
    stays (pic ((op Const 0 (8 ∷ []) [] (45 ∷ 0 ∷ 5 ∷ 7 ∷ 0 ∷ 0 ∷ 7 ∷ []) ∷ op Br 0 [] [] (3 ∷ 8 ∷ 2 ∷ 8 ∷ 5 ∷ 3 ∷ [])
    ∷ []) ∷ (op CallIndirect 0 (0 ∷ []) (0 ∷ 1 ∷ []) [] ∷ op2 Output 3 4 ∷ op Case 0 (8 ∷ []) [] (95 ∷ []) ∷ [])
    ∷ (op3 Cat 1 1 1 ∷ []) ∷ (op2 Alloc 3 8 ∷ op3 Cat 3 8 8 ∷ op Check 3 (8 ∷ 8 ∷ 3 ∷ []) [] [] ∷ op Bin 1 (4 ∷ 8 ∷ 8
    ∷ []) [] [] ∷ op2 LayoutOf 4 3 ∷ fork 8 3 1 ∷ []) ∷ []) (at (upto 12) (9 ∷ replicate 9 0 ++ 27 ∷ 0 ∷ []))
    (registers 9 (0 ∷ 4 ∷ 0 ∷ 6 ∷ 4 ∷ 1 ∷ 1 ∷ 4 ∷ 0 ∷ 77 ∷ 9 ∷ 9 ∷ [])) (operands 1 (3 ∷ [])) (beside [] [] (3
    ∷ []))) 40 8160 800 (short 0 9 1)

-- seed 9: done 0, rule 2 decides
abbrev pub s9 : Row
s9 =
    stays (pic ((op1 Const 8 ∷ op AddrOf 2 (9 ∷ []) [] [] ∷ op3 Cmp 4 8 8 ∷ op3 Cmp 6 8 8 ∷ op Bin 3 (3 ∷ 6 ∷ 6
    ∷ []) [] [] ∷ op CallNative 1 (7 ∷ []) (0 ∷ 1 ∷ []) (4 ∷ 1 ∷ 0 ∷ 2 ∷ 5 ∷ 3 ∷ []) ∷ op Load 1 (5 ∷ 7 ∷ []) [] []
    ∷ op Bin 1 (2 ∷ 8 ∷ 3 ∷ []) [] [] ∷ op3 Cmp 6 3 8 ∷ op3 Index 7 9 2 ∷ op2 Alloc 6 8 ∷ op Cat 0 (6 ∷ 8 ∷ 8 ∷ []) (1
    ∷ 4 ∷ []) [] ∷ br 4 ∷ []) ∷ (op2 Output 5 8 ∷ op Output 0 (4 ∷ 7 ∷ []) [] (5 ∷ 0 ∷ 0 ∷ 1 ∷ 8 ∷ 2 ∷ []) ∷ op Case 0
    (0 ∷ []) [] (97 ∷ []) ∷ []) ∷ [] ∷ (op1 Ret 8 ∷ []) ∷ (fork 8 5 3 ∷ []) ∷ (op3 FCheck 0 0 8 ∷ fork 1 2 1 ∷ [])
    ∷ []) (at (upto 20) []) (registers 10 (1 ∷ 6 ∷ 6 ∷ 6 ∷ 1 ∷ 1 ∷ 1 ∷ 0 ∷ 0 ∷ 0 ∷ 77 ∷ 7 ∷ [])) (operands 5 (3 ∷ 5
    ∷ 4 ∷ 5 ∷ 4 ∷ 999 ∷ absent ∷ 0 ∷ 999 ∷ 999 ∷ [])) (beside [] [] [])) 48 8192 800 (done 0 10 5)

-- seed 10: a register reused, chain of 1, chain of 2, done 2, moves with vias, moves without replay, new list, target
-- after x, target t
abbrev pub s10 : Row
s10 =
    moves (pic ((op1 Const 6 ∷ op2 CallIndirect 0 0 ∷ op3 Cmp 3 6 6 ∷ op3 Cmp 5 6 6 ∷ op2 Alloc 4 5 ∷ op Cat 0 (4 ∷ 6
    ∷ 5 ∷ []) (0 ∷ 3 ∷ []) (17262 ∷ []) ∷ op2 Alloc 4 3 ∷ op Bin 1 (2 ∷ 6 ∷ 3 ∷ []) [] [] ∷ op2 Alloc 5 3
    ∷ op2 LayoutOf 4 4 ∷ op2 SigReadScalar 2 5 ∷ op CallNative 1 (4 ∷ []) (3 ∷ 1 ∷ []) [] ∷ op2 SigRead 5 1 ∷ br 1
    ∷ []) ∷ (fork 0 2 4 ∷ []) ∷ (fork 1 3 3 ∷ []) ∷ (op2 Output 0 0 ∷ op Ret 0 [] [] (4 ∷ 8 ∷ 7 ∷ 7 ∷ 7 ∷ 1 ∷ 2 ∷ [])
    ∷ []) ∷ (op0 Ret ∷ []) ∷ []) (at (upto 19) (0 ∷ 0 ∷ 1 ∷ 0 ∷ 6 ∷ 34 ∷ replicate 5 0 ++ 1 ∷ 0 ∷ 0 ∷ 0 ∷ 8 ∷ 41 ∷ 26
    ∷ 2 ∷ [])) (registers 7 (1 ∷ 1 ∷ 1 ∷ 1 ∷ 0 ∷ 1 ∷ 0 ∷ 9 ∷ 77 ∷ 77 ∷ 77 ∷ 7 ∷ 9 ∷ 77 ∷ 7 ∷ replicate 5 77))
    (operands 4 (4 ∷ 4 ∷ 4 ∷ 6 ∷ absent ∷ 999 ∷ absent ∷ 0 ∷ absent ∷ 0 ∷ 999 ∷ absent ∷ absent ∷ absent ∷ 999 ∷ []))
    (beside [] [] [])) 60 8240 800 (done 2 15 10) ((1 ∷ 0 ∷ 2 ∷ 11 ∷ 11 ∷ 7 ∷ []) ∷ (2 ∷ 2 ∷ 3 ∷ 11 ∷ 15 ∷ 10 ∷ [])
    ∷ [])
    (pic ((op1 Const 6 ∷ op2 CallIndirect 0 0 ∷ br 1 ∷ []) ∷ (fork 0 2 4 ∷ []) ∷ (fork 1 3 3 ∷ []) ∷ (op3 Cmp 11 6 6
    ∷ op3 Cmp 12 6 6 ∷ op2 Alloc 13 12 ∷ op Cat 0 (13 ∷ 6 ∷ 12 ∷ []) (7 ∷ 3 ∷ []) (17262 ∷ []) ∷ op2 Alloc 13 11
    ∷ op Bin 1 (12 ∷ 6 ∷ 11 ∷ []) [] [] ∷ op2 Alloc 12 11 ∷ op2 LayoutOf 14 13 ∷ op2 SigReadScalar 11 12
    ∷ op CallNative 1 (14 ∷ []) (3 ∷ 1 ∷ []) [] ∷ op2 SigRead 12 1 ∷ op2 Output 0 0 ∷ op Ret 0 [] [] (4 ∷ 8 ∷ 7 ∷ 7
    ∷ 7 ∷ 1 ∷ 2 ∷ []) ∷ []) ∷ (op0 Ret ∷ []) ∷ []) (at (0 ∷ 1 ∷ 13 ∷ 14 ∷ 15 ∷ range 2 11 ++ 16 ∷ 17 ∷ 18 ∷ []) (0 ∷ 0
    ∷ 0 ∷ 0 ∷ 8 ∷ 1 ∷ 0 ∷ 6 ∷ 34 ∷ replicate 5 0 ++ 1 ∷ 0 ∷ 41 ∷ 26 ∷ 2 ∷ [])) (registers 15 (1 ∷ 1 ∷ 1 ∷ 1 ∷ 0 ∷ 1
    ∷ 0 ∷ 1 ∷ 1 ∷ 0 ∷ 0 ∷ 1 ∷ 1 ∷ 0 ∷ 0 ∷ replicate 5 77)) (operands 10 (4 ∷ 4 ∷ 4 ∷ 6 ∷ 9 ∷ 9 ∷ 9 ∷ 13 ∷ 13 ∷ 13
    ∷ 999 ∷ absent ∷ absent ∷ absent ∷ 999 ∷ [])) (beside [] [] []))

-- seed 12: done 0, gated
abbrev pub s12 : Row
s12 =
    stays (pic ((const 6 55 ∷ op Case 0 (1 ∷ []) [] (1 ∷ 8 ∷ 8 ∷ 5 ∷ 0 ∷ 5 ∷ 8 ∷ []) ∷ op Bin 3 (2 ∷ 6 ∷ 6 ∷ []) [] []
    ∷ op CallNative 1 (4 ∷ []) (0 ∷ 1 ∷ []) (3 ∷ 8 ∷ 6 ∷ 0 ∷ 2 ∷ 3 ∷ 1 ∷ []) ∷ op3 Cmp 3 2 2 ∷ op2 Move 5 3
    ∷ op BoolOp 0 (5 ∷ 2 ∷ 5 ∷ []) [] (4 ∷ 3 ∷ 7 ∷ 5 ∷ 5 ∷ 3 ∷ 3 ∷ []) ∷ op3 Cmp 5 5 5 ∷ br 11 ∷ []) ∷ (br 5 ∷ [])
    ∷ [] ∷ (op ConstF 0 (0 ∷ []) [] (3673952536 ∷ 3435899520 ∷ 6 ∷ 6 ∷ 6 ∷ 4 ∷ []) ∷ fork 0 5 12 ∷ []) ∷ (op0 Ret
    ∷ []) ∷ (br 6 ∷ []) ∷ (br 8 ∷ []) ∷ (fork 1 3 3 ∷ []) ∷ (br 7 ∷ []) ∷ (op2 Output 6 6 ∷ op Unreachable 0 [] [] (7
    ∷ 0 ∷ 8 ∷ 2 ∷ 5 ∷ 7 ∷ 7 ∷ []) ∷ []) ∷ (fork 6 9 4 ∷ []) ∷ (br 1 ∷ []) ∷ (op CondBr 0 (1 ∷ []) [] (10 ∷ 2 ∷ 4 ∷ 7
    ∷ 8 ∷ 4 ∷ 5 ∷ []) ∷ []) ∷ []) (at (upto 22) []) (registers 7 (0 ∷ 1 ∷ 1 ∷ 4 ∷ 0 ∷ 0 ∷ 3 ∷ 9 ∷ 9 ∷ 9 ∷ 77 ∷ 9
    ∷ [])) (operands 1 (2 ∷ 999 ∷ 999 ∷ [])) (beside [] [] (9 ∷ 10 ∷ 12 ∷ 3 ∷ []))) 76 8304 800 (done 0 7 1)

-- seed 15: done 0, rule 1 decides, rule 6 decides
abbrev pub s15 : Row
s15 =
    stays (pic ((op Const 0 (9 ∷ []) [] (0 ∷ 256 ∷ []) ∷ op3 Cmp 6 9 9 ∷ op2 Alloc 8 9 ∷ op3 Cat 8 6 9 ∷ op Bin 3 (7
    ∷ 6 ∷ 9 ∷ []) [] [] ∷ op3 BoolOp 2 9 7 ∷ op Cat 0 (8 ∷ 9 ∷ 6 ∷ []) [] (15191 ∷ []) ∷ op Cat 0 (8 ∷ 2 ∷ 9 ∷ []) (0
    ∷ 4 ∷ []) [] ∷ op2 Edge 1 0 ∷ op BoolOp 1 (7 ∷ 9 ∷ []) [] [] ∷ op3 Cmp 3 6 7 ∷ op3 Index 5 8 6 ∷ op Cat 0 (9 ∷ 2
    ∷ 2 ∷ []) (5 ∷ 2 ∷ []) [] ∷ fork 0 1 2 ∷ []) ∷ (op Cat 0 (1 ∷ 7 ∷ 7 ∷ []) (8 ∷ 2 ∷ []) [] ∷ op CallForeign 0 [] (0
    ∷ 1 ∷ []) [] ∷ op0 Ret ∷ []) ∷ [] ∷ []) (at (upto 17) []) (registers 10 (3 ∷ 4 ∷ 4 ∷ 0 ∷ 1 ∷ 7 ∷ 1 ∷ 0 ∷ 4 ∷ 3
    ∷ [])) (operands 10 (8 ∷ 8 ∷ 8 ∷ 8 ∷ 7 ∷ 5 ∷ 2 ∷ 9 ∷ 5 ∷ 7 ∷ [])) (beside [] [] [])) 32 8128 800 (done 0 10 10)

-- seed 16: chain of 5, done 1, moves with replay, moves without vias, rule 1 decides, rule 2 decides, target after x,
-- target f, target renamed
abbrev pub s16 : Row
s16 =
    moves (pic ((op1 Const 7 ∷ op AddrOf 1 (8 ∷ []) [] [] ∷ op Br 0 [] [] (1 ∷ 2 ∷ 1 ∷ 5 ∷ 4 ∷ 8 ∷ 2 ∷ []) ∷ [])
    ∷ (op3 Cmp 6 7 7 ∷ op4 Select 5 6 6 6 ∷ op Bin 3 (2 ∷ 7 ∷ 5 ∷ []) [] (8 ∷ 6 ∷ 3 ∷ 3 ∷ 6 ∷ []) ∷ op Check 3 (2 ∷ 0
    ∷ 6 ∷ []) [] [] ∷ br 2 ∷ []) ∷ (br 3 ∷ []) ∷ (op Br 0 [] [] (4 ∷ 4 ∷ 8 ∷ 3 ∷ 7 ∷ 7 ∷ 2 ∷ []) ∷ []) ∷ (br 5 ∷ [])
    ∷ (fork 7 7 6 ∷ []) ∷ (op3 Report 2 2 7 ∷ op0 Ret ∷ []) ∷ (op1 Now 1 ∷ op0 Unreachable ∷ []) ∷ (op3 Cat 0 0 0
    ∷ []) ∷ []) (at (upto 17) []) (registers 9 (0 ∷ 0 ∷ 1 ∷ 1 ∷ 0 ∷ 3 ∷ 1 ∷ 1 ∷ 0 ∷ 9 ∷ 7 ∷ 7 ∷ 9 ∷ 9 ∷ []))
    (operands 0 (999 ∷ absent ∷ [])) (beside [] [] (6 ∷ 12 ∷ 6 ∷ []))) 64 8256 800 (done 1 12 0) ((1 ∷ 1 ∷ 6 ∷ 4 ∷ 12
    ∷ 0 ∷ []) ∷ [])
    (pic ((op1 Const 7 ∷ op AddrOf 1 (8 ∷ []) [] [] ∷ op Br 0 [] [] (1 ∷ 2 ∷ 1 ∷ 5 ∷ 4 ∷ 8 ∷ 2 ∷ []) ∷ []) ∷ (br 2
    ∷ []) ∷ (br 3 ∷ []) ∷ (op Br 0 [] [] (4 ∷ 4 ∷ 8 ∷ 3 ∷ 7 ∷ 7 ∷ 2 ∷ []) ∷ []) ∷ (br 5 ∷ []) ∷ (fork 7 7 6 ∷ [])
    ∷ (op3 Cmp 9 7 7 ∷ op4 Select 10 9 9 9 ∷ op Bin 3 (11 ∷ 7 ∷ 10 ∷ []) [] (8 ∷ 6 ∷ 3 ∷ 3 ∷ 6 ∷ []) ∷ op Check 3 (11
    ∷ 0 ∷ 9 ∷ []) [] [] ∷ op3 Report 11 11 7 ∷ op0 Ret ∷ []) ∷ (op1 Now 1 ∷ op0 Unreachable ∷ []) ∷ (op3 Cat 0 0 0
    ∷ []) ∷ []) (at (0 ∷ 1 ∷ 2 ∷ range 7 5 ++ 3 ∷ 4 ∷ 5 ∷ 6 ∷ range 12 5) []) (registers 12 (0 ∷ 0 ∷ 1 ∷ 1 ∷ 0 ∷ 3 ∷ 1
    ∷ 1 ∷ 0 ∷ 1 ∷ 3 ∷ 1 ∷ 9 ∷ 9 ∷ [])) (operands 0 (999 ∷ absent ∷ [])) (beside [] [] (6 ∷ 12 ∷ 6 ∷ [])))

-- seed 17: a register reused, chain of 1, chain of 6, done 2, moves with replay, moves without vias, new Sig, target
-- after x, target before x, target t
abbrev pub s17 : Row
s17 =
    moves (pic ((op Const 0 (7 ∷ []) [] (0 ∷ 256 ∷ []) ∷ br 7 ∷ []) ∷ (op Output 0 (1 ∷ 1 ∷ []) [] (7 ∷ 0 ∷ 1 ∷ 8 ∷ 7
    ∷ 5 ∷ 1 ∷ []) ∷ op2 Output 1 1 ∷ op Case 0 (7 ∷ []) [] (97 ∷ []) ∷ []) ∷ (op Cat 0 (0 ∷ 0 ∷ 0 ∷ []) [] (0 ∷ 7 ∷ 0
    ∷ 0 ∷ 7 ∷ 5 ∷ 6 ∷ []) ∷ []) ∷ (op CondBr 0 (7 ∷ []) [] (9 ∷ 10 ∷ 0 ∷ 3 ∷ 5 ∷ 0 ∷ 1 ∷ []) ∷ []) ∷ (op Br 0 [] [] (3
    ∷ 2 ∷ 2 ∷ 2 ∷ 2 ∷ 8 ∷ 8 ∷ []) ∷ []) ∷ (br 8 ∷ []) ∷ (br 5 ∷ []) ∷ (op2 Alloc 3 7 ∷ op2 Alloc 2 7 ∷ op BoolOp 1 (3
    ∷ 7 ∷ []) [] [] ∷ op Check 3 (7 ∷ 7 ∷ 2 ∷ []) [] [] ∷ op3 Cat 2 7 3 ∷ op3 Index 6 2 7 ∷ br 6 ∷ []) ∷ (br 4 ∷ [])
    ∷ (fork 0 1 1 ∷ []) ∷ (op Case 0 (1 ∷ []) [] (95 ∷ []) ∷ []) ∷ []) (at (upto 20) []) (registers 8 (7 ∷ 7 ∷ 4 ∷ 1
    ∷ 1 ∷ 6 ∷ 0 ∷ 0 ∷ 7 ∷ 77 ∷ 77 ∷ 7 ∷ 77 ∷ 9 ∷ 9 ∷ 7 ∷ [])) (operands 0 []) (beside [] [] (1 ∷ 9 ∷ []))) 76 8304 800
    (done 2 16 0) ((1 ∷ 7 ∷ 9 ∷ 6 ∷ 12 ∷ 0 ∷ []) ∷ (2 ∷ 9 ∷ 1 ∷ 6 ∷ 16 ∷ 0 ∷ []) ∷ [])
    (pic ((op Const 0 (7 ∷ []) [] (0 ∷ 256 ∷ []) ∷ br 7 ∷ []) ∷ (op2 Alloc 12 7 ∷ op2 Alloc 13 7 ∷ op BoolOp 1 (12 ∷ 7
    ∷ []) [] [] ∷ op Check 3 (7 ∷ 7 ∷ 13 ∷ []) [] [] ∷ op3 Cat 13 7 12 ∷ op3 Index 15 13 7 ∷ op Output 0 (1 ∷ 1
    ∷ []) [] (7 ∷ 0 ∷ 1 ∷ 8 ∷ 7 ∷ 5 ∷ 1 ∷ []) ∷ op2 Output 1 1 ∷ op Case 0 (7 ∷ []) [] (97 ∷ []) ∷ []) ∷ (op Cat 0 (0
    ∷ 0 ∷ 0 ∷ []) [] (0 ∷ 7 ∷ 0 ∷ 0 ∷ 7 ∷ 5 ∷ 6 ∷ []) ∷ []) ∷ (op CondBr 0 (7 ∷ []) [] (9 ∷ 10 ∷ 0 ∷ 3 ∷ 5 ∷ 0 ∷ 1
    ∷ []) ∷ []) ∷ (op Br 0 [] [] (3 ∷ 2 ∷ 2 ∷ 2 ∷ 2 ∷ 8 ∷ 8 ∷ []) ∷ []) ∷ (br 8 ∷ []) ∷ (br 5 ∷ []) ∷ (br 6 ∷ [])
    ∷ (br 4 ∷ []) ∷ (fork 0 1 1 ∷ []) ∷ (op Case 0 (1 ∷ []) [] (95 ∷ []) ∷ []) ∷ []) (at (0 ∷ 1
    ∷ range 10 6 ++ range 2 8 ++ 16 ∷ 17 ∷ 18 ∷ 19 ∷ []) []) (registers 16 (7 ∷ 7 ∷ 4 ∷ 1 ∷ 1 ∷ 6 ∷ 0 ∷ 0 ∷ 1 ∷ 4 ∷ 0
    ∷ 0 ∷ 1 ∷ 4 ∷ 0 ∷ 0 ∷ [])) (operands 0 []) (beside [] [] (1 ∷ 9 ∷ [])))

-- seed 21: a register reused, chain of 4, done 1, moves with replay, moves without vias, new Sig, new list, rule 2
-- decides, target before x, target f, target renamed, target's list renamed
abbrev pub s21 : Row
s21 =
    moves (pic ((op Const 0 (7 ∷ []) [] (63 ∷ 0 ∷ 3 ∷ 0 ∷ 4 ∷ 5 ∷ 4 ∷ []) ∷ br 5 ∷ []) ∷ (fork 0 6 3 ∷ []) ∷ (br 1
    ∷ []) ∷ (op MakeDope 0 (1 ∷ []) (2 ∷ 2 ∷ []) [] ∷ op Cat 0 (0 ∷ 4 ∷ 4 ∷ []) (4 ∷ 2 ∷ []) [] ∷ op1 Ret 7 ∷ [])
    ∷ (op Br 0 [] [] (2 ∷ 1 ∷ 8 ∷ 7 ∷ 3 ∷ 5 ∷ 8 ∷ []) ∷ []) ∷ (op3 Cmp 6 7 7 ∷ op Bin 4 (3 ∷ 7 ∷ 7 ∷ []) [] []
    ∷ op3 SigVal 5 3 3 ∷ op2 Edge 0 0 ∷ op2 Alloc 4 7 ∷ op Cat 0 (4 ∷ 7 ∷ 6 ∷ []) (0 ∷ 2 ∷ []) [] ∷ op3 FCheck 1 0 1
    ∷ op2 DopeLen 5 4 ∷ op Load 3 (2 ∷ 4 ∷ []) [] [] ∷ op Cat 0 (4 ∷ 6 ∷ 5 ∷ []) (2 ∷ []) (51190 ∷ 2 ∷ 6 ∷ 6 ∷ 4 ∷ 4
    ∷ 8 ∷ []) ∷ op Check 3 (5 ∷ 5 ∷ 7 ∷ []) [] (7 ∷ 4 ∷ 8 ∷ 3 ∷ 4 ∷ 6 ∷ 2 ∷ []) ∷ br 4 ∷ []) ∷ (op0 Ret ∷ []) ∷ [])
    (at (upto 21) []) (registers 8 (1 ∷ 1 ∷ 6 ∷ 6 ∷ 4 ∷ 0 ∷ 6 ∷ 0 ∷ 9 ∷ 7 ∷ 77 ∷ 9 ∷ 7 ∷ 7 ∷ 77 ∷ 77 ∷ 77 ∷ []))
    (operands 6 (4 ∷ 4 ∷ 6 ∷ 4 ∷ 2 ∷ 4 ∷ 0 ∷ 999 ∷ 0 ∷ absent ∷ 999 ∷ 0 ∷ absent ∷ 999 ∷ 0 ∷ absent ∷ []))
    (beside [] [] (10 ∷ 10 ∷ []))) 62 8248 800 (done 1 13 12) ((1 ∷ 5 ∷ 3 ∷ 9 ∷ 13 ∷ 12 ∷ []) ∷ [])
    (pic ((op Const 0 (7 ∷ []) [] (63 ∷ 0 ∷ 3 ∷ 0 ∷ 4 ∷ 5 ∷ 4 ∷ []) ∷ br 5 ∷ []) ∷ (fork 0 6 3 ∷ []) ∷ (br 1 ∷ [])
    ∷ (op3 Cmp 8 7 7 ∷ op Bin 4 (9 ∷ 7 ∷ 7 ∷ []) [] [] ∷ op3 SigVal 10 9 9 ∷ op2 Alloc 11 7 ∷ op Cat 0 (11 ∷ 7 ∷ 8
    ∷ []) (6 ∷ 2 ∷ []) [] ∷ op2 DopeLen 10 11 ∷ op Load 3 (9 ∷ 11 ∷ []) [] [] ∷ op Cat 0 (11 ∷ 8 ∷ 10 ∷ []) (2 ∷ [])
    (51190 ∷ 2 ∷ 6 ∷ 6 ∷ 4 ∷ 4 ∷ 8 ∷ []) ∷ op Check 3 (10 ∷ 10 ∷ 7 ∷ []) [] (7 ∷ 4 ∷ 8 ∷ 3 ∷ 4 ∷ 6 ∷ 2 ∷ [])
    ∷ op MakeDope 0 (1 ∷ []) (8 ∷ 2 ∷ []) [] ∷ op Cat 0 (0 ∷ 11 ∷ 11 ∷ []) (10 ∷ 2 ∷ []) [] ∷ op1 Ret 7 ∷ [])
    ∷ (op Br 0 [] [] (2 ∷ 1 ∷ 8 ∷ 7 ∷ 3 ∷ 5 ∷ 8 ∷ []) ∷ []) ∷ (op2 Edge 0 0 ∷ op3 FCheck 1 0 1 ∷ br 4 ∷ []) ∷ (op0 Ret
    ∷ []) ∷ []) (at (0 ∷ 1 ∷ 2 ∷ 3 ∷ 8 ∷ 9 ∷ 10 ∷ 12 ∷ 13 ∷ 15 ∷ 16 ∷ 17 ∷ 18 ∷ 4 ∷ 5 ∷ 6 ∷ 7 ∷ 11 ∷ 14 ∷ 19 ∷ 20
    ∷ []) []) (registers 13 (1 ∷ 1 ∷ 6 ∷ 6 ∷ 4 ∷ 0 ∷ 6 ∷ 0 ∷ 6 ∷ 6 ∷ 0 ∷ 4 ∷ 0 ∷ 7 ∷ 77 ∷ 77 ∷ 77 ∷ [])) (operands 12
    (4 ∷ 4 ∷ 6 ∷ 4 ∷ 2 ∷ 4 ∷ 11 ∷ 11 ∷ 8 ∷ 11 ∷ 9 ∷ 11 ∷ absent ∷ 999 ∷ 0 ∷ absent ∷ [])) (beside [] [] (10 ∷ 10
    ∷ [])))

-- seed 22: a register reused, chain of 1, chain of 6, done 2, moves without replay, moves without vias, new list,
-- target after x, target before x, target t
abbrev pub s22 : Row
s22 =
    moves (pic ((const 6 32 ∷ br 2 ∷ []) ∷ (br 10 ∷ []) ∷ (op3 Cmp 5 6 6 ∷ op Bin 3 (4 ∷ 6 ∷ 5 ∷ []) [] []
    ∷ op4 Select 5 4 4 4 ∷ op2 Alloc 4 6 ∷ op2 SigRead 4 1 ∷ op CallNative 1 (2 ∷ []) (0 ∷ 1 ∷ []) []
    ∷ op2 DopeLen 2 4 ∷ op Cat 0 (4 ∷ 5 ∷ 5 ∷ []) (1 ∷ []) (12596 ∷ []) ∷ fork 0 1 6 ∷ []) ∷ (br 4 ∷ []) ∷ (br 9 ∷ [])
    ∷ (op Const 0 (0 ∷ []) [] (1056443184 ∷ 3286520383 ∷ []) ∷ []) ∷ (op3 Pos 0 1 6 ∷ op Ret 0 (1 ∷ []) [] (7 ∷ 3 ∷ 1
    ∷ 0 ∷ 2 ∷ 1 ∷ 6 ∷ []) ∷ []) ∷ (op2 Output 1 1 ∷ op2 Output 6 6 ∷ op0 Unreachable ∷ []) ∷ (br 3 ∷ []) ∷ (fork 1 7 5
    ∷ []) ∷ (op Br 0 [] [] (8 ∷ 4 ∷ 0 ∷ 5 ∷ 3 ∷ 4 ∷ 8 ∷ []) ∷ []) ∷ []) (at (upto 23) []) (registers 7 (1 ∷ 5 ∷ 1 ∷ 0
    ∷ 3 ∷ 0 ∷ 3 ∷ 7 ∷ 77 ∷ 7 ∷ 9 ∷ 77 ∷ 9 ∷ [])) (operands 1 (4 ∷ 0 ∷ 0 ∷ [])) (beside [] [] [])) 70 8280 800
    (done 2 13 3) ((1 ∷ 2 ∷ 1 ∷ 8 ∷ 10 ∷ 2 ∷ []) ∷ (2 ∷ 1 ∷ 7 ∷ 8 ∷ 13 ∷ 3 ∷ []) ∷ [])
    (pic ((const 6 32 ∷ br 2 ∷ []) ∷ (br 10 ∷ []) ∷ (fork 0 1 6 ∷ []) ∷ (br 4 ∷ []) ∷ (br 9 ∷ []) ∷ (op Const 0 (0
    ∷ []) [] (1056443184 ∷ 3286520383 ∷ []) ∷ []) ∷ (op3 Pos 0 1 6 ∷ op Ret 0 (1 ∷ []) [] (7 ∷ 3 ∷ 1 ∷ 0 ∷ 2 ∷ 1 ∷ 6
    ∷ []) ∷ []) ∷ (op3 Cmp 10 6 6 ∷ op Bin 3 (11 ∷ 6 ∷ 10 ∷ []) [] [] ∷ op4 Select 10 11 11 11 ∷ op2 Alloc 11 6
    ∷ op2 SigRead 11 1 ∷ op CallNative 1 (12 ∷ []) (2 ∷ 1 ∷ []) [] ∷ op2 DopeLen 12 11 ∷ op Cat 0 (11 ∷ 10 ∷ 10 ∷ [])
    (1 ∷ []) (12596 ∷ []) ∷ op2 Output 1 1 ∷ op2 Output 6 6 ∷ op0 Unreachable ∷ []) ∷ (br 3 ∷ []) ∷ (fork 1 7 5 ∷ [])
    ∷ (op Br 0 [] [] (8 ∷ 4 ∷ 0 ∷ 5 ∷ 3 ∷ 4 ∷ 8 ∷ []) ∷ []) ∷ []) (at (0 ∷ 1 ∷ 2
    ∷ range 11 6 ++ range 3 8 ++ range 17 6) []) (registers 13 (1 ∷ 5 ∷ 1 ∷ 0 ∷ 3 ∷ 0 ∷ 3 ∷ 0 ∷ 3 ∷ 1 ∷ 0 ∷ 3 ∷ 1
    ∷ [])) (operands 3 (4 ∷ 8 ∷ 11 ∷ [])) (beside [] [] []))

-- seed 25: done 0, rule 5 on writes decides
abbrev pub s25 : Row
s25 =
    stays (pic ((const 9 59 ∷ op AddrOf 3 (10 ∷ []) [] [] ∷ br 1 ∷ []) ∷ (op BoolOp 1 (4 ∷ 9 ∷ []) [] []
    ∷ op3 SigVal 3 9 9 ∷ op Bin 4 (7 ∷ 9 ∷ 9 ∷ []) [] [] ∷ op3 Cmp 8 7 1 ∷ op3 Cmp 2 4 3 ∷ op2 Alloc 6 9 ∷ op Cat 0 (6
    ∷ 9 ∷ 8 ∷ []) (0 ∷ 4 ∷ []) (36852 ∷ []) ∷ op Cat 0 (6 ∷ 7 ∷ 4 ∷ []) (4 ∷ 2 ∷ []) (15500 ∷ []) ∷ op Cat 0 (6 ∷ 2
    ∷ 4 ∷ []) (6 ∷ 3 ∷ []) (62961 ∷ []) ∷ op4 LFill 9 1 9 9 ∷ br 2 ∷ []) ∷ (br 3 ∷ []) ∷ (br 4 ∷ []) ∷ (fork 1 6 5
    ∷ []) ∷ (op2 Output 3 8 ∷ op Cat 0 (0 ∷ 6 ∷ 6 ∷ []) (9 ∷ 2 ∷ []) [] ∷ []) ∷ [] ∷ []) (at (upto 19) [])
    (registers 11 (0 ∷ 0 ∷ 4 ∷ 4 ∷ 0 ∷ 4 ∷ 1 ∷ 0 ∷ 0 ∷ 7 ∷ 1 ∷ [])) (operands 11 (6 ∷ 9 ∷ 6 ∷ 4 ∷ 6 ∷ 6 ∷ 8 ∷ 8 ∷ 6
    ∷ 2 ∷ 6 ∷ [])) (beside [] [] [])) 50 8200 800 (done 0 11 11)

-- seed 28: rule 2 decides, short 0, short by a register
abbrev pub s28 : Row
s28 =
    stays (pic ((op1 Const 8 ∷ op AddrOf 2 (9 ∷ []) [] [] ∷ op4 BoundsLen 4 8 8 8 ∷ op Move 0 (2 ∷ 4 ∷ []) [] (1 ∷ 4
    ∷ 1 ∷ 3 ∷ 1 ∷ 3 ∷ 4 ∷ []) ∷ op2 Alloc 5 4 ∷ op3 Cat 5 4 2 ∷ op Check 3 (4 ∷ 4 ∷ 4 ∷ []) [] [] ∷ op Load 3 (3 ∷ 5
    ∷ []) [] [] ∷ op Store 3 (5 ∷ 2 ∷ []) [] [] ∷ op3 Cmp 7 2 4 ∷ op2 Alloc 6 7 ∷ op3 BoolOp 6 2 7 ∷ br 5 ∷ [])
    ∷ (op2 Move 1 5 ∷ op Store 3 (0 ∷ 7 ∷ []) [] [] ∷ const 6 5 ∷ op2 Output 4 2 ∷ op0 Unreachable ∷ []) ∷ (op2 Un 1 0
    ∷ op Unreachable 0 [] [] (6 ∷ 6 ∷ 3 ∷ 1 ∷ 2 ∷ 5 ∷ 1 ∷ []) ∷ []) ∷ (br 6 ∷ []) ∷ (fork 8 2 1 ∷ []) ∷ (br 3 ∷ [])
    ∷ (br 4 ∷ []) ∷ []) (at (upto 24) []) (registers 10 (0 ∷ 0 ∷ 4 ∷ 0 ∷ 3 ∷ 4 ∷ 0 ∷ 0 ∷ 0 ∷ 1 ∷ 9 ∷ 7 ∷ 9 ∷ 7 ∷ 7
    ∷ 77 ∷ [])) (operands 0 []) (beside [] [] (10 ∷ 10 ∷ []))) 60 8240 800 (short 0 10 0)

-- seed 29: chain of 1, done 1, empty target, moves with replay, moves without vias, new Sig, new list, target after
-- x, target t
abbrev pub s29 : Row
s29 =
    moves (pic ((const 9 50 ∷ br 1 ∷ []) ∷ (op CallNative 2 [] [] [] ∷ op2 Move 8 9 ∷ op Bin 4 (5 ∷ 9 ∷ 9 ∷ []) [] []
    ∷ op CallNative 1 (6 ∷ []) (0 ∷ 1 ∷ []) [] ∷ op2 Alloc 4 8 ∷ op Cat 0 (4 ∷ 8 ∷ 5 ∷ []) (1 ∷ []) (0 ∷ 0 ∷ 8 ∷ 4 ∷ 5
    ∷ 1 ∷ 1 ∷ []) ∷ op CondBr 0 (0 ∷ []) [] (2 ∷ 3 ∷ 5 ∷ 2 ∷ 0 ∷ 5 ∷ 2 ∷ []) ∷ []) ∷ [] ∷ (op0 Cover ∷ op0 Ret ∷ [])
    ∷ (op3 Cat 9 9 9 ∷ []) ∷ []) (at (upto 12) []) (registers 10 (0 ∷ 3 ∷ 1 ∷ 0 ∷ 3 ∷ 4 ∷ 0 ∷ 1 ∷ 0 ∷ 0 ∷ 9 ∷ 7 ∷ 7
    ∷ 77 ∷ 7 ∷ 9 ∷ 77 ∷ 77 ∷ [])) (operands 1 (8 ∷ absent ∷ 999 ∷ absent ∷ 999 ∷ [])) (beside [] [] (3
    ∷ []))) 56 8224 800 (done 1 15 2) ((1 ∷ 1 ∷ 2 ∷ 5 ∷ 15 ∷ 2 ∷ []) ∷ [])
    (pic ((const 9 50 ∷ br 1 ∷ []) ∷ (op CallNative 2 [] [] [] ∷ op CondBr 0 (0 ∷ []) [] (2 ∷ 3 ∷ 5 ∷ 2 ∷ 0 ∷ 5 ∷ 2
    ∷ []) ∷ []) ∷ (op2 Move 10 9 ∷ op Bin 4 (11 ∷ 9 ∷ 9 ∷ []) [] [] ∷ op CallNative 1 (13 ∷ []) (1 ∷ 1 ∷ []) []
    ∷ op2 Alloc 14 10 ∷ op Cat 0 (14 ∷ 10 ∷ 11 ∷ []) (1 ∷ []) (0 ∷ 0 ∷ 8 ∷ 4 ∷ 5 ∷ 1 ∷ 1 ∷ []) ∷ []) ∷ (op0 Cover
    ∷ op0 Ret ∷ []) ∷ (op3 Cat 9 9 9 ∷ []) ∷ []) (at (0 ∷ 1 ∷ 2 ∷ 8 ∷ range 3 5 ++ 9 ∷ 10 ∷ 11 ∷ []) []) (registers 15
    (0 ∷ 3 ∷ 1 ∷ 0 ∷ 3 ∷ 4 ∷ 0 ∷ 1 ∷ 0 ∷ 0 ∷ 0 ∷ 4 ∷ 0 ∷ 0 ∷ 3 ∷ 9 ∷ 77 ∷ 77 ∷ [])) (operands 2 (8 ∷ 10 ∷ 999 ∷ absent
    ∷ 999 ∷ [])) (beside [] [] (3 ∷ [])))

-- seed 31: a seventh block decides, done 0, the start of the function decides
abbrev pub s31 : Row
s31 =
    stays (pic ((br 2 ∷ []) ∷ (op Br 0 [] [] (0 ∷ 2 ∷ 5 ∷ 3 ∷ 5 ∷ 4 ∷ 1 ∷ []) ∷ []) ∷ (br 3 ∷ []) ∷ (op CondBr 0 (0
    ∷ []) [] (5 ∷ 7 ∷ 1 ∷ 0 ∷ 4 ∷ 5 ∷ 4 ∷ []) ∷ []) ∷ (op Br 0 [] [] (1 ∷ 0 ∷ 8 ∷ 2 ∷ 2 ∷ 1 ∷ 1 ∷ []) ∷ [])
    ∷ (op2 Deref 1 7 ∷ []) ∷ (const 7 64 ∷ op CallNative 1 (5 ∷ []) (0 ∷ 1 ∷ []) [] ∷ op Move 0 (6 ∷ 5 ∷ []) [] (7 ∷ 4
    ∷ 4 ∷ 4 ∷ 4 ∷ 7 ∷ 3 ∷ []) ∷ op Alloc 0 (2 ∷ 7 ∷ []) [] (1 ∷ 6 ∷ 1 ∷ 4 ∷ 5 ∷ 5 ∷ 5 ∷ []) ∷ op Cat 0 (2 ∷ 7 ∷ 7
    ∷ []) (2 ∷ []) (0 ∷ 0 ∷ 6 ∷ 6 ∷ 3 ∷ 5 ∷ 3 ∷ []) ∷ op Load 2 (4 ∷ 6 ∷ []) [] [] ∷ op2 SigRead 2 0 ∷ op3 Cmp 3 7 5
    ∷ op Bin 1 (2 ∷ 3 ∷ 3 ∷ []) [] [] ∷ op CallNative 1 (2 ∷ []) (2 ∷ 1 ∷ []) (4 ∷ 7 ∷ 6 ∷ 0 ∷ 2 ∷ 0 ∷ 2 ∷ [])
    ∷ op Bin 2 (3 ∷ 3 ∷ 7 ∷ []) [] [] ∷ br 4 ∷ []) ∷ [] ∷ []) (at (upto 18) []) (registers 8 (0 ∷ 0 ∷ 0 ∷ 7 ∷ 5 ∷ 0
    ∷ 4 ∷ 4 ∷ 7 ∷ 7 ∷ 77 ∷ 7 ∷ 9 ∷ 77 ∷ 9 ∷ [])) (operands 3 (7 ∷ 0 ∷ 2 ∷ absent ∷ [])) (beside [] [] [])) 62 8248 800
    (done 0 8 3)

-- seed 32: a register reused, chain of 1, moves with vias, moves without replay, new Sig, new list, rule 2 decides,
-- short 1, short by an operand, target after x, target t
abbrev pub s32 : Row
s32 =
    moves (pic ((const 7 37 ∷ op Cmp 0 (6 ∷ 7 ∷ 0 ∷ []) [] (5 ∷ 6 ∷ 7 ∷ 7 ∷ 2 ∷ 3 ∷ 1 ∷ []) ∷ op3 Cmp 3 7 6
    ∷ op4 Select 4 7 6 6 ∷ op Alloc 0 (2 ∷ 3 ∷ []) [] (6 ∷ 7 ∷ 8 ∷ 7 ∷ 7 ∷ 1 ∷ 7 ∷ []) ∷ op3 Cat 2 4 4
    ∷ op2 DopeLen 5 2 ∷ op2 Move 6 6 ∷ op CallNative 1 (6 ∷ []) (0 ∷ 1 ∷ []) [] ∷ op CallNative 1 (5 ∷ []) (1 ∷ 1
    ∷ []) [] ∷ op SigVal 0 (3 ∷ 7 ∷ 7 ∷ []) [] (7 ∷ 8 ∷ 1 ∷ 4 ∷ 1 ∷ 4 ∷ 5 ∷ []) ∷ op Cat 1 (2 ∷ 7 ∷ 7 ∷ []) (2
    ∷ []) [] ∷ fork 1 1 2 ∷ []) ∷ (op3 LGet 0 7 1 ∷ fork 1 8 6 ∷ []) ∷ (op1 Ret 1 ∷ []) ∷ (op SigDrivingValue 0 (3 ∷ 1
    ∷ []) [] (5 ∷ 0 ∷ 8 ∷ 0 ∷ 3 ∷ 4 ∷ 3 ∷ []) ∷ []) ∷ (op2 Output 7 7 ∷ []) ∷ (op AddrOf 4 (0 ∷ []) [] [] ∷ op0 Ret
    ∷ []) ∷ (op CondBr 0 (0 ∷ []) [] (3 ∷ 7 ∷ 5 ∷ 5 ∷ 7 ∷ 3 ∷ 4 ∷ []) ∷ []) ∷ (op2 Output 0 0 ∷ fork 1 5 4 ∷ []) ∷ []
    ∷ []) (at (upto 23) (replicate 7 0 ++ 37 ∷ 0 ∷ 0 ∷ 2 ∷ 0 ∷ 0 ∷ 49 ∷ 0 ∷ 6 ∷ 0 ∷ 33 ∷ 0 ∷ 0 ∷ 0 ∷ 5 ∷ 43 ∷ []))
    (registers 8 (2 ∷ 2 ∷ 4 ∷ 0 ∷ 1 ∷ 1 ∷ 1 ∷ 0 ∷ 7 ∷ 9 ∷ 7 ∷ 77 ∷ 7 ∷ 77 ∷ 9 ∷ 7 ∷ 9 ∷ 7 ∷ 9 ∷ [])) (operands 2 (4
    ∷ 2 ∷ 999 ∷ 999 ∷ absent ∷ [])) (beside [] [] [])) 74 8296 800 (short 1 14 4) ((1 ∷ 0 ∷ 1 ∷ 10 ∷ 14 ∷ 4 ∷ [])
    ∷ [])
    (pic ((const 7 37 ∷ op SigVal 0 (3 ∷ 7 ∷ 7 ∷ []) [] (7 ∷ 8 ∷ 1 ∷ 4 ∷ 1 ∷ 4 ∷ 5 ∷ []) ∷ fork 1 1 2 ∷ [])
    ∷ (op Cmp 0 (8 ∷ 7 ∷ 0 ∷ []) [] (5 ∷ 6 ∷ 7 ∷ 7 ∷ 2 ∷ 3 ∷ 1 ∷ []) ∷ op3 Cmp 9 7 8 ∷ op4 Select 10 7 8 8
    ∷ op Alloc 0 (11 ∷ 9 ∷ []) [] (6 ∷ 7 ∷ 8 ∷ 7 ∷ 7 ∷ 1 ∷ 7 ∷ []) ∷ op3 Cat 11 10 10 ∷ op2 DopeLen 13 11
    ∷ op2 Move 13 8 ∷ op CallNative 1 (13 ∷ []) (2 ∷ 1 ∷ []) [] ∷ op CallNative 1 (13 ∷ []) (3 ∷ 1 ∷ []) [] ∷ op Cat 1
    (11 ∷ 7 ∷ 7 ∷ []) (2 ∷ []) [] ∷ op3 LGet 0 7 1 ∷ fork 1 8 6 ∷ []) ∷ (op1 Ret 1 ∷ []) ∷ (op SigDrivingValue 0 (3
    ∷ 1 ∷ []) [] (5 ∷ 0 ∷ 8 ∷ 0 ∷ 3 ∷ 4 ∷ 3 ∷ []) ∷ []) ∷ (op2 Output 7 7 ∷ []) ∷ (op AddrOf 4 (0 ∷ []) [] []
    ∷ op0 Ret ∷ []) ∷ (op CondBr 0 (0 ∷ []) [] (3 ∷ 7 ∷ 5 ∷ 5 ∷ 7 ∷ 3 ∷ 4 ∷ []) ∷ []) ∷ (op2 Output 0 0 ∷ fork 1 5 4
    ∷ []) ∷ [] ∷ []) (at (0 ∷ 10 ∷ 12 ∷ range 1 9 ++ 11 ∷ range 13 10) (0 ∷ 2 ∷ replicate 7 0 ++ 37 ∷ 0 ∷ 0 ∷ 0 ∷ 49
    ∷ 0 ∷ 6 ∷ 0 ∷ 33 ∷ 0 ∷ 0 ∷ 0 ∷ 5 ∷ 43 ∷ [])) (registers 14 (2 ∷ 2 ∷ 4 ∷ 0 ∷ 1 ∷ 1 ∷ 1 ∷ 0 ∷ 1 ∷ 0 ∷ 1 ∷ 4 ∷ 0 ∷ 1
    ∷ 9 ∷ 7 ∷ 9 ∷ 7 ∷ 9 ∷ [])) (operands 4 (4 ∷ 2 ∷ 10 ∷ 11 ∷ absent ∷ [])) (beside [] [] []))

-- seed 35: chain of 1, done 1, moves with vias, moves without replay, new Sig, new list, rule 1 decides, rule 2
-- decides, target after x, target f, target renamed, target's list renamed
abbrev pub s35 : Row
s35 =
    moves (pic ((op1 Const 9 ∷ op Bin 2 (3 ∷ 9 ∷ 9 ∷ []) [] [] ∷ op3 Cmp 6 9 3 ∷ op2 Alloc 8 6 ∷ op2 Move 4 3
    ∷ op2 SigRead 8 0 ∷ op2 DopeLen 7 8 ∷ op Cat 0 (8 ∷ 4 ∷ 3 ∷ []) (0 ∷ 2 ∷ []) [] ∷ op3 Index 5 8 6 ∷ op Bin 2 (2
    ∷ 4 ∷ 9 ∷ []) [] [] ∷ op Cat 0 (5 ∷ 6 ∷ 2 ∷ []) (2 ∷ 2 ∷ []) [] ∷ fork 1 1 2 ∷ []) ∷ (op0 Ret ∷ [])
    ∷ (op CallIndirect 0 (3 ∷ []) (4 ∷ 3 ∷ []) [] ∷ op0 Ret ∷ []) ∷ []) (at (upto 15) (36 ∷ 13 ∷ 17 ∷ 0 ∷ 9 ∷ 0 ∷ 1
    ∷ 0 ∷ 11 ∷ 38 ∷ 0 ∷ 21 ∷ 36 ∷ 0 ∷ 0 ∷ [])) (registers 10 (0 ∷ 6 ∷ 2 ∷ 0 ∷ 0 ∷ 2 ∷ 4 ∷ 1 ∷ 1 ∷ 6 ∷ 9 ∷ 77 ∷ 7 ∷ 7
    ∷ 77 ∷ 77 ∷ 77 ∷ 77 ∷ [])) (operands 7 (8 ∷ 3 ∷ 8 ∷ 6 ∷ 7 ∷ 0 ∷ 3 ∷ 999 ∷ absent ∷ absent ∷ 999 ∷ 999 ∷ absent ∷ 0
    ∷ [])) (beside [] [] [])) 48 8192 800 (done 1 18 14) ((1 ∷ 0 ∷ 2 ∷ 10 ∷ 18 ∷ 14 ∷ []) ∷ [])
    (pic ((op1 Const 9 ∷ fork 1 1 2 ∷ []) ∷ (op0 Ret ∷ []) ∷ (op Bin 2 (10 ∷ 9 ∷ 9 ∷ []) [] [] ∷ op3 Cmp 11 9 10
    ∷ op2 Alloc 13 11 ∷ op2 Move 14 10 ∷ op2 SigRead 13 0 ∷ op2 DopeLen 15 13 ∷ op Cat 0 (13 ∷ 14 ∷ 10 ∷ []) (7 ∷ 2
    ∷ []) [] ∷ op3 Index 16 13 11 ∷ op Bin 2 (17 ∷ 14 ∷ 9 ∷ []) [] [] ∷ op Cat 0 (16 ∷ 11 ∷ 17 ∷ []) (9 ∷ 2 ∷ []) []
    ∷ op CallIndirect 0 (10 ∷ []) (11 ∷ 3 ∷ []) [] ∷ op0 Ret ∷ []) ∷ []) (at (0 ∷ 11 ∷ 12 ∷ range 1 10 ++ 13 ∷ 14
    ∷ []) (36 ∷ 21 ∷ 36 ∷ 13 ∷ 17 ∷ 0 ∷ 9 ∷ 0 ∷ 1 ∷ 0 ∷ 11 ∷ 38 ∷ 0 ∷ 0 ∷ 0 ∷ [])) (registers 18 (0 ∷ 6 ∷ 2 ∷ 0 ∷ 0
    ∷ 2 ∷ 4 ∷ 1 ∷ 1 ∷ 6 ∷ 0 ∷ 4 ∷ 0 ∷ 1 ∷ 0 ∷ 1 ∷ 2 ∷ 2 ∷ [])) (operands 14 (8 ∷ 3 ∷ 8 ∷ 6 ∷ 7 ∷ 0 ∷ 3 ∷ 13 ∷ 10 ∷ 13
    ∷ 11 ∷ 15 ∷ 0 ∷ 10 ∷ [])) (beside [] [] []))

-- seed 36: a register reused, chain of 1, done 1, empty target, moves without replay, moves without vias, new Sig,
-- new list, target before x, target t
abbrev pub s36 : Row
s36 =
    moves (pic ((const 7 1 ∷ br 2 ∷ []) ∷ [] ∷ (op4 BoundsLen 4 7 7 7 ∷ op3 Cmp 3 4 4 ∷ op4 BoundsLen 2 7 7 4
    ∷ op2 Alloc 5 7 ∷ op2 Move 6 4 ∷ op Check 3 (3 ∷ 2 ∷ 6 ∷ []) [] [] ∷ op Cat 0 (5 ∷ 7 ∷ 7 ∷ []) (0 ∷ 3 ∷ []) (0 ∷ 8
    ∷ 3 ∷ 5 ∷ 7 ∷ 6 ∷ 6 ∷ []) ∷ op2 DopeLen 2 5 ∷ op Load 1 (2 ∷ 5 ∷ []) [] [] ∷ op CondBr 0 (0 ∷ []) [] (1 ∷ 1 ∷ 2
    ∷ 1 ∷ 0 ∷ 6 ∷ 8 ∷ []) ∷ []) ∷ []) (at (upto 12) []) (registers 8 (1 ∷ 0 ∷ 0 ∷ 4 ∷ 0 ∷ 0 ∷ 0 ∷ 0 ∷ 77 ∷ 7 ∷ 77 ∷ 77
    ∷ 77 ∷ 9 ∷ 7 ∷ 77 ∷ 9 ∷ [])) (operands 3 (5 ∷ 5 ∷ 3 ∷ 0 ∷ 999 ∷ 0 ∷ [])) (beside [] [] [])) 46 8184 800
    (done 1 14 6) ((1 ∷ 2 ∷ 1 ∷ 9 ∷ 14 ∷ 6 ∷ []) ∷ [])
    (pic ((const 7 1 ∷ br 2 ∷ []) ∷ (op4 BoundsLen 8 7 7 7 ∷ op3 Cmp 9 8 8 ∷ op4 BoundsLen 11 7 7 8 ∷ op2 Alloc 12 7
    ∷ op2 Move 13 8 ∷ op Check 3 (9 ∷ 11 ∷ 13 ∷ []) [] [] ∷ op Cat 0 (12 ∷ 7 ∷ 7 ∷ []) (3 ∷ 3 ∷ []) (0 ∷ 8 ∷ 3 ∷ 5 ∷ 7
    ∷ 6 ∷ 6 ∷ []) ∷ op2 DopeLen 13 12 ∷ op Load 1 (13 ∷ 12 ∷ []) [] [] ∷ []) ∷ (op CondBr 0 (0 ∷ []) [] (1 ∷ 1 ∷ 2 ∷ 1
    ∷ 0 ∷ 6 ∷ 8 ∷ []) ∷ []) ∷ []) (at (upto 12) []) (registers 14 (1 ∷ 0 ∷ 0 ∷ 4 ∷ replicate 5 0 ++ 4 ∷ 0 ∷ 0 ∷ 0 ∷ 0
    ∷ 7 ∷ 77 ∷ 9 ∷ [])) (operands 6 (5 ∷ 5 ∷ 3 ∷ 12 ∷ 12 ∷ 9 ∷ [])) (beside [] [] []))

-- seed 37: a register reused, chain of 6, done 1, empty target, moves with vias, moves without replay, new Sig,
-- target after x, target t
abbrev pub s37 : Row
s37 =
    moves (pic ((const 8 2 ∷ op Check 3 (8 ∷ 8 ∷ 8 ∷ []) [] [] ∷ op2 Move 7 8 ∷ op4 BoundsLen 3 8 8 8 ∷ op2 Alloc 2 8
    ∷ op Cat 0 (2 ∷ 7 ∷ 8 ∷ []) [] (39567 ∷ []) ∷ op Store 2 (2 ∷ 3 ∷ []) [] [] ∷ op Cat 0 (2 ∷ 8 ∷ 3 ∷ []) [] (2516
    ∷ []) ∷ op Cmp 0 (6 ∷ 3 ∷ 7 ∷ []) [] (2 ∷ 0 ∷ 6 ∷ 1 ∷ 3 ∷ 0 ∷ 5 ∷ []) ∷ op MakeDope 0 (2 ∷ []) (1 ∷ []) []
    ∷ op2 DopeLen 4 2 ∷ op Load 2 (5 ∷ 2 ∷ []) [] [] ∷ br 7 ∷ []) ∷ [] ∷ (br 3 ∷ []) ∷ (br 5 ∷ []) ∷ [] ∷ (op CondBr 0
    (0 ∷ []) [] (1 ∷ 4 ∷ 3 ∷ 1 ∷ 6 ∷ 2 ∷ 7 ∷ []) ∷ []) ∷ (br 2 ∷ []) ∷ (br 6 ∷ []) ∷ []) (at (upto 18) (0 ∷ 24 ∷ 0 ∷ 0
    ∷ 29 ∷ 0 ∷ 0 ∷ 15 ∷ 41 ∷ 36 ∷ 0 ∷ 8 ∷ 31 ∷ 0 ∷ 35 ∷ 17 ∷ 20 ∷ 45 ∷ [])) (registers 9 (1 ∷ 1 ∷ 4 ∷ 0 ∷ 1 ∷ 1 ∷ 0
    ∷ 1 ∷ 4 ∷ 7 ∷ 77 ∷ 77 ∷ 7 ∷ 77 ∷ 9 ∷ 77 ∷ 77 ∷ 7 ∷ [])) (operands 1 (5 ∷ 999 ∷ absent ∷ 0 ∷ absent ∷ []))
    (beside [] [] [])) 68 8272 800 (done 1 14 1) ((1 ∷ 0 ∷ 1 ∷ 11 ∷ 14 ∷ 1 ∷ []) ∷ [])
    (pic ((const 8 2 ∷ br 7 ∷ []) ∷ (op Check 3 (8 ∷ 8 ∷ 8 ∷ []) [] [] ∷ op2 Move 9 8 ∷ op4 BoundsLen 10 8 8 8
    ∷ op2 Alloc 11 8 ∷ op Cat 0 (11 ∷ 9 ∷ 8 ∷ []) [] (39567 ∷ []) ∷ op Store 2 (11 ∷ 10 ∷ []) [] [] ∷ op Cat 0 (11 ∷ 8
    ∷ 10 ∷ []) [] (2516 ∷ []) ∷ op Cmp 0 (13 ∷ 10 ∷ 9 ∷ []) [] (2 ∷ 0 ∷ 6 ∷ 1 ∷ 3 ∷ 0 ∷ 5 ∷ []) ∷ op MakeDope 0 (11
    ∷ []) (1 ∷ []) [] ∷ op2 DopeLen 9 11 ∷ op Load 2 (9 ∷ 11 ∷ []) [] [] ∷ []) ∷ (br 3 ∷ []) ∷ (br 5 ∷ []) ∷ []
    ∷ (op CondBr 0 (0 ∷ []) [] (1 ∷ 4 ∷ 3 ∷ 1 ∷ 6 ∷ 2 ∷ 7 ∷ []) ∷ []) ∷ (br 2 ∷ []) ∷ (br 6 ∷ []) ∷ []) (at (0 ∷ 12
    ∷ range 1 11 ++ range 13 5) (0 ∷ 31 ∷ 24 ∷ 0 ∷ 0 ∷ 29 ∷ 0 ∷ 0 ∷ 15 ∷ 41 ∷ 36 ∷ 0 ∷ 8 ∷ 0 ∷ 35 ∷ 17 ∷ 20 ∷ 45
    ∷ [])) (registers 14 (1 ∷ 1 ∷ 4 ∷ 0 ∷ 1 ∷ 1 ∷ 0 ∷ 1 ∷ 4 ∷ 1 ∷ 0 ∷ 4 ∷ 0 ∷ 0 ∷ 9 ∷ 77 ∷ 77 ∷ 7 ∷ [])) (operands 1
    (5 ∷ 999 ∷ absent ∷ 0 ∷ absent ∷ [])) (beside [] [] []))

-- seed 39: 2 members are too few, chain of 4, done 1, moves with replay, moves without vias, new Sig, new list, rule
-- 2 decides, target after x, target f, target's list renamed
abbrev pub s39 : Row
s39 =
    moves (pic ((const 8 9 ∷ op AddrOf 1 (9 ∷ []) [] (7 ∷ 6 ∷ 8 ∷ 8 ∷ 6 ∷ 4 ∷ 1 ∷ []) ∷ br 2 ∷ []) ∷ (br 7 ∷ [])
    ∷ (op2 Move 2 8 ∷ op Move 0 (3 ∷ 8 ∷ []) [] (3 ∷ 8 ∷ 5 ∷ 6 ∷ 5 ∷ 1 ∷ 3 ∷ []) ∷ op2 SigReadScalar 4 3 ∷ br 4 ∷ [])
    ∷ (op BoundsSlice 0 (1 ∷ []) (0 ∷ 2 ∷ []) [] ∷ op CondBr 0 (0 ∷ []) [] (6 ∷ 5 ∷ 4 ∷ 5 ∷ 8 ∷ 2 ∷ []) ∷ []) ∷ (br 1
    ∷ []) ∷ (op2 Output 0 0 ∷ op2 Output 1 1 ∷ []) ∷ (op3 Pos 1 8 0 ∷ []) ∷ (fork 8 9 3 ∷ []) ∷ (op3 Cat 1 1 1 ∷ [])
    ∷ (op0 Ret ∷ []) ∷ []) (at (upto 17) []) (registers 10 (4 ∷ 0 ∷ 0 ∷ 0 ∷ 4 ∷ 0 ∷ 4 ∷ 2 ∷ 4 ∷ 4 ∷ 9 ∷ 77 ∷ 77 ∷ 7
    ∷ 7 ∷ 77 ∷ 9 ∷ [])) (operands 2 (8 ∷ 2 ∷ 999 ∷ 0 ∷ [])) (beside [] [] (6 ∷ 3 ∷ []))) 74 8296 800 (done 1 14 4) ((1
    ∷ 2 ∷ 3 ∷ 3 ∷ 14 ∷ 4 ∷ []) ∷ [])
    (pic ((const 8 9 ∷ op AddrOf 1 (9 ∷ []) [] (7 ∷ 6 ∷ 8 ∷ 8 ∷ 6 ∷ 4 ∷ 1 ∷ []) ∷ br 2 ∷ []) ∷ (br 7 ∷ []) ∷ (br 4
    ∷ []) ∷ (op2 Move 10 8 ∷ op Move 0 (11 ∷ 8 ∷ []) [] (3 ∷ 8 ∷ 5 ∷ 6 ∷ 5 ∷ 1 ∷ 3 ∷ []) ∷ op2 SigReadScalar 12 11
    ∷ op BoundsSlice 0 (1 ∷ []) (2 ∷ 2 ∷ []) [] ∷ op CondBr 0 (0 ∷ []) [] (6 ∷ 5 ∷ 4 ∷ 5 ∷ 8 ∷ 2 ∷ []) ∷ []) ∷ (br 1
    ∷ []) ∷ (op2 Output 0 0 ∷ op2 Output 1 1 ∷ []) ∷ (op3 Pos 1 8 0 ∷ []) ∷ (fork 8 9 3 ∷ []) ∷ (op3 Cat 1 1 1 ∷ [])
    ∷ (op0 Ret ∷ []) ∷ []) (at (0 ∷ 1 ∷ 2 ∷ 3 ∷ 7 ∷ 4 ∷ 5 ∷ 6 ∷ range 8 9) []) (registers 14 (4 ∷ 0 ∷ 0 ∷ 0 ∷ 4 ∷ 0
    ∷ 4 ∷ 2 ∷ 4 ∷ 4 ∷ 0 ∷ 0 ∷ 4 ∷ 0 ∷ 7 ∷ 77 ∷ 9 ∷ [])) (operands 4 (8 ∷ 2 ∷ 8 ∷ 10 ∷ [])) (beside [] [] (6 ∷ 3
    ∷ [])))

abbrev pub rows1 : List Row
rows1 =
    s1 ∷ s2 ∷ s3 ∷ s4 ∷ s5 ∷ s9 ∷ s10 ∷ s12 ∷ s15 ∷ s16 ∷ s17 ∷ s21 ∷ s22 ∷ s25 ∷ s28 ∷ s29 ∷ s31 ∷ s32 ∷ s35 ∷ s36
    ∷ s37 ∷ s39 ∷ []
