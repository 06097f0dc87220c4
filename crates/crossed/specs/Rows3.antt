-- Pictures by seed and what the Rust makes of them (see proofs/Crossed), page 3: of the first 4000 seeds of the generator, those that show
-- something new. Printed by
-- `compare crossed` in tests/rust, and again by its compare.sh: not to be edited. Assumes nothing.
use Rattle.std.specs.Prelude.{List, [], ◌∷◌, ◌++◌, replicate}
use Rattle.words.specs.Lists.{range, upto}
use Rattle.model.specs.Kinds.{AddrOf, Alloc, Bin, BoolOp, BoundsLen, Br, CallNative, Case, Cat, Check}
use Rattle.model.specs.Kinds.{Cmp, CondBr, Const, ConstF, Cover, Deref, DopeLen, Edge, FCheck, FCmp}
use Rattle.model.specs.Kinds.{Field, IToF, Index, LGet, LayoutOf, Load, MakeDope, Move, NewFrame, Now}
use Rattle.model.specs.Kinds.{Output, Pos, Ret, Select, SigRead, SigReadScalar, SigVal, Stmt, Store, Un}
use Rattle.model.specs.Kinds.{Unreachable, WaitOn}
use Rattle.model.specs.Picture.{absent}
use Rattle.model.specs.Build.{op}
use Rattle.crossed.specs.Row.{Row, pic, at, registers, operands, beside, op0, op1, op2, op3, op4, br, fork, const, moves, stays, done, short}

-- seed 326: a register reused, chain of 1, moves without replay, moves without vias, new list, short 2, short by an
-- operand, target after x, target t
abbrev pub s326 : Row
s326 =
    moves (pic ((const 7 55 ∷ op AddrOf 4 (8 ∷ []) [] (6 ∷ 3 ∷ 7 ∷ 5 ∷ 4 ∷ 4 ∷ 7 ∷ []) ∷ op2 SigReadScalar 5 7
    ∷ op2 Move 2 5 ∷ op3 Cmp 6 7 7 ∷ op2 Alloc 3 6 ∷ op Bin 4 (4 ∷ 6 ∷ 7 ∷ []) [] [] ∷ op Check 3 (4 ∷ 2 ∷ 4 ∷ []) []
    (3 ∷ 1 ∷ 0 ∷ 6 ∷ 8 ∷ 3 ∷ 6 ∷ []) ∷ op2 LayoutOf 6 3 ∷ op Store 3 (3 ∷ 5 ∷ []) [] [] ∷ op Cat 0 (3 ∷ 4 ∷ 7 ∷ []) (1
    ∷ 2 ∷ []) [] ∷ op Load 1 (2 ∷ 3 ∷ []) [] [] ∷ fork 0 1 6 ∷ []) ∷ (fork 7 2 5 ∷ []) ∷ (fork 1 3 4 ∷ [])
    ∷ (op Output 0 (1 ∷ 1 ∷ []) [] (6 ∷ 8 ∷ 7 ∷ 7 ∷ 0 ∷ 6 ∷ 2 ∷ []) ∷ op1 Ret 7 ∷ []) ∷ [] ∷ (op0 Cover ∷ op0 Ret
    ∷ []) ∷ (op4 NewFrame 1 7 7 7 ∷ []) ∷ []) (at (upto 20) []) (registers 9 (0 ∷ 4 ∷ 1 ∷ 0 ∷ 0 ∷ 6 ∷ 0 ∷ 0 ∷ 1 ∷ 9
    ∷ 7 ∷ 77 ∷ 9 ∷ 77 ∷ 9 ∷ 9 ∷ 7 ∷ 9 ∷ 7 ∷ 7 ∷ 7 ∷ 9 ∷ 77 ∷ 7 ∷ [])) (operands 3 (3 ∷ 3 ∷ 7 ∷ 0 ∷ absent ∷ 999 ∷ 0
    ∷ 999 ∷ [])) (beside [] [] [])) 76 8304 800 (short 2 19 7) ((1 ∷ 0 ∷ 1 ∷ 10 ∷ 14 ∷ 5 ∷ []) ∷ (2 ∷ 1 ∷ 2 ∷ 10 ∷ 19
    ∷ 7 ∷ []) ∷ [])
    (pic ((const 7 55 ∷ op AddrOf 4 (8 ∷ []) [] (6 ∷ 3 ∷ 7 ∷ 5 ∷ 4 ∷ 4 ∷ 7 ∷ []) ∷ fork 0 1 6 ∷ []) ∷ (fork 7 2 5
    ∷ []) ∷ (op2 SigReadScalar 14 7 ∷ op2 Move 15 14 ∷ op3 Cmp 16 7 7 ∷ op2 Alloc 17 16 ∷ op Bin 4 (18 ∷ 16 ∷ 7
    ∷ []) [] [] ∷ op Check 3 (18 ∷ 15 ∷ 18 ∷ []) [] (3 ∷ 1 ∷ 0 ∷ 6 ∷ 8 ∷ 3 ∷ 6 ∷ []) ∷ op2 LayoutOf 16 17 ∷ op Store 3
    (17 ∷ 14 ∷ []) [] [] ∷ op Cat 0 (17 ∷ 18 ∷ 7 ∷ []) (5 ∷ 2 ∷ []) [] ∷ op Load 1 (15 ∷ 17 ∷ []) [] [] ∷ fork 1 3 4
    ∷ []) ∷ (op Output 0 (1 ∷ 1 ∷ []) [] (6 ∷ 8 ∷ 7 ∷ 7 ∷ 0 ∷ 6 ∷ 2 ∷ []) ∷ op1 Ret 7 ∷ []) ∷ [] ∷ (op0 Cover
    ∷ op0 Ret ∷ []) ∷ (op4 NewFrame 1 7 7 7 ∷ []) ∷ []) (at (0 ∷ 1 ∷ 12 ∷ 13 ∷ range 2 10 ++ range 14 6) [])
    (registers 19 (0 ∷ 4 ∷ 1 ∷ 0 ∷ 0 ∷ 6 ∷ 0 ∷ 0 ∷ 1 ∷ 6 ∷ 1 ∷ 0 ∷ 0 ∷ 0 ∷ 6 ∷ 1 ∷ 0 ∷ 0 ∷ 0 ∷ 7 ∷ 7 ∷ 9 ∷ 77 ∷ 7
    ∷ [])) (operands 7 (3 ∷ 3 ∷ 7 ∷ 12 ∷ 7 ∷ 17 ∷ 7 ∷ 999 ∷ [])) (beside [] [] []))

-- seed 327: chain of 1, chain of 6, done 3, moves with replay, moves without vias, new list, target after x, target
-- before x, target t
abbrev pub s327 : Row
s327 =
    moves (pic ((op2 Output 9 9 ∷ op Output 0 (9 ∷ 9 ∷ []) [] (3 ∷ 1 ∷ 2 ∷ 8 ∷ 3 ∷ 5 ∷ 5 ∷ []) ∷ op Case 0 (0 ∷ []) []
    (99 ∷ []) ∷ []) ∷ (fork 9 12 9 ∷ []) ∷ (br 5 ∷ []) ∷ [] ∷ (op3 Cat 9 9 9 ∷ []) ∷ (op Br 0 [] [] (8 ∷ 0 ∷ 0 ∷ 2 ∷ 6
    ∷ 6 ∷ 3 ∷ []) ∷ []) ∷ (op3 FCheck 9 9 1 ∷ op Index 0 (0 ∷ 0 ∷ 9 ∷ []) [] (7 ∷ 5 ∷ 6 ∷ 7 ∷ 0 ∷ 6 ∷ 6 ∷ []) ∷ [])
    ∷ (br 2 ∷ []) ∷ (br 1 ∷ []) ∷ (op2 IToF 0 1 ∷ []) ∷ (op CondBr 0 (1 ∷ []) [] (6 ∷ []) ∷ []) ∷ (op Const 0 (9
    ∷ []) [] (0 ∷ 256 ∷ []) ∷ op AddrOf 5 (10 ∷ []) [] [] ∷ op Alloc 0 (8 ∷ 9 ∷ []) [] (5 ∷ 1 ∷ 7 ∷ 5 ∷ 5 ∷ 7 ∷ 6
    ∷ []) ∷ op Cat 0 (8 ∷ 9 ∷ 9 ∷ []) (0 ∷ 4 ∷ []) [] ∷ op MakeDope 0 (8 ∷ []) (4 ∷ []) [] ∷ op Cat 0 (8 ∷ 9 ∷ 9 ∷ [])
    (2 ∷ 2 ∷ []) [] ∷ br 7 ∷ []) ∷ (op3 Pos 0 9 1 ∷ fork 1 10 3 ∷ []) ∷ []) (at (upto 22) []) (registers 11 (0 ∷ 0 ∷ 4
    ∷ 1 ∷ 1 ∷ 6 ∷ 0 ∷ 6 ∷ 5 ∷ 5 ∷ 0 ∷ 77 ∷ 77 ∷ 7 ∷ [])) (operands 4 (8 ∷ 9 ∷ 8 ∷ 8 ∷ 0 ∷ 0 ∷ absent ∷ 999 ∷ absent
    ∷ 999 ∷ 0 ∷ 0 ∷ absent ∷ 0 ∷ 999 ∷ 0 ∷ 999 ∷ absent ∷ 0 ∷ 0 ∷ 999 ∷ absent ∷ [])) (beside [] [] (6 ∷ 10 ∷ 9
    ∷ []))) 80 8320 800 (done 3 14 22) ((1 ∷ 11 ∷ 12 ∷ 4 ∷ 12 ∷ 10 ∷ []) ∷ (2 ∷ 12 ∷ 10 ∷ 4 ∷ 13 ∷ 16 ∷ []) ∷ (3 ∷ 10
    ∷ 6 ∷ 4 ∷ 14 ∷ 22 ∷ []) ∷ [])
    (pic ((op2 Output 9 9 ∷ op Output 0 (9 ∷ 9 ∷ []) [] (3 ∷ 1 ∷ 2 ∷ 8 ∷ 3 ∷ 5 ∷ 5 ∷ []) ∷ op Case 0 (0 ∷ []) [] (99
    ∷ []) ∷ []) ∷ (fork 9 12 9 ∷ []) ∷ (br 5 ∷ []) ∷ [] ∷ (op3 Cat 9 9 9 ∷ []) ∷ (op Br 0 [] [] (8 ∷ 0 ∷ 0 ∷ 2 ∷ 6 ∷ 6
    ∷ 3 ∷ []) ∷ []) ∷ (op Alloc 0 (13 ∷ 9 ∷ []) [] (5 ∷ 1 ∷ 7 ∷ 5 ∷ 5 ∷ 7 ∷ 6 ∷ []) ∷ op Cat 0 (13 ∷ 9 ∷ 9 ∷ []) (16
    ∷ 4 ∷ []) [] ∷ op MakeDope 0 (13 ∷ []) (4 ∷ []) [] ∷ op Cat 0 (13 ∷ 9 ∷ 9 ∷ []) (20 ∷ 2 ∷ []) []
    ∷ op3 FCheck 9 9 1 ∷ op Index 0 (0 ∷ 0 ∷ 9 ∷ []) [] (7 ∷ 5 ∷ 6 ∷ 7 ∷ 0 ∷ 6 ∷ 6 ∷ []) ∷ []) ∷ (br 2 ∷ []) ∷ (br 1
    ∷ []) ∷ (op2 IToF 0 1 ∷ []) ∷ (op CondBr 0 (1 ∷ []) [] (6 ∷ []) ∷ []) ∷ (op Const 0 (9 ∷ []) [] (0 ∷ 256 ∷ [])
    ∷ op AddrOf 5 (10 ∷ []) [] [] ∷ br 7 ∷ []) ∷ (op3 Pos 0 9 1 ∷ fork 1 10 3 ∷ []) ∷ []) (at (upto 7 ++ 15 ∷ 16 ∷ 17
    ∷ 18 ∷ range 7 8 ++ 19 ∷ 20 ∷ 21 ∷ []) []) (registers 14 (0 ∷ 0 ∷ 4 ∷ 1 ∷ 1 ∷ 6 ∷ 0 ∷ 6 ∷ 5 ∷ 5 ∷ 0 ∷ 5 ∷ 5 ∷ 5
    ∷ [])) (operands 22 (8 ∷ 9 ∷ 8 ∷ 8 ∷ 11 ∷ 9 ∷ 11 ∷ 11 ∷ 11 ∷ 11 ∷ 12 ∷ 9 ∷ 12 ∷ 12 ∷ 12 ∷ 12 ∷ 13 ∷ 9 ∷ 13 ∷ 13
    ∷ 13 ∷ 13 ∷ [])) (beside [] [] (6 ∷ 10 ∷ 9 ∷ [])))

-- seed 460: rule 2 decides, short 0, short by an operand, the Rust as it is stops
abbrev pub s460 : Row
s460 =
    stays (pic ((op Const 0 (8 ∷ []) [] (48 ∷ 0 ∷ 7 ∷ 7 ∷ 6 ∷ 1 ∷ 4 ∷ []) ∷ op AddrOf 4 (9 ∷ []) [] [] ∷ op3 Cmp 5 8 8
    ∷ op2 Move 7 5 ∷ op2 Alloc 6 5 ∷ op Cat 0 (6 ∷ 5 ∷ 5 ∷ []) (0 ∷ 2 ∷ []) [] ∷ br 4 ∷ []) ∷ (op1 Ret 0 ∷ [])
    ∷ (op2 Output 1 1 ∷ op2 Output 8 8 ∷ op1 Ret 1 ∷ []) ∷ (fork 8 1 7 ∷ []) ∷ (br 3 ∷ []) ∷ (op2 Output 0 0
    ∷ op0 Unreachable ∷ []) ∷ (op3 Cat 8 8 8 ∷ []) ∷ (op1 Now 1 ∷ op Bin 4 (1 ∷ 8 ∷ 6 ∷ []) [] [] ∷ op CondBr 0 (0
    ∷ []) [] (2 ∷ 5 ∷ 3 ∷ 4 ∷ 8 ∷ 3 ∷ 1 ∷ []) ∷ []) ∷ []) (at (upto 19) []) (registers 10 (0 ∷ 6 ∷ 4 ∷ 0 ∷ 0 ∷ 4 ∷ 0
    ∷ 0 ∷ 0 ∷ 7 ∷ 77 ∷ 9 ∷ 77 ∷ [])) (operands 2 (6 ∷ 5 ∷ 999 ∷ [])) (beside [] [] (2 ∷ 7 ∷ []))) 58 8232 800
    (short 0 10 2)

-- seed 497: a register reused, chain of 1, done 8, moves without replay, moves without vias, new Sig, new list,
-- target after x, target before x, target t
abbrev pub s497 : Row
s497 =
    moves (pic ((const 9 1 ∷ op0 Ret ∷ []) ∷ (op3 Cmp 5 9 9 ∷ op3 Cmp 2 5 5 ∷ op2 Alloc 7 9 ∷ op Cat 0 (7 ∷ 5 ∷ 9
    ∷ []) (1 ∷ 4 ∷ []) [] ∷ op2 Move 3 7 ∷ op MakeDope 0 (3 ∷ []) (5 ∷ 1 ∷ []) [] ∷ op3 FCmp 8 0 2 ∷ op Store 1 (7 ∷ 8
    ∷ []) [] [] ∷ op2 LayoutOf 6 7 ∷ op Store 3 (3 ∷ 7 ∷ []) [] [] ∷ op3 Cmp 4 5 9 ∷ fork 9 2 4 ∷ []) ∷ (fork 0 1 3
    ∷ []) ∷ [] ∷ (op0 Unreachable ∷ []) ∷ []) (at (upto 16) []) (registers 10 (0 ∷ 0 ∷ 0 ∷ 1 ∷ 0 ∷ 0 ∷ 4 ∷ 1 ∷ 3 ∷ 1
    ∷ 7 ∷ 7 ∷ 77 ∷ replicate 5 7 ++ 77 ∷ 77 ∷ 77 ∷ 77 ∷ 7 ∷ 77 ∷ 7 ∷ 77 ∷ 9 ∷ 77 ∷ 7 ∷ 7 ∷ 9 ∷ 7 ∷ 7 ∷ 7 ∷ 77 ∷ 7 ∷ 7
    ∷ 77 ∷ 9 ∷ 9 ∷ 77 ∷ 7 ∷ 9 ∷ 7 ∷ 7 ∷ 77 ∷ 7 ∷ 77 ∷ 9 ∷ 9 ∷ 9 ∷ 9 ∷ 7 ∷ 9 ∷ 9 ∷ 77 ∷ 7 ∷ 7 ∷ 7 ∷ 77 ∷ 77 ∷ 9 ∷ 77
    ∷ 77 ∷ 77 ∷ 7 ∷ [])) (operands 6 (7 ∷ 7 ∷ 2 ∷ 7 ∷ 7 ∷ 5 ∷ absent ∷ 999 ∷ absent ∷ 999 ∷ absent ∷ absent ∷ 999 ∷ 0
    ∷ 0 ∷ 0 ∷ 999 ∷ absent ∷ 999 ∷ absent ∷ absent ∷ absent ∷ 0 ∷ absent ∷ 999 ∷ 0 ∷ 0 ∷ 0 ∷ 0 ∷ absent ∷ 0 ∷ 999
    ∷ 999 ∷ absent ∷ absent ∷ 0 ∷ absent ∷ 999 ∷ absent ∷ absent ∷ 0 ∷ 0 ∷ 999 ∷ 999 ∷ 0 ∷ 0 ∷ []))
    (beside [] [] [])) 172 8608 800 (done 8 66 46) ((1 ∷ 1 ∷ 2 ∷ 11 ∷ 17 ∷ 11 ∷ []) ∷ (2 ∷ 2 ∷ 1 ∷ 11 ∷ 24 ∷ 16 ∷ [])
    ∷ (3 ∷ 1 ∷ 2 ∷ 11 ∷ 31 ∷ 21 ∷ []) ∷ (4 ∷ 2 ∷ 1 ∷ 11 ∷ 38 ∷ 26 ∷ []) ∷ (5 ∷ 1 ∷ 2 ∷ 11 ∷ 45 ∷ 31 ∷ []) ∷ (6 ∷ 2 ∷ 1
    ∷ 11 ∷ 52 ∷ 36 ∷ []) ∷ (7 ∷ 1 ∷ 2 ∷ 11 ∷ 59 ∷ 41 ∷ []) ∷ (8 ∷ 2 ∷ 1 ∷ 11 ∷ 66 ∷ 46 ∷ []) ∷ [])
    (pic ((const 9 1 ∷ op0 Ret ∷ []) ∷ (op3 Cmp 59 9 9 ∷ op3 Cmp 60 59 59 ∷ op2 Alloc 61 9 ∷ op Cat 0 (61 ∷ 59 ∷ 9
    ∷ []) (41 ∷ 4 ∷ []) [] ∷ op2 Move 62 61 ∷ op MakeDope 0 (62 ∷ []) (45 ∷ 1 ∷ []) [] ∷ op3 FCmp 63 0 60 ∷ op Store 1
    (61 ∷ 63 ∷ []) [] [] ∷ op2 LayoutOf 64 61 ∷ op Store 3 (62 ∷ 61 ∷ []) [] [] ∷ op3 Cmp 60 59 9 ∷ fork 9 2 4 ∷ [])
    ∷ (fork 0 1 3 ∷ []) ∷ [] ∷ (op0 Unreachable ∷ []) ∷ []) (at (upto 16) []) (registers 66 (0 ∷ 0 ∷ 0 ∷ 1 ∷ 0 ∷ 0 ∷ 4
    ∷ 1 ∷ 3 ∷ 1 ∷ 0 ∷ 0 ∷ 1 ∷ 1 ∷ 3 ∷ 4 ∷ 0 ∷ 0 ∷ 0 ∷ 1 ∷ 1 ∷ 3 ∷ 4 ∷ 0 ∷ 0 ∷ 0 ∷ 1 ∷ 1 ∷ 3 ∷ 4 ∷ 0 ∷ 0 ∷ 0 ∷ 1 ∷ 1
    ∷ 3 ∷ 4 ∷ 0 ∷ 0 ∷ 0 ∷ 1 ∷ 1 ∷ 3 ∷ 4 ∷ 0 ∷ 0 ∷ 0 ∷ 1 ∷ 1 ∷ 3 ∷ 4 ∷ 0 ∷ 0 ∷ 0 ∷ 1 ∷ 1 ∷ 3 ∷ 4 ∷ 0 ∷ 0 ∷ 0 ∷ 1 ∷ 1
    ∷ 3 ∷ 4 ∷ 0 ∷ [])) (operands 46 (7 ∷ 7 ∷ 2 ∷ 7 ∷ 7 ∷ 5 ∷ 12 ∷ 11 ∷ 12 ∷ 12 ∷ 10 ∷ 19 ∷ 18 ∷ 19 ∷ 19 ∷ 17 ∷ 26 ∷ 25
    ∷ 26 ∷ 26 ∷ 24 ∷ 33 ∷ 32 ∷ 33 ∷ 33 ∷ 31 ∷ 40 ∷ 39 ∷ 40 ∷ 40 ∷ 38 ∷ 47 ∷ 46 ∷ 47 ∷ 47 ∷ 45 ∷ 54 ∷ 53 ∷ 54 ∷ 54 ∷ 52
    ∷ 61 ∷ 60 ∷ 61 ∷ 61 ∷ 59 ∷ [])) (beside [] [] []))

-- seed 544: a register reused, chain of 1, moves without replay, moves without vias, new list, short 2, short by a
-- register, target after x, target t
abbrev pub s544 : Row
s544 =
    moves (pic ((const 9 54 ∷ op1 AddrOf 10 ∷ op Stmt 0 [] [] (4 ∷ 3 ∷ 8 ∷ 6 ∷ 2 ∷ 1 ∷ 8 ∷ []) ∷ op3 Cmp 4 9 9
    ∷ op Alloc 0 (8 ∷ 4 ∷ []) [] (4 ∷ 5 ∷ 4 ∷ 3 ∷ 0 ∷ 4 ∷ 6 ∷ []) ∷ op Cat 0 (8 ∷ 4 ∷ 4 ∷ []) (0 ∷ 4 ∷ []) (55742
    ∷ []) ∷ op3 Index 7 10 9 ∷ op2 SigRead 8 0 ∷ op Load 1 (3 ∷ 8 ∷ []) [] [] ∷ op Index 0 (7 ∷ 8 ∷ 4 ∷ []) [] (7 ∷ 6
    ∷ 2 ∷ 6 ∷ 3 ∷ 8 ∷ 3 ∷ []) ∷ op3 FCmp 5 4 4 ∷ op3 SigVal 6 4 9 ∷ op Check 3 (9 ∷ 4 ∷ 8 ∷ []) [] [] ∷ fork 1 1 2
    ∷ []) ∷ (op0 Cover ∷ fork 1 5 7 ∷ []) ∷ (op0 Ret ∷ []) ∷ (op3 Pos 1 0 9 ∷ op CondBr 0 (0 ∷ []) [] (8 ∷ 6 ∷ 7 ∷ 4
    ∷ 0 ∷ 6 ∷ 6 ∷ []) ∷ []) ∷ (op0 Ret ∷ []) ∷ (fork 1 4 3 ∷ []) ∷ [] ∷ (op0 Ret ∷ []) ∷ (op2 Output 0 0 ∷ []) ∷ [])
    (at (upto 23) []) (registers 11 (0 ∷ 1 ∷ 0 ∷ 0 ∷ 1 ∷ 0 ∷ 0 ∷ 0 ∷ 2 ∷ 0 ∷ 0 ∷ replicate 5 7 ++ 9 ∷ 9 ∷ 9 ∷ []))
    (operands 4 (8 ∷ 8 ∷ 9 ∷ 8 ∷ absent ∷ 999 ∷ absent ∷ 0 ∷ 999 ∷ 0 ∷ 999 ∷ absent ∷ 0 ∷ absent ∷ 999 ∷ 0 ∷ []))
    (beside [] [] [])) 74 8296 800 (short 2 17 12) ((1 ∷ 0 ∷ 1 ∷ 10 ∷ 14 ∷ 8 ∷ []) ∷ (2 ∷ 1 ∷ 5 ∷ 10 ∷ 17 ∷ 12 ∷ [])
    ∷ [])
    (pic ((const 9 54 ∷ op1 AddrOf 10 ∷ op Stmt 0 [] [] (4 ∷ 3 ∷ 8 ∷ 6 ∷ 2 ∷ 1 ∷ 8 ∷ []) ∷ fork 1 1 2 ∷ [])
    ∷ (op0 Cover ∷ fork 1 5 7 ∷ []) ∷ (op0 Ret ∷ []) ∷ (op3 Pos 1 0 9 ∷ op CondBr 0 (0 ∷ []) [] (8 ∷ 6 ∷ 7 ∷ 4 ∷ 0 ∷ 6
    ∷ 6 ∷ []) ∷ []) ∷ (op0 Ret ∷ []) ∷ (op3 Cmp 14 9 9 ∷ op Alloc 0 (15 ∷ 14 ∷ []) [] (4 ∷ 5 ∷ 4 ∷ 3 ∷ 0 ∷ 4 ∷ 6 ∷ [])
    ∷ op Cat 0 (15 ∷ 14 ∷ 14 ∷ []) (8 ∷ 4 ∷ []) (55742 ∷ []) ∷ op3 Index 16 10 9 ∷ op2 SigRead 15 0 ∷ op Load 1 (16
    ∷ 15 ∷ []) [] [] ∷ op Index 0 (16 ∷ 15 ∷ 14 ∷ []) [] (7 ∷ 6 ∷ 2 ∷ 6 ∷ 3 ∷ 8 ∷ 3 ∷ []) ∷ op3 FCmp 16 14 14
    ∷ op3 SigVal 16 14 9 ∷ op Check 3 (9 ∷ 14 ∷ 15 ∷ []) [] [] ∷ fork 1 4 3 ∷ []) ∷ [] ∷ (op0 Ret ∷ [])
    ∷ (op2 Output 0 0 ∷ []) ∷ []) (at (0 ∷ 1 ∷ 2 ∷ range 13 7 ++ range 3 10 ++ 20 ∷ 21 ∷ 22 ∷ []) []) (registers 17 (0
    ∷ 1 ∷ 0 ∷ 0 ∷ 1 ∷ 0 ∷ 0 ∷ 0 ∷ 2 ∷ 0 ∷ 0 ∷ 1 ∷ 2 ∷ 0 ∷ 1 ∷ 2 ∷ 0 ∷ 9 ∷ 9 ∷ [])) (operands 12 (8 ∷ 8 ∷ 9 ∷ 8 ∷ 12
    ∷ 12 ∷ 9 ∷ 12 ∷ 15 ∷ 15 ∷ 9 ∷ 15 ∷ 0 ∷ absent ∷ 999 ∷ 0 ∷ [])) (beside [] [] []))

-- seed 577: a register reused, chain of 1, moves without replay, moves without vias, new list, short 6, short by an
-- operand, target after x, target before x, target t
abbrev pub s577 : Row
s577 =
    moves (pic ((op Const 0 (7 ∷ []) [] (42 ∷ 0 ∷ 4 ∷ 5 ∷ 4 ∷ 3 ∷ 4 ∷ []) ∷ op0 Ret ∷ []) ∷ (op2 SigReadScalar 3 7
    ∷ op2 Alloc 4 7 ∷ op Cat 0 (4 ∷ 7 ∷ 7 ∷ []) [] (53500 ∷ []) ∷ op2 LayoutOf 2 4 ∷ op1 WaitOn 0 ∷ op Bin 1 (4 ∷ 7
    ∷ 7 ∷ []) [] [] ∷ op2 Alloc 2 7 ∷ op2 DopeLen 5 2 ∷ op3 Index 6 2 7 ∷ op CallNative 1 (6 ∷ []) (0 ∷ 1 ∷ []) (7 ∷ 8
    ∷ 7 ∷ 1 ∷ 5 ∷ 1 ∷ 5 ∷ []) ∷ op2 Move 5 6 ∷ op Cat 0 (2 ∷ 7 ∷ 4 ∷ []) (1 ∷ 4 ∷ []) (48604 ∷ []) ∷ fork 1 2 4 ∷ [])
    ∷ (op CondBr 0 (7 ∷ []) [] (3 ∷ 5 ∷ 7 ∷ 0 ∷ 6 ∷ 0 ∷ 6 ∷ []) ∷ []) ∷ (fork 0 1 6 ∷ []) ∷ (op1 Now 0 ∷ op0 Ret ∷ [])
    ∷ [] ∷ (op3 Field 1 0 0 ∷ op Case 0 (1 ∷ []) [] (97 ∷ []) ∷ []) ∷ []) (at (upto 21) []) (registers 8 (1 ∷ 0 ∷ 5
    ∷ 5 ∷ 7 ∷ 0 ∷ 1 ∷ 0 ∷ 9 ∷ 77 ∷ 77 ∷ 7 ∷ 9 ∷ 77 ∷ 7 ∷ 77 ∷ 7 ∷ 77 ∷ 77 ∷ 7 ∷ 77 ∷ 77 ∷ 9 ∷ 9 ∷ 77 ∷ 77 ∷ 7 ∷ 7 ∷ 9
    ∷ 77 ∷ 9 ∷ 7 ∷ 7 ∷ 77 ∷ 77 ∷ 7 ∷ 7 ∷ 9 ∷ 77 ∷ 9 ∷ [])) (operands 5 (4 ∷ 5 ∷ 4 ∷ 6 ∷ 4 ∷ 999 ∷ absent ∷ 999 ∷ 0
    ∷ absent ∷ 999 ∷ 999 ∷ 999 ∷ 999 ∷ absent ∷ 0 ∷ 0 ∷ 999 ∷ absent ∷ 0 ∷ 999 ∷ 999 ∷ 0 ∷ 999 ∷ 999 ∷ absent ∷ 999
    ∷ absent ∷ 0 ∷ absent ∷ 999 ∷ absent ∷ 0 ∷ absent ∷ absent ∷ 999 ∷ 0 ∷ 0 ∷ 0 ∷ []))
    (beside [] [] [])) 108 8432 800 (short 6 32 35) ((1 ∷ 1 ∷ 2 ∷ 11 ∷ 12 ∷ 10 ∷ []) ∷ (2 ∷ 2 ∷ 3 ∷ 11 ∷ 16 ∷ 15 ∷ [])
    ∷ (3 ∷ 3 ∷ 1 ∷ 11 ∷ 20 ∷ 20 ∷ []) ∷ (4 ∷ 1 ∷ 2 ∷ 11 ∷ 24 ∷ 25 ∷ []) ∷ (5 ∷ 2 ∷ 3 ∷ 11 ∷ 28 ∷ 30 ∷ []) ∷ (6 ∷ 3 ∷ 1
    ∷ 11 ∷ 32 ∷ 35 ∷ []) ∷ [])
    (pic ((op Const 0 (7 ∷ []) [] (42 ∷ 0 ∷ 4 ∷ 5 ∷ 4 ∷ 3 ∷ 4 ∷ []) ∷ op0 Ret ∷ []) ∷ (op2 SigReadScalar 28 7
    ∷ op2 Alloc 29 7 ∷ op Cat 0 (29 ∷ 7 ∷ 7 ∷ []) [] (53500 ∷ []) ∷ op2 LayoutOf 28 29 ∷ op Bin 1 (29 ∷ 7 ∷ 7
    ∷ []) [] [] ∷ op2 Alloc 28 7 ∷ op2 DopeLen 30 28 ∷ op3 Index 31 28 7 ∷ op CallNative 1 (31 ∷ []) (30 ∷ 1 ∷ []) (7
    ∷ 8 ∷ 7 ∷ 1 ∷ 5 ∷ 1 ∷ 5 ∷ []) ∷ op2 Move 30 31 ∷ op Cat 0 (28 ∷ 7 ∷ 29 ∷ []) (31 ∷ 4 ∷ []) (48604 ∷ [])
    ∷ op1 WaitOn 0 ∷ fork 1 2 4 ∷ []) ∷ (op CondBr 0 (7 ∷ []) [] (3 ∷ 5 ∷ 7 ∷ 0 ∷ 6 ∷ 0 ∷ 6 ∷ []) ∷ []) ∷ (fork 0 1 6
    ∷ []) ∷ (op1 Now 0 ∷ op0 Ret ∷ []) ∷ [] ∷ (op3 Field 1 0 0 ∷ op Case 0 (1 ∷ []) [] (97 ∷ []) ∷ []) ∷ []) (at
    (upto 6 ++ range 7 7 ++ 6 ∷ range 14 7) []) (registers 32 (1 ∷ 0 ∷ 5 ∷ 5 ∷ 7 ∷ 0 ∷ 1 ∷ 0 ∷ 5 ∷ 7 ∷ 0 ∷ 1 ∷ 5 ∷ 7
    ∷ 0 ∷ 1 ∷ 5 ∷ 7 ∷ 0 ∷ 1 ∷ 5 ∷ 7 ∷ 0 ∷ 1 ∷ 5 ∷ 7 ∷ 0 ∷ 1 ∷ 5 ∷ 7 ∷ 0 ∷ 1 ∷ 7 ∷ 77 ∷ 77 ∷ 7 ∷ 7 ∷ 9 ∷ 77 ∷ 9 ∷ []))
    (operands 35 (4 ∷ 5 ∷ 4 ∷ 6 ∷ 4 ∷ 9 ∷ 10 ∷ 9 ∷ 11 ∷ 9 ∷ 13 ∷ 14 ∷ 13 ∷ 15 ∷ 13 ∷ 17 ∷ 18 ∷ 17 ∷ 19 ∷ 17 ∷ 21 ∷ 22
    ∷ 21 ∷ 23 ∷ 21 ∷ 25 ∷ 26 ∷ 25 ∷ 27 ∷ 25 ∷ 29 ∷ 30 ∷ 29 ∷ 31 ∷ 29 ∷ 999 ∷ 0 ∷ 0 ∷ 0 ∷ [])) (beside [] [] []))

-- seed 671: a register reused, chain of 1, moves with vias, moves without replay, new Sig, new list, short 6, short
-- by an operand, target after x, target before x, target t
abbrev pub s671 : Row
s671 =
    moves (pic ((const 7 11 ∷ op1 Ret 0 ∷ []) ∷ (fork 1 2 3 ∷ []) ∷ (op2 Alloc 4 7 ∷ op3 Cat 4 7 7 ∷ op3 LGet 0 1 1
    ∷ op3 FCmp 3 4 7 ∷ op MakeDope 0 (4 ∷ []) (0 ∷ 3 ∷ []) [] ∷ op Cat 0 (4 ∷ 3 ∷ 3 ∷ []) (3 ∷ 4 ∷ []) (23905 ∷ [])
    ∷ op CallNative 1 (6 ∷ []) (8 ∷ 1 ∷ []) [] ∷ op2 DopeLen 2 4 ∷ op MakeDope 0 (4 ∷ []) (9 ∷ 1 ∷ []) [] ∷ fork 7 1 4
    ∷ []) ∷ [] ∷ [] ∷ []) (at (upto 13) (0 ∷ 36 ∷ 0 ∷ 0 ∷ 14 ∷ 0 ∷ 0 ∷ 0 ∷ 0 ∷ 4 ∷ 0 ∷ 22 ∷ 0 ∷ [])) (registers 8 (0
    ∷ 1 ∷ 4 ∷ 0 ∷ 1 ∷ 4 ∷ 0 ∷ 5 ∷ 9 ∷ 7 ∷ 77 ∷ 9 ∷ 7 ∷ 77 ∷ 77 ∷ 9 ∷ 7 ∷ 9 ∷ 77 ∷ 77 ∷ 77 ∷ 9 ∷ 9 ∷ 9 ∷ 77 ∷ 9 ∷ 77
    ∷ 9 ∷ 7 ∷ 9 ∷ 9 ∷ 77 ∷ 77 ∷ 9 ∷ 7 ∷ 9 ∷ 9 ∷ 77 ∷ 9 ∷ 77 ∷ [])) (operands 10 (4 ∷ 3 ∷ 7 ∷ 3 ∷ 4 ∷ 4 ∷ 3 ∷ 1 ∷ 4 ∷ 6
    ∷ absent ∷ 0 ∷ absent ∷ 0 ∷ 0 ∷ 999 ∷ 999 ∷ 0 ∷ 999 ∷ 999 ∷ absent ∷ 999 ∷ 0 ∷ absent ∷ 0 ∷ absent ∷ 999 ∷ 0 ∷ 0
    ∷ 0 ∷ absent ∷ 0 ∷ absent ∷ 999 ∷ absent ∷ 999 ∷ 0 ∷ absent ∷ 999 ∷ 0 ∷ 999 ∷ 999 ∷ 0 ∷ 0 ∷ 999 ∷ 999 ∷ absent ∷ 0
    ∷ 0 ∷ absent ∷ 0 ∷ 0 ∷ absent ∷ absent ∷ 999 ∷ 0 ∷ 999 ∷ 999 ∷ absent ∷ 999 ∷ absent ∷ 999 ∷ 0 ∷ 999 ∷ 0 ∷ absent
    ∷ 0 ∷ 0 ∷ 999 ∷ absent ∷ absent ∷ 0 ∷ [])) (beside [] [] [])) 100 8400 800 (short 6 32 64) ((1 ∷ 2 ∷ 1 ∷ 8 ∷ 12
    ∷ 19 ∷ []) ∷ (2 ∷ 1 ∷ 2 ∷ 8 ∷ 16 ∷ 28 ∷ []) ∷ (3 ∷ 2 ∷ 1 ∷ 8 ∷ 20 ∷ 37 ∷ []) ∷ (4 ∷ 1 ∷ 2 ∷ 8 ∷ 24 ∷ 46 ∷ []) ∷ (5
    ∷ 2 ∷ 1 ∷ 8 ∷ 28 ∷ 55 ∷ []) ∷ (6 ∷ 1 ∷ 2 ∷ 8 ∷ 32 ∷ 64 ∷ []) ∷ [])
    (pic ((const 7 11 ∷ op1 Ret 0 ∷ []) ∷ (fork 1 2 3 ∷ []) ∷ (op2 Alloc 28 7 ∷ op3 Cat 28 7 7 ∷ op3 FCmp 29 28 7
    ∷ op MakeDope 0 (28 ∷ []) (55 ∷ 3 ∷ []) [] ∷ op Cat 0 (28 ∷ 29 ∷ 29 ∷ []) (58 ∷ 4 ∷ []) (23905 ∷ [])
    ∷ op CallNative 1 (29 ∷ []) (62 ∷ 1 ∷ []) [] ∷ op2 DopeLen 30 28 ∷ op MakeDope 0 (28 ∷ []) (63 ∷ 1 ∷ []) []
    ∷ op3 LGet 0 1 1 ∷ fork 7 1 4 ∷ []) ∷ [] ∷ [] ∷ []) (at (upto 5 ++ range 6 6 ++ 5 ∷ 12 ∷ []) (0 ∷ 36 ∷ 0 ∷ 0 ∷ 14
    ∷ 0 ∷ 0 ∷ 0 ∷ 4 ∷ 0 ∷ 22 ∷ 0 ∷ 0 ∷ [])) (registers 32 (0 ∷ 1 ∷ 4 ∷ 0 ∷ 1 ∷ 4 ∷ 0 ∷ 5 ∷ 1 ∷ 0 ∷ 4 ∷ 0 ∷ 1 ∷ 0 ∷ 4
    ∷ 0 ∷ 1 ∷ 0 ∷ 4 ∷ 0 ∷ 1 ∷ 0 ∷ 4 ∷ 0 ∷ 1 ∷ 0 ∷ 4 ∷ 0 ∷ 1 ∷ 0 ∷ 4 ∷ 0 ∷ 77 ∷ 9 ∷ 7 ∷ 9 ∷ 9 ∷ 77 ∷ 9 ∷ 77 ∷ []))
    (operands 64 (4 ∷ 3 ∷ 7 ∷ 3 ∷ 4 ∷ 4 ∷ 3 ∷ 1 ∷ 4 ∷ 6 ∷ 8 ∷ 9 ∷ 7 ∷ 9 ∷ 8 ∷ 8 ∷ 9 ∷ 8 ∷ 9 ∷ 12 ∷ 13 ∷ 7 ∷ 13 ∷ 12
    ∷ 12 ∷ 13 ∷ 12 ∷ 13 ∷ 16 ∷ 17 ∷ 7 ∷ 17 ∷ 16 ∷ 16 ∷ 17 ∷ 16 ∷ 17 ∷ 20 ∷ 21 ∷ 7 ∷ 21 ∷ 20 ∷ 20 ∷ 21 ∷ 20 ∷ 21 ∷ 24
    ∷ 25 ∷ 7 ∷ 25 ∷ 24 ∷ 24 ∷ 25 ∷ 24 ∷ 25 ∷ 28 ∷ 29 ∷ 7 ∷ 29 ∷ 28 ∷ 28 ∷ 29 ∷ 28 ∷ 29 ∷ 0 ∷ absent ∷ 0 ∷ 0 ∷ 999
    ∷ absent ∷ absent ∷ 0 ∷ [])) (beside [] [] []))

-- seed 690: a register reused, chain of 1, done 3, moves with vias, moves without replay, new Sig, new list, target
-- after x, target before x, target t
abbrev pub s690 : Row
s690 =
    moves (pic ((const 7 1 ∷ op AddrOf 2 (8 ∷ []) [] [] ∷ []) ∷ (op2 IToF 1 0 ∷ op Ret 0 [] [] (0 ∷ 1 ∷ 6 ∷ 0 ∷ 3 ∷ 3
    ∷ 2 ∷ []) ∷ []) ∷ (op LGet 0 (1 ∷ 1 ∷ 7 ∷ []) [] (2 ∷ 0 ∷ 7 ∷ 1 ∷ 2 ∷ 3 ∷ 5 ∷ []) ∷ op Ret 0 (0 ∷ []) [] (2 ∷ 7
    ∷ 1 ∷ 2 ∷ 3 ∷ 1 ∷ 1 ∷ []) ∷ []) ∷ (fork 1 4 5 ∷ []) ∷ (fork 0 2 6 ∷ []) ∷ (op Case 0 (1 ∷ []) [] (93 ∷ []) ∷ [])
    ∷ (op3 Cmp 5 7 7 ∷ op2 Alloc 3 7 ∷ op Cat 0 (3 ∷ 5 ∷ 7 ∷ []) (0 ∷ 4 ∷ []) [] ∷ op Load 1 (4 ∷ 3 ∷ []) [] []
    ∷ op CallNative 1 (2 ∷ []) (4 ∷ 1 ∷ []) [] ∷ op2 Alloc 6 5 ∷ op3 FCmp 5 5 5 ∷ op BoolOp 1 (5 ∷ 6 ∷ []) [] []
    ∷ op2 Move 3 5 ∷ fork 1 3 1 ∷ []) ∷ []) (at (upto 19) (0 ∷ 0 ∷ 0 ∷ 0 ∷ 45 ∷ 0 ∷ 0 ∷ 0 ∷ 10 ∷ 35 ∷ 32 ∷ 0 ∷ 0 ∷ 10
    ∷ 0 ∷ 26 ∷ 0 ∷ 37 ∷ 26 ∷ [])) (registers 9 (1 ∷ 4 ∷ 4 ∷ 0 ∷ 5 ∷ 1 ∷ 0 ∷ 0 ∷ 4 ∷ 7 ∷ 7 ∷ 7 ∷ 77 ∷ 77 ∷ 77 ∷ 7 ∷ 77
    ∷ 77 ∷ 7 ∷ 77 ∷ 77 ∷ 77 ∷ 9 ∷ 77 ∷ 9 ∷ 9 ∷ 77 ∷ 9 ∷ 77 ∷ 7 ∷ 7 ∷ 77 ∷ [])) (operands 5 (3 ∷ 3 ∷ 3 ∷ 3 ∷ 0 ∷ absent
    ∷ absent ∷ absent ∷ 0 ∷ 0 ∷ absent ∷ 999 ∷ absent ∷ 0 ∷ 999 ∷ 999 ∷ 0 ∷ 0 ∷ 999 ∷ []))
    (beside [] [] [])) 92 8368 800 (done 3 27 17) ((1 ∷ 6 ∷ 3 ∷ 9 ∷ 15 ∷ 9 ∷ []) ∷ (2 ∷ 3 ∷ 4 ∷ 9 ∷ 21 ∷ 13 ∷ []) ∷ (3
    ∷ 4 ∷ 2 ∷ 9 ∷ 27 ∷ 17 ∷ []) ∷ [])
    (pic ((const 7 1 ∷ op AddrOf 2 (8 ∷ []) [] [] ∷ []) ∷ (op2 IToF 1 0 ∷ op Ret 0 [] [] (0 ∷ 1 ∷ 6 ∷ 0 ∷ 3 ∷ 3 ∷ 2
    ∷ []) ∷ []) ∷ (op3 Cmp 21 7 7 ∷ op2 Alloc 22 7 ∷ op Cat 0 (22 ∷ 21 ∷ 7 ∷ []) (13 ∷ 4 ∷ []) [] ∷ op Load 1 (23 ∷ 22
    ∷ []) [] [] ∷ op CallNative 1 (24 ∷ []) (4 ∷ 1 ∷ []) [] ∷ op2 Alloc 22 21 ∷ op3 FCmp 26 21 21 ∷ op BoolOp 1 (26
    ∷ 22 ∷ []) [] [] ∷ op2 Move 22 26 ∷ op LGet 0 (1 ∷ 1 ∷ 7 ∷ []) [] (2 ∷ 0 ∷ 7 ∷ 1 ∷ 2 ∷ 3 ∷ 5 ∷ []) ∷ op Ret 0 (0
    ∷ []) [] (2 ∷ 7 ∷ 1 ∷ 2 ∷ 3 ∷ 1 ∷ 1 ∷ []) ∷ []) ∷ (fork 1 4 5 ∷ []) ∷ (fork 0 2 6 ∷ []) ∷ (op Case 0 (1 ∷ []) []
    (93 ∷ []) ∷ []) ∷ (fork 1 3 1 ∷ []) ∷ []) (at (0 ∷ 1 ∷ 2 ∷ 3 ∷ range 9 9 ++ range 4 5 ++ 18 ∷ []) (0 ∷ 0 ∷ 0 ∷ 0
    ∷ 35 ∷ 32 ∷ 0 ∷ 0 ∷ 10 ∷ 0 ∷ 26 ∷ 0 ∷ 37 ∷ 45 ∷ 0 ∷ 0 ∷ 0 ∷ 10 ∷ 26 ∷ [])) (registers 27 (1 ∷ 4 ∷ 4 ∷ 0 ∷ 5 ∷ 1
    ∷ 0 ∷ 0 ∷ 4 ∷ 1 ∷ 0 ∷ 5 ∷ 4 ∷ 0 ∷ 1 ∷ 1 ∷ 0 ∷ 5 ∷ 4 ∷ 0 ∷ 1 ∷ 1 ∷ 0 ∷ 5 ∷ 4 ∷ 0 ∷ 1 ∷ 9 ∷ 77 ∷ 7 ∷ 7 ∷ 77 ∷ []))
    (operands 17 (3 ∷ 3 ∷ 3 ∷ 3 ∷ 0 ∷ 10 ∷ 10 ∷ 10 ∷ 10 ∷ 16 ∷ 16 ∷ 16 ∷ 16 ∷ 22 ∷ 22 ∷ 22 ∷ 22 ∷ 0 ∷ 999 ∷ []))
    (beside [] [] []))

-- seed 696: a register reused, chain of 1, chain of 3, done 3, empty target, moves with replay, moves without vias,
-- new Sig, target after x, target before x, target t
abbrev pub s696 : Row
s696 =
    moves (pic ((const 8 9 ∷ op4 Select 5 8 8 8 ∷ op2 Move 2 5 ∷ op3 Cmp 3 5 5 ∷ op3 Cmp 2 2 3 ∷ op2 Un 0 0
    ∷ op3 Cmp 7 2 2 ∷ br 4 ∷ []) ∷ (fork 1 9 8 ∷ []) ∷ (op Const 0 (0 ∷ []) [] (2885671296 ∷ 75651173 ∷ 1 ∷ 4 ∷ 5 ∷ 1
    ∷ 8 ∷ []) ∷ fork 0 1 6 ∷ []) ∷ (op1 Ret 0 ∷ []) ∷ (br 5 ∷ []) ∷ (fork 8 2 3 ∷ []) ∷ (op Case 0 (1 ∷ []) [] (96
    ∷ []) ∷ []) ∷ (op3 Cat 1 1 1 ∷ []) ∷ (op Case 0 (0 ∷ []) [] (94 ∷ []) ∷ []) ∷ [] ∷ []) (at (upto 17) [])
    (registers 9 (0 ∷ 4 ∷ 4 ∷ 4 ∷ 0 ∷ 0 ∷ 1 ∷ 0 ∷ 4 ∷ 9 ∷ 77 ∷ 9 ∷ 77 ∷ 7 ∷ 9 ∷ 7 ∷ 9 ∷ 77 ∷ 77 ∷ 7 ∷ 7 ∷ 77 ∷ 9 ∷ 77
    ∷ 7 ∷ 9 ∷ 7 ∷ 7 ∷ 77 ∷ 77 ∷ [])) (operands 0 []) (beside [] [] (9 ∷ 1 ∷ 2 ∷ []))) 100 8400 800 (done 3 30 0) ((1
    ∷ 0 ∷ 2 ∷ 5 ∷ 16 ∷ 0 ∷ []) ∷ (2 ∷ 2 ∷ 1 ∷ 5 ∷ 23 ∷ 0 ∷ []) ∷ (3 ∷ 1 ∷ 9 ∷ 5 ∷ 30 ∷ 0 ∷ []) ∷ [])
    (pic ((const 8 9 ∷ op2 Un 0 0 ∷ br 4 ∷ []) ∷ (fork 1 9 8 ∷ []) ∷ (op Const 0 (0 ∷ []) [] (2885671296 ∷ 75651173
    ∷ 1 ∷ 4 ∷ 5 ∷ 1 ∷ 8 ∷ []) ∷ fork 0 1 6 ∷ []) ∷ (op1 Ret 0 ∷ []) ∷ (br 5 ∷ []) ∷ (fork 8 2 3 ∷ []) ∷ (op Case 0 (1
    ∷ []) [] (96 ∷ []) ∷ []) ∷ (op3 Cat 1 1 1 ∷ []) ∷ (op Case 0 (0 ∷ []) [] (94 ∷ []) ∷ []) ∷ (op4 Select 23 8 8 8
    ∷ op2 Move 24 23 ∷ op3 Cmp 26 23 23 ∷ op3 Cmp 28 24 26 ∷ op3 Cmp 23 28 28 ∷ []) ∷ []) (at (0 ∷ 5 ∷ range 7 10 ++ 1
    ∷ 2 ∷ 3 ∷ 4 ∷ 6 ∷ []) []) (registers 30 (0 ∷ 4 ∷ 4 ∷ 4 ∷ 0 ∷ 0 ∷ 1 ∷ 0 ∷ 4 ∷ 0 ∷ 4 ∷ 0 ∷ 4 ∷ 0 ∷ 4 ∷ 0 ∷ 0 ∷ 4 ∷ 0
    ∷ 4 ∷ 0 ∷ 4 ∷ 0 ∷ 0 ∷ 4 ∷ 0 ∷ 4 ∷ 0 ∷ 4 ∷ 0 ∷ [])) (operands 0 []) (beside [] [] (9 ∷ 1 ∷ 2 ∷ [])))

-- seed 739: chain of 1, done 3, moves with replay, moves without vias, new Sig, target after x, target before x,
-- target f, target t
abbrev pub s739 : Row
s739 =
    moves (pic ((op3 Cat 1 1 1 ∷ []) ∷ (op Const 0 (6 ∷ []) [] (0 ∷ 256 ∷ []) ∷ br 4 ∷ []) ∷ (op Unreachable 0 [] []
    (4 ∷ 7 ∷ 1 ∷ 5 ∷ 1 ∷ 6 ∷ []) ∷ []) ∷ (fork 6 5 5 ∷ []) ∷ (op Check 3 (6 ∷ 6 ∷ 6 ∷ []) [] [] ∷ op3 SigVal 2 6 6
    ∷ op2 Alloc 5 6 ∷ op3 Cat 5 6 6 ∷ op Load 1 (4 ∷ 5 ∷ []) [] [] ∷ fork 0 4 3 ∷ []) ∷ (op3 FCheck 6 6 0 ∷ fork 6 6 2
    ∷ []) ∷ (op2 Output 6 6 ∷ op2 Output 1 1 ∷ op0 Ret ∷ []) ∷ []) (at (upto 16) []) (registers 7 (0 ∷ 4 ∷ 7 ∷ 0 ∷ 4
    ∷ 0 ∷ 7 ∷ replicate 6 9 ++ 77 ∷ 7 ∷ 9 ∷ 7 ∷ 77 ∷ 7 ∷ [])) (operands 0 (0 ∷ 999 ∷ [])) (beside [] [] (6 ∷ 5 ∷ 3
    ∷ []))) 66 8264 800 (done 3 19 0) ((1 ∷ 4 ∷ 3 ∷ 5 ∷ 11 ∷ 0 ∷ []) ∷ (2 ∷ 3 ∷ 5 ∷ 5 ∷ 15 ∷ 0 ∷ []) ∷ (3 ∷ 5 ∷ 6 ∷ 5
    ∷ 19 ∷ 0 ∷ []) ∷ [])
    (pic ((op3 Cat 1 1 1 ∷ []) ∷ (op Const 0 (6 ∷ []) [] (0 ∷ 256 ∷ []) ∷ br 4 ∷ []) ∷ (op Unreachable 0 [] [] (4 ∷ 7
    ∷ 1 ∷ 5 ∷ 1 ∷ 6 ∷ []) ∷ []) ∷ (fork 6 5 5 ∷ []) ∷ (fork 0 4 3 ∷ []) ∷ (op3 FCheck 6 6 0 ∷ fork 6 6 2 ∷ [])
    ∷ (op Check 3 (6 ∷ 6 ∷ 6 ∷ []) [] [] ∷ op3 SigVal 15 6 6 ∷ op2 Alloc 16 6 ∷ op3 Cat 16 6 6 ∷ op Load 1 (17 ∷ 16
    ∷ []) [] [] ∷ op2 Output 6 6 ∷ op2 Output 1 1 ∷ op0 Ret ∷ []) ∷ []) (at (upto 5 ++ 10 ∷ 11 ∷ 12 ∷ range 5 5 ++ 13
    ∷ 14 ∷ 15 ∷ []) []) (registers 19 (0 ∷ 4 ∷ 7 ∷ 0 ∷ 4 ∷ 0 ∷ 7 ∷ 7 ∷ 0 ∷ 4 ∷ 0 ∷ 7 ∷ 0 ∷ 4 ∷ 0 ∷ 7 ∷ 0 ∷ 4 ∷ 0
    ∷ [])) (operands 0 (0 ∷ 999 ∷ [])) (beside [] [] (6 ∷ 5 ∷ 3 ∷ [])))

-- seed 850: a register reused, chain of 1, moves without replay, moves without vias, new Sig, new list, short 5,
-- short by an operand, target after x, target before x, target t
abbrev pub s850 : Row
s850 =
    moves (pic ((op Const 0 (8 ∷ []) [] (0 ∷ 256 ∷ []) ∷ op AddrOf 4 (9 ∷ []) [] [] ∷ []) ∷ (op2 Alloc 3 8
    ∷ op2 Alloc 7 8 ∷ op Cat 0 (3 ∷ 8 ∷ 8 ∷ []) (1 ∷ 2 ∷ []) [] ∷ op3 Cmp 2 8 3 ∷ op Bin 4 (5 ∷ 2 ∷ 8 ∷ []) [] []
    ∷ op4 BoundsLen 4 8 5 3 ∷ op Cat 0 (3 ∷ 4 ∷ 2 ∷ []) (3 ∷ 4 ∷ []) [] ∷ op Cat 0 (7 ∷ 4 ∷ 2 ∷ []) (8 ∷ []) (0 ∷ 4
    ∷ 6 ∷ 3 ∷ 4 ∷ 2 ∷ 8 ∷ []) ∷ op3 FCheck 8 1 1 ∷ op2 LayoutOf 5 3 ∷ op2 Edge 0 8 ∷ op LayoutOf 0 (6 ∷ 7 ∷ []) [] (7
    ∷ 8 ∷ 0 ∷ 4 ∷ 5 ∷ 2 ∷ []) ∷ fork 0 2 3 ∷ []) ∷ (fork 0 1 4 ∷ []) ∷ (op ConstF 0 (1 ∷ []) [] (3234040524
    ∷ 2371928843 ∷ 1 ∷ 4 ∷ 5 ∷ 6 ∷ 5 ∷ []) ∷ op0 Ret ∷ []) ∷ (op2 Deref 0 0 ∷ op0 Unreachable ∷ []) ∷ []) (at
    (upto 20) []) (registers 10 (0 ∷ 3 ∷ 0 ∷ 1 ∷ 0 ∷ 4 ∷ 3 ∷ 3 ∷ 1 ∷ 1 ∷ replicate 5 9 ++ 7 ∷ 77 ∷ 9 ∷ 77 ∷ 7 ∷ 7 ∷ 77
    ∷ 7 ∷ 77 ∷ 7 ∷ 9 ∷ 7 ∷ 7 ∷ 9 ∷ 77 ∷ 7 ∷ 77 ∷ 7 ∷ 77 ∷ 9 ∷ 7 ∷ 77 ∷ 7 ∷ 77 ∷ 77 ∷ 7 ∷ 77 ∷ 9 ∷ 7 ∷ 7 ∷ 77 ∷ 77 ∷ 7
    ∷ 77 ∷ 9 ∷ 9 ∷ 7 ∷ 7 ∷ 77 ∷ 9 ∷ 7 ∷ 77 ∷ 7 ∷ 7 ∷ 77 ∷ 7 ∷ 77 ∷ 9 ∷ 7 ∷ 77 ∷ 9 ∷ [])) (operands 8 (3 ∷ 3 ∷ 7 ∷ 3
    ∷ 3 ∷ 3 ∷ 2 ∷ 2 ∷ 999 ∷ 999 ∷ absent ∷ 0 ∷ 999 ∷ absent ∷ 999 ∷ absent ∷ 999 ∷ 0 ∷ 999 ∷ absent ∷ absent ∷ 0 ∷ 0
    ∷ absent ∷ absent ∷ 0 ∷ 0 ∷ 0 ∷ absent ∷ 999 ∷ 999 ∷ absent ∷ absent ∷ 0 ∷ 999 ∷ 0 ∷ absent ∷ absent ∷ 0 ∷ 999 ∷ 0
    ∷ absent ∷ 0 ∷ [])) (beside [] [] [])) 172 8608 800 (short 5 45 38) ((1 ∷ 1 ∷ 2 ∷ 10 ∷ 17 ∷ 14 ∷ []) ∷ (2 ∷ 2 ∷ 1
    ∷ 10 ∷ 24 ∷ 20 ∷ []) ∷ (3 ∷ 1 ∷ 2 ∷ 10 ∷ 31 ∷ 26 ∷ []) ∷ (4 ∷ 2 ∷ 1 ∷ 10 ∷ 38 ∷ 32 ∷ []) ∷ (5 ∷ 1 ∷ 2 ∷ 10 ∷ 45
    ∷ 38 ∷ []) ∷ [])
    (pic ((op Const 0 (8 ∷ []) [] (0 ∷ 256 ∷ []) ∷ op AddrOf 4 (9 ∷ []) [] [] ∷ []) ∷ (op3 FCheck 8 1 1 ∷ op2 Edge 0 8
    ∷ fork 0 2 3 ∷ []) ∷ (op2 Alloc 38 8 ∷ op2 Alloc 39 8 ∷ op Cat 0 (38 ∷ 8 ∷ 8 ∷ []) (32 ∷ 2 ∷ []) []
    ∷ op3 Cmp 40 8 38 ∷ op Bin 4 (41 ∷ 40 ∷ 8 ∷ []) [] [] ∷ op4 BoundsLen 43 8 41 38 ∷ op Cat 0 (38 ∷ 43 ∷ 40 ∷ [])
    (34 ∷ 4 ∷ []) [] ∷ op Cat 0 (39 ∷ 43 ∷ 40 ∷ []) (8 ∷ []) (0 ∷ 4 ∷ 6 ∷ 3 ∷ 4 ∷ 2 ∷ 8 ∷ []) ∷ op2 LayoutOf 41 38
    ∷ op LayoutOf 0 (44 ∷ 39 ∷ []) [] (7 ∷ 8 ∷ 0 ∷ 4 ∷ 5 ∷ 2 ∷ []) ∷ fork 0 1 4 ∷ []) ∷ (op ConstF 0 (1 ∷ []) []
    (3234040524 ∷ 2371928843 ∷ 1 ∷ 4 ∷ 5 ∷ 6 ∷ 5 ∷ []) ∷ op0 Ret ∷ []) ∷ (op2 Deref 0 0 ∷ op0 Unreachable ∷ []) ∷ [])
    (at (0 ∷ 1 ∷ 10 ∷ 12 ∷ 14 ∷ range 2 8 ++ 11 ∷ 13 ∷ range 15 5) []) (registers 45 (0 ∷ 3 ∷ 0 ∷ 1 ∷ 0 ∷ 4 ∷ 3 ∷ 3
    ∷ 1 ∷ 1 ∷ 1 ∷ 3 ∷ 0 ∷ 4 ∷ 0 ∷ 0 ∷ 3 ∷ 1 ∷ 3 ∷ 0 ∷ 4 ∷ 0 ∷ 0 ∷ 3 ∷ 1 ∷ 3 ∷ 0 ∷ 4 ∷ 0 ∷ 0 ∷ 3 ∷ 1 ∷ 3 ∷ 0 ∷ 4 ∷ 0
    ∷ 0 ∷ 3 ∷ 1 ∷ 3 ∷ 0 ∷ 4 ∷ 0 ∷ 0 ∷ 3 ∷ 77 ∷ 77 ∷ 7 ∷ 77 ∷ 9 ∷ 9 ∷ 7 ∷ 7 ∷ 77 ∷ 9 ∷ 7 ∷ 77 ∷ 7 ∷ 7 ∷ 77 ∷ 7 ∷ 77 ∷ 9
    ∷ 7 ∷ 77 ∷ 9 ∷ [])) (operands 38 (3 ∷ 3 ∷ 7 ∷ 3 ∷ 3 ∷ 3 ∷ 2 ∷ 2 ∷ 10 ∷ 11 ∷ 10 ∷ 10 ∷ 10 ∷ 12 ∷ 17 ∷ 18 ∷ 17 ∷ 17
    ∷ 17 ∷ 19 ∷ 24 ∷ 25 ∷ 24 ∷ 24 ∷ 24 ∷ 26 ∷ 31 ∷ 32 ∷ 31 ∷ 31 ∷ 31 ∷ 33 ∷ 38 ∷ 39 ∷ 38 ∷ 38 ∷ 38 ∷ 40 ∷ 0 ∷ 999 ∷ 0
    ∷ absent ∷ 0 ∷ [])) (beside [] [] []))

-- seed 855: a register reused, chain of 1, moves without replay, moves without vias, new Sig, short 7, short by a
-- register, target after x, target before x, target t
abbrev pub s855 : Row
s855 =
    moves (pic ((op Const 0 (8 ∷ []) [] (24 ∷ 0 ∷ 4 ∷ 2 ∷ 2 ∷ 8 ∷ 4 ∷ []) ∷ []) ∷ (op0 Ret ∷ []) ∷ (op3 Cmp 4 8 8
    ∷ op2 Alloc 2 4 ∷ op Bin 4 (2 ∷ 8 ∷ 8 ∷ []) [] [] ∷ op3 Cmp 5 2 2 ∷ op4 BoundsLen 6 8 2 4 ∷ op Alloc 0 (3 ∷ 2
    ∷ []) [] (7 ∷ 6 ∷ 7 ∷ 1 ∷ 4 ∷ 0 ∷ 1 ∷ []) ∷ op Cat 0 (3 ∷ 4 ∷ 4 ∷ []) [] (26714 ∷ []) ∷ op Cat 0 (3 ∷ 4 ∷ 2
    ∷ []) [] (15644 ∷ []) ∷ op Bin 3 (7 ∷ 2 ∷ 8 ∷ []) [] [] ∷ op CallNative 1 (7 ∷ []) (0 ∷ 1 ∷ []) [] ∷ op2 Move 3 5
    ∷ fork 1 4 1 ∷ []) ∷ (op0 Ret ∷ []) ∷ (fork 1 2 3 ∷ []) ∷ []) (at (upto 16) []) (registers 9 (1 ∷ 0 ∷ 1 ∷ 0 ∷ 5
    ∷ 0 ∷ 4 ∷ 0 ∷ 1 ∷ 9 ∷ 77 ∷ 9 ∷ 7 ∷ 7 ∷ 77 ∷ 7 ∷ 77 ∷ 9 ∷ 77 ∷ 77 ∷ 7 ∷ 77 ∷ 9 ∷ 9 ∷ 9 ∷ 7 ∷ 77 ∷ 7 ∷ 7 ∷ 77 ∷ 9
    ∷ 77 ∷ 77 ∷ 9 ∷ 9 ∷ 9 ∷ 9 ∷ 7 ∷ 9 ∷ 9 ∷ 7 ∷ 9 ∷ 9 ∷ 9 ∷ 7 ∷ 9 ∷ 9 ∷ 77 ∷ 77 ∷ 9 ∷ 7 ∷ 9 ∷ 77 ∷ 9 ∷ 7 ∷ 7 ∷ []))
    (operands 1 (1 ∷ [])) (beside [] [] [])) 132 8528 800 (short 7 51 1) ((1 ∷ 2 ∷ 4 ∷ 11 ∷ 15 ∷ 1 ∷ []) ∷ (2 ∷ 4 ∷ 2
    ∷ 11 ∷ 21 ∷ 1 ∷ []) ∷ (3 ∷ 2 ∷ 4 ∷ 11 ∷ 27 ∷ 1 ∷ []) ∷ (4 ∷ 4 ∷ 2 ∷ 11 ∷ 33 ∷ 1 ∷ []) ∷ (5 ∷ 2 ∷ 4 ∷ 11 ∷ 39 ∷ 1
    ∷ []) ∷ (6 ∷ 4 ∷ 2 ∷ 11 ∷ 45 ∷ 1 ∷ []) ∷ (7 ∷ 2 ∷ 4 ∷ 11 ∷ 51 ∷ 1 ∷ []) ∷ [])
    (pic ((op Const 0 (8 ∷ []) [] (24 ∷ 0 ∷ 4 ∷ 2 ∷ 2 ∷ 8 ∷ 4 ∷ []) ∷ []) ∷ (op0 Ret ∷ []) ∷ (fork 1 4 1 ∷ [])
    ∷ (op0 Ret ∷ []) ∷ (op3 Cmp 45 8 8 ∷ op2 Alloc 46 45 ∷ op Bin 4 (46 ∷ 8 ∷ 8 ∷ []) [] [] ∷ op3 Cmp 47 46 46
    ∷ op4 BoundsLen 48 8 46 45 ∷ op Alloc 0 (50 ∷ 46 ∷ []) [] (7 ∷ 6 ∷ 7 ∷ 1 ∷ 4 ∷ 0 ∷ 1 ∷ []) ∷ op Cat 0 (50 ∷ 45
    ∷ 45 ∷ []) [] (26714 ∷ []) ∷ op Cat 0 (50 ∷ 45 ∷ 46 ∷ []) [] (15644 ∷ []) ∷ op Bin 3 (50 ∷ 46 ∷ 8 ∷ []) [] []
    ∷ op CallNative 1 (50 ∷ []) (0 ∷ 1 ∷ []) [] ∷ op2 Move 50 47 ∷ fork 1 2 3 ∷ []) ∷ []) (at (0 ∷ 1 ∷ 13 ∷ 14
    ∷ range 2 11 ++ 15 ∷ []) []) (registers 51 (1 ∷ 0 ∷ 1 ∷ 0 ∷ 5 ∷ 0 ∷ 4 ∷ 0 ∷ 1 ∷ 5 ∷ 1 ∷ 0 ∷ 4 ∷ 0 ∷ 0 ∷ 5 ∷ 1 ∷ 0
    ∷ 4 ∷ 0 ∷ 0 ∷ 5 ∷ 1 ∷ 0 ∷ 4 ∷ 0 ∷ 0 ∷ 5 ∷ 1 ∷ 0 ∷ 4 ∷ 0 ∷ 0 ∷ 5 ∷ 1 ∷ 0 ∷ 4 ∷ 0 ∷ 0 ∷ 5 ∷ 1 ∷ 0 ∷ 4 ∷ 0 ∷ 0 ∷ 5
    ∷ 1 ∷ 0 ∷ 4 ∷ 0 ∷ 0 ∷ 9 ∷ 77 ∷ 9 ∷ 7 ∷ 7 ∷ [])) (operands 1 (1 ∷ [])) (beside [] [] []))

-- seed 1047: 2 members are too few, a constant just past a length decides, chain of 5, done 1, moves with replay,
-- moves with vias, new Sig, rule 1 decides, rule 2 decides, target after x, target f, target renamed
abbrev pub s1047 : Row
s1047 =
    moves (pic ((op Const 0 (6 ∷ []) [] (absent ∷ 4294967039 ∷ []) ∷ op AddrOf 1 (7 ∷ []) [] [] ∷ op2 SigRead 1 0
    ∷ op3 Cmp 4 6 6 ∷ op2 Edge 0 1 ∷ op3 Cmp 3 4 4 ∷ op Alloc 0 (5 ∷ 6 ∷ []) [] (0 ∷ 6 ∷ 7 ∷ 8 ∷ 1 ∷ 1 ∷ 6 ∷ [])
    ∷ op Const 0 (1 ∷ []) [] (19604642 ∷ 3148616545 ∷ 2 ∷ 4 ∷ 5 ∷ 1 ∷ 6 ∷ []) ∷ op2 LayoutOf 5 5 ∷ op2 LayoutOf 2 5
    ∷ op3 Cmp 2 6 2 ∷ op3 FCheck 6 1 0 ∷ op Br 0 [] [] (1 ∷ 2 ∷ 4 ∷ 0 ∷ 1 ∷ 0 ∷ 5 ∷ []) ∷ []) ∷ (br 2 ∷ []) ∷ (br 3
    ∷ []) ∷ (br 4 ∷ []) ∷ (fork 6 6 5 ∷ []) ∷ (op2 Output 3 5 ∷ op2 Output 5 3 ∷ op Ret 0 [] [] (5 ∷ 7 ∷ 3 ∷ 4 ∷ 4 ∷ 4
    ∷ 4 ∷ []) ∷ []) ∷ (op2 Deref 1 1 ∷ op0 Ret ∷ []) ∷ (op3 Cat 6 6 6 ∷ []) ∷ []) (at (upto 23) (0 ∷ 4 ∷ 0 ∷ 0 ∷ 0
    ∷ 30 ∷ 17 ∷ 0 ∷ 31 ∷ 9 ∷ 11 ∷ 0 ∷ 36 ∷ 14 ∷ replicate 8 0 ++ 33 ∷ [])) (registers 8 (1 ∷ 5 ∷ 0 ∷ 4 ∷ 5 ∷ 0 ∷ 0 ∷ 1
    ∷ 9 ∷ replicate 5 77 ++ 7 ∷ 77 ∷ [])) (operands 0 (0 ∷ 0 ∷ absent ∷ 0 ∷ 0 ∷ [])) (beside [] [] (6
    ∷ []))) 64 8256 800 (done 1 14 0) ((1 ∷ 0 ∷ 5 ∷ 5 ∷ 14 ∷ 0 ∷ []) ∷ [])
    (pic ((op Const 0 (6 ∷ []) [] (absent ∷ 4294967039 ∷ []) ∷ op AddrOf 1 (7 ∷ []) [] [] ∷ op2 SigRead 1 0
    ∷ op2 Edge 0 1 ∷ op Alloc 0 (5 ∷ 6 ∷ []) [] (0 ∷ 6 ∷ 7 ∷ 8 ∷ 1 ∷ 1 ∷ 6 ∷ []) ∷ op Const 0 (1 ∷ []) [] (19604642
    ∷ 3148616545 ∷ 2 ∷ 4 ∷ 5 ∷ 1 ∷ 6 ∷ []) ∷ op3 FCheck 6 1 0 ∷ op Br 0 [] [] (1 ∷ 2 ∷ 4 ∷ 0 ∷ 1 ∷ 0 ∷ 5 ∷ []) ∷ [])
    ∷ (br 2 ∷ []) ∷ (br 3 ∷ []) ∷ (br 4 ∷ []) ∷ (fork 6 6 5 ∷ []) ∷ (op3 Cmp 8 6 6 ∷ op3 Cmp 9 8 8 ∷ op2 LayoutOf 11 5
    ∷ op2 LayoutOf 12 11 ∷ op3 Cmp 13 6 12 ∷ op2 Output 9 11 ∷ op2 Output 11 9 ∷ op Ret 0 [] [] (5 ∷ 7 ∷ 3 ∷ 4 ∷ 4 ∷ 4
    ∷ 4 ∷ []) ∷ []) ∷ (op2 Deref 1 1 ∷ op0 Ret ∷ []) ∷ (op3 Cat 6 6 6 ∷ []) ∷ []) (at (0 ∷ 1 ∷ 2 ∷ 4 ∷ 6 ∷ 7
    ∷ range 11 6 ++ 3 ∷ 5 ∷ 8 ∷ 9 ∷ 10 ∷ range 17 6) (0 ∷ 4 ∷ 0 ∷ 0 ∷ 17 ∷ 0 ∷ 0 ∷ 36 ∷ 14 ∷ 0 ∷ 0 ∷ 0 ∷ 0 ∷ 30 ∷ 31
    ∷ 9 ∷ 11 ∷ replicate 5 0 ++ 33 ∷ [])) (registers 14 (1 ∷ 5 ∷ 0 ∷ 4 ∷ 5 ∷ 0 ∷ 0 ∷ 1 ∷ 5 ∷ 4 ∷ 0 ∷ 0 ∷ 0 ∷ 0 ∷ 7
    ∷ 77 ∷ [])) (operands 0 (0 ∷ 0 ∷ absent ∷ 0 ∷ 0 ∷ [])) (beside [] [] (6 ∷ [])))

-- seed 1073: a register reused, chain of 1, done 4, empty target, moves with vias, moves without replay, new Sig,
-- target after x, target before x, target t
abbrev pub s1073 : Row
s1073 =
    moves (pic ((op Const 0 (8 ∷ []) [] (0 ∷ 256 ∷ 6 ∷ 5 ∷ 2 ∷ 6 ∷ 5 ∷ []) ∷ op BoolOp 0 (3 ∷ 8 ∷ 8 ∷ []) [] (2 ∷ 5
    ∷ 4 ∷ 6 ∷ 3 ∷ 5 ∷ 4 ∷ []) ∷ op3 Cmp 2 8 8 ∷ op3 Cmp 4 2 3 ∷ op BoolOp 1 (5 ∷ 3 ∷ []) [] [] ∷ op3 Cmp 7 8 5
    ∷ op3 Cmp 6 4 7 ∷ op3 Cmp 2 8 3 ∷ op2 Alloc 6 8 ∷ op3 Cat 6 4 8 ∷ op2 Alloc 3 4 ∷ op Bin 1 (4 ∷ 2 ∷ 8 ∷ []) [] []
    ∷ fork 0 4 8 ∷ []) ∷ (op Now 0 (0 ∷ []) [] (1 ∷ 3 ∷ 7 ∷ 3 ∷ 0 ∷ 8 ∷ []) ∷ []) ∷ (op2 Output 0 0 ∷ []) ∷ []
    ∷ (fork 8 6 1 ∷ []) ∷ (op CondBr 0 (0 ∷ []) [] (7 ∷ 2 ∷ 6 ∷ 1 ∷ 7 ∷ 5 ∷ 4 ∷ []) ∷ []) ∷ (op2 Edge 1 8
    ∷ op2 Output 0 0 ∷ op CondBr 0 (1 ∷ []) [] (5 ∷ 3 ∷ 6 ∷ 2 ∷ 3 ∷ []) ∷ []) ∷ [] ∷ (op1 WaitOn 1 ∷ op0 Unreachable
    ∷ []) ∷ []) (at (upto 22) (replicate 5 0 ++ 3 ∷ 0 ∷ 0 ∷ 0 ∷ 35 ∷ 37 ∷ 0 ∷ 34 ∷ 0 ∷ 0 ∷ 0 ∷ 0 ∷ 14 ∷ 21 ∷ 0 ∷ 0
    ∷ 35 ∷ [])) (registers 9 (3 ∷ 1 ∷ 4 ∷ 1 ∷ 0 ∷ 0 ∷ 3 ∷ 0 ∷ 0 ∷ 7 ∷ 9 ∷ 9 ∷ 77 ∷ 77 ∷ 77 ∷ 9 ∷ 9 ∷ 9 ∷ 7 ∷ 9
    ∷ replicate 7 7 ++ 77 ∷ 77 ∷ 7 ∷ 9 ∷ 77 ∷ 77 ∷ 7 ∷ 77 ∷ 77 ∷ 9 ∷ 9 ∷ 77 ∷ [])) (operands 0 (absent ∷ absent
    ∷ absent ∷ 0 ∷ absent ∷ [])) (beside [] [] [])) 114 8456 800 (done 4 37 0) ((1 ∷ 0 ∷ 4 ∷ 11 ∷ 16 ∷ 0 ∷ []) ∷ (2
    ∷ 4 ∷ 6 ∷ 11 ∷ 23 ∷ 0 ∷ []) ∷ (3 ∷ 6 ∷ 5 ∷ 11 ∷ 30 ∷ 0 ∷ []) ∷ (4 ∷ 5 ∷ 7 ∷ 11 ∷ 37 ∷ 0 ∷ []) ∷ [])
    (pic ((op Const 0 (8 ∷ []) [] (0 ∷ 256 ∷ 6 ∷ 5 ∷ 2 ∷ 6 ∷ 5 ∷ []) ∷ fork 0 4 8 ∷ []) ∷ (op Now 0 (0 ∷ []) [] (1 ∷ 3
    ∷ 7 ∷ 3 ∷ 0 ∷ 8 ∷ []) ∷ []) ∷ (op2 Output 0 0 ∷ []) ∷ [] ∷ (fork 8 6 1 ∷ []) ∷ (op CondBr 0 (0 ∷ []) [] (7 ∷ 2 ∷ 6
    ∷ 1 ∷ 7 ∷ 5 ∷ 4 ∷ []) ∷ []) ∷ (op2 Edge 1 8 ∷ op2 Output 0 0 ∷ op CondBr 0 (1 ∷ []) [] (5 ∷ 3 ∷ 6 ∷ 2 ∷ 3 ∷ [])
    ∷ []) ∷ (op BoolOp 0 (30 ∷ 8 ∷ 8 ∷ []) [] (2 ∷ 5 ∷ 4 ∷ 6 ∷ 3 ∷ 5 ∷ 4 ∷ []) ∷ op3 Cmp 31 8 8 ∷ op3 Cmp 33 31 30
    ∷ op BoolOp 1 (34 ∷ 30 ∷ []) [] [] ∷ op3 Cmp 35 8 34 ∷ op3 Cmp 36 33 35 ∷ op3 Cmp 31 8 30 ∷ op2 Alloc 36 8
    ∷ op3 Cat 36 33 8 ∷ op2 Alloc 30 33 ∷ op Bin 1 (33 ∷ 31 ∷ 8 ∷ []) [] [] ∷ []) ∷ (op1 WaitOn 1 ∷ op0 Unreachable
    ∷ []) ∷ []) (at (0 ∷ range 12 8 ++ range 1 11 ++ 20 ∷ 21 ∷ []) (0 ∷ 34 ∷ 0 ∷ 0 ∷ 0 ∷ 0 ∷ 14 ∷ 21
    ∷ replicate 5 0 ++ 3 ∷ 0 ∷ 0 ∷ 0 ∷ 35 ∷ 37 ∷ 0 ∷ 0 ∷ 35 ∷ [])) (registers 37 (3 ∷ 1 ∷ 4 ∷ 1 ∷ 0 ∷ 0 ∷ 3 ∷ 0 ∷ 0
    ∷ 1 ∷ 4 ∷ 0 ∷ 0 ∷ 0 ∷ 0 ∷ 3 ∷ 1 ∷ 4 ∷ 0 ∷ 0 ∷ 0 ∷ 0 ∷ 3 ∷ 1 ∷ 4 ∷ 0 ∷ 0 ∷ 0 ∷ 0 ∷ 3 ∷ 1 ∷ 4 ∷ 0 ∷ 0 ∷ 0 ∷ 0 ∷ 3
    ∷ 9 ∷ 77 ∷ [])) (operands 0 (absent ∷ absent ∷ absent ∷ 0 ∷ absent ∷ [])) (beside [] [] []))

-- seed 1183: a register reused, chain of 1, done 8, moves with vias, moves without replay, new Sig, new list, target
-- after x, target before x, target t
abbrev pub s1183 : Row
s1183 =
    moves (pic ((const 6 40 ∷ op Case 0 (0 ∷ []) [] (94 ∷ []) ∷ []) ∷ (op Alloc 0 (5 ∷ 6 ∷ []) [] (6 ∷ 2 ∷ 2 ∷ 3 ∷ 5
    ∷ 4 ∷ 4 ∷ []) ∷ op Cat 0 (5 ∷ 6 ∷ 6 ∷ []) (0 ∷ 4 ∷ []) (32982 ∷ 8 ∷ 2 ∷ 5 ∷ 2 ∷ 5 ∷ 2 ∷ []) ∷ op3 Pos 1 0 1
    ∷ op CallNative 1 (4 ∷ []) (0 ∷ 1 ∷ []) (3 ∷ 8 ∷ 7 ∷ 7 ∷ 0 ∷ 7 ∷ 1 ∷ []) ∷ op Store 3 (5 ∷ 5 ∷ []) [] []
    ∷ op4 Select 2 6 6 6 ∷ op4 Select 3 2 2 6 ∷ op3 Index 4 4 6 ∷ op2 Alloc 4 2 ∷ op MakeDope 0 (4 ∷ []) (4 ∷ []) []
    ∷ op DopeLen 0 (5 ∷ 5 ∷ []) [] (1 ∷ 3 ∷ 5 ∷ 3 ∷ 0 ∷ 2 ∷ 2 ∷ []) ∷ op2 SigReadScalar 5 5 ∷ fork 6 3 5 ∷ [])
    ∷ (op ConstF 0 (0 ∷ []) [] (1867957611 ∷ 2715938008 ∷ []) ∷ []) ∷ (fork 0 6 2 ∷ []) ∷ (op0 Cover ∷ [])
    ∷ (op1 Now 1 ∷ op Ret 0 [] [] (6 ∷ 0 ∷ 1 ∷ 2 ∷ 2 ∷ 5 ∷ 4 ∷ []) ∷ []) ∷ (fork 0 1 4 ∷ []) ∷ []) (at (upto 21)
    (replicate 6 0 ++ 40 ∷ 0 ∷ 0 ∷ 0 ∷ 1 ∷ 13 ∷ 14 ∷ 27 ∷ 0 ∷ 38 ∷ 4 ∷ 0 ∷ 18 ∷ 0 ∷ 9 ∷ [])) (registers 7 (0 ∷ 5 ∷ 4
    ∷ 0 ∷ 1 ∷ 0 ∷ 0 ∷ 9 ∷ 77 ∷ 77 ∷ 9 ∷ 9 ∷ 9 ∷ 7 ∷ 7 ∷ 7 ∷ 7 ∷ 77 ∷ 9 ∷ 9 ∷ 9 ∷ 7 ∷ 7 ∷ 9 ∷ 77 ∷ 9 ∷ 9 ∷ 9 ∷ 7 ∷ 9
    ∷ 7 ∷ 77 ∷ 9 ∷ 7 ∷ 9 ∷ 77 ∷ 9 ∷ 7 ∷ 7 ∷ 77 ∷ 9 ∷ 77 ∷ 77 ∷ 9 ∷ 7 ∷ 7 ∷ 9 ∷ 9 ∷ 9 ∷ 7 ∷ 9 ∷ 7 ∷ 9 ∷ 77 ∷ 7 ∷ []))
    (operands 4 (5 ∷ 5 ∷ 6 ∷ 5 ∷ 0 ∷ 999 ∷ 999 ∷ 999 ∷ 0 ∷ 999 ∷ 999 ∷ 0 ∷ 0 ∷ absent ∷ absent ∷ absent ∷ 0 ∷ 999 ∷ 0
    ∷ 999 ∷ absent ∷ absent ∷ 0 ∷ 0 ∷ absent ∷ absent ∷ 999 ∷ absent ∷ 0 ∷ replicate 6 999 ++ absent ∷ 999 ∷ 999 ∷ 999
    ∷ 0 ∷ 0 ∷ absent ∷ 0 ∷ absent ∷ [])) (beside [] [] [])) 138 8552 800 (done 8 55 44) ((1 ∷ 1 ∷ 3 ∷ 11 ∷ 13 ∷ 9
    ∷ []) ∷ (2 ∷ 3 ∷ 6 ∷ 11 ∷ 19 ∷ 14 ∷ []) ∷ (3 ∷ 6 ∷ 1 ∷ 11 ∷ 25 ∷ 19 ∷ []) ∷ (4 ∷ 1 ∷ 3 ∷ 11 ∷ 31 ∷ 24 ∷ []) ∷ (5
    ∷ 3 ∷ 6 ∷ 11 ∷ 37 ∷ 29 ∷ []) ∷ (6 ∷ 6 ∷ 1 ∷ 11 ∷ 43 ∷ 34 ∷ []) ∷ (7 ∷ 1 ∷ 3 ∷ 11 ∷ 49 ∷ 39 ∷ []) ∷ (8 ∷ 3 ∷ 6 ∷ 11
    ∷ 55 ∷ 44 ∷ []) ∷ [])
    (pic ((const 6 40 ∷ op Case 0 (0 ∷ []) [] (94 ∷ []) ∷ []) ∷ (op3 Pos 1 0 1 ∷ fork 6 3 5 ∷ []) ∷ (op ConstF 0 (0
    ∷ []) [] (1867957611 ∷ 2715938008 ∷ []) ∷ []) ∷ (fork 0 6 2 ∷ []) ∷ (op0 Cover ∷ []) ∷ (op1 Now 1 ∷ op Ret 0 [] []
    (6 ∷ 0 ∷ 1 ∷ 2 ∷ 2 ∷ 5 ∷ 4 ∷ []) ∷ []) ∷ (op Alloc 0 (49 ∷ 6 ∷ []) [] (6 ∷ 2 ∷ 2 ∷ 3 ∷ 5 ∷ 4 ∷ 4 ∷ []) ∷ op Cat 0
    (49 ∷ 6 ∷ 6 ∷ []) (39 ∷ 4 ∷ []) (32982 ∷ 8 ∷ 2 ∷ 5 ∷ 2 ∷ 5 ∷ 2 ∷ []) ∷ op CallNative 1 (50 ∷ []) (43 ∷ 1 ∷ []) (3
    ∷ 8 ∷ 7 ∷ 7 ∷ 0 ∷ 7 ∷ 1 ∷ []) ∷ op Store 3 (49 ∷ 49 ∷ []) [] [] ∷ op4 Select 51 6 6 6 ∷ op4 Select 53 51 51 6
    ∷ op3 Index 54 50 6 ∷ op2 Alloc 54 51 ∷ op MakeDope 0 (54 ∷ []) (4 ∷ []) [] ∷ op DopeLen 0 (53 ∷ 49 ∷ []) [] (1
    ∷ 3 ∷ 5 ∷ 3 ∷ 0 ∷ 2 ∷ 2 ∷ []) ∷ op2 SigReadScalar 49 53 ∷ fork 0 1 4 ∷ []) ∷ []) (at (0 ∷ 1 ∷ 4 ∷ range 14 6 ++ 2
    ∷ 3 ∷ range 5 9 ++ 20 ∷ []) (0 ∷ 0 ∷ 0 ∷ 0 ∷ 38 ∷ 4 ∷ 0 ∷ 18 ∷ 0 ∷ 0 ∷ 0 ∷ 0 ∷ 40 ∷ 0 ∷ 0 ∷ 0 ∷ 1 ∷ 13 ∷ 14 ∷ 27
    ∷ 9 ∷ [])) (registers 55 (0 ∷ 5 ∷ 4 ∷ 0 ∷ 1 ∷ 0 ∷ 0 ∷ 0 ∷ 1 ∷ 4 ∷ 0 ∷ 0 ∷ 1 ∷ 0 ∷ 1 ∷ 4 ∷ 0 ∷ 0 ∷ 1 ∷ 0 ∷ 1 ∷ 4
    ∷ 0 ∷ 0 ∷ 1 ∷ 0 ∷ 1 ∷ 4 ∷ 0 ∷ 0 ∷ 1 ∷ 0 ∷ 1 ∷ 4 ∷ 0 ∷ 0 ∷ 1 ∷ 0 ∷ 1 ∷ 4 ∷ 0 ∷ 0 ∷ 1 ∷ 0 ∷ 1 ∷ 4 ∷ 0 ∷ 0 ∷ 1 ∷ 0
    ∷ 1 ∷ 4 ∷ 0 ∷ 0 ∷ 1 ∷ [])) (operands 44 (5 ∷ 5 ∷ 6 ∷ 5 ∷ 7 ∷ 7 ∷ 6 ∷ 7 ∷ 7 ∷ 13 ∷ 13 ∷ 6 ∷ 13 ∷ 13 ∷ 19 ∷ 19 ∷ 6
    ∷ 19 ∷ 19 ∷ 25 ∷ 25 ∷ 6 ∷ 25 ∷ 25 ∷ 31 ∷ 31 ∷ 6 ∷ 31 ∷ 31 ∷ 37 ∷ 37 ∷ 6 ∷ 37 ∷ 37 ∷ 43 ∷ 43 ∷ 6 ∷ 43 ∷ 43 ∷ 49
    ∷ 49 ∷ 6 ∷ 49 ∷ 49 ∷ [])) (beside [] [] []))

abbrev pub rows3 : List Row
rows3 =
    s326 ∷ s327 ∷ s460 ∷ s497 ∷ s544 ∷ s577 ∷ s671 ∷ s690 ∷ s696 ∷ s739 ∷ s850 ∷ s855 ∷ s1047 ∷ s1073 ∷ s1183 ∷ []
