-- Pictures at the bounds of document 01, page 12: what the Rust makes of them, and tests/rust's judgement of refused ones. Printed by
-- `compare crossed` in tests/rust, and again by its compare.sh: not to be edited. Assumes nothing.
use Rattle.std.specs.Prelude.{List, [], ◌∷◌, ◌++◌, replicate}
use Rattle.words.specs.Lists.{range, upto}
use Rattle.model.specs.Kinds.{Alloc, Call, CallForeign, CallIndirect, CallProt, Case, Cat, Check, Cmp, Drive}
use Rattle.model.specs.Kinds.{LNum, Output, Ret, SigGather, Stmt, Suspend}
use Rattle.model.specs.Picture.{absent}
use Rattle.model.specs.Build.{op}
use Rattle.crossed.specs.Row.{Row, pic, at, registers, operands, beside, op0, op1, op2, op3, op4, br, fork, const, moves, stays, done}

-- the same, written in the target: 1
abbrev pub b243 : Row
b243 =
    moves (pic ((const 1 8 ∷ op2 Alloc 2 1 ∷ op3 Cmp 3 1 1 ∷ op3 Cmp 4 1 3 ∷ op3 Cmp 5 1 4 ∷ op3 Cmp 6 1 5
    ∷ op3 Cmp 7 1 6 ∷ op3 Cmp 8 1 7 ∷ op3 Cat 2 1 1 ∷ fork 0 1 2 ∷ []) ∷ (const 8 3 ∷ op2 Output 2 1 ∷ br 3 ∷ [])
    ∷ (op0 Ret ∷ []) ∷ (op1 Ret 8 ∷ []) ∷ []) (at (upto 15) []) (registers 9 (0 ∷ 0 ∷ 1 ∷ replicate 6 0 ++ 77 ∷ 77
    ∷ 77 ∷ 77 ∷ [])) (operands 0 (77 ∷ [])) (beside [] [] [])) 42 8168 800 (done 1 12 0) ((1 ∷ 0 ∷ 1 ∷ 8 ∷ 12 ∷ 0
    ∷ []) ∷ [])
    (pic ((const 1 8 ∷ fork 0 1 2 ∷ []) ∷ (op2 Alloc 9 1 ∷ op3 Cmp 10 1 1 ∷ op3 Cmp 11 1 10 ∷ op3 Cmp 10 1 11
    ∷ op3 Cmp 11 1 10 ∷ op3 Cmp 10 1 11 ∷ op3 Cmp 11 1 10 ∷ op3 Cat 9 1 1 ∷ const 8 3 ∷ op2 Output 9 1 ∷ br 3 ∷ [])
    ∷ (op0 Ret ∷ []) ∷ (op1 Ret 8 ∷ []) ∷ []) (at (0 ∷ 9 ∷ range 1 8 ++ range 10 5) []) (registers 12 (0 ∷ 0 ∷ 1
    ∷ replicate 6 0 ++ 1 ∷ 0 ∷ 0 ∷ 77 ∷ [])) (operands 0 (77 ∷ [])) (beside [] [] []))

-- the same, read and then written in the target: 1
abbrev pub b244 : Row
b244 =
    moves (pic ((const 1 8 ∷ op2 Alloc 2 1 ∷ op3 Cmp 3 1 1 ∷ op3 Cmp 4 1 3 ∷ op3 Cmp 5 1 4 ∷ op3 Cmp 6 1 5
    ∷ op3 Cmp 7 1 6 ∷ op3 Cmp 8 1 7 ∷ op3 Cat 2 1 1 ∷ fork 0 1 2 ∷ []) ∷ (op2 Output 8 8 ∷ const 8 3 ∷ op2 Output 2 1
    ∷ br 3 ∷ []) ∷ (op0 Ret ∷ []) ∷ (op1 Ret 8 ∷ []) ∷ []) (at (upto 16) []) (registers 9 (0 ∷ 0 ∷ 1
    ∷ replicate 6 0 ++ 77 ∷ 77 ∷ 77 ∷ 77 ∷ [])) (operands 0 (77 ∷ [])) (beside [] [] [])) 42 8168 800 (done 1 12 0)
    ((1 ∷ 0 ∷ 1 ∷ 8 ∷ 12 ∷ 0 ∷ []) ∷ [])
    (pic ((const 1 8 ∷ fork 0 1 2 ∷ []) ∷ (op2 Alloc 9 1 ∷ op3 Cmp 10 1 1 ∷ op3 Cmp 11 1 10 ∷ op3 Cmp 10 1 11
    ∷ op3 Cmp 11 1 10 ∷ op3 Cmp 10 1 11 ∷ op3 Cmp 11 1 10 ∷ op3 Cat 9 1 1 ∷ op2 Output 11 11 ∷ const 8 3
    ∷ op2 Output 9 1 ∷ br 3 ∷ []) ∷ (op0 Ret ∷ []) ∷ (op1 Ret 8 ∷ []) ∷ []) (at (0 ∷ 9 ∷ range 1 8 ++ range 10 6) [])
    (registers 12 (0 ∷ 0 ∷ 1 ∷ replicate 6 0 ++ 1 ∷ 0 ∷ 0 ∷ 77 ∷ [])) (operands 0 (77 ∷ [])) (beside [] [] []))

-- a result that is written again, the last one live: 1
abbrev pub b245 : Row
b245 =
    moves (pic ((const 1 8 ∷ op2 Alloc 2 1 ∷ op3 Cmp 3 1 1 ∷ op3 Cmp 4 1 3 ∷ op3 Cmp 5 1 4 ∷ op3 Cmp 6 1 5
    ∷ op3 Cmp 7 1 6 ∷ op3 Cmp 8 1 7 ∷ op3 Cmp 8 1 1 ∷ op3 Cat 2 1 1 ∷ fork 0 1 2 ∷ []) ∷ (op2 Output 2 1 ∷ br 3 ∷ [])
    ∷ (op0 Ret ∷ []) ∷ (op1 Ret 8 ∷ []) ∷ []) (at (upto 15) []) (registers 9 (0 ∷ 0 ∷ 1 ∷ replicate 6 0 ++ 77 ∷ 77
    ∷ 77 ∷ 77 ∷ [])) (operands 0 (77 ∷ [])) (beside [] [] [])) 42 8168 800 (done 1 12 0) ((1 ∷ 0 ∷ 1 ∷ 8 ∷ 12 ∷ 0
    ∷ []) ∷ [])
    (pic ((const 1 8 ∷ op3 Cmp 8 1 1 ∷ fork 0 1 2 ∷ []) ∷ (op2 Alloc 9 1 ∷ op3 Cmp 10 1 1 ∷ op3 Cmp 11 1 10
    ∷ op3 Cmp 10 1 11 ∷ op3 Cmp 11 1 10 ∷ op3 Cmp 10 1 11 ∷ op3 Cmp 11 1 10 ∷ op3 Cat 9 1 1 ∷ op2 Output 9 1 ∷ br 3
    ∷ []) ∷ (op0 Ret ∷ []) ∷ (op1 Ret 8 ∷ []) ∷ []) (at (0 ∷ 8 ∷ 10 ∷ range 1 7 ++ 9 ∷ 11 ∷ 12 ∷ 13 ∷ 14 ∷ []) [])
    (registers 12 (0 ∷ 0 ∷ 1 ∷ replicate 6 0 ++ 1 ∷ 0 ∷ 0 ∷ 77 ∷ [])) (operands 0 (77 ∷ [])) (beside [] [] []))

-- a result that a kept one writes again, that live: 1
abbrev pub b246 : Row
b246 =
    moves (pic ((const 1 8 ∷ op2 Alloc 2 1 ∷ op3 Cmp 3 1 1 ∷ op3 Cmp 4 1 3 ∷ op3 Cmp 5 1 4 ∷ op3 Cmp 6 1 5
    ∷ op3 Cmp 7 1 6 ∷ op3 Cmp 8 1 7 ∷ const 8 3 ∷ op3 Cat 2 1 1 ∷ fork 0 1 2 ∷ []) ∷ (op2 Output 2 1 ∷ br 3 ∷ [])
    ∷ (op0 Ret ∷ []) ∷ (op1 Ret 8 ∷ []) ∷ []) (at (upto 15) []) (registers 9 (0 ∷ 0 ∷ 1 ∷ replicate 6 0 ++ 77 ∷ 77
    ∷ 77 ∷ 77 ∷ [])) (operands 0 (77 ∷ [])) (beside [] [] [])) 42 8168 800 (done 1 12 0) ((1 ∷ 0 ∷ 1 ∷ 8 ∷ 12 ∷ 0
    ∷ []) ∷ [])
    (pic ((const 1 8 ∷ const 8 3 ∷ fork 0 1 2 ∷ []) ∷ (op2 Alloc 9 1 ∷ op3 Cmp 10 1 1 ∷ op3 Cmp 11 1 10
    ∷ op3 Cmp 10 1 11 ∷ op3 Cmp 11 1 10 ∷ op3 Cmp 10 1 11 ∷ op3 Cmp 11 1 10 ∷ op3 Cat 9 1 1 ∷ op2 Output 9 1 ∷ br 3
    ∷ []) ∷ (op0 Ret ∷ []) ∷ (op1 Ret 8 ∷ []) ∷ []) (at (0 ∷ 8 ∷ 10 ∷ range 1 7 ++ 9 ∷ 11 ∷ 12 ∷ 13 ∷ 14 ∷ []) [])
    (registers 12 (0 ∷ 0 ∷ 1 ∷ replicate 6 0 ++ 1 ∷ 0 ∷ 0 ∷ 77 ∷ [])) (operands 0 (77 ∷ [])) (beside [] [] []))

-- a Cat's list of a kept and a new register: 1
abbrev pub b248 : Row
b248 =
    moves (pic ((const 1 8 ∷ op2 Alloc 2 1 ∷ op3 Cmp 3 1 1 ∷ op3 Cmp 4 1 3 ∷ op3 Cmp 5 1 4 ∷ op3 Cmp 6 1 5
    ∷ op3 Cmp 7 1 6 ∷ op3 Cmp 8 1 7 ∷ op Cat 0 (2 ∷ 1 ∷ 1 ∷ []) (0 ∷ 2 ∷ []) (1 ∷ []) ∷ fork 0 1 2 ∷ [])
    ∷ (op2 Output 2 1 ∷ op0 Ret ∷ []) ∷ (op0 Ret ∷ []) ∷ []) (at (upto 13) []) (registers 10 (0 ∷ 0 ∷ 1
    ∷ replicate 7 0 ++ replicate 5 77)) (operands 2 (9 ∷ 3 ∷ 77 ∷ 77 ∷ 77 ∷ [])) (beside [] [] [])) 42 8168 800
    (done 1 14 4) ((1 ∷ 0 ∷ 1 ∷ 8 ∷ 14 ∷ 4 ∷ []) ∷ [])
    (pic ((const 1 8 ∷ fork 0 1 2 ∷ []) ∷ (op2 Alloc 10 1 ∷ op3 Cmp 11 1 1 ∷ op3 Cmp 12 1 11 ∷ op3 Cmp 13 1 12
    ∷ op3 Cmp 12 1 13 ∷ op3 Cmp 13 1 12 ∷ op3 Cmp 12 1 13 ∷ op Cat 0 (10 ∷ 1 ∷ 1 ∷ []) (2 ∷ 2 ∷ []) (1 ∷ [])
    ∷ op2 Output 10 1 ∷ op0 Ret ∷ []) ∷ (op0 Ret ∷ []) ∷ []) (at (0 ∷ 9 ∷ range 1 8 ++ 10 ∷ 11 ∷ 12 ∷ []) [])
    (registers 14 (0 ∷ 0 ∷ 1 ∷ replicate 7 0 ++ 1 ∷ 0 ∷ 0 ∷ 0 ∷ 77 ∷ [])) (operands 4 (9 ∷ 3 ∷ 9 ∷ 11 ∷ 77 ∷ []))
    (beside [] [] []))

-- what a Cat's list reads is written behind it: 0
abbrev pub b249 : Row
b249 =
    stays (pic ((const 1 8 ∷ op2 Alloc 2 1 ∷ op3 Cmp 3 1 1 ∷ op3 Cmp 4 1 3 ∷ op3 Cmp 5 1 4 ∷ op3 Cmp 6 1 5
    ∷ op3 Cmp 7 1 6 ∷ op3 Cmp 8 1 7 ∷ op Cat 0 (2 ∷ 1 ∷ 1 ∷ []) (0 ∷ 2 ∷ []) (1 ∷ []) ∷ const 9 3 ∷ fork 0 1 2 ∷ [])
    ∷ (op2 Output 2 1 ∷ op0 Ret ∷ []) ∷ (op0 Ret ∷ []) ∷ []) (at (upto 14) []) (registers 10 (0 ∷ 0 ∷ 1
    ∷ replicate 7 0 ++ 77 ∷ [])) (operands 2 (9 ∷ 3 ∷ 77 ∷ [])) (beside [] [] [])) 34 8136 800 (done 0 10 2)

-- a list's new register is written again behind it: 1
abbrev pub b250 : Row
b250 =
    moves (pic ((const 1 8 ∷ op2 Alloc 2 1 ∷ op3 Cmp 3 1 1 ∷ op3 Cmp 4 1 3 ∷ op3 Cmp 5 1 4 ∷ op3 Cmp 6 1 5
    ∷ op3 Cmp 7 1 6 ∷ op3 Cmp 8 1 7 ∷ op Cat 0 (2 ∷ 1 ∷ 1 ∷ []) (0 ∷ 2 ∷ []) (1 ∷ []) ∷ const 3 3 ∷ fork 0 1 2 ∷ [])
    ∷ (op2 Output 2 1 ∷ op0 Ret ∷ []) ∷ (op0 Ret ∷ []) ∷ []) (at (upto 14) []) (registers 10 (0 ∷ 0 ∷ 1
    ∷ replicate 7 0 ++ replicate 5 77)) (operands 2 (9 ∷ 3 ∷ 77 ∷ 77 ∷ 77 ∷ [])) (beside [] [] [])) 42 8168 800
    (done 1 14 4) ((1 ∷ 0 ∷ 1 ∷ 8 ∷ 14 ∷ 4 ∷ []) ∷ [])
    (pic ((const 1 8 ∷ const 3 3 ∷ fork 0 1 2 ∷ []) ∷ (op2 Alloc 10 1 ∷ op3 Cmp 11 1 1 ∷ op3 Cmp 12 1 11
    ∷ op3 Cmp 13 1 12 ∷ op3 Cmp 12 1 13 ∷ op3 Cmp 13 1 12 ∷ op3 Cmp 12 1 13 ∷ op Cat 0 (10 ∷ 1 ∷ 1 ∷ []) (2 ∷ 2 ∷ [])
    (1 ∷ []) ∷ op2 Output 10 1 ∷ op0 Ret ∷ []) ∷ (op0 Ret ∷ []) ∷ []) (at (0 ∷ 9 ∷ 10 ∷ range 1 8 ++ 11 ∷ 12 ∷ 13
    ∷ []) []) (registers 14 (0 ∷ 0 ∷ 1 ∷ replicate 7 0 ++ 1 ∷ 0 ∷ 0 ∷ 0 ∷ 77 ∷ [])) (operands 4 (9 ∷ 3 ∷ 9 ∷ 11 ∷ 77
    ∷ [])) (beside [] [] []))

-- the other branch reads and writes r8 at once: 0
abbrev pub b251 : Row
b251 =
    stays (pic ((const 1 8 ∷ op2 Alloc 2 1 ∷ op3 Cmp 3 1 1 ∷ op3 Cmp 4 1 3 ∷ op3 Cmp 5 1 4 ∷ op3 Cmp 6 1 5
    ∷ op3 Cmp 7 1 6 ∷ op3 Cmp 8 1 7 ∷ op3 Cat 2 1 1 ∷ fork 0 1 2 ∷ []) ∷ (op2 Output 2 1 ∷ op0 Ret ∷ [])
    ∷ (op3 Cmp 8 8 8 ∷ op0 Ret ∷ []) ∷ []) (at (upto 14) []) (registers 9 (0 ∷ 0 ∷ 1 ∷ replicate 6 0 ++ 77 ∷ []))
    (operands 0 (77 ∷ [])) (beside [] [] [])) 32 8128 800 (done 0 9 0)

-- the other branch writes r8: 1
abbrev pub b252 : Row
b252 =
    moves (pic ((const 1 8 ∷ op2 Alloc 2 1 ∷ op3 Cmp 3 1 1 ∷ op3 Cmp 4 1 3 ∷ op3 Cmp 5 1 4 ∷ op3 Cmp 6 1 5
    ∷ op3 Cmp 7 1 6 ∷ op3 Cmp 8 1 7 ∷ op3 Cat 2 1 1 ∷ fork 0 1 2 ∷ []) ∷ (op2 Output 2 1 ∷ op0 Ret ∷ [])
    ∷ (op3 Cmp 8 1 1 ∷ op0 Ret ∷ []) ∷ []) (at (upto 14) []) (registers 9 (0 ∷ 0 ∷ 1 ∷ replicate 6 0 ++ 77 ∷ 77 ∷ 77
    ∷ 77 ∷ [])) (operands 0 (77 ∷ [])) (beside [] [] [])) 38 8152 800 (done 1 12 0) ((1 ∷ 0 ∷ 1 ∷ 8 ∷ 12 ∷ 0 ∷ [])
    ∷ [])
    (pic ((const 1 8 ∷ fork 0 1 2 ∷ []) ∷ (op2 Alloc 9 1 ∷ op3 Cmp 10 1 1 ∷ op3 Cmp 11 1 10 ∷ op3 Cmp 10 1 11
    ∷ op3 Cmp 11 1 10 ∷ op3 Cmp 10 1 11 ∷ op3 Cmp 11 1 10 ∷ op3 Cat 9 1 1 ∷ op2 Output 9 1 ∷ op0 Ret ∷ [])
    ∷ (op3 Cmp 8 1 1 ∷ op0 Ret ∷ []) ∷ []) (at (0 ∷ 9 ∷ range 1 8 ++ 10 ∷ 11 ∷ 12 ∷ 13 ∷ []) []) (registers 12 (0 ∷ 0
    ∷ 1 ∷ replicate 6 0 ++ 1 ∷ 0 ∷ 0 ∷ 77 ∷ [])) (operands 0 (77 ∷ [])) (beside [] [] []))

-- the other branch compares into r8, and reads it: 1
abbrev pub b253 : Row
b253 =
    moves (pic ((const 1 8 ∷ op2 Alloc 2 1 ∷ op3 Cmp 3 1 1 ∷ op3 Cmp 4 1 3 ∷ op3 Cmp 5 1 4 ∷ op3 Cmp 6 1 5
    ∷ op3 Cmp 7 1 6 ∷ op3 Cmp 8 1 7 ∷ op3 Cat 2 1 1 ∷ fork 0 1 2 ∷ []) ∷ (op2 Output 2 1 ∷ op0 Ret ∷ []) ∷ (op LNum 1
    (8 ∷ 0 ∷ 0 ∷ 0 ∷ []) [] [] ∷ op2 Output 8 8 ∷ op0 Ret ∷ []) ∷ []) (at (upto 15) []) (registers 9 (0 ∷ 0 ∷ 1
    ∷ replicate 6 0 ++ 77 ∷ 77 ∷ 77 ∷ 77 ∷ [])) (operands 0 (77 ∷ [])) (beside [] [] [])) 38 8152 800 (done 1 12 0)
    ((1 ∷ 0 ∷ 1 ∷ 8 ∷ 12 ∷ 0 ∷ []) ∷ [])
    (pic ((const 1 8 ∷ fork 0 1 2 ∷ []) ∷ (op2 Alloc 9 1 ∷ op3 Cmp 10 1 1 ∷ op3 Cmp 11 1 10 ∷ op3 Cmp 10 1 11
    ∷ op3 Cmp 11 1 10 ∷ op3 Cmp 10 1 11 ∷ op3 Cmp 11 1 10 ∷ op3 Cat 9 1 1 ∷ op2 Output 9 1 ∷ op0 Ret ∷ [])
    ∷ (op LNum 1 (8 ∷ 0 ∷ 0 ∷ 0 ∷ []) [] [] ∷ op2 Output 8 8 ∷ op0 Ret ∷ []) ∷ []) (at (0 ∷ 9
    ∷ range 1 8 ++ range 10 5) []) (registers 12 (0 ∷ 0 ∷ 1 ∷ replicate 6 0 ++ 1 ∷ 0 ∷ 0 ∷ 77 ∷ [])) (operands 0 (77
    ∷ [])) (beside [] [] []))

-- the other branch computes on r8: 0
abbrev pub b254 : Row
b254 =
    stays (pic ((const 1 8 ∷ op2 Alloc 2 1 ∷ op3 Cmp 3 1 1 ∷ op3 Cmp 4 1 3 ∷ op3 Cmp 5 1 4 ∷ op3 Cmp 6 1 5
    ∷ op3 Cmp 7 1 6 ∷ op3 Cmp 8 1 7 ∷ op3 Cat 2 1 1 ∷ fork 0 1 2 ∷ []) ∷ (op2 Output 2 1 ∷ op0 Ret ∷ [])
    ∷ (op4 LNum 8 0 0 0 ∷ op0 Ret ∷ []) ∷ []) (at (upto 14) []) (registers 9 (0 ∷ 0 ∷ 1 ∷ replicate 6 0 ++ 77 ∷ []))
    (operands 0 (77 ∷ [])) (beside [] [] [])) 32 8128 800 (done 0 9 0)

-- the other branch checks a range with r8 third: 0
abbrev pub b255 : Row
b255 =
    stays (pic ((const 1 8 ∷ op2 Alloc 2 1 ∷ op3 Cmp 3 1 1 ∷ op3 Cmp 4 1 3 ∷ op3 Cmp 5 1 4 ∷ op3 Cmp 6 1 5
    ∷ op3 Cmp 7 1 6 ∷ op3 Cmp 8 1 7 ∷ op3 Cat 2 1 1 ∷ fork 0 1 2 ∷ []) ∷ (op2 Output 2 1 ∷ op0 Ret ∷ []) ∷ (op Check 2
    (0 ∷ 0 ∷ 8 ∷ []) [] [] ∷ op0 Ret ∷ []) ∷ []) (at (upto 14) []) (registers 9 (0 ∷ 0 ∷ 1 ∷ replicate 6 0 ++ 77
    ∷ [])) (operands 0 (77 ∷ [])) (beside [] [] [])) 32 8128 800 (done 0 9 0)

-- the other branch checks r8 against null: 0
abbrev pub b256 : Row
b256 =
    stays (pic ((const 1 8 ∷ op2 Alloc 2 1 ∷ op3 Cmp 3 1 1 ∷ op3 Cmp 4 1 3 ∷ op3 Cmp 5 1 4 ∷ op3 Cmp 6 1 5
    ∷ op3 Cmp 7 1 6 ∷ op3 Cmp 8 1 7 ∷ op3 Cat 2 1 1 ∷ fork 0 1 2 ∷ []) ∷ (op2 Output 2 1 ∷ op0 Ret ∷ []) ∷ (op Check 1
    (8 ∷ []) [] [] ∷ op0 Ret ∷ []) ∷ []) (at (upto 14) []) (registers 9 (0 ∷ 0 ∷ 1 ∷ replicate 6 0 ++ 77 ∷ []))
    (operands 0 (77 ∷ [])) (beside [] [] [])) 32 8128 800 (done 0 9 0)

-- the other branch has a list of r8: 0
abbrev pub b257 : Row
b257 =
    stays (pic ((const 1 8 ∷ op2 Alloc 2 1 ∷ op3 Cmp 3 1 1 ∷ op3 Cmp 4 1 3 ∷ op3 Cmp 5 1 4 ∷ op3 Cmp 6 1 5
    ∷ op3 Cmp 7 1 6 ∷ op3 Cmp 8 1 7 ∷ op3 Cat 2 1 1 ∷ fork 0 1 2 ∷ []) ∷ (op2 Output 2 1 ∷ op0 Ret ∷ [])
    ∷ (op Call 0 [] (0 ∷ 1 ∷ []) [] ∷ op0 Ret ∷ []) ∷ []) (at (upto 14) []) (registers 9 (0 ∷ 0 ∷ 1
    ∷ replicate 6 0 ++ 77 ∷ [])) (operands 1 (8 ∷ 77 ∷ [])) (beside [] [] [])) 32 8128 800 (done 0 9 1)

-- the other branch drives without a register, and gathers without parts: 1
abbrev pub b258 : Row
b258 =
    moves (pic ((const 1 8 ∷ op2 Alloc 2 1 ∷ op3 Cmp 3 1 1 ∷ op3 Cmp 4 1 3 ∷ op3 Cmp 5 1 4 ∷ op3 Cmp 6 1 5
    ∷ op3 Cmp 7 1 6 ∷ op3 Cmp 8 1 7 ∷ op3 Cat 2 1 1 ∷ fork 0 1 2 ∷ []) ∷ (op2 Output 2 1 ∷ op0 Ret ∷ []) ∷ (op Drive 0
    (absent ∷ 0 ∷ 0 ∷ []) [] [] ∷ op2 SigGather 0 0 ∷ op0 Ret ∷ []) ∷ []) (at (upto 15) []) (registers 9 (0 ∷ 0 ∷ 1
    ∷ replicate 6 0 ++ 77 ∷ 77 ∷ 77 ∷ 77 ∷ [])) (operands 0 (77 ∷ [])) (beside [] [] [])) 38 8152 800 (done 1 12 0)
    ((1 ∷ 0 ∷ 1 ∷ 8 ∷ 12 ∷ 0 ∷ []) ∷ [])
    (pic ((const 1 8 ∷ fork 0 1 2 ∷ []) ∷ (op2 Alloc 9 1 ∷ op3 Cmp 10 1 1 ∷ op3 Cmp 11 1 10 ∷ op3 Cmp 10 1 11
    ∷ op3 Cmp 11 1 10 ∷ op3 Cmp 10 1 11 ∷ op3 Cmp 11 1 10 ∷ op3 Cat 9 1 1 ∷ op2 Output 9 1 ∷ op0 Ret ∷ [])
    ∷ (op Drive 0 (absent ∷ 0 ∷ 0 ∷ []) [] [] ∷ op2 SigGather 0 0 ∷ op0 Ret ∷ []) ∷ []) (at (0 ∷ 9
    ∷ range 1 8 ++ range 10 5) []) (registers 12 (0 ∷ 0 ∷ 1 ∷ replicate 6 0 ++ 1 ∷ 0 ∷ 0 ∷ 77 ∷ [])) (operands 0 (77
    ∷ [])) (beside [] [] []))

-- r8 is read four blocks behind the other branch: 0
abbrev pub b259 : Row
b259 =
    stays (pic ((const 1 8 ∷ op2 Alloc 2 1 ∷ op3 Cmp 3 1 1 ∷ op3 Cmp 4 1 3 ∷ op3 Cmp 5 1 4 ∷ op3 Cmp 6 1 5
    ∷ op3 Cmp 7 1 6 ∷ op3 Cmp 8 1 7 ∷ op3 Cat 2 1 1 ∷ fork 0 1 2 ∷ []) ∷ (op2 Output 2 1 ∷ op0 Ret ∷ []) ∷ (br 3 ∷ [])
    ∷ (br 4 ∷ []) ∷ (br 5 ∷ []) ∷ (br 6 ∷ []) ∷ (op1 Ret 8 ∷ []) ∷ []) (at (upto 17) []) (registers 9 (0 ∷ 0 ∷ 1
    ∷ replicate 6 0 ++ 77 ∷ [])) (operands 0 (77 ∷ [])) (beside [] [] [])) 48 8192 800 (done 0 9 0)

-- r8 is read in a Case's default: 0
abbrev pub b260 : Row
b260 =
    stays (pic ((const 1 8 ∷ op2 Alloc 2 1 ∷ op3 Cmp 3 1 1 ∷ op3 Cmp 4 1 3 ∷ op3 Cmp 5 1 4 ∷ op3 Cmp 6 1 5
    ∷ op3 Cmp 7 1 6 ∷ op3 Cmp 8 1 7 ∷ op3 Cat 2 1 1 ∷ fork 0 1 2 ∷ []) ∷ (op2 Output 2 1 ∷ br 3 ∷ []) ∷ (op0 Ret ∷ [])
    ∷ (op1 Case 0 ∷ []) ∷ (op1 Ret 8 ∷ []) ∷ (op0 Ret ∷ []) ∷ (op0 Ret ∷ []) ∷ []) (at (upto 17) []) (registers 9 (0
    ∷ 0 ∷ 1 ∷ replicate 6 0 ++ 77 ∷ [])) (operands 0 (77 ∷ [])) (beside (0 ∷ 2 ∷ []) (4 ∷ 5 ∷ []) [])) 48 8192 800
    (done 0 9 0)

-- r8 is read in a Case's arm: 0
abbrev pub b261 : Row
b261 =
    stays (pic ((const 1 8 ∷ op2 Alloc 2 1 ∷ op3 Cmp 3 1 1 ∷ op3 Cmp 4 1 3 ∷ op3 Cmp 5 1 4 ∷ op3 Cmp 6 1 5
    ∷ op3 Cmp 7 1 6 ∷ op3 Cmp 8 1 7 ∷ op3 Cat 2 1 1 ∷ fork 0 1 2 ∷ []) ∷ (op2 Output 2 1 ∷ br 3 ∷ []) ∷ (op0 Ret ∷ [])
    ∷ (op1 Case 0 ∷ []) ∷ (op0 Ret ∷ []) ∷ (op1 Ret 8 ∷ []) ∷ (op0 Ret ∷ []) ∷ []) (at (upto 17) []) (registers 9 (0
    ∷ 0 ∷ 1 ∷ replicate 6 0 ++ 77 ∷ [])) (operands 0 (77 ∷ [])) (beside (0 ∷ 2 ∷ []) (4 ∷ 5 ∷ []) [])) 48 8192 800
    (done 0 9 0)

-- r8 is read in a Case's own block, by nobody else: 1
abbrev pub b262 : Row
b262 =
    moves (pic ((const 1 8 ∷ op2 Alloc 2 1 ∷ op3 Cmp 3 1 1 ∷ op3 Cmp 4 1 3 ∷ op3 Cmp 5 1 4 ∷ op3 Cmp 6 1 5
    ∷ op3 Cmp 7 1 6 ∷ op3 Cmp 8 1 7 ∷ op3 Cat 2 1 1 ∷ fork 0 1 2 ∷ []) ∷ (op2 Output 2 1 ∷ br 3 ∷ []) ∷ (op0 Ret ∷ [])
    ∷ (op1 Case 0 ∷ []) ∷ (op0 Ret ∷ []) ∷ (op0 Ret ∷ []) ∷ (op1 Ret 8 ∷ []) ∷ []) (at (upto 17) []) (registers 9 (0
    ∷ 0 ∷ 1 ∷ replicate 6 0 ++ 77 ∷ 77 ∷ 77 ∷ 77 ∷ [])) (operands 0 (77 ∷ [])) (beside (0 ∷ 2 ∷ []) (4 ∷ 5
    ∷ []) [])) 54 8216 800 (done 1 12 0) ((1 ∷ 0 ∷ 1 ∷ 8 ∷ 12 ∷ 0 ∷ []) ∷ [])
    (pic ((const 1 8 ∷ fork 0 1 2 ∷ []) ∷ (op2 Alloc 9 1 ∷ op3 Cmp 10 1 1 ∷ op3 Cmp 11 1 10 ∷ op3 Cmp 10 1 11
    ∷ op3 Cmp 11 1 10 ∷ op3 Cmp 10 1 11 ∷ op3 Cmp 11 1 10 ∷ op3 Cat 9 1 1 ∷ op2 Output 9 1 ∷ br 3 ∷ []) ∷ (op0 Ret
    ∷ []) ∷ (op1 Case 0 ∷ []) ∷ (op0 Ret ∷ []) ∷ (op0 Ret ∷ []) ∷ (op1 Ret 8 ∷ []) ∷ []) (at (0 ∷ 9
    ∷ range 1 8 ++ range 10 7) []) (registers 12 (0 ∷ 0 ∷ 1 ∷ replicate 6 0 ++ 1 ∷ 0 ∷ 0 ∷ 77 ∷ [])) (operands 0 (77
    ∷ [])) (beside (0 ∷ 2 ∷ []) (4 ∷ 5 ∷ []) []))

-- r8 is read in a Case's default, past its tables: 1
abbrev pub b263 : Row
b263 =
    moves (pic ((const 1 8 ∷ op2 Alloc 2 1 ∷ op3 Cmp 3 1 1 ∷ op3 Cmp 4 1 3 ∷ op3 Cmp 5 1 4 ∷ op3 Cmp 6 1 5
    ∷ op3 Cmp 7 1 6 ∷ op3 Cmp 8 1 7 ∷ op3 Cat 2 1 1 ∷ fork 0 1 2 ∷ []) ∷ (op2 Output 2 1 ∷ br 3 ∷ []) ∷ (op0 Ret ∷ [])
    ∷ (op Case 0 (0 ∷ []) [] (1 ∷ []) ∷ []) ∷ (op1 Ret 8 ∷ []) ∷ (op0 Ret ∷ []) ∷ (op0 Ret ∷ []) ∷ []) (at
    (upto 17) []) (registers 9 (0 ∷ 0 ∷ 1 ∷ replicate 6 0 ++ 77 ∷ 77 ∷ 77 ∷ 77 ∷ [])) (operands 0 (77 ∷ [])) (beside
    (0 ∷ 2 ∷ []) (4 ∷ 5 ∷ []) [])) 54 8216 800 (done 1 12 0) ((1 ∷ 0 ∷ 1 ∷ 8 ∷ 12 ∷ 0 ∷ []) ∷ [])
    (pic ((const 1 8 ∷ fork 0 1 2 ∷ []) ∷ (op2 Alloc 9 1 ∷ op3 Cmp 10 1 1 ∷ op3 Cmp 11 1 10 ∷ op3 Cmp 10 1 11
    ∷ op3 Cmp 11 1 10 ∷ op3 Cmp 10 1 11 ∷ op3 Cmp 11 1 10 ∷ op3 Cat 9 1 1 ∷ op2 Output 9 1 ∷ br 3 ∷ []) ∷ (op0 Ret
    ∷ []) ∷ (op Case 0 (0 ∷ []) [] (1 ∷ []) ∷ []) ∷ (op1 Ret 8 ∷ []) ∷ (op0 Ret ∷ []) ∷ (op0 Ret ∷ []) ∷ []) (at (0
    ∷ 9 ∷ range 1 8 ++ range 10 7) []) (registers 12 (0 ∷ 0 ∷ 1 ∷ replicate 6 0 ++ 1 ∷ 0 ∷ 0 ∷ 77 ∷ [])) (operands 0
    (77 ∷ [])) (beside (0 ∷ 2 ∷ []) (4 ∷ 5 ∷ []) []))

-- twelve Cmps in a row, the last one read by an Output: 0
abbrev pub b264 : Row
b264 =
    stays (pic ((const 1 8 ∷ op2 Alloc 2 1 ∷ op3 Cmp 3 1 1 ∷ op3 Cmp 4 1 3 ∷ op3 Cmp 5 1 4 ∷ op3 Cmp 6 1 5
    ∷ op3 Cmp 7 1 6 ∷ op3 Cmp 8 1 7 ∷ op3 Cmp 9 1 8 ∷ op3 Cmp 10 1 9 ∷ op3 Cmp 11 1 10 ∷ op3 Cmp 12 1 11
    ∷ op3 Cmp 13 1 12 ∷ op3 Cmp 14 1 13 ∷ op2 Output 14 1 ∷ op3 Cat 2 1 1 ∷ fork 0 1 2 ∷ []) ∷ (op2 Output 2 1
    ∷ op0 Ret ∷ []) ∷ (op0 Ret ∷ []) ∷ []) (at (upto 20) []) (registers 15 (0 ∷ 0 ∷ 1 ∷ replicate 12 0 ++ 77 ∷ []))
    (operands 0 (77 ∷ [])) (beside [] [] [])) 44 8176 800 (done 0 15 0)

-- Stmt behind three members: 1
abbrev pub b265 : Row
b265 =
    moves (pic ((const 1 8 ∷ op3 Cmp 3 1 1 ∷ op3 Cmp 4 1 3 ∷ op3 Cmp 5 1 4 ∷ op0 Stmt ∷ fork 0 1 2 ∷ [])
    ∷ (op2 Output 5 5 ∷ []) ∷ (op3 Cat 1 1 1 ∷ []) ∷ []) (at (upto 8) []) (registers 9 (0 ∷ 0 ∷ 1
    ∷ replicate 6 0 ++ 77 ∷ 77 ∷ 77 ∷ [])) (operands 0 (77 ∷ [])) (beside [] [] (1 ∷ []))) 36 8144 800 (done 1 11 0)
    ((1 ∷ 0 ∷ 1 ∷ 3 ∷ 11 ∷ 0 ∷ []) ∷ [])
    (pic ((const 1 8 ∷ op0 Stmt ∷ fork 0 1 2 ∷ []) ∷ (op3 Cmp 9 1 1 ∷ op3 Cmp 10 1 9 ∷ op3 Cmp 9 1 10 ∷ op2 Output 9 9
    ∷ []) ∷ (op3 Cat 1 1 1 ∷ []) ∷ []) (at (0 ∷ 4 ∷ 5 ∷ 1 ∷ 2 ∷ 3 ∷ 6 ∷ 7 ∷ []) []) (registers 11 (0 ∷ 0 ∷ 1
    ∷ replicate 8 0 ++ 77 ∷ [])) (operands 0 (77 ∷ [])) (beside [] [] (1 ∷ [])))

-- Suspend behind three members: 0
abbrev pub b267 : Row
b267 =
    stays (pic ((const 1 8 ∷ op3 Cmp 3 1 1 ∷ op3 Cmp 4 1 3 ∷ op3 Cmp 5 1 4 ∷ op0 Suspend ∷ fork 0 1 2 ∷ [])
    ∷ (op2 Output 5 5 ∷ []) ∷ (op3 Cat 1 1 1 ∷ []) ∷ []) (at (upto 8) []) (registers 9 (0 ∷ 0 ∷ 1
    ∷ replicate 6 0 ++ 77 ∷ [])) (operands 0 (77 ∷ [])) (beside [] [] (1 ∷ []))) 32 8128 800 (done 0 9 0)

-- Call behind three members: 1
abbrev pub b269 : Row
b269 =
    moves (pic ((const 1 8 ∷ op3 Cmp 3 1 1 ∷ op3 Cmp 4 1 3 ∷ op3 Cmp 5 1 4 ∷ op0 Call ∷ fork 0 1 2 ∷ [])
    ∷ (op2 Output 5 5 ∷ []) ∷ (op3 Cat 1 1 1 ∷ []) ∷ []) (at (upto 8) []) (registers 9 (0 ∷ 0 ∷ 1
    ∷ replicate 6 0 ++ 77 ∷ 77 ∷ 77 ∷ [])) (operands 0 (77 ∷ [])) (beside [] [] (1 ∷ []))) 36 8144 800 (done 1 11 0)
    ((1 ∷ 0 ∷ 1 ∷ 3 ∷ 11 ∷ 0 ∷ []) ∷ [])
    (pic ((const 1 8 ∷ op0 Call ∷ fork 0 1 2 ∷ []) ∷ (op3 Cmp 9 1 1 ∷ op3 Cmp 10 1 9 ∷ op3 Cmp 9 1 10 ∷ op2 Output 9 9
    ∷ []) ∷ (op3 Cat 1 1 1 ∷ []) ∷ []) (at (0 ∷ 4 ∷ 5 ∷ 1 ∷ 2 ∷ 3 ∷ 6 ∷ 7 ∷ []) []) (registers 11 (0 ∷ 0 ∷ 1
    ∷ replicate 8 0 ++ 77 ∷ [])) (operands 0 (77 ∷ [])) (beside [] [] (1 ∷ [])))

-- Call behind three members, in the chain behind x: 1
abbrev pub b270 : Row
b270 =
    moves (pic ((const 1 8 ∷ op3 Cmp 3 1 1 ∷ op3 Cmp 4 1 3 ∷ op3 Cmp 5 1 4 ∷ br 3 ∷ []) ∷ (op2 Output 5 5 ∷ [])
    ∷ (op3 Cat 1 1 1 ∷ []) ∷ (op0 Call ∷ fork 0 1 2 ∷ []) ∷ []) (at (upto 9) []) (registers 9 (0 ∷ 0 ∷ 1
    ∷ replicate 6 0 ++ 77 ∷ 77 ∷ 77 ∷ [])) (operands 0 (77 ∷ [])) (beside [] [] (1 ∷ []))) 40 8160 800 (done 1 11 0)
    ((1 ∷ 0 ∷ 1 ∷ 3 ∷ 11 ∷ 0 ∷ []) ∷ [])
    (pic ((const 1 8 ∷ br 3 ∷ []) ∷ (op3 Cmp 9 1 1 ∷ op3 Cmp 10 1 9 ∷ op3 Cmp 9 1 10 ∷ op2 Output 9 9 ∷ [])
    ∷ (op3 Cat 1 1 1 ∷ []) ∷ (op0 Call ∷ fork 0 1 2 ∷ []) ∷ []) (at (0 ∷ 4 ∷ 1 ∷ 2 ∷ 3 ∷ 5 ∷ 6 ∷ 7 ∷ 8 ∷ []) [])
    (registers 11 (0 ∷ 0 ∷ 1 ∷ replicate 8 0 ++ 77 ∷ [])) (operands 0 (77 ∷ [])) (beside [] [] (1 ∷ [])))

-- Call that may suspend behind three members: 0
abbrev pub b271 : Row
b271 =
    stays (pic ((const 1 8 ∷ op3 Cmp 3 1 1 ∷ op3 Cmp 4 1 3 ∷ op3 Cmp 5 1 4 ∷ op Call 1 [] [] [] ∷ fork 0 1 2 ∷ [])
    ∷ (op2 Output 5 5 ∷ []) ∷ (op3 Cat 1 1 1 ∷ []) ∷ []) (at (upto 8) []) (registers 9 (0 ∷ 0 ∷ 1
    ∷ replicate 6 0 ++ 77 ∷ [])) (operands 0 (77 ∷ [])) (beside [] [] (1 ∷ []))) 32 8128 800 (done 0 9 0)

-- Call that may suspend behind three members, in the chain behind x: 0
abbrev pub b272 : Row
b272 =
    stays (pic ((const 1 8 ∷ op3 Cmp 3 1 1 ∷ op3 Cmp 4 1 3 ∷ op3 Cmp 5 1 4 ∷ br 3 ∷ []) ∷ (op2 Output 5 5 ∷ [])
    ∷ (op3 Cat 1 1 1 ∷ []) ∷ (op Call 1 [] [] [] ∷ fork 0 1 2 ∷ []) ∷ []) (at (upto 9) []) (registers 9 (0 ∷ 0 ∷ 1
    ∷ replicate 6 0 ++ 77 ∷ [])) (operands 0 (77 ∷ [])) (beside [] [] (1 ∷ []))) 36 8144 800 (done 0 9 0)

-- CallProt behind three members: 1
abbrev pub b273 : Row
b273 =
    moves (pic ((const 1 8 ∷ op3 Cmp 3 1 1 ∷ op3 Cmp 4 1 3 ∷ op3 Cmp 5 1 4 ∷ op1 CallProt 1 ∷ fork 0 1 2 ∷ [])
    ∷ (op2 Output 5 5 ∷ []) ∷ (op3 Cat 1 1 1 ∷ []) ∷ []) (at (upto 8) []) (registers 9 (0 ∷ 0 ∷ 1
    ∷ replicate 6 0 ++ 77 ∷ 77 ∷ 77 ∷ [])) (operands 0 (77 ∷ [])) (beside [] [] (1 ∷ []))) 36 8144 800 (done 1 11 0)
    ((1 ∷ 0 ∷ 1 ∷ 3 ∷ 11 ∷ 0 ∷ []) ∷ [])
    (pic ((const 1 8 ∷ op1 CallProt 1 ∷ fork 0 1 2 ∷ []) ∷ (op3 Cmp 9 1 1 ∷ op3 Cmp 10 1 9 ∷ op3 Cmp 9 1 10
    ∷ op2 Output 9 9 ∷ []) ∷ (op3 Cat 1 1 1 ∷ []) ∷ []) (at (0 ∷ 4 ∷ 5 ∷ 1 ∷ 2 ∷ 3 ∷ 6 ∷ 7 ∷ []) []) (registers 11 (0
    ∷ 0 ∷ 1 ∷ replicate 8 0 ++ 77 ∷ [])) (operands 0 (77 ∷ [])) (beside [] [] (1 ∷ [])))

-- CallProt behind three members, in the chain behind x: 1
abbrev pub b274 : Row
b274 =
    moves (pic ((const 1 8 ∷ op3 Cmp 3 1 1 ∷ op3 Cmp 4 1 3 ∷ op3 Cmp 5 1 4 ∷ br 3 ∷ []) ∷ (op2 Output 5 5 ∷ [])
    ∷ (op3 Cat 1 1 1 ∷ []) ∷ (op1 CallProt 1 ∷ fork 0 1 2 ∷ []) ∷ []) (at (upto 9) []) (registers 9 (0 ∷ 0 ∷ 1
    ∷ replicate 6 0 ++ 77 ∷ 77 ∷ 77 ∷ [])) (operands 0 (77 ∷ [])) (beside [] [] (1 ∷ []))) 40 8160 800 (done 1 11 0)
    ((1 ∷ 0 ∷ 1 ∷ 3 ∷ 11 ∷ 0 ∷ []) ∷ [])
    (pic ((const 1 8 ∷ br 3 ∷ []) ∷ (op3 Cmp 9 1 1 ∷ op3 Cmp 10 1 9 ∷ op3 Cmp 9 1 10 ∷ op2 Output 9 9 ∷ [])
    ∷ (op3 Cat 1 1 1 ∷ []) ∷ (op1 CallProt 1 ∷ fork 0 1 2 ∷ []) ∷ []) (at (0 ∷ 4 ∷ 1 ∷ 2 ∷ 3 ∷ 5 ∷ 6 ∷ 7 ∷ 8 ∷ []) [])
    (registers 11 (0 ∷ 0 ∷ 1 ∷ replicate 8 0 ++ 77 ∷ [])) (operands 0 (77 ∷ [])) (beside [] [] (1 ∷ [])))

-- CallProt that may suspend behind three members: 0
abbrev pub b275 : Row
b275 =
    stays (pic ((const 1 8 ∷ op3 Cmp 3 1 1 ∷ op3 Cmp 4 1 3 ∷ op3 Cmp 5 1 4 ∷ op CallProt 1 (1 ∷ []) [] [] ∷ fork 0 1 2
    ∷ []) ∷ (op2 Output 5 5 ∷ []) ∷ (op3 Cat 1 1 1 ∷ []) ∷ []) (at (upto 8) []) (registers 9 (0 ∷ 0 ∷ 1
    ∷ replicate 6 0 ++ 77 ∷ [])) (operands 0 (77 ∷ [])) (beside [] [] (1 ∷ []))) 32 8128 800 (done 0 9 0)

-- CallProt that may suspend behind three members, in the chain behind x: 0
abbrev pub b276 : Row
b276 =
    stays (pic ((const 1 8 ∷ op3 Cmp 3 1 1 ∷ op3 Cmp 4 1 3 ∷ op3 Cmp 5 1 4 ∷ br 3 ∷ []) ∷ (op2 Output 5 5 ∷ [])
    ∷ (op3 Cat 1 1 1 ∷ []) ∷ (op CallProt 1 (1 ∷ []) [] [] ∷ fork 0 1 2 ∷ []) ∷ []) (at (upto 9) []) (registers 9 (0
    ∷ 0 ∷ 1 ∷ replicate 6 0 ++ 77 ∷ [])) (operands 0 (77 ∷ [])) (beside [] [] (1 ∷ []))) 36 8144 800 (done 0 9 0)

-- CallIndirect behind three members: 0
abbrev pub b277 : Row
b277 =
    stays (pic ((const 1 8 ∷ op3 Cmp 3 1 1 ∷ op3 Cmp 4 1 3 ∷ op3 Cmp 5 1 4 ∷ op1 CallIndirect 1 ∷ fork 0 1 2 ∷ [])
    ∷ (op2 Output 5 5 ∷ []) ∷ (op3 Cat 1 1 1 ∷ []) ∷ []) (at (upto 8) []) (registers 9 (0 ∷ 0 ∷ 1
    ∷ replicate 6 0 ++ 77 ∷ [])) (operands 0 (77 ∷ [])) (beside [] [] (1 ∷ []))) 32 8128 800 (done 0 9 0)

-- CallIndirect behind three members, in the chain behind x: 0
abbrev pub b278 : Row
b278 =
    stays (pic ((const 1 8 ∷ op3 Cmp 3 1 1 ∷ op3 Cmp 4 1 3 ∷ op3 Cmp 5 1 4 ∷ br 3 ∷ []) ∷ (op2 Output 5 5 ∷ [])
    ∷ (op3 Cat 1 1 1 ∷ []) ∷ (op1 CallIndirect 1 ∷ fork 0 1 2 ∷ []) ∷ []) (at (upto 9) []) (registers 9 (0 ∷ 0 ∷ 1
    ∷ replicate 6 0 ++ 77 ∷ [])) (operands 0 (77 ∷ [])) (beside [] [] (1 ∷ []))) 36 8144 800 (done 0 9 0)

-- CallForeign behind three members: 1
abbrev pub b279 : Row
b279 =
    moves (pic ((const 1 8 ∷ op3 Cmp 3 1 1 ∷ op3 Cmp 4 1 3 ∷ op3 Cmp 5 1 4 ∷ op0 CallForeign ∷ fork 0 1 2 ∷ [])
    ∷ (op2 Output 5 5 ∷ []) ∷ (op3 Cat 1 1 1 ∷ []) ∷ []) (at (upto 8) []) (registers 9 (0 ∷ 0 ∷ 1
    ∷ replicate 6 0 ++ 77 ∷ 77 ∷ 77 ∷ [])) (operands 0 (77 ∷ [])) (beside [] [] (1 ∷ []))) 36 8144 800 (done 1 11 0)
    ((1 ∷ 0 ∷ 1 ∷ 3 ∷ 11 ∷ 0 ∷ []) ∷ [])
    (pic ((const 1 8 ∷ op0 CallForeign ∷ fork 0 1 2 ∷ []) ∷ (op3 Cmp 9 1 1 ∷ op3 Cmp 10 1 9 ∷ op3 Cmp 9 1 10
    ∷ op2 Output 9 9 ∷ []) ∷ (op3 Cat 1 1 1 ∷ []) ∷ []) (at (0 ∷ 4 ∷ 5 ∷ 1 ∷ 2 ∷ 3 ∷ 6 ∷ 7 ∷ []) []) (registers 11 (0
    ∷ 0 ∷ 1 ∷ replicate 8 0 ++ 77 ∷ [])) (operands 0 (77 ∷ [])) (beside [] [] (1 ∷ [])))

-- CallForeign behind three members, in the chain behind x: 1
abbrev pub b280 : Row
b280 =
    moves (pic ((const 1 8 ∷ op3 Cmp 3 1 1 ∷ op3 Cmp 4 1 3 ∷ op3 Cmp 5 1 4 ∷ br 3 ∷ []) ∷ (op2 Output 5 5 ∷ [])
    ∷ (op3 Cat 1 1 1 ∷ []) ∷ (op0 CallForeign ∷ fork 0 1 2 ∷ []) ∷ []) (at (upto 9) []) (registers 9 (0 ∷ 0 ∷ 1
    ∷ replicate 6 0 ++ 77 ∷ 77 ∷ 77 ∷ [])) (operands 0 (77 ∷ [])) (beside [] [] (1 ∷ []))) 40 8160 800 (done 1 11 0)
    ((1 ∷ 0 ∷ 1 ∷ 3 ∷ 11 ∷ 0 ∷ []) ∷ [])
    (pic ((const 1 8 ∷ br 3 ∷ []) ∷ (op3 Cmp 9 1 1 ∷ op3 Cmp 10 1 9 ∷ op3 Cmp 9 1 10 ∷ op2 Output 9 9 ∷ [])
    ∷ (op3 Cat 1 1 1 ∷ []) ∷ (op0 CallForeign ∷ fork 0 1 2 ∷ []) ∷ []) (at (0 ∷ 4 ∷ 1 ∷ 2 ∷ 3 ∷ 5 ∷ 6 ∷ 7 ∷ 8
    ∷ []) []) (registers 11 (0 ∷ 0 ∷ 1 ∷ replicate 8 0 ++ 77 ∷ [])) (operands 0 (77 ∷ [])) (beside [] [] (1 ∷ [])))

abbrev pub rows12 : List Row
rows12 =
    b243 ∷ b244 ∷ b245 ∷ b246 ∷ b248 ∷ b249 ∷ b250 ∷ b251 ∷ b252 ∷ b253 ∷ b254 ∷ b255 ∷ b256 ∷ b257 ∷ b258 ∷ b259
    ∷ b260 ∷ b261 ∷ b262 ∷ b263 ∷ b264 ∷ b265 ∷ b267 ∷ b269 ∷ b270 ∷ b271 ∷ b272 ∷ b273 ∷ b274 ∷ b275 ∷ b276 ∷ b277
    ∷ b278 ∷ b279 ∷ b280 ∷ []
