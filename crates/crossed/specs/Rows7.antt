-- Pictures at the bounds of document 01, page 7: what the Rust makes of them, and tests/rust's judgement of refused ones. Printed by
-- `compare crossed` in tests/rust, and again by its compare.sh: not to be edited. Assumes nothing.
use Rattle.std.specs.Prelude.{List, [], ◌∷◌, ◌++◌, replicate}
use Rattle.words.specs.Lists.{range, upto}
use Rattle.model.specs.Kinds.{Alloc, Br, Cat, Cmp, CondBr, Const, Cover, Output, Ret, Suspend}
use Rattle.model.specs.Picture.{absent}
use Rattle.model.specs.Build.{op}
use Rattle.crossed.specs.Row.{Row, pic, at, registers, operands, beside, op0, op2, op3, br, fork, const, moves, stays, done, refused}

-- blocks without instructions: 0
abbrev pub b2 : Row
b2 =
    stays (pic ([] ∷ [] ∷ []) (at [] []) (registers 9 (0 ∷ 0 ∷ 1 ∷ replicate 6 0 ++ 77 ∷ [])) (operands 0 (77 ∷ []))
    (beside [] [] [])) 28 8112 800 (done 0 9 0)

-- 7 members, block 2 in replay: 1
abbrev pub b5 : Row
b5 =
    moves (pic ((const 1 8 ∷ op2 Alloc 2 1 ∷ op3 Cmp 3 1 1 ∷ op3 Cmp 4 1 3 ∷ op3 Cmp 5 1 4 ∷ op3 Cmp 6 1 5
    ∷ op3 Cmp 7 1 6 ∷ op3 Cat 2 1 1 ∷ fork 0 1 2 ∷ []) ∷ (op2 Output 2 1 ∷ op0 Ret ∷ []) ∷ (op0 Ret ∷ []) ∷ []) (at
    (upto 12) []) (registers 9 (0 ∷ 0 ∷ 1 ∷ replicate 6 0 ++ 77 ∷ 77 ∷ 77 ∷ 77 ∷ [])) (operands 0 (77 ∷ []))
    (beside [] [] (2 ∷ []))) 38 8152 800 (done 1 12 0) ((1 ∷ 0 ∷ 1 ∷ 7 ∷ 12 ∷ 0 ∷ []) ∷ [])
    (pic ((const 1 8 ∷ fork 0 1 2 ∷ []) ∷ (op2 Alloc 9 1 ∷ op3 Cmp 10 1 1 ∷ op3 Cmp 11 1 10 ∷ op3 Cmp 10 1 11
    ∷ op3 Cmp 11 1 10 ∷ op3 Cmp 10 1 11 ∷ op3 Cat 9 1 1 ∷ op2 Output 9 1 ∷ op0 Ret ∷ []) ∷ (op0 Ret ∷ []) ∷ []) (at (0
    ∷ 8 ∷ range 1 7 ++ 9 ∷ 10 ∷ 11 ∷ []) []) (registers 12 (0 ∷ 0 ∷ 1 ∷ replicate 6 0 ++ 1 ∷ 0 ∷ 0 ∷ 77 ∷ []))
    (operands 0 (77 ∷ [])) (beside [] [] (2 ∷ [])))

-- 7 members, block 0 and none in replay: 0
abbrev pub b6 : Row
b6 =
    stays (pic ((const 1 8 ∷ op2 Alloc 2 1 ∷ op3 Cmp 3 1 1 ∷ op3 Cmp 4 1 3 ∷ op3 Cmp 5 1 4 ∷ op3 Cmp 6 1 5
    ∷ op3 Cmp 7 1 6 ∷ op3 Cat 2 1 1 ∷ fork 0 1 2 ∷ []) ∷ (op2 Output 2 1 ∷ op0 Ret ∷ []) ∷ (op0 Ret ∷ []) ∷ []) (at
    (upto 12) []) (registers 9 (0 ∷ 0 ∷ 1 ∷ replicate 6 0 ++ 77 ∷ [])) (operands 0 (77 ∷ [])) (beside [] [] (0 ∷ 3
    ∷ 77 ∷ absent ∷ []))) 32 8128 800 (done 0 9 0)

-- 3 members with replay: 1
abbrev pub b7 : Row
b7 =
    moves (pic ((const 1 8 ∷ op2 Alloc 2 1 ∷ op3 Cmp 3 1 1 ∷ op3 Cat 2 1 1 ∷ fork 0 1 2 ∷ []) ∷ (op2 Output 2 1
    ∷ op0 Ret ∷ []) ∷ (op0 Ret ∷ []) ∷ []) (at (upto 8) []) (registers 9 (0 ∷ 0 ∷ 1 ∷ replicate 6 0 ++ 77 ∷ 77 ∷ 77
    ∷ [])) (operands 0 (77 ∷ [])) (beside [] [] (1 ∷ []))) 36 8144 800 (done 1 11 0) ((1 ∷ 0 ∷ 1 ∷ 3 ∷ 11 ∷ 0 ∷ [])
    ∷ [])
    (pic ((const 1 8 ∷ fork 0 1 2 ∷ []) ∷ (op2 Alloc 9 1 ∷ op3 Cmp 10 1 1 ∷ op3 Cat 9 1 1 ∷ op2 Output 9 1 ∷ op0 Ret
    ∷ []) ∷ (op0 Ret ∷ []) ∷ []) (at (0 ∷ 4 ∷ 1 ∷ 2 ∷ 3 ∷ 5 ∷ 6 ∷ 7 ∷ []) []) (registers 11 (0 ∷ 0 ∷ 1
    ∷ replicate 6 0 ++ 1 ∷ 0 ∷ 77 ∷ [])) (operands 0 (77 ∷ [])) (beside [] [] (1 ∷ [])))

-- 2 members with replay: 0
abbrev pub b8 : Row
b8 =
    stays (pic ((const 1 8 ∷ op2 Alloc 2 1 ∷ op3 Cat 2 1 1 ∷ fork 0 1 2 ∷ []) ∷ (op2 Output 2 1 ∷ op0 Ret ∷ [])
    ∷ (op0 Ret ∷ []) ∷ []) (at (upto 7) []) (registers 9 (0 ∷ 0 ∷ 1 ∷ replicate 6 0 ++ 77 ∷ [])) (operands 0 (77
    ∷ [])) (beside [] [] (1 ∷ []))) 32 8128 800 (done 0 9 0)

-- Const -2^40: 1
abbrev pub b12 : Row
b12 =
    moves (pic ((op Const 0 (1 ∷ []) [] (0 ∷ 4294967040 ∷ []) ∷ op2 Alloc 2 1 ∷ op3 Cmp 3 1 1 ∷ op3 Cmp 4 1 3
    ∷ op3 Cmp 5 1 4 ∷ op3 Cmp 6 1 5 ∷ op3 Cmp 7 1 6 ∷ op3 Cmp 8 1 7 ∷ op3 Cat 2 1 1 ∷ fork 0 1 2 ∷ [])
    ∷ (op2 Output 2 1 ∷ op0 Ret ∷ []) ∷ (op0 Ret ∷ []) ∷ []) (at (upto 13) []) (registers 9 (0 ∷ 0 ∷ 1
    ∷ replicate 6 0 ++ 77 ∷ 77 ∷ 77 ∷ 77 ∷ [])) (operands 0 (77 ∷ [])) (beside [] [] [])) 38 8152 800 (done 1 12 0)
    ((1 ∷ 0 ∷ 1 ∷ 8 ∷ 12 ∷ 0 ∷ []) ∷ [])
    (pic ((op Const 0 (1 ∷ []) [] (0 ∷ 4294967040 ∷ []) ∷ fork 0 1 2 ∷ []) ∷ (op2 Alloc 9 1 ∷ op3 Cmp 10 1 1
    ∷ op3 Cmp 11 1 10 ∷ op3 Cmp 10 1 11 ∷ op3 Cmp 11 1 10 ∷ op3 Cmp 10 1 11 ∷ op3 Cmp 11 1 10 ∷ op3 Cat 9 1 1
    ∷ op2 Output 9 1 ∷ op0 Ret ∷ []) ∷ (op0 Ret ∷ []) ∷ []) (at (0 ∷ 9 ∷ range 1 8 ++ 10 ∷ 11 ∷ 12 ∷ []) [])
    (registers 12 (0 ∷ 0 ∷ 1 ∷ replicate 6 0 ++ 1 ∷ 0 ∷ 0 ∷ 77 ∷ [])) (operands 0 (77 ∷ [])) (beside [] [] []))

-- Const -2^40-1: 0
abbrev pub b13 : Row
b13 =
    stays (pic ((op Const 0 (1 ∷ []) [] (absent ∷ 4294967039 ∷ []) ∷ op2 Alloc 2 1 ∷ op3 Cmp 3 1 1 ∷ op3 Cmp 4 1 3
    ∷ op3 Cmp 5 1 4 ∷ op3 Cmp 6 1 5 ∷ op3 Cmp 7 1 6 ∷ op3 Cmp 8 1 7 ∷ op3 Cat 2 1 1 ∷ fork 0 1 2 ∷ [])
    ∷ (op2 Output 2 1 ∷ op0 Ret ∷ []) ∷ (op0 Ret ∷ []) ∷ []) (at (upto 13) []) (registers 9 (0 ∷ 0 ∷ 1
    ∷ replicate 6 0 ++ 77 ∷ [])) (operands 0 (77 ∷ [])) (beside [] [] [])) 32 8128 800 (done 0 9 0)

-- a constant written twice, outside the chain: 0
abbrev pub b14 : Row
b14 =
    stays (pic ((op2 Alloc 2 1 ∷ op3 Cmp 3 1 1 ∷ op3 Cmp 4 1 3 ∷ op3 Cmp 5 1 4 ∷ op3 Cmp 6 1 5 ∷ op3 Cmp 7 1 6
    ∷ op3 Cmp 8 1 7 ∷ op3 Cat 2 1 1 ∷ fork 0 1 2 ∷ []) ∷ (op2 Output 2 1 ∷ op0 Ret ∷ []) ∷ (const 1 8 ∷ const 1 8
    ∷ op0 Ret ∷ []) ∷ []) (at (upto 14) []) (registers 9 (0 ∷ 0 ∷ 1 ∷ replicate 6 0 ++ 77 ∷ [])) (operands 0 (77
    ∷ [])) (beside [] [] [])) 32 8128 800 (done 0 9 0)

-- Suspend before all: 1
abbrev pub b16 : Row
b16 =
    moves (pic ((op0 Suspend ∷ const 1 8 ∷ op2 Alloc 2 1 ∷ op3 Cmp 3 1 1 ∷ op3 Cmp 4 1 3 ∷ op3 Cmp 5 1 4
    ∷ op3 Cmp 6 1 5 ∷ op3 Cmp 7 1 6 ∷ op3 Cmp 8 1 7 ∷ op3 Cat 2 1 1 ∷ fork 0 1 2 ∷ []) ∷ (op2 Output 2 1 ∷ op0 Ret
    ∷ []) ∷ (op0 Ret ∷ []) ∷ []) (at (upto 14) []) (registers 9 (0 ∷ 0 ∷ 1 ∷ replicate 6 0 ++ 77 ∷ 77 ∷ 77 ∷ 77 ∷ []))
    (operands 0 (77 ∷ [])) (beside [] [] [])) 38 8152 800 (done 1 12 0) ((1 ∷ 0 ∷ 1 ∷ 8 ∷ 12 ∷ 0 ∷ []) ∷ [])
    (pic ((op0 Suspend ∷ const 1 8 ∷ fork 0 1 2 ∷ []) ∷ (op2 Alloc 9 1 ∷ op3 Cmp 10 1 1 ∷ op3 Cmp 11 1 10
    ∷ op3 Cmp 10 1 11 ∷ op3 Cmp 11 1 10 ∷ op3 Cmp 10 1 11 ∷ op3 Cmp 11 1 10 ∷ op3 Cat 9 1 1 ∷ op2 Output 9 1 ∷ op0 Ret
    ∷ []) ∷ (op0 Ret ∷ []) ∷ []) (at (0 ∷ 1 ∷ 10 ∷ range 2 8 ++ 11 ∷ 12 ∷ 13 ∷ []) []) (registers 12 (0 ∷ 0 ∷ 1
    ∷ replicate 6 0 ++ 1 ∷ 0 ∷ 0 ∷ 77 ∷ [])) (operands 0 (77 ∷ [])) (beside [] [] []))

-- Cat of form 1: 0
abbrev pub b18 : Row
b18 =
    stays (pic ((const 1 8 ∷ op2 Alloc 2 1 ∷ op3 Cmp 3 1 1 ∷ op3 Cmp 4 1 3 ∷ op3 Cmp 5 1 4 ∷ op3 Cmp 6 1 5
    ∷ op3 Cmp 7 1 6 ∷ op3 Cmp 8 1 7 ∷ op Cat 1 (2 ∷ 1 ∷ 1 ∷ []) [] [] ∷ fork 0 1 2 ∷ []) ∷ (op2 Output 2 1 ∷ op0 Ret
    ∷ []) ∷ (op0 Ret ∷ []) ∷ []) (at (upto 13) []) (registers 9 (0 ∷ 0 ∷ 1 ∷ replicate 6 0 ++ 77 ∷ [])) (operands 0
    (77 ∷ [])) (beside [] [] [])) 32 8128 800 (done 0 9 0)

-- a Cat list of 33: 1
abbrev pub b22 : Row
b22 =
    moves (pic ((const 1 8 ∷ op2 Alloc 2 1 ∷ op3 Cmp 3 1 1 ∷ op3 Cmp 4 1 3 ∷ op3 Cmp 5 1 4 ∷ op3 Cmp 6 1 5
    ∷ op3 Cmp 7 1 6 ∷ op3 Cmp 8 1 7 ∷ op Cat 0 (2 ∷ 1 ∷ 1 ∷ []) (0 ∷ 33 ∷ []) [] ∷ fork 0 1 2 ∷ []) ∷ (op2 Output 2 1
    ∷ op0 Ret ∷ []) ∷ (op0 Ret ∷ []) ∷ []) (at (upto 13) []) (registers 9 (0 ∷ 0 ∷ 1 ∷ replicate 6 0 ++ 77 ∷ 77 ∷ 77
    ∷ 77 ∷ [])) (operands 33 (2 ∷ 1 ∷ 2 ∷ 1 ∷ 2 ∷ 1 ∷ 2 ∷ 1 ∷ 2 ∷ 1 ∷ 2 ∷ 1 ∷ 2 ∷ 1 ∷ 2 ∷ 1 ∷ 2 ∷ 1 ∷ 2 ∷ 1 ∷ 2 ∷ 1
    ∷ 2 ∷ 1 ∷ 2 ∷ 1 ∷ 2 ∷ 1 ∷ 2 ∷ 1 ∷ 2 ∷ 1 ∷ 2 ∷ replicate 34 77)) (beside [] [] [])) 38 8152 800 (done 1 12 66) ((1
    ∷ 0 ∷ 1 ∷ 8 ∷ 12 ∷ 66 ∷ []) ∷ [])
    (pic ((const 1 8 ∷ fork 0 1 2 ∷ []) ∷ (op2 Alloc 9 1 ∷ op3 Cmp 10 1 1 ∷ op3 Cmp 11 1 10 ∷ op3 Cmp 10 1 11
    ∷ op3 Cmp 11 1 10 ∷ op3 Cmp 10 1 11 ∷ op3 Cmp 11 1 10 ∷ op Cat 0 (9 ∷ 1 ∷ 1 ∷ []) (33 ∷ 33 ∷ []) []
    ∷ op2 Output 9 1 ∷ op0 Ret ∷ []) ∷ (op0 Ret ∷ []) ∷ []) (at (0 ∷ 9 ∷ range 1 8 ++ 10 ∷ 11 ∷ 12 ∷ []) [])
    (registers 12 (0 ∷ 0 ∷ 1 ∷ replicate 6 0 ++ 1 ∷ 0 ∷ 0 ∷ 77 ∷ [])) (operands 66 (2 ∷ 1 ∷ 2 ∷ 1 ∷ 2 ∷ 1 ∷ 2 ∷ 1 ∷ 2
    ∷ 1 ∷ 2 ∷ 1 ∷ 2 ∷ 1 ∷ 2 ∷ 1 ∷ 2 ∷ 1 ∷ 2 ∷ 1 ∷ 2 ∷ 1 ∷ 2 ∷ 1 ∷ 2 ∷ 1 ∷ 2 ∷ 1 ∷ 2 ∷ 1 ∷ 2 ∷ 1 ∷ 2 ∷ 9 ∷ 1 ∷ 9 ∷ 1
    ∷ 9 ∷ 1 ∷ 9 ∷ 1 ∷ 9 ∷ 1 ∷ 9 ∷ 1 ∷ 9 ∷ 1 ∷ 9 ∷ 1 ∷ 9 ∷ 1 ∷ 9 ∷ 1 ∷ 9 ∷ 1 ∷ 9 ∷ 1 ∷ 9 ∷ 1 ∷ 9 ∷ 1 ∷ 9 ∷ 1 ∷ 9 ∷ 1
    ∷ 9 ∷ 77 ∷ [])) (beside [] [] []))

-- a Cat list of 33, all scalars: 1
abbrev pub b23 : Row
b23 =
    moves (pic ((const 1 8 ∷ op2 Alloc 2 1 ∷ op3 Cmp 3 1 1 ∷ op3 Cmp 4 1 3 ∷ op3 Cmp 5 1 4 ∷ op3 Cmp 6 1 5
    ∷ op3 Cmp 7 1 6 ∷ op3 Cmp 8 1 7 ∷ op Cat 0 (2 ∷ 1 ∷ 1 ∷ []) (0 ∷ 33 ∷ []) (65535 ∷ []) ∷ fork 0 1 2 ∷ [])
    ∷ (op2 Output 2 1 ∷ op0 Ret ∷ []) ∷ (op0 Ret ∷ []) ∷ []) (at (upto 13) []) (registers 9 (0 ∷ 0 ∷ 1
    ∷ replicate 6 0 ++ 77 ∷ 77 ∷ 77 ∷ 77 ∷ [])) (operands 33 (2 ∷ 1 ∷ 2 ∷ 1 ∷ 2 ∷ 1 ∷ 2 ∷ 1 ∷ 2 ∷ 1 ∷ 2 ∷ 1 ∷ 2 ∷ 1
    ∷ 2 ∷ 1 ∷ 2 ∷ 1 ∷ 2 ∷ 1 ∷ 2 ∷ 1 ∷ 2 ∷ 1 ∷ 2 ∷ 1 ∷ 2 ∷ 1 ∷ 2 ∷ 1 ∷ 2 ∷ 1 ∷ 2 ∷ replicate 34 77))
    (beside [] [] [])) 38 8152 800 (done 1 12 66) ((1 ∷ 0 ∷ 1 ∷ 8 ∷ 12 ∷ 66 ∷ []) ∷ [])
    (pic ((const 1 8 ∷ fork 0 1 2 ∷ []) ∷ (op2 Alloc 9 1 ∷ op3 Cmp 10 1 1 ∷ op3 Cmp 11 1 10 ∷ op3 Cmp 10 1 11
    ∷ op3 Cmp 11 1 10 ∷ op3 Cmp 10 1 11 ∷ op3 Cmp 11 1 10 ∷ op Cat 0 (9 ∷ 1 ∷ 1 ∷ []) (33 ∷ 33 ∷ []) (65535 ∷ [])
    ∷ op2 Output 9 1 ∷ op0 Ret ∷ []) ∷ (op0 Ret ∷ []) ∷ []) (at (0 ∷ 9 ∷ range 1 8 ++ 10 ∷ 11 ∷ 12 ∷ []) [])
    (registers 12 (0 ∷ 0 ∷ 1 ∷ replicate 6 0 ++ 1 ∷ 0 ∷ 0 ∷ 77 ∷ [])) (operands 66 (2 ∷ 1 ∷ 2 ∷ 1 ∷ 2 ∷ 1 ∷ 2 ∷ 1 ∷ 2
    ∷ 1 ∷ 2 ∷ 1 ∷ 2 ∷ 1 ∷ 2 ∷ 1 ∷ 2 ∷ 1 ∷ 2 ∷ 1 ∷ 2 ∷ 1 ∷ 2 ∷ 1 ∷ 2 ∷ 1 ∷ 2 ∷ 1 ∷ 2 ∷ 1 ∷ 2 ∷ 1 ∷ 2 ∷ 9 ∷ 1 ∷ 9 ∷ 1
    ∷ 9 ∷ 1 ∷ 9 ∷ 1 ∷ 9 ∷ 1 ∷ 9 ∷ 1 ∷ 9 ∷ 1 ∷ 9 ∷ 1 ∷ 9 ∷ 1 ∷ 9 ∷ 1 ∷ 9 ∷ 1 ∷ 9 ∷ 1 ∷ 9 ∷ 1 ∷ 9 ∷ 1 ∷ 9 ∷ 1 ∷ 9 ∷ 1
    ∷ 9 ∷ 77 ∷ [])) (beside [] [] []))

-- scalars 65,536: 204
abbrev pub b25 : Row
b25 =
    stays (pic ((const 1 8 ∷ op2 Alloc 2 1 ∷ op3 Cmp 3 1 1 ∷ op3 Cmp 4 1 3 ∷ op3 Cmp 5 1 4 ∷ op3 Cmp 6 1 5
    ∷ op3 Cmp 7 1 6 ∷ op3 Cmp 8 1 7 ∷ op Cat 0 (2 ∷ 1 ∷ 1 ∷ []) (0 ∷ 33 ∷ []) (65536 ∷ []) ∷ fork 0 1 2 ∷ [])
    ∷ (op2 Output 2 1 ∷ op0 Ret ∷ []) ∷ (op0 Ret ∷ []) ∷ []) (at (upto 13) []) (registers 9 (0 ∷ 0 ∷ 1
    ∷ replicate 6 0 ++ 77 ∷ [])) (operands 33 (2 ∷ 1 ∷ 2 ∷ 1 ∷ 2 ∷ 1 ∷ 2 ∷ 1 ∷ 2 ∷ 1 ∷ 2 ∷ 1 ∷ 2 ∷ 1 ∷ 2 ∷ 1 ∷ 2 ∷ 1
    ∷ 2 ∷ 1 ∷ 2 ∷ 1 ∷ 2 ∷ 1 ∷ 2 ∷ 1 ∷ 2 ∷ 1 ∷ 2 ∷ 1 ∷ 2 ∷ 1 ∷ 2 ∷ 77 ∷ [])) (beside [] [] [])) 32 8128 800 (refused 4)

-- a chain of 2 blocks: 1
abbrev pub b29 : Row
b29 =
    moves (pic ((const 1 8 ∷ op2 Alloc 2 1 ∷ op3 Cmp 3 1 1 ∷ op3 Cmp 4 1 3 ∷ op3 Cmp 5 1 4 ∷ op3 Cmp 6 1 5
    ∷ op3 Cmp 7 1 6 ∷ op3 Cmp 8 1 7 ∷ op3 Cat 2 1 1 ∷ br 3 ∷ []) ∷ (op2 Output 2 1 ∷ op0 Ret ∷ []) ∷ (op0 Ret ∷ [])
    ∷ (op0 Cover ∷ fork 0 1 2 ∷ []) ∷ []) (at (upto 15) []) (registers 9 (0 ∷ 0 ∷ 1 ∷ replicate 6 0 ++ 77 ∷ 77 ∷ 77
    ∷ 77 ∷ [])) (operands 0 (77 ∷ [])) (beside [] [] [])) 42 8168 800 (done 1 12 0) ((1 ∷ 0 ∷ 1 ∷ 8 ∷ 12 ∷ 0 ∷ [])
    ∷ [])
    (pic ((const 1 8 ∷ br 3 ∷ []) ∷ (op2 Alloc 9 1 ∷ op3 Cmp 10 1 1 ∷ op3 Cmp 11 1 10 ∷ op3 Cmp 10 1 11
    ∷ op3 Cmp 11 1 10 ∷ op3 Cmp 10 1 11 ∷ op3 Cmp 11 1 10 ∷ op3 Cat 9 1 1 ∷ op2 Output 9 1 ∷ op0 Ret ∷ []) ∷ (op0 Ret
    ∷ []) ∷ (op0 Cover ∷ fork 0 1 2 ∷ []) ∷ []) (at (0 ∷ 9 ∷ range 1 8 ++ range 10 5) []) (registers 12 (0 ∷ 0 ∷ 1
    ∷ replicate 6 0 ++ 1 ∷ 0 ∷ 0 ∷ 77 ∷ [])) (operands 0 (77 ∷ [])) (beside [] [] []))

-- a chain of 6 blocks: 1
abbrev pub b33 : Row
b33 =
    moves (pic ((const 1 8 ∷ op2 Alloc 2 1 ∷ op3 Cmp 3 1 1 ∷ op3 Cmp 4 1 3 ∷ op3 Cmp 5 1 4 ∷ op3 Cmp 6 1 5
    ∷ op3 Cmp 7 1 6 ∷ op3 Cmp 8 1 7 ∷ op3 Cat 2 1 1 ∷ br 3 ∷ []) ∷ (op2 Output 2 1 ∷ op0 Ret ∷ []) ∷ (op0 Ret ∷ [])
    ∷ (op0 Cover ∷ br 4 ∷ []) ∷ (op0 Cover ∷ br 5 ∷ []) ∷ (op0 Cover ∷ br 6 ∷ []) ∷ (op0 Cover ∷ br 7 ∷ [])
    ∷ (op0 Cover ∷ fork 0 1 2 ∷ []) ∷ []) (at (upto 23) []) (registers 9 (0 ∷ 0 ∷ 1 ∷ replicate 6 0 ++ 77 ∷ 77 ∷ 77
    ∷ 77 ∷ [])) (operands 0 (77 ∷ [])) (beside [] [] [])) 58 8232 800 (done 1 12 0) ((1 ∷ 0 ∷ 1 ∷ 8 ∷ 12 ∷ 0 ∷ [])
    ∷ [])
    (pic ((const 1 8 ∷ br 3 ∷ []) ∷ (op2 Alloc 9 1 ∷ op3 Cmp 10 1 1 ∷ op3 Cmp 11 1 10 ∷ op3 Cmp 10 1 11
    ∷ op3 Cmp 11 1 10 ∷ op3 Cmp 10 1 11 ∷ op3 Cmp 11 1 10 ∷ op3 Cat 9 1 1 ∷ op2 Output 9 1 ∷ op0 Ret ∷ []) ∷ (op0 Ret
    ∷ []) ∷ (op0 Cover ∷ br 4 ∷ []) ∷ (op0 Cover ∷ br 5 ∷ []) ∷ (op0 Cover ∷ br 6 ∷ []) ∷ (op0 Cover ∷ br 7 ∷ [])
    ∷ (op0 Cover ∷ fork 0 1 2 ∷ []) ∷ []) (at (0 ∷ 9 ∷ range 1 8 ++ range 10 13) []) (registers 12 (0 ∷ 0 ∷ 1
    ∷ replicate 6 0 ++ 1 ∷ 0 ∷ 0 ∷ 77 ∷ [])) (operands 0 (77 ∷ [])) (beside [] [] []))

-- a chain of 7 blocks: 0
abbrev pub b34 : Row
b34 =
    stays (pic ((const 1 8 ∷ op2 Alloc 2 1 ∷ op3 Cmp 3 1 1 ∷ op3 Cmp 4 1 3 ∷ op3 Cmp 5 1 4 ∷ op3 Cmp 6 1 5
    ∷ op3 Cmp 7 1 6 ∷ op3 Cmp 8 1 7 ∷ op3 Cat 2 1 1 ∷ br 3 ∷ []) ∷ (op2 Output 2 1 ∷ op0 Ret ∷ []) ∷ (op0 Ret ∷ [])
    ∷ (op0 Cover ∷ br 4 ∷ []) ∷ (op0 Cover ∷ br 5 ∷ []) ∷ (op0 Cover ∷ br 6 ∷ []) ∷ (op0 Cover ∷ br 7 ∷ [])
    ∷ (op0 Cover ∷ br 8 ∷ []) ∷ (op0 Cover ∷ fork 0 1 2 ∷ []) ∷ []) (at (upto 25) []) (registers 9 (0 ∷ 0 ∷ 1
    ∷ replicate 6 0 ++ 77 ∷ [])) (operands 0 (77 ∷ [])) (beside [] [] [])) 56 8224 800 (done 0 9 0)

-- 9 rounds of three to be had: 8
abbrev pub b45 : Row
b45 =
    moves (pic ((op3 Cmp 3 1 1 ∷ op3 Cmp 4 1 1 ∷ op3 Cmp 5 1 1 ∷ fork 0 1 10 ∷ []) ∷ (fork 0 2 11 ∷ []) ∷ (fork 0 3 12
    ∷ []) ∷ (fork 0 4 13 ∷ []) ∷ (fork 0 5 14 ∷ []) ∷ (fork 0 6 15 ∷ []) ∷ (fork 0 7 16 ∷ []) ∷ (fork 0 8 17 ∷ [])
    ∷ (fork 0 9 18 ∷ []) ∷ (op0 Ret ∷ []) ∷ (op0 Ret ∷ []) ∷ (op0 Ret ∷ []) ∷ (op0 Ret ∷ []) ∷ (op0 Ret ∷ [])
    ∷ (op0 Ret ∷ []) ∷ (op0 Ret ∷ []) ∷ (op0 Ret ∷ []) ∷ (op0 Ret ∷ []) ∷ (op0 Ret ∷ []) ∷ (op3 Cat 1 1 1 ∷ []) ∷ [])
    (at (upto 23) []) (registers 6 (0 ∷ 0 ∷ 1 ∷ 0 ∷ 0 ∷ 0 ∷ replicate 9 77)) (operands 0 (77 ∷ [])) (beside [] []
    (range 1 9))) 110 8440 800 (done 8 14 0) ((1 ∷ 0 ∷ 1 ∷ 3 ∷ 7 ∷ 0 ∷ []) ∷ (2 ∷ 1 ∷ 2 ∷ 3 ∷ 8 ∷ 0 ∷ []) ∷ (3 ∷ 2 ∷ 3
    ∷ 3 ∷ 9 ∷ 0 ∷ []) ∷ (4 ∷ 3 ∷ 4 ∷ 3 ∷ 10 ∷ 0 ∷ []) ∷ (5 ∷ 4 ∷ 5 ∷ 3 ∷ 11 ∷ 0 ∷ []) ∷ (6 ∷ 5 ∷ 6 ∷ 3 ∷ 12 ∷ 0 ∷ [])
    ∷ (7 ∷ 6 ∷ 7 ∷ 3 ∷ 13 ∷ 0 ∷ []) ∷ (8 ∷ 7 ∷ 8 ∷ 3 ∷ 14 ∷ 0 ∷ []) ∷ [])
    (pic ((fork 0 1 10 ∷ []) ∷ (fork 0 2 11 ∷ []) ∷ (fork 0 3 12 ∷ []) ∷ (fork 0 4 13 ∷ []) ∷ (fork 0 5 14 ∷ [])
    ∷ (fork 0 6 15 ∷ []) ∷ (fork 0 7 16 ∷ []) ∷ (fork 0 8 17 ∷ []) ∷ (op3 Cmp 13 1 1 ∷ op3 Cmp 13 1 1 ∷ op3 Cmp 13 1 1
    ∷ fork 0 9 18 ∷ []) ∷ (op0 Ret ∷ []) ∷ (op0 Ret ∷ []) ∷ (op0 Ret ∷ []) ∷ (op0 Ret ∷ []) ∷ (op0 Ret ∷ [])
    ∷ (op0 Ret ∷ []) ∷ (op0 Ret ∷ []) ∷ (op0 Ret ∷ []) ∷ (op0 Ret ∷ []) ∷ (op0 Ret ∷ []) ∷ (op3 Cat 1 1 1 ∷ []) ∷ [])
    (at (range 3 8 ++ 0 ∷ 1 ∷ 2 ∷ range 11 12) []) (registers 14 (0 ∷ 0 ∷ 1 ∷ replicate 11 0 ++ 77 ∷ [])) (operands 0
    (77 ∷ [])) (beside [] [] (range 1 9)))

-- eight Cmps and a Cat that stays: 1
abbrev pub b46 : Row
b46 =
    moves (pic ((const 1 8 ∷ op3 Cmp 9 0 0 ∷ op3 Cmp 3 1 1 ∷ op3 Cmp 4 1 3 ∷ op3 Cmp 5 1 4 ∷ op3 Cmp 6 1 5
    ∷ op3 Cmp 7 1 6 ∷ op3 Cmp 8 1 7 ∷ op3 Cmp 10 0 0 ∷ op3 Cat 2 1 1 ∷ fork 0 1 2 ∷ []) ∷ (op2 Output 2 1 ∷ op0 Ret
    ∷ []) ∷ (op0 Ret ∷ []) ∷ []) (at (upto 14) []) (registers 11 (0 ∷ 0 ∷ 1 ∷ replicate 8 0 ++ 77 ∷ 77 ∷ 77 ∷ []))
    (operands 0 (77 ∷ [])) (beside [] [] [])) 40 8160 800 (done 1 13 0) ((1 ∷ 0 ∷ 1 ∷ 8 ∷ 13 ∷ 0 ∷ []) ∷ [])
    (pic ((const 1 8 ∷ op3 Cat 2 1 1 ∷ fork 0 1 2 ∷ []) ∷ (op3 Cmp 11 0 0 ∷ op3 Cmp 11 1 1 ∷ op3 Cmp 12 1 11
    ∷ op3 Cmp 11 1 12 ∷ op3 Cmp 12 1 11 ∷ op3 Cmp 11 1 12 ∷ op3 Cmp 12 1 11 ∷ op3 Cmp 12 0 0 ∷ op2 Output 2 1
    ∷ op0 Ret ∷ []) ∷ (op0 Ret ∷ []) ∷ []) (at (0 ∷ 9 ∷ 10 ∷ range 1 8 ++ 11 ∷ 12 ∷ 13 ∷ []) []) (registers 13 (0 ∷ 0
    ∷ 1 ∷ replicate 10 0 ++ 77 ∷ [])) (operands 0 (77 ∷ [])) (beside [] [] []))

-- the Cat in the chain's second block: 0
abbrev pub b47 : Row
b47 =
    stays (pic ((const 1 8 ∷ op3 Cmp 9 0 0 ∷ op3 Cmp 3 1 1 ∷ op3 Cmp 4 1 3 ∷ op3 Cmp 5 1 4 ∷ op3 Cmp 6 1 5
    ∷ op3 Cmp 7 1 6 ∷ op3 Cmp 8 1 7 ∷ op3 Cmp 10 0 0 ∷ br 3 ∷ []) ∷ (op2 Output 2 1 ∷ op0 Ret ∷ []) ∷ (op0 Ret ∷ [])
    ∷ (op3 Cat 2 1 1 ∷ fork 0 1 2 ∷ []) ∷ []) (at (upto 15) []) (registers 11 (0 ∷ 0 ∷ 1 ∷ replicate 8 0 ++ 77 ∷ []))
    (operands 0 (77 ∷ [])) (beside [] [] [])) 40 8160 800 (done 0 11 0)

-- the Cat in the other branch: 0
abbrev pub b48 : Row
b48 =
    stays (pic ((const 1 8 ∷ op3 Cmp 9 0 0 ∷ op3 Cmp 3 1 1 ∷ op3 Cmp 4 1 3 ∷ op3 Cmp 5 1 4 ∷ op3 Cmp 6 1 5
    ∷ op3 Cmp 7 1 6 ∷ op3 Cmp 8 1 7 ∷ op3 Cmp 10 0 0 ∷ fork 0 1 2 ∷ []) ∷ (op2 Output 2 1 ∷ op0 Ret ∷ [])
    ∷ (op3 Cat 2 1 1 ∷ op0 Ret ∷ []) ∷ []) (at (upto 14) []) (registers 11 (0 ∷ 0 ∷ 1 ∷ replicate 8 0 ++ 77 ∷ []))
    (operands 0 (77 ∷ [])) (beside [] [] [])) 36 8144 800 (done 0 11 0)

-- a Cat of form 1 in x, one of form 0 in the other branch: 0
abbrev pub b49 : Row
b49 =
    stays (pic ((const 1 8 ∷ op3 Cmp 9 0 0 ∷ op3 Cmp 3 1 1 ∷ op3 Cmp 4 1 3 ∷ op3 Cmp 5 1 4 ∷ op3 Cmp 6 1 5
    ∷ op3 Cmp 7 1 6 ∷ op3 Cmp 8 1 7 ∷ op3 Cmp 10 0 0 ∷ op Cat 1 (2 ∷ 1 ∷ 1 ∷ []) [] [] ∷ fork 0 1 2 ∷ [])
    ∷ (op2 Output 2 1 ∷ op0 Ret ∷ []) ∷ (op3 Cat 2 1 1 ∷ op0 Ret ∷ []) ∷ []) (at (upto 15) []) (registers 11 (0 ∷ 0
    ∷ 1 ∷ replicate 8 0 ++ 77 ∷ [])) (operands 0 (77 ∷ [])) (beside [] [] [])) 36 8144 800 (done 0 11 0)

-- three with replay, a Cat elsewhere: 1
abbrev pub b50 : Row
b50 =
    moves (pic ((const 1 8 ∷ op3 Cmp 3 1 1 ∷ op3 Cmp 4 1 1 ∷ op3 Cmp 5 1 1 ∷ fork 0 1 2 ∷ []) ∷ (op2 Output 5 5 ∷ [])
    ∷ (op3 Cat 2 1 1 ∷ []) ∷ []) (at (upto 7) []) (registers 11 (0 ∷ 0 ∷ 1 ∷ replicate 8 0 ++ 77 ∷ 77 ∷ []))
    (operands 1 (1 ∷ 77 ∷ [])) (beside [] [] (1 ∷ []))) 38 8152 800 (done 1 12 1) ((1 ∷ 0 ∷ 1 ∷ 3 ∷ 12 ∷ 1 ∷ []) ∷ [])
    (pic ((const 1 8 ∷ fork 0 1 2 ∷ []) ∷ (op3 Cmp 11 1 1 ∷ op3 Cmp 11 1 1 ∷ op3 Cmp 11 1 1 ∷ op2 Output 11 11 ∷ [])
    ∷ (op3 Cat 2 1 1 ∷ []) ∷ []) (at (0 ∷ 4 ∷ 1 ∷ 2 ∷ 3 ∷ 5 ∷ 6 ∷ []) []) (registers 12 (0 ∷ 0 ∷ 1
    ∷ replicate 9 0 ++ 77 ∷ [])) (operands 1 (1 ∷ 77 ∷ [])) (beside [] [] (1 ∷ [])))

-- three with replay, a Cat of form 1 elsewhere: 0
abbrev pub b51 : Row
b51 =
    stays (pic ((const 1 8 ∷ op3 Cmp 3 1 1 ∷ op3 Cmp 4 1 1 ∷ op3 Cmp 5 1 1 ∷ fork 0 1 2 ∷ []) ∷ (op2 Output 5 5 ∷ [])
    ∷ (op Cat 1 (2 ∷ 1 ∷ 1 ∷ []) [] [] ∷ []) ∷ []) (at (upto 7) []) (registers 11 (0 ∷ 0 ∷ 1 ∷ replicate 8 0 ++ 77
    ∷ [])) (operands 1 (1 ∷ 77 ∷ [])) (beside [] [] (1 ∷ []))) 36 8144 800 (done 0 11 1)

-- three with replay, no Cat at all: 0
abbrev pub b52 : Row
b52 =
    stays (pic ((const 1 8 ∷ op3 Cmp 3 1 1 ∷ op3 Cmp 4 1 1 ∷ op3 Cmp 5 1 1 ∷ fork 0 1 2 ∷ []) ∷ (op2 Output 5 5 ∷ [])
    ∷ (op0 Ret ∷ []) ∷ []) (at (upto 7) []) (registers 11 (0 ∷ 0 ∷ 1 ∷ replicate 8 0 ++ 77 ∷ [])) (operands 1 (1 ∷ 77
    ∷ [])) (beside [] [] (1 ∷ []))) 36 8144 800 (done 0 11 1)

-- no Cat, and a type of 8: 209
abbrev pub b53 : Row
b53 =
    stays (pic ((const 1 8 ∷ op3 Cmp 3 1 1 ∷ op3 Cmp 4 1 1 ∷ op3 Cmp 5 1 1 ∷ fork 0 1 2 ∷ []) ∷ (op2 Output 5 5 ∷ [])
    ∷ (op0 Ret ∷ []) ∷ []) (at (upto 7) []) (registers 11 (0 ∷ 0 ∷ 1 ∷ 0 ∷ 0 ∷ 8 ∷ replicate 5 0 ++ 77 ∷ []))
    (operands 1 (1 ∷ 77 ∷ [])) (beside [] [] (1 ∷ []))) 36 8144 800 (refused 9)

-- no blocks, and a type of 8: 209
abbrev pub b54 : Row
b54 =
    stays (pic [] (at [] []) (registers 9 (0 ∷ 0 ∷ 1 ∷ 0 ∷ 0 ∷ 8 ∷ 0 ∷ 0 ∷ 0 ∷ 77 ∷ [])) (operands 0 (77 ∷ []))
    (beside [] [] [])) 20 8080 800 (refused 9)

-- block 0 is no target, though nothing else leads to it: 0
abbrev pub b55 : Row
b55 =
    stays (pic ((op2 Output 2 1 ∷ op0 Ret ∷ []) ∷ (op0 Ret ∷ []) ∷ (const 1 8 ∷ op2 Alloc 2 1 ∷ op3 Cmp 3 1 1
    ∷ op3 Cmp 4 1 3 ∷ op3 Cmp 5 1 4 ∷ op3 Cmp 6 1 5 ∷ op3 Cmp 7 1 6 ∷ op3 Cmp 8 1 7 ∷ op3 Cat 2 1 1 ∷ fork 0 0 1 ∷ [])
    ∷ []) (at (upto 13) []) (registers 9 (0 ∷ 0 ∷ 1 ∷ replicate 6 0 ++ 77 ∷ [])) (operands 0 (77 ∷ []))
    (beside [] [] [])) 32 8128 800 (done 0 9 0)

-- no chain goes on in block 0, though nothing else leads to it: 0
abbrev pub b56 : Row
b56 =
    stays (pic ((op0 Cover ∷ fork 0 1 2 ∷ []) ∷ (op2 Output 2 1 ∷ op0 Ret ∷ []) ∷ (op0 Ret ∷ []) ∷ (const 1 8
    ∷ op2 Alloc 2 1 ∷ op3 Cmp 3 1 1 ∷ op3 Cmp 4 1 3 ∷ op3 Cmp 5 1 4 ∷ op3 Cmp 6 1 5 ∷ op3 Cmp 7 1 6 ∷ op3 Cmp 8 1 7
    ∷ op3 Cat 2 1 1 ∷ op0 Br ∷ []) ∷ []) (at (upto 15) []) (registers 9 (0 ∷ 0 ∷ 1 ∷ replicate 6 0 ++ 77 ∷ []))
    (operands 0 (77 ∷ [])) (beside [] [] [])) 36 8144 800 (done 0 9 0)

-- block 0 is t, and f the target: 1
abbrev pub b57 : Row
b57 =
    moves (pic ((op0 Ret ∷ []) ∷ (const 1 8 ∷ op2 Alloc 2 1 ∷ op3 Cmp 3 1 1 ∷ op3 Cmp 4 1 3 ∷ op3 Cmp 5 1 4
    ∷ op3 Cmp 6 1 5 ∷ op3 Cmp 7 1 6 ∷ op3 Cmp 8 1 7 ∷ op3 Cat 2 1 1 ∷ fork 0 0 2 ∷ []) ∷ (op2 Output 2 1 ∷ op0 Ret
    ∷ []) ∷ []) (at (upto 13) []) (registers 9 (0 ∷ 0 ∷ 1 ∷ replicate 6 0 ++ 77 ∷ 77 ∷ 77 ∷ 77 ∷ [])) (operands 0 (77
    ∷ [])) (beside [] [] [])) 38 8152 800 (done 1 12 0) ((1 ∷ 1 ∷ 2 ∷ 8 ∷ 12 ∷ 0 ∷ []) ∷ [])
    (pic ((op0 Ret ∷ []) ∷ (const 1 8 ∷ fork 0 0 2 ∷ []) ∷ (op2 Alloc 9 1 ∷ op3 Cmp 10 1 1 ∷ op3 Cmp 11 1 10
    ∷ op3 Cmp 10 1 11 ∷ op3 Cmp 11 1 10 ∷ op3 Cmp 10 1 11 ∷ op3 Cmp 11 1 10 ∷ op3 Cat 9 1 1 ∷ op2 Output 9 1 ∷ op0 Ret
    ∷ []) ∷ []) (at (0 ∷ 1 ∷ 10 ∷ range 2 8 ++ 11 ∷ 12 ∷ []) []) (registers 12 (0 ∷ 0 ∷ 1 ∷ replicate 6 0 ++ 1 ∷ 0 ∷ 0
    ∷ 77 ∷ [])) (operands 0 (77 ∷ [])) (beside [] [] []))

-- block 0 comes back to itself: 0
abbrev pub b58 : Row
b58 =
    stays (pic ((const 1 8 ∷ op2 Alloc 2 1 ∷ op3 Cmp 3 1 1 ∷ op3 Cmp 4 1 3 ∷ op3 Cmp 5 1 4 ∷ op3 Cmp 6 1 5
    ∷ op3 Cmp 7 1 6 ∷ op3 Cmp 8 1 7 ∷ op3 Cat 2 1 1 ∷ op0 Br ∷ []) ∷ (op2 Output 2 1 ∷ op0 Ret ∷ []) ∷ (op0 Ret ∷ [])
    ∷ []) (at (upto 13) []) (registers 9 (0 ∷ 0 ∷ 1 ∷ replicate 6 0 ++ 77 ∷ [])) (operands 0 (77 ∷ []))
    (beside [] [] [])) 32 8128 800 (done 0 9 0)

-- block 0 is x, and its target leads to it: 1
abbrev pub b59 : Row
b59 =
    moves (pic ((const 1 8 ∷ op2 Alloc 2 1 ∷ op3 Cmp 3 1 1 ∷ op3 Cmp 4 1 3 ∷ op3 Cmp 5 1 4 ∷ op3 Cmp 6 1 5
    ∷ op3 Cmp 7 1 6 ∷ op3 Cmp 8 1 7 ∷ op3 Cat 2 1 1 ∷ fork 0 1 2 ∷ []) ∷ (op2 Output 2 1 ∷ op0 Br ∷ []) ∷ (op0 Ret
    ∷ []) ∷ []) (at (upto 13) []) (registers 9 (0 ∷ 0 ∷ 1 ∷ replicate 6 0 ++ 77 ∷ 77 ∷ 77 ∷ 77 ∷ [])) (operands 0 (77
    ∷ [])) (beside [] [] [])) 38 8152 800 (done 1 12 0) ((1 ∷ 0 ∷ 1 ∷ 8 ∷ 12 ∷ 0 ∷ []) ∷ [])
    (pic ((const 1 8 ∷ fork 0 1 2 ∷ []) ∷ (op2 Alloc 9 1 ∷ op3 Cmp 10 1 1 ∷ op3 Cmp 11 1 10 ∷ op3 Cmp 10 1 11
    ∷ op3 Cmp 11 1 10 ∷ op3 Cmp 10 1 11 ∷ op3 Cmp 11 1 10 ∷ op3 Cat 9 1 1 ∷ op2 Output 9 1 ∷ op0 Br ∷ []) ∷ (op0 Ret
    ∷ []) ∷ []) (at (0 ∷ 9 ∷ range 1 8 ++ 10 ∷ 11 ∷ 12 ∷ []) []) (registers 12 (0 ∷ 0 ∷ 1 ∷ replicate 6 0 ++ 1 ∷ 0 ∷ 0
    ∷ 77 ∷ [])) (operands 0 (77 ∷ [])) (beside [] [] []))

-- block 0 is x and the other branch: 1
abbrev pub b60 : Row
b60 =
    moves (pic ((const 1 8 ∷ op2 Alloc 2 1 ∷ op3 Cmp 3 1 1 ∷ op3 Cmp 4 1 3 ∷ op3 Cmp 5 1 4 ∷ op3 Cmp 6 1 5
    ∷ op3 Cmp 7 1 6 ∷ op3 Cmp 8 1 7 ∷ op3 Cat 2 1 1 ∷ op CondBr 0 (0 ∷ []) [] (1 ∷ []) ∷ []) ∷ (op2 Output 2 1
    ∷ op0 Ret ∷ []) ∷ (op0 Ret ∷ []) ∷ []) (at (upto 13) []) (registers 9 (0 ∷ 0 ∷ 1 ∷ replicate 6 0 ++ 77 ∷ 77 ∷ 77
    ∷ 77 ∷ [])) (operands 0 (77 ∷ [])) (beside [] [] [])) 38 8152 800 (done 1 12 0) ((1 ∷ 0 ∷ 1 ∷ 8 ∷ 12 ∷ 0 ∷ [])
    ∷ [])
    (pic ((const 1 8 ∷ op CondBr 0 (0 ∷ []) [] (1 ∷ []) ∷ []) ∷ (op2 Alloc 9 1 ∷ op3 Cmp 10 1 1 ∷ op3 Cmp 11 1 10
    ∷ op3 Cmp 10 1 11 ∷ op3 Cmp 11 1 10 ∷ op3 Cmp 10 1 11 ∷ op3 Cmp 11 1 10 ∷ op3 Cat 9 1 1 ∷ op2 Output 9 1 ∷ op0 Ret
    ∷ []) ∷ (op0 Ret ∷ []) ∷ []) (at (0 ∷ 9 ∷ range 1 8 ++ 10 ∷ 11 ∷ 12 ∷ []) []) (registers 12 (0 ∷ 0 ∷ 1
    ∷ replicate 6 0 ++ 1 ∷ 0 ∷ 0 ∷ 77 ∷ [])) (operands 0 (77 ∷ [])) (beside [] [] []))

-- block 0 is x, and a block that nothing reaches leads to it: 1
abbrev pub b61 : Row
b61 =
    moves (pic ((const 1 8 ∷ op2 Alloc 2 1 ∷ op3 Cmp 3 1 1 ∷ op3 Cmp 4 1 3 ∷ op3 Cmp 5 1 4 ∷ op3 Cmp 6 1 5
    ∷ op3 Cmp 7 1 6 ∷ op3 Cmp 8 1 7 ∷ op3 Cat 2 1 1 ∷ fork 0 1 2 ∷ []) ∷ (op2 Output 2 1 ∷ op0 Ret ∷ []) ∷ (op0 Ret
    ∷ []) ∷ (op0 Br ∷ []) ∷ []) (at (upto 14) []) (registers 9 (0 ∷ 0 ∷ 1 ∷ replicate 6 0 ++ 77 ∷ 77 ∷ 77 ∷ 77 ∷ []))
    (operands 0 (77 ∷ [])) (beside [] [] [])) 42 8168 800 (done 1 12 0) ((1 ∷ 0 ∷ 1 ∷ 8 ∷ 12 ∷ 0 ∷ []) ∷ [])
    (pic ((const 1 8 ∷ fork 0 1 2 ∷ []) ∷ (op2 Alloc 9 1 ∷ op3 Cmp 10 1 1 ∷ op3 Cmp 11 1 10 ∷ op3 Cmp 10 1 11
    ∷ op3 Cmp 11 1 10 ∷ op3 Cmp 10 1 11 ∷ op3 Cmp 11 1 10 ∷ op3 Cat 9 1 1 ∷ op2 Output 9 1 ∷ op0 Ret ∷ []) ∷ (op0 Ret
    ∷ []) ∷ (op0 Br ∷ []) ∷ []) (at (0 ∷ 9 ∷ range 1 8 ++ 10 ∷ 11 ∷ 12 ∷ 13 ∷ []) []) (registers 12 (0 ∷ 0 ∷ 1
    ∷ replicate 6 0 ++ 1 ∷ 0 ∷ 0 ∷ 77 ∷ [])) (operands 0 (77 ∷ [])) (beside [] [] []))

-- the target before x: 1
abbrev pub b62 : Row
b62 =
    moves (pic ((br 2 ∷ []) ∷ (op2 Output 2 1 ∷ op0 Ret ∷ []) ∷ (const 1 8 ∷ op2 Alloc 2 1 ∷ op3 Cmp 3 1 1
    ∷ op3 Cmp 4 1 3 ∷ op3 Cmp 5 1 4 ∷ op3 Cmp 6 1 5 ∷ op3 Cmp 7 1 6 ∷ op3 Cmp 8 1 7 ∷ op3 Cat 2 1 1 ∷ fork 0 1 3 ∷ [])
    ∷ (op0 Ret ∷ []) ∷ []) (at (upto 14) []) (registers 9 (0 ∷ 0 ∷ 1 ∷ replicate 6 0 ++ 77 ∷ 77 ∷ 77 ∷ 77 ∷ []))
    (operands 0 (77 ∷ [])) (beside [] [] [])) 42 8168 800 (done 1 12 0) ((1 ∷ 2 ∷ 1 ∷ 8 ∷ 12 ∷ 0 ∷ []) ∷ [])
    (pic ((br 2 ∷ []) ∷ (op2 Alloc 9 1 ∷ op3 Cmp 10 1 1 ∷ op3 Cmp 11 1 10 ∷ op3 Cmp 10 1 11 ∷ op3 Cmp 11 1 10
    ∷ op3 Cmp 10 1 11 ∷ op3 Cmp 11 1 10 ∷ op3 Cat 9 1 1 ∷ op2 Output 9 1 ∷ op0 Ret ∷ []) ∷ (const 1 8 ∷ fork 0 1 3
    ∷ []) ∷ (op0 Ret ∷ []) ∷ []) (at (0 ∷ range 4 8 ++ 1 ∷ 2 ∷ 3 ∷ 12 ∷ 13 ∷ []) []) (registers 12 (0 ∷ 0 ∷ 1
    ∷ replicate 6 0 ++ 1 ∷ 0 ∷ 0 ∷ 77 ∷ [])) (operands 0 (77 ∷ [])) (beside [] [] []))

-- both branches before x: 1
abbrev pub b63 : Row
b63 =
    moves (pic ((op0 Ret ∷ []) ∷ (op2 Output 2 1 ∷ op0 Ret ∷ []) ∷ (const 1 8 ∷ op2 Alloc 2 1 ∷ op3 Cmp 3 1 1
    ∷ op3 Cmp 4 1 3 ∷ op3 Cmp 5 1 4 ∷ op3 Cmp 6 1 5 ∷ op3 Cmp 7 1 6 ∷ op3 Cmp 8 1 7 ∷ op3 Cat 2 1 1 ∷ op CondBr 0 (0
    ∷ []) [] (1 ∷ []) ∷ []) ∷ []) (at (upto 13) []) (registers 9 (0 ∷ 0 ∷ 1 ∷ replicate 6 0 ++ 77 ∷ 77 ∷ 77 ∷ 77
    ∷ [])) (operands 0 (77 ∷ [])) (beside [] [] [])) 38 8152 800 (done 1 12 0) ((1 ∷ 2 ∷ 1 ∷ 8 ∷ 12 ∷ 0 ∷ []) ∷ [])
    (pic ((op0 Ret ∷ []) ∷ (op2 Alloc 9 1 ∷ op3 Cmp 10 1 1 ∷ op3 Cmp 11 1 10 ∷ op3 Cmp 10 1 11 ∷ op3 Cmp 11 1 10
    ∷ op3 Cmp 10 1 11 ∷ op3 Cmp 11 1 10 ∷ op3 Cat 9 1 1 ∷ op2 Output 9 1 ∷ op0 Ret ∷ []) ∷ (const 1 8 ∷ op CondBr 0 (0
    ∷ []) [] (1 ∷ []) ∷ []) ∷ []) (at (0 ∷ range 4 8 ++ 1 ∷ 2 ∷ 3 ∷ 12 ∷ []) []) (registers 12 (0 ∷ 0 ∷ 1
    ∷ replicate 6 0 ++ 1 ∷ 0 ∷ 0 ∷ 77 ∷ [])) (operands 0 (77 ∷ [])) (beside [] [] []))

abbrev pub rows7 : List Row
rows7 =
    b2 ∷ b5 ∷ b6 ∷ b7 ∷ b8 ∷ b12 ∷ b13 ∷ b14 ∷ b16 ∷ b18 ∷ b22 ∷ b23 ∷ b25 ∷ b29 ∷ b33 ∷ b34 ∷ b45 ∷ b46 ∷ b47 ∷ b48
    ∷ b49 ∷ b50 ∷ b51 ∷ b52 ∷ b53 ∷ b54 ∷ b55 ∷ b56 ∷ b57 ∷ b58 ∷ b59 ∷ b60 ∷ b61 ∷ b62 ∷ b63 ∷ []
