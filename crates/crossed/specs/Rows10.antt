-- Pictures at the bounds of document 01, page 10: what the Rust makes of them, and tests/rust's judgement of refused ones. Printed by
-- `compare crossed` in tests/rust, and again by its compare.sh: not to be edited. Assumes nothing.
use Rattle.std.specs.Prelude.{List, [], ◌∷◌, ◌++◌, replicate}
use Rattle.words.specs.Lists.{range, upto}
use Rattle.model.specs.Kinds.{AddrOf, Alloc, CallNative, Cat, Cmp, Deref, DopeLen, Fill, Index, LayoutOf}
use Rattle.model.specs.Kinds.{Load, Move, Output, Ret, Select, Stmt, Store}
use Rattle.model.specs.Build.{op}
use Rattle.crossed.specs.Row.{Row, pic, at, registers, operands, beside, op0, op1, op2, op3, op4, fork, const, moves, stays, done}

-- a read of the pool, written behind it: 1
abbrev pub b161 : Row
b161 =
    moves (pic ((const 1 8 ∷ op2 Alloc 2 1 ∷ op AddrOf 4 (9 ∷ []) [] [] ∷ op Load 3 (8 ∷ 9 ∷ []) [] []
    ∷ op3 Fill 9 1 1 ∷ op3 Cat 2 1 1 ∷ fork 0 1 2 ∷ []) ∷ (op2 Output 2 1 ∷ op0 Ret ∷ []) ∷ (op0 Ret ∷ []) ∷ []) (at
    (upto 10) []) (registers 11 (0 ∷ 0 ∷ 1 ∷ replicate 8 0 ++ 77 ∷ 77 ∷ 77 ∷ [])) (operands 1 (1 ∷ 77 ∷ []))
    (beside [] [] (1 ∷ []))) 40 8160 800 (done 1 13 1) ((1 ∷ 0 ∷ 1 ∷ 3 ∷ 13 ∷ 1 ∷ []) ∷ [])
    (pic ((const 1 8 ∷ op AddrOf 4 (9 ∷ []) [] [] ∷ op3 Fill 9 1 1 ∷ fork 0 1 2 ∷ []) ∷ (op2 Alloc 11 1 ∷ op Load 3
    (12 ∷ 9 ∷ []) [] [] ∷ op3 Cat 11 1 1 ∷ op2 Output 11 1 ∷ op0 Ret ∷ []) ∷ (op0 Ret ∷ []) ∷ []) (at (0 ∷ 2 ∷ 4 ∷ 6
    ∷ 1 ∷ 3 ∷ 5 ∷ 7 ∷ 8 ∷ 9 ∷ []) []) (registers 13 (0 ∷ 0 ∷ 1 ∷ replicate 8 0 ++ 1 ∷ 0 ∷ 77 ∷ [])) (operands 1 (1
    ∷ 77 ∷ [])) (beside [] [] (1 ∷ [])))

-- a read of a package: 0
abbrev pub b163 : Row
b163 =
    stays (pic ((const 1 8 ∷ op2 Alloc 2 1 ∷ op AddrOf 3 (9 ∷ []) [] [] ∷ op Load 3 (8 ∷ 9 ∷ []) [] [] ∷ op3 Cat 2 1 1
    ∷ fork 0 1 2 ∷ []) ∷ (op2 Output 2 1 ∷ op0 Ret ∷ []) ∷ (op0 Ret ∷ []) ∷ []) (at (upto 9) []) (registers 11 (0 ∷ 0
    ∷ 1 ∷ replicate 8 0 ++ 77 ∷ [])) (operands 1 (1 ∷ 77 ∷ [])) (beside [] [] (1 ∷ []))) 36 8144 800 (done 0 11 1)

-- a read of the frame above: 0
abbrev pub b166 : Row
b166 =
    stays (pic ((const 1 8 ∷ op2 Alloc 2 1 ∷ op AddrOf 1 (9 ∷ []) [] [] ∷ op Load 3 (8 ∷ 9 ∷ []) [] [] ∷ op3 Cat 2 1 1
    ∷ fork 0 1 2 ∷ []) ∷ (op2 Output 2 1 ∷ op0 Ret ∷ []) ∷ (op0 Ret ∷ []) ∷ []) (at (upto 9) []) (registers 11 (0 ∷ 0
    ∷ 1 ∷ replicate 8 0 ++ 77 ∷ [])) (operands 1 (1 ∷ 77 ∷ [])) (beside [] [] (1 ∷ []))) 36 8144 800 (done 0 11 1)

-- a read of a shared place: 0
abbrev pub b167 : Row
b167 =
    stays (pic ((const 1 8 ∷ op2 Alloc 2 1 ∷ op AddrOf 5 (9 ∷ []) [] [] ∷ op Load 3 (8 ∷ 9 ∷ []) [] [] ∷ op3 Cat 2 1 1
    ∷ fork 0 1 2 ∷ []) ∷ (op2 Output 2 1 ∷ op0 Ret ∷ []) ∷ (op0 Ret ∷ []) ∷ []) (at (upto 9) []) (registers 11 (0 ∷ 0
    ∷ 1 ∷ replicate 8 0 ++ 77 ∷ [])) (operands 1 (1 ∷ 77 ∷ [])) (beside [] [] (1 ∷ []))) 36 8144 800 (done 0 11 1)

-- a read of a kept block: 1
abbrev pub b168 : Row
b168 =
    moves (pic ((const 1 8 ∷ op2 Alloc 2 1 ∷ op CallNative 2 (9 ∷ []) (0 ∷ 1 ∷ []) [] ∷ op Load 3 (8 ∷ 9 ∷ []) [] []
    ∷ op3 Cat 2 1 1 ∷ fork 0 1 2 ∷ []) ∷ (op2 Output 2 1 ∷ op0 Ret ∷ []) ∷ (op0 Ret ∷ []) ∷ []) (at (upto 9) [])
    (registers 11 (0 ∷ 0 ∷ 1 ∷ replicate 8 0 ++ 77 ∷ 77 ∷ 77 ∷ [])) (operands 1 (1 ∷ 77 ∷ [])) (beside [] [] (1
    ∷ []))) 40 8160 800 (done 1 13 1) ((1 ∷ 0 ∷ 1 ∷ 3 ∷ 13 ∷ 1 ∷ []) ∷ [])
    (pic ((const 1 8 ∷ op CallNative 2 (9 ∷ []) (0 ∷ 1 ∷ []) [] ∷ fork 0 1 2 ∷ []) ∷ (op2 Alloc 11 1 ∷ op Load 3 (12
    ∷ 9 ∷ []) [] [] ∷ op3 Cat 11 1 1 ∷ op2 Output 11 1 ∷ op0 Ret ∷ []) ∷ (op0 Ret ∷ []) ∷ []) (at (0 ∷ 2 ∷ 5 ∷ 1 ∷ 3
    ∷ 4 ∷ 6 ∷ 7 ∷ 8 ∷ []) []) (registers 13 (0 ∷ 0 ∷ 1 ∷ replicate 8 0 ++ 1 ∷ 0 ∷ 77 ∷ [])) (operands 1 (1 ∷ 77 ∷ []))
    (beside [] [] (1 ∷ [])))

-- a read of a kept block, written behind it: 0
abbrev pub b169 : Row
b169 =
    stays (pic ((const 1 8 ∷ op2 Alloc 2 1 ∷ op CallNative 2 (9 ∷ []) (0 ∷ 1 ∷ []) [] ∷ op Load 3 (8 ∷ 9 ∷ []) [] []
    ∷ op3 Fill 9 1 1 ∷ op3 Cat 2 1 1 ∷ fork 0 1 2 ∷ []) ∷ (op2 Output 2 1 ∷ op0 Ret ∷ []) ∷ (op0 Ret ∷ []) ∷ []) (at
    (upto 10) []) (registers 11 (0 ∷ 0 ∷ 1 ∷ replicate 8 0 ++ 77 ∷ [])) (operands 1 (1 ∷ 77 ∷ [])) (beside [] [] (1
    ∷ []))) 36 8144 800 (done 0 11 1)

-- a read of a kept block, another written behind it: 1
abbrev pub b170 : Row
b170 =
    moves (pic ((const 1 8 ∷ op2 Alloc 2 1 ∷ op CallNative 2 (9 ∷ []) (0 ∷ 1 ∷ []) [] ∷ op CallNative 2 (10 ∷ []) (0
    ∷ 1 ∷ []) [] ∷ op Load 3 (8 ∷ 9 ∷ []) [] [] ∷ op3 Fill 10 1 1 ∷ op3 Cat 2 1 1 ∷ fork 0 1 2 ∷ []) ∷ (op2 Output 2 1
    ∷ op0 Ret ∷ []) ∷ (op0 Ret ∷ []) ∷ []) (at (upto 11) []) (registers 11 (0 ∷ 0 ∷ 1 ∷ replicate 8 0 ++ 77 ∷ 77 ∷ 77
    ∷ [])) (operands 1 (1 ∷ 77 ∷ [])) (beside [] [] (1 ∷ []))) 40 8160 800 (done 1 13 1) ((1 ∷ 0 ∷ 1 ∷ 3 ∷ 13 ∷ 1
    ∷ []) ∷ [])
    (pic ((const 1 8 ∷ op CallNative 2 (9 ∷ []) (0 ∷ 1 ∷ []) [] ∷ op CallNative 2 (10 ∷ []) (0 ∷ 1 ∷ []) []
    ∷ op3 Fill 10 1 1 ∷ fork 0 1 2 ∷ []) ∷ (op2 Alloc 11 1 ∷ op Load 3 (12 ∷ 9 ∷ []) [] [] ∷ op3 Cat 11 1 1
    ∷ op2 Output 11 1 ∷ op0 Ret ∷ []) ∷ (op0 Ret ∷ []) ∷ []) (at (0 ∷ 2 ∷ 3 ∷ 5 ∷ 7 ∷ 1 ∷ 4 ∷ 6 ∷ 8 ∷ 9 ∷ 10 ∷ []) [])
    (registers 13 (0 ∷ 0 ∷ 1 ∷ replicate 8 0 ++ 1 ∷ 0 ∷ 77 ∷ [])) (operands 1 (1 ∷ 77 ∷ [])) (beside [] [] (1 ∷ [])))

-- a read of an image: 1
abbrev pub b171 : Row
b171 =
    moves (pic ((const 1 8 ∷ op2 Alloc 2 1 ∷ op CallNative 1 (9 ∷ []) (0 ∷ 1 ∷ []) [] ∷ op Load 3 (8 ∷ 9 ∷ []) [] []
    ∷ op3 Cat 2 1 1 ∷ fork 0 1 2 ∷ []) ∷ (op2 Output 2 1 ∷ op0 Ret ∷ []) ∷ (op0 Ret ∷ []) ∷ []) (at (upto 9) [])
    (registers 11 (0 ∷ 0 ∷ 1 ∷ replicate 8 0 ++ 77 ∷ 77 ∷ 77 ∷ 77 ∷ [])) (operands 1 (1 ∷ 77 ∷ [])) (beside [] [] (1
    ∷ []))) 42 8168 800 (done 1 14 1) ((1 ∷ 0 ∷ 1 ∷ 4 ∷ 14 ∷ 1 ∷ []) ∷ [])
    (pic ((const 1 8 ∷ fork 0 1 2 ∷ []) ∷ (op2 Alloc 11 1 ∷ op CallNative 1 (12 ∷ []) (0 ∷ 1 ∷ []) [] ∷ op Load 3 (13
    ∷ 12 ∷ []) [] [] ∷ op3 Cat 11 1 1 ∷ op2 Output 11 1 ∷ op0 Ret ∷ []) ∷ (op0 Ret ∷ []) ∷ []) (at (0 ∷ 5 ∷ 1 ∷ 2 ∷ 3
    ∷ 4 ∷ 6 ∷ 7 ∷ 8 ∷ []) []) (registers 14 (0 ∷ 0 ∷ 1 ∷ replicate 8 0 ++ 1 ∷ 0 ∷ 0 ∷ 77 ∷ [])) (operands 1 (1 ∷ 77
    ∷ [])) (beside [] [] (1 ∷ [])))

-- a read of a kept image: 1
abbrev pub b172 : Row
b172 =
    moves (pic ((const 1 8 ∷ op2 Alloc 2 1 ∷ op CallNative 1 (9 ∷ []) (0 ∷ 1 ∷ []) [] ∷ op3 Fill 9 1 1 ∷ op Load 3 (8
    ∷ 9 ∷ []) [] [] ∷ op3 Cat 2 1 1 ∷ fork 0 1 2 ∷ []) ∷ (op2 Output 2 1 ∷ op0 Ret ∷ []) ∷ (op0 Ret ∷ []) ∷ []) (at
    (upto 10) []) (registers 11 (0 ∷ 0 ∷ 1 ∷ replicate 8 0 ++ 77 ∷ 77 ∷ 77 ∷ [])) (operands 1 (1 ∷ 77 ∷ []))
    (beside [] [] (1 ∷ []))) 40 8160 800 (done 1 13 1) ((1 ∷ 0 ∷ 1 ∷ 3 ∷ 13 ∷ 1 ∷ []) ∷ [])
    (pic ((const 1 8 ∷ op CallNative 1 (9 ∷ []) (0 ∷ 1 ∷ []) [] ∷ op3 Fill 9 1 1 ∷ fork 0 1 2 ∷ []) ∷ (op2 Alloc 11 1
    ∷ op Load 3 (12 ∷ 9 ∷ []) [] [] ∷ op3 Cat 11 1 1 ∷ op2 Output 11 1 ∷ op0 Ret ∷ []) ∷ (op0 Ret ∷ []) ∷ []) (at (0
    ∷ 2 ∷ 3 ∷ 6 ∷ 1 ∷ 4 ∷ 5 ∷ 7 ∷ 8 ∷ 9 ∷ []) []) (registers 13 (0 ∷ 0 ∷ 1 ∷ replicate 8 0 ++ 1 ∷ 0 ∷ 77 ∷ []))
    (operands 1 (1 ∷ 77 ∷ [])) (beside [] [] (1 ∷ [])))

-- a read of a kept image, written behind it: 0
abbrev pub b173 : Row
b173 =
    stays (pic ((const 1 8 ∷ op2 Alloc 2 1 ∷ op CallNative 1 (9 ∷ []) (0 ∷ 1 ∷ []) [] ∷ op Load 3 (8 ∷ 9 ∷ []) [] []
    ∷ op3 Fill 9 1 1 ∷ op3 Cat 2 1 1 ∷ fork 0 1 2 ∷ []) ∷ (op2 Output 2 1 ∷ op0 Ret ∷ []) ∷ (op0 Ret ∷ []) ∷ []) (at
    (upto 10) []) (registers 11 (0 ∷ 0 ∷ 1 ∷ replicate 8 0 ++ 77 ∷ [])) (operands 1 (1 ∷ 77 ∷ [])) (beside [] [] (1
    ∷ []))) 36 8144 800 (done 0 11 1)

-- a read of an image, something written behind it: 0
abbrev pub b174 : Row
b174 =
    stays (pic ((const 1 8 ∷ op2 Alloc 2 1 ∷ op CallNative 1 (9 ∷ []) (0 ∷ 1 ∷ []) [] ∷ op Load 3 (8 ∷ 9 ∷ []) [] []
    ∷ op3 Fill 0 1 1 ∷ op3 Cat 2 1 1 ∷ fork 0 1 2 ∷ []) ∷ (op2 Output 2 1 ∷ op0 Ret ∷ []) ∷ (op0 Ret ∷ []) ∷ []) (at
    (upto 10) []) (registers 11 (0 ∷ 0 ∷ 1 ∷ replicate 8 0 ++ 77 ∷ [])) (operands 1 (1 ∷ 77 ∷ [])) (beside [] [] (1
    ∷ []))) 36 8144 800 (done 0 11 1)

-- a Store into a member's image: 0
abbrev pub b175 : Row
b175 =
    stays (pic ((const 1 8 ∷ op2 Alloc 2 1 ∷ op CallNative 1 (9 ∷ []) (0 ∷ 1 ∷ []) [] ∷ op Store 3 (9 ∷ 1 ∷ []) [] []
    ∷ op3 Cat 2 1 1 ∷ fork 0 1 2 ∷ []) ∷ (op2 Output 2 1 ∷ op0 Ret ∷ []) ∷ (op0 Ret ∷ []) ∷ []) (at (upto 9) [])
    (registers 11 (0 ∷ 0 ∷ 1 ∷ replicate 8 0 ++ 77 ∷ [])) (operands 1 (1 ∷ 77 ∷ [])) (beside [] [] (1
    ∷ []))) 36 8144 800 (done 0 11 1)

-- a read of what an image of two operands gives: 0
abbrev pub b176 : Row
b176 =
    stays (pic ((const 1 8 ∷ op2 Alloc 2 1 ∷ op CallNative 1 (9 ∷ []) (0 ∷ 2 ∷ []) [] ∷ op Load 3 (8 ∷ 9 ∷ []) [] []
    ∷ op3 Cat 2 1 1 ∷ fork 0 1 2 ∷ []) ∷ (op2 Output 2 1 ∷ op0 Ret ∷ []) ∷ (op0 Ret ∷ []) ∷ []) (at (upto 9) [])
    (registers 11 (0 ∷ 0 ∷ 1 ∷ replicate 8 0 ++ 77 ∷ [])) (operands 2 (1 ∷ 1 ∷ 77 ∷ [])) (beside [] [] (1
    ∷ []))) 36 8144 800 (done 0 11 2)

-- a read of the pool or the pool: 1
abbrev pub b177 : Row
b177 =
    moves (pic ((const 1 8 ∷ op2 Alloc 2 1 ∷ op AddrOf 4 (9 ∷ []) [] [] ∷ op4 Select 10 0 9 9 ∷ op Load 3 (8 ∷ 10
    ∷ []) [] [] ∷ op3 Cat 2 1 1 ∷ fork 0 1 2 ∷ []) ∷ (op2 Output 2 1 ∷ op0 Ret ∷ []) ∷ (op0 Ret ∷ []) ∷ []) (at
    (upto 10) []) (registers 11 (0 ∷ 0 ∷ 1 ∷ replicate 8 0 ++ 77 ∷ 77 ∷ 77 ∷ 77 ∷ [])) (operands 1 (1 ∷ 77 ∷ []))
    (beside [] [] (1 ∷ []))) 42 8168 800 (done 1 14 1) ((1 ∷ 0 ∷ 1 ∷ 4 ∷ 14 ∷ 1 ∷ []) ∷ [])
    (pic ((const 1 8 ∷ op AddrOf 4 (9 ∷ []) [] [] ∷ fork 0 1 2 ∷ []) ∷ (op2 Alloc 11 1 ∷ op4 Select 12 0 9 9
    ∷ op Load 3 (13 ∷ 12 ∷ []) [] [] ∷ op3 Cat 11 1 1 ∷ op2 Output 11 1 ∷ op0 Ret ∷ []) ∷ (op0 Ret ∷ []) ∷ []) (at (0
    ∷ 2 ∷ 6 ∷ 1 ∷ 3 ∷ 4 ∷ 5 ∷ 7 ∷ 8 ∷ 9 ∷ []) []) (registers 14 (0 ∷ 0 ∷ 1 ∷ replicate 8 0 ++ 1 ∷ 0 ∷ 0 ∷ 77 ∷ []))
    (operands 1 (1 ∷ 77 ∷ [])) (beside [] [] (1 ∷ [])))

-- a read of the pool or something: 0
abbrev pub b178 : Row
b178 =
    stays (pic ((const 1 8 ∷ op2 Alloc 2 1 ∷ op AddrOf 4 (9 ∷ []) [] [] ∷ op4 Select 10 0 9 0 ∷ op Load 3 (8 ∷ 10
    ∷ []) [] [] ∷ op3 Cat 2 1 1 ∷ fork 0 1 2 ∷ []) ∷ (op2 Output 2 1 ∷ op0 Ret ∷ []) ∷ (op0 Ret ∷ []) ∷ []) (at
    (upto 10) []) (registers 11 (0 ∷ 0 ∷ 1 ∷ replicate 8 0 ++ 77 ∷ [])) (operands 1 (1 ∷ 77 ∷ [])) (beside [] [] (1
    ∷ []))) 36 8144 800 (done 0 11 1)

-- a read of something or the pool: 0
abbrev pub b179 : Row
b179 =
    stays (pic ((const 1 8 ∷ op2 Alloc 2 1 ∷ op AddrOf 4 (9 ∷ []) [] [] ∷ op4 Select 10 0 0 9 ∷ op Load 3 (8 ∷ 10
    ∷ []) [] [] ∷ op3 Cat 2 1 1 ∷ fork 0 1 2 ∷ []) ∷ (op2 Output 2 1 ∷ op0 Ret ∷ []) ∷ (op0 Ret ∷ []) ∷ []) (at
    (upto 10) []) (registers 11 (0 ∷ 0 ∷ 1 ∷ replicate 8 0 ++ 77 ∷ [])) (operands 1 (1 ∷ 77 ∷ [])) (beside [] [] (1
    ∷ []))) 36 8144 800 (done 0 11 1)

-- a read through an image's pointer: 1
abbrev pub b180 : Row
b180 =
    moves (pic ((const 1 8 ∷ op2 Alloc 2 1 ∷ op CallNative 1 (9 ∷ []) (0 ∷ 1 ∷ []) [] ∷ op Load 3 (10 ∷ 9 ∷ []) [] []
    ∷ op Load 3 (8 ∷ 10 ∷ []) [] [] ∷ op3 Cat 2 1 1 ∷ fork 0 1 2 ∷ []) ∷ (op2 Output 2 1 ∷ op0 Ret ∷ []) ∷ (op0 Ret
    ∷ []) ∷ []) (at (upto 10) []) (registers 11 (0 ∷ 0 ∷ 1 ∷ replicate 8 0 ++ 77 ∷ 77 ∷ 77 ∷ 77 ∷ [])) (operands 1 (1
    ∷ 77 ∷ [])) (beside [] [] (1 ∷ []))) 42 8168 800 (done 1 14 1) ((1 ∷ 0 ∷ 1 ∷ 5 ∷ 14 ∷ 1 ∷ []) ∷ [])
    (pic ((const 1 8 ∷ fork 0 1 2 ∷ []) ∷ (op2 Alloc 11 1 ∷ op CallNative 1 (12 ∷ []) (0 ∷ 1 ∷ []) [] ∷ op Load 3 (13
    ∷ 12 ∷ []) [] [] ∷ op Load 3 (12 ∷ 13 ∷ []) [] [] ∷ op3 Cat 11 1 1 ∷ op2 Output 11 1 ∷ op0 Ret ∷ []) ∷ (op0 Ret
    ∷ []) ∷ []) (at (0 ∷ 6 ∷ range 1 5 ++ 7 ∷ 8 ∷ 9 ∷ []) []) (registers 14 (0 ∷ 0 ∷ 1 ∷ replicate 8 0 ++ 1 ∷ 0 ∷ 0
    ∷ 77 ∷ [])) (operands 1 (1 ∷ 77 ∷ [])) (beside [] [] (1 ∷ [])))

-- a read through an image's pointer, the image written behind it: 0
abbrev pub b181 : Row
b181 =
    stays (pic ((const 1 8 ∷ op2 Alloc 2 1 ∷ op CallNative 1 (9 ∷ []) (0 ∷ 1 ∷ []) [] ∷ op Load 3 (10 ∷ 9 ∷ []) [] []
    ∷ op Load 3 (8 ∷ 10 ∷ []) [] [] ∷ op3 Fill 9 1 1 ∷ op3 Cat 2 1 1 ∷ fork 0 1 2 ∷ []) ∷ (op2 Output 2 1 ∷ op0 Ret
    ∷ []) ∷ (op0 Ret ∷ []) ∷ []) (at (upto 11) []) (registers 11 (0 ∷ 0 ∷ 1 ∷ replicate 8 0 ++ 77 ∷ [])) (operands 1
    (1 ∷ 77 ∷ [])) (beside [] [] (1 ∷ []))) 36 8144 800 (done 0 11 1)

-- a read through a kept block's pointer: 0
abbrev pub b182 : Row
b182 =
    stays (pic ((const 1 8 ∷ op2 Alloc 2 1 ∷ op CallNative 2 (9 ∷ []) (0 ∷ 1 ∷ []) [] ∷ op Load 3 (10 ∷ 9 ∷ []) [] []
    ∷ op Load 3 (8 ∷ 10 ∷ []) [] [] ∷ op3 Cat 2 1 1 ∷ fork 0 1 2 ∷ []) ∷ (op2 Output 2 1 ∷ op0 Ret ∷ []) ∷ (op0 Ret
    ∷ []) ∷ []) (at (upto 10) []) (registers 11 (0 ∷ 0 ∷ 1 ∷ replicate 8 0 ++ 77 ∷ [])) (operands 1 (1 ∷ 77 ∷ []))
    (beside [] [] (1 ∷ []))) 36 8144 800 (done 0 11 1)

-- a read of a kept Alloc: 1
abbrev pub b183 : Row
b183 =
    moves (pic ((const 1 8 ∷ op2 Alloc 2 1 ∷ op2 Alloc 9 0 ∷ op Load 3 (8 ∷ 9 ∷ []) [] [] ∷ op3 Cat 2 1 1 ∷ fork 0 1 2
    ∷ []) ∷ (op2 Output 2 1 ∷ op0 Ret ∷ []) ∷ (op0 Ret ∷ []) ∷ []) (at (upto 9) []) (registers 11 (0 ∷ 0 ∷ 1
    ∷ replicate 8 0 ++ 77 ∷ 77 ∷ 77 ∷ [])) (operands 1 (1 ∷ 77 ∷ [])) (beside [] [] (1 ∷ []))) 40 8160 800
    (done 1 13 1) ((1 ∷ 0 ∷ 1 ∷ 3 ∷ 13 ∷ 1 ∷ []) ∷ [])
    (pic ((const 1 8 ∷ op2 Alloc 9 0 ∷ fork 0 1 2 ∷ []) ∷ (op2 Alloc 11 1 ∷ op Load 3 (12 ∷ 9 ∷ []) [] []
    ∷ op3 Cat 11 1 1 ∷ op2 Output 11 1 ∷ op0 Ret ∷ []) ∷ (op0 Ret ∷ []) ∷ []) (at (0 ∷ 2 ∷ 5 ∷ 1 ∷ 3 ∷ 4 ∷ 6 ∷ 7 ∷ 8
    ∷ []) []) (registers 13 (0 ∷ 0 ∷ 1 ∷ replicate 8 0 ++ 1 ∷ 0 ∷ 77 ∷ [])) (operands 1 (1 ∷ 77 ∷ [])) (beside [] []
    (1 ∷ [])))

-- a read of a kept Alloc, written behind it: 0
abbrev pub b184 : Row
b184 =
    stays (pic ((const 1 8 ∷ op2 Alloc 2 1 ∷ op2 Alloc 9 0 ∷ op Load 3 (8 ∷ 9 ∷ []) [] [] ∷ op3 Fill 9 1 1
    ∷ op3 Cat 2 1 1 ∷ fork 0 1 2 ∷ []) ∷ (op2 Output 2 1 ∷ op0 Ret ∷ []) ∷ (op0 Ret ∷ []) ∷ []) (at (upto 10) [])
    (registers 11 (0 ∷ 0 ∷ 1 ∷ replicate 8 0 ++ 77 ∷ [])) (operands 1 (1 ∷ 77 ∷ [])) (beside [] [] (1
    ∷ []))) 36 8144 800 (done 0 11 1)

-- a read of a place in a kept block, written behind it: 0
abbrev pub b185 : Row
b185 =
    stays (pic ((const 1 8 ∷ op2 Alloc 2 1 ∷ op CallNative 2 (9 ∷ []) (0 ∷ 1 ∷ []) [] ∷ op3 Index 10 9 1 ∷ op Load 3
    (8 ∷ 10 ∷ []) [] [] ∷ op3 Fill 9 1 1 ∷ op3 Cat 2 1 1 ∷ fork 0 1 2 ∷ []) ∷ (op2 Output 2 1 ∷ op0 Ret ∷ [])
    ∷ (op0 Ret ∷ []) ∷ []) (at (upto 11) []) (registers 11 (0 ∷ 0 ∷ 1 ∷ replicate 8 0 ++ 77 ∷ [])) (operands 1 (1 ∷ 77
    ∷ [])) (beside [] [] (1 ∷ []))) 36 8144 800 (done 0 11 1)

-- a read of a copy of the frame's address, written behind it: 0
abbrev pub b186 : Row
b186 =
    stays (pic ((const 1 8 ∷ op2 Alloc 2 1 ∷ op1 AddrOf 9 ∷ op2 Move 10 9 ∷ op Load 3 (8 ∷ 10 ∷ []) [] []
    ∷ op3 Fill 9 1 1 ∷ op3 Cat 2 1 1 ∷ fork 0 1 2 ∷ []) ∷ (op2 Output 2 1 ∷ op0 Ret ∷ []) ∷ (op0 Ret ∷ []) ∷ []) (at
    (upto 11) []) (registers 11 (0 ∷ 0 ∷ 1 ∷ replicate 8 0 ++ 77 ∷ [])) (operands 1 (1 ∷ 77 ∷ [])) (beside [] [] (1
    ∷ []))) 36 8144 800 (done 0 11 1)

-- a read of the heap: 0
abbrev pub b187 : Row
b187 =
    stays (pic ((const 1 8 ∷ op2 Alloc 2 1 ∷ op2 Deref 9 1 ∷ op Load 3 (8 ∷ 9 ∷ []) [] [] ∷ op3 Cat 2 1 1 ∷ fork 0 1 2
    ∷ []) ∷ (op2 Output 2 1 ∷ op0 Ret ∷ []) ∷ (op0 Ret ∷ []) ∷ []) (at (upto 9) []) (registers 11 (0 ∷ 0 ∷ 1
    ∷ replicate 8 0 ++ 77 ∷ [])) (operands 1 (1 ∷ 77 ∷ [])) (beside [] [] (1 ∷ []))) 36 8144 800 (done 0 11 1)

-- a read of the pool, the heap written behind it: 1
abbrev pub b188 : Row
b188 =
    moves (pic ((const 1 8 ∷ op2 Alloc 2 1 ∷ op AddrOf 4 (9 ∷ []) [] [] ∷ op2 Deref 10 1 ∷ op Load 3 (8 ∷ 9
    ∷ []) [] [] ∷ op3 Fill 10 1 1 ∷ op3 Cat 2 1 1 ∷ fork 0 1 2 ∷ []) ∷ (op2 Output 2 1 ∷ op0 Ret ∷ []) ∷ (op0 Ret
    ∷ []) ∷ []) (at (upto 11) []) (registers 11 (0 ∷ 0 ∷ 1 ∷ replicate 8 0 ++ 77 ∷ 77 ∷ 77 ∷ [])) (operands 1 (1 ∷ 77
    ∷ [])) (beside [] [] (1 ∷ []))) 40 8160 800 (done 1 13 1) ((1 ∷ 0 ∷ 1 ∷ 3 ∷ 13 ∷ 1 ∷ []) ∷ [])
    (pic ((const 1 8 ∷ op AddrOf 4 (9 ∷ []) [] [] ∷ op2 Deref 10 1 ∷ op3 Fill 10 1 1 ∷ fork 0 1 2 ∷ [])
    ∷ (op2 Alloc 11 1 ∷ op Load 3 (12 ∷ 9 ∷ []) [] [] ∷ op3 Cat 11 1 1 ∷ op2 Output 11 1 ∷ op0 Ret ∷ []) ∷ (op0 Ret
    ∷ []) ∷ []) (at (0 ∷ 2 ∷ 3 ∷ 5 ∷ 7 ∷ 1 ∷ 4 ∷ 6 ∷ 8 ∷ 9 ∷ 10 ∷ []) []) (registers 13 (0 ∷ 0 ∷ 1
    ∷ replicate 8 0 ++ 1 ∷ 0 ∷ 77 ∷ [])) (operands 1 (1 ∷ 77 ∷ [])) (beside [] [] (1 ∷ [])))

-- a read of the pool, something written behind it: 0
abbrev pub b189 : Row
b189 =
    stays (pic ((const 1 8 ∷ op2 Alloc 2 1 ∷ op AddrOf 4 (9 ∷ []) [] [] ∷ op Load 3 (8 ∷ 9 ∷ []) [] []
    ∷ op3 Fill 0 1 1 ∷ op3 Cat 2 1 1 ∷ fork 0 1 2 ∷ []) ∷ (op2 Output 2 1 ∷ op0 Ret ∷ []) ∷ (op0 Ret ∷ []) ∷ []) (at
    (upto 10) []) (registers 11 (0 ∷ 0 ∷ 1 ∷ replicate 8 0 ++ 77 ∷ [])) (operands 1 (1 ∷ 77 ∷ [])) (beside [] [] (1
    ∷ []))) 36 8144 800 (done 0 11 1)

-- a length of the frame, written behind it: 0
abbrev pub b190 : Row
b190 =
    stays (pic ((const 1 8 ∷ op2 Alloc 2 1 ∷ op1 AddrOf 9 ∷ op2 DopeLen 8 9 ∷ op3 Fill 9 1 1 ∷ op3 Cat 2 1 1
    ∷ fork 0 1 2 ∷ []) ∷ (op2 Output 2 1 ∷ op0 Ret ∷ []) ∷ (op0 Ret ∷ []) ∷ []) (at (upto 10) []) (registers 11 (0 ∷ 0
    ∷ 1 ∷ replicate 8 0 ++ 77 ∷ [])) (operands 1 (1 ∷ 77 ∷ [])) (beside [] [] (1 ∷ []))) 36 8144 800 (done 0 11 1)

-- a layout of the frame, written behind it: 0
abbrev pub b191 : Row
b191 =
    stays (pic ((const 1 8 ∷ op2 Alloc 2 1 ∷ op1 AddrOf 9 ∷ op2 LayoutOf 8 9 ∷ op3 Fill 9 1 1 ∷ op3 Cat 2 1 1
    ∷ fork 0 1 2 ∷ []) ∷ (op2 Output 2 1 ∷ op0 Ret ∷ []) ∷ (op0 Ret ∷ []) ∷ []) (at (upto 10) []) (registers 11 (0 ∷ 0
    ∷ 1 ∷ replicate 8 0 ++ 77 ∷ [])) (operands 1 (1 ∷ 77 ∷ [])) (beside [] [] (1 ∷ []))) 36 8144 800 (done 0 11 1)

-- a Store into a member's block: 1
abbrev pub b192 : Row
b192 =
    moves (pic ((const 1 8 ∷ op2 Alloc 2 1 ∷ op Store 3 (2 ∷ 1 ∷ []) [] [] ∷ op3 Cat 2 1 1 ∷ fork 0 1 2 ∷ [])
    ∷ (op2 Output 2 1 ∷ op0 Ret ∷ []) ∷ (op0 Ret ∷ []) ∷ []) (at (upto 8) []) (registers 11 (0 ∷ 0 ∷ 1
    ∷ replicate 8 0 ++ 77 ∷ 77 ∷ [])) (operands 1 (1 ∷ 77 ∷ [])) (beside [] [] (1 ∷ []))) 38 8152 800 (done 1 12 1)
    ((1 ∷ 0 ∷ 1 ∷ 3 ∷ 12 ∷ 1 ∷ []) ∷ [])
    (pic ((const 1 8 ∷ fork 0 1 2 ∷ []) ∷ (op2 Alloc 11 1 ∷ op Store 3 (11 ∷ 1 ∷ []) [] [] ∷ op3 Cat 11 1 1
    ∷ op2 Output 11 1 ∷ op0 Ret ∷ []) ∷ (op0 Ret ∷ []) ∷ []) (at (0 ∷ 4 ∷ 1 ∷ 2 ∷ 3 ∷ 5 ∷ 6 ∷ 7 ∷ []) [])
    (registers 12 (0 ∷ 0 ∷ 1 ∷ replicate 8 0 ++ 1 ∷ 77 ∷ [])) (operands 1 (1 ∷ 77 ∷ [])) (beside [] [] (1 ∷ [])))

-- a Store into a kept block: 0
abbrev pub b193 : Row
b193 =
    stays (pic ((const 1 8 ∷ op2 Alloc 2 1 ∷ op CallNative 2 (9 ∷ []) (0 ∷ 1 ∷ []) [] ∷ op Store 3 (9 ∷ 1 ∷ []) [] []
    ∷ op3 Cat 2 1 1 ∷ fork 0 1 2 ∷ []) ∷ (op2 Output 2 1 ∷ op0 Ret ∷ []) ∷ (op0 Ret ∷ []) ∷ []) (at (upto 9) [])
    (registers 11 (0 ∷ 0 ∷ 1 ∷ replicate 8 0 ++ 77 ∷ [])) (operands 1 (1 ∷ 77 ∷ [])) (beside [] [] (1
    ∷ []))) 36 8144 800 (done 0 11 1)

-- a Store of a Sig into a member's block: 0
abbrev pub b194 : Row
b194 =
    stays (pic ((const 1 8 ∷ op2 Alloc 2 1 ∷ op Store 4 (2 ∷ 1 ∷ []) [] [] ∷ op3 Cat 2 1 1 ∷ fork 0 1 2 ∷ [])
    ∷ (op2 Output 2 1 ∷ op0 Ret ∷ []) ∷ (op0 Ret ∷ []) ∷ []) (at (upto 8) []) (registers 11 (0 ∷ 0 ∷ 1
    ∷ replicate 8 0 ++ 77 ∷ [])) (operands 1 (1 ∷ 77 ∷ [])) (beside [] [] (1 ∷ []))) 36 8144 800 (done 0 11 1)

-- a Store of a Sig: 0
abbrev pub b195 : Row
b195 =
    stays (pic ((const 1 8 ∷ op2 Alloc 2 1 ∷ op Load 3 (8 ∷ 2 ∷ []) [] [] ∷ op Store 4 (0 ∷ 1 ∷ []) [] []
    ∷ op3 Cat 2 1 1 ∷ fork 0 1 2 ∷ []) ∷ (op2 Output 2 1 ∷ op0 Ret ∷ []) ∷ (op0 Ret ∷ []) ∷ []) (at (upto 9) [])
    (registers 11 (0 ∷ 0 ∷ 1 ∷ replicate 8 0 ++ 77 ∷ [])) (operands 1 (1 ∷ 77 ∷ [])) (beside [] [] (1
    ∷ []))) 36 8144 800 (done 0 11 1)

-- a Cat that reads the frame, the frame written behind it: 0
abbrev pub b196 : Row
b196 =
    stays (pic ((op1 AddrOf 9 ∷ const 1 8 ∷ op2 Alloc 2 1 ∷ op3 Cmp 3 1 1 ∷ op3 Cmp 4 1 3 ∷ op3 Cmp 5 1 4
    ∷ op3 Cmp 6 1 5 ∷ op3 Cmp 7 1 6 ∷ op3 Cmp 8 1 7 ∷ op Cat 0 (2 ∷ 1 ∷ 1 ∷ []) (0 ∷ 2 ∷ []) [] ∷ op3 Fill 9 1 1
    ∷ fork 0 1 2 ∷ []) ∷ (op2 Output 2 1 ∷ op0 Ret ∷ []) ∷ (op0 Ret ∷ []) ∷ []) (at (upto 15) []) (registers 10 (0 ∷ 0
    ∷ 1 ∷ replicate 7 0 ++ 77 ∷ [])) (operands 2 (9 ∷ 1 ∷ 77 ∷ [])) (beside [] [] [])) 34 8136 800 (done 0 10 2)

-- a Cat's scalar, the frame written behind it: 1
abbrev pub b197 : Row
b197 =
    moves (pic ((op1 AddrOf 9 ∷ const 1 8 ∷ op2 Alloc 2 1 ∷ op3 Cmp 3 1 1 ∷ op3 Cmp 4 1 3 ∷ op3 Cmp 5 1 4
    ∷ op3 Cmp 6 1 5 ∷ op3 Cmp 7 1 6 ∷ op3 Cmp 8 1 7 ∷ op Cat 0 (2 ∷ 1 ∷ 1 ∷ []) (0 ∷ 2 ∷ []) (1 ∷ []) ∷ op3 Fill 9 1 1
    ∷ fork 0 1 2 ∷ []) ∷ (op2 Output 2 1 ∷ op0 Ret ∷ []) ∷ (op0 Ret ∷ []) ∷ []) (at (upto 15) []) (registers 10 (0 ∷ 0
    ∷ 1 ∷ replicate 7 0 ++ 77 ∷ 77 ∷ 77 ∷ 77 ∷ [])) (operands 2 (9 ∷ 1 ∷ 77 ∷ [])) (beside [] [] [])) 40 8160 800
    (done 1 13 2) ((1 ∷ 0 ∷ 1 ∷ 8 ∷ 13 ∷ 2 ∷ []) ∷ [])
    (pic ((op1 AddrOf 9 ∷ const 1 8 ∷ op3 Fill 9 1 1 ∷ fork 0 1 2 ∷ []) ∷ (op2 Alloc 10 1 ∷ op3 Cmp 11 1 1
    ∷ op3 Cmp 12 1 11 ∷ op3 Cmp 11 1 12 ∷ op3 Cmp 12 1 11 ∷ op3 Cmp 11 1 12 ∷ op3 Cmp 12 1 11 ∷ op Cat 0 (10 ∷ 1 ∷ 1
    ∷ []) (0 ∷ 2 ∷ []) (1 ∷ []) ∷ op2 Output 10 1 ∷ op0 Ret ∷ []) ∷ (op0 Ret ∷ []) ∷ []) (at (0 ∷ 1 ∷ 10 ∷ 11
    ∷ range 2 8 ++ 12 ∷ 13 ∷ 14 ∷ []) []) (registers 13 (0 ∷ 0 ∷ 1 ∷ replicate 7 0 ++ 1 ∷ 0 ∷ 0 ∷ 77 ∷ []))
    (operands 2 (9 ∷ 1 ∷ 77 ∷ [])) (beside [] [] []))

-- a Cat's scalar that is another, the frame written behind it: 0
abbrev pub b198 : Row
b198 =
    stays (pic ((op1 AddrOf 9 ∷ const 1 8 ∷ op2 Alloc 2 1 ∷ op3 Cmp 3 1 1 ∷ op3 Cmp 4 1 3 ∷ op3 Cmp 5 1 4
    ∷ op3 Cmp 6 1 5 ∷ op3 Cmp 7 1 6 ∷ op3 Cmp 8 1 7 ∷ op Cat 0 (2 ∷ 1 ∷ 1 ∷ []) (0 ∷ 2 ∷ []) (2 ∷ []) ∷ op3 Fill 9 1 1
    ∷ fork 0 1 2 ∷ []) ∷ (op2 Output 2 1 ∷ op0 Ret ∷ []) ∷ (op0 Ret ∷ []) ∷ []) (at (upto 15) []) (registers 10 (0 ∷ 0
    ∷ 1 ∷ replicate 7 0 ++ 77 ∷ [])) (operands 2 (9 ∷ 1 ∷ 77 ∷ [])) (beside [] [] [])) 34 8136 800 (done 0 10 2)

-- a Cat's odd operand, the frame written behind it: 1
abbrev pub b199 : Row
b199 =
    moves (pic ((op1 AddrOf 9 ∷ const 1 8 ∷ op2 Alloc 2 1 ∷ op3 Cmp 3 1 1 ∷ op3 Cmp 4 1 3 ∷ op3 Cmp 5 1 4
    ∷ op3 Cmp 6 1 5 ∷ op3 Cmp 7 1 6 ∷ op3 Cmp 8 1 7 ∷ op Cat 0 (2 ∷ 1 ∷ 1 ∷ []) (0 ∷ 1 ∷ []) [] ∷ op3 Fill 9 1 1
    ∷ fork 0 1 2 ∷ []) ∷ (op2 Output 2 1 ∷ op0 Ret ∷ []) ∷ (op0 Ret ∷ []) ∷ []) (at (upto 15) []) (registers 10 (0 ∷ 0
    ∷ 1 ∷ replicate 7 0 ++ 77 ∷ 77 ∷ 77 ∷ 77 ∷ [])) (operands 2 (9 ∷ 1 ∷ 77 ∷ [])) (beside [] [] [])) 40 8160 800
    (done 1 13 2) ((1 ∷ 0 ∷ 1 ∷ 8 ∷ 13 ∷ 2 ∷ []) ∷ [])
    (pic ((op1 AddrOf 9 ∷ const 1 8 ∷ op3 Fill 9 1 1 ∷ fork 0 1 2 ∷ []) ∷ (op2 Alloc 10 1 ∷ op3 Cmp 11 1 1
    ∷ op3 Cmp 12 1 11 ∷ op3 Cmp 11 1 12 ∷ op3 Cmp 12 1 11 ∷ op3 Cmp 11 1 12 ∷ op3 Cmp 12 1 11 ∷ op Cat 0 (10 ∷ 1 ∷ 1
    ∷ []) (0 ∷ 1 ∷ []) [] ∷ op2 Output 10 1 ∷ op0 Ret ∷ []) ∷ (op0 Ret ∷ []) ∷ []) (at (0 ∷ 1 ∷ 10 ∷ 11
    ∷ range 2 8 ++ 12 ∷ 13 ∷ 14 ∷ []) []) (registers 13 (0 ∷ 0 ∷ 1 ∷ replicate 7 0 ++ 1 ∷ 0 ∷ 0 ∷ 77 ∷ []))
    (operands 2 (9 ∷ 1 ∷ 77 ∷ [])) (beside [] [] []))

-- a Cmp and two Cmps before a Stmt: 1
abbrev pub b200 : Row
b200 =
    moves (pic ((const 1 8 ∷ op3 Cmp 2 1 1 ∷ op3 Cmp 3 1 1 ∷ op3 Cmp 4 1 3 ∷ op0 Stmt ∷ fork 0 1 2 ∷ [])
    ∷ (op2 Output 5 5 ∷ []) ∷ (op3 Cat 1 1 1 ∷ []) ∷ []) (at (upto 8) []) (registers 11 (0 ∷ 0 ∷ 1
    ∷ replicate 8 0 ++ 77 ∷ 77 ∷ 77 ∷ 77 ∷ [])) (operands 1 (1 ∷ 77 ∷ [])) (beside [] [] (1 ∷ []))) 42 8168 800
    (done 1 14 1) ((1 ∷ 0 ∷ 1 ∷ 3 ∷ 14 ∷ 1 ∷ []) ∷ [])
    (pic ((const 1 8 ∷ op0 Stmt ∷ fork 0 1 2 ∷ []) ∷ (op3 Cmp 11 1 1 ∷ op3 Cmp 12 1 1 ∷ op3 Cmp 13 1 12
    ∷ op2 Output 5 5 ∷ []) ∷ (op3 Cat 1 1 1 ∷ []) ∷ []) (at (0 ∷ 4 ∷ 5 ∷ 1 ∷ 2 ∷ 3 ∷ 6 ∷ 7 ∷ []) []) (registers 14 (0
    ∷ 0 ∷ 1 ∷ replicate 8 0 ++ 1 ∷ 0 ∷ 0 ∷ 77 ∷ [])) (operands 1 (1 ∷ 77 ∷ [])) (beside [] [] (1 ∷ [])))

-- an Alloc and two Cmps before a Stmt: 0
abbrev pub b201 : Row
b201 =
    stays (pic ((const 1 8 ∷ op2 Alloc 2 1 ∷ op3 Cmp 3 1 1 ∷ op3 Cmp 4 1 3 ∷ op0 Stmt ∷ fork 0 1 2 ∷ [])
    ∷ (op2 Output 5 5 ∷ []) ∷ (op3 Cat 1 1 1 ∷ []) ∷ []) (at (upto 8) []) (registers 11 (0 ∷ 0 ∷ 1
    ∷ replicate 8 0 ++ 77 ∷ [])) (operands 1 (1 ∷ 77 ∷ [])) (beside [] [] (1 ∷ []))) 36 8144 800 (done 0 11 1)

-- a layout and two Cmps before a Stmt: 0
abbrev pub b202 : Row
b202 =
    stays (pic ((const 1 8 ∷ op AddrOf 4 (9 ∷ []) [] [] ∷ op2 LayoutOf 2 9 ∷ op3 Cmp 3 1 1 ∷ op3 Cmp 4 1 3 ∷ op0 Stmt
    ∷ fork 0 1 2 ∷ []) ∷ (op2 Output 5 5 ∷ []) ∷ (op3 Cat 1 1 1 ∷ []) ∷ []) (at (upto 9) []) (registers 11 (0 ∷ 0 ∷ 1
    ∷ replicate 8 0 ++ 77 ∷ [])) (operands 1 (1 ∷ 77 ∷ [])) (beside [] [] (1 ∷ []))) 36 8144 800 (done 0 11 1)

-- an image and two Cmps before a Stmt: 0
abbrev pub b203 : Row
b203 =
    stays (pic ((const 1 8 ∷ op CallNative 1 (2 ∷ []) (0 ∷ 1 ∷ []) [] ∷ op3 Cmp 3 1 1 ∷ op3 Cmp 4 1 3 ∷ op0 Stmt
    ∷ fork 0 1 2 ∷ []) ∷ (op2 Output 5 5 ∷ []) ∷ (op3 Cat 1 1 1 ∷ []) ∷ []) (at (upto 8) []) (registers 11 (0 ∷ 0 ∷ 1
    ∷ replicate 8 0 ++ 77 ∷ [])) (operands 1 (1 ∷ 77 ∷ [])) (beside [] [] (1 ∷ []))) 36 8144 800 (done 0 11 1)

abbrev pub rows10 : List Row
rows10 =
    b161 ∷ b163 ∷ b166 ∷ b167 ∷ b168 ∷ b169 ∷ b170 ∷ b171 ∷ b172 ∷ b173 ∷ b174 ∷ b175 ∷ b176 ∷ b177 ∷ b178 ∷ b179
    ∷ b180 ∷ b181 ∷ b182 ∷ b183 ∷ b184 ∷ b185 ∷ b186 ∷ b187 ∷ b188 ∷ b189 ∷ b190 ∷ b191 ∷ b192 ∷ b193 ∷ b194 ∷ b195
    ∷ b196 ∷ b197 ∷ b198 ∷ b199 ∷ b200 ∷ b201 ∷ b202 ∷ b203 ∷ []
