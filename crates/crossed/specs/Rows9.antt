-- Pictures at the bounds of document 01, page 9: what the Rust makes of them, and tests/rust's judgement of refused ones. Printed by
-- `compare crossed` in tests/rust, and again by its compare.sh: not to be edited. Assumes nothing.
use Rattle.std.specs.Prelude.{List, [], ◌∷◌, ◌++◌, replicate}
use Rattle.words.specs.Lists.{range, upto}
use Rattle.model.specs.Kinds.{AddrOf, Alloc, Bin, Cat, Check, Cmp, Const, ConstF, Fill, Index}
use Rattle.model.specs.Kinds.{LayoutOf, Load, MakeDope, Output, PkgAlloc, Ret, SigRead, SigVal}
use Rattle.model.specs.Picture.{absent}
use Rattle.model.specs.Build.{op}
use Rattle.crossed.specs.Row.{Row, pic, at, registers, operands, beside, op0, op1, op2, op3, fork, const, moves, stays, done}

-- a quotient by 1: 1
abbrev pub b121 : Row
b121 =
    moves (pic ((const 1 8 ∷ op2 Alloc 2 1 ∷ const 9 1 ∷ op Bin 4 (8 ∷ 1 ∷ 9 ∷ []) [] [] ∷ op3 Cat 2 1 1 ∷ fork 0 1 2
    ∷ []) ∷ (op2 Output 2 1 ∷ op0 Ret ∷ []) ∷ (op0 Ret ∷ []) ∷ []) (at (upto 9) []) (registers 11 (0 ∷ 0 ∷ 1
    ∷ replicate 8 0 ++ 77 ∷ 77 ∷ 77 ∷ [])) (operands 1 (1 ∷ 77 ∷ [])) (beside [] [] (1 ∷ []))) 40 8160 800
    (done 1 13 1) ((1 ∷ 0 ∷ 1 ∷ 3 ∷ 13 ∷ 1 ∷ []) ∷ [])
    (pic ((const 1 8 ∷ const 9 1 ∷ fork 0 1 2 ∷ []) ∷ (op2 Alloc 11 1 ∷ op Bin 4 (12 ∷ 1 ∷ 9 ∷ []) [] []
    ∷ op3 Cat 11 1 1 ∷ op2 Output 11 1 ∷ op0 Ret ∷ []) ∷ (op0 Ret ∷ []) ∷ []) (at (0 ∷ 2 ∷ 5 ∷ 1 ∷ 3 ∷ 4 ∷ 6 ∷ 7 ∷ 8
    ∷ []) []) (registers 13 (0 ∷ 0 ∷ 1 ∷ replicate 8 0 ++ 1 ∷ 0 ∷ 77 ∷ [])) (operands 1 (1 ∷ 77 ∷ [])) (beside [] []
    (1 ∷ [])))

-- a quotient by 2^60: 1
abbrev pub b122 : Row
b122 =
    moves (pic ((const 1 8 ∷ op2 Alloc 2 1 ∷ op Const 0 (9 ∷ []) [] (0 ∷ 268435456 ∷ []) ∷ op Bin 4 (8 ∷ 1 ∷ 9
    ∷ []) [] [] ∷ op3 Cat 2 1 1 ∷ fork 0 1 2 ∷ []) ∷ (op2 Output 2 1 ∷ op0 Ret ∷ []) ∷ (op0 Ret ∷ []) ∷ []) (at
    (upto 9) []) (registers 11 (0 ∷ 0 ∷ 1 ∷ replicate 8 0 ++ 77 ∷ 77 ∷ 77 ∷ [])) (operands 1 (1 ∷ 77 ∷ []))
    (beside [] [] (1 ∷ []))) 40 8160 800 (done 1 13 1) ((1 ∷ 0 ∷ 1 ∷ 3 ∷ 13 ∷ 1 ∷ []) ∷ [])
    (pic ((const 1 8 ∷ op Const 0 (9 ∷ []) [] (0 ∷ 268435456 ∷ []) ∷ fork 0 1 2 ∷ []) ∷ (op2 Alloc 11 1 ∷ op Bin 4 (12
    ∷ 1 ∷ 9 ∷ []) [] [] ∷ op3 Cat 11 1 1 ∷ op2 Output 11 1 ∷ op0 Ret ∷ []) ∷ (op0 Ret ∷ []) ∷ []) (at (0 ∷ 2 ∷ 5 ∷ 1
    ∷ 3 ∷ 4 ∷ 6 ∷ 7 ∷ 8 ∷ []) []) (registers 13 (0 ∷ 0 ∷ 1 ∷ replicate 8 0 ++ 1 ∷ 0 ∷ 77 ∷ [])) (operands 1 (1 ∷ 77
    ∷ [])) (beside [] [] (1 ∷ [])))

-- a quotient by 0: 0
abbrev pub b123 : Row
b123 =
    stays (pic ((const 1 8 ∷ op2 Alloc 2 1 ∷ op1 Const 9 ∷ op Bin 4 (8 ∷ 1 ∷ 9 ∷ []) [] [] ∷ op3 Cat 2 1 1
    ∷ fork 0 1 2 ∷ []) ∷ (op2 Output 2 1 ∷ op0 Ret ∷ []) ∷ (op0 Ret ∷ []) ∷ []) (at (upto 9) []) (registers 11 (0 ∷ 0
    ∷ 1 ∷ replicate 8 0 ++ 77 ∷ [])) (operands 1 (1 ∷ 77 ∷ [])) (beside [] [] (1 ∷ []))) 36 8144 800 (done 0 11 1)

-- a quotient by -1: 0
abbrev pub b124 : Row
b124 =
    stays (pic ((const 1 8 ∷ op2 Alloc 2 1 ∷ op Const 0 (9 ∷ []) [] (absent ∷ absent ∷ []) ∷ op Bin 4 (8 ∷ 1 ∷ 9
    ∷ []) [] [] ∷ op3 Cat 2 1 1 ∷ fork 0 1 2 ∷ []) ∷ (op2 Output 2 1 ∷ op0 Ret ∷ []) ∷ (op0 Ret ∷ []) ∷ []) (at
    (upto 9) []) (registers 11 (0 ∷ 0 ∷ 1 ∷ replicate 8 0 ++ 77 ∷ [])) (operands 1 (1 ∷ 77 ∷ [])) (beside [] [] (1
    ∷ []))) 36 8144 800 (done 0 11 1)

-- a quotient by a constant written twice: 0
abbrev pub b125 : Row
b125 =
    stays (pic ((const 1 8 ∷ op2 Alloc 2 1 ∷ const 9 1 ∷ const 9 1 ∷ op Bin 4 (8 ∷ 1 ∷ 9 ∷ []) [] [] ∷ op3 Cat 2 1 1
    ∷ fork 0 1 2 ∷ []) ∷ (op2 Output 2 1 ∷ op0 Ret ∷ []) ∷ (op0 Ret ∷ []) ∷ []) (at (upto 10) []) (registers 11 (0 ∷ 0
    ∷ 1 ∷ replicate 8 0 ++ 77 ∷ [])) (operands 1 (1 ∷ 77 ∷ [])) (beside [] [] (1 ∷ []))) 36 8144 800 (done 0 11 1)

-- a quotient by a length: 0
abbrev pub b126 : Row
b126 =
    stays (pic ((const 1 8 ∷ op2 Alloc 2 1 ∷ op3 Cmp 9 0 0 ∷ op Bin 4 (8 ∷ 1 ∷ 9 ∷ []) [] [] ∷ op3 Cat 2 1 1
    ∷ fork 0 1 2 ∷ []) ∷ (op2 Output 2 1 ∷ op0 Ret ∷ []) ∷ (op0 Ret ∷ []) ∷ []) (at (upto 9) []) (registers 11 (0 ∷ 0
    ∷ 1 ∷ replicate 8 0 ++ 77 ∷ [])) (operands 1 (1 ∷ 77 ∷ [])) (beside [] [] (1 ∷ []))) 36 8144 800 (done 0 11 1)

-- a quotient of no length: 0
abbrev pub b127 : Row
b127 =
    stays (pic ((const 1 8 ∷ op2 Alloc 2 1 ∷ const 9 1 ∷ op Bin 4 (8 ∷ 0 ∷ 9 ∷ []) [] [] ∷ op3 Cat 2 1 1 ∷ fork 0 1 2
    ∷ []) ∷ (op2 Output 2 1 ∷ op0 Ret ∷ []) ∷ (op0 Ret ∷ []) ∷ []) (at (upto 9) []) (registers 11 (0 ∷ 0 ∷ 1
    ∷ replicate 8 0 ++ 77 ∷ [])) (operands 1 (1 ∷ 77 ∷ [])) (beside [] [] (1 ∷ []))) 36 8144 800 (done 0 11 1)

-- a difference of lengths: 1
abbrev pub b128 : Row
b128 =
    moves (pic ((const 1 8 ∷ op2 Alloc 2 1 ∷ op Bin 2 (8 ∷ 1 ∷ 1 ∷ []) [] [] ∷ op3 Cat 2 1 1 ∷ fork 0 1 2 ∷ [])
    ∷ (op2 Output 2 1 ∷ op0 Ret ∷ []) ∷ (op0 Ret ∷ []) ∷ []) (at (upto 8) []) (registers 11 (0 ∷ 0 ∷ 1
    ∷ replicate 8 0 ++ 77 ∷ 77 ∷ 77 ∷ [])) (operands 1 (1 ∷ 77 ∷ [])) (beside [] [] (1 ∷ []))) 40 8160 800
    (done 1 13 1) ((1 ∷ 0 ∷ 1 ∷ 3 ∷ 13 ∷ 1 ∷ []) ∷ [])
    (pic ((const 1 8 ∷ fork 0 1 2 ∷ []) ∷ (op2 Alloc 11 1 ∷ op Bin 2 (12 ∷ 1 ∷ 1 ∷ []) [] [] ∷ op3 Cat 11 1 1
    ∷ op2 Output 11 1 ∷ op0 Ret ∷ []) ∷ (op0 Ret ∷ []) ∷ []) (at (0 ∷ 4 ∷ 1 ∷ 2 ∷ 3 ∷ 5 ∷ 6 ∷ 7 ∷ []) [])
    (registers 13 (0 ∷ 0 ∷ 1 ∷ replicate 8 0 ++ 1 ∷ 0 ∷ 77 ∷ [])) (operands 1 (1 ∷ 77 ∷ [])) (beside [] [] (1 ∷ [])))

-- another operation on lengths: 0
abbrev pub b129 : Row
b129 =
    stays (pic ((const 1 8 ∷ op2 Alloc 2 1 ∷ op3 Bin 8 1 1 ∷ op3 Cat 2 1 1 ∷ fork 0 1 2 ∷ []) ∷ (op2 Output 2 1
    ∷ op0 Ret ∷ []) ∷ (op0 Ret ∷ []) ∷ []) (at (upto 8) []) (registers 11 (0 ∷ 0 ∷ 1 ∷ replicate 8 0 ++ 77 ∷ []))
    (operands 1 (1 ∷ 77 ∷ [])) (beside [] [] (1 ∷ []))) 36 8144 800 (done 0 11 1)

-- a Check of an index, a length: 1
abbrev pub b130 : Row
b130 =
    moves (pic ((const 1 8 ∷ op2 Alloc 2 1 ∷ op Check 3 (1 ∷ 0 ∷ 0 ∷ []) [] [] ∷ op3 Cat 2 1 1 ∷ fork 0 1 2 ∷ [])
    ∷ (op2 Output 2 1 ∷ op0 Ret ∷ []) ∷ (op0 Ret ∷ []) ∷ []) (at (upto 8) []) (registers 11 (0 ∷ 0 ∷ 1
    ∷ replicate 8 0 ++ 77 ∷ 77 ∷ [])) (operands 1 (1 ∷ 77 ∷ [])) (beside [] [] (1 ∷ []))) 38 8152 800 (done 1 12 1)
    ((1 ∷ 0 ∷ 1 ∷ 3 ∷ 12 ∷ 1 ∷ []) ∷ [])
    (pic ((const 1 8 ∷ fork 0 1 2 ∷ []) ∷ (op2 Alloc 11 1 ∷ op Check 3 (1 ∷ 0 ∷ 0 ∷ []) [] [] ∷ op3 Cat 11 1 1
    ∷ op2 Output 11 1 ∷ op0 Ret ∷ []) ∷ (op0 Ret ∷ []) ∷ []) (at (0 ∷ 4 ∷ 1 ∷ 2 ∷ 3 ∷ 5 ∷ 6 ∷ 7 ∷ []) [])
    (registers 12 (0 ∷ 0 ∷ 1 ∷ replicate 8 0 ++ 1 ∷ 77 ∷ [])) (operands 1 (1 ∷ 77 ∷ [])) (beside [] [] (1 ∷ [])))

-- a Check of an index, no length: 0
abbrev pub b131 : Row
b131 =
    stays (pic ((const 1 8 ∷ op2 Alloc 2 1 ∷ op Check 3 (0 ∷ 1 ∷ 1 ∷ []) [] [] ∷ op3 Cat 2 1 1 ∷ fork 0 1 2 ∷ [])
    ∷ (op2 Output 2 1 ∷ op0 Ret ∷ []) ∷ (op0 Ret ∷ []) ∷ []) (at (upto 8) []) (registers 11 (0 ∷ 0 ∷ 1
    ∷ replicate 8 0 ++ 77 ∷ [])) (operands 1 (1 ∷ 77 ∷ [])) (beside [] [] (1 ∷ []))) 36 8144 800 (done 0 11 1)

-- a Check of a range: 0
abbrev pub b132 : Row
b132 =
    stays (pic ((const 1 8 ∷ op2 Alloc 2 1 ∷ op Check 2 (1 ∷ 1 ∷ 1 ∷ []) [] [] ∷ op3 Cat 2 1 1 ∷ fork 0 1 2 ∷ [])
    ∷ (op2 Output 2 1 ∷ op0 Ret ∷ []) ∷ (op0 Ret ∷ []) ∷ []) (at (upto 8) []) (registers 11 (0 ∷ 0 ∷ 1
    ∷ replicate 8 0 ++ 77 ∷ [])) (operands 1 (1 ∷ 77 ∷ [])) (beside [] [] (1 ∷ []))) 36 8144 800 (done 0 11 1)

-- a Check of an index down: 0
abbrev pub b133 : Row
b133 =
    stays (pic ((const 1 8 ∷ op2 Alloc 2 1 ∷ op Check 4 (1 ∷ 1 ∷ 1 ∷ []) [] [] ∷ op3 Cat 2 1 1 ∷ fork 0 1 2 ∷ [])
    ∷ (op2 Output 2 1 ∷ op0 Ret ∷ []) ∷ (op0 Ret ∷ []) ∷ []) (at (upto 8) []) (registers 11 (0 ∷ 0 ∷ 1
    ∷ replicate 8 0 ++ 77 ∷ [])) (operands 1 (1 ∷ 77 ∷ [])) (beside [] [] (1 ∷ []))) 36 8144 800 (done 0 11 1)

-- a block of a length: 1
abbrev pub b134 : Row
b134 =
    moves (pic ((const 1 8 ∷ op2 Alloc 2 1 ∷ op2 Alloc 8 1 ∷ op3 Cat 2 1 1 ∷ fork 0 1 2 ∷ []) ∷ (op2 Output 2 1
    ∷ op0 Ret ∷ []) ∷ (op0 Ret ∷ []) ∷ []) (at (upto 8) []) (registers 11 (0 ∷ 0 ∷ 1 ∷ replicate 8 0 ++ 77 ∷ 77 ∷ 77
    ∷ [])) (operands 1 (1 ∷ 77 ∷ [])) (beside [] [] (1 ∷ []))) 40 8160 800 (done 1 13 1) ((1 ∷ 0 ∷ 1 ∷ 3 ∷ 13 ∷ 1
    ∷ []) ∷ [])
    (pic ((const 1 8 ∷ fork 0 1 2 ∷ []) ∷ (op2 Alloc 11 1 ∷ op2 Alloc 12 1 ∷ op3 Cat 11 1 1 ∷ op2 Output 11 1
    ∷ op0 Ret ∷ []) ∷ (op0 Ret ∷ []) ∷ []) (at (0 ∷ 4 ∷ 1 ∷ 2 ∷ 3 ∷ 5 ∷ 6 ∷ 7 ∷ []) []) (registers 13 (0 ∷ 0 ∷ 1
    ∷ replicate 8 0 ++ 1 ∷ 0 ∷ 77 ∷ [])) (operands 1 (1 ∷ 77 ∷ [])) (beside [] [] (1 ∷ [])))

-- a block of no length: 0
abbrev pub b135 : Row
b135 =
    stays (pic ((const 1 8 ∷ op2 Alloc 2 1 ∷ op2 Alloc 8 0 ∷ op3 Cat 2 1 1 ∷ fork 0 1 2 ∷ []) ∷ (op2 Output 2 1
    ∷ op0 Ret ∷ []) ∷ (op0 Ret ∷ []) ∷ []) (at (upto 8) []) (registers 11 (0 ∷ 0 ∷ 1 ∷ replicate 8 0 ++ 77 ∷ []))
    (operands 1 (1 ∷ 77 ∷ [])) (beside [] [] (1 ∷ []))) 36 8144 800 (done 0 11 1)

-- a package's block of a length: 0
abbrev pub b136 : Row
b136 =
    stays (pic ((const 1 8 ∷ op2 Alloc 2 1 ∷ op2 PkgAlloc 8 1 ∷ op3 Cat 2 1 1 ∷ fork 0 1 2 ∷ []) ∷ (op2 Output 2 1
    ∷ op0 Ret ∷ []) ∷ (op0 Ret ∷ []) ∷ []) (at (upto 8) []) (registers 11 (0 ∷ 0 ∷ 1 ∷ replicate 8 0 ++ 77 ∷ []))
    (operands 1 (1 ∷ 77 ∷ [])) (beside [] [] (1 ∷ []))) 36 8144 800 (done 0 11 1)

-- a Load of a Sig: 0
abbrev pub b137 : Row
b137 =
    stays (pic ((const 1 8 ∷ op2 Alloc 2 1 ∷ op Load 4 (8 ∷ 2 ∷ []) [] [] ∷ op3 Cat 2 1 1 ∷ fork 0 1 2 ∷ [])
    ∷ (op2 Output 2 1 ∷ op0 Ret ∷ []) ∷ (op0 Ret ∷ []) ∷ []) (at (upto 8) []) (registers 11 (0 ∷ 0 ∷ 1
    ∷ replicate 8 0 ++ 77 ∷ [])) (operands 1 (1 ∷ 77 ∷ [])) (beside [] [] (1 ∷ []))) 36 8144 800 (done 0 11 1)

-- a cached layout: 0
abbrev pub b138 : Row
b138 =
    stays (pic ((const 1 8 ∷ op2 Alloc 2 1 ∷ op LayoutOf 1 (8 ∷ 2 ∷ []) [] [] ∷ op3 Cat 2 1 1 ∷ fork 0 1 2 ∷ [])
    ∷ (op2 Output 2 1 ∷ op0 Ret ∷ []) ∷ (op0 Ret ∷ []) ∷ []) (at (upto 8) []) (registers 11 (0 ∷ 0 ∷ 1
    ∷ replicate 8 0 ++ 77 ∷ [])) (operands 1 (1 ∷ 77 ∷ [])) (beside [] [] (1 ∷ []))) 36 8144 800 (done 0 11 1)

-- an Index: 1
abbrev pub b139 : Row
b139 =
    moves (pic ((const 1 8 ∷ op2 Alloc 2 1 ∷ op3 Index 8 0 0 ∷ op3 Cat 2 1 1 ∷ fork 0 1 2 ∷ []) ∷ (op2 Output 2 1
    ∷ op0 Ret ∷ []) ∷ (op0 Ret ∷ []) ∷ []) (at (upto 8) []) (registers 11 (0 ∷ 0 ∷ 1 ∷ replicate 8 0 ++ 77 ∷ 77 ∷ 77
    ∷ [])) (operands 1 (1 ∷ 77 ∷ [])) (beside [] [] (1 ∷ []))) 40 8160 800 (done 1 13 1) ((1 ∷ 0 ∷ 1 ∷ 3 ∷ 13 ∷ 1
    ∷ []) ∷ [])
    (pic ((const 1 8 ∷ fork 0 1 2 ∷ []) ∷ (op2 Alloc 11 1 ∷ op3 Index 12 0 0 ∷ op3 Cat 11 1 1 ∷ op2 Output 11 1
    ∷ op0 Ret ∷ []) ∷ (op0 Ret ∷ []) ∷ []) (at (0 ∷ 4 ∷ 1 ∷ 2 ∷ 3 ∷ 5 ∷ 6 ∷ 7 ∷ []) []) (registers 13 (0 ∷ 0 ∷ 1
    ∷ replicate 8 0 ++ 1 ∷ 0 ∷ 77 ∷ [])) (operands 1 (1 ∷ 77 ∷ [])) (beside [] [] (1 ∷ [])))

-- a SigVal: 1
abbrev pub b140 : Row
b140 =
    moves (pic ((const 1 8 ∷ op2 Alloc 2 1 ∷ op3 SigVal 8 0 0 ∷ op3 Cat 2 1 1 ∷ fork 0 1 2 ∷ []) ∷ (op2 Output 2 1
    ∷ op0 Ret ∷ []) ∷ (op0 Ret ∷ []) ∷ []) (at (upto 8) []) (registers 11 (0 ∷ 0 ∷ 1 ∷ replicate 8 0 ++ 77 ∷ 77 ∷ 77
    ∷ [])) (operands 1 (1 ∷ 77 ∷ [])) (beside [] [] (1 ∷ []))) 40 8160 800 (done 1 13 1) ((1 ∷ 0 ∷ 1 ∷ 3 ∷ 13 ∷ 1
    ∷ []) ∷ [])
    (pic ((const 1 8 ∷ fork 0 1 2 ∷ []) ∷ (op2 Alloc 11 1 ∷ op3 SigVal 12 0 0 ∷ op3 Cat 11 1 1 ∷ op2 Output 11 1
    ∷ op0 Ret ∷ []) ∷ (op0 Ret ∷ []) ∷ []) (at (0 ∷ 4 ∷ 1 ∷ 2 ∷ 3 ∷ 5 ∷ 6 ∷ 7 ∷ []) []) (registers 13 (0 ∷ 0 ∷ 1
    ∷ replicate 8 0 ++ 1 ∷ 0 ∷ 77 ∷ [])) (operands 1 (1 ∷ 77 ∷ [])) (beside [] [] (1 ∷ [])))

-- a SigRead into a member's block: 1
abbrev pub b141 : Row
b141 =
    moves (pic ((const 1 8 ∷ op2 Alloc 2 1 ∷ op2 SigRead 2 0 ∷ op3 Cat 2 1 1 ∷ fork 0 1 2 ∷ []) ∷ (op2 Output 2 1
    ∷ op0 Ret ∷ []) ∷ (op0 Ret ∷ []) ∷ []) (at (upto 8) []) (registers 11 (0 ∷ 0 ∷ 1 ∷ replicate 8 0 ++ 77 ∷ 77 ∷ []))
    (operands 1 (1 ∷ 77 ∷ [])) (beside [] [] (1 ∷ []))) 38 8152 800 (done 1 12 1) ((1 ∷ 0 ∷ 1 ∷ 3 ∷ 12 ∷ 1 ∷ []) ∷ [])
    (pic ((const 1 8 ∷ fork 0 1 2 ∷ []) ∷ (op2 Alloc 11 1 ∷ op2 SigRead 11 0 ∷ op3 Cat 11 1 1 ∷ op2 Output 11 1
    ∷ op0 Ret ∷ []) ∷ (op0 Ret ∷ []) ∷ []) (at (0 ∷ 4 ∷ 1 ∷ 2 ∷ 3 ∷ 5 ∷ 6 ∷ 7 ∷ []) []) (registers 12 (0 ∷ 0 ∷ 1
    ∷ replicate 8 0 ++ 1 ∷ 77 ∷ [])) (operands 1 (1 ∷ 77 ∷ [])) (beside [] [] (1 ∷ [])))

-- a SigRead into something: 0
abbrev pub b142 : Row
b142 =
    stays (pic ((const 1 8 ∷ op2 Alloc 2 1 ∷ op2 SigRead 0 0 ∷ op3 Cat 2 1 1 ∷ fork 0 1 2 ∷ []) ∷ (op2 Output 2 1
    ∷ op0 Ret ∷ []) ∷ (op0 Ret ∷ []) ∷ []) (at (upto 8) []) (registers 11 (0 ∷ 0 ∷ 1 ∷ replicate 8 0 ++ 77 ∷ []))
    (operands 1 (1 ∷ 77 ∷ [])) (beside [] [] (1 ∷ []))) 36 8144 800 (done 0 11 1)

-- a MakeDope into a member's block: 1
abbrev pub b143 : Row
b143 =
    moves (pic ((const 1 8 ∷ op2 Alloc 2 1 ∷ op MakeDope 0 (2 ∷ []) (0 ∷ 1 ∷ []) [] ∷ op3 Cat 2 1 1 ∷ fork 0 1 2 ∷ [])
    ∷ (op2 Output 2 1 ∷ op0 Ret ∷ []) ∷ (op0 Ret ∷ []) ∷ []) (at (upto 8) []) (registers 11 (0 ∷ 0 ∷ 1
    ∷ replicate 8 0 ++ 77 ∷ 77 ∷ [])) (operands 1 (1 ∷ 77 ∷ [])) (beside [] [] (1 ∷ []))) 38 8152 800 (done 1 12 1)
    ((1 ∷ 0 ∷ 1 ∷ 3 ∷ 12 ∷ 1 ∷ []) ∷ [])
    (pic ((const 1 8 ∷ fork 0 1 2 ∷ []) ∷ (op2 Alloc 11 1 ∷ op MakeDope 0 (11 ∷ []) (0 ∷ 1 ∷ []) [] ∷ op3 Cat 11 1 1
    ∷ op2 Output 11 1 ∷ op0 Ret ∷ []) ∷ (op0 Ret ∷ []) ∷ []) (at (0 ∷ 4 ∷ 1 ∷ 2 ∷ 3 ∷ 5 ∷ 6 ∷ 7 ∷ []) [])
    (registers 12 (0 ∷ 0 ∷ 1 ∷ replicate 8 0 ++ 1 ∷ 77 ∷ [])) (operands 1 (1 ∷ 77 ∷ [])) (beside [] [] (1 ∷ [])))

-- a MakeDope into something: 0
abbrev pub b144 : Row
b144 =
    stays (pic ((const 1 8 ∷ op2 Alloc 2 1 ∷ op MakeDope 0 (0 ∷ []) (0 ∷ 1 ∷ []) [] ∷ op3 Cat 2 1 1 ∷ fork 0 1 2 ∷ [])
    ∷ (op2 Output 2 1 ∷ op0 Ret ∷ []) ∷ (op0 Ret ∷ []) ∷ []) (at (upto 8) []) (registers 11 (0 ∷ 0 ∷ 1
    ∷ replicate 8 0 ++ 77 ∷ [])) (operands 1 (1 ∷ 77 ∷ [])) (beside [] [] (1 ∷ []))) 36 8144 800 (done 0 11 1)

-- a read of the frame, whose address is made elsewhere: 1
abbrev pub b145 : Row
b145 =
    moves (pic ((const 1 8 ∷ op2 Alloc 2 1 ∷ op Load 3 (8 ∷ 9 ∷ []) [] [] ∷ op3 Cat 2 1 1 ∷ fork 0 1 2 ∷ [])
    ∷ (op2 Output 2 1 ∷ op0 Ret ∷ []) ∷ (op1 AddrOf 9 ∷ op0 Ret ∷ []) ∷ []) (at (upto 9) []) (registers 11 (0 ∷ 0 ∷ 1
    ∷ replicate 8 0 ++ 77 ∷ 77 ∷ 77 ∷ [])) (operands 1 (1 ∷ 77 ∷ [])) (beside [] [] (1 ∷ []))) 40 8160 800
    (done 1 13 1) ((1 ∷ 0 ∷ 1 ∷ 3 ∷ 13 ∷ 1 ∷ []) ∷ [])
    (pic ((const 1 8 ∷ fork 0 1 2 ∷ []) ∷ (op2 Alloc 11 1 ∷ op Load 3 (12 ∷ 9 ∷ []) [] [] ∷ op3 Cat 11 1 1
    ∷ op2 Output 11 1 ∷ op0 Ret ∷ []) ∷ (op1 AddrOf 9 ∷ op0 Ret ∷ []) ∷ []) (at (0 ∷ 4 ∷ 1 ∷ 2 ∷ 3 ∷ 5 ∷ 6 ∷ 7 ∷ 8
    ∷ []) []) (registers 13 (0 ∷ 0 ∷ 1 ∷ replicate 8 0 ++ 1 ∷ 0 ∷ 77 ∷ [])) (operands 1 (1 ∷ 77 ∷ [])) (beside [] []
    (1 ∷ [])))

-- a read of the frame above, whose address is made elsewhere: 0
abbrev pub b146 : Row
b146 =
    stays (pic ((const 1 8 ∷ op2 Alloc 2 1 ∷ op Load 3 (8 ∷ 9 ∷ []) [] [] ∷ op3 Cat 2 1 1 ∷ fork 0 1 2 ∷ [])
    ∷ (op2 Output 2 1 ∷ op0 Ret ∷ []) ∷ (op AddrOf 1 (9 ∷ []) [] [] ∷ op0 Ret ∷ []) ∷ []) (at (upto 9) [])
    (registers 11 (0 ∷ 0 ∷ 1 ∷ replicate 8 0 ++ 77 ∷ [])) (operands 1 (1 ∷ 77 ∷ [])) (beside [] [] (1
    ∷ []))) 36 8144 800 (done 0 11 1)

-- a read of the instance, whose address is made elsewhere: 1
abbrev pub b147 : Row
b147 =
    moves (pic ((const 1 8 ∷ op2 Alloc 2 1 ∷ op Load 3 (8 ∷ 9 ∷ []) [] [] ∷ op3 Cat 2 1 1 ∷ fork 0 1 2 ∷ [])
    ∷ (op2 Output 2 1 ∷ op0 Ret ∷ []) ∷ (op AddrOf 2 (9 ∷ []) [] [] ∷ op0 Ret ∷ []) ∷ []) (at (upto 9) [])
    (registers 11 (0 ∷ 0 ∷ 1 ∷ replicate 8 0 ++ 77 ∷ 77 ∷ 77 ∷ [])) (operands 1 (1 ∷ 77 ∷ [])) (beside [] [] (1
    ∷ []))) 40 8160 800 (done 1 13 1) ((1 ∷ 0 ∷ 1 ∷ 3 ∷ 13 ∷ 1 ∷ []) ∷ [])
    (pic ((const 1 8 ∷ fork 0 1 2 ∷ []) ∷ (op2 Alloc 11 1 ∷ op Load 3 (12 ∷ 9 ∷ []) [] [] ∷ op3 Cat 11 1 1
    ∷ op2 Output 11 1 ∷ op0 Ret ∷ []) ∷ (op AddrOf 2 (9 ∷ []) [] [] ∷ op0 Ret ∷ []) ∷ []) (at (0 ∷ 4 ∷ 1 ∷ 2 ∷ 3 ∷ 5
    ∷ 6 ∷ 7 ∷ 8 ∷ []) []) (registers 13 (0 ∷ 0 ∷ 1 ∷ replicate 8 0 ++ 1 ∷ 0 ∷ 77 ∷ [])) (operands 1 (1 ∷ 77 ∷ []))
    (beside [] [] (1 ∷ [])))

-- a read of the pool, whose address is made elsewhere: 1
abbrev pub b149 : Row
b149 =
    moves (pic ((const 1 8 ∷ op2 Alloc 2 1 ∷ op Load 3 (8 ∷ 9 ∷ []) [] [] ∷ op3 Cat 2 1 1 ∷ fork 0 1 2 ∷ [])
    ∷ (op2 Output 2 1 ∷ op0 Ret ∷ []) ∷ (op AddrOf 4 (9 ∷ []) [] [] ∷ op0 Ret ∷ []) ∷ []) (at (upto 9) [])
    (registers 11 (0 ∷ 0 ∷ 1 ∷ replicate 8 0 ++ 77 ∷ 77 ∷ 77 ∷ [])) (operands 1 (1 ∷ 77 ∷ [])) (beside [] [] (1
    ∷ []))) 40 8160 800 (done 1 13 1) ((1 ∷ 0 ∷ 1 ∷ 3 ∷ 13 ∷ 1 ∷ []) ∷ [])
    (pic ((const 1 8 ∷ fork 0 1 2 ∷ []) ∷ (op2 Alloc 11 1 ∷ op Load 3 (12 ∷ 9 ∷ []) [] [] ∷ op3 Cat 11 1 1
    ∷ op2 Output 11 1 ∷ op0 Ret ∷ []) ∷ (op AddrOf 4 (9 ∷ []) [] [] ∷ op0 Ret ∷ []) ∷ []) (at (0 ∷ 4 ∷ 1 ∷ 2 ∷ 3 ∷ 5
    ∷ 6 ∷ 7 ∷ 8 ∷ []) []) (registers 13 (0 ∷ 0 ∷ 1 ∷ replicate 8 0 ++ 1 ∷ 0 ∷ 77 ∷ [])) (operands 1 (1 ∷ 77 ∷ []))
    (beside [] [] (1 ∷ [])))

-- a read of a shared place, whose address is made elsewhere: 0
abbrev pub b150 : Row
b150 =
    stays (pic ((const 1 8 ∷ op2 Alloc 2 1 ∷ op Load 3 (8 ∷ 9 ∷ []) [] [] ∷ op3 Cat 2 1 1 ∷ fork 0 1 2 ∷ [])
    ∷ (op2 Output 2 1 ∷ op0 Ret ∷ []) ∷ (op AddrOf 5 (9 ∷ []) [] [] ∷ op0 Ret ∷ []) ∷ []) (at (upto 9) [])
    (registers 11 (0 ∷ 0 ∷ 1 ∷ replicate 8 0 ++ 77 ∷ [])) (operands 1 (1 ∷ 77 ∷ [])) (beside [] [] (1
    ∷ []))) 36 8144 800 (done 0 11 1)

-- a sum with a constant made elsewhere: 1
abbrev pub b151 : Row
b151 =
    moves (pic ((const 1 8 ∷ op2 Alloc 2 1 ∷ op Bin 1 (8 ∷ 9 ∷ 1 ∷ []) [] [] ∷ op3 Cat 2 1 1 ∷ fork 0 1 2 ∷ [])
    ∷ (op2 Output 2 1 ∷ op0 Ret ∷ []) ∷ (const 9 3 ∷ op0 Ret ∷ []) ∷ []) (at (upto 9) []) (registers 11 (0 ∷ 0 ∷ 1
    ∷ replicate 8 0 ++ 77 ∷ 77 ∷ 77 ∷ [])) (operands 1 (1 ∷ 77 ∷ [])) (beside [] [] (1 ∷ []))) 40 8160 800
    (done 1 13 1) ((1 ∷ 0 ∷ 1 ∷ 3 ∷ 13 ∷ 1 ∷ []) ∷ [])
    (pic ((const 1 8 ∷ fork 0 1 2 ∷ []) ∷ (op2 Alloc 11 1 ∷ op Bin 1 (12 ∷ 9 ∷ 1 ∷ []) [] [] ∷ op3 Cat 11 1 1
    ∷ op2 Output 11 1 ∷ op0 Ret ∷ []) ∷ (const 9 3 ∷ op0 Ret ∷ []) ∷ []) (at (0 ∷ 4 ∷ 1 ∷ 2 ∷ 3 ∷ 5 ∷ 6 ∷ 7 ∷ 8
    ∷ []) []) (registers 13 (0 ∷ 0 ∷ 1 ∷ replicate 8 0 ++ 1 ∷ 0 ∷ 77 ∷ [])) (operands 1 (1 ∷ 77 ∷ [])) (beside [] []
    (1 ∷ [])))

-- a sum with a float made elsewhere: 0
abbrev pub b152 : Row
b152 =
    stays (pic ((const 1 8 ∷ op2 Alloc 2 1 ∷ op Bin 1 (8 ∷ 9 ∷ 1 ∷ []) [] [] ∷ op3 Cat 2 1 1 ∷ fork 0 1 2 ∷ [])
    ∷ (op2 Output 2 1 ∷ op0 Ret ∷ []) ∷ (op ConstF 0 (9 ∷ []) [] (3 ∷ []) ∷ op0 Ret ∷ []) ∷ []) (at (upto 9) [])
    (registers 11 (0 ∷ 0 ∷ 1 ∷ replicate 8 0 ++ 77 ∷ [])) (operands 1 (1 ∷ 77 ∷ [])) (beside [] [] (1
    ∷ []))) 36 8144 800 (done 0 11 1)

-- a register with one writer after round 1: 1
abbrev pub b153 : Row
b153 =
    moves (pic ((const 1 8 ∷ op2 Alloc 2 1 ∷ op3 Cmp 3 1 1 ∷ op3 Cmp 4 1 3 ∷ op3 Cmp 5 1 4 ∷ op3 Cmp 6 1 5
    ∷ op3 Cmp 7 1 6 ∷ op3 Cmp 9 1 1 ∷ op3 Cat 2 1 1 ∷ fork 0 1 2 ∷ []) ∷ (op2 Output 2 1 ∷ op0 Ret ∷ []) ∷ (const 9 8
    ∷ op0 Ret ∷ []) ∷ (op2 Alloc 2 9 ∷ op3 Cmp 3 1 1 ∷ op3 Cmp 4 1 3 ∷ op3 Cmp 5 1 4 ∷ op3 Cmp 6 1 5 ∷ op3 Cmp 7 1 6
    ∷ op3 Cmp 8 1 7 ∷ op3 Cat 2 1 1 ∷ fork 0 4 5 ∷ []) ∷ (op2 Output 2 1 ∷ op0 Ret ∷ []) ∷ (op0 Ret ∷ []) ∷ []) (at
    (upto 26) []) (registers 10 (0 ∷ 0 ∷ 1 ∷ replicate 7 0 ++ 77 ∷ 77 ∷ 77 ∷ 77 ∷ [])) (operands 0 (77 ∷ []))
    (beside [] [] [])) 52 8208 800 (done 1 13 0) ((1 ∷ 0 ∷ 1 ∷ 8 ∷ 13 ∷ 0 ∷ []) ∷ [])
    (pic ((const 1 8 ∷ fork 0 1 2 ∷ []) ∷ (op2 Alloc 10 1 ∷ op3 Cmp 11 1 1 ∷ op3 Cmp 12 1 11 ∷ op3 Cmp 11 1 12
    ∷ op3 Cmp 12 1 11 ∷ op3 Cmp 11 1 12 ∷ op3 Cmp 11 1 1 ∷ op3 Cat 10 1 1 ∷ op2 Output 10 1 ∷ op0 Ret ∷ [])
    ∷ (const 9 8 ∷ op0 Ret ∷ []) ∷ (op2 Alloc 2 9 ∷ op3 Cmp 3 1 1 ∷ op3 Cmp 4 1 3 ∷ op3 Cmp 5 1 4 ∷ op3 Cmp 6 1 5
    ∷ op3 Cmp 7 1 6 ∷ op3 Cmp 8 1 7 ∷ op3 Cat 2 1 1 ∷ fork 0 4 5 ∷ []) ∷ (op2 Output 2 1 ∷ op0 Ret ∷ []) ∷ (op0 Ret
    ∷ []) ∷ []) (at (0 ∷ 9 ∷ range 1 8 ++ range 10 16) []) (registers 13 (0 ∷ 0 ∷ 1 ∷ replicate 7 0 ++ 1 ∷ 0 ∷ 0 ∷ 77
    ∷ [])) (operands 0 (77 ∷ [])) (beside [] [] []))

-- a read of the frame: 1
abbrev pub b154 : Row
b154 =
    moves (pic ((const 1 8 ∷ op2 Alloc 2 1 ∷ op1 AddrOf 9 ∷ op Load 3 (8 ∷ 9 ∷ []) [] [] ∷ op3 Cat 2 1 1 ∷ fork 0 1 2
    ∷ []) ∷ (op2 Output 2 1 ∷ op0 Ret ∷ []) ∷ (op0 Ret ∷ []) ∷ []) (at (upto 9) []) (registers 11 (0 ∷ 0 ∷ 1
    ∷ replicate 8 0 ++ 77 ∷ 77 ∷ 77 ∷ [])) (operands 1 (1 ∷ 77 ∷ [])) (beside [] [] (1 ∷ []))) 40 8160 800
    (done 1 13 1) ((1 ∷ 0 ∷ 1 ∷ 3 ∷ 13 ∷ 1 ∷ []) ∷ [])
    (pic ((const 1 8 ∷ op1 AddrOf 9 ∷ fork 0 1 2 ∷ []) ∷ (op2 Alloc 11 1 ∷ op Load 3 (12 ∷ 9 ∷ []) [] []
    ∷ op3 Cat 11 1 1 ∷ op2 Output 11 1 ∷ op0 Ret ∷ []) ∷ (op0 Ret ∷ []) ∷ []) (at (0 ∷ 2 ∷ 5 ∷ 1 ∷ 3 ∷ 4 ∷ 6 ∷ 7 ∷ 8
    ∷ []) []) (registers 13 (0 ∷ 0 ∷ 1 ∷ replicate 8 0 ++ 1 ∷ 0 ∷ 77 ∷ [])) (operands 1 (1 ∷ 77 ∷ [])) (beside [] []
    (1 ∷ [])))

-- a read of the frame, written behind it: 0
abbrev pub b155 : Row
b155 =
    stays (pic ((const 1 8 ∷ op2 Alloc 2 1 ∷ op1 AddrOf 9 ∷ op Load 3 (8 ∷ 9 ∷ []) [] [] ∷ op3 Fill 9 1 1
    ∷ op3 Cat 2 1 1 ∷ fork 0 1 2 ∷ []) ∷ (op2 Output 2 1 ∷ op0 Ret ∷ []) ∷ (op0 Ret ∷ []) ∷ []) (at (upto 10) [])
    (registers 11 (0 ∷ 0 ∷ 1 ∷ replicate 8 0 ++ 77 ∷ [])) (operands 1 (1 ∷ 77 ∷ [])) (beside [] [] (1
    ∷ []))) 36 8144 800 (done 0 11 1)

-- a read of the frame, written before it: 1
abbrev pub b156 : Row
b156 =
    moves (pic ((const 1 8 ∷ op2 Alloc 2 1 ∷ op1 AddrOf 9 ∷ op3 Fill 9 1 1 ∷ op Load 3 (8 ∷ 9 ∷ []) [] []
    ∷ op3 Cat 2 1 1 ∷ fork 0 1 2 ∷ []) ∷ (op2 Output 2 1 ∷ op0 Ret ∷ []) ∷ (op0 Ret ∷ []) ∷ []) (at (upto 10) [])
    (registers 11 (0 ∷ 0 ∷ 1 ∷ replicate 8 0 ++ 77 ∷ 77 ∷ 77 ∷ [])) (operands 1 (1 ∷ 77 ∷ [])) (beside [] [] (1
    ∷ []))) 40 8160 800 (done 1 13 1) ((1 ∷ 0 ∷ 1 ∷ 3 ∷ 13 ∷ 1 ∷ []) ∷ [])
    (pic ((const 1 8 ∷ op1 AddrOf 9 ∷ op3 Fill 9 1 1 ∷ fork 0 1 2 ∷ []) ∷ (op2 Alloc 11 1 ∷ op Load 3 (12 ∷ 9
    ∷ []) [] [] ∷ op3 Cat 11 1 1 ∷ op2 Output 11 1 ∷ op0 Ret ∷ []) ∷ (op0 Ret ∷ []) ∷ []) (at (0 ∷ 2 ∷ 3 ∷ 6 ∷ 1 ∷ 4
    ∷ 5 ∷ 7 ∷ 8 ∷ 9 ∷ []) []) (registers 13 (0 ∷ 0 ∷ 1 ∷ replicate 8 0 ++ 1 ∷ 0 ∷ 77 ∷ [])) (operands 1 (1 ∷ 77 ∷ []))
    (beside [] [] (1 ∷ [])))

-- a read of the instance: 1
abbrev pub b157 : Row
b157 =
    moves (pic ((const 1 8 ∷ op2 Alloc 2 1 ∷ op AddrOf 2 (9 ∷ []) [] [] ∷ op Load 3 (8 ∷ 9 ∷ []) [] [] ∷ op3 Cat 2 1 1
    ∷ fork 0 1 2 ∷ []) ∷ (op2 Output 2 1 ∷ op0 Ret ∷ []) ∷ (op0 Ret ∷ []) ∷ []) (at (upto 9) []) (registers 11 (0 ∷ 0
    ∷ 1 ∷ replicate 8 0 ++ 77 ∷ 77 ∷ 77 ∷ [])) (operands 1 (1 ∷ 77 ∷ [])) (beside [] [] (1 ∷ []))) 40 8160 800
    (done 1 13 1) ((1 ∷ 0 ∷ 1 ∷ 3 ∷ 13 ∷ 1 ∷ []) ∷ [])
    (pic ((const 1 8 ∷ op AddrOf 2 (9 ∷ []) [] [] ∷ fork 0 1 2 ∷ []) ∷ (op2 Alloc 11 1 ∷ op Load 3 (12 ∷ 9 ∷ []) [] []
    ∷ op3 Cat 11 1 1 ∷ op2 Output 11 1 ∷ op0 Ret ∷ []) ∷ (op0 Ret ∷ []) ∷ []) (at (0 ∷ 2 ∷ 5 ∷ 1 ∷ 3 ∷ 4 ∷ 6 ∷ 7 ∷ 8
    ∷ []) []) (registers 13 (0 ∷ 0 ∷ 1 ∷ replicate 8 0 ++ 1 ∷ 0 ∷ 77 ∷ [])) (operands 1 (1 ∷ 77 ∷ [])) (beside [] []
    (1 ∷ [])))

-- a read of the instance, written behind it: 1
abbrev pub b158 : Row
b158 =
    moves (pic ((const 1 8 ∷ op2 Alloc 2 1 ∷ op AddrOf 2 (9 ∷ []) [] [] ∷ op Load 3 (8 ∷ 9 ∷ []) [] []
    ∷ op3 Fill 9 1 1 ∷ op3 Cat 2 1 1 ∷ fork 0 1 2 ∷ []) ∷ (op2 Output 2 1 ∷ op0 Ret ∷ []) ∷ (op0 Ret ∷ []) ∷ []) (at
    (upto 10) []) (registers 11 (0 ∷ 0 ∷ 1 ∷ replicate 8 0 ++ 77 ∷ 77 ∷ 77 ∷ [])) (operands 1 (1 ∷ 77 ∷ []))
    (beside [] [] (1 ∷ []))) 40 8160 800 (done 1 13 1) ((1 ∷ 0 ∷ 1 ∷ 3 ∷ 13 ∷ 1 ∷ []) ∷ [])
    (pic ((const 1 8 ∷ op AddrOf 2 (9 ∷ []) [] [] ∷ op3 Fill 9 1 1 ∷ fork 0 1 2 ∷ []) ∷ (op2 Alloc 11 1 ∷ op Load 3
    (12 ∷ 9 ∷ []) [] [] ∷ op3 Cat 11 1 1 ∷ op2 Output 11 1 ∷ op0 Ret ∷ []) ∷ (op0 Ret ∷ []) ∷ []) (at (0 ∷ 2 ∷ 4 ∷ 6
    ∷ 1 ∷ 3 ∷ 5 ∷ 7 ∷ 8 ∷ 9 ∷ []) []) (registers 13 (0 ∷ 0 ∷ 1 ∷ replicate 8 0 ++ 1 ∷ 0 ∷ 77 ∷ [])) (operands 1 (1
    ∷ 77 ∷ [])) (beside [] [] (1 ∷ [])))

-- a read of the pool: 1
abbrev pub b160 : Row
b160 =
    moves (pic ((const 1 8 ∷ op2 Alloc 2 1 ∷ op AddrOf 4 (9 ∷ []) [] [] ∷ op Load 3 (8 ∷ 9 ∷ []) [] [] ∷ op3 Cat 2 1 1
    ∷ fork 0 1 2 ∷ []) ∷ (op2 Output 2 1 ∷ op0 Ret ∷ []) ∷ (op0 Ret ∷ []) ∷ []) (at (upto 9) []) (registers 11 (0 ∷ 0
    ∷ 1 ∷ replicate 8 0 ++ 77 ∷ 77 ∷ 77 ∷ [])) (operands 1 (1 ∷ 77 ∷ [])) (beside [] [] (1 ∷ []))) 40 8160 800
    (done 1 13 1) ((1 ∷ 0 ∷ 1 ∷ 3 ∷ 13 ∷ 1 ∷ []) ∷ [])
    (pic ((const 1 8 ∷ op AddrOf 4 (9 ∷ []) [] [] ∷ fork 0 1 2 ∷ []) ∷ (op2 Alloc 11 1 ∷ op Load 3 (12 ∷ 9 ∷ []) [] []
    ∷ op3 Cat 11 1 1 ∷ op2 Output 11 1 ∷ op0 Ret ∷ []) ∷ (op0 Ret ∷ []) ∷ []) (at (0 ∷ 2 ∷ 5 ∷ 1 ∷ 3 ∷ 4 ∷ 6 ∷ 7 ∷ 8
    ∷ []) []) (registers 13 (0 ∷ 0 ∷ 1 ∷ replicate 8 0 ++ 1 ∷ 0 ∷ 77 ∷ [])) (operands 1 (1 ∷ 77 ∷ [])) (beside [] []
    (1 ∷ [])))

abbrev pub rows9 : List Row
rows9 =
    b121 ∷ b122 ∷ b123 ∷ b124 ∷ b125 ∷ b126 ∷ b127 ∷ b128 ∷ b129 ∷ b130 ∷ b131 ∷ b132 ∷ b133 ∷ b134 ∷ b135 ∷ b136
    ∷ b137 ∷ b138 ∷ b139 ∷ b140 ∷ b141 ∷ b142 ∷ b143 ∷ b144 ∷ b145 ∷ b146 ∷ b147 ∷ b149 ∷ b150 ∷ b151 ∷ b152 ∷ b153
    ∷ b154 ∷ b155 ∷ b156 ∷ b157 ∷ b158 ∷ b160 ∷ []
