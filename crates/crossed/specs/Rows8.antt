-- Pictures at the bounds of document 01, page 8: what the Rust makes of them, and tests/rust's judgement of refused ones. Printed by
-- `compare crossed` in tests/rust, and again by its compare.sh: not to be edited. Assumes nothing.
use Rattle.std.specs.Prelude.{List, [], ◌∷◌, ◌++◌, replicate}
use Rattle.words.specs.Lists.{range, upto}
use Rattle.model.specs.Kinds.{AddrOf, Alloc, Bin, BoolOp, BoundsLen, CallNative, Case, Cat, Cmp, ConstF}
use Rattle.model.specs.Kinds.{Cover, DopeLen, FCmp, Index, LayoutOf, Load, Move, Output, Ret, Select}
use Rattle.model.specs.Kinds.{SigReadScalar}
use Rattle.model.specs.Build.{op}
use Rattle.crossed.specs.Row.{Row, pic, at, registers, operands, beside, op0, op1, op2, op3, op4, br, fork, const, moves, stays, done}

-- an empty target: 1
abbrev pub b64 : Row
b64 =
    moves (pic ((const 1 8 ∷ op2 Alloc 2 1 ∷ op3 Cmp 3 1 1 ∷ op3 Cmp 4 1 3 ∷ op3 Cmp 5 1 4 ∷ op3 Cmp 6 1 5
    ∷ op3 Cmp 7 1 6 ∷ op3 Cmp 8 1 7 ∷ op3 Cat 2 1 1 ∷ fork 0 1 2 ∷ []) ∷ [] ∷ (op0 Ret ∷ []) ∷ []) (at (upto 11) [])
    (registers 9 (0 ∷ 0 ∷ 1 ∷ replicate 6 0 ++ 77 ∷ 77 ∷ 77 ∷ 77 ∷ [])) (operands 0 (77 ∷ []))
    (beside [] [] [])) 38 8152 800 (done 1 12 0) ((1 ∷ 0 ∷ 1 ∷ 8 ∷ 12 ∷ 0 ∷ []) ∷ [])
    (pic ((const 1 8 ∷ fork 0 1 2 ∷ []) ∷ (op2 Alloc 9 1 ∷ op3 Cmp 10 1 1 ∷ op3 Cmp 11 1 10 ∷ op3 Cmp 10 1 11
    ∷ op3 Cmp 11 1 10 ∷ op3 Cmp 10 1 11 ∷ op3 Cmp 11 1 10 ∷ op3 Cat 9 1 1 ∷ []) ∷ (op0 Ret ∷ []) ∷ []) (at (0 ∷ 9
    ∷ range 1 8 ++ 10 ∷ []) []) (registers 12 (0 ∷ 0 ∷ 1 ∷ replicate 6 0 ++ 1 ∷ 0 ∷ 0 ∷ 77 ∷ [])) (operands 0 (77
    ∷ [])) (beside [] [] []))

-- an empty target before x: 1
abbrev pub b65 : Row
b65 =
    moves (pic ((br 2 ∷ []) ∷ [] ∷ (const 1 8 ∷ op2 Alloc 2 1 ∷ op3 Cmp 3 1 1 ∷ op3 Cmp 4 1 3 ∷ op3 Cmp 5 1 4
    ∷ op3 Cmp 6 1 5 ∷ op3 Cmp 7 1 6 ∷ op3 Cmp 8 1 7 ∷ op3 Cat 2 1 1 ∷ fork 0 1 3 ∷ []) ∷ (op0 Ret ∷ []) ∷ []) (at
    (upto 12) []) (registers 9 (0 ∷ 0 ∷ 1 ∷ replicate 6 0 ++ 77 ∷ 77 ∷ 77 ∷ 77 ∷ [])) (operands 0 (77 ∷ []))
    (beside [] [] [])) 42 8168 800 (done 1 12 0) ((1 ∷ 2 ∷ 1 ∷ 8 ∷ 12 ∷ 0 ∷ []) ∷ [])
    (pic ((br 2 ∷ []) ∷ (op2 Alloc 9 1 ∷ op3 Cmp 10 1 1 ∷ op3 Cmp 11 1 10 ∷ op3 Cmp 10 1 11 ∷ op3 Cmp 11 1 10
    ∷ op3 Cmp 10 1 11 ∷ op3 Cmp 11 1 10 ∷ op3 Cat 9 1 1 ∷ []) ∷ (const 1 8 ∷ fork 0 1 3 ∷ []) ∷ (op0 Ret ∷ []) ∷ [])
    (at (0 ∷ range 2 8 ++ 1 ∷ 10 ∷ 11 ∷ []) []) (registers 12 (0 ∷ 0 ∷ 1 ∷ replicate 6 0 ++ 1 ∷ 0 ∷ 0 ∷ 77 ∷ []))
    (operands 0 (77 ∷ [])) (beside [] [] []))

-- the target is f: 1
abbrev pub b66 : Row
b66 =
    moves (pic ((const 1 8 ∷ op2 Alloc 2 1 ∷ op3 Cmp 3 1 1 ∷ op3 Cmp 4 1 3 ∷ op3 Cmp 5 1 4 ∷ op3 Cmp 6 1 5
    ∷ op3 Cmp 7 1 6 ∷ op3 Cmp 8 1 7 ∷ op3 Cat 2 1 1 ∷ fork 0 2 1 ∷ []) ∷ (op2 Output 2 1 ∷ op0 Ret ∷ []) ∷ (op0 Ret
    ∷ []) ∷ []) (at (upto 13) []) (registers 9 (0 ∷ 0 ∷ 1 ∷ replicate 6 0 ++ 77 ∷ 77 ∷ 77 ∷ 77 ∷ [])) (operands 0 (77
    ∷ [])) (beside [] [] [])) 38 8152 800 (done 1 12 0) ((1 ∷ 0 ∷ 1 ∷ 8 ∷ 12 ∷ 0 ∷ []) ∷ [])
    (pic ((const 1 8 ∷ fork 0 2 1 ∷ []) ∷ (op2 Alloc 9 1 ∷ op3 Cmp 10 1 1 ∷ op3 Cmp 11 1 10 ∷ op3 Cmp 10 1 11
    ∷ op3 Cmp 11 1 10 ∷ op3 Cmp 10 1 11 ∷ op3 Cmp 11 1 10 ∷ op3 Cat 9 1 1 ∷ op2 Output 9 1 ∷ op0 Ret ∷ []) ∷ (op0 Ret
    ∷ []) ∷ []) (at (0 ∷ 9 ∷ range 1 8 ++ 10 ∷ 11 ∷ 12 ∷ []) []) (registers 12 (0 ∷ 0 ∷ 1 ∷ replicate 6 0 ++ 1 ∷ 0 ∷ 0
    ∷ 77 ∷ [])) (operands 0 (77 ∷ [])) (beside [] [] []))

-- the target has two predecessors: 0
abbrev pub b67 : Row
b67 =
    stays (pic ((const 1 8 ∷ op2 Alloc 2 1 ∷ op3 Cmp 3 1 1 ∷ op3 Cmp 4 1 3 ∷ op3 Cmp 5 1 4 ∷ op3 Cmp 6 1 5
    ∷ op3 Cmp 7 1 6 ∷ op3 Cmp 8 1 7 ∷ op3 Cat 2 1 1 ∷ fork 0 1 2 ∷ []) ∷ (op2 Output 2 1 ∷ op0 Ret ∷ []) ∷ (br 1 ∷ [])
    ∷ []) (at (upto 13) []) (registers 9 (0 ∷ 0 ∷ 1 ∷ replicate 6 0 ++ 77 ∷ [])) (operands 0 (77 ∷ []))
    (beside [] [] [])) 32 8128 800 (done 0 9 0)

-- the target leads to itself: 0
abbrev pub b68 : Row
b68 =
    stays (pic ((const 1 8 ∷ op2 Alloc 2 1 ∷ op3 Cmp 3 1 1 ∷ op3 Cmp 4 1 3 ∷ op3 Cmp 5 1 4 ∷ op3 Cmp 6 1 5
    ∷ op3 Cmp 7 1 6 ∷ op3 Cmp 8 1 7 ∷ op3 Cat 2 1 1 ∷ fork 0 1 2 ∷ []) ∷ (op2 Output 2 1 ∷ br 1 ∷ []) ∷ (op0 Ret ∷ [])
    ∷ []) (at (upto 13) []) (registers 9 (0 ∷ 0 ∷ 1 ∷ replicate 6 0 ++ 77 ∷ [])) (operands 0 (77 ∷ []))
    (beside [] [] [])) 32 8128 800 (done 0 9 0)

-- the chain comes back to x: 0
abbrev pub b69 : Row
b69 =
    stays (pic ((op0 Ret ∷ []) ∷ (const 1 8 ∷ op2 Alloc 2 1 ∷ op3 Cmp 3 1 1 ∷ op3 Cmp 4 1 3 ∷ op3 Cmp 5 1 4
    ∷ op3 Cmp 6 1 5 ∷ op3 Cmp 7 1 6 ∷ op3 Cmp 8 1 7 ∷ op3 Cat 2 1 1 ∷ br 1 ∷ []) ∷ (op2 Output 2 1 ∷ op0 Ret ∷ [])
    ∷ (op0 Ret ∷ []) ∷ []) (at (upto 14) []) (registers 9 (0 ∷ 0 ∷ 1 ∷ replicate 6 0 ++ 77 ∷ [])) (operands 0 (77
    ∷ [])) (beside [] [] [])) 36 8144 800 (done 0 9 0)

-- x ends in a Case: 0
abbrev pub b70 : Row
b70 =
    stays (pic ((const 1 8 ∷ op2 Alloc 2 1 ∷ op3 Cmp 3 1 1 ∷ op3 Cmp 4 1 3 ∷ op3 Cmp 5 1 4 ∷ op3 Cmp 6 1 5
    ∷ op3 Cmp 7 1 6 ∷ op3 Cmp 8 1 7 ∷ op3 Cat 2 1 1 ∷ op1 Case 0 ∷ []) ∷ (op2 Output 2 1 ∷ op0 Ret ∷ []) ∷ (op0 Ret
    ∷ []) ∷ []) (at (upto 13) []) (registers 9 (0 ∷ 0 ∷ 1 ∷ replicate 6 0 ++ 77 ∷ [])) (operands 0 (77 ∷ []))
    (beside [] [] [])) 32 8128 800 (done 0 9 0)

-- the target leads to itself and writes what it reads: 0
abbrev pub b71 : Row
b71 =
    stays (pic ((const 1 8 ∷ op2 Alloc 2 1 ∷ op3 Cmp 3 1 1 ∷ op3 Cmp 4 1 3 ∷ op3 Cmp 5 1 4 ∷ op3 Cmp 6 1 5
    ∷ op3 Cmp 7 1 6 ∷ op3 Cmp 8 1 7 ∷ op3 Cat 2 1 1 ∷ fork 0 1 2 ∷ []) ∷ (op2 Output 2 1 ∷ const 2 5 ∷ br 1 ∷ [])
    ∷ (op0 Ret ∷ []) ∷ []) (at (upto 14) []) (registers 9 (0 ∷ 0 ∷ 1 ∷ replicate 6 0 ++ 77 ∷ [])) (operands 0 (77
    ∷ [])) (beside [] [] [])) 32 8128 800 (done 0 9 0)

-- the target is x itself, the other has two predecessors: 0
abbrev pub b72 : Row
b72 =
    stays (pic ((op0 Ret ∷ []) ∷ (const 1 8 ∷ op2 Alloc 2 1 ∷ op3 Cmp 3 1 1 ∷ op3 Cmp 4 1 3 ∷ op3 Cmp 5 1 4
    ∷ op3 Cmp 6 1 5 ∷ op3 Cmp 7 1 6 ∷ op3 Cmp 8 1 7 ∷ op3 Cat 2 1 1 ∷ fork 0 1 3 ∷ []) ∷ (op2 Output 2 1 ∷ br 3 ∷ [])
    ∷ (op0 Ret ∷ []) ∷ []) (at (upto 14) []) (registers 9 (0 ∷ 0 ∷ 1 ∷ replicate 6 0 ++ 77 ∷ [])) (operands 0 (77
    ∷ [])) (beside [] [] [])) 36 8144 800 (done 0 9 0)

-- the chain's second block has a second predecessor: 0
abbrev pub b73 : Row
b73 =
    stays (pic ((const 1 8 ∷ op2 Alloc 2 1 ∷ op3 Cmp 3 1 1 ∷ op3 Cmp 4 1 3 ∷ op3 Cmp 5 1 4 ∷ op3 Cmp 6 1 5
    ∷ op3 Cmp 7 1 6 ∷ op3 Cmp 8 1 7 ∷ op3 Cat 2 1 1 ∷ br 3 ∷ []) ∷ (op2 Output 2 1 ∷ op0 Ret ∷ []) ∷ (op0 Ret ∷ [])
    ∷ (op0 Cover ∷ fork 0 1 2 ∷ []) ∷ (br 3 ∷ []) ∷ []) (at (upto 16) []) (registers 9 (0 ∷ 0 ∷ 1
    ∷ replicate 6 0 ++ 77 ∷ [])) (operands 0 (77 ∷ [])) (beside [] [] [])) 40 8160 800 (done 0 9 0)

-- a Br to the target in the middle of a block: 1
abbrev pub b74 : Row
b74 =
    moves (pic ((const 1 8 ∷ op2 Alloc 2 1 ∷ op3 Cmp 3 1 1 ∷ op3 Cmp 4 1 3 ∷ op3 Cmp 5 1 4 ∷ op3 Cmp 6 1 5
    ∷ op3 Cmp 7 1 6 ∷ op3 Cmp 8 1 7 ∷ op3 Cat 2 1 1 ∷ fork 0 1 2 ∷ []) ∷ (op2 Output 2 1 ∷ op0 Ret ∷ []) ∷ (br 1
    ∷ op0 Ret ∷ []) ∷ []) (at (upto 14) []) (registers 9 (0 ∷ 0 ∷ 1 ∷ replicate 6 0 ++ 77 ∷ 77 ∷ 77 ∷ 77 ∷ []))
    (operands 0 (77 ∷ [])) (beside [] [] [])) 38 8152 800 (done 1 12 0) ((1 ∷ 0 ∷ 1 ∷ 8 ∷ 12 ∷ 0 ∷ []) ∷ [])
    (pic ((const 1 8 ∷ fork 0 1 2 ∷ []) ∷ (op2 Alloc 9 1 ∷ op3 Cmp 10 1 1 ∷ op3 Cmp 11 1 10 ∷ op3 Cmp 10 1 11
    ∷ op3 Cmp 11 1 10 ∷ op3 Cmp 10 1 11 ∷ op3 Cmp 11 1 10 ∷ op3 Cat 9 1 1 ∷ op2 Output 9 1 ∷ op0 Ret ∷ []) ∷ (br 1
    ∷ op0 Ret ∷ []) ∷ []) (at (0 ∷ 9 ∷ range 1 8 ++ 10 ∷ 11 ∷ 12 ∷ 13 ∷ []) []) (registers 12 (0 ∷ 0 ∷ 1
    ∷ replicate 6 0 ++ 1 ∷ 0 ∷ 0 ∷ 77 ∷ [])) (operands 0 (77 ∷ [])) (beside [] [] []))

-- the target writes a member's register and reads it: 1
abbrev pub b75 : Row
b75 =
    moves (pic ((const 1 8 ∷ op2 Alloc 2 1 ∷ op3 Cmp 3 1 1 ∷ op3 Cmp 4 1 3 ∷ op3 Cmp 5 1 4 ∷ op3 Cmp 6 1 5
    ∷ op3 Cmp 7 1 6 ∷ op3 Cmp 8 1 7 ∷ op3 Cat 2 1 1 ∷ fork 0 1 2 ∷ []) ∷ (const 3 5 ∷ op2 Output 3 1 ∷ op2 Output 2 1
    ∷ op0 Ret ∷ []) ∷ (op0 Ret ∷ []) ∷ []) (at (upto 15) []) (registers 9 (0 ∷ 0 ∷ 1 ∷ replicate 6 0 ++ 77 ∷ 77 ∷ 77
    ∷ 77 ∷ [])) (operands 0 (77 ∷ [])) (beside [] [] [])) 38 8152 800 (done 1 12 0) ((1 ∷ 0 ∷ 1 ∷ 8 ∷ 12 ∷ 0 ∷ [])
    ∷ [])
    (pic ((const 1 8 ∷ fork 0 1 2 ∷ []) ∷ (op2 Alloc 9 1 ∷ op3 Cmp 10 1 1 ∷ op3 Cmp 11 1 10 ∷ op3 Cmp 10 1 11
    ∷ op3 Cmp 11 1 10 ∷ op3 Cmp 10 1 11 ∷ op3 Cmp 11 1 10 ∷ op3 Cat 9 1 1 ∷ const 3 5 ∷ op2 Output 3 1
    ∷ op2 Output 9 1 ∷ op0 Ret ∷ []) ∷ (op0 Ret ∷ []) ∷ []) (at (0 ∷ 9 ∷ range 1 8 ++ range 10 5) []) (registers 12 (0
    ∷ 0 ∷ 1 ∷ replicate 6 0 ++ 1 ∷ 0 ∷ 0 ∷ 77 ∷ [])) (operands 0 (77 ∷ [])) (beside [] [] []))

-- the target reads and writes a member's register at once: 1
abbrev pub b76 : Row
b76 =
    moves (pic ((const 1 8 ∷ op2 Alloc 2 1 ∷ op3 Cmp 3 1 1 ∷ op3 Cmp 4 1 3 ∷ op3 Cmp 5 1 4 ∷ op3 Cmp 6 1 5
    ∷ op3 Cmp 7 1 6 ∷ op3 Cmp 8 1 7 ∷ op3 Cat 2 1 1 ∷ fork 0 1 2 ∷ []) ∷ (op3 Index 2 2 1 ∷ op2 Output 2 1 ∷ op0 Ret
    ∷ []) ∷ (op0 Ret ∷ []) ∷ []) (at (upto 14) []) (registers 9 (0 ∷ 0 ∷ 1 ∷ replicate 6 0 ++ 77 ∷ 77 ∷ 77 ∷ 77 ∷ []))
    (operands 0 (77 ∷ [])) (beside [] [] [])) 38 8152 800 (done 1 12 0) ((1 ∷ 0 ∷ 1 ∷ 8 ∷ 12 ∷ 0 ∷ []) ∷ [])
    (pic ((const 1 8 ∷ fork 0 1 2 ∷ []) ∷ (op2 Alloc 9 1 ∷ op3 Cmp 10 1 1 ∷ op3 Cmp 11 1 10 ∷ op3 Cmp 10 1 11
    ∷ op3 Cmp 11 1 10 ∷ op3 Cmp 10 1 11 ∷ op3 Cmp 11 1 10 ∷ op3 Cat 9 1 1 ∷ op3 Index 2 9 1 ∷ op2 Output 2 1 ∷ op0 Ret
    ∷ []) ∷ (op0 Ret ∷ []) ∷ []) (at (0 ∷ 9 ∷ range 1 8 ++ 10 ∷ 11 ∷ 12 ∷ 13 ∷ []) []) (registers 12 (0 ∷ 0 ∷ 1
    ∷ replicate 6 0 ++ 1 ∷ 0 ∷ 0 ∷ 77 ∷ [])) (operands 0 (77 ∷ [])) (beside [] [] []))

-- Sig results: 1
abbrev pub b77 : Row
b77 =
    moves (pic ((const 1 8 ∷ op2 Alloc 2 1 ∷ op3 Cmp 3 1 1 ∷ op3 Cmp 4 1 3 ∷ op3 Cmp 5 1 4 ∷ op3 Cmp 6 1 5
    ∷ op3 Cmp 7 1 6 ∷ op3 Cmp 8 1 7 ∷ op3 Cat 2 1 1 ∷ fork 0 1 2 ∷ []) ∷ (op2 Output 2 1 ∷ op0 Ret ∷ []) ∷ (op0 Ret
    ∷ []) ∷ []) (at (upto 13) []) (registers 9 (0 ∷ 0 ∷ 1 ∷ replicate 6 4 ++ replicate 6 77)) (operands 0 (77 ∷ []))
    (beside [] [] [])) 42 8168 800 (done 1 14 0) ((1 ∷ 0 ∷ 1 ∷ 8 ∷ 14 ∷ 0 ∷ []) ∷ [])
    (pic ((const 1 8 ∷ fork 0 1 2 ∷ []) ∷ (op2 Alloc 9 1 ∷ op3 Cmp 10 1 1 ∷ op3 Cmp 12 1 10 ∷ op3 Cmp 10 1 12
    ∷ op3 Cmp 12 1 10 ∷ op3 Cmp 10 1 12 ∷ op3 Cmp 12 1 10 ∷ op3 Cat 9 1 1 ∷ op2 Output 9 1 ∷ op0 Ret ∷ []) ∷ (op0 Ret
    ∷ []) ∷ []) (at (0 ∷ 9 ∷ range 1 8 ++ 10 ∷ 11 ∷ 12 ∷ []) []) (registers 14 (0 ∷ 0 ∷ 1 ∷ replicate 6 4 ++ 1 ∷ 4 ∷ 0
    ∷ 4 ∷ 0 ∷ 77 ∷ [])) (operands 0 (77 ∷ [])) (beside [] [] []))

-- results of three types, with vias: 1
abbrev pub b78 : Row
b78 =
    moves (pic ((const 1 8 ∷ op2 Alloc 2 1 ∷ op3 Cmp 3 1 1 ∷ op3 Cmp 4 1 3 ∷ op3 Cmp 5 1 4 ∷ op3 Cmp 6 1 5
    ∷ op3 Cmp 7 1 6 ∷ op3 Cmp 8 1 7 ∷ op3 Cat 2 1 1 ∷ fork 0 1 2 ∷ []) ∷ (op2 Output 2 1 ∷ op0 Ret ∷ []) ∷ (op0 Ret
    ∷ []) ∷ []) (at (upto 13) (upto 7 ++ upto 6)) (registers 9 (0 ∷ 0 ∷ 1 ∷ 4 ∷ 0 ∷ 7 ∷ 4 ∷ 0 ∷ 7 ∷ replicate 6 77))
    (operands 0 (77 ∷ [])) (beside [] [] [])) 42 8168 800 (done 1 14 0) ((1 ∷ 0 ∷ 1 ∷ 8 ∷ 14 ∷ 0 ∷ []) ∷ [])
    (pic ((const 1 8 ∷ fork 0 1 2 ∷ []) ∷ (op2 Alloc 9 1 ∷ op3 Cmp 10 1 1 ∷ op3 Cmp 12 1 10 ∷ op3 Cmp 13 1 12
    ∷ op3 Cmp 10 1 13 ∷ op3 Cmp 12 1 10 ∷ op3 Cmp 13 1 12 ∷ op3 Cat 9 1 1 ∷ op2 Output 9 1 ∷ op0 Ret ∷ []) ∷ (op0 Ret
    ∷ []) ∷ []) (at (0 ∷ 9 ∷ range 1 8 ++ 10 ∷ 11 ∷ 12 ∷ []) (0 ∷ 2 ∷ range 1 6 ++ 0 ∷ 1 ∷ 3 ∷ 4 ∷ 5 ∷ []))
    (registers 14 (0 ∷ 0 ∷ 1 ∷ 4 ∷ 0 ∷ 7 ∷ 4 ∷ 0 ∷ 7 ∷ 1 ∷ 4 ∷ 0 ∷ 0 ∷ 7 ∷ 77 ∷ [])) (operands 0 (77 ∷ []))
    (beside [] [] []))

-- a sum with a Cmp: 1
abbrev pub b79 : Row
b79 =
    moves (pic ((const 1 8 ∷ op2 Alloc 2 1 ∷ op3 Cmp 9 0 0 ∷ op Bin 1 (8 ∷ 9 ∷ 1 ∷ []) [] [] ∷ op3 Cat 2 1 1
    ∷ fork 0 1 2 ∷ []) ∷ (op2 Output 2 1 ∷ op0 Ret ∷ []) ∷ (op0 Ret ∷ []) ∷ []) (at (upto 9) []) (registers 11 (0 ∷ 0
    ∷ 1 ∷ replicate 8 0 ++ 77 ∷ 77 ∷ 77 ∷ 77 ∷ [])) (operands 1 (1 ∷ 77 ∷ [])) (beside [] [] (1 ∷ []))) 42 8168 800
    (done 1 14 1) ((1 ∷ 0 ∷ 1 ∷ 4 ∷ 14 ∷ 1 ∷ []) ∷ [])
    (pic ((const 1 8 ∷ fork 0 1 2 ∷ []) ∷ (op2 Alloc 11 1 ∷ op3 Cmp 12 0 0 ∷ op Bin 1 (13 ∷ 12 ∷ 1 ∷ []) [] []
    ∷ op3 Cat 11 1 1 ∷ op2 Output 11 1 ∷ op0 Ret ∷ []) ∷ (op0 Ret ∷ []) ∷ []) (at (0 ∷ 5 ∷ 1 ∷ 2 ∷ 3 ∷ 4 ∷ 6 ∷ 7 ∷ 8
    ∷ []) []) (registers 14 (0 ∷ 0 ∷ 1 ∷ replicate 8 0 ++ 1 ∷ 0 ∷ 0 ∷ 77 ∷ [])) (operands 1 (1 ∷ 77 ∷ []))
    (beside [] [] (1 ∷ [])))

-- a sum with an FCmp: 1
abbrev pub b81 : Row
b81 =
    moves (pic ((const 1 8 ∷ op2 Alloc 2 1 ∷ op3 FCmp 9 0 0 ∷ op Bin 1 (8 ∷ 9 ∷ 1 ∷ []) [] [] ∷ op3 Cat 2 1 1
    ∷ fork 0 1 2 ∷ []) ∷ (op2 Output 2 1 ∷ op0 Ret ∷ []) ∷ (op0 Ret ∷ []) ∷ []) (at (upto 9) []) (registers 11 (0 ∷ 0
    ∷ 1 ∷ replicate 8 0 ++ 77 ∷ 77 ∷ 77 ∷ 77 ∷ [])) (operands 1 (1 ∷ 77 ∷ [])) (beside [] [] (1 ∷ []))) 42 8168 800
    (done 1 14 1) ((1 ∷ 0 ∷ 1 ∷ 4 ∷ 14 ∷ 1 ∷ []) ∷ [])
    (pic ((const 1 8 ∷ fork 0 1 2 ∷ []) ∷ (op2 Alloc 11 1 ∷ op3 FCmp 12 0 0 ∷ op Bin 1 (13 ∷ 12 ∷ 1 ∷ []) [] []
    ∷ op3 Cat 11 1 1 ∷ op2 Output 11 1 ∷ op0 Ret ∷ []) ∷ (op0 Ret ∷ []) ∷ []) (at (0 ∷ 5 ∷ 1 ∷ 2 ∷ 3 ∷ 4 ∷ 6 ∷ 7 ∷ 8
    ∷ []) []) (registers 14 (0 ∷ 0 ∷ 1 ∷ replicate 8 0 ++ 1 ∷ 0 ∷ 0 ∷ 77 ∷ [])) (operands 1 (1 ∷ 77 ∷ []))
    (beside [] [] (1 ∷ [])))

-- a sum with a Bool: 1
abbrev pub b83 : Row
b83 =
    moves (pic ((const 1 8 ∷ op2 Alloc 2 1 ∷ op3 BoolOp 9 0 0 ∷ op Bin 1 (8 ∷ 9 ∷ 1 ∷ []) [] [] ∷ op3 Cat 2 1 1
    ∷ fork 0 1 2 ∷ []) ∷ (op2 Output 2 1 ∷ op0 Ret ∷ []) ∷ (op0 Ret ∷ []) ∷ []) (at (upto 9) []) (registers 11 (0 ∷ 0
    ∷ 1 ∷ replicate 8 0 ++ 77 ∷ 77 ∷ 77 ∷ 77 ∷ [])) (operands 1 (1 ∷ 77 ∷ [])) (beside [] [] (1 ∷ []))) 42 8168 800
    (done 1 14 1) ((1 ∷ 0 ∷ 1 ∷ 4 ∷ 14 ∷ 1 ∷ []) ∷ [])
    (pic ((const 1 8 ∷ fork 0 1 2 ∷ []) ∷ (op2 Alloc 11 1 ∷ op3 BoolOp 12 0 0 ∷ op Bin 1 (13 ∷ 12 ∷ 1 ∷ []) [] []
    ∷ op3 Cat 11 1 1 ∷ op2 Output 11 1 ∷ op0 Ret ∷ []) ∷ (op0 Ret ∷ []) ∷ []) (at (0 ∷ 5 ∷ 1 ∷ 2 ∷ 3 ∷ 4 ∷ 6 ∷ 7 ∷ 8
    ∷ []) []) (registers 14 (0 ∷ 0 ∷ 1 ∷ replicate 8 0 ++ 1 ∷ 0 ∷ 0 ∷ 77 ∷ [])) (operands 1 (1 ∷ 77 ∷ []))
    (beside [] [] (1 ∷ [])))

-- a sum with a Not: 1
abbrev pub b85 : Row
b85 =
    moves (pic ((const 1 8 ∷ op2 Alloc 2 1 ∷ op BoolOp 1 (9 ∷ 0 ∷ []) [] [] ∷ op Bin 1 (8 ∷ 9 ∷ 1 ∷ []) [] []
    ∷ op3 Cat 2 1 1 ∷ fork 0 1 2 ∷ []) ∷ (op2 Output 2 1 ∷ op0 Ret ∷ []) ∷ (op0 Ret ∷ []) ∷ []) (at (upto 9) [])
    (registers 11 (0 ∷ 0 ∷ 1 ∷ replicate 8 0 ++ 77 ∷ 77 ∷ 77 ∷ 77 ∷ [])) (operands 1 (1 ∷ 77 ∷ [])) (beside [] [] (1
    ∷ []))) 42 8168 800 (done 1 14 1) ((1 ∷ 0 ∷ 1 ∷ 4 ∷ 14 ∷ 1 ∷ []) ∷ [])
    (pic ((const 1 8 ∷ fork 0 1 2 ∷ []) ∷ (op2 Alloc 11 1 ∷ op BoolOp 1 (12 ∷ 0 ∷ []) [] [] ∷ op Bin 1 (13 ∷ 12 ∷ 1
    ∷ []) [] [] ∷ op3 Cat 11 1 1 ∷ op2 Output 11 1 ∷ op0 Ret ∷ []) ∷ (op0 Ret ∷ []) ∷ []) (at (0 ∷ 5 ∷ 1 ∷ 2 ∷ 3 ∷ 4
    ∷ 6 ∷ 7 ∷ 8 ∷ []) []) (registers 14 (0 ∷ 0 ∷ 1 ∷ replicate 8 0 ++ 1 ∷ 0 ∷ 0 ∷ 77 ∷ [])) (operands 1 (1 ∷ 77 ∷ []))
    (beside [] [] (1 ∷ [])))

-- a sum with a BoundsLen: 1
abbrev pub b87 : Row
b87 =
    moves (pic ((const 1 8 ∷ op2 Alloc 2 1 ∷ op4 BoundsLen 9 0 0 0 ∷ op Bin 1 (8 ∷ 9 ∷ 1 ∷ []) [] [] ∷ op3 Cat 2 1 1
    ∷ fork 0 1 2 ∷ []) ∷ (op2 Output 2 1 ∷ op0 Ret ∷ []) ∷ (op0 Ret ∷ []) ∷ []) (at (upto 9) []) (registers 11 (0 ∷ 0
    ∷ 1 ∷ replicate 8 0 ++ 77 ∷ 77 ∷ 77 ∷ 77 ∷ [])) (operands 1 (1 ∷ 77 ∷ [])) (beside [] [] (1 ∷ []))) 42 8168 800
    (done 1 14 1) ((1 ∷ 0 ∷ 1 ∷ 4 ∷ 14 ∷ 1 ∷ []) ∷ [])
    (pic ((const 1 8 ∷ fork 0 1 2 ∷ []) ∷ (op2 Alloc 11 1 ∷ op4 BoundsLen 12 0 0 0 ∷ op Bin 1 (13 ∷ 12 ∷ 1 ∷ []) [] []
    ∷ op3 Cat 11 1 1 ∷ op2 Output 11 1 ∷ op0 Ret ∷ []) ∷ (op0 Ret ∷ []) ∷ []) (at (0 ∷ 5 ∷ 1 ∷ 2 ∷ 3 ∷ 4 ∷ 6 ∷ 7 ∷ 8
    ∷ []) []) (registers 14 (0 ∷ 0 ∷ 1 ∷ replicate 8 0 ++ 1 ∷ 0 ∷ 0 ∷ 77 ∷ [])) (operands 1 (1 ∷ 77 ∷ []))
    (beside [] [] (1 ∷ [])))

-- a sum with a DopeLen: 1
abbrev pub b89 : Row
b89 =
    moves (pic ((const 1 8 ∷ op2 Alloc 2 1 ∷ op AddrOf 4 (10 ∷ []) [] [] ∷ op2 DopeLen 9 10 ∷ op Bin 1 (8 ∷ 9 ∷ 1
    ∷ []) [] [] ∷ op3 Cat 2 1 1 ∷ fork 0 1 2 ∷ []) ∷ (op2 Output 2 1 ∷ op0 Ret ∷ []) ∷ (op0 Ret ∷ []) ∷ []) (at
    (upto 10) []) (registers 11 (0 ∷ 0 ∷ 1 ∷ replicate 8 0 ++ 77 ∷ 77 ∷ 77 ∷ 77 ∷ [])) (operands 1 (1 ∷ 77 ∷ []))
    (beside [] [] (1 ∷ []))) 42 8168 800 (done 1 14 1) ((1 ∷ 0 ∷ 1 ∷ 4 ∷ 14 ∷ 1 ∷ []) ∷ [])
    (pic ((const 1 8 ∷ op AddrOf 4 (10 ∷ []) [] [] ∷ fork 0 1 2 ∷ []) ∷ (op2 Alloc 11 1 ∷ op2 DopeLen 12 10 ∷ op Bin 1
    (13 ∷ 12 ∷ 1 ∷ []) [] [] ∷ op3 Cat 11 1 1 ∷ op2 Output 11 1 ∷ op0 Ret ∷ []) ∷ (op0 Ret ∷ []) ∷ []) (at (0 ∷ 2 ∷ 6
    ∷ 1 ∷ 3 ∷ 4 ∷ 5 ∷ 7 ∷ 8 ∷ 9 ∷ []) []) (registers 14 (0 ∷ 0 ∷ 1 ∷ replicate 8 0 ++ 1 ∷ 0 ∷ 0 ∷ 77 ∷ []))
    (operands 1 (1 ∷ 77 ∷ [])) (beside [] [] (1 ∷ [])))

-- a sum with a word of a layout: 1
abbrev pub b91 : Row
b91 =
    moves (pic ((const 1 8 ∷ op2 Alloc 2 1 ∷ op AddrOf 4 (10 ∷ []) [] [] ∷ op2 LayoutOf 9 10 ∷ op Load 3 (9 ∷ 9
    ∷ []) [] [] ∷ op Bin 1 (8 ∷ 9 ∷ 1 ∷ []) [] [] ∷ op3 Cat 2 1 1 ∷ fork 0 1 2 ∷ []) ∷ (op2 Output 2 1 ∷ op0 Ret ∷ [])
    ∷ (op0 Ret ∷ []) ∷ []) (at (upto 11) []) (registers 11 (0 ∷ 0 ∷ 1 ∷ replicate 8 0 ++ 77 ∷ 77 ∷ 77 ∷ 77 ∷ []))
    (operands 1 (1 ∷ 77 ∷ [])) (beside [] [] (1 ∷ []))) 42 8168 800 (done 1 14 1) ((1 ∷ 0 ∷ 1 ∷ 5 ∷ 14 ∷ 1 ∷ []) ∷ [])
    (pic ((const 1 8 ∷ op AddrOf 4 (10 ∷ []) [] [] ∷ fork 0 1 2 ∷ []) ∷ (op2 Alloc 11 1 ∷ op2 LayoutOf 12 10
    ∷ op Load 3 (13 ∷ 12 ∷ []) [] [] ∷ op Bin 1 (12 ∷ 13 ∷ 1 ∷ []) [] [] ∷ op3 Cat 11 1 1 ∷ op2 Output 11 1 ∷ op0 Ret
    ∷ []) ∷ (op0 Ret ∷ []) ∷ []) (at (0 ∷ 2 ∷ 7 ∷ 1 ∷ 3 ∷ 4 ∷ 5 ∷ 6 ∷ 8 ∷ 9 ∷ 10 ∷ []) []) (registers 14 (0 ∷ 0 ∷ 1
    ∷ replicate 8 0 ++ 1 ∷ 0 ∷ 0 ∷ 77 ∷ [])) (operands 1 (1 ∷ 77 ∷ [])) (beside [] [] (1 ∷ [])))

-- a sum with a word of the pool: 0
abbrev pub b93 : Row
b93 =
    stays (pic ((const 1 8 ∷ op2 Alloc 2 1 ∷ op AddrOf 4 (10 ∷ []) [] [] ∷ op Load 3 (9 ∷ 10 ∷ []) [] [] ∷ op Bin 1 (8
    ∷ 9 ∷ 1 ∷ []) [] [] ∷ op3 Cat 2 1 1 ∷ fork 0 1 2 ∷ []) ∷ (op2 Output 2 1 ∷ op0 Ret ∷ []) ∷ (op0 Ret ∷ []) ∷ [])
    (at (upto 10) []) (registers 11 (0 ∷ 0 ∷ 1 ∷ replicate 8 0 ++ 77 ∷ [])) (operands 1 (1 ∷ 77 ∷ [])) (beside [] []
    (1 ∷ []))) 36 8144 800 (done 0 11 1)

-- a length and a word of the pool: 0
abbrev pub b94 : Row
b94 =
    stays (pic ((const 1 8 ∷ op2 Alloc 2 1 ∷ op AddrOf 4 (10 ∷ []) [] [] ∷ op Load 3 (9 ∷ 10 ∷ []) [] [] ∷ op Bin 3 (8
    ∷ 1 ∷ 9 ∷ []) [] [] ∷ op3 Cat 2 1 1 ∷ fork 0 1 2 ∷ []) ∷ (op2 Output 2 1 ∷ op0 Ret ∷ []) ∷ (op0 Ret ∷ []) ∷ [])
    (at (upto 10) []) (registers 11 (0 ∷ 0 ∷ 1 ∷ replicate 8 0 ++ 77 ∷ [])) (operands 1 (1 ∷ 77 ∷ [])) (beside [] []
    (1 ∷ []))) 36 8144 800 (done 0 11 1)

-- a sum with a copy of a length: 1
abbrev pub b95 : Row
b95 =
    moves (pic ((const 1 8 ∷ op2 Alloc 2 1 ∷ op2 Move 9 1 ∷ op Bin 1 (8 ∷ 9 ∷ 1 ∷ []) [] [] ∷ op3 Cat 2 1 1
    ∷ fork 0 1 2 ∷ []) ∷ (op2 Output 2 1 ∷ op0 Ret ∷ []) ∷ (op0 Ret ∷ []) ∷ []) (at (upto 9) []) (registers 11 (0 ∷ 0
    ∷ 1 ∷ replicate 8 0 ++ 77 ∷ 77 ∷ 77 ∷ 77 ∷ [])) (operands 1 (1 ∷ 77 ∷ [])) (beside [] [] (1 ∷ []))) 42 8168 800
    (done 1 14 1) ((1 ∷ 0 ∷ 1 ∷ 4 ∷ 14 ∷ 1 ∷ []) ∷ [])
    (pic ((const 1 8 ∷ fork 0 1 2 ∷ []) ∷ (op2 Alloc 11 1 ∷ op2 Move 12 1 ∷ op Bin 1 (13 ∷ 12 ∷ 1 ∷ []) [] []
    ∷ op3 Cat 11 1 1 ∷ op2 Output 11 1 ∷ op0 Ret ∷ []) ∷ (op0 Ret ∷ []) ∷ []) (at (0 ∷ 5 ∷ 1 ∷ 2 ∷ 3 ∷ 4 ∷ 6 ∷ 7 ∷ 8
    ∷ []) []) (registers 14 (0 ∷ 0 ∷ 1 ∷ replicate 8 0 ++ 1 ∷ 0 ∷ 0 ∷ 77 ∷ [])) (operands 1 (1 ∷ 77 ∷ []))
    (beside [] [] (1 ∷ [])))

-- a sum with a copy of another: 0
abbrev pub b97 : Row
b97 =
    stays (pic ((const 1 8 ∷ op2 Alloc 2 1 ∷ op2 Move 9 0 ∷ op Bin 1 (8 ∷ 9 ∷ 1 ∷ []) [] [] ∷ op3 Cat 2 1 1
    ∷ fork 0 1 2 ∷ []) ∷ (op2 Output 2 1 ∷ op0 Ret ∷ []) ∷ (op0 Ret ∷ []) ∷ []) (at (upto 9) []) (registers 11 (0 ∷ 0
    ∷ 1 ∷ replicate 8 0 ++ 77 ∷ [])) (operands 1 (1 ∷ 77 ∷ [])) (beside [] [] (1 ∷ []))) 36 8144 800 (done 0 11 1)

-- a sum with one of two lengths: 1
abbrev pub b99 : Row
b99 =
    moves (pic ((const 1 8 ∷ op2 Alloc 2 1 ∷ op4 Select 9 0 1 1 ∷ op Bin 1 (8 ∷ 9 ∷ 1 ∷ []) [] [] ∷ op3 Cat 2 1 1
    ∷ fork 0 1 2 ∷ []) ∷ (op2 Output 2 1 ∷ op0 Ret ∷ []) ∷ (op0 Ret ∷ []) ∷ []) (at (upto 9) []) (registers 11 (0 ∷ 0
    ∷ 1 ∷ replicate 8 0 ++ 77 ∷ 77 ∷ 77 ∷ 77 ∷ [])) (operands 1 (1 ∷ 77 ∷ [])) (beside [] [] (1 ∷ []))) 42 8168 800
    (done 1 14 1) ((1 ∷ 0 ∷ 1 ∷ 4 ∷ 14 ∷ 1 ∷ []) ∷ [])
    (pic ((const 1 8 ∷ fork 0 1 2 ∷ []) ∷ (op2 Alloc 11 1 ∷ op4 Select 12 0 1 1 ∷ op Bin 1 (13 ∷ 12 ∷ 1 ∷ []) [] []
    ∷ op3 Cat 11 1 1 ∷ op2 Output 11 1 ∷ op0 Ret ∷ []) ∷ (op0 Ret ∷ []) ∷ []) (at (0 ∷ 5 ∷ 1 ∷ 2 ∷ 3 ∷ 4 ∷ 6 ∷ 7 ∷ 8
    ∷ []) []) (registers 14 (0 ∷ 0 ∷ 1 ∷ replicate 8 0 ++ 1 ∷ 0 ∷ 0 ∷ 77 ∷ [])) (operands 1 (1 ∷ 77 ∷ []))
    (beside [] [] (1 ∷ [])))

-- a sum with a length or another: 0
abbrev pub b101 : Row
b101 =
    stays (pic ((const 1 8 ∷ op2 Alloc 2 1 ∷ op4 Select 9 0 1 0 ∷ op Bin 1 (8 ∷ 9 ∷ 1 ∷ []) [] [] ∷ op3 Cat 2 1 1
    ∷ fork 0 1 2 ∷ []) ∷ (op2 Output 2 1 ∷ op0 Ret ∷ []) ∷ (op0 Ret ∷ []) ∷ []) (at (upto 9) []) (registers 11 (0 ∷ 0
    ∷ 1 ∷ replicate 8 0 ++ 77 ∷ [])) (operands 1 (1 ∷ 77 ∷ [])) (beside [] [] (1 ∷ []))) 36 8144 800 (done 0 11 1)

-- a sum with another or a length: 0
abbrev pub b103 : Row
b103 =
    stays (pic ((const 1 8 ∷ op2 Alloc 2 1 ∷ op4 Select 9 0 0 1 ∷ op Bin 1 (8 ∷ 9 ∷ 1 ∷ []) [] [] ∷ op3 Cat 2 1 1
    ∷ fork 0 1 2 ∷ []) ∷ (op2 Output 2 1 ∷ op0 Ret ∷ []) ∷ (op0 Ret ∷ []) ∷ []) (at (upto 9) []) (registers 11 (0 ∷ 0
    ∷ 1 ∷ replicate 8 0 ++ 77 ∷ [])) (operands 1 (1 ∷ 77 ∷ [])) (beside [] [] (1 ∷ []))) 36 8144 800 (done 0 11 1)

-- a sum with a block made here: 0
abbrev pub b105 : Row
b105 =
    stays (pic ((const 1 8 ∷ op2 Alloc 2 1 ∷ op2 Alloc 9 1 ∷ op Bin 1 (8 ∷ 9 ∷ 1 ∷ []) [] [] ∷ op3 Cat 2 1 1
    ∷ fork 0 1 2 ∷ []) ∷ (op2 Output 2 1 ∷ op0 Ret ∷ []) ∷ (op0 Ret ∷ []) ∷ []) (at (upto 9) []) (registers 11 (0 ∷ 0
    ∷ 1 ∷ replicate 8 0 ++ 77 ∷ [])) (operands 1 (1 ∷ 77 ∷ [])) (beside [] [] (1 ∷ []))) 36 8144 800 (done 0 11 1)

-- a sum with a kept block: 0
abbrev pub b107 : Row
b107 =
    stays (pic ((const 1 8 ∷ op2 Alloc 2 1 ∷ op2 Alloc 9 0 ∷ op Bin 1 (8 ∷ 9 ∷ 1 ∷ []) [] [] ∷ op3 Cat 2 1 1
    ∷ fork 0 1 2 ∷ []) ∷ (op2 Output 2 1 ∷ op0 Ret ∷ []) ∷ (op0 Ret ∷ []) ∷ []) (at (upto 9) []) (registers 11 (0 ∷ 0
    ∷ 1 ∷ replicate 8 0 ++ 77 ∷ [])) (operands 1 (1 ∷ 77 ∷ [])) (beside [] [] (1 ∷ []))) 36 8144 800 (done 0 11 1)

-- a sum with a light native's block: 0
abbrev pub b109 : Row
b109 =
    stays (pic ((const 1 8 ∷ op2 Alloc 2 1 ∷ op CallNative 2 (9 ∷ []) (0 ∷ 1 ∷ []) [] ∷ op Bin 1 (8 ∷ 9 ∷ 1
    ∷ []) [] [] ∷ op3 Cat 2 1 1 ∷ fork 0 1 2 ∷ []) ∷ (op2 Output 2 1 ∷ op0 Ret ∷ []) ∷ (op0 Ret ∷ []) ∷ []) (at
    (upto 9) []) (registers 11 (0 ∷ 0 ∷ 1 ∷ replicate 8 0 ++ 77 ∷ [])) (operands 1 (1 ∷ 77 ∷ [])) (beside [] [] (1
    ∷ []))) 36 8144 800 (done 0 11 1)

-- a sum with a layout: 0
abbrev pub b111 : Row
b111 =
    stays (pic ((const 1 8 ∷ op2 Alloc 2 1 ∷ op AddrOf 4 (10 ∷ []) [] [] ∷ op2 LayoutOf 9 10 ∷ op Bin 1 (8 ∷ 9 ∷ 1
    ∷ []) [] [] ∷ op3 Cat 2 1 1 ∷ fork 0 1 2 ∷ []) ∷ (op2 Output 2 1 ∷ op0 Ret ∷ []) ∷ (op0 Ret ∷ []) ∷ []) (at
    (upto 10) []) (registers 11 (0 ∷ 0 ∷ 1 ∷ replicate 8 0 ++ 77 ∷ [])) (operands 1 (1 ∷ 77 ∷ [])) (beside [] [] (1
    ∷ []))) 36 8144 800 (done 0 11 1)

-- a sum with a signal's value: 0
abbrev pub b113 : Row
b113 =
    stays (pic ((const 1 8 ∷ op2 Alloc 2 1 ∷ op2 SigReadScalar 9 0 ∷ op Bin 1 (8 ∷ 9 ∷ 1 ∷ []) [] [] ∷ op3 Cat 2 1 1
    ∷ fork 0 1 2 ∷ []) ∷ (op2 Output 2 1 ∷ op0 Ret ∷ []) ∷ (op0 Ret ∷ []) ∷ []) (at (upto 9) []) (registers 11 (0 ∷ 0
    ∷ 1 ∷ replicate 8 0 ++ 77 ∷ [])) (operands 1 (1 ∷ 77 ∷ [])) (beside [] [] (1 ∷ []))) 36 8144 800 (done 0 11 1)

-- a sum with a place behind a length: 0
abbrev pub b115 : Row
b115 =
    stays (pic ((const 1 8 ∷ op2 Alloc 2 1 ∷ op3 Index 9 1 1 ∷ op Bin 1 (8 ∷ 9 ∷ 1 ∷ []) [] [] ∷ op3 Cat 2 1 1
    ∷ fork 0 1 2 ∷ []) ∷ (op2 Output 2 1 ∷ op0 Ret ∷ []) ∷ (op0 Ret ∷ []) ∷ []) (at (upto 9) []) (registers 11 (0 ∷ 0
    ∷ 1 ∷ replicate 8 0 ++ 77 ∷ [])) (operands 1 (1 ∷ 77 ∷ [])) (beside [] [] (1 ∷ []))) 36 8144 800 (done 0 11 1)

-- a sum with a word of a member's block: 0
abbrev pub b117 : Row
b117 =
    stays (pic ((const 1 8 ∷ op2 Alloc 2 1 ∷ op Load 3 (9 ∷ 2 ∷ []) [] [] ∷ op Bin 1 (8 ∷ 9 ∷ 1 ∷ []) [] []
    ∷ op3 Cat 2 1 1 ∷ fork 0 1 2 ∷ []) ∷ (op2 Output 2 1 ∷ op0 Ret ∷ []) ∷ (op0 Ret ∷ []) ∷ []) (at (upto 9) [])
    (registers 11 (0 ∷ 0 ∷ 1 ∷ replicate 8 0 ++ 77 ∷ [])) (operands 1 (1 ∷ 77 ∷ [])) (beside [] [] (1
    ∷ []))) 36 8144 800 (done 0 11 1)

-- a sum with a float: 0
abbrev pub b119 : Row
b119 =
    stays (pic ((const 1 8 ∷ op2 Alloc 2 1 ∷ op ConstF 0 (9 ∷ []) [] (1 ∷ []) ∷ op Bin 1 (8 ∷ 9 ∷ 1 ∷ []) [] []
    ∷ op3 Cat 2 1 1 ∷ fork 0 1 2 ∷ []) ∷ (op2 Output 2 1 ∷ op0 Ret ∷ []) ∷ (op0 Ret ∷ []) ∷ []) (at (upto 9) [])
    (registers 11 (0 ∷ 0 ∷ 1 ∷ replicate 8 0 ++ 77 ∷ [])) (operands 1 (1 ∷ 77 ∷ [])) (beside [] [] (1
    ∷ []))) 36 8144 800 (done 0 11 1)

abbrev pub rows8 : List Row
rows8 =
    b64 ∷ b65 ∷ b66 ∷ b67 ∷ b68 ∷ b69 ∷ b70 ∷ b71 ∷ b72 ∷ b73 ∷ b74 ∷ b75 ∷ b76 ∷ b77 ∷ b78 ∷ b79 ∷ b81 ∷ b83 ∷ b85
    ∷ b87 ∷ b89 ∷ b91 ∷ b93 ∷ b94 ∷ b95 ∷ b97 ∷ b99 ∷ b101 ∷ b103 ∷ b105 ∷ b107 ∷ b109 ∷ b111 ∷ b113 ∷ b115 ∷ b117
    ∷ b119 ∷ []
