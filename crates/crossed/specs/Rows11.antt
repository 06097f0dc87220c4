-- Pictures at the bounds of document 01, page 11: what the Rust makes of them, and tests/rust's judgement of refused ones. Printed by
-- `compare crossed` in tests/rust, and again by its compare.sh: not to be edited. Assumes nothing.
use Rattle.std.specs.Prelude.{List, [], ◌∷◌, ◌++◌, replicate}
use Rattle.words.specs.Lists.{range, upto}
use Rattle.model.specs.Kinds.{AddrOf, Alloc, Call, CallForeign, CallNative, CallProt, Cat, Cmp, Copy, CopyConst}
use Rattle.model.specs.Kinds.{Cover, Drive, Free, LCopy, LFill, LSet, Load, LogicOp, New, NewFill}
use Rattle.model.specs.Kinds.{NewFrame, Output, PkgAlloc, Report, Ret, SigAttr, Stmt, TempRoot, Zero}
use Rattle.model.specs.Picture.{absent}
use Rattle.model.specs.Build.{op}
use Rattle.crossed.specs.Row.{Row, pic, at, registers, operands, beside, op0, op1, op2, op3, op4, op5, br, fork, const, moves, stays, done}

-- a read of the pool and two Cmps before a Stmt: 1
abbrev pub b204 : Row
b204 =
    moves (pic ((const 1 8 ∷ op AddrOf 4 (9 ∷ []) [] [] ∷ op Load 3 (2 ∷ 9 ∷ []) [] [] ∷ op3 Cmp 3 1 1 ∷ op3 Cmp 4 1 3
    ∷ op0 Stmt ∷ fork 0 1 2 ∷ []) ∷ (op2 Output 5 5 ∷ []) ∷ (op3 Cat 1 1 1 ∷ []) ∷ []) (at (upto 9) []) (registers 11
    (0 ∷ 0 ∷ 1 ∷ replicate 8 0 ++ 77 ∷ 77 ∷ 77 ∷ 77 ∷ [])) (operands 1 (1 ∷ 77 ∷ [])) (beside [] [] (1
    ∷ []))) 42 8168 800 (done 1 14 1) ((1 ∷ 0 ∷ 1 ∷ 3 ∷ 14 ∷ 1 ∷ []) ∷ [])
    (pic ((const 1 8 ∷ op AddrOf 4 (9 ∷ []) [] [] ∷ op0 Stmt ∷ fork 0 1 2 ∷ []) ∷ (op Load 3 (11 ∷ 9 ∷ []) [] []
    ∷ op3 Cmp 12 1 1 ∷ op3 Cmp 13 1 12 ∷ op2 Output 5 5 ∷ []) ∷ (op3 Cat 1 1 1 ∷ []) ∷ []) (at (0 ∷ 1 ∷ 5 ∷ 6 ∷ 2 ∷ 3
    ∷ 4 ∷ 7 ∷ 8 ∷ []) []) (registers 14 (0 ∷ 0 ∷ 1 ∷ replicate 8 0 ++ 1 ∷ 0 ∷ 0 ∷ 77 ∷ [])) (operands 1 (1 ∷ 77 ∷ []))
    (beside [] [] (1 ∷ [])))

-- a read of the frame and two Cmps before a Stmt: 0
abbrev pub b205 : Row
b205 =
    stays (pic ((const 1 8 ∷ op1 AddrOf 9 ∷ op Load 3 (2 ∷ 9 ∷ []) [] [] ∷ op3 Cmp 3 1 1 ∷ op3 Cmp 4 1 3 ∷ op0 Stmt
    ∷ fork 0 1 2 ∷ []) ∷ (op2 Output 5 5 ∷ []) ∷ (op3 Cat 1 1 1 ∷ []) ∷ []) (at (upto 9) []) (registers 11 (0 ∷ 0 ∷ 1
    ∷ replicate 8 0 ++ 77 ∷ [])) (operands 1 (1 ∷ 77 ∷ [])) (beside [] [] (1 ∷ []))) 36 8144 800 (done 0 11 1)

-- a read of a kept block and two Cmps before a Stmt: 0
abbrev pub b206 : Row
b206 =
    stays (pic ((const 1 8 ∷ op CallNative 2 (9 ∷ []) (0 ∷ 1 ∷ []) [] ∷ op Load 3 (2 ∷ 9 ∷ []) [] [] ∷ op3 Cmp 3 1 1
    ∷ op3 Cmp 4 1 3 ∷ op0 Stmt ∷ fork 0 1 2 ∷ []) ∷ (op2 Output 5 5 ∷ []) ∷ (op3 Cat 1 1 1 ∷ []) ∷ []) (at
    (upto 9) []) (registers 11 (0 ∷ 0 ∷ 1 ∷ replicate 8 0 ++ 77 ∷ [])) (operands 1 (1 ∷ 77 ∷ [])) (beside [] [] (1
    ∷ []))) 36 8144 800 (done 0 11 1)

-- a read of a kept image and two Cmps before a Stmt: 0
abbrev pub b207 : Row
b207 =
    stays (pic ((const 1 8 ∷ op CallNative 1 (9 ∷ []) (0 ∷ 1 ∷ []) [] ∷ op Load 3 (2 ∷ 9 ∷ []) [] [] ∷ op3 Cmp 3 1 1
    ∷ op3 Cmp 4 1 3 ∷ op0 Stmt ∷ fork 0 1 2 ∷ []) ∷ (op2 Output 5 5 ∷ []) ∷ (op3 Cat 1 1 1 ∷ []) ∷ []) (at
    (upto 9) []) (registers 11 (0 ∷ 0 ∷ 1 ∷ replicate 8 0 ++ 77 ∷ [])) (operands 1 (1 ∷ 77 ∷ [])) (beside [] [] (1
    ∷ []))) 36 8144 800 (done 0 11 1)

-- an Alloc and two Cmps before a Cover: 1
abbrev pub b208 : Row
b208 =
    moves (pic ((const 1 8 ∷ op2 Alloc 2 1 ∷ op3 Cmp 3 1 1 ∷ op3 Cmp 4 1 3 ∷ op0 Cover ∷ fork 0 1 2 ∷ [])
    ∷ (op2 Output 5 5 ∷ []) ∷ (op3 Cat 1 1 1 ∷ []) ∷ []) (at (upto 8) []) (registers 11 (0 ∷ 0 ∷ 1
    ∷ replicate 8 0 ++ 77 ∷ 77 ∷ 77 ∷ 77 ∷ [])) (operands 1 (1 ∷ 77 ∷ [])) (beside [] [] (1 ∷ []))) 42 8168 800
    (done 1 14 1) ((1 ∷ 0 ∷ 1 ∷ 3 ∷ 14 ∷ 1 ∷ []) ∷ [])
    (pic ((const 1 8 ∷ op0 Cover ∷ fork 0 1 2 ∷ []) ∷ (op2 Alloc 11 1 ∷ op3 Cmp 12 1 1 ∷ op3 Cmp 13 1 12
    ∷ op2 Output 5 5 ∷ []) ∷ (op3 Cat 1 1 1 ∷ []) ∷ []) (at (0 ∷ 4 ∷ 5 ∷ 1 ∷ 2 ∷ 3 ∷ 6 ∷ 7 ∷ []) []) (registers 14 (0
    ∷ 0 ∷ 1 ∷ replicate 8 0 ++ 1 ∷ 0 ∷ 0 ∷ 77 ∷ [])) (operands 1 (1 ∷ 77 ∷ [])) (beside [] [] (1 ∷ [])))

-- an Alloc and two Cmps before a TempRoot: 0
abbrev pub b209 : Row
b209 =
    stays (pic ((const 1 8 ∷ op2 Alloc 2 1 ∷ op3 Cmp 3 1 1 ∷ op3 Cmp 4 1 3 ∷ op1 TempRoot 1 ∷ fork 0 1 2 ∷ [])
    ∷ (op2 Output 5 5 ∷ []) ∷ (op3 Cat 1 1 1 ∷ []) ∷ []) (at (upto 8) []) (registers 11 (0 ∷ 0 ∷ 1
    ∷ replicate 8 0 ++ 77 ∷ [])) (operands 1 (1 ∷ 77 ∷ [])) (beside [] [] (1 ∷ []))) 36 8144 800 (done 0 11 1)

-- an Alloc and two Cmps before a Call: 0
abbrev pub b210 : Row
b210 =
    stays (pic ((const 1 8 ∷ op2 Alloc 2 1 ∷ op3 Cmp 3 1 1 ∷ op3 Cmp 4 1 3 ∷ op0 Call ∷ fork 0 1 2 ∷ [])
    ∷ (op2 Output 5 5 ∷ []) ∷ (op3 Cat 1 1 1 ∷ []) ∷ []) (at (upto 8) []) (registers 11 (0 ∷ 0 ∷ 1
    ∷ replicate 8 0 ++ 77 ∷ [])) (operands 1 (1 ∷ 77 ∷ [])) (beside [] [] (1 ∷ []))) 36 8144 800 (done 0 11 1)

-- an Alloc and two Cmps before a CallProt: 0
abbrev pub b211 : Row
b211 =
    stays (pic ((const 1 8 ∷ op2 Alloc 2 1 ∷ op3 Cmp 3 1 1 ∷ op3 Cmp 4 1 3 ∷ op1 CallProt 1 ∷ fork 0 1 2 ∷ [])
    ∷ (op2 Output 5 5 ∷ []) ∷ (op3 Cat 1 1 1 ∷ []) ∷ []) (at (upto 8) []) (registers 11 (0 ∷ 0 ∷ 1
    ∷ replicate 8 0 ++ 77 ∷ [])) (operands 1 (1 ∷ 77 ∷ [])) (beside [] [] (1 ∷ []))) 36 8144 800 (done 0 11 1)

-- an Alloc and two Cmps before a CallForeign: 0
abbrev pub b212 : Row
b212 =
    stays (pic ((const 1 8 ∷ op2 Alloc 2 1 ∷ op3 Cmp 3 1 1 ∷ op3 Cmp 4 1 3 ∷ op0 CallForeign ∷ fork 0 1 2 ∷ [])
    ∷ (op2 Output 5 5 ∷ []) ∷ (op3 Cat 1 1 1 ∷ []) ∷ []) (at (upto 8) []) (registers 11 (0 ∷ 0 ∷ 1
    ∷ replicate 8 0 ++ 77 ∷ [])) (operands 1 (1 ∷ 77 ∷ [])) (beside [] [] (1 ∷ []))) 36 8144 800 (done 0 11 1)

-- an Alloc and two Cmps before a plain native: 0
abbrev pub b213 : Row
b213 =
    stays (pic ((const 1 8 ∷ op2 Alloc 2 1 ∷ op3 Cmp 3 1 1 ∷ op3 Cmp 4 1 3 ∷ op0 CallNative ∷ fork 0 1 2 ∷ [])
    ∷ (op2 Output 5 5 ∷ []) ∷ (op3 Cat 1 1 1 ∷ []) ∷ []) (at (upto 8) []) (registers 11 (0 ∷ 0 ∷ 1
    ∷ replicate 8 0 ++ 77 ∷ [])) (operands 1 (1 ∷ 77 ∷ [])) (beside [] [] (1 ∷ []))) 36 8144 800 (done 0 11 1)

-- an Alloc and two Cmps before a light native: 1
abbrev pub b214 : Row
b214 =
    moves (pic ((const 1 8 ∷ op2 Alloc 2 1 ∷ op3 Cmp 3 1 1 ∷ op3 Cmp 4 1 3 ∷ op CallNative 2 (10 ∷ []) (0 ∷ 1 ∷ []) []
    ∷ fork 0 1 2 ∷ []) ∷ (op2 Output 5 5 ∷ []) ∷ (op3 Cat 1 1 1 ∷ []) ∷ []) (at (upto 8) []) (registers 11 (0 ∷ 0 ∷ 1
    ∷ replicate 8 0 ++ 77 ∷ 77 ∷ 77 ∷ 77 ∷ [])) (operands 1 (1 ∷ 77 ∷ [])) (beside [] [] (1 ∷ []))) 42 8168 800
    (done 1 14 1) ((1 ∷ 0 ∷ 1 ∷ 3 ∷ 14 ∷ 1 ∷ []) ∷ [])
    (pic ((const 1 8 ∷ op CallNative 2 (10 ∷ []) (0 ∷ 1 ∷ []) [] ∷ fork 0 1 2 ∷ []) ∷ (op2 Alloc 11 1 ∷ op3 Cmp 12 1 1
    ∷ op3 Cmp 13 1 12 ∷ op2 Output 5 5 ∷ []) ∷ (op3 Cat 1 1 1 ∷ []) ∷ []) (at (0 ∷ 4 ∷ 5 ∷ 1 ∷ 2 ∷ 3 ∷ 6 ∷ 7 ∷ []) [])
    (registers 14 (0 ∷ 0 ∷ 1 ∷ replicate 8 0 ++ 1 ∷ 0 ∷ 0 ∷ 77 ∷ [])) (operands 1 (1 ∷ 77 ∷ [])) (beside [] [] (1
    ∷ [])))

-- an Alloc and two Cmps before a New: 0
abbrev pub b215 : Row
b215 =
    stays (pic ((const 1 8 ∷ op2 Alloc 2 1 ∷ op3 Cmp 3 1 1 ∷ op3 Cmp 4 1 3 ∷ op3 New 10 1 1 ∷ fork 0 1 2 ∷ [])
    ∷ (op2 Output 5 5 ∷ []) ∷ (op3 Cat 1 1 1 ∷ []) ∷ []) (at (upto 8) []) (registers 11 (0 ∷ 0 ∷ 1
    ∷ replicate 8 0 ++ 77 ∷ [])) (operands 1 (1 ∷ 77 ∷ [])) (beside [] [] (1 ∷ []))) 36 8144 800 (done 0 11 1)

-- an Alloc and two Cmps before a NewFill: 0
abbrev pub b216 : Row
b216 =
    stays (pic ((const 1 8 ∷ op2 Alloc 2 1 ∷ op3 Cmp 3 1 1 ∷ op3 Cmp 4 1 3 ∷ op4 NewFill 10 1 1 1 ∷ fork 0 1 2 ∷ [])
    ∷ (op2 Output 5 5 ∷ []) ∷ (op3 Cat 1 1 1 ∷ []) ∷ []) (at (upto 8) []) (registers 11 (0 ∷ 0 ∷ 1
    ∷ replicate 8 0 ++ 77 ∷ [])) (operands 1 (1 ∷ 77 ∷ [])) (beside [] [] (1 ∷ []))) 36 8144 800 (done 0 11 1)

-- an Alloc and two Cmps before a NewFrame: 0
abbrev pub b217 : Row
b217 =
    stays (pic ((const 1 8 ∷ op2 Alloc 2 1 ∷ op3 Cmp 3 1 1 ∷ op3 Cmp 4 1 3 ∷ op4 NewFrame 10 1 1 1 ∷ fork 0 1 2 ∷ [])
    ∷ (op2 Output 5 5 ∷ []) ∷ (op3 Cat 1 1 1 ∷ []) ∷ []) (at (upto 8) []) (registers 11 (0 ∷ 0 ∷ 1
    ∷ replicate 8 0 ++ 77 ∷ [])) (operands 1 (1 ∷ 77 ∷ [])) (beside [] [] (1 ∷ []))) 36 8144 800 (done 0 11 1)

-- an Alloc and two Cmps before a Free: 0
abbrev pub b218 : Row
b218 =
    stays (pic ((const 1 8 ∷ op2 Alloc 2 1 ∷ op3 Cmp 3 1 1 ∷ op3 Cmp 4 1 3 ∷ op1 Free 1 ∷ fork 0 1 2 ∷ [])
    ∷ (op2 Output 5 5 ∷ []) ∷ (op3 Cat 1 1 1 ∷ []) ∷ []) (at (upto 8) []) (registers 11 (0 ∷ 0 ∷ 1
    ∷ replicate 8 0 ++ 77 ∷ [])) (operands 1 (1 ∷ 77 ∷ [])) (beside [] [] (1 ∷ []))) 36 8144 800 (done 0 11 1)

-- an Alloc and two Cmps before a Report: 0
abbrev pub b219 : Row
b219 =
    stays (pic ((const 1 8 ∷ op2 Alloc 2 1 ∷ op3 Cmp 3 1 1 ∷ op3 Cmp 4 1 3 ∷ op3 Report 1 1 1 ∷ fork 0 1 2 ∷ [])
    ∷ (op2 Output 5 5 ∷ []) ∷ (op3 Cat 1 1 1 ∷ []) ∷ []) (at (upto 8) []) (registers 11 (0 ∷ 0 ∷ 1
    ∷ replicate 8 0 ++ 77 ∷ [])) (operands 1 (1 ∷ 77 ∷ [])) (beside [] [] (1 ∷ []))) 36 8144 800 (done 0 11 1)

-- an Alloc and two Cmps before a PkgAlloc: 1
abbrev pub b220 : Row
b220 =
    moves (pic ((const 1 8 ∷ op2 Alloc 2 1 ∷ op3 Cmp 3 1 1 ∷ op3 Cmp 4 1 3 ∷ op2 PkgAlloc 10 1 ∷ fork 0 1 2 ∷ [])
    ∷ (op2 Output 5 5 ∷ []) ∷ (op3 Cat 1 1 1 ∷ []) ∷ []) (at (upto 8) []) (registers 11 (0 ∷ 0 ∷ 1
    ∷ replicate 8 0 ++ 77 ∷ 77 ∷ 77 ∷ 77 ∷ [])) (operands 1 (1 ∷ 77 ∷ [])) (beside [] [] (1 ∷ []))) 42 8168 800
    (done 1 14 1) ((1 ∷ 0 ∷ 1 ∷ 3 ∷ 14 ∷ 1 ∷ []) ∷ [])
    (pic ((const 1 8 ∷ op2 PkgAlloc 10 1 ∷ fork 0 1 2 ∷ []) ∷ (op2 Alloc 11 1 ∷ op3 Cmp 12 1 1 ∷ op3 Cmp 13 1 12
    ∷ op2 Output 5 5 ∷ []) ∷ (op3 Cat 1 1 1 ∷ []) ∷ []) (at (0 ∷ 4 ∷ 5 ∷ 1 ∷ 2 ∷ 3 ∷ 6 ∷ 7 ∷ []) []) (registers 14 (0
    ∷ 0 ∷ 1 ∷ replicate 8 0 ++ 1 ∷ 0 ∷ 0 ∷ 77 ∷ [])) (operands 1 (1 ∷ 77 ∷ [])) (beside [] [] (1 ∷ [])))

-- a read of the pool and two Cmps before a light native: 1
abbrev pub b221 : Row
b221 =
    moves (pic ((const 1 8 ∷ op AddrOf 4 (9 ∷ []) [] [] ∷ op Load 3 (3 ∷ 9 ∷ []) [] [] ∷ op3 Cmp 4 1 3 ∷ op3 Cmp 5 1 4
    ∷ op CallNative 2 (10 ∷ []) (0 ∷ 1 ∷ []) [] ∷ fork 0 1 2 ∷ []) ∷ (op2 Output 5 5 ∷ []) ∷ (op3 Cat 1 1 1 ∷ [])
    ∷ []) (at (upto 9) []) (registers 11 (0 ∷ 0 ∷ 1 ∷ replicate 8 0 ++ 77 ∷ 77 ∷ 77 ∷ [])) (operands 1 (1 ∷ 77 ∷ []))
    (beside [] [] (1 ∷ []))) 40 8160 800 (done 1 13 1) ((1 ∷ 0 ∷ 1 ∷ 3 ∷ 13 ∷ 1 ∷ []) ∷ [])
    (pic ((const 1 8 ∷ op AddrOf 4 (9 ∷ []) [] [] ∷ op CallNative 2 (10 ∷ []) (0 ∷ 1 ∷ []) [] ∷ fork 0 1 2 ∷ [])
    ∷ (op Load 3 (11 ∷ 9 ∷ []) [] [] ∷ op3 Cmp 12 1 11 ∷ op3 Cmp 11 1 12 ∷ op2 Output 11 11 ∷ []) ∷ (op3 Cat 1 1 1
    ∷ []) ∷ []) (at (0 ∷ 1 ∷ 5 ∷ 6 ∷ 2 ∷ 3 ∷ 4 ∷ 7 ∷ 8 ∷ []) []) (registers 13 (0 ∷ 0 ∷ 1 ∷ replicate 10 0 ++ 77
    ∷ [])) (operands 1 (1 ∷ 77 ∷ [])) (beside [] [] (1 ∷ [])))

-- a read of the pool and two Cmps before a plain native: 1
abbrev pub b222 : Row
b222 =
    moves (pic ((const 1 8 ∷ op AddrOf 4 (9 ∷ []) [] [] ∷ op Load 3 (3 ∷ 9 ∷ []) [] [] ∷ op3 Cmp 4 1 3 ∷ op3 Cmp 5 1 4
    ∷ op0 CallNative ∷ fork 0 1 2 ∷ []) ∷ (op2 Output 5 5 ∷ []) ∷ (op3 Cat 1 1 1 ∷ []) ∷ []) (at (upto 9) [])
    (registers 11 (0 ∷ 0 ∷ 1 ∷ replicate 8 0 ++ 77 ∷ 77 ∷ 77 ∷ [])) (operands 1 (1 ∷ 77 ∷ [])) (beside [] [] (1
    ∷ []))) 40 8160 800 (done 1 13 1) ((1 ∷ 0 ∷ 1 ∷ 3 ∷ 13 ∷ 1 ∷ []) ∷ [])
    (pic ((const 1 8 ∷ op AddrOf 4 (9 ∷ []) [] [] ∷ op0 CallNative ∷ fork 0 1 2 ∷ []) ∷ (op Load 3 (11 ∷ 9 ∷ []) [] []
    ∷ op3 Cmp 12 1 11 ∷ op3 Cmp 11 1 12 ∷ op2 Output 11 11 ∷ []) ∷ (op3 Cat 1 1 1 ∷ []) ∷ []) (at (0 ∷ 1 ∷ 5 ∷ 6 ∷ 2
    ∷ 3 ∷ 4 ∷ 7 ∷ 8 ∷ []) []) (registers 13 (0 ∷ 0 ∷ 1 ∷ replicate 10 0 ++ 77 ∷ [])) (operands 1 (1 ∷ 77 ∷ []))
    (beside [] [] (1 ∷ [])))

-- a read of the pool and two Cmps before a Drive: 1
abbrev pub b223 : Row
b223 =
    moves (pic ((const 1 8 ∷ op AddrOf 4 (9 ∷ []) [] [] ∷ op Load 3 (3 ∷ 9 ∷ []) [] [] ∷ op3 Cmp 4 1 3 ∷ op3 Cmp 5 1 4
    ∷ op Drive 0 (absent ∷ 1 ∷ 1 ∷ []) [] [] ∷ fork 0 1 2 ∷ []) ∷ (op2 Output 5 5 ∷ []) ∷ (op3 Cat 1 1 1 ∷ []) ∷ [])
    (at (upto 9) []) (registers 11 (0 ∷ 0 ∷ 1 ∷ replicate 8 0 ++ 77 ∷ 77 ∷ 77 ∷ [])) (operands 1 (1 ∷ 77 ∷ []))
    (beside [] [] (1 ∷ []))) 40 8160 800 (done 1 13 1) ((1 ∷ 0 ∷ 1 ∷ 3 ∷ 13 ∷ 1 ∷ []) ∷ [])
    (pic ((const 1 8 ∷ op AddrOf 4 (9 ∷ []) [] [] ∷ op Drive 0 (absent ∷ 1 ∷ 1 ∷ []) [] [] ∷ fork 0 1 2 ∷ [])
    ∷ (op Load 3 (11 ∷ 9 ∷ []) [] [] ∷ op3 Cmp 12 1 11 ∷ op3 Cmp 11 1 12 ∷ op2 Output 11 11 ∷ []) ∷ (op3 Cat 1 1 1
    ∷ []) ∷ []) (at (0 ∷ 1 ∷ 5 ∷ 6 ∷ 2 ∷ 3 ∷ 4 ∷ 7 ∷ 8 ∷ []) []) (registers 13 (0 ∷ 0 ∷ 1 ∷ replicate 10 0 ++ 77
    ∷ [])) (operands 1 (1 ∷ 77 ∷ [])) (beside [] [] (1 ∷ [])))

-- a read of the pool and two Cmps before a SigAttr: 0
abbrev pub b224 : Row
b224 =
    stays (pic ((const 1 8 ∷ op AddrOf 4 (9 ∷ []) [] [] ∷ op Load 3 (3 ∷ 9 ∷ []) [] [] ∷ op3 Cmp 4 1 3 ∷ op3 Cmp 5 1 4
    ∷ op2 SigAttr 10 1 ∷ fork 0 1 2 ∷ []) ∷ (op2 Output 5 5 ∷ []) ∷ (op3 Cat 1 1 1 ∷ []) ∷ []) (at (upto 9) [])
    (registers 11 (0 ∷ 0 ∷ 1 ∷ replicate 8 0 ++ 77 ∷ [])) (operands 1 (1 ∷ 77 ∷ [])) (beside [] [] (1
    ∷ []))) 36 8144 800 (done 0 11 1)

-- a read of the pool and two Cmps before an Output: 0
abbrev pub b225 : Row
b225 =
    stays (pic ((const 1 8 ∷ op AddrOf 4 (9 ∷ []) [] [] ∷ op Load 3 (3 ∷ 9 ∷ []) [] [] ∷ op3 Cmp 4 1 3 ∷ op3 Cmp 5 1 4
    ∷ op2 Output 1 1 ∷ fork 0 1 2 ∷ []) ∷ (op2 Output 5 5 ∷ []) ∷ (op3 Cat 1 1 1 ∷ []) ∷ []) (at (upto 9) [])
    (registers 11 (0 ∷ 0 ∷ 1 ∷ replicate 8 0 ++ 77 ∷ [])) (operands 1 (1 ∷ 77 ∷ [])) (beside [] [] (1
    ∷ []))) 36 8144 800 (done 0 11 1)

-- a read of the pool and two Cmps before a PkgAlloc: 0
abbrev pub b226 : Row
b226 =
    stays (pic ((const 1 8 ∷ op AddrOf 4 (9 ∷ []) [] [] ∷ op Load 3 (3 ∷ 9 ∷ []) [] [] ∷ op3 Cmp 4 1 3 ∷ op3 Cmp 5 1 4
    ∷ op2 PkgAlloc 10 1 ∷ fork 0 1 2 ∷ []) ∷ (op2 Output 5 5 ∷ []) ∷ (op3 Cat 1 1 1 ∷ []) ∷ []) (at (upto 9) [])
    (registers 11 (0 ∷ 0 ∷ 1 ∷ replicate 8 0 ++ 77 ∷ [])) (operands 1 (1 ∷ 77 ∷ [])) (beside [] [] (1
    ∷ []))) 36 8144 800 (done 0 11 1)

-- a read of the pool and two Cmps before a Zero of it: 0
abbrev pub b227 : Row
b227 =
    stays (pic ((const 1 8 ∷ op AddrOf 4 (9 ∷ []) [] [] ∷ op Load 3 (3 ∷ 9 ∷ []) [] [] ∷ op3 Cmp 4 1 3 ∷ op3 Cmp 5 1 4
    ∷ op1 Zero 9 ∷ fork 0 1 2 ∷ []) ∷ (op2 Output 5 5 ∷ []) ∷ (op3 Cat 1 1 1 ∷ []) ∷ []) (at (upto 9) [])
    (registers 11 (0 ∷ 0 ∷ 1 ∷ replicate 8 0 ++ 77 ∷ [])) (operands 1 (1 ∷ 77 ∷ [])) (beside [] [] (1
    ∷ []))) 36 8144 800 (done 0 11 1)

-- a read of the pool and two Cmps before a CopyConst into it: 1
abbrev pub b228 : Row
b228 =
    moves (pic ((const 1 8 ∷ op AddrOf 4 (9 ∷ []) [] [] ∷ op Load 3 (3 ∷ 9 ∷ []) [] [] ∷ op3 Cmp 4 1 3 ∷ op3 Cmp 5 1 4
    ∷ op1 CopyConst 9 ∷ fork 0 1 2 ∷ []) ∷ (op2 Output 5 5 ∷ []) ∷ (op3 Cat 1 1 1 ∷ []) ∷ []) (at (upto 9) [])
    (registers 11 (0 ∷ 0 ∷ 1 ∷ replicate 8 0 ++ 77 ∷ 77 ∷ 77 ∷ [])) (operands 1 (1 ∷ 77 ∷ [])) (beside [] [] (1
    ∷ []))) 40 8160 800 (done 1 13 1) ((1 ∷ 0 ∷ 1 ∷ 3 ∷ 13 ∷ 1 ∷ []) ∷ [])
    (pic ((const 1 8 ∷ op AddrOf 4 (9 ∷ []) [] [] ∷ op1 CopyConst 9 ∷ fork 0 1 2 ∷ []) ∷ (op Load 3 (11 ∷ 9
    ∷ []) [] [] ∷ op3 Cmp 12 1 11 ∷ op3 Cmp 11 1 12 ∷ op2 Output 11 11 ∷ []) ∷ (op3 Cat 1 1 1 ∷ []) ∷ []) (at (0 ∷ 1
    ∷ 5 ∷ 6 ∷ 2 ∷ 3 ∷ 4 ∷ 7 ∷ 8 ∷ []) []) (registers 13 (0 ∷ 0 ∷ 1 ∷ replicate 10 0 ++ 77 ∷ [])) (operands 1 (1 ∷ 77
    ∷ [])) (beside [] [] (1 ∷ [])))

-- a read of the pool and two Cmps before a CopyConst into something: 0
abbrev pub b229 : Row
b229 =
    stays (pic ((const 1 8 ∷ op AddrOf 4 (9 ∷ []) [] [] ∷ op Load 3 (3 ∷ 9 ∷ []) [] [] ∷ op3 Cmp 4 1 3 ∷ op3 Cmp 5 1 4
    ∷ op1 CopyConst 0 ∷ fork 0 1 2 ∷ []) ∷ (op2 Output 5 5 ∷ []) ∷ (op3 Cat 1 1 1 ∷ []) ∷ []) (at (upto 9) [])
    (registers 11 (0 ∷ 0 ∷ 1 ∷ replicate 8 0 ++ 77 ∷ [])) (operands 1 (1 ∷ 77 ∷ [])) (beside [] [] (1
    ∷ []))) 36 8144 800 (done 0 11 1)

-- a read of the pool and two Cmps before a Copy into it: 1
abbrev pub b230 : Row
b230 =
    moves (pic ((const 1 8 ∷ op AddrOf 4 (9 ∷ []) [] [] ∷ op Load 3 (3 ∷ 9 ∷ []) [] [] ∷ op3 Cmp 4 1 3 ∷ op3 Cmp 5 1 4
    ∷ op3 Copy 9 1 1 ∷ fork 0 1 2 ∷ []) ∷ (op2 Output 5 5 ∷ []) ∷ (op3 Cat 1 1 1 ∷ []) ∷ []) (at (upto 9) [])
    (registers 11 (0 ∷ 0 ∷ 1 ∷ replicate 8 0 ++ 77 ∷ 77 ∷ 77 ∷ [])) (operands 1 (1 ∷ 77 ∷ [])) (beside [] [] (1
    ∷ []))) 40 8160 800 (done 1 13 1) ((1 ∷ 0 ∷ 1 ∷ 3 ∷ 13 ∷ 1 ∷ []) ∷ [])
    (pic ((const 1 8 ∷ op AddrOf 4 (9 ∷ []) [] [] ∷ op3 Copy 9 1 1 ∷ fork 0 1 2 ∷ []) ∷ (op Load 3 (11 ∷ 9 ∷ []) [] []
    ∷ op3 Cmp 12 1 11 ∷ op3 Cmp 11 1 12 ∷ op2 Output 11 11 ∷ []) ∷ (op3 Cat 1 1 1 ∷ []) ∷ []) (at (0 ∷ 1 ∷ 5 ∷ 6 ∷ 2
    ∷ 3 ∷ 4 ∷ 7 ∷ 8 ∷ []) []) (registers 13 (0 ∷ 0 ∷ 1 ∷ replicate 10 0 ++ 77 ∷ [])) (operands 1 (1 ∷ 77 ∷ []))
    (beside [] [] (1 ∷ [])))

-- a read of the pool and two Cmps before a Copy into something: 0
abbrev pub b231 : Row
b231 =
    stays (pic ((const 1 8 ∷ op AddrOf 4 (9 ∷ []) [] [] ∷ op Load 3 (3 ∷ 9 ∷ []) [] [] ∷ op3 Cmp 4 1 3 ∷ op3 Cmp 5 1 4
    ∷ op3 Copy 0 1 1 ∷ fork 0 1 2 ∷ []) ∷ (op2 Output 5 5 ∷ []) ∷ (op3 Cat 1 1 1 ∷ []) ∷ []) (at (upto 9) [])
    (registers 11 (0 ∷ 0 ∷ 1 ∷ replicate 8 0 ++ 77 ∷ [])) (operands 1 (1 ∷ 77 ∷ [])) (beside [] [] (1
    ∷ []))) 36 8144 800 (done 0 11 1)

-- a read of the pool and two Cmps before an LSet into it: 1
abbrev pub b232 : Row
b232 =
    moves (pic ((const 1 8 ∷ op AddrOf 4 (9 ∷ []) [] [] ∷ op Load 3 (3 ∷ 9 ∷ []) [] [] ∷ op3 Cmp 4 1 3 ∷ op3 Cmp 5 1 4
    ∷ op3 LSet 9 1 1 ∷ fork 0 1 2 ∷ []) ∷ (op2 Output 5 5 ∷ []) ∷ (op3 Cat 1 1 1 ∷ []) ∷ []) (at (upto 9) [])
    (registers 11 (0 ∷ 0 ∷ 1 ∷ replicate 8 0 ++ 77 ∷ 77 ∷ 77 ∷ [])) (operands 1 (1 ∷ 77 ∷ [])) (beside [] [] (1
    ∷ []))) 40 8160 800 (done 1 13 1) ((1 ∷ 0 ∷ 1 ∷ 3 ∷ 13 ∷ 1 ∷ []) ∷ [])
    (pic ((const 1 8 ∷ op AddrOf 4 (9 ∷ []) [] [] ∷ op3 LSet 9 1 1 ∷ fork 0 1 2 ∷ []) ∷ (op Load 3 (11 ∷ 9 ∷ []) [] []
    ∷ op3 Cmp 12 1 11 ∷ op3 Cmp 11 1 12 ∷ op2 Output 11 11 ∷ []) ∷ (op3 Cat 1 1 1 ∷ []) ∷ []) (at (0 ∷ 1 ∷ 5 ∷ 6 ∷ 2
    ∷ 3 ∷ 4 ∷ 7 ∷ 8 ∷ []) []) (registers 13 (0 ∷ 0 ∷ 1 ∷ replicate 10 0 ++ 77 ∷ [])) (operands 1 (1 ∷ 77 ∷ []))
    (beside [] [] (1 ∷ [])))

-- a read of the pool and two Cmps before an LSet into something: 0
abbrev pub b233 : Row
b233 =
    stays (pic ((const 1 8 ∷ op AddrOf 4 (9 ∷ []) [] [] ∷ op Load 3 (3 ∷ 9 ∷ []) [] [] ∷ op3 Cmp 4 1 3 ∷ op3 Cmp 5 1 4
    ∷ op3 LSet 0 1 1 ∷ fork 0 1 2 ∷ []) ∷ (op2 Output 5 5 ∷ []) ∷ (op3 Cat 1 1 1 ∷ []) ∷ []) (at (upto 9) [])
    (registers 11 (0 ∷ 0 ∷ 1 ∷ replicate 8 0 ++ 77 ∷ [])) (operands 1 (1 ∷ 77 ∷ [])) (beside [] [] (1
    ∷ []))) 36 8144 800 (done 0 11 1)

-- a read of the pool and two Cmps before an LFill into it: 1
abbrev pub b234 : Row
b234 =
    moves (pic ((const 1 8 ∷ op AddrOf 4 (9 ∷ []) [] [] ∷ op Load 3 (3 ∷ 9 ∷ []) [] [] ∷ op3 Cmp 4 1 3 ∷ op3 Cmp 5 1 4
    ∷ op4 LFill 9 1 1 1 ∷ fork 0 1 2 ∷ []) ∷ (op2 Output 5 5 ∷ []) ∷ (op3 Cat 1 1 1 ∷ []) ∷ []) (at (upto 9) [])
    (registers 11 (0 ∷ 0 ∷ 1 ∷ replicate 8 0 ++ 77 ∷ 77 ∷ 77 ∷ [])) (operands 1 (1 ∷ 77 ∷ [])) (beside [] [] (1
    ∷ []))) 40 8160 800 (done 1 13 1) ((1 ∷ 0 ∷ 1 ∷ 3 ∷ 13 ∷ 1 ∷ []) ∷ [])
    (pic ((const 1 8 ∷ op AddrOf 4 (9 ∷ []) [] [] ∷ op4 LFill 9 1 1 1 ∷ fork 0 1 2 ∷ []) ∷ (op Load 3 (11 ∷ 9
    ∷ []) [] [] ∷ op3 Cmp 12 1 11 ∷ op3 Cmp 11 1 12 ∷ op2 Output 11 11 ∷ []) ∷ (op3 Cat 1 1 1 ∷ []) ∷ []) (at (0 ∷ 1
    ∷ 5 ∷ 6 ∷ 2 ∷ 3 ∷ 4 ∷ 7 ∷ 8 ∷ []) []) (registers 13 (0 ∷ 0 ∷ 1 ∷ replicate 10 0 ++ 77 ∷ [])) (operands 1 (1 ∷ 77
    ∷ [])) (beside [] [] (1 ∷ [])))

-- a read of the pool and two Cmps before an LCopy into it: 1
abbrev pub b235 : Row
b235 =
    moves (pic ((const 1 8 ∷ op AddrOf 4 (9 ∷ []) [] [] ∷ op Load 3 (3 ∷ 9 ∷ []) [] [] ∷ op3 Cmp 4 1 3 ∷ op3 Cmp 5 1 4
    ∷ op5 LCopy 9 1 1 1 1 ∷ fork 0 1 2 ∷ []) ∷ (op2 Output 5 5 ∷ []) ∷ (op3 Cat 1 1 1 ∷ []) ∷ []) (at (upto 9) [])
    (registers 11 (0 ∷ 0 ∷ 1 ∷ replicate 8 0 ++ 77 ∷ 77 ∷ 77 ∷ [])) (operands 1 (1 ∷ 77 ∷ [])) (beside [] [] (1
    ∷ []))) 40 8160 800 (done 1 13 1) ((1 ∷ 0 ∷ 1 ∷ 3 ∷ 13 ∷ 1 ∷ []) ∷ [])
    (pic ((const 1 8 ∷ op AddrOf 4 (9 ∷ []) [] [] ∷ op5 LCopy 9 1 1 1 1 ∷ fork 0 1 2 ∷ []) ∷ (op Load 3 (11 ∷ 9
    ∷ []) [] [] ∷ op3 Cmp 12 1 11 ∷ op3 Cmp 11 1 12 ∷ op2 Output 11 11 ∷ []) ∷ (op3 Cat 1 1 1 ∷ []) ∷ []) (at (0 ∷ 1
    ∷ 5 ∷ 6 ∷ 2 ∷ 3 ∷ 4 ∷ 7 ∷ 8 ∷ []) []) (registers 13 (0 ∷ 0 ∷ 1 ∷ replicate 10 0 ++ 77 ∷ [])) (operands 1 (1 ∷ 77
    ∷ [])) (beside [] [] (1 ∷ [])))

-- a read of the pool and two Cmps before a LogicOp into it: 1
abbrev pub b236 : Row
b236 =
    moves (pic ((const 1 8 ∷ op AddrOf 4 (9 ∷ []) [] [] ∷ op Load 3 (3 ∷ 9 ∷ []) [] [] ∷ op3 Cmp 4 1 3 ∷ op3 Cmp 5 1 4
    ∷ op4 LogicOp 9 1 1 1 ∷ fork 0 1 2 ∷ []) ∷ (op2 Output 5 5 ∷ []) ∷ (op3 Cat 1 1 1 ∷ []) ∷ []) (at (upto 9) [])
    (registers 11 (0 ∷ 0 ∷ 1 ∷ replicate 8 0 ++ 77 ∷ 77 ∷ 77 ∷ [])) (operands 1 (1 ∷ 77 ∷ [])) (beside [] [] (1
    ∷ []))) 40 8160 800 (done 1 13 1) ((1 ∷ 0 ∷ 1 ∷ 3 ∷ 13 ∷ 1 ∷ []) ∷ [])
    (pic ((const 1 8 ∷ op AddrOf 4 (9 ∷ []) [] [] ∷ op4 LogicOp 9 1 1 1 ∷ fork 0 1 2 ∷ []) ∷ (op Load 3 (11 ∷ 9
    ∷ []) [] [] ∷ op3 Cmp 12 1 11 ∷ op3 Cmp 11 1 12 ∷ op2 Output 11 11 ∷ []) ∷ (op3 Cat 1 1 1 ∷ []) ∷ []) (at (0 ∷ 1
    ∷ 5 ∷ 6 ∷ 2 ∷ 3 ∷ 4 ∷ 7 ∷ 8 ∷ []) []) (registers 13 (0 ∷ 0 ∷ 1 ∷ replicate 10 0 ++ 77 ∷ [])) (operands 1 (1 ∷ 77
    ∷ [])) (beside [] [] (1 ∷ [])))

-- a result read behind x, in the chain: 0
abbrev pub b237 : Row
b237 =
    stays (pic ((const 1 8 ∷ op2 Alloc 2 1 ∷ op3 Cmp 3 1 1 ∷ op3 Cmp 4 1 3 ∷ op3 Cmp 5 1 4 ∷ op3 Cmp 6 1 5
    ∷ op3 Cmp 7 1 6 ∷ op3 Cmp 8 1 7 ∷ op3 Cat 2 1 1 ∷ br 3 ∷ []) ∷ (op2 Output 2 1 ∷ op0 Ret ∷ []) ∷ (op0 Ret ∷ [])
    ∷ (op2 Output 8 1 ∷ fork 0 1 2 ∷ []) ∷ []) (at (upto 15) []) (registers 9 (0 ∷ 0 ∷ 1 ∷ replicate 6 0 ++ 77 ∷ []))
    (operands 0 (77 ∷ [])) (beside [] [] [])) 36 8144 800 (done 0 9 0)

-- a result written in the other branch before it is read: 1
abbrev pub b239 : Row
b239 =
    moves (pic ((const 1 8 ∷ op2 Alloc 2 1 ∷ op3 Cmp 3 1 1 ∷ op3 Cmp 4 1 3 ∷ op3 Cmp 5 1 4 ∷ op3 Cmp 6 1 5
    ∷ op3 Cmp 7 1 6 ∷ op3 Cmp 8 1 7 ∷ op3 Cat 2 1 1 ∷ fork 0 1 2 ∷ []) ∷ (op2 Output 2 1 ∷ op0 Ret ∷ []) ∷ (const 8 3
    ∷ br 3 ∷ []) ∷ (op1 Ret 8 ∷ []) ∷ [] ∷ [] ∷ [] ∷ []) (at (upto 15) []) (registers 9 (0 ∷ 0 ∷ 1
    ∷ replicate 6 0 ++ 77 ∷ 77 ∷ 77 ∷ 77 ∷ [])) (operands 0 (77 ∷ [])) (beside [] [] [])) 54 8216 800 (done 1 12 0)
    ((1 ∷ 0 ∷ 1 ∷ 8 ∷ 12 ∷ 0 ∷ []) ∷ [])
    (pic ((const 1 8 ∷ fork 0 1 2 ∷ []) ∷ (op2 Alloc 9 1 ∷ op3 Cmp 10 1 1 ∷ op3 Cmp 11 1 10 ∷ op3 Cmp 10 1 11
    ∷ op3 Cmp 11 1 10 ∷ op3 Cmp 10 1 11 ∷ op3 Cmp 11 1 10 ∷ op3 Cat 9 1 1 ∷ op2 Output 9 1 ∷ op0 Ret ∷ [])
    ∷ (const 8 3 ∷ br 3 ∷ []) ∷ (op1 Ret 8 ∷ []) ∷ [] ∷ [] ∷ [] ∷ []) (at (0 ∷ 9 ∷ range 1 8 ++ range 10 5) [])
    (registers 12 (0 ∷ 0 ∷ 1 ∷ replicate 6 0 ++ 1 ∷ 0 ∷ 0 ∷ 77 ∷ [])) (operands 0 (77 ∷ [])) (beside [] [] []))

-- a result written behind the target before it is read: 1
abbrev pub b240 : Row
b240 =
    moves (pic ((const 1 8 ∷ op2 Alloc 2 1 ∷ op3 Cmp 3 1 1 ∷ op3 Cmp 4 1 3 ∷ op3 Cmp 5 1 4 ∷ op3 Cmp 6 1 5
    ∷ op3 Cmp 7 1 6 ∷ op3 Cmp 8 1 7 ∷ op3 Cat 2 1 1 ∷ fork 0 1 2 ∷ []) ∷ (op2 Output 2 1 ∷ br 3 ∷ []) ∷ (op0 Ret ∷ [])
    ∷ (const 8 3 ∷ op1 Ret 8 ∷ []) ∷ []) (at (upto 15) []) (registers 9 (0 ∷ 0 ∷ 1 ∷ replicate 6 0 ++ 77 ∷ 77 ∷ 77
    ∷ 77 ∷ [])) (operands 0 (77 ∷ [])) (beside [] [] [])) 42 8168 800 (done 1 12 0) ((1 ∷ 0 ∷ 1 ∷ 8 ∷ 12 ∷ 0 ∷ [])
    ∷ [])
    (pic ((const 1 8 ∷ fork 0 1 2 ∷ []) ∷ (op2 Alloc 9 1 ∷ op3 Cmp 10 1 1 ∷ op3 Cmp 11 1 10 ∷ op3 Cmp 10 1 11
    ∷ op3 Cmp 11 1 10 ∷ op3 Cmp 10 1 11 ∷ op3 Cmp 11 1 10 ∷ op3 Cat 9 1 1 ∷ op2 Output 9 1 ∷ br 3 ∷ []) ∷ (op0 Ret
    ∷ []) ∷ (const 8 3 ∷ op1 Ret 8 ∷ []) ∷ []) (at (0 ∷ 9 ∷ range 1 8 ++ range 10 5) []) (registers 12 (0 ∷ 0 ∷ 1
    ∷ replicate 6 0 ++ 1 ∷ 0 ∷ 0 ∷ 77 ∷ [])) (operands 0 (77 ∷ [])) (beside [] [] []))

-- a result live round a loop behind the target: 0
abbrev pub b241 : Row
b241 =
    stays (pic ((const 1 8 ∷ op2 Alloc 2 1 ∷ op3 Cmp 3 1 1 ∷ op3 Cmp 4 1 3 ∷ op3 Cmp 5 1 4 ∷ op3 Cmp 6 1 5
    ∷ op3 Cmp 7 1 6 ∷ op3 Cmp 8 1 7 ∷ op3 Cat 2 1 1 ∷ fork 0 1 2 ∷ []) ∷ (op2 Output 2 1 ∷ br 3 ∷ []) ∷ (op0 Ret ∷ [])
    ∷ (op0 Cover ∷ fork 0 4 5 ∷ []) ∷ (br 3 ∷ []) ∷ (op2 Output 8 8 ∷ []) ∷ []) (at (upto 17) []) (registers 9 (0 ∷ 0
    ∷ 1 ∷ replicate 6 0 ++ 77 ∷ [])) (operands 0 (77 ∷ [])) (beside [] [] [])) 44 8176 800 (done 0 9 0)

-- a result written in that loop's way out: 1
abbrev pub b242 : Row
b242 =
    moves (pic ((const 1 8 ∷ op2 Alloc 2 1 ∷ op3 Cmp 3 1 1 ∷ op3 Cmp 4 1 3 ∷ op3 Cmp 5 1 4 ∷ op3 Cmp 6 1 5
    ∷ op3 Cmp 7 1 6 ∷ op3 Cmp 8 1 7 ∷ op3 Cat 2 1 1 ∷ fork 0 1 2 ∷ []) ∷ (op2 Output 2 1 ∷ br 3 ∷ []) ∷ (op0 Ret ∷ [])
    ∷ (op0 Cover ∷ fork 0 4 5 ∷ []) ∷ (br 3 ∷ []) ∷ (const 8 1 ∷ op2 Output 8 8 ∷ []) ∷ []) (at (upto 18) [])
    (registers 9 (0 ∷ 0 ∷ 1 ∷ replicate 6 0 ++ 77 ∷ 77 ∷ 77 ∷ 77 ∷ [])) (operands 0 (77 ∷ []))
    (beside [] [] [])) 50 8200 800 (done 1 12 0) ((1 ∷ 0 ∷ 1 ∷ 8 ∷ 12 ∷ 0 ∷ []) ∷ [])
    (pic ((const 1 8 ∷ fork 0 1 2 ∷ []) ∷ (op2 Alloc 9 1 ∷ op3 Cmp 10 1 1 ∷ op3 Cmp 11 1 10 ∷ op3 Cmp 10 1 11
    ∷ op3 Cmp 11 1 10 ∷ op3 Cmp 10 1 11 ∷ op3 Cmp 11 1 10 ∷ op3 Cat 9 1 1 ∷ op2 Output 9 1 ∷ br 3 ∷ []) ∷ (op0 Ret
    ∷ []) ∷ (op0 Cover ∷ fork 0 4 5 ∷ []) ∷ (br 3 ∷ []) ∷ (const 8 1 ∷ op2 Output 8 8 ∷ []) ∷ []) (at (0 ∷ 9
    ∷ range 1 8 ++ range 10 8) []) (registers 12 (0 ∷ 0 ∷ 1 ∷ replicate 6 0 ++ 1 ∷ 0 ∷ 0 ∷ 77 ∷ [])) (operands 0 (77
    ∷ [])) (beside [] [] []))

abbrev pub rows11 : List Row
rows11 =
    b204 ∷ b205 ∷ b206 ∷ b207 ∷ b208 ∷ b209 ∷ b210 ∷ b211 ∷ b212 ∷ b213 ∷ b214 ∷ b215 ∷ b216 ∷ b217 ∷ b218 ∷ b219
    ∷ b220 ∷ b221 ∷ b222 ∷ b223 ∷ b224 ∷ b225 ∷ b226 ∷ b227 ∷ b228 ∷ b229 ∷ b230 ∷ b231 ∷ b232 ∷ b233 ∷ b234 ∷ b235
    ∷ b236 ∷ b237 ∷ b239 ∷ b240 ∷ b241 ∷ b242 ∷ []
