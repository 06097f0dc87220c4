-- Refused pictures, page 5: one for each way to damage a generated one, with tests/rust's judgement. Printed by
-- `compare crossed` in tests/rust, and again by its compare.sh: not to be edited. Assumes nothing.
use Rattle.std.specs.Prelude.{List, [], ◌∷◌, ◌++◌, replicate}
use Rattle.words.specs.Lists.{upto}
use Rattle.model.specs.Kinds.{AddrOf, Alloc, Bin, Br, CallIndirect, CallNative, Case, Cat, Check, Cmp}
use Rattle.model.specs.Kinds.{CondBr, Const, Index, LayoutOf, MakeDope, Output, Ret, SigGather, SigVal, Stmt}
use Rattle.model.specs.Kinds.{Store, Unreachable}
use Rattle.model.specs.Picture.{absent}
use Rattle.model.specs.Build.{op}
use Rattle.crossed.specs.Row.{Row, pic, at, registers, operands, beside, op0, op1, op2, op3, fork, const, bounded, longer, stays, refused}

-- seed 4, more registers in use than lent: refused 1
abbrev pub d13 : Row
d13 =
    stays (pic ((op Const 0 (8 ∷ []) [] (absent ∷ 4294967039 ∷ 0 ∷ 1 ∷ 8 ∷ 3 ∷ 5 ∷ []) ∷ op2 Alloc 4 8 ∷ op Cat 0 (4
    ∷ 8 ∷ 8 ∷ []) (0 ∷ 3 ∷ []) (45817 ∷ []) ∷ op3 SigVal 7 8 8 ∷ op Store 2 (4 ∷ 8 ∷ []) [] [] ∷ op3 Index 3 4 8
    ∷ op Bin 4 (2 ∷ 8 ∷ 0 ∷ []) [] [] ∷ op CondBr 0 (1 ∷ []) [] (1 ∷ []) ∷ []) ∷ (op Bin 4 (0 ∷ 8 ∷ 4 ∷ []) [] []
    ∷ op CallNative 0 [] (3 ∷ 1 ∷ []) [] ∷ op1 Ret 8 ∷ []) ∷ (op3 Cat 1 1 1 ∷ []) ∷ []) (at (upto 12) [])
    (registers 10 (1 ∷ 0 ∷ 0 ∷ 0 ∷ 2 ∷ 0 ∷ 0 ∷ 1 ∷ 0 ∷ [])) (operands 4 (8 ∷ 4 ∷ 4 ∷ 7 ∷ [])) (beside [] [] (1
    ∷ []))) 30 8120 800 (refused 1)

-- seed 4, more operands in use than lent: refused 1
abbrev pub d14 : Row
d14 =
    stays (pic ((op Const 0 (8 ∷ []) [] (absent ∷ 4294967039 ∷ 0 ∷ 1 ∷ 8 ∷ 3 ∷ 5 ∷ []) ∷ op2 Alloc 4 8 ∷ op Cat 0 (4
    ∷ 8 ∷ 8 ∷ []) (0 ∷ 3 ∷ []) (45817 ∷ []) ∷ op3 SigVal 7 8 8 ∷ op Store 2 (4 ∷ 8 ∷ []) [] [] ∷ op3 Index 3 4 8
    ∷ op Bin 4 (2 ∷ 8 ∷ 0 ∷ []) [] [] ∷ op CondBr 0 (1 ∷ []) [] (1 ∷ []) ∷ []) ∷ (op Bin 4 (0 ∷ 8 ∷ 4 ∷ []) [] []
    ∷ op CallNative 0 [] (3 ∷ 1 ∷ []) [] ∷ op1 Ret 8 ∷ []) ∷ (op3 Cat 1 1 1 ∷ []) ∷ []) (at (upto 12) []) (registers 9
    (1 ∷ 0 ∷ 0 ∷ 0 ∷ 2 ∷ 0 ∷ 0 ∷ 1 ∷ 0 ∷ [])) (operands 5 (8 ∷ 4 ∷ 4 ∷ 7 ∷ [])) (beside [] [] (1 ∷ []))) 30 8120 800
    (refused 1)

-- seed 4, a record word too few: refused 2
abbrev pub d15 : Row
d15 =
    stays (bounded (0 ∷ 8 ∷ 8 ∷ 11 ∷ 11 ∷ 12 ∷ []) (longer (39 ∷ 0 ∷ 1 ∷ 1 ∷ 1 ∷ absent ∷ absent ∷ replicate 8 0) (pic
    ((op Const 0 (8 ∷ []) [] (absent ∷ 4294967039 ∷ 0 ∷ 1 ∷ 8 ∷ 3 ∷ 5 ∷ []) ∷ op2 Alloc 4 8 ∷ op Cat 0 (4 ∷ 8 ∷ 8
    ∷ []) (0 ∷ 3 ∷ []) (45817 ∷ []) ∷ op3 SigVal 7 8 8 ∷ op Store 2 (4 ∷ 8 ∷ []) [] [] ∷ op3 Index 3 4 8 ∷ op Bin 4 (2
    ∷ 8 ∷ 0 ∷ []) [] [] ∷ op CondBr 0 (1 ∷ []) [] (1 ∷ []) ∷ op Bin 4 (0 ∷ 8 ∷ 4 ∷ []) [] [] ∷ op CallNative 0 [] (3
    ∷ 1 ∷ []) [] ∷ op1 Ret 8 ∷ []) ∷ []) (at (upto 12) []) (registers 9 (1 ∷ 0 ∷ 0 ∷ 0 ∷ 2 ∷ 0 ∷ 0 ∷ 1 ∷ 0 ∷ []))
    (operands 4 (8 ∷ 4 ∷ 4 ∷ 7 ∷ [])) (beside [] [] (1 ∷ []))))) 30 8120 800 (refused 2)

-- seed 4, a record word too many: refused 2
abbrev pub d16 : Row
d16 =
    stays (longer (0 ∷ []) (pic ((op Const 0 (8 ∷ []) [] (absent ∷ 4294967039 ∷ 0 ∷ 1 ∷ 8 ∷ 3 ∷ 5 ∷ [])
    ∷ op2 Alloc 4 8 ∷ op Cat 0 (4 ∷ 8 ∷ 8 ∷ []) (0 ∷ 3 ∷ []) (45817 ∷ []) ∷ op3 SigVal 7 8 8 ∷ op Store 2 (4 ∷ 8
    ∷ []) [] [] ∷ op3 Index 3 4 8 ∷ op Bin 4 (2 ∷ 8 ∷ 0 ∷ []) [] [] ∷ op CondBr 0 (1 ∷ []) [] (1 ∷ []) ∷ [])
    ∷ (op Bin 4 (0 ∷ 8 ∷ 4 ∷ []) [] [] ∷ op CallNative 0 [] (3 ∷ 1 ∷ []) [] ∷ op1 Ret 8 ∷ []) ∷ (op3 Cat 1 1 1 ∷ [])
    ∷ []) (at (upto 12) []) (registers 9 (1 ∷ 0 ∷ 0 ∷ 0 ∷ 2 ∷ 0 ∷ 0 ∷ 1 ∷ 0 ∷ [])) (operands 4 (8 ∷ 4 ∷ 4 ∷ 7 ∷ []))
    (beside [] [] (1 ∷ [])))) 30 8120 800 (refused 2)

-- seed 4, a loc too many: refused 2
abbrev pub d17 : Row
d17 =
    stays (pic ((op Const 0 (8 ∷ []) [] (absent ∷ 4294967039 ∷ 0 ∷ 1 ∷ 8 ∷ 3 ∷ 5 ∷ []) ∷ op2 Alloc 4 8 ∷ op Cat 0 (4
    ∷ 8 ∷ 8 ∷ []) (0 ∷ 3 ∷ []) (45817 ∷ []) ∷ op3 SigVal 7 8 8 ∷ op Store 2 (4 ∷ 8 ∷ []) [] [] ∷ op3 Index 3 4 8
    ∷ op Bin 4 (2 ∷ 8 ∷ 0 ∷ []) [] [] ∷ op CondBr 0 (1 ∷ []) [] (1 ∷ []) ∷ []) ∷ (op Bin 4 (0 ∷ 8 ∷ 4 ∷ []) [] []
    ∷ op CallNative 0 [] (3 ∷ 1 ∷ []) [] ∷ op1 Ret 8 ∷ []) ∷ (op3 Cat 1 1 1 ∷ []) ∷ []) (at (upto 12 ++ 0 ∷ []) [])
    (registers 9 (1 ∷ 0 ∷ 0 ∷ 0 ∷ 2 ∷ 0 ∷ 0 ∷ 1 ∷ 0 ∷ [])) (operands 4 (8 ∷ 4 ∷ 4 ∷ 7 ∷ [])) (beside [] [] (1
    ∷ []))) 30 8120 800 (refused 2)

-- seed 4, a via too few: refused 2
abbrev pub d18 : Row
d18 =
    stays (pic ((op Const 0 (8 ∷ []) [] (absent ∷ 4294967039 ∷ 0 ∷ 1 ∷ 8 ∷ 3 ∷ 5 ∷ []) ∷ op2 Alloc 4 8 ∷ op Cat 0 (4
    ∷ 8 ∷ 8 ∷ []) (0 ∷ 3 ∷ []) (45817 ∷ []) ∷ op3 SigVal 7 8 8 ∷ op Store 2 (4 ∷ 8 ∷ []) [] [] ∷ op3 Index 3 4 8
    ∷ op Bin 4 (2 ∷ 8 ∷ 0 ∷ []) [] [] ∷ op CondBr 0 (1 ∷ []) [] (1 ∷ []) ∷ []) ∷ (op Bin 4 (0 ∷ 8 ∷ 4 ∷ []) [] []
    ∷ op CallNative 0 [] (3 ∷ 1 ∷ []) [] ∷ op1 Ret 8 ∷ []) ∷ (op3 Cat 1 1 1 ∷ []) ∷ []) (at (upto 12)
    (replicate 11 3)) (registers 9 (1 ∷ 0 ∷ 0 ∷ 0 ∷ 2 ∷ 0 ∷ 0 ∷ 1 ∷ 0 ∷ [])) (operands 4 (8 ∷ 4 ∷ 4 ∷ 7 ∷ []))
    (beside [] [] (1 ∷ []))) 30 8120 800 (refused 2)

-- seed 4, a via too many: refused 2
abbrev pub d19 : Row
d19 =
    stays (pic ((op Const 0 (8 ∷ []) [] (absent ∷ 4294967039 ∷ 0 ∷ 1 ∷ 8 ∷ 3 ∷ 5 ∷ []) ∷ op2 Alloc 4 8 ∷ op Cat 0 (4
    ∷ 8 ∷ 8 ∷ []) (0 ∷ 3 ∷ []) (45817 ∷ []) ∷ op3 SigVal 7 8 8 ∷ op Store 2 (4 ∷ 8 ∷ []) [] [] ∷ op3 Index 3 4 8
    ∷ op Bin 4 (2 ∷ 8 ∷ 0 ∷ []) [] [] ∷ op CondBr 0 (1 ∷ []) [] (1 ∷ []) ∷ []) ∷ (op Bin 4 (0 ∷ 8 ∷ 4 ∷ []) [] []
    ∷ op CallNative 0 [] (3 ∷ 1 ∷ []) [] ∷ op1 Ret 8 ∷ []) ∷ (op3 Cat 1 1 1 ∷ []) ∷ []) (at (upto 12)
    (replicate 13 3)) (registers 9 (1 ∷ 0 ∷ 0 ∷ 0 ∷ 2 ∷ 0 ∷ 0 ∷ 1 ∷ 0 ∷ [])) (operands 4 (8 ∷ 4 ∷ 4 ∷ 7 ∷ []))
    (beside [] [] (1 ∷ []))) 30 8120 800 (refused 2)

-- seed 4, odd block words: refused 2
abbrev pub d20 : Row
d20 =
    stays (bounded (0 ∷ 8 ∷ 8 ∷ 11 ∷ 11 ∷ 12 ∷ 0 ∷ []) (pic ((op Const 0 (8 ∷ []) [] (absent ∷ 4294967039 ∷ 0 ∷ 1 ∷ 8
    ∷ 3 ∷ 5 ∷ []) ∷ op2 Alloc 4 8 ∷ op Cat 0 (4 ∷ 8 ∷ 8 ∷ []) (0 ∷ 3 ∷ []) (45817 ∷ []) ∷ op3 SigVal 7 8 8
    ∷ op Store 2 (4 ∷ 8 ∷ []) [] [] ∷ op3 Index 3 4 8 ∷ op Bin 4 (2 ∷ 8 ∷ 0 ∷ []) [] [] ∷ op CondBr 0 (1 ∷ []) [] (1
    ∷ []) ∷ op Bin 4 (0 ∷ 8 ∷ 4 ∷ []) [] [] ∷ op CallNative 0 [] (3 ∷ 1 ∷ []) [] ∷ op1 Ret 8 ∷ op3 Cat 1 1 1 ∷ [])
    ∷ []) (at (upto 12) []) (registers 9 (1 ∷ 0 ∷ 0 ∷ 0 ∷ 2 ∷ 0 ∷ 0 ∷ 1 ∷ 0 ∷ [])) (operands 4 (8 ∷ 4 ∷ 4 ∷ 7 ∷ []))
    (beside [] [] (1 ∷ [])))) 30 8120 800 (refused 2)

-- seed 4, odd pair words: refused 2
abbrev pub d21 : Row
d21 =
    stays (pic ((op Const 0 (8 ∷ []) [] (absent ∷ 4294967039 ∷ 0 ∷ 1 ∷ 8 ∷ 3 ∷ 5 ∷ []) ∷ op2 Alloc 4 8 ∷ op Cat 0 (4
    ∷ 8 ∷ 8 ∷ []) (0 ∷ 3 ∷ []) (45817 ∷ []) ∷ op3 SigVal 7 8 8 ∷ op Store 2 (4 ∷ 8 ∷ []) [] [] ∷ op3 Index 3 4 8
    ∷ op Bin 4 (2 ∷ 8 ∷ 0 ∷ []) [] [] ∷ op CondBr 0 (1 ∷ []) [] (1 ∷ []) ∷ []) ∷ (op Bin 4 (0 ∷ 8 ∷ 4 ∷ []) [] []
    ∷ op CallNative 0 [] (3 ∷ 1 ∷ []) [] ∷ op1 Ret 8 ∷ []) ∷ (op3 Cat 1 1 1 ∷ []) ∷ []) (at (upto 12) []) (registers 9
    (1 ∷ 0 ∷ 0 ∷ 0 ∷ 2 ∷ 0 ∷ 0 ∷ 1 ∷ 0 ∷ [])) (operands 4 (8 ∷ 4 ∷ 4 ∷ 7 ∷ [])) (beside (0 ∷ []) [] (1
    ∷ []))) 30 8120 800 (refused 2)

-- seed 4, a block starts late: refused 3
abbrev pub d22 : Row
d22 =
    stays (bounded (0 ∷ 8 ∷ 9 ∷ 11 ∷ 11 ∷ 12 ∷ []) (pic ((op Const 0 (8 ∷ []) [] (absent ∷ 4294967039 ∷ 0 ∷ 1 ∷ 8 ∷ 3
    ∷ 5 ∷ []) ∷ op2 Alloc 4 8 ∷ op Cat 0 (4 ∷ 8 ∷ 8 ∷ []) (0 ∷ 3 ∷ []) (45817 ∷ []) ∷ op3 SigVal 7 8 8 ∷ op Store 2 (4
    ∷ 8 ∷ []) [] [] ∷ op3 Index 3 4 8 ∷ op Bin 4 (2 ∷ 8 ∷ 0 ∷ []) [] [] ∷ op CondBr 0 (1 ∷ []) [] (1 ∷ []) ∷ op Bin 4
    (0 ∷ 8 ∷ 4 ∷ []) [] [] ∷ op CallNative 0 [] (3 ∷ 1 ∷ []) [] ∷ op1 Ret 8 ∷ op3 Cat 1 1 1 ∷ []) ∷ []) (at
    (upto 12) []) (registers 9 (1 ∷ 0 ∷ 0 ∷ 0 ∷ 2 ∷ 0 ∷ 0 ∷ 1 ∷ 0 ∷ [])) (operands 4 (8 ∷ 4 ∷ 4 ∷ 7 ∷ []))
    (beside [] [] (1 ∷ [])))) 30 8120 800 (refused 3)

-- seed 4, a block ends early: refused 3
abbrev pub d23 : Row
d23 =
    stays (bounded (0 ∷ 8 ∷ 8 ∷ 10 ∷ 11 ∷ 12 ∷ []) (pic ((op Const 0 (8 ∷ []) [] (absent ∷ 4294967039 ∷ 0 ∷ 1 ∷ 8 ∷ 3
    ∷ 5 ∷ []) ∷ op2 Alloc 4 8 ∷ op Cat 0 (4 ∷ 8 ∷ 8 ∷ []) (0 ∷ 3 ∷ []) (45817 ∷ []) ∷ op3 SigVal 7 8 8 ∷ op Store 2 (4
    ∷ 8 ∷ []) [] [] ∷ op3 Index 3 4 8 ∷ op Bin 4 (2 ∷ 8 ∷ 0 ∷ []) [] [] ∷ op CondBr 0 (1 ∷ []) [] (1 ∷ []) ∷ op Bin 4
    (0 ∷ 8 ∷ 4 ∷ []) [] [] ∷ op CallNative 0 [] (3 ∷ 1 ∷ []) [] ∷ op1 Ret 8 ∷ op3 Cat 1 1 1 ∷ []) ∷ []) (at
    (upto 12) []) (registers 9 (1 ∷ 0 ∷ 0 ∷ 0 ∷ 2 ∷ 0 ∷ 0 ∷ 1 ∷ 0 ∷ [])) (operands 4 (8 ∷ 4 ∷ 4 ∷ 7 ∷ []))
    (beside [] [] (1 ∷ [])))) 30 8120 800 (refused 3)

-- seed 4, an end below its start: refused 3
abbrev pub d24 : Row
d24 =
    stays (bounded (0 ∷ 8 ∷ 8 ∷ 7 ∷ 11 ∷ 12 ∷ []) (pic ((op Const 0 (8 ∷ []) [] (absent ∷ 4294967039 ∷ 0 ∷ 1 ∷ 8 ∷ 3
    ∷ 5 ∷ []) ∷ op2 Alloc 4 8 ∷ op Cat 0 (4 ∷ 8 ∷ 8 ∷ []) (0 ∷ 3 ∷ []) (45817 ∷ []) ∷ op3 SigVal 7 8 8 ∷ op Store 2 (4
    ∷ 8 ∷ []) [] [] ∷ op3 Index 3 4 8 ∷ op Bin 4 (2 ∷ 8 ∷ 0 ∷ []) [] [] ∷ op CondBr 0 (1 ∷ []) [] (1 ∷ []) ∷ op Bin 4
    (0 ∷ 8 ∷ 4 ∷ []) [] [] ∷ op CallNative 0 [] (3 ∷ 1 ∷ []) [] ∷ op1 Ret 8 ∷ op3 Cat 1 1 1 ∷ []) ∷ []) (at
    (upto 12) []) (registers 9 (1 ∷ 0 ∷ 0 ∷ 0 ∷ 2 ∷ 0 ∷ 0 ∷ 1 ∷ 0 ∷ [])) (operands 4 (8 ∷ 4 ∷ 4 ∷ 7 ∷ []))
    (beside [] [] (1 ∷ [])))) 30 8120 800 (refused 3)

-- seed 4, the last block ends past the code: refused 3
abbrev pub d25 : Row
d25 =
    stays (bounded (0 ∷ 8 ∷ 8 ∷ 11 ∷ 11 ∷ 13 ∷ []) (pic ((op Const 0 (8 ∷ []) [] (absent ∷ 4294967039 ∷ 0 ∷ 1 ∷ 8 ∷ 3
    ∷ 5 ∷ []) ∷ op2 Alloc 4 8 ∷ op Cat 0 (4 ∷ 8 ∷ 8 ∷ []) (0 ∷ 3 ∷ []) (45817 ∷ []) ∷ op3 SigVal 7 8 8 ∷ op Store 2 (4
    ∷ 8 ∷ []) [] [] ∷ op3 Index 3 4 8 ∷ op Bin 4 (2 ∷ 8 ∷ 0 ∷ []) [] [] ∷ op CondBr 0 (1 ∷ []) [] (1 ∷ []) ∷ op Bin 4
    (0 ∷ 8 ∷ 4 ∷ []) [] [] ∷ op CallNative 0 [] (3 ∷ 1 ∷ []) [] ∷ op1 Ret 8 ∷ op3 Cat 1 1 1 ∷ []) ∷ []) (at
    (upto 12) []) (registers 9 (1 ∷ 0 ∷ 0 ∷ 0 ∷ 2 ∷ 0 ∷ 0 ∷ 1 ∷ 0 ∷ [])) (operands 4 (8 ∷ 4 ∷ 4 ∷ 7 ∷ []))
    (beside [] [] (1 ∷ [])))) 30 8120 800 (refused 3)

-- seed 4, code behind the last block: refused 3
abbrev pub d26 : Row
d26 =
    stays (bounded (0 ∷ 8 ∷ 8 ∷ 11 ∷ 11 ∷ 12 ∷ []) (pic ((op Const 0 (8 ∷ []) [] (absent ∷ 4294967039 ∷ 0 ∷ 1 ∷ 8 ∷ 3
    ∷ 5 ∷ []) ∷ op2 Alloc 4 8 ∷ op Cat 0 (4 ∷ 8 ∷ 8 ∷ []) (0 ∷ 3 ∷ []) (45817 ∷ []) ∷ op3 SigVal 7 8 8 ∷ op Store 2 (4
    ∷ 8 ∷ []) [] [] ∷ op3 Index 3 4 8 ∷ op Bin 4 (2 ∷ 8 ∷ 0 ∷ []) [] [] ∷ op CondBr 0 (1 ∷ []) [] (1 ∷ []) ∷ op Bin 4
    (0 ∷ 8 ∷ 4 ∷ []) [] [] ∷ op CallNative 0 [] (3 ∷ 1 ∷ []) [] ∷ op1 Ret 8 ∷ op3 Cat 1 1 1 ∷ op0 Stmt ∷ []) ∷ []) (at
    (upto 12 ++ 0 ∷ []) []) (registers 9 (1 ∷ 0 ∷ 0 ∷ 0 ∷ 2 ∷ 0 ∷ 0 ∷ 1 ∷ 0 ∷ [])) (operands 4 (8 ∷ 4 ∷ 4 ∷ 7 ∷ []))
    (beside [] [] (1 ∷ [])))) 30 8120 800 (refused 3)

-- seed 4, kind 101: refused 4
abbrev pub d28 : Row
d28 =
    stays (pic ((op Const 0 (8 ∷ []) [] (absent ∷ 4294967039 ∷ 0 ∷ 1 ∷ 8 ∷ 3 ∷ 5 ∷ []) ∷ op2 Alloc 4 8 ∷ op Cat 0 (4
    ∷ 8 ∷ 8 ∷ []) (0 ∷ 3 ∷ []) (45817 ∷ []) ∷ op3 SigVal 7 8 8 ∷ op Store 2 (4 ∷ 8 ∷ []) [] [] ∷ op3 Index 3 4 8
    ∷ op Bin 4 (2 ∷ 8 ∷ 0 ∷ []) [] [] ∷ (101 ∷ 0 ∷ 1 ∷ absent ∷ absent ∷ absent ∷ absent ∷ 0 ∷ 0 ∷ 1 ∷ replicate 6 0)
    ∷ []) ∷ (op Bin 4 (0 ∷ 8 ∷ 4 ∷ []) [] [] ∷ op CallNative 0 [] (3 ∷ 1 ∷ []) [] ∷ op1 Ret 8 ∷ []) ∷ (op3 Cat 1 1 1
    ∷ []) ∷ []) (at (upto 12) []) (registers 9 (1 ∷ 0 ∷ 0 ∷ 0 ∷ 2 ∷ 0 ∷ 0 ∷ 1 ∷ 0 ∷ [])) (operands 4 (8 ∷ 4 ∷ 4 ∷ 7
    ∷ [])) (beside [] [] (1 ∷ []))) 30 8120 800 (refused 4)

-- seed 4, kind 4294967295: refused 4
abbrev pub d29 : Row
d29 =
    stays (pic ((op Const 0 (8 ∷ []) [] (absent ∷ 4294967039 ∷ 0 ∷ 1 ∷ 8 ∷ 3 ∷ 5 ∷ []) ∷ op2 Alloc 4 8 ∷ op Cat 0 (4
    ∷ 8 ∷ 8 ∷ []) (0 ∷ 3 ∷ []) (45817 ∷ []) ∷ op3 SigVal 7 8 8 ∷ op Store 2 (4 ∷ 8 ∷ []) [] [] ∷ op3 Index 3 4 8
    ∷ op Bin 4 (2 ∷ 8 ∷ 0 ∷ []) [] [] ∷ (absent ∷ 0 ∷ 1 ∷ absent ∷ absent ∷ absent ∷ absent ∷ 0 ∷ 0 ∷ 1
    ∷ replicate 6 0) ∷ []) ∷ (op Bin 4 (0 ∷ 8 ∷ 4 ∷ []) [] [] ∷ op CallNative 0 [] (3 ∷ 1 ∷ []) [] ∷ op1 Ret 8 ∷ [])
    ∷ (op3 Cat 1 1 1 ∷ []) ∷ []) (at (upto 12) []) (registers 9 (1 ∷ 0 ∷ 0 ∷ 0 ∷ 2 ∷ 0 ∷ 0 ∷ 1 ∷ 0 ∷ [])) (operands 4
    (8 ∷ 4 ∷ 4 ∷ 7 ∷ [])) (beside [] [] (1 ∷ []))) 30 8120 800 (refused 4)

-- seed 4, a form past the last: refused 4
abbrev pub d30 : Row
d30 =
    stays (pic ((op Const 0 (8 ∷ []) [] (absent ∷ 4294967039 ∷ 0 ∷ 1 ∷ 8 ∷ 3 ∷ 5 ∷ []) ∷ op2 Alloc 4 8 ∷ op Cat 0 (4
    ∷ 8 ∷ 8 ∷ []) (0 ∷ 3 ∷ []) (45817 ∷ []) ∷ op3 SigVal 7 8 8 ∷ op Store 2 (4 ∷ 8 ∷ []) [] [] ∷ op3 Index 3 4 8
    ∷ op Bin 4 (2 ∷ 8 ∷ 0 ∷ []) [] [] ∷ op CondBr 1 (1 ∷ []) [] (1 ∷ []) ∷ []) ∷ (op Bin 4 (0 ∷ 8 ∷ 4 ∷ []) [] []
    ∷ op CallNative 0 [] (3 ∷ 1 ∷ []) [] ∷ op1 Ret 8 ∷ []) ∷ (op3 Cat 1 1 1 ∷ []) ∷ []) (at (upto 12) []) (registers 9
    (1 ∷ 0 ∷ 0 ∷ 0 ∷ 2 ∷ 0 ∷ 0 ∷ 1 ∷ 0 ∷ [])) (operands 4 (8 ∷ 4 ∷ 4 ∷ 7 ∷ [])) (beside [] [] (1 ∷ []))) 30 8120 800
    (refused 4)

-- seed 4, Load or Store of form 0: refused 4
abbrev pub d31 : Row
d31 =
    stays (pic ((op Const 0 (8 ∷ []) [] (absent ∷ 4294967039 ∷ 0 ∷ 1 ∷ 8 ∷ 3 ∷ 5 ∷ []) ∷ op2 Alloc 4 8 ∷ op Cat 0 (4
    ∷ 8 ∷ 8 ∷ []) (0 ∷ 3 ∷ []) (45817 ∷ []) ∷ op3 SigVal 7 8 8 ∷ op2 Store 4 8 ∷ op3 Index 3 4 8 ∷ op Bin 4 (2 ∷ 8 ∷ 0
    ∷ []) [] [] ∷ op CondBr 0 (1 ∷ []) [] (1 ∷ []) ∷ []) ∷ (op Bin 4 (0 ∷ 8 ∷ 4 ∷ []) [] [] ∷ op CallNative 0 [] (3
    ∷ 1 ∷ []) [] ∷ op1 Ret 8 ∷ []) ∷ (op3 Cat 1 1 1 ∷ []) ∷ []) (at (upto 12) []) (registers 9 (1 ∷ 0 ∷ 0 ∷ 0 ∷ 2 ∷ 0
    ∷ 0 ∷ 1 ∷ 0 ∷ [])) (operands 4 (8 ∷ 4 ∷ 4 ∷ 7 ∷ [])) (beside [] [] (1 ∷ []))) 30 8120 800 (refused 4)

-- seed 4, scalars 65,536: refused 4
abbrev pub d32 : Row
d32 =
    stays (pic ((op Const 0 (8 ∷ []) [] (absent ∷ 4294967039 ∷ 0 ∷ 1 ∷ 8 ∷ 3 ∷ 5 ∷ []) ∷ op2 Alloc 4 8 ∷ op Cat 0 (4
    ∷ 8 ∷ 8 ∷ []) (0 ∷ 3 ∷ []) (45817 ∷ []) ∷ op3 SigVal 7 8 8 ∷ op Store 2 (4 ∷ 8 ∷ []) [] [] ∷ op3 Index 3 4 8
    ∷ op Bin 4 (2 ∷ 8 ∷ 0 ∷ []) [] [] ∷ op CondBr 0 (1 ∷ []) [] (1 ∷ []) ∷ []) ∷ (op Bin 4 (0 ∷ 8 ∷ 4 ∷ []) [] []
    ∷ op CallNative 0 [] (3 ∷ 1 ∷ []) [] ∷ op1 Ret 8 ∷ []) ∷ (op Cat 0 (1 ∷ 1 ∷ 1 ∷ []) [] (65536 ∷ []) ∷ []) ∷ [])
    (at (upto 12) []) (registers 9 (1 ∷ 0 ∷ 0 ∷ 0 ∷ 2 ∷ 0 ∷ 0 ∷ 1 ∷ 0 ∷ [])) (operands 4 (8 ∷ 4 ∷ 4 ∷ 7 ∷ []))
    (beside [] [] (1 ∷ []))) 30 8120 800 (refused 4)

-- seed 4, a register R: refused 5
abbrev pub d34 : Row
d34 =
    stays (pic ((op Const 0 (8 ∷ []) [] (absent ∷ 4294967039 ∷ 0 ∷ 1 ∷ 8 ∷ 3 ∷ 5 ∷ []) ∷ op2 Alloc 4 8 ∷ op Cat 0 (4
    ∷ 8 ∷ 8 ∷ []) (0 ∷ 3 ∷ []) (45817 ∷ []) ∷ op3 SigVal 7 8 8 ∷ op Store 2 (4 ∷ 8 ∷ []) [] [] ∷ op3 Index 3 4 8
    ∷ op Bin 4 (2 ∷ 8 ∷ 0 ∷ []) [] [] ∷ op CondBr 0 (1 ∷ []) [] (1 ∷ []) ∷ []) ∷ (op Bin 4 (0 ∷ 9 ∷ 4 ∷ []) [] []
    ∷ op CallNative 0 [] (3 ∷ 1 ∷ []) [] ∷ op1 Ret 8 ∷ []) ∷ (op3 Cat 1 1 1 ∷ []) ∷ []) (at (upto 12) []) (registers 9
    (1 ∷ 0 ∷ 0 ∷ 0 ∷ 2 ∷ 0 ∷ 0 ∷ 1 ∷ 0 ∷ [])) (operands 4 (8 ∷ 4 ∷ 4 ∷ 7 ∷ [])) (beside [] [] (1 ∷ []))) 30 8120 800
    (refused 5)

-- seed 4, a slot present that is not visited: refused 5
abbrev pub d36 : Row
d36 =
    stays (pic ((op Const 0 (8 ∷ []) [] (absent ∷ 4294967039 ∷ 0 ∷ 1 ∷ 8 ∷ 3 ∷ 5 ∷ []) ∷ op2 Alloc 4 8 ∷ op Cat 0 (4
    ∷ 8 ∷ 8 ∷ []) (0 ∷ 3 ∷ []) (45817 ∷ []) ∷ op3 SigVal 7 8 8 ∷ op Store 2 (4 ∷ 8 ∷ absent ∷ absent ∷ 0 ∷ []) [] []
    ∷ op3 Index 3 4 8 ∷ op Bin 4 (2 ∷ 8 ∷ 0 ∷ []) [] [] ∷ op CondBr 0 (1 ∷ []) [] (1 ∷ []) ∷ []) ∷ (op Bin 4 (0 ∷ 8
    ∷ 4 ∷ []) [] [] ∷ op CallNative 0 [] (3 ∷ 1 ∷ []) [] ∷ op1 Ret 8 ∷ []) ∷ (op3 Cat 1 1 1 ∷ []) ∷ []) (at
    (upto 12) []) (registers 9 (1 ∷ 0 ∷ 0 ∷ 0 ∷ 2 ∷ 0 ∷ 0 ∷ 1 ∷ 0 ∷ [])) (operands 4 (8 ∷ 4 ∷ 4 ∷ 7 ∷ []))
    (beside [] [] (1 ∷ []))) 30 8120 800 (refused 5)

-- seed 4, a slot absent that is visited: refused 5
abbrev pub d37 : Row
d37 =
    stays (pic ((op Const 0 (8 ∷ []) [] (absent ∷ 4294967039 ∷ 0 ∷ 1 ∷ 8 ∷ 3 ∷ 5 ∷ []) ∷ op2 Alloc 4 8 ∷ op Cat 0 (4
    ∷ 8 ∷ 8 ∷ []) (0 ∷ 3 ∷ []) (45817 ∷ []) ∷ op3 SigVal 7 8 8 ∷ op Store 2 (4 ∷ 8 ∷ []) [] [] ∷ op3 Index 3 4 8
    ∷ op Bin 4 (2 ∷ 8 ∷ 0 ∷ []) [] [] ∷ op CondBr 0 (1 ∷ []) [] (1 ∷ []) ∷ []) ∷ (op Bin 4 (0 ∷ absent ∷ 4 ∷ []) [] []
    ∷ op CallNative 0 [] (3 ∷ 1 ∷ []) [] ∷ op1 Ret 8 ∷ []) ∷ (op3 Cat 1 1 1 ∷ []) ∷ []) (at (upto 12) []) (registers 9
    (1 ∷ 0 ∷ 0 ∷ 0 ∷ 2 ∷ 0 ∷ 0 ∷ 1 ∷ 0 ∷ [])) (operands 4 (8 ∷ 4 ∷ 4 ∷ 7 ∷ [])) (beside [] [] (1 ∷ []))) 30 8120 800
    (refused 5)

-- seed 4, 4294967294 where a slot may be absent: refused 5
abbrev pub d38 : Row
d38 =
    stays (pic ((op Const 0 (8 ∷ []) [] (absent ∷ 4294967039 ∷ 0 ∷ 1 ∷ 8 ∷ 3 ∷ 5 ∷ []) ∷ op2 Alloc 4 8 ∷ op Cat 0 (4
    ∷ 8 ∷ 8 ∷ []) (0 ∷ 3 ∷ []) (45817 ∷ []) ∷ op3 SigVal 7 8 8 ∷ op Store 2 (4 ∷ 8 ∷ []) [] [] ∷ op3 Index 3 4 8
    ∷ op Bin 4 (2 ∷ 8 ∷ 0 ∷ []) [] [] ∷ op CondBr 0 (1 ∷ []) [] (1 ∷ []) ∷ []) ∷ (op Bin 4 (0 ∷ 8 ∷ 4 ∷ []) [] []
    ∷ op CallNative 0 [] (3 ∷ 1 ∷ []) [] ∷ op1 Ret 4294967294 ∷ []) ∷ (op3 Cat 1 1 1 ∷ []) ∷ []) (at (upto 12) [])
    (registers 9 (1 ∷ 0 ∷ 0 ∷ 0 ∷ 2 ∷ 0 ∷ 0 ∷ 1 ∷ 0 ∷ [])) (operands 4 (8 ∷ 4 ∷ 4 ∷ 7 ∷ [])) (beside [] [] (1
    ∷ []))) 30 8120 800 (refused 5)

-- seed 787, one of two part registers: refused 5
abbrev pub d39 : Row
d39 =
    stays (pic ((const 6 28 ∷ op AddrOf 4 (7 ∷ []) [] [] ∷ op3 Cmp 3 6 6 ∷ op3 Cmp 5 6 3 ∷ op3 Cmp 4 3 3
    ∷ op2 Alloc 2 5 ∷ op Cat 0 (2 ∷ 4 ∷ 4 ∷ []) (0 ∷ 2 ∷ []) [] ∷ op3 SigGather 1 6 1 ∷ op3 Index 5 2 5 ∷ fork 0 3 1
    ∷ []) ∷ (op MakeDope 0 (1 ∷ []) (3 ∷ 2 ∷ []) [] ∷ op0 Unreachable ∷ []) ∷ (op3 Cat 0 0 0 ∷ []) ∷ (op1 Ret 1 ∷ [])
    ∷ []) (at (upto 14) []) (registers 8 (1 ∷ 5 ∷ 6 ∷ 0 ∷ 1 ∷ 4 ∷ 0 ∷ 0 ∷ 77 ∷ 7 ∷ 77 ∷ [])) (operands 5 (2 ∷ 3 ∷ 1
    ∷ 6 ∷ 4 ∷ absent ∷ absent ∷ 0 ∷ 999 ∷ [])) (beside [] [] (3 ∷ 7 ∷ 3 ∷ []))) 38 8152 800 (refused 5)

-- seed 4, a list on a kind without one: refused 6
abbrev pub d40 : Row
d40 =
    stays (pic ((op Const 0 (8 ∷ []) [] (absent ∷ 4294967039 ∷ 0 ∷ 1 ∷ 8 ∷ 3 ∷ 5 ∷ []) ∷ op Alloc 0 (4 ∷ 8 ∷ []) (0
    ∷ 1 ∷ []) [] ∷ op Cat 0 (4 ∷ 8 ∷ 8 ∷ []) (0 ∷ 3 ∷ []) (45817 ∷ []) ∷ op3 SigVal 7 8 8 ∷ op Store 2 (4 ∷ 8
    ∷ []) [] [] ∷ op3 Index 3 4 8 ∷ op Bin 4 (2 ∷ 8 ∷ 0 ∷ []) [] [] ∷ op CondBr 0 (1 ∷ []) [] (1 ∷ []) ∷ [])
    ∷ (op Bin 4 (0 ∷ 8 ∷ 4 ∷ []) [] [] ∷ op CallNative 0 [] (3 ∷ 1 ∷ []) [] ∷ op1 Ret 8 ∷ []) ∷ (op3 Cat 1 1 1 ∷ [])
    ∷ []) (at (upto 12) []) (registers 9 (1 ∷ 0 ∷ 0 ∷ 0 ∷ 2 ∷ 0 ∷ 0 ∷ 1 ∷ 0 ∷ [])) (operands 4 (8 ∷ 4 ∷ 4 ∷ 7 ∷ []))
    (beside [] [] (1 ∷ []))) 30 8120 800 (refused 6)

-- seed 4, a list start on a kind without one: refused 6
abbrev pub d41 : Row
d41 =
    stays (pic ((op Const 0 (8 ∷ []) [] (absent ∷ 4294967039 ∷ 0 ∷ 1 ∷ 8 ∷ 3 ∷ 5 ∷ []) ∷ op Alloc 0 (4 ∷ 8 ∷ []) (1
    ∷ []) [] ∷ op Cat 0 (4 ∷ 8 ∷ 8 ∷ []) (0 ∷ 3 ∷ []) (45817 ∷ []) ∷ op3 SigVal 7 8 8 ∷ op Store 2 (4 ∷ 8 ∷ []) [] []
    ∷ op3 Index 3 4 8 ∷ op Bin 4 (2 ∷ 8 ∷ 0 ∷ []) [] [] ∷ op CondBr 0 (1 ∷ []) [] (1 ∷ []) ∷ []) ∷ (op Bin 4 (0 ∷ 8
    ∷ 4 ∷ []) [] [] ∷ op CallNative 0 [] (3 ∷ 1 ∷ []) [] ∷ op1 Ret 8 ∷ []) ∷ (op3 Cat 1 1 1 ∷ []) ∷ []) (at
    (upto 12) []) (registers 9 (1 ∷ 0 ∷ 0 ∷ 0 ∷ 2 ∷ 0 ∷ 0 ∷ 1 ∷ 0 ∷ [])) (operands 4 (8 ∷ 4 ∷ 4 ∷ 7 ∷ []))
    (beside [] [] (1 ∷ []))) 30 8120 800 (refused 6)

-- seed 4, a list past the operands: refused 6
abbrev pub d42 : Row
d42 =
    stays (pic ((op Const 0 (8 ∷ []) [] (absent ∷ 4294967039 ∷ 0 ∷ 1 ∷ 8 ∷ 3 ∷ 5 ∷ []) ∷ op2 Alloc 4 8 ∷ op Cat 0 (4
    ∷ 8 ∷ 8 ∷ []) (0 ∷ 3 ∷ []) (45817 ∷ []) ∷ op3 SigVal 7 8 8 ∷ op Store 2 (4 ∷ 8 ∷ []) [] [] ∷ op3 Index 3 4 8
    ∷ op Bin 4 (2 ∷ 8 ∷ 0 ∷ []) [] [] ∷ op CondBr 0 (1 ∷ []) [] (1 ∷ []) ∷ []) ∷ (op Bin 4 (0 ∷ 8 ∷ 4 ∷ []) [] []
    ∷ op CallNative 0 [] (4 ∷ 1 ∷ []) [] ∷ op1 Ret 8 ∷ []) ∷ (op3 Cat 1 1 1 ∷ []) ∷ []) (at (upto 12) []) (registers 9
    (1 ∷ 0 ∷ 0 ∷ 0 ∷ 2 ∷ 0 ∷ 0 ∷ 1 ∷ 0 ∷ [])) (operands 4 (8 ∷ 4 ∷ 4 ∷ 7 ∷ [])) (beside [] [] (1 ∷ []))) 30 8120 800
    (refused 6)

-- seed 4, an empty list past the operands: refused 6
abbrev pub d43 : Row
d43 =
    stays (pic ((op Const 0 (8 ∷ []) [] (absent ∷ 4294967039 ∷ 0 ∷ 1 ∷ 8 ∷ 3 ∷ 5 ∷ []) ∷ op2 Alloc 4 8 ∷ op Cat 0 (4
    ∷ 8 ∷ 8 ∷ []) (0 ∷ 3 ∷ []) (45817 ∷ []) ∷ op3 SigVal 7 8 8 ∷ op Store 2 (4 ∷ 8 ∷ []) [] [] ∷ op3 Index 3 4 8
    ∷ op Bin 4 (2 ∷ 8 ∷ 0 ∷ []) [] [] ∷ op CondBr 0 (1 ∷ []) [] (1 ∷ []) ∷ []) ∷ (op Bin 4 (0 ∷ 8 ∷ 4 ∷ []) [] []
    ∷ op CallNative 0 [] (5 ∷ []) [] ∷ op1 Ret 8 ∷ []) ∷ (op3 Cat 1 1 1 ∷ []) ∷ []) (at (upto 12) []) (registers 9 (1
    ∷ 0 ∷ 0 ∷ 0 ∷ 2 ∷ 0 ∷ 0 ∷ 1 ∷ 0 ∷ [])) (operands 4 (8 ∷ 4 ∷ 4 ∷ 7 ∷ [])) (beside [] [] (1 ∷ []))) 30 8120 800
    (refused 6)

-- seed 4, start and length that wrap round: refused 6
abbrev pub d45 : Row
d45 =
    stays (pic ((op Const 0 (8 ∷ []) [] (absent ∷ 4294967039 ∷ 0 ∷ 1 ∷ 8 ∷ 3 ∷ 5 ∷ []) ∷ op2 Alloc 4 8 ∷ op Cat 0 (4
    ∷ 8 ∷ 8 ∷ []) (0 ∷ 3 ∷ []) (45817 ∷ []) ∷ op3 SigVal 7 8 8 ∷ op Store 2 (4 ∷ 8 ∷ []) [] [] ∷ op3 Index 3 4 8
    ∷ op Bin 4 (2 ∷ 8 ∷ 0 ∷ []) [] [] ∷ op CondBr 0 (1 ∷ []) [] (1 ∷ []) ∷ []) ∷ (op Bin 4 (0 ∷ 8 ∷ 4 ∷ []) [] []
    ∷ op CallNative 0 [] (absent ∷ 2 ∷ []) [] ∷ op1 Ret 8 ∷ []) ∷ (op3 Cat 1 1 1 ∷ []) ∷ []) (at (upto 12) [])
    (registers 9 (1 ∷ 0 ∷ 0 ∷ 0 ∷ 2 ∷ 0 ∷ 0 ∷ 1 ∷ 0 ∷ [])) (operands 4 (8 ∷ 4 ∷ 4 ∷ 7 ∷ [])) (beside [] [] (1
    ∷ []))) 30 8120 800 (refused 6)

-- seed 4, an operand R: refused 6
abbrev pub d46 : Row
d46 =
    stays (pic ((op Const 0 (8 ∷ []) [] (absent ∷ 4294967039 ∷ 0 ∷ 1 ∷ 8 ∷ 3 ∷ 5 ∷ []) ∷ op2 Alloc 4 8 ∷ op Cat 0 (4
    ∷ 8 ∷ 8 ∷ []) (0 ∷ 3 ∷ []) (45817 ∷ []) ∷ op3 SigVal 7 8 8 ∷ op Store 2 (4 ∷ 8 ∷ []) [] [] ∷ op3 Index 3 4 8
    ∷ op Bin 4 (2 ∷ 8 ∷ 0 ∷ []) [] [] ∷ op CondBr 0 (1 ∷ []) [] (1 ∷ []) ∷ []) ∷ (op Bin 4 (0 ∷ 8 ∷ 4 ∷ []) [] []
    ∷ op CallNative 0 [] (3 ∷ 1 ∷ []) [] ∷ op1 Ret 8 ∷ []) ∷ (op3 Cat 1 1 1 ∷ []) ∷ []) (at (upto 12) []) (registers 9
    (1 ∷ 0 ∷ 0 ∷ 0 ∷ 2 ∷ 0 ∷ 0 ∷ 1 ∷ 0 ∷ [])) (operands 4 (8 ∷ 4 ∷ 4 ∷ 9 ∷ [])) (beside [] [] (1 ∷ []))) 30 8120 800
    (refused 6)

-- seed 5, a Br to no block: refused 7
abbrev pub d48 : Row
d48 =
    stays (pic ((op Const 0 (8 ∷ []) [] (45 ∷ 0 ∷ 5 ∷ 7 ∷ 0 ∷ 0 ∷ 7 ∷ []) ∷ op Br 0 [] [] (4 ∷ 8 ∷ 2 ∷ 8 ∷ 5 ∷ 3 ∷ [])
    ∷ []) ∷ (op CallIndirect 0 (0 ∷ []) (0 ∷ 1 ∷ []) [] ∷ op2 Output 3 4 ∷ op Case 0 (8 ∷ []) [] (95 ∷ []) ∷ [])
    ∷ (op3 Cat 1 1 1 ∷ []) ∷ (op2 Alloc 3 8 ∷ op3 Cat 3 8 8 ∷ op Check 3 (8 ∷ 8 ∷ 3 ∷ []) [] [] ∷ op Bin 1 (4 ∷ 8 ∷ 8
    ∷ []) [] [] ∷ op2 LayoutOf 4 3 ∷ fork 8 3 1 ∷ []) ∷ []) (at (upto 12) (9 ∷ replicate 9 0 ++ 27 ∷ 0 ∷ []))
    (registers 9 (0 ∷ 4 ∷ 0 ∷ 6 ∷ 4 ∷ 1 ∷ 1 ∷ 4 ∷ 0 ∷ 77 ∷ 9 ∷ 9 ∷ [])) (operands 1 (3 ∷ [])) (beside [] [] (3
    ∷ []))) 40 8160 800 (refused 7)

-- seed 4, a CondBr's t to no block: refused 7
abbrev pub d49 : Row
d49 =
    stays (pic ((op Const 0 (8 ∷ []) [] (absent ∷ 4294967039 ∷ 0 ∷ 1 ∷ 8 ∷ 3 ∷ 5 ∷ []) ∷ op2 Alloc 4 8 ∷ op Cat 0 (4
    ∷ 8 ∷ 8 ∷ []) (0 ∷ 3 ∷ []) (45817 ∷ []) ∷ op3 SigVal 7 8 8 ∷ op Store 2 (4 ∷ 8 ∷ []) [] [] ∷ op3 Index 3 4 8
    ∷ op Bin 4 (2 ∷ 8 ∷ 0 ∷ []) [] [] ∷ op CondBr 0 (1 ∷ []) [] (3 ∷ []) ∷ []) ∷ (op Bin 4 (0 ∷ 8 ∷ 4 ∷ []) [] []
    ∷ op CallNative 0 [] (3 ∷ 1 ∷ []) [] ∷ op1 Ret 8 ∷ []) ∷ (op3 Cat 1 1 1 ∷ []) ∷ []) (at (upto 12) []) (registers 9
    (1 ∷ 0 ∷ 0 ∷ 0 ∷ 2 ∷ 0 ∷ 0 ∷ 1 ∷ 0 ∷ [])) (operands 4 (8 ∷ 4 ∷ 4 ∷ 7 ∷ [])) (beside [] [] (1 ∷ []))) 30 8120 800
    (refused 7)

-- seed 4, a CondBr's f to no block: refused 7
abbrev pub d50 : Row
d50 =
    stays (pic ((op Const 0 (8 ∷ []) [] (absent ∷ 4294967039 ∷ 0 ∷ 1 ∷ 8 ∷ 3 ∷ 5 ∷ []) ∷ op2 Alloc 4 8 ∷ op Cat 0 (4
    ∷ 8 ∷ 8 ∷ []) (0 ∷ 3 ∷ []) (45817 ∷ []) ∷ op3 SigVal 7 8 8 ∷ op Store 2 (4 ∷ 8 ∷ []) [] [] ∷ op3 Index 3 4 8
    ∷ op Bin 4 (2 ∷ 8 ∷ 0 ∷ []) [] [] ∷ fork 1 1 3 ∷ []) ∷ (op Bin 4 (0 ∷ 8 ∷ 4 ∷ []) [] [] ∷ op CallNative 0 [] (3
    ∷ 1 ∷ []) [] ∷ op1 Ret 8 ∷ []) ∷ (op3 Cat 1 1 1 ∷ []) ∷ []) (at (upto 12) []) (registers 9 (1 ∷ 0 ∷ 0 ∷ 0 ∷ 2 ∷ 0
    ∷ 0 ∷ 1 ∷ 0 ∷ [])) (operands 4 (8 ∷ 4 ∷ 4 ∷ 7 ∷ [])) (beside [] [] (1 ∷ []))) 30 8120 800 (refused 7)

-- seed 4, a case target that is no block, in no pair: refused 7
abbrev pub d51 : Row
d51 =
    stays (pic ((op Const 0 (8 ∷ []) [] (absent ∷ 4294967039 ∷ 0 ∷ 1 ∷ 8 ∷ 3 ∷ 5 ∷ []) ∷ op2 Alloc 4 8 ∷ op Cat 0 (4
    ∷ 8 ∷ 8 ∷ []) (0 ∷ 3 ∷ []) (45817 ∷ []) ∷ op3 SigVal 7 8 8 ∷ op Store 2 (4 ∷ 8 ∷ []) [] [] ∷ op3 Index 3 4 8
    ∷ op Bin 4 (2 ∷ 8 ∷ 0 ∷ []) [] [] ∷ op CondBr 0 (1 ∷ []) [] (1 ∷ []) ∷ []) ∷ (op Bin 4 (0 ∷ 8 ∷ 4 ∷ []) [] []
    ∷ op CallNative 0 [] (3 ∷ 1 ∷ []) [] ∷ op1 Ret 8 ∷ []) ∷ (op3 Cat 1 1 1 ∷ []) ∷ []) (at (upto 12) []) (registers 9
    (1 ∷ 0 ∷ 0 ∷ 0 ∷ 2 ∷ 0 ∷ 0 ∷ 1 ∷ 0 ∷ [])) (operands 4 (8 ∷ 4 ∷ 4 ∷ 7 ∷ [])) (beside [] (3 ∷ []) (1
    ∷ []))) 30 8120 800 (refused 7)

-- seed 4, an empty case pair: refused 7
abbrev pub d52 : Row
d52 =
    stays (pic ((op Const 0 (8 ∷ []) [] (absent ∷ 4294967039 ∷ 0 ∷ 1 ∷ 8 ∷ 3 ∷ 5 ∷ []) ∷ op2 Alloc 4 8 ∷ op Cat 0 (4
    ∷ 8 ∷ 8 ∷ []) (0 ∷ 3 ∷ []) (45817 ∷ []) ∷ op3 SigVal 7 8 8 ∷ op Store 2 (4 ∷ 8 ∷ []) [] [] ∷ op3 Index 3 4 8
    ∷ op Bin 4 (2 ∷ 8 ∷ 0 ∷ []) [] [] ∷ op CondBr 0 (1 ∷ []) [] (1 ∷ []) ∷ []) ∷ (op Bin 4 (0 ∷ 8 ∷ 4 ∷ []) [] []
    ∷ op CallNative 0 [] (3 ∷ 1 ∷ []) [] ∷ op1 Ret 8 ∷ []) ∷ (op3 Cat 1 1 1 ∷ []) ∷ []) (at (upto 12) []) (registers 9
    (1 ∷ 0 ∷ 0 ∷ 0 ∷ 2 ∷ 0 ∷ 0 ∷ 1 ∷ 0 ∷ [])) (operands 4 (8 ∷ 4 ∷ 4 ∷ 7 ∷ [])) (beside (0 ∷ 0 ∷ []) [] (1
    ∷ []))) 30 8120 800 (refused 7)

-- seed 4, a case pair past its targets: refused 7
abbrev pub d53 : Row
d53 =
    stays (pic ((op Const 0 (8 ∷ []) [] (absent ∷ 4294967039 ∷ 0 ∷ 1 ∷ 8 ∷ 3 ∷ 5 ∷ []) ∷ op2 Alloc 4 8 ∷ op Cat 0 (4
    ∷ 8 ∷ 8 ∷ []) (0 ∷ 3 ∷ []) (45817 ∷ []) ∷ op3 SigVal 7 8 8 ∷ op Store 2 (4 ∷ 8 ∷ []) [] [] ∷ op3 Index 3 4 8
    ∷ op Bin 4 (2 ∷ 8 ∷ 0 ∷ []) [] [] ∷ op CondBr 0 (1 ∷ []) [] (1 ∷ []) ∷ []) ∷ (op Bin 4 (0 ∷ 8 ∷ 4 ∷ []) [] []
    ∷ op CallNative 0 [] (3 ∷ 1 ∷ []) [] ∷ op1 Ret 8 ∷ []) ∷ (op3 Cat 1 1 1 ∷ []) ∷ []) (at (upto 12) []) (registers 9
    (1 ∷ 0 ∷ 0 ∷ 0 ∷ 2 ∷ 0 ∷ 0 ∷ 1 ∷ 0 ∷ [])) (operands 4 (8 ∷ 4 ∷ 4 ∷ 7 ∷ [])) (beside (0 ∷ 1 ∷ []) [] (1
    ∷ []))) 30 8120 800 (refused 7)

abbrev pub rows5 : List Row
rows5 =
    d13 ∷ d14 ∷ d15 ∷ d16 ∷ d17 ∷ d18 ∷ d19 ∷ d20 ∷ d21 ∷ d22 ∷ d23 ∷ d24 ∷ d25 ∷ d26 ∷ d28 ∷ d29 ∷ d30 ∷ d31 ∷ d32
    ∷ d34 ∷ d36 ∷ d37 ∷ d38 ∷ d39 ∷ d40 ∷ d41 ∷ d42 ∷ d43 ∷ d45 ∷ d46 ∷ d48 ∷ d49 ∷ d50 ∷ d51 ∷ d52 ∷ d53 ∷ []
