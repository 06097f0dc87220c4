-- Refused pictures, page 6: one for each way to damage a generated one, with tests/rust's judgement. Printed by
-- `compare crossed` in tests/rust, and again by its compare.sh: not to be edited. Assumes nothing.
use Rattle.std.specs.Prelude.{List, [], ◌∷◌}
use Rattle.words.specs.Lists.{upto}
use Rattle.model.specs.Kinds.{Alloc, Bin, CallNative, Cat, CondBr, Const, Index, Ret, SigVal, Store}
use Rattle.model.specs.Picture.{absent}
use Rattle.model.specs.Build.{op}
use Rattle.crossed.specs.Row.{Row, pic, at, registers, operands, beside, op0, op1, op2, op3, stays, refused}

-- seed 4, a Cat list of 34: refused 8
abbrev pub d55 : Row
d55 =
    stays (pic ((op Const 0 (8 ∷ []) [] (absent ∷ 4294967039 ∷ 0 ∷ 1 ∷ 8 ∷ 3 ∷ 5 ∷ []) ∷ op2 Alloc 4 8 ∷ op Cat 0 (4
    ∷ 8 ∷ 8 ∷ []) (4 ∷ 34 ∷ []) (45817 ∷ []) ∷ op3 SigVal 7 8 8 ∷ op Store 2 (4 ∷ 8 ∷ []) [] [] ∷ op3 Index 3 4 8
    ∷ op Bin 4 (2 ∷ 8 ∷ 0 ∷ []) [] [] ∷ op CondBr 0 (1 ∷ []) [] (1 ∷ []) ∷ []) ∷ (op Bin 4 (0 ∷ 8 ∷ 4 ∷ []) [] []
    ∷ op CallNative 0 [] (3 ∷ 1 ∷ []) [] ∷ op1 Ret 8 ∷ []) ∷ (op3 Cat 1 1 1 ∷ []) ∷ []) (at (upto 12) []) (registers 9
    (1 ∷ 0 ∷ 0 ∷ 0 ∷ 2 ∷ 0 ∷ 0 ∷ 1 ∷ 0 ∷ [])) (operands 38 (8 ∷ 4 ∷ 4 ∷ 7 ∷ 1 ∷ 6 ∷ 4 ∷ 5 ∷ 1 ∷ 6 ∷ 4 ∷ 0 ∷ 5 ∷ 7 ∷ 6
    ∷ 6 ∷ 5 ∷ 6 ∷ 1 ∷ 1 ∷ 3 ∷ 1 ∷ 8 ∷ 0 ∷ 1 ∷ 8 ∷ 3 ∷ 5 ∷ 1 ∷ 6 ∷ 6 ∷ 1 ∷ 8 ∷ 4 ∷ 8 ∷ 2 ∷ 2 ∷ 3 ∷ [])) (beside [] []
    (1 ∷ []))) 30 8120 800 (refused 8)

-- seed 4, a type in use of 8: refused 9
abbrev pub d57 : Row
d57 =
    stays (pic ((op Const 0 (8 ∷ []) [] (absent ∷ 4294967039 ∷ 0 ∷ 1 ∷ 8 ∷ 3 ∷ 5 ∷ []) ∷ op2 Alloc 4 8 ∷ op Cat 0 (4
    ∷ 8 ∷ 8 ∷ []) (0 ∷ 3 ∷ []) (45817 ∷ []) ∷ op3 SigVal 7 8 8 ∷ op Store 2 (4 ∷ 8 ∷ []) [] [] ∷ op3 Index 3 4 8
    ∷ op Bin 4 (2 ∷ 8 ∷ 0 ∷ []) [] [] ∷ op CondBr 0 (1 ∷ []) [] (1 ∷ []) ∷ []) ∷ (op Bin 4 (0 ∷ 8 ∷ 4 ∷ []) [] []
    ∷ op CallNative 0 [] (3 ∷ 1 ∷ []) [] ∷ op1 Ret 8 ∷ []) ∷ (op3 Cat 1 1 1 ∷ []) ∷ []) (at (upto 12) []) (registers 9
    (1 ∷ 8 ∷ 0 ∷ 0 ∷ 2 ∷ 0 ∷ 0 ∷ 1 ∷ 0 ∷ [])) (operands 4 (8 ∷ 4 ∷ 4 ∷ 7 ∷ [])) (beside [] [] (1 ∷ []))) 30 8120 800
    (refused 9)

-- a work slice one word too short: refused 10
abbrev pub w64 : Row
w64 =
    stays (pic ((op Const 0 (8 ∷ []) [] (absent ∷ 4294967039 ∷ 0 ∷ 1 ∷ 8 ∷ 3 ∷ 5 ∷ []) ∷ op2 Alloc 4 8 ∷ op Cat 0 (4
    ∷ 8 ∷ 8 ∷ []) (0 ∷ 3 ∷ []) (45817 ∷ []) ∷ op3 SigVal 7 8 8 ∷ op Store 2 (4 ∷ 8 ∷ []) [] [] ∷ op3 Index 3 4 8
    ∷ op Bin 4 (2 ∷ 8 ∷ 0 ∷ []) [] [] ∷ op CondBr 0 (1 ∷ []) [] (1 ∷ []) ∷ []) ∷ (op Bin 4 (0 ∷ 8 ∷ 4 ∷ []) [] []
    ∷ op CallNative 0 [] (3 ∷ 1 ∷ []) [] ∷ op1 Ret 8 ∷ []) ∷ (op3 Cat 1 1 1 ∷ []) ∷ []) (at (upto 12) []) (registers 9
    (1 ∷ 0 ∷ 0 ∷ 0 ∷ 2 ∷ 0 ∷ 0 ∷ 1 ∷ 0 ∷ [])) (operands 4 (8 ∷ 4 ∷ 4 ∷ 7 ∷ [])) (beside [] [] (1 ∷ []))) 29 8120 800
    (refused 10)

-- a work slice one word too short: refused 10
abbrev pub w32 : Row
w32 =
    stays (pic ((op Const 0 (8 ∷ []) [] (absent ∷ 4294967039 ∷ 0 ∷ 1 ∷ 8 ∷ 3 ∷ 5 ∷ []) ∷ op2 Alloc 4 8 ∷ op Cat 0 (4
    ∷ 8 ∷ 8 ∷ []) (0 ∷ 3 ∷ []) (45817 ∷ []) ∷ op3 SigVal 7 8 8 ∷ op Store 2 (4 ∷ 8 ∷ []) [] [] ∷ op3 Index 3 4 8
    ∷ op Bin 4 (2 ∷ 8 ∷ 0 ∷ []) [] [] ∷ op CondBr 0 (1 ∷ []) [] (1 ∷ []) ∷ []) ∷ (op Bin 4 (0 ∷ 8 ∷ 4 ∷ []) [] []
    ∷ op CallNative 0 [] (3 ∷ 1 ∷ []) [] ∷ op1 Ret 8 ∷ []) ∷ (op3 Cat 1 1 1 ∷ []) ∷ []) (at (upto 12) []) (registers 9
    (1 ∷ 0 ∷ 0 ∷ 0 ∷ 2 ∷ 0 ∷ 0 ∷ 1 ∷ 0 ∷ [])) (operands 4 (8 ∷ 4 ∷ 4 ∷ 7 ∷ [])) (beside [] [] (1 ∷ []))) 30 8119 800
    (refused 10)

-- 799 records: refused 10
abbrev pub few : Row
few =
    stays (pic ((op Const 0 (8 ∷ []) [] (absent ∷ 4294967039 ∷ 0 ∷ 1 ∷ 8 ∷ 3 ∷ 5 ∷ []) ∷ op2 Alloc 4 8 ∷ op Cat 0 (4
    ∷ 8 ∷ 8 ∷ []) (0 ∷ 3 ∷ []) (45817 ∷ []) ∷ op3 SigVal 7 8 8 ∷ op Store 2 (4 ∷ 8 ∷ []) [] [] ∷ op3 Index 3 4 8
    ∷ op Bin 4 (2 ∷ 8 ∷ 0 ∷ []) [] [] ∷ op CondBr 0 (1 ∷ []) [] (1 ∷ []) ∷ []) ∷ (op Bin 4 (0 ∷ 8 ∷ 4 ∷ []) [] []
    ∷ op CallNative 0 [] (3 ∷ 1 ∷ []) [] ∷ op1 Ret 8 ∷ []) ∷ (op3 Cat 1 1 1 ∷ []) ∷ []) (at (upto 12) []) (registers 9
    (1 ∷ 0 ∷ 0 ∷ 0 ∷ 2 ∷ 0 ∷ 0 ∷ 1 ∷ 0 ∷ [])) (operands 4 (8 ∷ 4 ∷ 4 ∷ 7 ∷ [])) (beside [] [] (1 ∷ []))) 30 8120 799
    (refused 10)

-- a work slice one word too short for the registers lent: refused 10
abbrev pub w64k : Row
w64k =
    stays (pic ((op0 Ret ∷ []) ∷ []) (at (0 ∷ []) []) (registers 2 (0 ∷ 0 ∷ 0 ∷ 77 ∷ [])) (operands 0 [])
    (beside [] [] [])) 11 8048 800 (refused 10)

-- a work slice one word too short for the registers lent: refused 10
abbrev pub w32k : Row
w32k =
    stays (pic ((op0 Ret ∷ []) ∷ []) (at (0 ∷ []) []) (registers 2 (0 ∷ 0 ∷ 0 ∷ 77 ∷ [])) (operands 0 [])
    (beside [] [] [])) 12 8047 800 (refused 10)

abbrev pub rows6 : List Row
rows6 =
    d55 ∷ d57 ∷ w64 ∷ w32 ∷ few ∷ w64k ∷ w32k ∷ []
