-- 01, "The legal set", `analyse` arm by arm: which instruction can move, what it reads, where its result points, and whether that
-- is a length. A row holds many: in one that moves, all of them must, and in one that rests there are two members, so that none of
-- the rest may. Assumes nothing.
use Rattle.std.specs.Prelude.{◌≡◌, refl, List, [], ◌∷◌, map, ℕ}
use Rattle.model.specs.Kinds.{ConstF, AddrOf, Move, Select, Bin, Index, Check, FCmp, BoolOp, BoundsLen, DopeLen, Load, Store, Alloc, PkgAlloc, LayoutOf, SigVal, SigReadScalar, SigRead, MakeDope, Cat, Deref, Pos}
use Rattle.model.specs.Picture.{Inst}
use Rattle.model.specs.Build.{op}
use Rattle.model.specs.Marked.{Row, cmp, cat}
use Rattle.model.specs.Small.{in1, in2, in3, in4, value, frame, pool, load, nat, keep, send, rests, goes, cmp_to, two, two_to, answered, given}

-- a sum of a and r1, which wants a to be a length
abbrev sum : ℕ → ℕ → Inst
sum d a = in3 Bin 1 d a 1

-- ---- classes and lengths

abbrev pub lengths : List Row
lengths =
    -- these move, each alone
    goes 1 9 (keep (value 4 0 268435456) ∷ keep (value 6 0 4294967040)
    -- Bin: Add, Sub and Mul of two lengths; Div by a constant above 0, though it is no length (2^60)
    ∷ send (in3 Bin 1 5 1 1) (in3 Bin 1 9 1 1) ∷ send (in3 Bin 2 5 1 1) (in3 Bin 2 9 1 1) ∷ send (in3 Bin 3 5 1 1) (in3 Bin 3 9 1 1)
    ∷ send (in3 Bin 4 5 1 4) (in3 Bin 4 9 1 4)
    -- Alloc by a length, also by -2^40
    ∷ send (in2 Alloc 0 5 1) (in2 Alloc 0 9 1) ∷ send (in2 Alloc 0 5 6) (in2 Alloc 0 9 6)
    -- Check of an index that is a length; SigVal and SigReadScalar
    ∷ send (in3 Check 3 1 0 0) (in3 Check 3 1 0 0) ∷ send (in3 SigVal 0 5 0 0) (in3 SigVal 0 9 0 0) ∷ send (in2 SigReadScalar 0 5 0) (in2 SigReadScalar 0 9 0)
    ∷ two_to 9)
    -- these do not; constants and addresses are free, and do not count
    ∷ rests (value 4 0 0 ∷ value 6 4294967295 4294967295 ∷ value 7 4294967295 4294967039 ∷ op ConstF 0 (8 ∷ []) [] (8 ∷ []) ∷ in1 AddrOf 0 2
    -- Bin: another operation; the second, or the first, is no length
    ∷ in3 Bin 0 5 1 1 ∷ in3 Bin 1 5 1 0 ∷ in3 Bin 1 5 0 1
    -- Div by 0, by -1, by something; of something
    ∷ in3 Bin 4 5 1 4 ∷ in3 Bin 4 5 1 6 ∷ in3 Bin 4 5 1 0 ∷ in3 Bin 4 5 0 1
    -- Alloc by something, by -2^40 - 1, by a float; PkgAlloc is no Alloc
    ∷ in2 Alloc 0 5 0 ∷ in2 Alloc 0 5 7 ∷ in2 Alloc 0 5 8 ∷ in2 PkgAlloc 0 5 1
    -- Check of an index that is no length, and of every other form
    ∷ in3 Check 3 0 1 1 ∷ in3 Check 4 1 1 1 ∷ in3 Check 2 1 1 1 ∷ in1 Check 1 1 ∷ in2 Check 0 1 1
    -- DopeLen of memory nobody knows; what has no arm
    ∷ in2 DopeLen 0 5 0 ∷ in3 Pos 0 5 1 1
    ∷ two)
    -- each pair moves, since the first leaves a length: FCmp, BoolOp, BoundsLen
    ∷ goes 2 9 (keep pool
    ∷ send (in3 FCmp 0 5 0 0) (in3 FCmp 0 9 0 0) ∷ send (sum 6 5) (sum 10 9)
    ∷ send (in2 BoolOp 1 5 0) (in2 BoolOp 1 10 0) ∷ send (sum 6 5) (sum 9 10)
    ∷ send (in4 BoundsLen 0 5 0 0 0) (in4 BoundsLen 0 9 0 0 0) ∷ send (sum 6 5) (sum 10 9)
    -- Move of a length; Select of two, whatever the condition is; DopeLen of memory that can be read
    ∷ send (in2 Move 0 5 1) (in2 Move 0 10 1) ∷ send (sum 6 5) (sum 9 10)
    ∷ send (in4 Select 0 5 0 1 1) (in4 Select 0 9 0 1 1) ∷ send (sum 6 5) (sum 10 9)
    ∷ send (in2 DopeLen 0 5 4) (in2 DopeLen 0 10 4) ∷ send (sum 6 5) (sum 9 10)
    -- a word of a layout
    ∷ send (in2 LayoutOf 0 5 4) (in2 LayoutOf 0 9 4) ∷ send (load 6 5) (load 10 9) ∷ send (sum 7 6) (sum 9 10)
    ∷ cmp_to 9 ∷ [])
    -- of each pair the second is kept, so the first is: Select of a length and something, either way round
    ∷ rests (in4 Select 0 5 1 1 0 ∷ sum 6 5 ∷ in4 Select 0 5 1 0 1 ∷ sum 6 5
    -- Index, even over a length; SigVal; a word of an Alloc's block
    ∷ in3 Index 0 5 1 1 ∷ sum 6 5 ∷ in3 SigVal 0 5 1 1 ∷ sum 6 5 ∷ in2 Alloc 0 5 1 ∷ load 6 5 ∷ sum 7 6
    -- a divisor that is a length but no constant
    ∷ cmp 4 0 ∷ in3 Bin 4 5 1 4
    ∷ two)
    ∷ []

pub lengths_cases : map answered lengths ≡ map given lengths
lengths_cases = refl

-- ---- origins: what can be read

abbrev pub origins : List Row
origins =
    -- these move: Loads of 1, 4 and 8 bytes of what AddrOf's Frame, Inst and Const give
    goes 1 9 (keep (in1 AddrOf 0 4) ∷ keep (in1 AddrOf 2 6) ∷ keep (in1 AddrOf 4 7) ∷ keep (nat 2 8 1)
    ∷ send (load 5 4) (load 9 4) ∷ send (load 5 6) (load 9 6) ∷ send (load 5 7) (load 9 7)
    ∷ send (in2 Load 2 5 7) (in2 Load 2 9 7) ∷ send (in2 Load 3 5 7) (in2 Load 3 9 7)
    -- of the block that a light native leaves; a layout; an image, a native of form 1 with a list of 1
    ∷ send (load 5 8) (load 9 8) ∷ send (in2 LayoutOf 0 5 7) (in2 LayoutOf 0 9 7) ∷ send (nat 1 5 1) (nat 1 9 1)
    ∷ two_to 9)
    -- these do not: a native that is plain, of form 1 with another list, or light
    ∷ rests (nat 0 3 1 ∷ nat 1 5 0 ∷ nat 1 5 2 ∷ nat 2 5 1
    -- a Load of what AddrOf's Up, Pkg and Shared give, of something, of the heap, of what a plain native gives
    ∷ in1 AddrOf 1 4 ∷ in1 AddrOf 3 6 ∷ in1 AddrOf 5 7 ∷ in1 AddrOf 4 8 ∷ in2 Deref 0 2 0
    ∷ load 5 4 ∷ load 5 6 ∷ load 5 7 ∷ load 5 0 ∷ load 5 2 ∷ load 5 3
    -- a Load of a Sig; a layout of something, and one that is cached
    ∷ in2 Load 4 5 8 ∷ in2 LayoutOf 0 5 0 ∷ in2 LayoutOf 1 5 8
    ∷ two)
    -- each pair moves: Move keeps the origin, Select that of two that are the same, Index that of its base
    ∷ goes 2 10 (keep pool
    ∷ send (in2 Move 0 5 4) (in2 Move 0 9 4) ∷ send (load 6 5) (load 10 9)
    ∷ send (in4 Select 0 5 0 4 4) (in4 Select 0 10 0 4 4) ∷ send (load 6 5) (load 9 10)
    ∷ send (in3 Index 0 5 4 0) (in3 Index 0 9 4 0) ∷ send (load 6 5) (load 10 9)
    -- a pointer read from an image points into it
    ∷ send (nat 1 7 1) (nat 1 10 1) ∷ send (load 5 7) (load 9 10) ∷ send (load 6 5) (load 10 9)
    ∷ cmp_to 10 ∷ [])
    -- of each pair the second is kept, so the first is: Select of the pool and something, either way round; Index by the pool
    ∷ rests (pool ∷ nat 2 8 1 ∷ in4 Select 0 5 4 4 0 ∷ load 6 5 ∷ in4 Select 0 5 4 0 4 ∷ load 6 5 ∷ in3 Index 0 5 0 4 ∷ load 6 5
    -- a pointer read from an Alloc's block, a kept block or the pool points nowhere
    ∷ in2 Alloc 0 7 1 ∷ load 5 7 ∷ load 6 5 ∷ load 5 8 ∷ load 6 5 ∷ load 5 4 ∷ load 6 5
    ∷ two)
    ∷ []

pub origins_cases : map answered origins ≡ map given origins
origins_cases = refl

-- ---- what writes memory, by rule 6 only that of a member

-- a Cat into d, of both operands; its one piece is an address unless bit 0 of sc is set
abbrev cat_of : ℕ → ℕ → Inst
cat_of d sc = op Cat 0 (d ∷ 1 ∷ 1 ∷ []) (0 ∷ 2 ∷ []) (sc ∷ [])

abbrev dope : ℕ → Inst
dope d = op MakeDope 0 (d ∷ []) (0 ∷ 2 ∷ []) []

abbrev pub written : List Row
written =
    -- Store, SigRead, MakeDope and Cat, of both forms, into a member's block; a Cat's scalar piece is not read
    goes 1 9 (send (in2 Alloc 0 4 1) (in2 Alloc 0 9 1) ∷ send (in2 Store 1 4 1) (in2 Store 1 9 1) ∷ send (in2 SigRead 0 4 0) (in2 SigRead 0 9 0)
    ∷ send (dope 4) (dope 9) ∷ send (cat 0 4 0) (cat 0 9 0) ∷ send (cat 1 4 0) (cat 1 9 0) ∷ send (cat_of 4 3) (cat_of 9 3) ∷ cmp_to 9 ∷ [])
    -- into something; into the frame, a kept block, the pool
    ∷ rests (frame ∷ nat 2 6 1 ∷ in1 AddrOf 4 7 ∷ in2 Store 1 0 1 ∷ in2 SigRead 0 0 0 ∷ dope 0 ∷ cat 0 0 0 ∷ in2 Store 1 4 1 ∷ in2 Store 1 6 1 ∷ in2 Store 1 7 1 ∷ two)
    -- into a member's image; a Store of a Sig; a Cat reads its address pieces, and r1 is no memory that it may read
    ∷ rests (nat 1 4 1 ∷ in2 Store 1 4 1 ∷ in2 Alloc 0 6 1 ∷ in2 Store 4 6 1 ∷ in2 Alloc 0 7 1 ∷ cat_of 7 0 ∷ in2 Alloc 0 8 1 ∷ cat_of 8 2 ∷ two)
    ∷ []

pub written_cases : map answered written ≡ map given written
written_cases = refl
