-- 01, "The legal set", rules 4 to 6: what stands behind three members and stays, and whether they go past it: suspensions,
-- barriers, `alias` and `writes_nothing`. Assumes nothing.
use Rattle.std.specs.Prelude.{◌≡◌, refl, List, [], ◌∷◌, ◌++◌, map, ℕ}
use Rattle.model.specs.Kinds.{AddrOf, CopyConst, Alloc, TempRoot, PkgAlloc, Load, Store, Copy, Zero, Fill, Pos, SlicePos, Field, Un, FBin, FUn, Phys, IToF, FToI, FToIRange}
use Rattle.model.specs.Kinds.{LogicOp, LNum, LEq, LKey, MemEq, ArrCmp, LGet, LSet, LFill, LCopy, Check, FCheck, BinRange, MakeDope, DopeLen, BoundsPos, BoundsSlice, RetBounds, TakeBounds}
use Rattle.model.specs.Kinds.{LayoutOf, SubtypeCheck, Case, Unreachable, Call, CallForeign, CallIndirect, CallProt, New, NewFill, NewFrame, Free, Deref, SigParts, SigSlice, SigRead, SigLastValue, SigAttr, SigGather, SigScatter}
use Rattle.model.specs.Kinds.{Edge, Driving, DrivingValue, SigDriving, SigDrivingValue, Drive, DriveSlot, Disconnect, DisconnectSlot, Force, Release, WaitOn, WaitEdge, WaitFor, WaitAt, TimedOut, Now, Delta, Report, Cover, CoverIn, CoverCond}
use Rattle.model.specs.Picture.{Inst, absent}
use Rattle.model.specs.Build.{op}
use Rattle.model.specs.Marked.{Row, konst, cmp, cat, branch, jump, output, ret, stmt, suspend}
use Rattle.model.specs.Small.{in1, in2, in3, in4, frame, pool, load, nat, Step, keep, send, once, shown, other, rests, goes, cmp_to, two, two_to, answered, given}

-- ---- three members and what stands behind them

-- these stop three values
abbrev values_stop : Inst → Row
values_stop i = rests (cmp 3 1 ∷ two ++ i ∷ [])

-- these stop the maker of a block, and two values are too few
abbrev block_stops : Inst → Row
block_stops i = rests (in2 Alloc 0 5 1 ∷ two ++ i ∷ [])

-- these stop a read of the pool
abbrev pool_stops : Inst → Row
pool_stops i = rests (pool ∷ load 5 4 ∷ two ++ i ∷ [])

-- all go past many at once: x goes on to block 3, where these stand
abbrev all_past : List Step → List Inst → Row
all_past ss is = let bs = other ∷ (is ++ branch 1 2 ∷ []) ∷ [] in once 1 (keep (konst 8) ∷ ss ++ keep (jump 3) ∷ []) (shown 3 ∷ bs) (shown 9) bs

-- a read of what `a` leaves in r4, and two values
abbrev read_past : Inst → List Inst → Row
read_past a is = all_past (keep a ∷ send (load 5 4) (load 9 4) ∷ two_to 9) is

-- a Call of form f that writes nothing and has no list
abbrev call : ℕ → Inst
call f = op Call f [] [] []

-- ---- rule 4: what may suspend

abbrev pub suspensions : List Row
suspensions =
    -- Suspend, CallIndirect, and Call and CallProt of form 1
    values_stop suspend
    ∷ values_stop (in1 CallIndirect 0 0)
    ∷ values_stop (call 1)
    ∷ values_stop (in1 CallProt 1 0)
    -- not those of form 0, nor another call, nor a wait; and a barrier does not matter to values
    ∷ all_past (cmp_to 9 ∷ two_to 9) (call 0 ∷ in1 CallProt 0 0 ∷ op CallForeign 0 [] [] [] ∷ nat 0 6 1 ∷ in1 WaitOn 0 0 ∷ stmt ∷ [])
    ∷ []

pub suspensions_cases : map answered suspensions ≡ map given suspensions
suspensions_cases = refl

-- ---- rule 5: barriers

-- behind the maker of a block
abbrev barrier : List Inst
barrier =
    in1 TempRoot 0 0
    ∷ call 0
    ∷ op CallForeign 0 [] [] []
    ∷ in1 CallProt 0 0
    ∷ in3 New 0 6 1 1
    ∷ in4 NewFill 0 6 1 1 1
    ∷ in4 NewFrame 0 6 1 1 1
    ∷ in1 Free 0 0
    ∷ in3 Report 0 0 0 0
    ∷ stmt
    -- a native that is plain, or has the form of an image but not its list
    ∷ nat 0 6 1
    ∷ nat 1 6 2
    ∷ []

-- these are none
abbrev no_barrier : List Inst
no_barrier = nat 2 6 1 ∷ output 0 ∷ in1 Zero 0 0 ∷ in2 Deref 0 6 0 ∷ in3 Copy 0 0 1 1 ∷ in2 PkgAlloc 0 6 1 ∷ in2 Store 4 0 1 ∷ cat 0 0 0 ∷ []

abbrev pub barriers : List Row
barriers =
    map block_stops barrier
    ++ all_past (send (in2 Alloc 0 5 1) (in2 Alloc 0 9 1) ∷ two_to 9) no_barrier
    -- one stops what creates: Alloc, LayoutOf, an image; and what is read from the frame, a kept block, a kept image
    ∷ rests (frame ∷ nat 2 6 1 ∷ nat 1 7 1 ∷ output 7 ∷ in1 AddrOf 4 8 ∷ in2 Alloc 0 5 1 ∷ in2 LayoutOf 0 5 8 ∷ nat 1 5 1 ∷ load 5 4 ∷ load 5 6 ∷ load 5 7 ∷ two ++ stmt ∷ [])
    -- what is read from Ro goes past one
    ∷ read_past pool (stmt ∷ [])
    -- what is read from the frame goes past a light native, which is none and writes nothing
    ∷ read_past frame (nat 2 6 1 ∷ [])
    ∷ []

pub barriers_cases : map answered barriers ≡ map given barriers
barriers_cases = refl

-- ---- rule 5: writes that may alias

-- a Copy into what `a` leaves in r6
abbrev into : Inst → List Inst
into a = a ∷ in3 Copy 0 6 1 1 ∷ []

abbrev to_ro : List Inst
to_ro = into (in1 AddrOf 2 6)

abbrev to_heap : List Inst
to_heap = into (in2 Deref 0 6 0)

abbrev to_frame : List Inst
to_frame = into (in1 AddrOf 0 6)

abbrev to_block : List Inst
to_block = into (nat 2 6 1)

abbrev to_image : List Inst
to_image = into (nat 1 6 1)

abbrev pub aliases : List Row
aliases =
    -- a write nobody can place reaches Ro, the frame, a kept block and an image
    rests (pool ∷ in1 AddrOf 0 6 ∷ nat 2 7 1 ∷ nat 1 8 1 ∷ load 5 4 ∷ load 5 6 ∷ load 5 7 ∷ load 5 8 ∷ two ++ in1 Zero 0 0 ∷ [])
    -- what is read from Ro is reached by nothing else, not even a write to Ro
    ∷ read_past pool (to_ro ++ to_heap ++ to_frame ++ to_block ++ to_image)
    -- what is read from the frame, not by a write to Ro, the heap, a block, an image
    ∷ read_past frame (to_ro ++ to_heap ++ to_block ++ to_image)
    -- what is read from a block, not by a write to Ro, the heap, the frame, another block
    ∷ read_past (nat 2 4 1) (to_ro ++ to_heap ++ to_frame ++ to_block)
    -- what is read from an image, not by a write to another
    ∷ goes 2 10 (send (nat 1 4 1) (nat 1 9 1) ∷ send (load 5 4) (load 10 9) ∷ cmp_to 10 ∷ map keep to_image)
    -- a write to the frame, a kept block, a kept image reaches what is read there, by a Load, a DopeLen or a LayoutOf
    ∷ rests (frame ∷ nat 2 7 1 ∷ nat 1 8 1 ∷ load 5 4 ∷ in2 DopeLen 0 5 4 ∷ in2 LayoutOf 0 5 4 ∷ load 5 7 ∷ load 5 8 ∷ two ++ in3 Copy 0 4 1 1 ∷ in3 Copy 0 7 1 1 ∷ in3 Copy 0 8 1 1 ∷ [])
    ∷ []

pub aliases_cases : map answered aliases ≡ map given aliases
aliases_cases = refl

-- ---- what writes at its first register, and nowhere else

abbrev at_first : ℕ → ℕ → ℕ → ℕ → List Inst
at_first a b c d = in1 CopyConst 0 a ∷ in3 Fill 0 b 1 1 ∷ in4 LogicOp 0 c 1 1 1 ∷ in3 LSet 0 d 1 1 ∷ []

abbrev at_first_too : ℕ → ℕ → ℕ → ℕ → List Inst
at_first_too a b c d = in4 LFill 0 a 1 1 1 ∷ op LCopy 0 (b ∷ 1 ∷ 1 ∷ 1 ∷ 1 ∷ []) [] [] ∷ in3 Copy 0 c 1 1 ∷ in2 Store 1 d 1 ∷ []

-- these would move, as the Store, but write no member's memory
abbrev at_first_last : ℕ → ℕ → ℕ → ℕ → List Inst
at_first_last a b c d = in2 SigRead 0 a 0 ∷ op MakeDope 0 (b ∷ []) (0 ∷ 2 ∷ []) [] ∷ cat 0 c 0 ∷ cat 1 d 0 ∷ []

-- reads of four blocks, each stopped by one of these
abbrev four_stop : (ℕ → ℕ → ℕ → ℕ → List Inst) → Row
four_stop w = rests (nat 2 4 1 ∷ nat 2 6 1 ∷ nat 2 7 1 ∷ nat 2 8 1 ∷ load 5 4 ∷ load 5 6 ∷ load 5 7 ∷ load 5 8 ∷ two ++ w 4 6 7 8)

abbrev pub placed : List Row
placed =
    -- a read of the pool goes past writes into it, which nothing else is then
    read_past pool (at_first 4 4 4 4 ++ at_first_too 4 4 4 4 ++ at_first_last 4 4 4 4)
    ∷ four_stop at_first
    ∷ four_stop at_first_too
    ∷ four_stop at_first_last
    ∷ []

pub placed_cases : map answered placed ≡ map given placed
placed_cases = refl

-- ---- `writes_nothing`: of what has no arm, or the arm but not its form, what is named there writes nothing; what is not, memory
-- nobody can place

abbrev quiet : List Inst
quiet =
    in3 Pos 0 6 1 1
    ∷ op SlicePos 0 (6 ∷ 1 ∷ 1 ∷ 1 ∷ 1 ∷ []) [] []
    ∷ in3 Field 0 6 1 1
    ∷ in2 Un 0 6 1
    ∷ in3 FBin 0 6 1 1
    ∷ in2 FUn 0 6 1
    ∷ in3 Phys 0 6 1 1
    ∷ in2 IToF 0 6 1
    ∷ in2 FToI 0 6 1
    ∷ in4 FToIRange 0 6 1 1 1
    ∷ in4 LEq 0 6 1 1 1
    ∷ in3 LKey 0 6 1 1
    ∷ in4 MemEq 0 6 1 1 1
    ∷ op ArrCmp 0 (6 ∷ 1 ∷ 1 ∷ 1 ∷ 1 ∷ []) [] []
    ∷ in3 LGet 0 6 1 1
    ∷ in1 Check 1 1
    ∷ in3 FCheck 0 1 1 1
    ∷ op BinRange 0 (6 ∷ 1 ∷ 1 ∷ 1 ∷ 1 ∷ []) [] []
    ∷ op BoundsPos 0 (6 ∷ 1 ∷ 1 ∷ 1 ∷ 1 ∷ []) [] []
    ∷ op BoundsSlice 0 (6 ∷ []) (0 ∷ 2 ∷ []) []
    ∷ in3 RetBounds 0 1 1 1
    ∷ in3 TakeBounds 0 6 7 8
    ∷ in2 LayoutOf 1 6 1
    ∷ in2 Load 4 6 1
    ∷ in2 SubtypeCheck 0 1 1
    ∷ op Unreachable 0 [] [] []
    ∷ in3 SigParts 0 6 1 1
    ∷ in4 SigSlice 0 6 1 1 1
    ∷ in2 Edge 0 6 1
    -- Drive without its first register, and without its last; DriveSlot
    ∷ op Drive 0 (absent ∷ 1 ∷ 1 ∷ 1 ∷ []) [] []
    ∷ in3 Drive 0 1 1 1
    ∷ in4 DriveSlot 0 1 1 1 1
    ∷ in1 WaitOn 0 1
    ∷ in1 WaitEdge 0 1
    ∷ in1 WaitFor 0 1
    ∷ in1 WaitAt 0 1
    ∷ in1 TimedOut 0 6
    ∷ in1 Now 0 6
    ∷ in1 Delta 0 6
    ∷ op Cover 0 [] [] []
    -- and what ends a block elsewhere, in the middle of one
    ∷ jump 1
    ∷ branch 1 2
    ∷ in1 Case 0 0
    ∷ ret []
    ∷ []

abbrev loud : List Inst
loud =
    in2 PkgAlloc 0 6 1
    -- a Zero of the pool, though it says where
    ∷ in1 Zero 0 4
    ∷ in2 Store 4 4 1
    ∷ in4 LNum 1 6 1 1 1
    ∷ in4 LNum 0 1 1 1 1
    ∷ in2 SigLastValue 0 1 1
    ∷ in2 SigAttr 0 6 1
    -- SigGather with both part registers, and with neither
    ∷ in4 SigGather 0 1 1 1 1
    ∷ in2 SigGather 0 1 1
    ∷ op SigScatter 0 (1 ∷ 1 ∷ []) (0 ∷ 2 ∷ []) []
    ∷ in1 Driving 0 6
    ∷ in1 DrivingValue 0 1
    ∷ in2 SigDriving 0 6 1
    ∷ in2 SigDrivingValue 0 1 1
    ∷ op Disconnect 0 [] [] []
    ∷ in2 DisconnectSlot 0 1 1
    ∷ in2 Force 0 1 1
    ∷ in1 Release 0 1
    ∷ output 1
    ∷ in3 CoverIn 0 6 1 1
    ∷ in1 CoverCond 0 1
    ∷ []

abbrev pub named : List Row
named = read_past pool quiet ∷ map pool_stops loud

pub named_cases : map answered named ≡ map given named
named_cases = refl
