-- 01, "A round": the facts on registers, the chain, what is tested before a set is looked for, targets, successors and live-in; with
-- them rules 1 and 2, which ask for these. Assumes nothing.
use Rattle.std.specs.Prelude.{◌≡◌, refl, List, [], ◌∷◌, ◌++◌, map, ℕ, replicate}
use Rattle.model.specs.declared.Answer.TheVariants.{Done}
use Rattle.model.specs.Kinds.{AddrOf, Alloc, Case, Check, Cmp, LNum, Select, Store}
use Rattle.model.specs.Picture.{Picture, Inst}
use Rattle.model.specs.Pass.{ends_in, used}
use Rattle.model.specs.Build.{op, Room, shows}
use Rattle.model.specs.Move.{chain_places}
use Rattle.model.specs.Marked.{Row, konst, alloc, cmp, cmps, sunk_cmps, cat, branch, jump, output, ret, lent, moves}
use Rattle.model.specs.Small.{in1, in2, in3, in4, value, load, nat, Step, keep, send, held, still, once, shown, other, around, whole, steps, rests, three, three_to, two, two_to, returns, apart, replayed, answered, given}

-- x goes on to block 3
abbrev onward : List Inst → List Inst
onward is = konst 8 ∷ is ++ jump 3 ∷ []

abbrev onward_steps : List Step → List Step
onward_steps ss = keep (konst 8) ∷ ss ++ keep (jump 3) ∷ []

-- ---- facts on registers, by what block 2 writes

abbrev known : List Inst
known = in1 AddrOf 0 4 ∷ in1 AddrOf 2 6 ∷ in1 AddrOf 4 7 ∷ value 8 8 0 ∷ other

abbrev unknown : List Inst
unknown = in1 AddrOf 1 4 ∷ in1 AddrOf 3 6 ∷ in1 AddrOf 5 7 ∷ in1 AddrOf 4 8 ∷ in1 AddrOf 4 8 ∷ value 2 8 0 ∷ value 2 8 0 ∷ other

abbrev pub facts_rows : List Row
facts_rows =
    -- AddrOf's Frame, Inst and Const can be read, a constant is a length
    once 1 (steps (send (load 5 4) (load 9 4) ∷ send (load 5 6) (load 9 6) ∷ send (load 5 7) (load 9 7) ∷ send (in2 Alloc 0 5 8) (in2 Alloc 0 9 8) ∷ two_to 9))
    (shown 3 ∷ known ∷ []) (shown 9) (known ∷ [])
    -- AddrOf's Up, Pkg and Shared cannot be read, nor what has two writers, even if they write the same
    ∷ still (whole (load 5 4 ∷ load 5 6 ∷ load 5 7 ∷ load 5 8 ∷ in2 Alloc 0 5 2 ∷ two) ∷ shown 3 ∷ unknown ∷ [])
    ∷ []

pub facts_cases : map answered facts_rows ≡ map given facts_rows
facts_cases = refl

-- ---- the listing changed in one place

-- ten registers in use, r2 a Ptr, and new ones
abbrev ten : List ℕ → Room
ten ts = record { types = 0 ∷ 0 ∷ 1 ∷ replicate 7 0 ++ ts; registers = 16; ops = []; operands = 1 }

-- nothing moves where block 0 is this, without replay
abbrev ten_rest : Room → List Inst → Row
ten_rest m is = let P = lent (is ∷ (output 2 ∷ ret [] ∷ []) ∷ (ret [] ∷ []) ∷ []) m [] in record { what = P; gives = ends_in (Done (used 0 P)) P }

-- block 3 of the first row: a listing whose length is r9
abbrev by_r9 : List Inst
by_r9 = op Alloc 0 (2 ∷ 9 ∷ []) [] [] ∷ cmps 6 ++ cat 0 2 0 ∷ branch 4 5 ∷ []

-- the listing with a last Cmp into r9; then a Const r9 in block 2, which is r9's one writer after round 1; then block 3
abbrev twice_written : List (List Inst)
twice_written =
    (konst 8 ∷ alloc 2 ∷ cmps 5 ++ cmp 9 1 ∷ cat 0 2 0 ∷ branch 1 2 ∷ []) ∷ (output 2 ∷ ret [] ∷ []) ∷ (value 9 8 0 ∷ ret [] ∷ [])
    ∷ by_r9 ∷ (output 2 ∷ ret [] ∷ []) ∷ (ret [] ∷ []) ∷ []

abbrev pub listings : List Row
listings =
    -- "come once, before round 1": r9 had two writers then, so block 3 has no length in round 2
    moves (lent twice_written (ten []) []) ((1 ∷ 0 ∷ 1 ∷ 8 ∷ 13 ∷ 0 ∷ []) ∷ [])
    (shows ((konst 8 ∷ branch 1 2 ∷ []) ∷ (alloc 10 ∷ sunk_cmps 5 11 12 1 ++ cmp 11 1 ∷ cat 0 10 0 ∷ output 10 ∷ ret [] ∷ []) ∷ (value 9 8 0 ∷ ret [] ∷ [])
    ∷ by_r9 ∷ (output 2 ∷ ret [] ∷ []) ∷ (ret [] ∷ []) ∷ []) (ten (1 ∷ 0 ∷ 0 ∷ [])) []
    (0 ∷ 9 ∷ 1 ∷ 2 ∷ 3 ∷ 4 ∷ 5 ∷ 6 ∷ 7 ∷ 8 ∷ 10 ∷ 11 ∷ 12 ∷ 13 ∷ 14 ∷ 15 ∷ 16 ∷ 17 ∷ 18 ∷ 19 ∷ 20 ∷ 21 ∷ 22 ∷ 23 ∷ 24 ∷ 25 ∷ []))
    -- a Select's origin is that of both its values: in place of the listing's last Cmp, a read of the pool or something
    ∷ ten_rest (ten []) (konst 8 ∷ alloc 2 ∷ cmps 5 ++ in1 AddrOf 4 8 ∷ in4 Select 0 9 0 8 0 ∷ load 8 9 ∷ cat 0 2 0 ∷ branch 1 2 ∷ [])
    -- rule 6: an image is no Temp: in place of the last Cmp, an image and a Store into it
    ∷ ten_rest (record { types = 0 ∷ 0 ∷ 1 ∷ replicate 7 0; registers = 16; ops = 1 ∷ []; operands = 1 })
    (konst 8 ∷ alloc 2 ∷ cmps 5 ++ nat 1 9 1 ∷ in2 Store 1 9 1 ∷ cat 0 2 0 ∷ branch 1 2 ∷ [])
    -- "without replay x needs a Cat of form 0": one of form 1 is none, and one in block 2 is not in x
    ∷ replayed [] (whole (three ++ three ++ two ++ cat 1 0 0 ∷ []) ∷ shown 3 ∷ other ∷ [])
    ∷ []

pub listings_cases : map answered listings ≡ map given listings
listings_cases = refl

-- ---- the chain

-- blocks 3 to 5 of a chain
abbrev links : List (List Inst)
links = (jump 4 ∷ []) ∷ (jump 5 ∷ []) ∷ (jump 6 ∷ []) ∷ []

abbrev pub chains : List Row
chains =
    -- x and a second block; that one has a second predecessor
    once 1 (onward_steps (three_to 9)) (around ++ (branch 1 2 ∷ []) ∷ []) (shown 9) (other ∷ (branch 1 2 ∷ []) ∷ [])
    ∷ still (onward three ∷ around ++ (branch 1 2 ∷ []) ∷ (jump 3 ∷ []) ∷ [])
    -- six blocks, and seven
    ∷ once 1 (onward_steps (three_to 9)) (around ++ links ++ (jump 7 ∷ []) ∷ (branch 1 2 ∷ []) ∷ []) (shown 9) (other ∷ links ++ (jump 7 ∷ []) ∷ (branch 1 2 ∷ []) ∷ [])
    ∷ still (onward three ∷ around ++ links ++ (jump 7 ∷ []) ∷ (jump 8 ∷ []) ∷ (branch 1 2 ∷ []) ∷ [])
    -- a block that ends otherwise: in Ret, or empty; a chain that comes back, from block 1
    ∷ still (onward three ∷ around ++ (ret [] ∷ []) ∷ [])
    ∷ still (onward three ∷ around ++ [] ∷ [])
    ∷ still (returns ∷ onward three ∷ other ∷ (jump 1 ∷ []) ∷ [])
    -- without replay: eight Cmps in x, and a Cat of form 0 in the chain but not in x
    ∷ replayed [] (onward (three ++ three ++ two) ∷ around ++ (cat 0 0 0 ∷ branch 1 2 ∷ []) ∷ [])
    -- x in replay does not count, nor does a block behind the target
    ∷ replayed (0 ∷ []) (whole three ∷ around)
    ∷ replayed (3 ∷ []) (whole three ∷ (output 3 ∷ jump 3 ∷ []) ∷ other ∷ (ret [] ∷ []) ∷ [])
    -- three members without replay; two with it
    ∷ replayed [] (whole (three ++ cat 0 0 0 ∷ []) ∷ around)
    ∷ rests two
    -- f is the target, and alone in replay; where both are targets, t is tried first
    ∷ once 1 (keep (konst 8) ∷ three_to 9 ++ keep (branch 2 1) ∷ []) around (shown 9) (other ∷ [])
    ∷ once 1 (steps (three_to 9)) (returns ∷ returns ∷ apart ∷ []) returns (returns ∷ apart ∷ [])
    -- a target is not in the chain: t is x itself, which is block 1
    ∷ still (returns ∷ whole three ∷ other ∷ [])
    -- the target has a second predecessor, which is itself: it reads r3, writes it, and goes to itself
    ∷ still (whole three ∷ (output 3 ∷ cmp 3 1 ∷ branch 1 3 ∷ []) ∷ other ∷ (ret [] ∷ []) ∷ [])
    -- rule 1: a value that a kept position reads, in x and further on in the chain; six drop out one after another
    ∷ rests (three ++ output 3 ∷ [])
    ∷ still (onward three ∷ around ++ (output 3 ∷ branch 1 2 ∷ []) ∷ [])
    ∷ rests (cmps 6 ++ output 8 ∷ [])
    ∷ []

pub chains_cases : map answered chains ≡ map given chains
chains_cases = refl

-- inner Brs are dropped: those of x and of block 3, not the end's CondBr
pub without_brs : chain_places (held (onward three ∷ around ++ (output 1 ∷ jump 4 ∷ []) ∷ (branch 1 2 ∷ []) ∷ [])) (0 ∷ 3 ∷ 4 ∷ []) ≡ 0 ∷ 1 ∷ 2 ∷ 3 ∷ 9 ∷ 11 ∷ []
without_brs = refl

-- ---- successors and live-in

-- the target ends in a Case of table 0, which has two targets, the default first
abbrev cased : List ℕ → List Inst → List Inst → Picture
cased ts d e =
    let P = held (whole three ∷ (op Case 0 (0 ∷ []) [] [] ∷ []) ∷ other ∷ d ∷ e ∷ []) in
    record {
      bounds = P.bounds;
      recs = P.recs;
      locs = P.locs;
      vias = P.vias;
      types = P.types;
      regs = P.regs;
      ops = P.ops;
      opers = P.opers;
      pairs = 0 ∷ 2 ∷ [];
      targets = ts;
      replay = P.replay;
    }

abbrev cased_rests : List ℕ → List Inst → List Inst → Row
cased_rests ts d e = let P = cased ts d e in record { what = P; gives = ends_in (Done (used 0 P)) P }

-- block 2 begins with this
abbrev live_by : Inst → Row
live_by i = still (whole three ∷ shown 3 ∷ (i ∷ other) ∷ [])

abbrev not_live_by : Inst → Row
not_live_by i = once 1 (steps (three_to 9)) (shown 3 ∷ (i ∷ other) ∷ []) (shown 9) ((i ∷ other) ∷ [])

abbrev pub lives : List Row
lives =
    -- rule 2, the other branch reads r3: by a slot; by a register that it then writes; by LNum of form 0; by the third of a Check
    live_by (output 3)
    ∷ live_by (in3 Cmp 0 3 3 3)
    ∷ live_by (in4 LNum 0 3 1 1 1)
    ∷ live_by (in3 Check 2 1 1 3)
    ∷ live_by (in2 Check 0 1 3)
    -- or writes it first: by LNum of form 1
    ∷ not_live_by (cmp 3 1)
    ∷ not_live_by (in4 LNum 1 3 1 1 1)
    -- r3 is read four blocks behind f
    ∷ still (whole three ∷ shown 3 ∷ (cat 0 0 0 ∷ branch 2 3 ∷ []) ∷ (jump 4 ∷ []) ∷ (jump 5 ∷ []) ∷ (jump 6 ∷ []) ∷ shown 3 ∷ [])
    -- and the same, but for a write on the way
    ∷ once 1 (steps (three_to 9)) (shown 3 ∷ (cat 0 0 0 ∷ branch 2 3 ∷ []) ∷ (jump 4 ∷ []) ∷ (cmp 3 1 ∷ jump 5 ∷ []) ∷ shown 3 ∷ []) (shown 9)
    ((cat 0 0 0 ∷ branch 2 3 ∷ []) ∷ (jump 4 ∷ []) ∷ (cmp 3 1 ∷ jump 5 ∷ []) ∷ shown 3 ∷ [])
    -- live out of the target: not written there; written; read and then written
    ∷ still (whole three ∷ (output 3 ∷ jump 3 ∷ []) ∷ other ∷ shown 3 ∷ [])
    ∷ once 1 (steps (three_to 9)) ((cmp 3 1 ∷ jump 3 ∷ []) ∷ other ∷ shown 3 ∷ []) (cmp 3 1 ∷ jump 3 ∷ []) (other ∷ shown 3 ∷ [])
    ∷ once 1 (steps (three_to 9)) ((output 3 ∷ cmp 3 1 ∷ jump 3 ∷ []) ∷ other ∷ shown 3 ∷ []) (output 9 ∷ cmp 3 1 ∷ jump 3 ∷ []) (other ∷ shown 3 ∷ [])
    -- a Case goes to its default, and to the others
    ∷ cased_rests (3 ∷ 4 ∷ []) (shown 3) (ret [] ∷ [])
    ∷ cased_rests (3 ∷ 4 ∷ []) (ret [] ∷ []) (shown 3)
    -- a Br in the middle of block 2 leads nowhere: block 1 has one predecessor
    ∷ not_live_by (jump 1)
    ∷ []

pub lives_cases : map answered lives ≡ map given lives
lives_cases = refl
