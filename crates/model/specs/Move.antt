-- 01, "A round" and "The move": the chain from a block, the plan for it, and 000's `apply`. Assumes nothing.
use Rattle.std.specs.Prelude.{Bool, true, false, not, ◌&&◌, ◌||◌, cond, List, [], ◌∷◌, ◌++◌, map, ℕ, zero, suc, ◌+◌, ◌-◌, max, eqb, ltb, leb, get_or, length, take, drop, Option, None, Some}
use Rattle.words.specs.Lists.{upto, any, mem, filter, concat, same, lookup, spans, member, count}
use Rattle.model.specs.Kinds.{Role, reading, writing, Cat}
use Rattle.model.specs.Picture.{Picture, Inst, inst, absent, form, slots, roles, is_kind, list_of, writes, nblocks, starts, places, code, size, goes, parts, cases, stops, ending, callers}
use Rattle.model.specs.Live.{live_in, live_out, written}
use Rattle.model.specs.Analyse.{Facts, Fact, analyse, last_writer}
use Rattle.model.specs.Legal.{fact_at, reads_from, writes_last, greatest}

-- ---- the thresholds, which belong to the pass: 000's MIN_SUNK, MIN_REPLAY and MAX_SEQ

abbrev pub min_sunk : ℕ
min_sunk = 8

abbrev pub min_replay : ℕ
min_replay = 3

abbrev pub max_seq : ℕ
max_seq = 800

abbrev pub minimum : Bool → ℕ
minimum true = min_replay
minimum false = min_sunk

-- ---- the chain

-- its blocks from x on, the last of them, and where that goes
pub record Chain : Type 0 where
  pub blocks : List ℕ
  pub last : ℕ
  pub t : ℕ
  pub f : ℕ

-- the chain that goes on from cur, behind the blocks gathered, if k more may be gathered: follow Br until CondBr. Block 0 begins a
-- chain, and is no later part of one (request 2026-02).
abbrev pub chain_from : Picture → ℕ → List ℕ → ℕ → Option Chain
chain_from P zero bs cur =
    elim (ending P cur) [ goes to ↦ None | parts t f ↦ Some (record { blocks = bs; last = cur; t = t; f = f }) | cases c ↦ None | stops ↦ None ]
chain_from P (suc k) bs cur =
    elim (ending P cur) [
      | goes to ↦ elim (eqb (length (callers P to)) 1 && not (mem to bs)) [ true ↦ chain_from P k (bs ++ to ∷ []) to | false ↦ None ]
      | parts t f ↦ Some (record { blocks = bs; last = cur; t = t; f = f })
      | cases c ↦ None
      | stops ↦ None
    ]

-- "Chain from block x": six blocks at most
abbrev pub chain : Picture → ℕ → Option Chain
chain P x = chain_from P 5 (x ∷ []) x

-- its positions, inner Brs dropped
abbrev pub chain_places : Picture → List ℕ → List ℕ
chain_places P [] = []
chain_places P (b ∷ []) = places P b
chain_places P (b ∷ c ∷ bs) = take (size P b - 1) (places P b) ++ chain_places P (c ∷ bs)

-- ---- what can move

-- from x into the target, over the chain's facts: the greatest legal set
pub record Plan : Type 0 where
  pub x : ℕ
  pub into : ℕ
  pub run : List Fact
  pub set : List Bool

-- the registers needed elsewhere than in the target: live into the other branch, or live out of the target unless written there
abbrev pub needed : Picture → ℕ → ℕ → ℕ → Bool
needed P into other r = live_in P other r || (live_out P into r && not (written r (code P into)))

-- a target is not in the chain, and its sole predecessor is the chain's end; so it is not block 0 (request 2026-02)
abbrev pub is_target : Picture → Chain → ℕ → Bool
is_target P c into = not (mem into c.blocks) && same (callers P into) (c.last ∷ [])

-- the same for each register in use
abbrev pub needed_of : Picture → ℕ → ℕ → List Bool
needed_of P into other = map (needed P into other) (upto P.regs)

-- the greatest legal set of the chain's positions in x for a target
abbrev pub set_for : Picture → List Fact → ℕ → ℕ → ℕ → List Bool
set_for P run x into other = let rs = needed_of P into other in greatest run (member rs) (size P x - 1)

abbrev pub plan : Picture → List Fact → ℕ → Chain → ℕ → ℕ → ℕ → Option Plan
plan P run x c least into other =
    let S = set_for P run x into other in
    elim (is_target P c into && leb least (count S)) [ true ↦ Some (record { x = x; into = into; run = run; set = S }) | false ↦ None ]

-- t or f is in replay
abbrev pub replays : Picture → Chain → Bool
replays P c = mem c.t P.replay || mem c.f P.replay

-- the facts along the chain
abbrev pub run_of : Picture → Facts → Chain → List Fact
run_of P G c = analyse G P.ops [] (map (inst P.recs) (chain_places P c.blocks))

-- in order: x without its terminator has the minimum; the chain is not too long; without replay x has a Cat of form 0
abbrev pub worth_a_look : Picture → ℕ → Chain → Bool
worth_a_look P x c =
    leb (minimum (replays P c)) (size P x - 1) && leb (length (chain_places P c.blocks)) max_seq
    && (replays P c || any (λ i. is_kind Cat i && eqb (form i) 0) (take (size P x - 1) (code P x)))

-- the targets: t, then f
abbrev pub plan_chain : Picture → Facts → ℕ → Chain → Option Plan
plan_chain P G x c =
    elim (worth_a_look P x c) [
      | false ↦ None
      | true ↦
          let run = run_of P G c in
          let least = minimum (replays P c) in
          elim (plan P run x c least c.t c.f) [ Some a ↦ Some a | None ↦ plan P run x c least c.f c.t ]
    ]

-- the move from block x, if there is one
abbrev pub try_block : Picture → Facts → ℕ → Option Plan
try_block P G x = elim (chain P x) [ None ↦ None | Some c ↦ plan_chain P G x c ]

-- ---- new registers, as `apply` gives them

-- a register held until a position has run, with its type
pub record Held : Type 0 where
  pub until : ℕ
  pub reg : ℕ
  pub type : ℕ

-- the free registers, last freed first, with their types; those held, in order; the types in use; each member's register
pub record Pool : Type 0 where
  pub free : List (ℕ × ℕ)
  pub held : List Held
  pub types : List ℕ
  pub given : List (ℕ × ℕ)

-- a register is free once its last reader is before the present member p
abbrev pub past : ℕ → Held → Bool
past p h = ltb h.until p

abbrev pub freed : ℕ → List Held → List (ℕ × ℕ) → List (ℕ × ℕ)
freed p [] fs = fs
freed p (h ∷ hs) fs = freed p hs (cond (past p h) ((h.type, h.reg) ∷ fs) fs)

abbrev pub release : ℕ → Pool → Pool
release p s = record { free = freed p s.held s.free; held = filter (λ h. not (past p h)) s.held; types = s.types; given = s.given }

-- the first free register of a type, and the rest
abbrev pub found : ℕ → List (ℕ × ℕ) → Option ℕ
found ty [] = None
found ty (f ∷ fs) = cond (eqb f.0 ty) (Some f.1) (found ty fs)

abbrev pub without : ℕ → List (ℕ × ℕ) → List (ℕ × ℕ)
without ty [] = []
without ty (f ∷ fs) = cond (eqb f.0 ty) fs (f ∷ without ty fs)

-- a signal reference (type 4) takes the next register, an I64, as well
abbrev pub grown : List ℕ → ℕ → List ℕ
grown ts ty = ts ++ cond (eqb ty 4) (4 ∷ 0 ∷ []) (ty ∷ [])

-- the register given for an old one of type ty: the free one if there is one, else a new one
abbrev pub given_reg : List ℕ → Option ℕ → ℕ
given_reg ts None = length ts
given_reg ts (Some r) = r

abbrev pub given_types : List ℕ → ℕ → Option ℕ → List ℕ
given_types ts ty None = grown ts ty
given_types ts ty (Some r) = ts

-- member p's register, held until `until`, for its old one d
abbrev pub give : ℕ → ℕ → Pool → ℕ → Pool
give p until s d =
    let ty = get_or s.types d 0 in
    let o = found ty s.free in
    let r = given_reg s.types o in
    record {
      free = without ty s.free;
      held = s.held ++ record { until = until; reg = r; type = ty } ∷ [];
      types = given_types s.types ty o;
      given = (p, r) ∷ s.given;
    }

abbrev pub gives : ℕ → ℕ → Pool → List ℕ → Pool
gives p until s [] = s
gives p until s (d ∷ ds) = gives p until (give p until s d) ds

module _ (run : List Fact) (read_there : ℕ → Bool) where
  -- does p's value in register d reach the target, which reads it
  abbrev pub reaches : ℕ → ℕ → Bool
  reaches p d = read_there d && writes_last run p d

  abbrev pub last_of : ℕ → List ℕ → ℕ
  last_of p [] = p
  last_of p (q ∷ qs) = let r = last_of p qs in cond (reads_from run q p) (max q r) r

  -- the last reader of p's value; past the end if the target reads it
  abbrev pub last_use : ℕ → ℕ
  last_use p = elim (any (reaches p) (fact_at run p).defs) [ true ↦ length run | false ↦ last_of p (upto (length run)) ]

  abbrev pub pooled : Pool → List ℕ → Pool
  pooled s [] = s
  pooled s (p ∷ ps) = pooled (gives p (last_use p) (release p s) (fact_at run p).defs) ps

-- ---- renaming

abbrev pub renamed : (ℕ → ℕ) → (ℕ → ℕ) → List Role → List ℕ → List ℕ
renamed rd wr os [] = []
renamed rd wr [] (r ∷ rs) = r ∷ renamed rd wr [] rs
renamed rd wr (o ∷ os) (r ∷ rs) = cond (eqb r absent) r (cond (reading o) (rd r) (cond (writing o) (wr r) r)) ∷ renamed rd wr os rs

-- an instruction to go into the target, with what its reads and writes become
pub record Job : Type 0 where
  pub old : Inst
  pub rd : ℕ → ℕ
  pub wr : ℕ → ℕ

abbrev pub made : Job → ℕ → Inst
made j start = let i = j.old in take 2 i ++ renamed j.rd j.wr (roles i) (slots i) ++ start ∷ drop 8 i

abbrev pub new_list : List ℕ → Job → List ℕ
new_list ops j = map j.rd (list_of ops j.old)

-- "Changed lists are appended to the operands"
abbrev pub changes : List ℕ → Job → Bool
changes ops j = not (same (new_list ops j) (list_of ops j.old))

abbrev pub more_of : List ℕ → Job → List ℕ
more_of ops j = elim (changes ops j) [ true ↦ new_list ops j | false ↦ [] ]

-- all that is appended; and the records, where n operands are in use: a changed list starts there, another stays where it is
abbrev pub appended : List ℕ → List Job → List ℕ
appended ops js = concat (map (more_of ops) js)

abbrev pub made_all : List ℕ → ℕ → List Job → List Inst
made_all ops n [] = []
made_all ops n (j ∷ js) = made j (cond (changes ops j) n (get_or j.old 7 0)) ∷ made_all ops (n + length (more_of ops j)) js

-- the target's own code: "Reads in the target before the target's own write are renamed", by `rd`
abbrev pub own_jobs : (ℕ → ℕ) → List Inst → List Job
own_jobs rd [] = []
own_jobs rd (i ∷ is) = record { old = i; rd = rd; wr = λ r. r } ∷ own_jobs (λ r. elim (mem r (writes i)) [ true ↦ r | false ↦ rd r ]) is

-- ---- the move

module _ (P : Picture) (a : Plan) where
  abbrev pub members : List ℕ
  members = filter (member a.set) (upto (size P a.x))

  abbrev pub fresh : Pool
  fresh =
      let there : List Bool = map (live_in P a.into) (upto P.regs) in
      pooled a.run (λ r. get_or there r false) (record { free = []; held = []; types = take P.regs P.types; given = [] }) members

  -- what register r becomes where its value comes from a writer in the chain: the writer's new register, if it is a member
  abbrev pub new_name : List (ℕ × ℕ) → ℕ → Option ℕ → ℕ
  new_name given r None = r
  new_name given r (Some d) = elim (member a.set d) [ true ↦ lookup given d r | false ↦ r ]

  -- what goes into the target: the members, each with its new register, its reads by the last writer before it
  abbrev pub member_job : List (ℕ × ℕ) → ℕ → Job
  member_job given p = record {
    old = inst P.recs (starts P a.x + p);
    rd = λ r. new_name given r (last_writer 0 (take p a.run) r);
    wr = λ r. lookup given p r;
  }

  -- then its own code, its reads by the last writer in the whole chain
  abbrev pub jobs : List (ℕ × ℕ) → List Job
  jobs given = map (member_job given) members ++ own_jobs (λ r. new_name given r (last_writer 0 a.run r)) (code P a.into)

  -- the positions before, in the order after: block by block
  abbrev pub order_of : ℕ → List ℕ
  order_of b =
      elim (eqb b a.x) [
        | true ↦ map (λ p. starts P b + p) (filter (λ p. not (member a.set p)) (upto (size P b)))
        | false ↦ elim (eqb b a.into) [ true ↦ map (λ p. starts P a.x + p) members ++ places P b | false ↦ places P b ]
      ]

  abbrev pub order : List (List ℕ)
  order = map order_of (upto (nblocks P))

  -- each block's code after
  abbrev pub new_code : List Job → ℕ → List Inst
  new_code js b = elim (eqb b a.into) [ true ↦ made_all P.ops P.opers js | false ↦ map (inst P.recs) (order_of b) ]

  abbrev pub apply : Picture
  apply =
      let s = fresh in
      let js = jobs s.given in
      let more = appended P.ops js in
      let cs = map (new_code js) (upto (nblocks P)) in
      let o = concat order in
      record {
        bounds = spans 0 cs;
        recs = concat (concat cs);
        locs = map (λ p. get_or P.locs p 0) o;
        vias = elim (length P.vias) [ zero ↦ [] | suc n ↦ map (λ p. get_or P.vias p 0) o ];
        types = s.types ++ drop (length s.types) P.types;
        regs = length s.types;
        ops = take P.opers P.ops ++ more ++ drop (P.opers + length more) P.ops;
        opers = P.opers + length more;
        pairs = P.pairs;
        targets = P.targets;
        replay = P.replay;
      }
