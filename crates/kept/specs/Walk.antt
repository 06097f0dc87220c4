-- 01, "The walk": demand 3 as a statement. This page is read beside that section, sentence by sentence, but for its premise on block 0,
-- which request 2026-02 takes away; the theorem is `demand3 : Demand3` (proofs/Answer), and specs/Shown computes the same claim on small
-- pictures. Assumes nothing.
use Rattle.std.specs.Prelude.{◌≡◌, Bool, true, false, not, ◌&&◌, cond, List, [], ◌∷◌, ◌++◌, map, ℕ, zero, suc, ◌-◌, ◌≤◌, ◌<◌, T, eqb, ltb, leb, get_or, length, take, drop, Option, None, Some}
use Rattle.words.specs.Lists.{range, upto, mem, concat}
use Rattle.model.specs.Kinds.{Role, writing}
use Rattle.model.specs.Picture.{Picture, Inst, inst, absent, slots, roles, reads, nblocks, starts, ends, places, succs}
use Rattle.model.specs.Analyse.{Facts, facts}
use Rattle.model.specs.Move.{order, apply}
use Rattle.model.specs.Refusal.{refusal}
use Rattle.model.specs.Pass.{rounds, round, fits, sink}

-- ---- the picture after, and old places

-- The picture before is the one lent; the one after is what k rounds leave. Each round gets what the last one left.
-- `was` lists the old place of each position: a round carries its members from x to the target's head, and the rest keep block and
-- order (`order`, model's Move), so that after it position p stood where position `order` p stood before it.
pub record Stage : Type 0 where
  pub now : Picture
  pub was : List ℕ

-- a round more, on a picture whose positions stood at `was`
abbrev pub carried : List ℕ → List ℕ → List ℕ
carried was o = map (λ p. get_or was p 0) o

abbrev pub stage : Facts → ℕ → Picture → List ℕ → Stage
stage G zero P was = record { now = P; was = was }
stage G (suc k) P was =
    elim (round P G) [
      | None ↦ record { now = P; was = was }
      | Some a ↦ elim (fits P (apply P a)) [ true ↦ stage G k (apply P a) (carried was (concat (order P a))) | false ↦ record { now = P; was = was } ]
    ]

-- k rounds on the picture lent, where each position stands at its own place
abbrev pub after : Picture → ℕ → Stage
after P k = stage (facts P) k P (upto (length P.locs))

-- the old block: the block before that holds the old place
module _ (P : Picture) where
  abbrev pub block_of : ℕ → List ℕ → ℕ
  block_of p [] = 0
  block_of p (b ∷ bs) = elim (leb (starts P b) p && ltb p (ends P b)) [ true ↦ b | false ↦ block_of p bs ]

  abbrev pub home : ℕ → ℕ
  home p = block_of p (upto (nblocks P))

-- ---- successors and walks

-- A block's successors are `succs` of model's Picture.

-- from b on, each time to a successor
abbrev pub steps : Picture → ℕ → List ℕ → Bool
steps P b [] = true
steps P b (c ∷ w) = mem c (succs P b) && steps P c w

-- A walk is an empty list of blocks, or starts at 0 and goes on each time to a successor.
abbrev pub is_walk : Picture → List ℕ → Bool
is_walk P [] = true
is_walk P (b ∷ w) = eqb b 0 && ltb b (nblocks P) && steps P b w

-- ---- the plain machine

-- A run is one instruction's turn at one place of the walk: `turn` is that place, `at` the instruction's position.
pub record Run : Type 0 where
  pub turn : ℕ
  pub at : ℕ

-- a write: the run that stored it, and its slot
pub record Write : Type 0 where
  pub by : Run
  pub slot : ℕ

-- For each register the machine keeps the last write, and nothing else.
abbrev pub Kept : Type 0
Kept = ℕ → Option Write

abbrev pub nothing : Kept
nothing r = None

-- Each present slot that writes, in order, stores this run and slot as its register's write; slots counted from k.
abbrev pub stores : Run → ℕ → List Role → List ℕ → Kept → Kept
stores u k [] rs s = s
stores u k (o ∷ os) [] s = s
stores u k (o ∷ os) (r ∷ rs) s =
    stores u (suc k) os rs (λ x. cond (writing o && not (eqb r absent) && eqb x r) (Some (record { by = u; slot = k })) (s x))

module _ (P : Picture) where
  -- positions run one after the other at place n of the walk
  abbrev pub runs : ℕ → Kept → List ℕ → Kept
  runs n s [] = s
  runs n s (p ∷ ps) = let i = inst P.recs p in runs n (stores (record { turn = n; at = p }) 0 (roles i) (slots i) s) ps

  -- Each block of the walk runs whole: what is kept when place n of the walk begins, at first nothing.
  abbrev pub enters : List ℕ → ℕ → Kept
  enters w zero = nothing
  enters w (suc n) = runs n (enters w n) (places P (get_or w n 0))

  -- what is kept when a run's turn comes: its block has run up to it
  abbrev pub reaches : List ℕ → Run → Kept
  reaches w u = let b = get_or w u.turn 0 in runs u.turn (enters w u.turn) (range (starts P b) (u.at - starts P b))

  -- Each present slot or list place that reads takes the write kept for its register: in order of slots, then list places.
  abbrev pub takes : List ℕ → Run → List (Option Write)
  takes w u = map (reaches w u) (reads P.ops (inst P.recs u.at))

  -- it is a run of the walk: its position is in the block at its place
  abbrev pub is_run : List ℕ → Run → Bool
  is_run w u = let b = get_or w u.turn 0 in ltb u.turn (length w) && leb (starts P b) u.at && ltb u.at (ends P b)

-- ---- matching: P is the picture before, `was` the old places, w the walk

-- the greatest place up to n that holds b
abbrev pub latest : List ℕ → ℕ → ℕ → Option ℕ
latest w zero b = elim (eqb (get_or w 0 0) b) [ true ↦ Some 0 | false ↦ None ]
latest w (suc n) b = elim (eqb (get_or w (suc n) 0) b) [ true ↦ Some (suc n) | false ↦ latest w n b ]

module _ (P : Picture) (was : List ℕ) (w : List ℕ) where
  -- A run after matches the run before of its old place, at the greatest place up to its own that holds its old block.
  abbrev pub match : Run → Option Run
  match u =
      let o = get_or was u.at 0 in
      elim (latest w u.turn (home P o)) [ None ↦ None | Some m ↦ Some (record { turn = m; at = o }) ]

  -- Writes match if their runs match and their slots are the same; or a value is taken in both from none.
  abbrev pub Matches : Option Write → Option Write → Type 0
  Matches None None = Unit {0}
  Matches None (Some v) = ⊥
  Matches (Some u) None = ⊥
  Matches (Some u) (Some v) = (match u.by ≡ Some v.by) × (u.slot ≡ v.slot)

  -- Reads are compared at the same slot or list place.
  abbrev pub Each : List (Option Write) → List (Option Write) → Type 0
  Each [] [] = Unit {0}
  Each [] (y ∷ ys) = ⊥
  Each (x ∷ xs) [] = ⊥
  Each (x ∷ xs) (y ∷ ys) = Matches x y × Each xs ys

-- ---- demand 3

-- kind, form, payload, absent slots and list length
abbrev pub bare : Inst → List ℕ
bare i = take 2 i ++ map (λ r. cond (eqb r absent) 1 0) (slots i) ++ drop 8 i

-- Each original instruction stands exactly once: L was lent, Q is the picture after, whose positions stood at `was`.
pub record Once (L Q : Picture) (was : List ℕ) : Type 0 where
  -- each position after has one old place,
  pub as_many : (length was ≡ length L.locs) × (length Q.locs ≡ length L.locs)
  pub old_place : (p : ℕ) → p < length was → get_or was p 0 < length L.locs
  -- and each place before belongs to exactly one
  pub stands : (o : ℕ) → o < length L.locs → (p : ℕ) × (p < length was) × (get_or was p 0 ≡ o)
  pub once : (p q : ℕ) → p < length was → q < length was → get_or was p 0 ≡ get_or was q 0 → p ≡ q
  -- Kind, form, payload, absent slots and list length are the same at both, and loc and via
  pub same_but_registers : (p : ℕ) → p < length was → bare (inst Q.recs p) ≡ bare (inst L.recs (get_or was p 0))
  pub same_loc : (p : ℕ) → p < length was → get_or Q.locs p 0 ≡ get_or L.locs (get_or was p 0) 0
  pub same_via : (length Q.vias ≡ length L.vias) × ((p : ℕ) → p < length was → get_or Q.vias p 0 ≡ get_or L.vias (get_or was p 0) 0)
  -- Both pictures have the same walks.
  pub same_succs : (b : ℕ) → succs Q b ≡ succs L b
  pub same_walks : (w : List ℕ) → is_walk Q w ≡ is_walk L w

-- The claim on one walk, followed in the picture as lent, L, and in the picture as it then stands, Q
pub record Follows (L Q : Picture) (was w : List ℕ) : Type 0 where
  -- each run after matches a run before, that is one of the walk; and no two match one
  pub matched : (u : Run) → T (is_run Q w u) → (v : Run) × (match L was w u ≡ Some v) × T (is_run L w v)
  pub apart : (u u' v : Run) → T (is_run Q w u) → T (is_run Q w u') → match L was w u ≡ Some v → match L was w u' ≡ Some v → u ≡ u'
  -- each register read takes its value from the matching write, or in both from none
  pub reads_match : (u v : Run) → T (is_run Q w u) → match L was w u ≡ Some v → Each L was w (takes Q w u) (takes L w v)
  -- a run left unmatched had been read only by unmatched runs: if v' takes a write of v, and no run after matches v, none matches v'
  pub unmatched : (v v' : Run) (k j : ℕ) → T (is_run L w v) → T (is_run L w v')
      → get_or (takes L w v') j None ≡ Some (record { by = v; slot = k })
      → ((u : Run) → T (is_run Q w u) → ¬ (match L was w u ≡ Some v))
      → (u : Run) → T (is_run Q w u) → ¬ (match L was w u ≡ Some v')

-- of two pictures
pub record Keeps (L Q : Picture) (was : List ℕ) : Type 0 where
  pub exactly_once : Once L Q was
  -- for every walk, of whatever length; also where block 0 has predecessors (request 2026-02)
  pub along : (w : List ℕ) → T (is_walk L w) → Follows L Q was w

-- For every accepted picture, and at whatever point between rounds the work stops: k from 0 to the number that Done or Short gives.
abbrev pub Demand3 : Type 0
Demand3 = (P : Picture) (w64 w32 nf k : ℕ) → refusal P w64 w32 nf ≡ 0 → k ≤ rounds (sink P w64 w32 nf).answer → Keeps P (after P k).now (after P k).was
