-- What is known along a chain (01, "The legal set"), and the plan for a target (01, "A round"), in the lent words. Assumes nothing.
use Rattle.std.specs.Prelude.{◌≡◌, List, ℕ, ◌+◌, ◌*◌, ◌-◌, ◌≤◌, ◌<◌, get_or, length, drop}
use Rattle.model.specs.Picture.{Picture, absent, nblocks, size}
use Rattle.model.specs.Analyse.{Facts}
use Rattle.model.specs.Legal.{fact_at}
use Rattle.model.specs.Move.{Plan, chain_places, run_of, last_use}
use Rattle.pool.specs.Pool.{last_at, wrote_at}
use Rattle.pool.specs.Plan.{read_there}
use Rattle.apply.specs.Apply.{Stands}
use Rattle.facts.specs.declared.Fact as F
use Rattle.facts.specs.Marks.{fact_in, bare}
use Rattle.chains.specs.declared.chain.Chain.{Chain}
use Rattle.chains.specs.Chain.{chain_in, blocks_of, Sound}
use Rattle.legalset.specs.Chain.{Safe, Brief, Told}
use Rattle.summary.specs.Passes.{Ended}
use Rattle.sizes.specs.declared.Sizes.{Sizes}
use Rattle.chainwords.specs.Work.{Lists, Held, copied_words}

-- the structs w stand for the facts of chain c, which has n positions
pub record Along (P : Picture) (G : Facts) (c : Chain) (w : List F.Fact) (work32 : List ℕ) (n : ℕ) : Type 0 where
  pub long : n ≡ length (chain_places P (blocks_of c))
  pub few : n ≤ 800
  pub numbers : (k : ℕ) → k < n → (fact_in w k).rec ≡ get_or (chain_places P (blocks_of c)) k 0
  pub told : Told P.recs P.ops w (copied_words P work32) n (run_of P G (chain_in c))
  pub ended : Ended P.recs w n (copied_words P work32)
  pub safe : Safe P.recs P.ops w n P.regs
  pub brief : Brief P.recs P.ops w n
  pub written : (p : ℕ) → p < n → (fact_in w p).def ≡ get_or (fact_at (run_of P G (chain_in c)) p).defs 0 absent

-- chain c is one of blocks, and short enough
pub record Chained (P : Picture) (c : Chain) : Type 0 where
  pub sound : Sound c (nblocks P)
  pub short : length (chain_places P (blocks_of c)) ≤ 800

-- ---- `learn`

pub record Learning (bounds recs ops : List ℕ) (s : Sizes) (c : Chain) (work64 work32 : List ℕ) (facts : List F.Fact) : Type 0 where
  pub P : Picture
  pub G : Facts
  pub lists : Lists P bounds recs ops s (length work64) (length work32)
  pub held : Held P G work64 work32
  pub chained : Chained P c
  pub room : 800 ≤ length facts

pub record Learnt (bounds recs ops : List ℕ) (s : Sizes) (c : Chain) (work64 work32 work64' work32' : List ℕ) (facts' : List F.Fact) (n : ℕ) : Type 0 where
  pub size64 : length work64' ≡ length work64
  pub size32 : length work32' ≡ length work32
  pub held : (P : Picture) (G : Facts) → Lists P bounds recs ops s (length work64) (length work32) → Held P G work64 work32 → Held P G work64' work32'
  pub along : (P : Picture) (G : Facts) → Lists P bounds recs ops s (length work64) (length work32) → Held P G work64 work32 → Chained P c → Along P G c (bare facts') work32' n

-- ---- the words for the move

-- all that is asked of the words for `apply`
pub record Marked (P : Picture) (a : Plan) (m n : ℕ) (w : List ℕ) : Type 0 where
  pub stands : Stands P a m n w
  pub lasts : (p : ℕ) → p < m → last_at w p < 4096
  pub wrotes : (p : ℕ) → p < m → (wrote_at w p ≡ absent → ⊥) → wrote_at w p < P.regs

-- the structs w stand for the facts along chain c, m positions of it are in x, and into is a block
pub record Planning (bounds recs ops : List ℕ) (s : Sizes) (c : Chain) (w : List F.Fact) (work64 work32 : List ℕ) (into m n : ℕ) : Type 0 where
  pub P : Picture
  pub G : Facts
  pub lists : Lists P bounds recs ops s (length work64) (length work32)
  pub held : Held P G work64 work32
  pub chained : Chained P c
  pub along : Along P G c w work32 n
  pub into_block : into < nblocks P
  pub in_x : m ≤ n

-- P.x's positions are the first m of the chain
pub record FromX (P : Picture) (c : Chain) (x m : ℕ) : Type 0 where
  pub first : get_or (blocks_of c) 0 0 ≡ x
  pub inside : m ≡ size P x - 1

-- word 0 of each of n positions is the number of its record
pub record Numbered (w : List F.Fact) (work32 : List ℕ) (n : ℕ) : Type 0 where
  pub each : (p : ℕ) → p < n → get_or work32 (10 * p) 0 ≡ (fact_in w p).rec

-- ---- `put_uses`

pub record Using (bounds recs ops : List ℕ) (s : Sizes) (c : Chain) (work64 work32 : List ℕ) (moved into m n : ℕ) : Type 0 where
  pub w : List F.Fact
  pub planning : Planning bounds recs ops s c w work64 work32 into m n
  pub numbered : (moved ≡ 0 → ⊥) → Numbered w work32 n

-- word 7 of each position in x is its last use in the plan a
pub record Lasts (P : Picture) (a : Plan) (m : ℕ) (work32 : List ℕ) : Type 0 where
  pub is : (p : ℕ) → p < m → get_or work32 (10 * p + 7) 0 ≡ last_use a.run (read_there P a) p
  pub low : (p : ℕ) → p < m → get_or work32 (10 * p + 7) 0 < 4096

pub record Used (bounds recs ops : List ℕ) (s : Sizes) (c : Chain) (work64 work32 : List ℕ) (moved into m n : ℕ) (work64' work32' : List ℕ) : Type 0 where
  pub size64 : length work64' ≡ length work64
  pub size32 : length work32' ≡ length work32
  pub behind : drop 8000 work32' ≡ drop 8000 work32
  pub still : moved ≡ 0 → work32' ≡ work32
  pub held : (P : Picture) (G : Facts) → Lists P bounds recs ops s (length work64) (length work32) → Held P G work64 work32 → Held P G work64' work32'
  pub others : (q j : ℕ) → j < 10 → (j ≡ 7 → ⊥) → get_or work32' (10 * q + j) 0 ≡ get_or work32 (10 * q + j) 0
  pub lasts : (moved ≡ 0 → ⊥) → (P : Picture) (G : Facts) (w : List F.Fact) (a : Plan) → Lists P bounds recs ops s (length work64) (length work32) → Held P G work64 work32 → Along P G c w work32 n → Numbered w work32 n
      → a.into ≡ into → a.run ≡ run_of P G (chain_in c) → Lasts P a m work32'
