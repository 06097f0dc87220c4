-- 01, "The move": the last use of a position's value. Assumes nothing.
use Rattle.std.specs.Prelude.{◌≡◌, Bool, cond, List, ℕ, zero, suc, ◌+◌, ◌-◌, ◌≤◌, ◌<◌, eqb, get_or, length, set}
use Rattle.words.specs.Lists.{any}
use Rattle.words.specs.Last.{last_below}
use Rattle.model.specs.Picture.{Picture, inst, absent, reads, writes}
use Rattle.model.specs.Move.{chain_places}
use Rattle.chains.specs.declared.chain.Chain.{Chain}
use Rattle.chains.specs.Chain.{blocks_of}
use Rattle.chains.specs.Places.{Laid}
use Rattle.regfacts.specs.Written.{Good}
use Rattle.legalset.specs.Chain.{writer}
use Rattle.summary.specs.Passes.{Stamped}

-- q is noted at r's writer, if r is a register and has one
unfoldable pub note_in : List ℕ → ℕ → ℕ → List ℕ → List ℕ
note_in st r q ls = cond (eqb r absent) ls (cond (eqb (get_or st r 0) 0) ls (set ls (get_or st r 0 - 1) q))

-- the same for all registers of l
pub record Noticed (st l : List ℕ) (q : ℕ) (before after : List ℕ) : Type 0 where
  pub size : length after ≡ 800
  pub each : (p : ℕ) → p < 800 → get_or after p 0 ≡ cond (any (λ r. eqb (get_or st r 0) (p + 1)) l) q (get_or before p 0)

-- what q reads is noted, then what it writes
pub record ReadOn (defs reads : List ℕ) (q : ℕ) (st ls st' ls' : List ℕ) : Type 0 where
  pub noticed : Noticed st reads q ls ls'
  pub stamped : Stamped defs 1 0 (q + 1) st st'

-- q reads p's value
unfoldable pub reads_value : (ℕ → List ℕ) → (ℕ → List ℕ) → ℕ → ℕ → Bool
reads_value defs reads p q = any (λ r. eqb (writer defs r q) (p + 1)) (reads q)

-- a position before k, or p itself
unfoldable pub or_own : ℕ → ℕ → ℕ
or_own p zero = p
or_own p (suc q) = q

-- the last reader of p's value among the first n positions, or p
unfoldable pub last_reader : (ℕ → List ℕ) → (ℕ → List ℕ) → ℕ → ℕ → ℕ
last_reader defs reads n p = or_own p (last_below (reads_value defs reads p) n)

pub record Readers (defs reads : ℕ → List ℕ) (n : ℕ) (ls : List ℕ) : Type 0 where
  pub size : length ls ≡ 800
  pub each : (p : ℕ) → p < 800 → get_or ls p 0 ≡ last_reader defs reads n p

-- ---- along a chain

-- what position q writes, and reads, where these records stand at the positions
abbrev pub defs_at : List ℕ → List ℕ → ℕ → List ℕ
defs_at recs places q = writes (inst recs (get_or places q 0))

abbrev pub reads_at : List ℕ → List ℕ → List ℕ → ℕ → List ℕ
reads_at recs ops places q = reads ops (inst recs (get_or places q 0))

-- the records of chain c read and write registers below R
pub record Legible (recs ops bounds : List ℕ) (c : Chain) (R : ℕ) : Type 0 where
  pub laid : Laid bounds c
  pub few : (P : Picture) → P.bounds ≡ bounds → length (chain_places P (blocks_of c)) ≤ 800
  pub good : (P : Picture) → P.bounds ≡ bounds → (q : ℕ) → q < length (chain_places P (blocks_of c)) → Good recs ops R (get_or (chain_places P (blocks_of c)) q 0)

-- ls has each position's last reader in chain c
pub record ReadersAlong (recs ops bounds : List ℕ) (c : Chain) (ls : List ℕ) : Type 0 where
  pub each : (P : Picture) → P.bounds ≡ bounds → Readers (defs_at recs (chain_places P (blocks_of c))) (reads_at recs ops (chain_places P (blocks_of c))) (length (chain_places P (blocks_of c))) ls
