-- 01, "A round": the positions of a chain, inner Brs dropped, as parts of the records. Assumes nothing.
use Rattle.std.specs.Prelude.{◌≡◌, cond, List, ℕ, ◌+◌, ◌*◌, ◌-◌, ◌≤◌, ◌<◌, ltb, get_or, length}
use Rattle.chains.specs.declared.chain.Chain.{Chain}
use Rattle.chains.specs.declared.places.Part.{Part}
use Rattle.chains.specs.Chain.{blocks_of, Few}

abbrev pub start_in : List ℕ → ℕ → ℕ
start_in bounds b = get_or bounds (2 * b) 0

abbrev pub end_past : List ℕ → ℕ → ℕ
end_past bounds b = get_or bounds (2 * b + 1) 0

-- block b has its bounds, in order
pub record Pair (bounds : List ℕ) (b : ℕ) : Type 0 where
  pub size : 2 * b + 2 ≤ length bounds
  pub order : start_in bounds b ≤ end_past bounds b

-- a chain of one to six blocks, each of which has its bounds
pub record Laid (bounds : List ℕ) (c : Chain) : Type 0 where
  pub few : Few c
  pub each : (k : ℕ) → k < c.count → Pair bounds (get_or (blocks_of c) k 0)

-- how many positions of a block there are, where so many blocks follow
abbrev pub kept_in : List ℕ → ℕ → ℕ → ℕ
kept_in bounds b more = let n = end_past bounds b - start_in bounds b in cond (ltb 0 more) (n - 1) n

-- the positions in the k-th of these blocks
pub record IsPart (bounds bs : List ℕ) (k : ℕ) (r : Part) : Type 0 where
  pub from : r.from ≡ start_in bounds (get_or bs k 0)
  pub past : r.past ≡ r.from + kept_in bounds (get_or bs k 0) (length bs - (k + 1))
  pub fits : r.past ≤ end_past bounds (get_or bs k 0)
  pub low : r.past < 4294967296
