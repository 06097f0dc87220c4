-- What acceptance (01, "The call", causes 1, 3, 4 and 7) gives of the graph, as far as graph.rt and preds.rt use it.
-- Assumes nothing.
use Rattle.std.specs.Prelude.{List, [], ℕ, ◌+◌, ◌*◌, ◌/◌, ◌≤◌, ◌<◌, get_or, length}
use Rattle.model.specs.Picture.{succs}
use Rattle.inst.specs.Record.{Known}
use Rattle.cfg.specs.Drawn.{drawn}

-- each case pair lies within the targets
pub record Tables (pairs targets : List ℕ) : Type 0 where
  pub inside : (k : ℕ) → 2 * k + 1 < length pairs → get_or pairs (2 * k) 0 + get_or pairs (2 * k + 1) 0 ≤ length targets

-- there are at most 4,096 blocks and 32,768 records, and each block lies within these
pub record Blocks (bounds recs : List ℕ) : Type 0 where
  pub few : length bounds / 2 ≤ 4096
  pub short : length recs ≤ 16 * 32768
  pub inside : (b : ℕ) → b < length bounds / 2 → 16 * get_or bounds (2 * b + 1) 0 ≤ length recs
  pub order : (b : ℕ) → b < length bounds / 2 → get_or bounds (2 * b) 0 ≤ get_or bounds (2 * b + 1) 0

-- and the kinds are known, and each successor is a block
pub record Graph (bounds recs pairs targets : List ℕ) : Type 0 where
  pub tables : Tables pairs targets
  pub blocks : Blocks bounds recs
  pub known : (p : ℕ) → 16 * p + 16 ≤ length recs → Known recs p
  pub next : (b j : ℕ) → b < length bounds / 2 → j < length (succs (drawn bounds recs [] pairs targets) b)
      → get_or (succs (drawn bounds recs [] pairs targets) b) j 0 < length bounds / 2
