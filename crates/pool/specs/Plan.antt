-- 01, "The move": the chain's work words stand for the plan. Assumes nothing.
use Rattle.std.specs.Prelude.{◌≡◌, Bool, true, false, not, List, map, ℕ, ◌≤◌, ◌<◌, eqb, get_or}
use Rattle.words.specs.Lists.{upto, member}
use Rattle.model.specs.Picture.{Picture}
use Rattle.model.specs.Live.{live_in}
use Rattle.model.specs.Analyse.{Fact}
use Rattle.model.specs.Legal.{fact_at}
use Rattle.model.specs.Move.{Plan, last_use}
use Rattle.pool.specs.Pool.{mark_at, last_at, wrote_at, regs_of}

-- does the target read a register
abbrev pub read_there : Picture → Plan → ℕ → Bool
read_there P a r = let there : List Bool = map (live_in P a.into) (upto P.regs) in get_or there r false

-- the words of m positions say what the facts and the set say: a mark that is not 0 where the position is a member; of a member,
-- its last use and the register it writes, or absent
pub record Marked (run : List Fact) (there : ℕ → Bool) (S : List Bool) (w : List ℕ) (m : ℕ) : Type 0 where
  pub marks : (p : ℕ) → p < m → eqb (mark_at w p) 0 ≡ not (member S p)
  pub lasts : (p : ℕ) → p < m → member S p ≡ true → last_at w p ≡ last_use run there p
  pub wrotes : (p : ℕ) → p < m → member S p ≡ true → regs_of (wrote_at w p) ≡ (fact_at run p).defs
  pub outside : (p : ℕ) → m ≤ p → member S p ≡ false
