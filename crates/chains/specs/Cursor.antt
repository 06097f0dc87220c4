-- The positions of a chain one by one: what is left of them from a place on. Assumes nothing.
use Rattle.std.specs.Prelude.{List, ◌++◌, ℕ, ◌+◌, ◌-◌, ◌≤◌, ◌<◌, get_or, drop}
use Rattle.words.specs.Lists.{range}
use Rattle.model.specs.Picture.{Picture}
use Rattle.model.specs.Move.{chain_places}
use Rattle.chains.specs.declared.chain.Chain.{Chain}
use Rattle.chains.specs.declared.cursor.Cursor.{Cursor}
use Rattle.chains.specs.Chain.{blocks_of}
use Rattle.chains.specs.Places.{end_past}

-- the records from g up to past, and the positions of the blocks behind block k
unfoldable pub left_of : Picture → List ℕ → ℕ → ℕ → ℕ → List ℕ
left_of P bs k g past = range g (past - g) ++ chain_places P (drop (k + 1) bs)

-- these are records of block k
pub record Inside (bounds : List ℕ) (c : Chain) (k g past : ℕ) : Type 0 where
  pub block : k < c.count
  pub order : g ≤ past
  pub fits : past ≤ end_past bounds (get_or (blocks_of c) k 0)

-- so does a cursor stand; where there are none, no block is behind it
pub record Standing (bounds : List ℕ) (c : Chain) (x : Cursor) : Type 0 where
  pub inside : Inside bounds c x.k x.g x.past
  pub ended : x.past ≤ x.g → c.count ≤ x.k + 1
