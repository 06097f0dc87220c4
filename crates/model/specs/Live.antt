-- 01, "A round": live_in, the least solution of: read before written, or live into a successor and not written.
-- One register at a time: the set of blocks that it is live into grows from none, as many times as there are blocks.
-- Assumes nothing.
use Rattle.std.specs.Prelude.{Bool, false, not, ◌&&◌, ◌||◌, List, [], ◌∷◌, map, ℕ}
use Rattle.words.specs.Lists.{upto, any, mem, iterate, member}
use Rattle.model.specs.Picture.{Picture, Inst, nblocks, code, succs, reads, writes}

-- is r read before it is written; is it written
abbrev pub read_first : List ℕ → ℕ → List Inst → Bool
read_first ops r [] = false
read_first ops r (i ∷ is) = mem r (reads ops i) || (not (mem r (writes i)) && read_first ops r is)

abbrev pub written : ℕ → List Inst → Bool
written r is = any (λ i. mem r (writes i)) is

-- what a block does to one register, and where it goes
pub record Node : Type 0 where
  pub gen : Bool
  pub kill : Bool
  pub next : List ℕ

abbrev pub node : Picture → ℕ → ℕ → Node
node P r b = record { gen = read_first P.ops r (code P b); kill = written r (code P b); next = succs P b }

-- is r live into a block, if S are the blocks that it is live into
abbrev pub live_at : List Bool → Node → Bool
live_at S n = n.gen || (not n.kill && any (member S) n.next)

-- the blocks that r is live into: from none, each step adds what the last one shows
abbrev pub live : Picture → ℕ → List Bool
live P r =
    let ns : List Node = map (node P r) (upto (nblocks P)) in
    iterate (λ S. map (live_at S) ns) (nblocks P) (map (λ n. false) ns)

abbrev pub live_in : Picture → ℕ → ℕ → Bool
live_in P b r = member (live P r) b

abbrev pub live_out : Picture → ℕ → ℕ → Bool
live_out P b r = any (λ s. live_in P s r) (succs P b)
