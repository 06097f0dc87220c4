-- What `model` says of the graph of a whole picture is what it says of the picture drawn from the lists that matter.
-- Assumes nothing.
use mathlib.Core.Path.{◌≡◌, refl, ap, ◌∙◌}
use mathlib.Core.Bool.{false}
use mathlib.Core.List.{List, [], ◌++◌, map}
use Prim.Native.Nat.{ℕ, ◌<◌}
use Rattle.words.specs.Lists.{upto, mem, iterate, member}
use Rattle.words.proofs.Lists.{map_ext}
use Rattle.words.proofs.Members.{filter_on}
use Rattle.model.specs.Picture.{Picture, End, goes, parts, cases, stops, nblocks, code, ending, end_succs, succs, from_start, callers}
use Rattle.model.specs.Live.{Node, node, live_at, live_in, read_first, written}
use Rattle.cfg.specs.Drawn.{drawn}
use Rattle.flow.specs.Live.{Live, Wrote, Rows}
use Rattle.cfg.proofs.Successors.{end_same}

pub succs_ops : (bounds recs ops ops' pairs targets : List ℕ) (b : ℕ)
    → succs (drawn bounds recs ops pairs targets) b ≡ succs (drawn bounds recs ops' pairs targets) b
succs_ops bounds recs ops ops' pairs targets b =
    end_same bounds bounds recs recs ops ops' pairs targets (ending (drawn bounds recs ops pairs targets) b)

-- the rows of a block do not hang on the tables
pub rows_tables : (bounds recs ops pairs targets : List ℕ) (w b : ℕ) (bits : List ℕ)
    → Rows (drawn bounds recs ops [] []) w b bits → Rows (drawn bounds recs ops pairs targets) w b bits
rows_tables bounds recs ops pairs targets w b bits l = record { first = l.first; wrote = l.wrote }

module _ (P : Picture) where
  abbrev Q : List ℕ → Picture
  Q ops = drawn P.bounds P.recs ops P.pairs P.targets

  end_whole : (ops : List ℕ) (e : End) → end_succs (Q ops) e ≡ end_succs P e
  end_whole ops (goes t) = refl
  end_whole ops (parts t f) = refl
  end_whole ops (cases t) = refl
  end_whole ops stops = refl

  pub succs_whole : (ops : List ℕ) (b : ℕ) → succs (Q ops) b ≡ succs P b
  succs_whole ops b = end_whole ops (ending P b)

  pub callers_whole : (ops : List ℕ) (b : ℕ) → callers (Q ops) b ≡ callers P b
  callers_whole ops b =
      ap (λ (l : List ℕ). from_start (nblocks P) b ++ l)
      (filter_on (λ c. mem b (succs (Q ops) c)) (λ c. mem b (succs P c)) (upto (nblocks P)) (λ c i. ap (mem b) (succs_whole ops c)))

  node_whole : (r b : ℕ) → node (Q P.ops) r b ≡ node P r b
  node_whole r b =
      ap (λ (l : List ℕ). record { gen = read_first P.ops r (code P b); kill = written r (code P b); next = l }) (succs_whole P.ops b)

  pub live_in-whole : (b r : ℕ) → live_in (Q P.ops) b r ≡ live_in P b r
  live_in-whole b r =
      ap (λ (ns : List Node). member (iterate (λ S. map (live_at S) ns) (nblocks P) (map (λ n. false) ns)) b)
      (map_ext (node (Q P.ops) r) (node P r) (node_whole r) (upto (nblocks P)))

  -- so rows of the one are rows of the other
  pub live-rows_whole : (w : ℕ) (bits : List ℕ) → Live (Q P.ops) w bits → Live P w bits
  live-rows_whole w bits l = record { row = λ b r h i. l.row b r h i ∙ live_in-whole b r }

  pub rows_whole : (pairs targets : List ℕ) (w b : ℕ) (bits : List ℕ) → Rows (drawn P.bounds P.recs P.ops pairs targets) w b bits → Rows P w b bits
  rows_whole pairs targets w b bits l = record { first = l.first; wrote = l.wrote }

  pub rows_drawn : (pairs targets : List ℕ) (w b : ℕ) (bits : List ℕ) → Rows P w b bits → Rows (drawn P.bounds P.recs P.ops pairs targets) w b bits
  rows_drawn pairs targets w b bits l = record { first = l.first; wrote = l.wrote }

  -- the rows of all blocks
  pub wrote_rows : (w : ℕ) (bits : List ℕ) → ((b : ℕ) → b < nblocks P → Rows P w b bits) → Wrote P w bits
  wrote_rows w bits l = record { row = λ b r h i. (l b h).wrote r i }
