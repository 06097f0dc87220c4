-- 01, "The move": what the move asks, in plain words, what the lent words stand for, and what holds after it: `model`'s `apply`.
-- Assumes nothing.
use Rattle.std.specs.Prelude.{◌≡◌, Bool, false, List, ℕ, ◌+◌, ◌-◌, ◌*◌, ◌/◌, ◌≤◌, ◌<◌, get_or, length, take}
use Rattle.words.specs.Lists.{lookup}
use Rattle.model.specs.Picture.{Picture, inst, absent, writes, starts}
use Rattle.model.specs.Refusal.{gaps}
use Rattle.model.specs.Analyse.{Fact}
use Rattle.model.specs.Legal.{fact_at}
use Rattle.model.specs.Move.{Plan, fresh, apply, appended}
use Rattle.pool.specs.Pool.{last_at, wrote_at, new_at, reg_or, typed}
use Rattle.pool.specs.Plan.{Marked, read_there}
use Rattle.rename.specs.Runs.{Line, Operands}
use Rattle.rename.specs.All.{all_jobs}

-- ---- the picture and the plan that the lent words stand for

-- what is lent besides: the case pairs and targets and the replay list, which the move does not touch
pub record Rest : Type 0 where
  pub pairs : List ℕ
  pub targets : List ℕ
  pub replay : List ℕ

abbrev pub picture : List ℕ → List ℕ → List ℕ → List ℕ → List ℕ → ℕ → List ℕ → ℕ → Rest → Picture
picture bounds recs locs vias types R ops u rest =
    record { bounds = bounds; recs = recs; locs = locs; vias = vias; types = types; regs = R; ops = ops; opers = u; pairs = rest.pairs; targets = rest.targets; replay = rest.replay }

abbrev pub plan : ℕ → ℕ → List Fact → List Bool → Plan
plan x t run set = record { x = x; into = t; run = run; set = set }

-- the chain's work words, ten a position, say what the plan says of its first m positions; of all n, word 0 says which record it is
pub record Stands (P : Picture) (a : Plan) (m n : ℕ) (w : List ℕ) : Type 0 where
  pub long : length a.run ≡ n
  pub marked : Marked a.run (read_there P a) a.set w m
  pub defs : (p : ℕ) → p < n → (fact_at a.run p).defs ≡ writes (inst P.recs (get_or w (10 * p) 0))
  pub x_recs : (p : ℕ) → p < m → get_or w (10 * p) 0 ≡ starts P a.x + p

-- and word 9 is the new register
pub record Given (P : Picture) (a : Plan) (m : ℕ) (w : List ℕ) : Type 0 where
  pub types_are : (fresh P a).types ≡ typed P.types w m (take P.regs P.types)
  pub regs_are : (p x : ℕ) → p < m → lookup (fresh P a).given p x ≡ reg_or (new_at w p) x

-- ---- what is asked: N instructions, R registers and u operands in use, K names; x and t are the two blocks

pub record Asks (x t m n R u K N : ℕ) (bounds recs types ops w : List ℕ) : Type 0 where
  pub laid : gaps 0 N bounds ≡ false
  pub x_in : x < length bounds / 2
  pub t_in : t < length bounds / 2
  pub apart : x ≡ t → ⊥
  pub some : 0 < m
  pub inside : m ≤ get_or bounds (2 * x + 1) 0 - get_or bounds (2 * x) 0
  pub few : m ≤ 800
  pub chain : m ≤ n
  pub words : 10 * n ≤ length w
  pub whole : length recs ≡ 16 * N
  pub few_insts : N ≤ 32768
  pub names : R ≤ K
  pub few_names : K ≤ absent
  pub regs : R ≤ length types
  pub few_types : length types ≤ 65536
  pub types_ok : (d : ℕ) → d < R → get_or types d 0 < 8
  pub until_ok : (p : ℕ) → p < m → last_at w p < 4096
  pub wrote_ok : (p : ℕ) → p < m → (wrote_at w p ≡ absent → ⊥) → wrote_at w p < R
  pub lines : (q : ℕ) → q < N → Line R u recs q
  pub operands : Operands R u ops
  pub rest_in : (p : ℕ) → m ≤ p → p < n → get_or w (10 * p) 0 < N
  pub rest_apart : (p : ℕ) → m ≤ p → p < n → get_or bounds (2 * x) 0 ≤ get_or w (10 * p) 0 → get_or bounds (2 * x) 0 + m ≤ get_or w (10 * p) 0

-- the operands in use after
abbrev pub opers_after : ℕ → ℕ → ℕ → ℕ → ℕ → List ℕ → List ℕ → List ℕ → List ℕ → ℕ
opers_after x t m n u bounds recs ops w = u + length (appended ops (all_jobs w recs (get_or bounds (2 * x) 0) m n (get_or bounds (2 * t) 0) (get_or bounds (2 * t + 1) 0)))

-- ---- what was counted: from the words w to v, which differ in the new registers alone

pub record Counted (x t m n R u : ℕ) (bounds recs types ops w v : List ℕ) (regs opers : ℕ) : Type 0 where
  pub size : length v ≡ length w
  pub keeps : (q k : ℕ) → k < 9 → get_or v (10 * q + k) 0 ≡ get_or w (10 * q + k) 0
  pub none_new : (p : ℕ) → p < m → wrote_at v p ≡ absent → new_at v p ≡ absent
  pub regs_is : regs ≡ length (typed types v m (take R types))
  pub opers_is : opers ≡ opers_after x t m n u bounds recs ops v
  -- for every plan that the words stand for: these are the counts after the move
  pub counts : (locs vias : List ℕ) (rest : Rest) (run : List Fact) (set : List Bool) → Stands (picture bounds recs locs vias types R ops u rest) (plan x t run set) m n w
      → Stands (picture bounds recs locs vias types R ops u rest) (plan x t run set) m n v
      × Given (picture bounds recs locs vias types R ops u rest) (plan x t run set) m v
      × (regs ≡ (apply (picture bounds recs locs vias types R ops u rest) (plan x t run set)).regs)
      × (opers ≡ (apply (picture bounds recs locs vias types R ops u rest) (plan x t run set)).opers)

-- ---- what was written: the contents are those of the picture Q

pub record Fits (x t m n R u : ℕ) (bounds recs types ops w : List ℕ) : Type 0 where
  pub none_new : (p : ℕ) → p < m → wrote_at w p ≡ absent → new_at w p ≡ absent
  pub regs : length (typed types w m (take R types)) ≤ length types
  pub opers : opers_after x t m n u bounds recs ops w ≤ length ops

pub record Holds (Q : Picture) (bounds recs locs vias types ops : List ℕ) : Type 0 where
  pub bounds_are : bounds ≡ Q.bounds
  pub recs_are : recs ≡ Q.recs
  pub locs_are : locs ≡ Q.locs
  pub vias_are : vias ≡ Q.vias
  pub types_are : types ≡ Q.types
  pub ops_are : ops ≡ Q.ops

-- vias are one each or none at all
pub record Vias (locs vias : List ℕ) : Type 0 where
  pub each_or_none : (length vias ≡ 0 → ⊥) → length vias ≡ length locs
