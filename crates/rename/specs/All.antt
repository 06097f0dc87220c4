-- 01, "The move": the whole walk. Assumes nothing.
use Rattle.std.specs.Prelude.{◌≡◌, List, ◌++◌, ℕ, ◌+◌, ◌-◌, ◌*◌, ◌≤◌, ◌<◌, get_or, length}
use Rattle.words.specs.Lists.{range}
use Rattle.model.specs.Picture.{absent}
use Rattle.model.specs.Move.{Job}
use Rattle.pool.specs.Pool.{wrote_at}
use Rattle.rename.specs.Runs.{Line, Operands, rd_after, rd_rest, gone_places, gone_jobs, target_jobs}

-- the names in the target before it writes anything: x's m positions, then the chain's others, from none at first
abbrev pub all_rd : List ℕ → List ℕ → ℕ → ℕ → ℕ → ℕ → ℕ
all_rd w xs lo m n = rd_rest (rd_after (λ r. r) w xs lo m) w xs m (n - m)

-- what becomes of the members, and then of the target's own records; and where they stand
abbrev pub all_jobs : List ℕ → List ℕ → ℕ → ℕ → ℕ → ℕ → ℕ → List Job
all_jobs w xs lo m n a e = gone_jobs (λ r. r) w xs lo m ++ target_jobs (all_rd w xs lo m n) xs a e

abbrev pub all_places : List ℕ → ℕ → ℕ → ℕ → ℕ → List ℕ
all_places w lo m a e = gone_places w lo m ++ range a (e - a)

-- what is asked: R names; x's first m positions stand from lo on, the chain has n, and the target's records are a to e
pub record AskAll (u lo m n a e R : ℕ) (xs ops w : List ℕ) : Type 0 where
  pub operands : Operands R u ops
  pub words : 10 * n ≤ length w
  pub chain : m ≤ n
  pub few : m ≤ 65536
  pub x_fits : lo + m ≤ length xs
  pub x_lines : (p : ℕ) → p < m → Line R u xs (lo + p)
  pub wrote_ok : (p : ℕ) → p < m → (wrote_at w p ≡ absent → ⊥) → wrote_at w p < R
  pub rest_lines : (p : ℕ) → m ≤ p → p < n → Line R u xs (get_or w (10 * p) 0)
  pub rest_apart : (p : ℕ) → m ≤ p → p < n → lo ≤ get_or w (10 * p) 0 → lo + m ≤ get_or w (10 * p) 0
  pub order : a ≤ e
  pub few_records : e ≤ 65536
  pub target_fits : e ≤ length xs
  pub target_lines : (q : ℕ) → a ≤ q → q < e → Line R u xs q
  pub target_apart : (q : ℕ) → a ≤ q → q < e → lo ≤ q → lo + m ≤ q
