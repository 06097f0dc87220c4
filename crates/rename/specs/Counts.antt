-- 01, "The move": counting what the walk would append. Assumes nothing.
use Rattle.std.specs.Prelude.{◌≡◌, Bool, true, false, cond, not, ◌&&◌, List, ℕ, ◌+◌, ◌*◌, ◌≤◌, ◌<◌, eqb, length}
use Rattle.words.specs.Lists.{mem}
use Rattle.model.specs.Picture.{inst, absent, writes}
use Rattle.model.specs.Move.{appended, more_of}
use Rattle.pool.specs.Pool.{wrote_at}
use Rattle.rename.specs.Names.{named, reg_or, pick, job}
use Rattle.rename.specs.Runs.{Line, Operands, rd_after, gone_jobs}

-- what is asked of a record
pub record CountAsk (q u : ℕ) (ws xs ops : List ℕ) : Type 0 where
  pub line : Line (length ws) u xs q
  pub operands : Operands (length ws) u ops

-- record q of x, whether it goes or stays
pub record Counted (q : ℕ) (gone : Bool) (d nw : ℕ) (ws vs xs ops : List ℕ) (r : ℕ) : Type 0 where
  pub names_size : length vs ≡ length ws
  pub small : r ≤ 4294967295
  pub kept : gone ≡ false → (r ≡ 0) × ((y : ℕ) → named vs y ≡ pick (mem y (writes (inst xs q))) y (named ws y))
  pub moved : gone ≡ true → (r ≡ length (more_of ops (job (inst xs q) ws nw))) × ((y : ℕ) → named vs y ≡ cond (not (eqb d absent) && eqb y d) (reg_or nw y) (named ws y))

pub record CountX (u lo m : ℕ) (ws xs ops w : List ℕ) : Type 0 where
  pub lines : (p : ℕ) → p < m → Line (length ws) u xs (lo + p)
  pub operands : Operands (length ws) u ops
  pub words : 10 * m ≤ length w
  pub fits : lo + m ≤ length xs
  pub few : m ≤ 65536
  pub wrote_ok : (p : ℕ) → p < m → (wrote_at w p ≡ absent → ⊥) → wrote_at w p < length ws

pub record CountedX (lo m : ℕ) (ws vs xs ops w : List ℕ) (r : ℕ) : Type 0 where
  pub count : r ≡ length (appended ops (gone_jobs (named ws) w xs lo m))
  pub small : r ≤ 4294967295 * m
  pub names_size : length vs ≡ length ws
  pub names : (y : ℕ) → named vs y ≡ rd_after (named ws) w xs lo m y

-- record q of the target
pub record CountedOwn (q : ℕ) (ws vs xs ops : List ℕ) (r : ℕ) : Type 0 where
  pub names_size : length vs ≡ length ws
  pub small : r ≤ 4294967295
  pub count : r ≡ length (more_of ops (job (inst xs q) ws absent))
  pub names : (y : ℕ) → named vs y ≡ pick (mem y (writes (inst xs q))) y (named ws y)

pub record CountOwn (u a e : ℕ) (ws xs ops : List ℕ) : Type 0 where
  pub order : a ≤ e
  pub few : e ≤ 65536
  pub lines : (q : ℕ) → a ≤ q → q < e → Line (length ws) u xs q
  pub operands : Operands (length ws) u ops
