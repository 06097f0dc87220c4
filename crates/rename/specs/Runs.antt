-- 01, "The move": the walk along the chain and through the target, with the names that hold at each position. Assumes nothing.
use Rattle.std.specs.Prelude.{◌≡◌, Bool, true, false, cond, not, ◌&&◌, List, map, ℕ, zero, suc, ◌+◌, ◌-◌, ◌*◌, ◌≤◌, ◌<◌, eqb, get_or, length, take, drop, Option}
use Rattle.words.specs.Lists.{mem, range, upto, filter}
use Rattle.model.specs.Picture.{inst, absent, writes}
use Rattle.model.specs.Move.{Job, made_all, appended, changes, own_jobs}
use Rattle.inst.specs.Record.{Known}
use Rattle.inst.specs.Index.{reg_of}
use Rattle.inst.specs.declared.index.Reg.{Reg}
use Rattle.pool.specs.Pool.{mark_at, wrote_at, new_at}
use Rattle.rename.specs.Names.{part, named, reg_or, pick, job, Remade}

-- ---- what acceptance gives of a record, with R registers and u operands in use

pub record Line (R u : ℕ) (xs : List ℕ) (q : ℕ) : Type 0 where
  pub known : Known xs q
  pub few_regs : R ≤ absent
  pub slots_ok : (s : ℕ) → s < 5 → (get_or xs (16 * q + 2 + s) 0 ≡ absent → ⊥) → get_or xs (16 * q + 2 + s) 0 < R
  pub list_ok : get_or xs (16 * q + 7) 0 + get_or xs (16 * q + 8) 0 ≤ u

-- and of the operands
pub record Operands (R u : ℕ) (ops : List ℕ) : Type 0 where
  pub lent : u ≤ length ops
  pub few : length ops < 4294967296
  pub each : (k : ℕ) → k < u → get_or ops k 0 < R

-- ---- records made anew one after the other

-- those at the places ps were made anew as the jobs js say, in order, and their lists appended behind o₀ operands: o are in use then
pub record Run (o₀ : ℕ) (ps : List ℕ) (js : List Job) (xs ys ops ops' : List ℕ) (o : ℕ) : Type 0 where
  pub size : length ys ≡ length xs
  pub within : (q : ℕ) → mem q ps ≡ true → 16 * q + 16 ≤ length xs
  pub made_are : map (inst ys) ps ≡ made_all ops o₀ js
  pub others : (q k : ℕ) → mem q ps ≡ false → k < 16 → get_or ys (16 * q + k) 0 ≡ get_or xs (16 * q + k) 0
  pub ops_size : length ops' ≡ length ops
  pub count : o ≡ o₀ + length (appended ops js)
  pub ops_front : take o₀ ops' ≡ take o₀ ops
  pub ops_more : part o₀ (o - o₀) ops' ≡ appended ops js
  pub ops_back : drop o ops' ≡ drop o ops

-- ---- along the chain

-- the names after record q at position p: what a kept one writes keeps its name; the register that a member wrote has a new one
abbrev pub next_name : List ℕ → List ℕ → ℕ → ℕ → (ℕ → ℕ) → ℕ → ℕ
next_name w xs q p rd r =
    cond (eqb (mark_at w p) 0) (pick (mem r (writes (inst xs q))) r (rd r))
    (cond (not (eqb (wrote_at w p) absent) && eqb r (wrote_at w p)) (reg_or (new_at w p) r) (rd r))

-- after the first p positions of the block that starts at lo
unfoldable pub rd_after : (ℕ → ℕ) → List ℕ → List ℕ → ℕ → ℕ → ℕ → ℕ
rd_after rd w xs lo zero r = rd r
rd_after rd w xs lo (suc p) r = next_name w xs (lo + p) p (rd_after rd w xs lo p) r

-- and after k more from position a on, all kept: word 0 of a position says which record it is
unfoldable pub rd_rest : (ℕ → ℕ) → List ℕ → List ℕ → ℕ → ℕ → ℕ → ℕ
rd_rest rd w xs a zero r = rd r
rd_rest rd w xs a (suc k) r = pick (mem r (writes (inst xs (get_or w (10 * (a + k)) 0)))) r (rd_rest rd w xs a k r)

-- does this mark say that its position goes?
abbrev pub marked : ℕ → Bool
marked m = not (eqb m 0)

abbrev pub goes : List ℕ → ℕ → Bool
goes w p = marked (mark_at w p)

-- the members among the first p positions: where they stand, and what becomes of them
abbrev pub gone_places : List ℕ → ℕ → ℕ → List ℕ
gone_places w lo p = map (λ q. lo + q) (filter (goes w) (upto p))

abbrev pub gone_job : (ℕ → ℕ) → List ℕ → List ℕ → ℕ → ℕ → Job
gone_job rd w xs lo p = record { old = inst xs (lo + p); rd = rd_after rd w xs lo p; wr = reg_or (new_at w p) }

abbrev pub gone_jobs : (ℕ → ℕ) → List ℕ → List ℕ → ℕ → ℕ → List Job
gone_jobs rd w xs lo p = map (gone_job rd w xs lo) (filter (goes w) (upto p))

-- ---- one position

-- what its words say, of count registers
pub record Parted (w : List ℕ) (p count mark : ℕ) (def : Option Reg) (new : ℕ) : Type 0 where
  pub mark_is : mark ≡ mark_at w p
  pub goes_is : marked mark ≡ goes w p
  pub def_is : def ≡ reg_of (wrote_at w p) count
  pub new_is : new ≡ new_at w p

pub record Pass (q u o : ℕ) (ws : List ℕ) (gone : Bool) (d nw : ℕ) (xs ops : List ℕ) : Type 0 where
  pub line : Line (length ws) u xs q
  pub operands : Operands (length ws) u ops
  pub used : u ≤ o
  pub lent : o ≤ length ops
  pub wrote_ok : (d ≡ absent → ⊥) → d < length ws
  pub room : gone ≡ true → changes ops (job (inst xs q) ws nw) ≡ true → o + get_or xs (16 * q + 8) 0 ≤ length ops

pub record Passed (q o : ℕ) (gone : Bool) (d nw : ℕ) (ws vs xs ys ops ops' : List ℕ) (r : ℕ) : Type 0 where
  pub size : length ys ≡ length xs
  pub ops_size : length ops' ≡ length ops
  pub names_size : length vs ≡ length ws
  pub kept : gone ≡ false → (ys ≡ xs) × (ops' ≡ ops) × (r ≡ o) × ((y : ℕ) → named vs y ≡ pick (mem y (writes (inst xs q))) y (named ws y))
  pub moved : gone ≡ true → Remade q o ws nw xs ys ops ops' r × ((y : ℕ) → named vs y ≡ cond (not (eqb d absent) && eqb y d) (reg_or nw y) (named ws y))

-- ---- all m positions of the block that starts at lo

pub record AskX (u lo m : ℕ) (ws xs ops w : List ℕ) : Type 0 where
  pub lines : (p : ℕ) → p < m → Line (length ws) u xs (lo + p)
  pub operands : Operands (length ws) u ops
  pub words : 10 * m ≤ length w
  pub fits : lo + m ≤ length xs
  pub wrote_ok : (p : ℕ) → p < m → (wrote_at w p ≡ absent → ⊥) → wrote_at w p < length ws
  pub room : u + length (appended ops (gone_jobs (named ws) w xs lo m)) ≤ length ops

pub record PassedX (u lo m : ℕ) (ws vs xs ys ops ops' w : List ℕ) (r : ℕ) : Type 0 where
  pub run : Run u (gone_places w lo m) (gone_jobs (named ws) w xs lo m) xs ys ops ops' r
  pub names_size : length vs ≡ length ws
  pub names : (y : ℕ) → named vs y ≡ rd_after (named ws) w xs lo m y

-- ---- the positions a to e of the rest of the chain

pub record AskRest (u a e : ℕ) (ws xs w : List ℕ) : Type 0 where
  pub order : a ≤ e
  pub words : 10 * e ≤ length w
  pub lines : (p : ℕ) → a ≤ p → p < e → Line (length ws) u xs (get_or w (10 * p) 0)

pub record PassedRest (a k : ℕ) (ws vs xs w : List ℕ) : Type 0 where
  pub names_size : length vs ≡ length ws
  pub names : (y : ℕ) → named vs y ≡ rd_rest (named ws) w xs a k y

-- ---- the target's own code, records a to e

abbrev pub target_jobs : (ℕ → ℕ) → List ℕ → ℕ → ℕ → List Job
target_jobs rd xs a e = own_jobs rd (map (inst xs) (range a (e - a)))

pub record Owned (q o : ℕ) (ws vs xs ys ops ops' : List ℕ) (r : ℕ) : Type 0 where
  pub remade : Remade q o ws absent xs ys ops ops' r
  pub size : length vs ≡ length ws
  pub names : (y : ℕ) → named vs y ≡ pick (mem y (writes (inst xs q))) y (named ws y)

pub record AskOwn (u o a e : ℕ) (ws xs ops : List ℕ) : Type 0 where
  pub order : a ≤ e
  pub fits : e ≤ length xs
  pub lines : (q : ℕ) → a ≤ q → q < e → Line (length ws) u xs q
  pub operands : Operands (length ws) u ops
  pub used : u ≤ o
  pub room : o + length (appended ops (target_jobs (named ws) xs a e)) ≤ length ops
