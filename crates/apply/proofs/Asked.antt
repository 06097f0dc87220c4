-- What the parts of the move ask, from what the move asks. Assumes nothing.
use mathlib.Core.Path.{◌≡◌, sym, ap₂, ◌∙◌, subst}
use mathlib.Core.Logic.{⊎_elim}
use mathlib.Core.Bool.{Bool, not}
use mathlib.Core.List.{List, []}
use Prim.Native.Nat.{ℕ, ◌+◌, ◌*◌, ◌≤◌, ◌<◌}
use native.Mathlib.Omega.{arith}
use lib.ListN.{get_or, length}
use Rattle.words.specs.Lists.{upto, filter}
use Rattle.words.proofs.Bools.{lt?}
use Rattle.words.proofs.Lists.{length_range}
use Rattle.words.proofs.Sums.{sum_split, sum_ones}
use Rattle.model.specs.Picture.{absent}
use Rattle.pool.specs.Pool.{Ready}
use Rattle.pool.specs.Types.{TypesFit}
use Rattle.rename.specs.Runs.{Line, Operands}
use Rattle.rename.specs.All.{AskAll}
use Rattle.mover.specs.Order.{Lines, goes}
use Rattle.mover.specs.Spans.{ShiftAsk}
use Rattle.mover.proofs.Laying.{bounds_rise, bounds_low}
use Rattle.mover.proofs.Bounded.{shift_ask}
use Rattle.apply.specs.Apply.{Asks, Fits, Vias, picture}

line_up : {R K u q : ℕ} {xs : List ℕ} → R ≤ K → K ≤ absent → Line R u xs q → Line K u xs q
line_up h few l = record { known = l.known; few_regs = few; slots_ok = λ s a b. let c = l.slots_ok s a b in omega arith; list_ok = l.list_ok }

operands_up : {R K u : ℕ} {ops : List ℕ} → R ≤ K → Operands R u ops → Operands K u ops
operands_up h o = record { lent = o.lent; few = o.few; each = λ k l. let c = o.each k l in omega arith }

-- those that a test takes, and the others
pub taken-and_left : (f : ℕ → Bool) (n : ℕ) → length (filter (λ p. not (f p)) (upto n)) + length (filter f (upto n)) ≡ n
taken-and_left f n =
    sym (ap₂ ◌+◌ (sum_ones (filter (λ p. not (f p)) (upto n))) (sum_ones (filter f (upto n)))) ∙ sum_split (λ x. 1) f (upto n) ∙ sum_ones (upto n) ∙ length_range 0 n

module _ {x t m n R u K N : ℕ} {bounds recs types ops w : List ℕ} (k : Asks x t m n R u K N bounds recs types ops w) where
  abbrev lo : ℕ
  lo = get_or bounds (2 * x) 0

  abbrev a : ℕ
  a = get_or bounds (2 * t) 0

  abbrev e : ℕ
  e = get_or bounds (2 * t + 1) 0

  pub x_words : 2 * x + 1 < length bounds
  x_words = let h = k.x_in in omega arith

  pub t_words : 2 * t + 1 < length bounds
  t_words = let h = k.t_in in omega arith

  pub x_end : lo + m ≤ get_or bounds (2 * x + 1) 0
  x_end = let r = bounds_rise 0 N bounds k.laid (2 * x) (2 * x + 1) (omega arith) x_words in let i = k.inside in omega arith

  pub x_fits : lo + m ≤ N
  x_fits = let b = (bounds_low 0 N bounds k.laid (2 * x + 1) x_words).1 in let c = x_end in omega arith

  pub t_order : a ≤ e
  t_order = bounds_rise 0 N bounds k.laid (2 * t) (2 * t + 1) (omega arith) t_words

  pub t_fits : e ≤ N
  t_fits = (bounds_low 0 N bounds k.laid (2 * t + 1) t_words).1

  -- the two blocks lie apart
  pub later : x < t → lo + m ≤ a
  later h = let r = bounds_rise 0 N bounds k.laid (2 * x + 1) (2 * t) (omega arith) (let q = t_words in omega arith) in let c = x_end in omega arith

  pub earlier : t < x → e ≤ lo
  earlier h = bounds_rise 0 N bounds k.laid (2 * t + 1) (2 * x) (omega arith) (let q = x_words in omega arith)

  pub blocks_apart : (q : ℕ) → a ≤ q → q < e → lo ≤ q → lo + m ≤ q
  blocks_apart q g h l =
      ⊎_elim (λ b. let c = later b in omega arith) (λ b. let ne : x ≡ t → ⊥ = k.apart in let c = earlier (omega arith) in omega arith) (lt? x t)

  -- ---- new registers and their types

  pub ready : Ready R m types w
  ready = record {
    regs = k.regs;
    few_regs = let f = k.few_types in let g = k.regs in omega arith;
    few = k.few;
    size = let f = k.words in let g = k.chain in omega arith;
    types_ok = k.types_ok;
    until_ok = k.until_ok;
    wrote_ok = k.wrote_ok;
  }

  pub types_fit : Fits x t m n R u bounds recs types ops w → TypesFit R m types w
  types_fit f = record {
    regs = k.regs;
    size = let a = k.words in let b = k.chain in omega arith;
    wrote_ok = λ p h l. k.wrote_ok p h (λ z. let q = f.none_new p h z in omega arith);
    small = let a = k.few_types in omega arith;
    fit = f.regs;
  }

  -- ---- renaming

  pub ask_all : AskAll u lo m n a e K recs ops w
  ask_all = record {
    operands = operands_up k.names k.operands;
    words = k.words;
    chain = k.chain;
    few = let f = k.few in omega arith;
    x_fits = let f = x_fits in let h = k.whole in omega arith;
    x_lines = λ p h. line_up k.names k.few_names (k.lines (lo + p) (let f = x_fits in omega arith));
    wrote_ok = λ p h z. let b = k.wrote_ok p h z in let c = k.names in omega arith;
    rest_lines = λ p g h. line_up k.names k.few_names (k.lines (get_or w (10 * p) 0) (k.rest_in p g h));
    rest_apart = k.rest_apart;
    order = t_order;
    few_records = let f = t_fits in let g = k.few_insts in omega arith;
    target_fits = let f = t_fits in let h = k.whole in omega arith;
    target_lines = λ q g h. line_up k.names k.few_names (k.lines q (let f = t_fits in omega arith));
    target_apart = blocks_apart;
  }

  -- ---- the move

  pub move_ask : (recs' locs vias : List ℕ) → N ≡ length locs → Vias locs vias → length recs' ≡ length recs → Lines lo m a w recs' locs vias
  move_ask recs' locs vias e v s = record {
    inside = let f = x_fits in omega arith;
    target = let f = t_fits in let g = t_order in omega arith;
    apart = λ h. ⊎_elim (λ b. later b) (λ b. let ne : x ≡ t → ⊥ = k.apart in let c = earlier (omega arith) in let d = t_order in absurd (omega arith)) (lt? x t);
    few = k.few;
    words = let a = k.words in let b = k.chain in omega arith;
    whole = let h = k.whole in omega arith;
    each_or_none = v.each_or_none;
  }

  -- by the bounds that were read
  pub move_at : {lo' a' : ℕ} (recs' locs vias : List ℕ) → N ≡ length locs → Vias locs vias → length recs' ≡ length recs → lo' ≡ lo → a' ≡ a → Lines lo' m a' w recs' locs vias
  move_at {lo'} {a'} recs' locs vias e v s el ea =
      subst (λ (z : ℕ). Lines z m a' w recs' locs vias) (sym el) (subst (λ (z : ℕ). Lines lo m z w recs' locs vias) (sym ea) (move_ask recs' locs vias e v s))

  pub gone_few : length (filter (goes w) (upto m)) ≤ m
  gone_few = let s = taken-and_left (goes w) m in omega arith

  pub bounds_ask : ShiftAsk x t (length (filter (goes w) (upto m))) bounds
  bounds_ask =
      shift_ask (picture bounds [] [] [] [] 0 [] 0 (record { pairs = []; targets = []; replay = [] })) N k.laid x t (length (filter (goes w) (upto m))) k.x_in k.t_in k.apart
      (let g = gone_few in let i = k.inside in omega arith) (let g = gone_few in let f = k.few in let h = k.few_insts in omega arith)

  pub bounds_at : {c : ℕ} → c ≡ length (filter (goes w) (upto m)) → ShiftAsk x t c bounds
  bounds_at e = subst (λ (z : ℕ). ShiftAsk x t z bounds) (sym e) bounds_ask
