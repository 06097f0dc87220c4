-- What the parts of `learn`, `put_facts` and `put_uses` ensure: registers' words copied, a position's last use, and its words for the
-- move. Assumes nothing.
use Rattle.std.specs.Prelude.{◌≡◌, cond, List, map, ℕ, ◌+◌, ◌*◌, ◌≤◌, ◌<◌, get_or, length, take, drop, set}
use Rattle.words.specs.Lists.{all}
use Rattle.analyse.specs.State.{plain}
use Rattle.model.specs.Picture.{inst, writes}
use Rattle.inst.specs.Record.{Known}
use Rattle.effects.specs.Origin.{num}
use Rattle.facts.specs.declared.Fact.{Fact}
use Rattle.facts.specs.Marks.{no_fact}
use Rattle.regfacts.specs.Written.{Fits}
use Rattle.summary.specs.Passes.{result_test}

-- r words from a on can be copied to word 8,000 on
pub record Copying (from : List ℕ) (a r : ℕ) (into : List ℕ) : Type 0 where
  pub there : a + r ≤ length from
  pub room : 8000 + r ≤ length into

-- their last writers and flags were, and nothing else was written
pub record Copied (from : List ℕ) (a r : ℕ) (before after : List ℕ) : Type 0 where
  pub size : length after ≡ length before
  pub part : take r (drop 8000 after) ≡ map plain (take r (drop a from))
  pub below : take 8000 after ≡ take 8000 before
  pub behind : drop (8000 + r) after ≡ drop (8000 + r) before

-- each position stands for itself
pub record Own (ls : List ℕ) : Type 0 where
  pub size : length ls ≡ 800
  pub each : (p : ℕ) → p < 800 → get_or ls p 0 ≡ p

-- position p's words 0, 6 and 8 by its fact: record, mark, register written
unfoldable pub put_fact : List ℕ → ℕ → Fact → List ℕ
put_fact w p f = set (set (set w (10 * p) f.rec) (10 * p + 6) (num f.member)) (10 * p + 8) f.def

-- so were those of the first p positions
pub record Facts (fs : List Fact) (before after : List ℕ) (p : ℕ) : Type 0 where
  pub size : length after ≡ length before
  pub rec : (q : ℕ) → q < p → get_or after (10 * q) 0 ≡ (get_or fs q no_fact).rec
  pub mark : (q : ℕ) → q < p → get_or after (10 * q + 6) 0 ≡ num (get_or fs q no_fact).member
  pub wrote : (q : ℕ) → q < p → get_or after (10 * q + 8) 0 ≡ (get_or fs q no_fact).def
  pub rest : (i : ℕ) → 10 * p ≤ i → get_or after i 0 ≡ get_or before i 0

-- the last use of position p, record g, by its last reader: n if the target reads what it writes, by the row from word o of bits on
abbrev pub use_of : List ℕ → List ℕ → List ℕ → ℕ → List ℕ → ℕ → ℕ → ℕ → ℕ
use_of recs regs bits o lasts n g p = cond (all (result_test regs bits o p) (writes (inst recs g))) (get_or lasts p 0) n

-- word 0 of each of n positions is the number of a record that writes registers of these words; a row from word o of bits on
pub record UseAsked (recs regs bits words : List ℕ) (o n : ℕ) : Type 0 where
  pub few : n ≤ 800
  pub known : (p : ℕ) → p < n → Known recs (get_or words (10 * p) 0)
  pub fits : (p : ℕ) → p < n → Fits recs (length regs) (get_or words (10 * p) 0)
  pub room : 8000 ≤ length words
  pub row : o ≤ length bits

-- word 7 of the first p positions is their last use, and nothing else was written
pub record Lasting (recs lasts regs bits before after : List ℕ) (o n p : ℕ) : Type 0 where
  pub size : length after ≡ length before
  pub last : (q : ℕ) → q < p → get_or after (10 * q + 7) 0 ≡ use_of recs regs bits o lasts n (get_or before (10 * q) 0) q
  pub others : (q j : ℕ) → j < 10 → (j ≡ 7 → ⊥) → get_or after (10 * q + j) 0 ≡ get_or before (10 * q + j) 0
  pub rest : (i : ℕ) → 10 * p ≤ i → get_or after i 0 ≡ get_or before i 0
