-- Sweeps that start from what is read first end at the least solution. Assumes nothing.
use mathlib.Core.Path.{◌≡◌, sym, ◌∙◌, subst}
use mathlib.Core.Bool.{Bool, false}
use mathlib.Core.List.{List}
use Prim.Native.Nat.{ℕ, ◌-◌, ◌*◌, ◌/◌, ◌≤◌, ◌<◌, min}
use native.Mathlib.Nat.{le_trans}
use native.Mathlib.Omega.{arith}
use lib.ListN.{length, drop}
use Rattle.flow.specs.Progress.{cell, Among, Edges, Progress, Solved}

-- what holds between sweeps: all of `Solved`, but for `closed`
pub record Between (n w : ℕ) (succ : ℕ → List ℕ) (l m : List ℕ) : Type 0 where
  pub size : length m ≡ length l
  pub rest : drop (n * w) m ≡ drop (n * w) l
  pub grow : (b q : ℕ) → q < 64 * w → cell l w b q ≤ cell m w b q
  pub below : (q : ℕ) → q < 64 * w → (y : ℕ → ℕ)
      → ((b s : ℕ) → b < n → Among (succ b) (length (succ b)) s → min (y s) (1 - cell (drop (n * w) l) w b q) ≤ y b)
      → ((b : ℕ) → b < n → cell l w b q ≤ y b) → (b : ℕ) → b < n → cell m w b q ≤ y b

module _ {n w : ℕ} {succ : ℕ → List ℕ} {l m k : List ℕ} {r : Bool} (s : Between n w succ l m) (p : Progress n w (drop (n * w) m) (Edges n w succ) m k r) where
  pub after_sweep : Between n w succ l k
  after_sweep = record {
    size = p.size ∙ s.size;
    rest = p.rest ∙ s.rest;
    grow = λ b q h. le_trans (s.grow b q h) (p.grow b q h);
    below = λ q h y up le.
        p.below q h y (λ b x d. subst (λ (ds : List ℕ). min (y x) (1 - cell ds w b q) ≤ y b) (sym s.rest) (up b x d.0 d.1)) (s.below q h y up le);
  }

  -- and after one that changed nothing, all of it
  pub solved : r ≡ false → Solved n w succ l k
  solved t = record {
    size = after_sweep.size;
    rest = after_sweep.rest;
    grow = after_sweep.grow;
    closed = λ b x q hb d h. subst (λ (y : List ℕ). min (cell y w x q) (1 - cell (drop (n * w) l) w b q) ≤ cell k w b q) (sym (p.same t))
        (subst (λ (ds : List ℕ). min (cell m w x q) (1 - cell ds w b q) ≤ cell k w b q) s.rest (p.fresh b x q (hb, d, word q h) h));
    below = after_sweep.below;
  }
    where
      word : (q : ℕ) → q < 64 * w → q / 64 < w
      word q h = omega arith
