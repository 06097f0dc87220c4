-- The lines of the rounds, six words each. Assumes nothing.
use mathlib.Core.Path.{◌≡◌, sym, ap, ◌∙◌}
use mathlib.Core.List.{List, ◌++◌}
use Prim.Native.Nat.{ℕ, suc, ◌+◌, ◌-◌, ◌*◌, ◌<◌}
use native.Mathlib.Omega.{arith}
use lib.ListN.{length, take, drop, replicate}
use lib.Seq.{drop-drop, length-sets}
use Rattle.words.proofs.Copying.{front_sets, drop_sets}
use Rattle.model.specs.Pass.{most_rounds}
use Rattle.oneround.specs.declared.weigh.Line.{Line}
use Rattle.rounds.specs.State.{line_words, with_line}

-- six zeros fewer
fewer_zeros : (n k : ℕ) → n ≡ suc (suc (suc (suc (suc (suc k))))) → drop {A = ℕ} 6 (replicate n 0) ≡ replicate k 0
fewer_zeros n k e = ap (λ (m : ℕ). drop {A = ℕ} 6 (replicate m 0)) e

-- the lines with one more: those so far, and zeros behind
module _ (i : ℕ) (l : Line) (lines : List ℕ) (few : i < most_rounds) (long : length lines ≡ 48) where
  pub long_still : length (with_line i l lines) ≡ 48
  long_still = length-sets lines (6 * i) (line_words (i + 1) l) ∙ long

  pub one_more : take (6 * (i + 1)) (with_line i l lines) ≡ take (6 * i) lines ++ line_words (i + 1) l
  one_more = let e : 6 * (i + 1) ≡ 6 * i + 6 = omega arith in rw e (front_sets lines (6 * i) (line_words (i + 1) l) (omega arith))

  pub zero_still : drop (6 * i) lines ≡ replicate (48 - 6 * i) 0 → drop (6 * (i + 1)) (with_line i l lines) ≡ replicate (48 - 6 * (i + 1)) 0
  zero_still z =
      let e : 6 * (i + 1) ≡ 6 * i + 6 = omega arith in
      drop_sets (6 * (i + 1)) lines (6 * i) (line_words (i + 1) l) (omega arith)
      ∙ ap (λ (n : ℕ). drop n lines) e
      ∙ sym (drop-drop 6 (6 * i) lines)
      ∙ ap (drop 6) z
      ∙ fewer_zeros (48 - 6 * i) (48 - 6 * (i + 1)) (omega arith)
