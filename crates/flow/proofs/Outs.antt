-- The rows of listed blocks put together: the loop, and its bits. Assumes nothing.
use mathlib.Core.Path.{◌≡◌, sym, ap, ◌∙◌}
use mathlib.Core.Bool.{◌||◌}
use mathlib.Core.List.{List, [], ◌∷◌}
use Prim.Native.Nat.{ℕ, ◌+◌, ◌*◌, ◌/◌, ◌%◌, ◌≤◌, ◌<◌, max}
use native.Mathlib.Numerals.{add-one}
use native.Mathlib.Omega.{arith}
use lib.Bits.{bit_or}
use lib.ListN.{length, get_or, drop, drop_of_length-le}
use lib.Seq.{drop-cons}
use Rattle.words.specs.Bits.{digit, is_in}
use Rattle.words.specs.Lists.{any, hit}
use Rattle.words.proofs.Bools.{hit_or}
use Rattle.words.proofs.Digits.{digit_or}
use Rattle.flow.specs.Progress.{cell}
use Rattle.flow.specs.Live.{gathered}
use Rattle.flow.proofs.Firsts.{at}
use Rattle.flow.proofs.Least.{cell_is}

-- ---- the loop over the list

pub gathered_more : (bits : List ℕ) (w i x : ℕ) (ss : List ℕ) (j s : ℕ) → s ≡ get_or ss j 0 → j < length ss
    → gathered bits w i (bit_or x (get_or bits (s * w + i) 0)) (drop (j + 1) ss) ≡ gathered bits w i x (drop j ss)
unfolding gathered
gathered_more bits w i x ss j s e h =
    ap (λ (y : ℕ). gathered bits w i (bit_or x (get_or bits (y * w + i) 0)) (drop (j + 1) ss)) e
    ∙ sym (ap (gathered bits w i x) (drop-cons ss j 0 h ∙ ap (λ (k : ℕ). get_or ss j 0 ∷ drop k ss) (sym (add-one j))))

pub gathered_end : (bits : List ℕ) (w i x : ℕ) (ss : List ℕ) (j : ℕ) → length ss ≤ j → gathered bits w i x (drop j ss) ≡ x
unfolding gathered
gathered_end bits w i x ss j h = ap (gathered bits w i x) (drop_of_length-le ss h)

-- ---- its bits

pub gathered_bit : (bits : List ℕ) (w r x : ℕ) (ss : List ℕ)
    → digit (gathered bits w (r / 64) x ss) (r % 64) ≡ max (digit x (r % 64)) (hit (any (λ s. is_in bits (at w s r)) ss))
unfolding gathered cell
gathered_bit bits w r x [] = omega arith
gathered_bit bits w r x (s ∷ ss) =
    let e : digit (get_or bits (s * w + r / 64) 0) (r % 64) ≡ hit (is_in bits (at w s r)) = cell_is bits w s r in
    let f : hit (is_in bits (at w s r) || any (λ s. is_in bits (at w s r)) ss) ≡ max (hit (is_in bits (at w s r))) (hit (any (λ s. is_in bits (at w s r)) ss)) = hit_or (is_in bits (at w s r)) (any (λ s. is_in bits (at w s r)) ss) in
    gathered_bit bits w r (bit_or x (get_or bits (s * w + r / 64) 0)) ss ∙ omega (arith, digit_or x (get_or bits (s * w + r / 64) 0) (r % 64))
