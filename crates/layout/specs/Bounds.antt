-- 01, "Port order and sizes": the program's sizes as rows. Each count is taken at its bound and not one past it, in the bytes too.
-- Assumes nothing.
use Rattle.std.specs.Prelude.{◌≡◌, refl, true, false, List, [], ◌∷◌, ◌++◌, map, ℕ, zero, suc, ◌-◌, ◌*◌, get_or, replicate}
use Rattle.words.specs.Lists.{upto}
use Rattle.words.specs.Bytes.{words_of, bytes_of}
use Rattle.layout.specs.Layout.{counts, within, at_end, readable}

-- 64 blocks, 512 instructions, 512 registers, 2,048 operands, 256 pair words, 1,024 target words, 64 replay words, 512 via words
abbrev pub most : List ℕ
most = 64 ∷ 512 ∷ 512 ∷ 2048 ∷ 256 ∷ 1024 ∷ 64 ∷ 512 ∷ []

-- one more at place k
abbrev pub more_at : ℕ → List ℕ → List ℕ
more_at k [] = []
more_at zero (x ∷ xs) = suc x ∷ xs
more_at (suc k) (x ∷ xs) = x ∷ more_at k xs

-- all eight at their bounds
pub at_most : within (counts most) ≡ true
at_most = refl

-- one of them one past it
pub one_past : map (λ k. within (counts (more_at k most))) (upto 8) ≡ replicate 8 false
one_past = refl

-- the largest picture: "at least 53,024 result bytes"
pub largest : 4 * at_end (counts most) ≡ 53024
largest = refl

-- ---- the same in bytes

-- these counts, then n bytes
abbrev pub then_zeros : List ℕ → ℕ → List ℕ
then_zeros ws n = bytes_of ws ++ replicate n 0

-- as many bytes as these counts say
abbrev pub whole : List ℕ → List ℕ
whole ws = then_zeros ws (4 * at_end (counts ws) - 32)

-- all counts 0 but for n at place k
abbrev pub alone : ℕ → ℕ → List ℕ
alone k n = replicate k 0 ++ n ∷ replicate (7 - k) 0

-- each count at its bound, the others 0; and one past it
pub read : map (λ k. readable (whole (alone k (get_or most k 0)))) (upto 8) ≡ replicate 8 true
unfolding bytes_of words_of
read = refl

pub unread : map (λ k. readable (whole (alone k (suc (get_or most k 0))))) (upto 8) ≡ replicate 8 false
unfolding bytes_of words_of
unread = refl

-- the largest picture has 53,024 bytes, not one less and not one more
pub full : map (λ n. readable (then_zeros most n)) (52991 ∷ 52992 ∷ 52993 ∷ []) ≡ false ∷ true ∷ false ∷ []
unfolding bytes_of words_of
full = refl

-- counts cut short
pub cut : map (λ n. readable (replicate n 0)) (0 ∷ 28 ∷ 31 ∷ 32 ∷ 33 ∷ []) ≡ false ∷ false ∷ false ∷ true ∷ false ∷ []
unfolding words_of
cut = refl
