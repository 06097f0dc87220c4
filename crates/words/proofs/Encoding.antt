-- Laws of 32-bit words in bytes: one is the inverse of the other, and what the loops that read and write words leave. Assumes nothing.
use mathlib.Core.Path.{◌≡◌, refl, sym, ap, ap₂, ◌∙◌}
use mathlib.Core.List.{List, [], ◌∷◌, ◌++◌}
use Prim.Native.Nat.{ℕ, zero, suc, ◌+◌, ◌*◌, ◌/◌, ◌%◌, ◌^◌, ◌≤◌, ◌<◌}
use native.Mathlib.Nat.{mod-eq_of_lt}
use native.Mathlib.Numerals.{add-one}
use native.Mathlib.Omega.{arith}
use lib.Pow.{shr-shr}
use lib.ListN.{length, take, drop, get_or, set, length-drop}
use lib.Seq.{sets, length-take-le, take-add, take-suc, get_or-drop, take_at}
use Rattle.words.specs.Bytes.{word_of, word, words_of, bytes_of}
use Rattle.words.proofs.Copying.{sets_append, set_behind, back_sets, sets_all}

-- ---- lists

pub bytes_append : (xs ys : List ℕ) → bytes_of (xs ++ ys) ≡ bytes_of xs ++ bytes_of ys
unfolding bytes_of
bytes_append [] ys = refl
bytes_append (w ∷ xs) ys = ap (λ (l : List ℕ). w % 256 ∷ w / 256 % 256 ∷ w / 65536 % 256 ∷ w / 16777216 % 256 ∷ l) (bytes_append xs ys)

pub length_bytes : (ws : List ℕ) → length (bytes_of ws) ≡ 4 * length ws
unfolding bytes_of
length_bytes [] = refl
length_bytes (w ∷ ws) = omega (arith, length_bytes ws)

pub words_append : (n : ℕ) (xs ys : List ℕ) → length xs ≡ 4 * n → words_of (xs ++ ys) ≡ words_of xs ++ words_of ys
unfolding words_of
words_append n [] ys e = refl
words_append n (a ∷ []) ys e = absurd (omega arith)
words_append n (a ∷ b ∷ []) ys e = absurd (omega arith)
words_append n (a ∷ b ∷ c ∷ []) ys e = absurd (omega arith)
words_append zero (a ∷ b ∷ c ∷ d ∷ xs) ys e = absurd (omega arith)
words_append (suc n) (a ∷ b ∷ c ∷ d ∷ xs) ys e = ap (λ (l : List ℕ). word_of a b c d ∷ l) (words_append n xs ys (omega arith))

pub length_words : (n : ℕ) (bs : List ℕ) → length bs ≡ 4 * n → length (words_of bs) ≡ n
unfolding words_of
length_words zero [] e = refl
length_words (suc n) [] e = absurd (omega arith)
length_words n (a ∷ []) e = absurd (omega arith)
length_words n (a ∷ b ∷ []) e = absurd (omega arith)
length_words n (a ∷ b ∷ c ∷ []) e = absurd (omega arith)
length_words zero (a ∷ b ∷ c ∷ d ∷ bs) e = absurd (omega arith)
length_words (suc n) (a ∷ b ∷ c ∷ d ∷ bs) e = ap suc (length_words n bs (omega arith))

-- ---- there and back

pub words_bytes : (ws : List ℕ) → ((i : ℕ) → get_or ws i 0 < 2 ^ 32) → words_of (bytes_of ws) ≡ ws
unfolding words_of bytes_of
words_bytes [] h = refl
words_bytes (w ∷ ws) h = ap₂ (λ (x : ℕ) (l : List ℕ). x ∷ l) (same w (h 0)) (words_bytes ws (λ i. h (suc i)))
  where
    digits : (w x y z : ℕ) → w / 256 ≡ x → x / 256 ≡ y → y / 256 ≡ z → z < 256 → word_of (w % 256) (x % 256) (y % 256) (z % 256) ≡ w
    digits w x y z p q r h = omega arith

    same : (w : ℕ) → w < 2 ^ 32 → word_of (w % 256) (w / 256 % 256) (w / 65536 % 256) (w / 16777216 % 256) ≡ w
    same w h = digits w (w / 256) (w / 65536) (w / 16777216) refl (shr-shr w 8 8) (shr-shr w 16 8) (omega arith)

pub bytes_words : (n : ℕ) (bs : List ℕ) → length bs ≡ 4 * n → ((i : ℕ) → get_or bs i 0 < 256) → bytes_of (words_of bs) ≡ bs
unfolding words_of bytes_of
bytes_words n [] e h = refl
bytes_words n (a ∷ []) e h = absurd (omega arith)
bytes_words n (a ∷ b ∷ []) e h = absurd (omega arith)
bytes_words n (a ∷ b ∷ c ∷ []) e h = absurd (omega arith)
bytes_words zero (a ∷ b ∷ c ∷ d ∷ bs) e h = absurd (omega arith)
bytes_words (suc n) (a ∷ b ∷ c ∷ d ∷ bs) e h =
    let w : ℕ = word_of a b c d in
    let y : ℕ = c + 256 * d in
    let x : ℕ = b + 256 * y in
    let t : w ≡ a + 256 * x = omega arith in
    let p : w % 256 ≡ a = ap (λ (k : ℕ). k % 256) t ∙ low a x (h 0) in
    let q : w / 256 ≡ x = ap (λ (k : ℕ). k / 256) t ∙ high a x (h 0) in
    let r : w / 65536 ≡ y = sym (shr-shr w 8 8) ∙ ap (λ (k : ℕ). k / 256) q ∙ high b y (h 1) in
    let s : w / 16777216 ≡ d = sym (shr-shr w 16 8) ∙ ap (λ (k : ℕ). k / 256) r ∙ high c d (h 2) in
    rw (p, q, r, s, low b y (h 1), low c d (h 2), mod-eq_of_lt (h 3)) (ap (λ (l : List ℕ). a ∷ b ∷ c ∷ d ∷ l) (bytes_words n bs (omega arith) (λ i. h (suc (suc (suc (suc i)))))))
  where
    low : (x y : ℕ) → x < 256 → (x + 256 * y) % 256 ≡ x
    low x y h = omega arith

    high : (x y : ℕ) → x < 256 → (x + 256 * y) / 256 ≡ y
    high x y h = omega arith

-- ---- one word

pub word_drop : (bs : List ℕ) (at k : ℕ) → word (drop at bs) k ≡ word bs (at + k)
word_drop bs at k =
    let one : at + (k + 1) ≡ at + k + 1 = omega arith in
    let two : at + (k + 2) ≡ at + k + 2 = omega arith in
    let three : at + (k + 3) ≡ at + k + 3 = omega arith in
    simp get_or-drop (rw (one, two, three))

first_word : (bs : List ℕ) → 4 ≤ length bs → words_of (take 4 bs) ≡ word bs 0 ∷ []
unfolding words_of
first_word [] h = absurd (omega arith)
first_word (a ∷ []) h = absurd (omega arith)
first_word (a ∷ b ∷ []) h = absurd (omega arith)
first_word (a ∷ b ∷ c ∷ []) h = absurd (omega arith)
first_word (a ∷ b ∷ c ∷ d ∷ bs) h = refl

-- one more word
pub words_more : (bs : List ℕ) (i : ℕ) → 4 * (i + 1) ≤ length bs → words_of (take (4 * (i + 1)) bs) ≡ words_of (take (4 * i) bs) ++ (word bs (4 * i) ∷ [])
words_more bs i h =
    let e : 4 * (i + 1) ≡ 4 * i + 4 = omega arith in
    let z : 4 * i + 0 ≡ 4 * i = omega arith in
    rw (e, take-add) (words_append i (take (4 * i) bs) (take 4 (drop (4 * i) bs)) (length-take-le (4 * i) bs (omega arith))
    ∙ ap (λ (l : List ℕ). words_of (take (4 * i) bs) ++ l)
    (first_word (drop (4 * i) bs) (simp length-drop (omega arith)) ∙ ap (λ (w : ℕ). w ∷ []) (word_drop bs (4 * i) 0 ∙ ap (word bs) z)))

-- ---- loops

-- `get_words`: one word more
pub get_more : (bs xs ys : List ℕ) (at i : ℕ) → at + 4 * (i + 1) ≤ length bs → ys ≡ sets xs 0 (words_of (take (4 * i) (drop at bs)))
    → set ys i (word bs (at + 4 * i)) ≡ sets xs 0 (words_of (take (4 * (i + 1)) (drop at bs)))
get_more bs xs ys at i h e =
    let l : List ℕ = drop at bs in
    let long : 4 * (i + 1) ≤ length l = simp length-drop (omega arith) in
    let n : length (words_of (take (4 * i) l)) ≡ i = length_words i (take (4 * i) l) (length-take-le (4 * i) l (omega arith)) in
    let m : 0 + length (words_of (take (4 * i) l)) ≡ i = omega arith in
    ap₂ (λ (k w : ℕ). set ys k w) (sym m) (sym (word_drop bs at (4 * i)))
    ∙ ap (λ (t : List ℕ). set t (0 + length (words_of (take (4 * i) l))) (word l (4 * i))) e
    ∙ set_behind xs 0 (words_of (take (4 * i) l)) (word l (4 * i)) ∙ ap (sets xs 0) (sym (words_more l i long))

pub get_all : (bs xs : List ℕ) (at : ℕ) → at + 4 * length xs ≤ length bs
    → sets xs 0 (words_of (take (4 * length xs) (drop at bs))) ≡ words_of (take (4 * length xs) (drop at bs))
get_all bs xs at h =
    sets_all xs (words_of (take (4 * length xs) (drop at bs)))
    (length_words (length xs) (take (4 * length xs) (drop at bs)) (length-take-le (4 * length xs) (drop at bs) (simp length-drop (omega arith))))

-- `put_words`: one word more
pub put_more : (bs ys ws : List ℕ) (at i : ℕ) → i < length ws → ys ≡ sets bs at (bytes_of (take i ws))
    → sets ys (at + 4 * i) (bytes_of (get_or ws i 0 ∷ [])) ≡ sets bs at (bytes_of (take (i + 1) ws))
put_more bs ys ws at i h e =
    let n : length (bytes_of (take i ws)) ≡ 4 * i = length_bytes (take i ws) ∙ ap (λ (k : ℕ). 4 * k) (length-take-le i ws (omega arith)) in
    rw e (ap (λ (k : ℕ). sets (sets bs at (bytes_of (take i ws))) (at + k) (bytes_of (get_or ws i 0 ∷ []))) (sym n)
    ∙ sym (sets_append bs at (bytes_of (take i ws)) (bytes_of (get_or ws i 0 ∷ [])))
    ∙ ap (sets bs at) (sym (bytes_append (take i ws) (get_or ws i 0 ∷ [])) ∙ ap bytes_of (sym (take-suc ws i 0 h) ∙ ap (λ (k : ℕ). take k ws) (sym (add-one i)))))

-- what was written is read again
pub put_get : (bs ws : List ℕ) (at : ℕ) → at + 4 * length ws ≤ length bs → ((i : ℕ) → get_or ws i 0 < 2 ^ 32)
    → words_of (take (4 * length ws) (drop at (sets bs at (bytes_of ws)))) ≡ ws
put_get bs ws at h small =
    let n : length (bytes_of ws) ≡ 4 * length ws = length_bytes ws in
    ap words_of (ap (take (4 * length ws)) (back_sets bs at (bytes_of ws) (omega arith)) ∙ take_at (bytes_of ws) (drop (at + length (bytes_of ws)) bs) (4 * length ws) n)
    ∙ words_bytes ws small
