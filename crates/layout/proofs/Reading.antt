-- Laws of a picture in bytes: words by number, parts of the words, what the sizes give, and the cases of `readable`. Assumes nothing.
use mathlib.Core.Logic.{⊎_elim}
use mathlib.Core.Path.{◌≡◌, refl, sym, ap, ◌∙◌}
use mathlib.Core.Bool.{Bool, true, false, ◌&&◌, false≢true}
use mathlib.Core.List.{List, [], ◌∷◌, ◌++◌, append-nil}
use Prim.Native.Nat.{ℕ, zero, suc, ◌+◌, ◌-◌, ◌*◌, ◌≤◌, ◌<◌, min}
use native.Mathlib.Omega.{arith}
use borrow.Author.Tests.{leb-true, eqb-true}
use lib.Dec.{eqb, leb}
use lib.ListN.{length, get_or, take, drop, replicate, length-drop, length-take, length-append, length-replicate}
use lib.Seq.{length-take-le, take_all, take-take, take-append-le}
use Rattle.words.specs.Bytes.{word_of, word, words_of}
use Rattle.words.proofs.Bools.{lt?}
use Rattle.words.proofs.Encoding.{word_drop, length_words}
use Rattle.layout.specs.declared.Counts.{Counts}
use Rattle.layout.specs.Layout.{held, within, at_end, readable, part, padded, room}

-- ---- words

pub word_number : (bs : List ℕ) (i : ℕ) → 4 * i + 4 ≤ length bs → word bs (4 * i) ≡ get_or (words_of bs) i 0
unfolding words_of
word_number [] i h = absurd (omega arith)
word_number (a ∷ []) i h = absurd (omega arith)
word_number (a ∷ b ∷ []) i h = absurd (omega arith)
word_number (a ∷ b ∷ c ∷ []) i h = absurd (omega arith)
word_number (a ∷ b ∷ c ∷ d ∷ bs) zero h = refl
word_number (a ∷ b ∷ c ∷ d ∷ bs) (suc i) h =
    let e : 4 * suc i ≡ 4 + 4 * i = omega arith in
    ap (word (a ∷ b ∷ c ∷ d ∷ bs)) e ∙ sym (word_drop (a ∷ b ∷ c ∷ d ∷ bs) 4 (4 * i)) ∙ word_number bs i (omega arith)

pub drop_words : (n : ℕ) (bs : List ℕ) → 4 * n ≤ length bs → words_of (drop (4 * n) bs) ≡ drop n (words_of bs)
unfolding words_of
drop_words zero bs h = refl
drop_words (suc n) [] h = absurd (omega arith)
drop_words (suc n) (a ∷ []) h = absurd (omega arith)
drop_words (suc n) (a ∷ b ∷ []) h = absurd (omega arith)
drop_words (suc n) (a ∷ b ∷ c ∷ []) h = absurd (omega arith)
drop_words (suc n) (a ∷ b ∷ c ∷ d ∷ bs) h =
    let e : 4 * suc n ≡ suc (suc (suc (suc (4 * n)))) = omega arith in
    ap (λ (k : ℕ). words_of (drop k (a ∷ b ∷ c ∷ d ∷ bs))) e ∙ drop_words n bs (omega arith)

pub take_words : (n : ℕ) (bs : List ℕ) → 4 * n ≤ length bs → words_of (take (4 * n) bs) ≡ take n (words_of bs)
unfolding words_of
take_words zero bs h = refl
take_words (suc n) [] h = absurd (omega arith)
take_words (suc n) (a ∷ []) h = absurd (omega arith)
take_words (suc n) (a ∷ b ∷ []) h = absurd (omega arith)
take_words (suc n) (a ∷ b ∷ c ∷ []) h = absurd (omega arith)
take_words (suc n) (a ∷ b ∷ c ∷ d ∷ bs) h =
    let e : 4 * suc n ≡ suc (suc (suc (suc (4 * n)))) = omega arith in
    ap (λ (k : ℕ). words_of (take k (a ∷ b ∷ c ∷ d ∷ bs))) e ∙ ap (λ (l : List ℕ). word_of a b c d ∷ l) (take_words n bs (omega arith))

pub part_words : (bs : List ℕ) (at n : ℕ) → 4 * at + 4 * n ≤ length bs → words_of (take (4 * n) (drop (4 * at) bs)) ≡ part (words_of bs) at n
part_words bs at n h = take_words n (drop (4 * at) bs) (simp length-drop (omega arith)) ∙ ap (take n) (drop_words at bs (omega arith))

pub words_reach : (bs : List ℕ) (n : ℕ) → 4 * n ≤ length bs → n ≤ length (words_of bs)
words_reach bs n h =
    let e : length (take n (words_of bs)) ≡ n = ap length (sym (take_words n bs h)) ∙ length_words n (take (4 * n) bs) (length-take-le (4 * n) bs h) in
    omega (arith, length-take n (words_of bs))

-- ---- counts

-- what `within` says
pub record Sizes (c : Counts) : Type 0 where
  pub blocks_fit : c.blocks ≤ 64
  pub insts_fit : c.insts ≤ 512
  pub registers_fit : c.registers ≤ 512
  pub operands_fit : c.operands ≤ 2048
  pub pairs_fit : c.pairs ≤ 256
  pub targets_fit : c.targets ≤ 1024
  pub replay_fit : c.replay ≤ 64
  pub vias_fit : c.vias ≤ 512

pub sizes : (c : Counts) → within c ≡ true → Sizes c
sizes c = go (leb c.blocks 64) (leb c.insts 512) (leb c.registers 512) (leb c.operands 2048) (leb c.pairs 256) (leb c.targets 1024) (leb c.replay 64) (leb c.vias 512)
    refl refl refl refl refl refl refl refl
  where
    go : (s t u v w x y z : Bool) → leb c.blocks 64 ≡ s → leb c.insts 512 ≡ t → leb c.registers 512 ≡ u → leb c.operands 2048 ≡ v
        → leb c.pairs 256 ≡ w → leb c.targets 1024 ≡ x → leb c.replay 64 ≡ y → leb c.vias 512 ≡ z → s && t && u && v && w && x && y && z ≡ true → Sizes c
    go true true true true true true true true a b d e f g h i q =
        record {
          blocks_fit = leb-true _ _ a;
          insts_fit = leb-true _ _ b;
          registers_fit = leb-true _ _ d;
          operands_fit = leb-true _ _ e;
          pairs_fit = leb-true _ _ f;
          targets_fit = leb-true _ _ g;
          replay_fit = leb-true _ _ h;
          vias_fit = leb-true _ _ i;
        }
    go false t u v w x y z a b d e f g h i q = absurd (false≢true q)
    go true false u v w x y z a b d e f g h i q = absurd (false≢true q)
    go true true false v w x y z a b d e f g h i q = absurd (false≢true q)
    go true true true false w x y z a b d e f g h i q = absurd (false≢true q)
    go true true true true false x y z a b d e f g h i q = absurd (false≢true q)
    go true true true true true false y z a b d e f g h i q = absurd (false≢true q)
    go true true true true true true false z a b d e f g h i q = absurd (false≢true q)
    go true true true true true true true false a b d e f g h i q = absurd (false≢true q)

-- ---- `readable`

-- what it says of the bytes
pub record Whole (bs : List ℕ) : Type 0 where
  pub long : 32 ≤ length bs
  pub sized : within (held bs) ≡ true
  pub ends : length bs ≡ 4 * at_end (held bs)

pub whole : (bs : List ℕ) → readable bs ≡ true → Whole bs
whole bs = go (leb 32 (length bs)) (within (held bs)) (eqb (length bs) (4 * at_end (held bs))) refl refl refl
  where
    go : (a b c : Bool) → leb 32 (length bs) ≡ a → within (held bs) ≡ b → eqb (length bs) (4 * at_end (held bs)) ≡ c → a && b && c ≡ true → Whole bs
    go true true true e f g q = record { long = leb-true _ _ e; sized = f; ends = eqb-true _ _ g }
    go false b c e f g q = let z : ◌≡◌ {A = ℕ} 0 1 = cc in absurd (omega arith)
    go true false c e f g q = let z : ◌≡◌ {A = ℕ} 0 1 = cc in absurd (omega arith)
    go true true false e f g q = let z : ◌≡◌ {A = ℕ} 0 1 = cc in absurd (omega arith)

-- ---- `room`

abbrev zeros : ℕ → List ℕ
zeros n = replicate n 0

-- what is as long as the room is all of it
pub room_all : (n : ℕ) (xs : List ℕ) → length xs ≡ n → room n xs ≡ xs
room_all n xs e = take-append-le n xs (zeros (n - length xs)) (omega arith) ∙ take_all n xs (omega arith)

zeros_front : (n m : ℕ) → n ≤ m → take n (zeros m) ≡ zeros n
zeros_front zero m h = refl
zeros_front (suc n) zero h = absurd (omega arith)
zeros_front (suc n) (suc m) h = ap (λ (l : List ℕ). 0 ∷ l) (zeros_front n m (omega arith))

front : (n m : ℕ) (xs : List ℕ) → n ≤ m → take n (padded m xs) ≡ room n xs
front n m [] h = let j : m - 0 ≡ m = omega arith in let k : n - 0 ≡ n = omega arith in rw (j, k) (zeros_front n m h ∙ sym (zeros_front n n (omega arith)))
front zero m (x ∷ xs) h = refl
front (suc n) zero (x ∷ xs) h = absurd (omega arith)
front (suc n) (suc m) (x ∷ xs) h =
    let j : suc m - suc (length xs) ≡ m - length xs = omega arith in
    let k : suc n - suc (length xs) ≡ n - length xs = omega arith in
    rw (j, k) (ap (λ (l : List ℕ). x ∷ l) (front n m xs (omega arith)))

-- the front of a room
pub room_front : (n m : ℕ) (xs : List ℕ) → n ≤ m → take n (room m xs) ≡ room n xs
room_front n m xs h = take-take n m (padded m xs) h ∙ front n m xs h

-- as many words of a part as there is room for, then zeros
pub room_is : (ws : List ℕ) (at n l : ℕ) → at + n ≤ length ws → part ws at (min n l) ++ zeros (l - min n l) ≡ room l (part ws at n)
room_is ws at n l h = ⊎_elim less more (lt? l n)
  where
    long : length (part ws at n) ≡ n
    long = simp (length-take, length-drop) (omega arith)

    less : l < n → part ws at (min n l) ++ zeros (l - min n l) ≡ room l (part ws at n)
    less k =
        let z : min n l ≡ l = omega arith in
        let e : l - l ≡ 0 = omega arith in
        rw (z, e) (append-nil (part ws at l) ∙ sym (take-append-le l (part ws at n) (zeros (l - length (part ws at n))) (omega (arith, long)) ∙ take-take l n (drop at ws) (omega arith)))

    more : n ≤ l → part ws at (min n l) ++ zeros (l - min n l) ≡ room l (part ws at n)
    more k =
        let z : min n l ≡ n = omega arith in
        rw (z, long) (sym (take_all l (part ws at n ++ zeros (l - n)) (simp (length-append, length-replicate) (omega (arith, long)))))
