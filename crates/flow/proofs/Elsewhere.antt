-- The row of registers needed elsewhere, word by word, and that it is `model`'s `needed`. Assumes nothing.
use mathlib.Core.Path.{◌≡◌, sym, ap, ap₂, ◌∙◌, subst}
use mathlib.Core.Logic.{⊎_elim}
use mathlib.Core.Bool.{Bool, not, ◌&&◌, ◌||◌}
use mathlib.Core.List.{List, [], ◌++◌}
use Prim.Native.Nat.{ℕ, ◌+◌, ◌-◌, ◌*◌, ◌/◌, ◌%◌, ◌^◌, ◌≤◌, ◌<◌, min, max}
use native.Mathlib.Nat.{add-mul, zero-max}
use native.Mathlib.Omega.{arith}
use lib.Bits.{bit_and, bit_or}
use lib.ListN.{length, get_or, set, take, drop, length-drop, length-append, get_or-append}
use lib.Seq.{get_or-set_same, get_or-set_other, drop-append-add, drop-append_seam}
use Rattle.std.proofs.lemmas.List.{get_or-append-add, take-append-le}
use Rattle.words.specs.Bits.{digit, digit_in, is_in}
use Rattle.words.specs.Lists.{any, hit}
use Rattle.words.proofs.Bools.{hit_or, hit_and, hit_not, hit_inj, eq?}
use Rattle.words.proofs.Digits.{digit_or, digit-and_not, digit_zero}
use Rattle.words.proofs.Members.{any_on, in_index}
use Rattle.words.proofs.Parts.{row_fits}
use Rattle.words.proofs.Rows.{hit_in, row_word, row_place, in_front}
use Rattle.model.specs.Picture.{Picture, nblocks, succs}
use Rattle.model.specs.Live.{live_in}
use Rattle.model.specs.Move.{needed}
use Rattle.cfg.specs.Drawn.{drawn}
use Rattle.cfg.specs.Graph.{Graph}
use Rattle.flow.specs.Progress.{cell}
use Rattle.flow.specs.Live.{Live, Wrote, gathered}
use Rattle.flow.proofs.Whole.{succs_whole}
use Rattle.cfg.proofs.Successors.{next_block}
use Rattle.flow.proofs.Least.{cell_is}
use Rattle.flow.proofs.Outs.{gathered_bit}
use Rattle.flow.specs.Needed.{wanted, Word, Put, Shows, Needed}

-- ---- a word of the row

-- a bit of a word of row x
bit_of : (bits : List ℕ) (w x i r : ℕ) → r / 64 ≡ i → digit (get_or bits (x * w + i) 0) (r % 64) ≡ hit (is_in bits (64 * (x * w) + r))
unfolding cell
bit_of bits w x i r e = ap (λ (k : ℕ). digit (get_or bits (x * w + k) 0) (r % 64)) (sym e) ∙ cell_is bits w x r

module _ {bits ss : List ℕ} {n w into other i : ℕ} where
  pub word_is : (a b v g : ℕ) → a ≡ get_or bits (other * w + i) 0 → b ≡ get_or bits (n * w + into * w + i) 0 → b < 2 ^ 64 → g ≡ gathered bits w i 0 ss
      → v ≡ bit_or a (bit_and g (2 ^ 64 - 1 - b)) → Word bits ss n w into other i v
  unfolding wanted
  word_is a b v g ea eb fb eg ev = record {
    bit = λ r e.
        let low : r % 64 < 64 = omega arith in
        let at : get_or bits (n * w + into * w + i) 0 ≡ get_or bits ((n + into) * w + i) 0 = ap (λ (k : ℕ). get_or bits (k + i) 0) (sym (add-mul n into w)) in
        let l : digit a (r % 64) ≡ hit (is_in bits (64 * (other * w) + r)) = ap (λ (x : ℕ). digit x (r % 64)) ea ∙ bit_of bits w other i r e in
        let k : digit b (r % 64) ≡ hit (is_in bits (64 * ((n + into) * w) + r)) = ap (λ (x : ℕ). digit x (r % 64)) (eb ∙ at) ∙ bit_of bits w (n + into) i r e in
        let o : digit g (r % 64) ≡ hit (any (λ s. is_in bits (64 * (s * w) + r)) ss) =
        ap (λ (x : ℕ). digit x (r % 64)) (eg ∙ ap (λ (k : ℕ). gathered bits w k 0 ss) (sym e)) ∙ gathered_bit bits w r 0 ss
        ∙ ap (λ (x : ℕ). max x (hit (any (λ s. is_in bits (64 * (s * w) + r)) ss))) (digit_zero (r % 64)) ∙ zero-max (hit (any (λ s. is_in bits (64 * (s * w) + r)) ss)) in
        ap (λ (x : ℕ). digit x (r % 64)) ev ∙ digit_or a (bit_and g (2 ^ 64 - 1 - b)) (r % 64)
        ∙ ap₂ max l (digit-and_not g b (r % 64) fb low ∙ ap₂ (λ (x y : ℕ). min x (1 - y)) o k
        ∙ ap (min (hit (any (λ s. is_in bits (64 * (s * w) + r)) ss))) (sym (hit_not (is_in bits (64 * ((n + into) * w) + r))))
        ∙ sym (hit_and (any (λ s. is_in bits (64 * (s * w) + r)) ss) (not (is_in bits (64 * ((n + into) * w) + r)))))
        ∙ sym (hit_or (is_in bits (64 * (other * w) + r)) (any (λ s. is_in bits (64 * (s * w) + r)) ss && not (is_in bits (64 * ((n + into) * w) + r))));
  }

-- ---- one word more

-- a bit of the row that begins at word `at`, by its word
in_word : (l : List ℕ) (at r : ℕ) → hit (is_in l (64 * at + r)) ≡ digit (get_or l (at + r / 64) 0) (r % 64)
unfolding digit_in
in_word l at r = hit_in l (64 * at + r) ∙ ap₂ (λ (a b : ℕ). digit (get_or l a 0) b) (row_word at r) (row_place at r)

in_row : (l : List ℕ) (r : ℕ) → hit (is_in l r) ≡ digit (get_or l (r / 64) 0) (r % 64)
unfolding digit_in
in_row l r = hit_in l r

-- the first i words of the row are put, from the rows in `bits`
pub record Going (bits ss : List ℕ) (n w into other i : ℕ) (row : List ℕ) : Type 0 where
  pub bit : (r : ℕ) → r < 64 * i → is_in row r ≡ wanted bits ss n w into other r

module _ {bits ss : List ℕ} {n w into other : ℕ} where
  pub row_none : (row : List ℕ) → Going bits ss n w into other 0 row
  row_none row = record { bit = λ r h. absurd (omega arith) }

  pub row_next : {i v : ℕ} (m : List ℕ) → Going bits ss n w into other i m → i < length m → Word bits ss n w into other i v → Going bits ss n w into other (i + 1) (set m i v)
  row_next {i} {v} m p l k = record { bit = λ r h. ⊎_elim (here r) (λ (d : r / 64 ≡ i → ⊥). there r d (omega arith)) (eq? (r / 64) i) }
    where
      here : (r : ℕ) → r / 64 ≡ i → is_in (set m i v) r ≡ wanted bits ss n w into other r
      here r e = hit_inj (is_in (set m i v) r) (wanted bits ss n w into other r)
          (in_row (set m i v) r ∙ ap (λ (k : ℕ). digit (get_or (set m i v) k 0) (r % 64)) e
          ∙ ap (λ (x : ℕ). digit x (r % 64)) (get_or-set_same m i v 0 l) ∙ k.bit r e)

      there : (r : ℕ) → (r / 64 ≡ i → ⊥) → r < 64 * i → is_in (set m i v) r ≡ wanted bits ss n w into other r
      there r d h = hit_inj (is_in (set m i v) r) (is_in m r)
          (in_row (set m i v) r ∙ ap (λ (x : ℕ). digit x (r % 64)) (get_or-set_other m i (r / 64) v 0 (λ q. d (omega arith))) ∙ sym (in_row m r))
          ∙ p.bit r h

-- ---- the whole row, between the rows `front` and what lies behind

module _ (ss : List ℕ) (n w into other : ℕ) (hi : into < n) (ho : other < n) (next : (j : ℕ) → j < length ss → get_or ss j 0 < n) where
  -- rows that are the same say the same of each register
  wanted_front : (bits m : List ℕ) → take (n * w + n * w) m ≡ take (n * w + n * w) bits → (r : ℕ) → r < 64 * w → wanted m ss n w into other r ≡ wanted bits ss n w into other r
  unfolding wanted
  wanted_front bits m e r h = ap₂ (λ (a b : Bool). a || b) (in_front m bits (n * w + n * w) (64 * (other * w) + r) e (omega (arith, row_fits w ho)))
      (ap₂ (λ (a b : Bool). a && b)
      (any_on (λ s. is_in m (64 * (s * w) + r)) (λ s. is_in bits (64 * (s * w) + r)) ss
      (λ s i. let z = in_index 0 s ss i in let l : s < n = subst (λ (x : ℕ). x < n) z.2 (next z.0 z.1) in in_front m bits (n * w + n * w) (64 * (s * w) + r) e (omega (arith, row_fits w l))))
      (ap not (in_front m bits (n * w + n * w) (64 * ((n + into) * w) + r) e (omega (arith, row_fits w hi, add-mul n into w)))))

  module _ (front back row : List ℕ) (lf : length front ≡ n * w + n * w) (lb : w ≤ length back) (lr : length row ≡ w) where
    abbrev old : List ℕ
    old = front ++ back

    abbrev new : List ℕ
    new = front ++ (row ++ drop w back)

    the_row : (r : ℕ) → r < 64 * w → is_in new (64 * (n * w + n * w) + r) ≡ is_in row r
    the_row r h = hit_inj (is_in new (64 * (n * w + n * w) + r)) (is_in row r)
        (in_word new (n * w + n * w) r
        ∙ ap (λ (k : ℕ). digit (get_or new (k + r / 64) 0) (r % 64)) (sym lf)
        ∙ ap (λ (x : ℕ). digit x (r % 64)) (get_or-append-add front (row ++ drop w back) (r / 64) 0 ∙ get_or-append row (drop w back) 0 (r / 64) (omega arith))
        ∙ sym (in_row row r))

    same_front : (xs : List ℕ) → take (n * w + n * w) (front ++ xs) ≡ take (n * w + n * w) front
    same_front xs = take-append-le (n * w + n * w) front xs (omega arith)

    same_back : (xs : List ℕ) → drop (n * w + n * w + w) (front ++ xs) ≡ drop w xs
    same_back xs = ap (λ (k : ℕ). drop (k + w) (front ++ xs)) (sym lf) ∙ drop-append-add front xs w

    pub row_put : {work : List ℕ} {i : ℕ} → work ≡ old → w ≤ i → Going front ss n w into other i row → Put work ss n w into other new
    row_put {work} {i} e wi g = subst (λ (l : List ℕ). Put l ss n w into other new) (sym e) (record {
      size = let a = length-append front (row ++ drop w back) in let b = length-append row (drop w back) in let c = length-append front back in let d = length-drop w back in omega arith;
      front = same_front (row ++ drop w back) ∙ sym (same_front back);
      back = same_back (row ++ drop w back) ∙ ap (λ (k : ℕ). drop k (row ++ drop w back)) (sym lr) ∙ drop-append_seam row (drop w back) ∙ sym (same_back back);
      row = λ r h. the_row r h ∙ g.bit r (omega arith) ∙ sym (wanted_front front old (same_front back) r h);
    })

-- ---- of a whole picture

module _ {bounds recs pairs targets : List ℕ} {into : ℕ} (ss : List ℕ) (e : ss ≡ succs (drawn bounds recs [] pairs targets) into)
    (g : Graph bounds recs pairs targets) (hi : into < length bounds / 2) where
  succs_are : (P : Picture) → Shows P bounds recs pairs targets → ss ≡ succs P into
  succs_are P sh = e ∙ sym (ap (λ (q : Picture). succs q into) drawn_is) ∙ succs_whole P [] into
    where
      drawn_is : drawn P.bounds P.recs [] P.pairs P.targets ≡ drawn bounds recs [] pairs targets
      drawn_is = rw (sh.bounds_are, sh.recs_are, sh.pairs_are, sh.targets_are)

  module _ {w other : ℕ} {bits : List ℕ} (ho : other < length bounds / 2) where
    wanted_is : (P : Picture) → Shows P bounds recs pairs targets → Live P w bits → Wrote P w bits
        → (r : ℕ) → r < 64 * w → wanted bits ss (length bounds / 2) w into other r ≡ needed P into other r
    unfolding wanted
    wanted_is P sh live wrote r h = ap₂ (λ (a b : Bool). a || b) (live.row other r (block ho) h)
        (ap₂ (λ (a b : Bool). a && b)
        (any_on (λ s. is_in bits (64 * (s * w) + r)) (λ s. live_in P s r) ss
        (λ s i. let z = in_index 0 s ss i in live.row s r (block (subst (λ (x : ℕ). x < length bounds / 2) z.2 (next_block ss e g hi z.0 z.1))) h)
        ∙ ap (any (λ s. live_in P s r)) (succs_are P sh))
        (ap not (ap (λ (l : List ℕ). is_in bits (64 * ((length l / 2 + into) * w) + r)) (sym sh.bounds_are) ∙ wrote.row into r (block hi) h)))
      where
        block : {b : ℕ} → b < length bounds / 2 → b < nblocks P
        block {b} l = subst (λ (x : List ℕ). b < length x / 2) (sym sh.bounds_are) l

    pub needed_is : {m : List ℕ} → Put bits ss (length bounds / 2) w into other m → Needed bounds recs pairs targets w into other bits m
    needed_is p = record { size = p.size; front = p.front; back = p.back; row = λ P sh live wrote r h. p.row r h ∙ wanted_is P sh live wrote r h }
