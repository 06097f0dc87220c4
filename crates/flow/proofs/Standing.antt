-- The rows of what each block reads first and writes stand as long as their words do, and live-in is made from them.
-- Assumes nothing.
use mathlib.Core.Path.{◌≡◌, sym, ap, subst, ◌∙◌}
use mathlib.Core.Logic.{◌⊎◌, inl, inr, ⊎_elim}
use mathlib.Core.List.{List, []}
use Prim.Native.Nat.{ℕ, ◌+◌, ◌*◌, ◌/◌, ◌%◌, ◌≤◌, ◌<◌}
use native.Mathlib.Nat.{add-mul, zero-add}
use native.Mathlib.Omega.{arith}
use lib.ListN.{length, get_or, set, take, drop, length-drop}
use lib.Seq.{sets, length-take-le}
use Rattle.words.specs.Bits.{digit, is_in}
use Rattle.words.proofs.Bools.{lt?, hit_inj}
use Rattle.words.proofs.Copying.{get_or-sets_in, get_or-sets_after, drop_sets, slide_more}
use Rattle.words.proofs.Parts.{row_fits, get_d_part}
use Rattle.model.specs.Picture.{Picture, nblocks, succs}
use Rattle.cfg.specs.Drawn.{drawn}
use Rattle.flow.specs.Progress.{cell, Solved}
use Rattle.flow.specs.Live.{Live, RowRoom, Rows, OnlyRows}
use Rattle.flow.proofs.Firsts.{at}
use Rattle.flow.proofs.Least.{cell_is, live_rows}

-- ---- where the rows lie

pub after_live : (n w b : ℕ) → n * w ≤ (n + b) * w
after_live n w b = omega (arith, add-mul n b w)

-- rows of what is written come before those of what is read first, and all before the end
pub apart_rows : (n w b c : ℕ) → b < n → (n + b) * w + w ≤ (2 * n + 1 + c) * w
apart_rows n w b c h = let k : n + b < 2 * n + 1 + c = omega arith in row_fits w k

pub within_rows : (n w b : ℕ) → b < n → (2 * n + 1 + b) * w + w ≤ 3 * n * w + w
within_rows n w b h = let k : 2 * n + 1 + b < 3 * n + 1 = omega arith in omega (arith, row_fits w k, add-mul (3 * n) 1 w)

module _ {n w b : ℕ} {l : List ℕ} (r : RowRoom n w l) (h : b < n) where
  pub first_fits : (2 * n + 1 + b) * w + w ≤ length l
  first_fits = omega (arith, within_rows n w b h, r.fits)

  pub wrote_fits : (n + b) * w + w ≤ length l
  wrote_fits = omega (arith, apart_rows n w b b h, first_fits)

pub room_as : {n w v : ℕ} {l : List ℕ} → w ≡ v → RowRoom n v l → RowRoom n w l
room_as {n} {l = l} e r = subst (λ (x : ℕ). RowRoom n x l) (sym e) r

-- another block's row
pub other_row : {w x y : ℕ} (i : ℕ) → (x ≡ y → ⊥) → i < w → (x * w + i < y * w) ⊎ (y * w + w ≤ x * w + i)
other_row {w} {x} {y} i e h =
    ⊎_elim (λ (k : x < y). inl (omega (arith, row_fits w k))) (λ (k : y ≤ x). let g : y < x = omega (arith, e) in inr (omega (arith, row_fits w g))) (lt? x y)

-- ---- rows with the same words have the same numbers

pub row_as : (w x y : ℕ) (l m : List ℕ) → ((i : ℕ) → i < w → get_or m (x * w + i) 0 ≡ get_or l (y * w + i) 0)
    → (r : ℕ) → r < 64 * w → is_in m (at w x r) ≡ is_in l (at w y r)
unfolding cell
row_as w x y l m e r h = hit_inj (is_in m (at w x r)) (is_in l (at w y r))
    (sym (cell_is m w x r) ∙ ap (λ (v : ℕ). digit v (r % 64)) (e (r / 64) (omega arith)) ∙ cell_is l w y r)

module _ (P : Picture) (w c : ℕ) (l m : List ℕ) where
  abbrev n : ℕ
  n = nblocks P

  pub rows_same : ((i : ℕ) → i < w → get_or m ((2 * n + 1 + c) * w + i) 0 ≡ get_or l ((2 * n + 1 + c) * w + i) 0)
      → ((i : ℕ) → i < w → get_or m ((n + c) * w + i) 0 ≡ get_or l ((n + c) * w + i) 0) → Rows P w c l → Rows P w c m
  rows_same f g s = record {
    first = λ r h. row_as w (2 * n + 1 + c) (2 * n + 1 + c) l m f r h ∙ s.first r h;
    wrote = λ r h. row_as w (n + c) (n + c) l m g r h ∙ s.wrote r h;
  }

  -- another block's rows were made anew
  pub rows_else : (b : ℕ) → b < n → c < n → (c ≡ b → ⊥) → OnlyRows n w b l m → Rows P w c l → Rows P w c m
  rows_else b hb hc e o = rows_same
      (λ i h. o.same ((2 * n + 1 + c) * w + i) (inr (omega (arith, apart_rows n w b c hb))) (other_row i (λ k. e (omega arith)) h))
      (λ i h. o.same ((n + c) * w + i) (other_row i (λ k. e (omega arith)) h) (inl (omega (arith, apart_rows n w c b hc))))

-- ---- live-in from the rows

-- what the loop that copies rows to the head has made of them
pub head_more : (xs ys : List ℕ) (s i : ℕ) → s + i < length xs → ys ≡ sets xs 0 (take i (drop s xs))
    → set ys i (get_or ys (s + i) 0) ≡ sets xs 0 (take (i + 1) (drop s xs))
head_more xs ys s i h e = ap (λ (k : ℕ). set ys k (get_or ys (s + i) 0)) (sym (zero-add i)) ∙ slide_more xs ys s 0 i (omega arith) h e

pub head_fits : {n w : ℕ} {l : List ℕ} → RowRoom n w l → (2 * n + 1) * w + n * w ≤ length l
head_fits {n} {w} r = omega (arith, r.fits, add-mul (2 * n) 1 w, add-mul (2 * n) n w)

module _ (bounds recs ops pairs targets : List ℕ) (w : ℕ) (l k m : List ℕ) (room : RowRoom (length bounds / 2) w l)
    (e : k ≡ sets l 0 (take (length bounds / 2 * w) (drop ((2 * (length bounds / 2) + 1) * w) l))) where
  abbrev P : Picture
  P = drawn bounds recs ops pairs targets

  abbrev N : ℕ
  N = length bounds / 2

  abbrev from : ℕ
  from = (2 * N + 1) * w

  long : length (take (N * w) (drop from l)) ≡ N * w
  long = length-take-le (N * w) (drop from l) (simp length-drop (omega (arith, head_fits room)))

  copied : (b i : ℕ) → b < N → i < w → get_or k (b * w + i) 0 ≡ get_or l ((2 * N + 1 + b) * w + i) 0
  copied b i h j =
      let inner : b * w + i < N * w = omega (arith, row_fits w h) in
      ap (λ (t : List ℕ). get_or t (b * w + i) 0) e
      ∙ ap (λ (x : ℕ). get_or (sets l 0 (take (N * w) (drop from l))) x 0) (sym (zero-add (b * w + i)))
      ∙ get_or-sets_in l 0 (take (N * w) (drop from l)) (b * w + i) 0 (omega (arith, long, head_fits room)) (omega (arith, long))
      ∙ get_d_part l from (N * w) (b * w + i) 0 inner
      ∙ ap (λ (x : ℕ). get_or l x 0) (let z : from + (b * w + i) ≡ (2 * N + 1 + b) * w + i = omega (arith, add-mul (2 * N + 1) b w) in z)

  stays : (i : ℕ) → N * w ≤ i → get_or k i 0 ≡ get_or l i 0
  stays i h = ap (λ (t : List ℕ). get_or t i 0) e ∙ get_or-sets_after l 0 (take (N * w) (drop from l)) i 0 (omega (arith, long))

  module _ (s : Solved N w (succs (drawn bounds recs [] pairs targets)) k m) where
    from_rows : ((b : ℕ) → b < N → Rows P w b l) → Live P w m
    from_rows each = live_rows bounds recs ops pairs targets w k m
        (λ b r h j. row_as w b (2 * N + 1 + b) l k (λ i g. copied b i h g) r j ∙ (each b h).first r j)
        (λ b r h j. row_as w (N + b) (N + b) l k (λ i g. stays ((N + b) * w + i) (omega (arith, after_live N w b))) r j ∙ (each b h).wrote r j)
        s

    behind : drop (N * w) m ≡ drop (N * w) l
    behind = s.rest ∙ ap (drop (N * w)) e ∙ drop_sets (N * w) l 0 (take (N * w) (drop from l)) (omega (arith, long))

    -- w being the width v of a row
    pub live_from : {v : ℕ} → w ≡ v → ((b : ℕ) → b < N → Rows P v b l) → Live P v m
    live_from e each = subst (λ (x : ℕ). Live P x m) e (from_rows (λ b h. subst (λ (x : ℕ). Rows P x b l) (sym e) (each b h)))

    pub live_behind : {v : ℕ} → w ≡ v → drop (N * v) m ≡ drop (N * v) l
    live_behind e = subst (λ (x : ℕ). drop (N * x) m ≡ drop (N * x) l) e behind
