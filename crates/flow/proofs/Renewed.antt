-- Making the rows of one block anew leaves them as its code is and all other words as they were; so does making all of them,
-- block by block. Assumes nothing.
use mathlib.Core.Path.{◌≡◌, refl, sym, ap, ap₂, subst, ◌∙◌}
use mathlib.Core.Logic.{◌⊎◌, ◌≢◌, inl, inr, ⊎_elim}
use mathlib.Core.Bool.{false}
use mathlib.Core.List.{List, [], ◌∷◌, ◌++◌, map, append_assoc}
use Prim.Native.Nat.{ℕ, suc, ◌+◌, ◌-◌, ◌*◌, ◌/◌, ◌≤◌, ◌<◌}
use native.Mathlib.Omega.{arith}
use lib.ListN.{length, length-drop, take, drop, get_or, replicate, length-replicate}
use borrow.Rule.Slice.PartMut.{put_mid}
use lib.Seq.{sets, sets-eq, drop-drop, length-sets, length-take-le, get_or-set_other}
use Rattle.words.specs.Bits.{is_in, set_bit, unset_bit}
use Rattle.words.specs.Lists.{In, range, concat}
use Rattle.words.proofs.Copying.{get_d_sets_before, get_or-sets_in, get_or-sets_after}
use Rattle.words.proofs.Rows.{in_clear}
use Rattle.model.specs.Picture.{Picture, Inst, inst, reads, writes, places, code}
use Rattle.cfg.specs.Drawn.{drawn}
use Rattle.cfg.specs.Graph.{Blocks}
use Rattle.defuse.specs.Sets.{put, wrote, before, run, Code}
use Rattle.defuse.specs.Writers.{notes}
use Rattle.defuse.proofs.Noted.{notes_append}
use Rattle.words.proofs.Bools.{lt?}
use Rattle.words.specs.Steps.{steps}
use Rattle.flow.specs.Live.{RowRoom, Rows, OnlyRows}
use Rattle.flow.proofs.Firsts.{at, Small, code_small, length_run, run_own, run_kill}
use Rattle.flow.proofs.Standing.{apart_rows, within_rows, first_fits, wrote_fits, row_as, rows_else}

-- ---- clearing

-- a part whose words were all made 0
pub part_cleared : (xs : List ℕ) (d n : ℕ) {ys : List ℕ} → d + n ≤ length xs → ys ≡ replicate (length (take (d + n - d) (drop d xs))) 0
    → put_mid d (d + n - d) xs ys ≡ sets xs d (replicate n 0)
part_cleared xs d n {ys} h e =
    let k : d + n - d ≡ n = omega arith in
    let part : length (take (d + n - d) (drop d xs)) ≡ n = rw k (length-take-le n (drop d xs) (simp length-drop (omega arith))) in
    let zeros : length (replicate {A = ℕ} n 0) ≡ n = length-replicate {A = ℕ} n 0 in
    let behind : drop (d + n - d) (drop d xs) ≡ drop (d + length (replicate {A = ℕ} n 0)) xs = drop-drop (d + n - d) d xs ∙ ap (λ (m : ℕ). drop m xs) (let z : d + (d + n - d) ≡ d + length (replicate {A = ℕ} n 0) = omega (arith, zeros) in z) in
    ap₂ (λ (a b : List ℕ). take d xs ++ (a ++ b)) (e ∙ ap (λ (m : ℕ). replicate m 0) part) behind
    ∙ sym (sets-eq (replicate n 0) xs d (omega (arith, zeros)) ∙ append_assoc (take d xs) (replicate n 0) (drop (d + length (replicate {A = ℕ} n 0)) xs))

-- nothing is in a row that was cleared
cleared : (w x : ℕ) (l : List ℕ) → x * w + w ≤ length l → (r : ℕ) → r < 64 * w → is_in (sets l (x * w) (replicate w 0)) (at w x r) ≡ false
cleared w x l h r j =
    row_as w x 0 (replicate w 0) (sets l (x * w) (replicate w 0))
    (λ i k. get_or-sets_in l (x * w) (replicate w 0) i 0 (rw (length-replicate {A = ℕ} w 0) h) (rw (length-replicate {A = ℕ} w 0) k)
    ∙ ap (λ (y : ℕ). get_or (replicate w 0) y 0) (let z : i ≡ 0 * w + i = omega arith in z)) r j
    ∙ in_clear w (at w 0 r)

-- ---- a word outside row x

abbrev Outside : ℕ → ℕ → ℕ → Type 0
Outside w x i = (i < x * w) ⊎ (x * w + w ≤ i)

away : (w x i r : ℕ) → Outside w x i → r < 64 * w → i ≢ at w x r / 64
away w x i r (inl h) j e = omega arith
away w x i r (inr h) j e = omega arith

clear_else : (w x i : ℕ) (l : List ℕ) → Outside w x i → get_or (sets l (x * w) (replicate w 0)) i 0 ≡ get_or l i 0
clear_else w x i l (inl h) = get_d_sets_before l (x * w) (replicate w 0) i 0 h
clear_else w x i l (inr h) = get_or-sets_after l (x * w) (replicate w 0) i 0 (rw (length-replicate {A = ℕ} w 0) h)

set_else : (w x i : ℕ) (l : List ℕ) (r : ℕ) → Outside w x i → r < 64 * w → get_or (set_bit l (at w x r)) i 0 ≡ get_or l i 0
unfolding set_bit
set_else w x i l r o j = get_or-set_other l (at w x r / 64) i _ 0 (away w x i r o j)

unset_else : (w x i : ℕ) (l : List ℕ) (r : ℕ) → Outside w x i → r < 64 * w → get_or (unset_bit l (at w x r)) i 0 ≡ get_or l i 0
unfolding unset_bit
unset_else w x i l r o j = get_or-set_other l (at w x r / 64) i _ 0 (away w x i r o j)

steps_else : (w i : ℕ) (f : List ℕ → ℕ → List ℕ) → ((l : List ℕ) (r : ℕ) → r < 64 * w → get_or (f l r) i 0 ≡ get_or l i 0) → (l rs : List ℕ)
    → ((r : ℕ) → In r rs → r < 64 * w) → get_or (steps f l rs) i 0 ≡ get_or l i 0
unfolding steps
steps_else w i f h l [] j = refl
steps_else w i f h l (r ∷ rs) j = steps_else w i f h (f l r) rs (λ s k. j s (inr k)) ∙ h l r (j r (inl refl))

module _ (ops : List ℕ) (w x z i : ℕ) (ox : Outside w x i) (oz : Outside w z i) where
  before_else : (l : List ℕ) (t : Inst) → Small ops w t → get_or (before ops (x * w) (z * w) l t) i 0 ≡ get_or l i 0
  unfolding before
  before_else l t s =
      steps_else w i (put (x * w)) (λ l r. set_else w x i l r ox) (steps (wrote (x * w) (z * w)) l (writes t)) (reads ops t) s.read
      ∙ steps_else w i (wrote (x * w) (z * w)) (λ l r j. set_else w z i (unset_bit l (at w x r)) r oz j ∙ unset_else w x i l r ox j) l (writes t) s.written

  run_else : (l : List ℕ) (is : List Inst) → ((t : Inst) → In t is → Small ops w t) → get_or (run ops (x * w) (z * w) l is) i 0 ≡ get_or l i 0
  unfolding run
  run_else l [] s = refl
  run_else l (t ∷ is) s = before_else (run ops (x * w) (z * w) l is) t (s t (inl refl)) ∙ run_else l is (λ t' j. s t' (inr j))

-- ---- one block

module _ (bounds recs ops : List ℕ) (w b : ℕ) (l : List ℕ) {R : ℕ} (ok : Blocks bounds recs) (small : Code recs ops R) (fit : R ≤ 64 * w)
    (room : RowRoom (length bounds / 2) w l) (h : b < length bounds / 2) where
  abbrev P : Picture
  P = drawn bounds recs ops [] []

  abbrev n : ℕ
  n = length bounds / 2

  abbrev x : ℕ
  x = 2 * n + 1 + b

  abbrev z : ℕ
  z = n + b

  apart : x ≡ z → ⊥
  apart e = omega arith

  l₁ : List ℕ
  l₁ = sets l (x * w) (replicate w 0)

  l₂ : List ℕ
  l₂ = sets l₁ (z * w) (replicate w 0)

  size₂ : length l₂ ≡ length l
  unfolding l₁ l₂
  size₂ = length-sets l₁ (z * w) (replicate w 0) ∙ length-sets l (x * w) (replicate w 0)

  made : List ℕ
  made = run ops (x * w) (z * w) l₂ (code P b)

  none_first : (q : ℕ) → q < 64 * w → is_in l₂ (at w x q) ≡ false
  unfolding l₁ l₂
  none_first q j =
      row_as w x x l₁ l₂ (λ i k. clear_else w z (x * w + i) l₁ (inr (omega (arith, apart_rows n w b b h)))) q j
      ∙ cleared w x l (first_fits room h) q j

  none_wrote : (q : ℕ) → q < 64 * w → is_in l₂ (at w z q) ≡ false
  unfolding l₁ l₂
  none_wrote q j = cleared w z l₁ (rw (length-sets l (x * w) (replicate w 0)) (wrote_fits room h)) q j

  rows_of_made : Rows P w b made
  unfolding made
  rows_of_made = record {
    first = λ r j. run_own ops w x z apart l₂ (rw size₂ (first_fits room h)) (rw size₂ (wrote_fits room h)) r j (none_first r j) (code P b) (code_small bounds recs ops w ok small fit b h);
    wrote = λ r j. run_kill ops w x z apart l₂ (rw size₂ (first_fits room h)) (rw size₂ (wrote_fits room h)) r j (none_wrote r j) (code P b) (code_small bounds recs ops w ok small fit b h);
  }

  only_of_made : OnlyRows n w b l made
  unfolding l₁ l₂ made
  only_of_made = record {
    size = length_run ops w x z apart l₂ (code P b) ∙ size₂;
    same = λ i oz ox. run_else ops w x z i ox oz l₂ (code P b) (code_small bounds recs ops w ok small fit b h) ∙ clear_else w z i l₁ oz ∙ clear_else w x i l ox;
  }

  -- what block_rows leaves
  module _ {lo hi : ℕ} {k₁ k₂ m : List ℕ} (e₁ : k₁ ≡ sets l (x * w) (replicate w 0)) (e₂ : k₂ ≡ sets k₁ (z * w) (replicate w 0))
      (p : lo ≡ get_or bounds (2 * b) 0) (q : hi ≡ get_or bounds (2 * b + 1) 0) (e : m ≡ run ops (x * w) (z * w) k₂ (map (inst recs) (range lo (hi - lo)))) where
    is_made : m ≡ made
    unfolding l₁ l₂ made
    is_made =
        e ∙ ap₂ (λ (y v : ℕ). run ops (x * w) (z * w) k₂ (map (inst recs) (range y (v - y)))) p q
        ∙ ap (λ (t : List ℕ). run ops (x * w) (z * w) t (code P b)) (e₂ ∙ ap (λ (t : List ℕ). sets t (z * w) (replicate w 0)) e₁)

    -- w being the width v of a row, b the number c of the block
    pub rows_made : {v c : ℕ} → w ≡ v → b ≡ c → Rows P v c m
    rows_made {v} {c} ew eb = subst (λ (x : ℕ). Rows P x c m) ew (subst (λ (x : ℕ). Rows P w x m) eb (rw is_made rows_of_made))

    pub only_made : {v c : ℕ} → w ≡ v → b ≡ c → OnlyRows n v c l m
    only_made {v} {c} ew eb = subst (λ (x : ℕ). OnlyRows n x c l m) ew (subst (λ (x : ℕ). OnlyRows n w x l m) eb (rw is_made only_of_made))

-- ---- all blocks

-- the rows of blocks b to n - 1 were made, and who writes what in them was noted
pub record Made (bounds recs ops : List ℕ) (w b : ℕ) (l vs m ws : List ℕ) : Type 0 where
  pub size : length m ≡ length l
  pub each : (c : ℕ) → b ≤ c → c < length bounds / 2 → Rows (drawn bounds recs ops [] []) w c m
  pub behind : (i : ℕ) → 3 * (length bounds / 2) * w + w ≤ i → get_or m i 0 ≡ get_or l i 0
  pub noted : ws ≡ notes recs vs (concat (map (places (drawn bounds recs ops [] [])) (range b (length bounds / 2 - b))))

module _ {bounds recs ops : List ℕ} {w : ℕ} {l vs : List ℕ} where
  pub made_none : (b : ℕ) → (length bounds / 2) ≤ b → Made bounds recs ops w b l vs l vs
  unfolding notes
  made_none b h = record {
    size = refl;
    each = λ c j k. absurd (omega arith);
    behind = λ i j. refl;
    noted = let z : (length bounds / 2) - b ≡ 0 = omega arith in sym (ap (λ (n : ℕ). notes recs vs (concat (map (places (drawn bounds recs ops [] [])) (range b n)))) z);
  }

  -- one block more, in front
  pub made_more : {b c : ℕ} {k m xs ys : List ℕ} → c + 1 ≡ b → b ≤ (length bounds / 2) → Made bounds recs ops w b l vs k xs → Rows (drawn bounds recs ops [] []) w c m → OnlyRows (length bounds / 2) w c k m → ys ≡ notes recs xs (places (drawn bounds recs ops [] []) c)
      → Made bounds recs ops w c l vs m ys
  unfolding notes
  made_more {b} {c} {k} {m} {xs} {ys} e h s r o q = record {
    size = o.size ∙ s.size;
    each = λ d j f. ⊎_elim (λ (g : d < b). let z : c ≡ d = omega arith in subst (λ (x : ℕ). Rows (drawn bounds recs ops [] []) w x m) z r) (λ (g : b ≤ d). rows_else (drawn bounds recs ops [] []) w d k m c (omega arith) f (λ z. omega arith) o (s.each d g f)) (lt? d b);
    behind = λ i j. let y = within_rows (length bounds / 2) w c (omega arith) in o.same i (inr (omega (arith, apart_rows (length bounds / 2) w c c (omega arith)))) (inr (omega arith)) ∙ s.behind i j;
    noted =
        let z : (length bounds / 2) - c ≡ suc ((length bounds / 2) - b) = omega arith in
        let y : b ≡ suc c = omega arith in
        q ∙ ap (λ (t : List ℕ). notes recs t (places (drawn bounds recs ops [] []) c)) (s.noted ∙ ap (λ (x : ℕ). notes recs vs (concat (map (places (drawn bounds recs ops [] [])) (range x ((length bounds / 2) - b))))) y)
        ∙ sym (notes_append recs vs (places (drawn bounds recs ops [] []) c) (concat (map (places (drawn bounds recs ops [] [])) (range (suc c) ((length bounds / 2) - b)))))
        ∙ ap (λ (n : ℕ). notes recs vs (concat (map (places (drawn bounds recs ops [] [])) (range c n)))) (sym z);
  }
