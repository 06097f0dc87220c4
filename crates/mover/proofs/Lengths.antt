-- The bounds that were shifted, in terms of the blocks' lengths. Assumes nothing.
use mathlib.Core.Path.{◌≡◌, refl, sym, ap, ap₂, ◌∙◌}
use mathlib.Core.List.{List, [], ◌∷◌, ◌++◌, map, append_assoc}
use Prim.Native.Nat.{ℕ, suc, ◌+◌, ◌-◌, ◌*◌}
use native.Mathlib.Nat.{add-zero, add_assoc}
use native.Mathlib.Omega.{arith}
use lib.ListN.{length, take, drop, length-append}
use lib.Seq.{take_at, drop_at, drop-append_seam}
use Rattle.words.specs.Lists.{spans}
use Rattle.words.proofs.Lists.{map_append}
use Rattle.mover.specs.Spans.{part, Mapped}

-- bounds of blocks of these lengths, end to end from s
abbrev pub bounds_of : ℕ → List ℕ → List ℕ
bounds_of s [] = []
bounds_of s (l ∷ ls) = s ∷ (s + l) ∷ bounds_of (s + l) ls

abbrev pub sum : List ℕ → ℕ
sum [] = 0
sum (l ∷ ls) = l + sum ls

pub spans_lengths : {A : Type 0} (s : ℕ) (cs : List (List A)) → spans s cs ≡ bounds_of s (map length cs)
spans_lengths s [] = refl
spans_lengths s (c ∷ cs) = ap (λ (l : List ℕ). s ∷ (s + length c) ∷ l) (spans_lengths (s + length c) cs)

bounds_append : (s : ℕ) (as' bs : List ℕ) → bounds_of s (as' ++ bs) ≡ bounds_of s as' ++ bounds_of (s + sum as') bs
bounds_append s [] bs = ap (λ (k : ℕ). bounds_of k bs) (sym (add-zero s))
bounds_append s (l ∷ ls) bs =
    ap (λ (z : List ℕ). s ∷ (s + l) ∷ z) (bounds_append (s + l) ls bs ∙ ap (λ (k : ℕ). bounds_of (s + l) ls ++ bounds_of k bs) (add_assoc s l (sum ls)))

-- a stretch of blocks that starts c lower, or higher
lower : (c s : ℕ) (ls : List ℕ) → bounds_of s ls ≡ map (λ w. w - c) (bounds_of (s + c) ls)
lower c s [] = refl
lower c s (l ∷ ls) =
    let a : s ≡ s + c - c = omega arith in
    let b : s + l ≡ s + c + l - c = omega arith in
    let d : s + l + c ≡ s + c + l = omega arith in
    ap₂ (λ (x : ℕ) (z : List ℕ). x ∷ z) a (ap₂ (λ (x : ℕ) (z : List ℕ). x ∷ z) b (lower c (s + l) ls ∙ ap (λ (k : ℕ). map (λ w. w - c) (bounds_of k ls)) d))

higher : (c s : ℕ) (ls : List ℕ) → bounds_of (s + c) ls ≡ map (λ w. w + c) (bounds_of s ls)
higher c s [] = refl
higher c s (l ∷ ls) =
    let b : s + c + l ≡ s + l + c = omega arith in
    ap (λ (z : List ℕ). (s + c) ∷ z) (ap₂ (λ (x : ℕ) (z : List ℕ). x ∷ z) b (ap (λ (k : ℕ). bounds_of k ls) b ∙ higher c (s + l) ls))

bounds_length : (s : ℕ) (ls : List ℕ) → length (bounds_of s ls) ≡ 2 * length ls
bounds_length s [] = refl
bounds_length s (l ∷ ls) = let e = bounds_length (s + l) ls in ap (λ (n : ℕ). suc (suc n)) e ∙ twice (length ls)
  where
    twice : (n : ℕ) → suc (suc (2 * n)) ≡ 2 * suc n
    twice n = omega arith

-- from a list in three pieces
whole : (f : ℕ → ℕ) (xs ys P Q Z : List ℕ) (lo hi : ℕ) → Mapped f lo xs ys hi → xs ≡ P ++ (Q ++ Z) → length P ≡ lo → lo + length Q ≡ hi → ys ≡ P ++ (map f Q ++ Z)
whole f xs ys P Q Z lo hi m e p q =
    let n : hi - lo ≡ length Q = omega arith in
    let fr : take lo xs ≡ P = ap (take lo) e ∙ take_at P (Q ++ Z) lo p in
    let md : part lo (hi - lo) xs ≡ Q = ap (λ (l : List ℕ). take (hi - lo) (drop lo l)) e ∙ ap (take (hi - lo)) (drop_at P (Q ++ Z) lo p) ∙ take_at Q Z (hi - lo) (sym n) in
    let bk : drop hi xs ≡ Z = ap₂ (λ (k : ℕ) (l : List ℕ). drop k l) (sym q) e ∙ sym (lib.Seq.drop-drop (length Q) lo (P ++ (Q ++ Z))) ∙ ap (drop (length Q)) (drop_at P (Q ++ Z) lo p) ∙ drop-append_seam Q Z in
    sym (lib.ListN.take-append-drop lo ys)
    ∙ ap₂ (λ (a b : List ℕ). a ++ b) (m.front ∙ fr)
    (sym (lib.ListN.take-append-drop (hi - lo) (drop lo ys))
    ∙ ap₂ (λ (a b : List ℕ). a ++ b) (m.mid ∙ ap (map f) md) (lib.Seq.drop-drop (hi - lo) lo ys ∙ ap (λ (k : ℕ). drop k ys) {x = lo + (hi - lo)} {y = hi} (omega arith) ∙ m.back ∙ bk))

-- c records go from a block to a later one: A, the block, M, the other, Z
module _ (c s : ℕ) (A M Z : List ℕ) (x t : ℕ) where
  abbrev at : ℕ
  at = s + sum A

  pub down_law : {xs ys : List ℕ} → xs ≡ bounds_of s (A ++ ((x + c) ∷ (M ++ (t ∷ Z)))) → Mapped (λ w. w - c) (2 * length A + 1) xs ys (2 * length A + 2 + 2 * length M + 1) → ys ≡ bounds_of s (A ++ (x ∷ (M ++ ((t + c) ∷ Z))))
  down_law {xs} {ys} e m =
      let u : ℕ = at + (x + c) in
      let v : ℕ = u + sum M in
      let P : List ℕ = bounds_of s A ++ (at ∷ []) in
      let Q : List ℕ = u ∷ (bounds_of u M ++ (v ∷ [])) in
      let R : List ℕ = (v + t) ∷ bounds_of (v + t) Z in
      let before : xs ≡ P ++ (Q ++ R) =
      e ∙ bounds_append s A ((x + c) ∷ (M ++ (t ∷ Z))) ∙ ap (λ (l : List ℕ). bounds_of s A ++ (at ∷ (u ∷ l))) (bounds_append u M (t ∷ Z) ∙ sym (append_assoc (bounds_of u M) (v ∷ []) R))
      ∙ sym (append_assoc (bounds_of s A) (at ∷ []) (Q ++ R)) in
      let pl : length P ≡ 2 * length A + 1 = length-append (bounds_of s A) (at ∷ []) ∙ ap (λ (n : ℕ). n + 1) (bounds_length s A) in
      let ql : length Q ≡ 2 * length M + 2 = ap suc (length-append (bounds_of u M) (v ∷ []) ∙ ap (λ (n : ℕ). n + 1) (bounds_length u M)) ∙ omega arith in
      let w : ℕ = at + x in
      let y : ℕ = w + sum M in
      let uw : u ≡ w + c = omega arith in
      let vy : v ≡ y + c = omega arith in
      let vq : v - c ≡ y = omega arith in
      let q_is : map (λ k. k - c) Q ≡ w ∷ (bounds_of w M ++ (y ∷ [])) =
      ap₂ (λ (a : ℕ) (l : List ℕ). a ∷ l) {x = u - c} {y = w} (omega arith)
      (map_append (λ k. k - c) (bounds_of u M) (v ∷ []) ∙ ap₂ (λ (a : List ℕ) (b : ℕ). a ++ (b ∷ [])) (ap (λ (k : ℕ). map (λ n. n - c) (bounds_of k M)) uw ∙ sym (lower c w M)) vq) in
      let r_is : R ≡ (y + (t + c)) ∷ bounds_of (y + (t + c)) Z = ap (λ (k : ℕ). k ∷ bounds_of k Z) {x = v + t} {y = y + (t + c)} (omega arith) in
      whole (λ k. k - c) xs ys P Q R (2 * length A + 1) (2 * length A + 2 + 2 * length M + 1) m before pl (omega arith)
      ∙ ap₂ (λ (a b : List ℕ). P ++ (a ++ b)) q_is r_is
      ∙ append_assoc (bounds_of s A) (at ∷ []) ((w ∷ (bounds_of w M ++ (y ∷ []))) ++ ((y + (t + c)) ∷ bounds_of (y + (t + c)) Z))
      ∙ sym (bounds_append s A (x ∷ (M ++ ((t + c) ∷ Z))) ∙ ap (λ (l : List ℕ). bounds_of s A ++ (at ∷ (w ∷ l))) (bounds_append w M ((t + c) ∷ Z) ∙ sym (append_assoc (bounds_of w M) (y ∷ []) ((y + (t + c)) ∷ bounds_of (y + (t + c)) Z))))

  -- to an earlier one
  pub up_law : {xs ys : List ℕ} → xs ≡ bounds_of s (A ++ (t ∷ (M ++ ((x + c) ∷ Z)))) → Mapped (λ w. w + c) (2 * length A + 1) xs ys (2 * length A + 2 + 2 * length M + 1) → ys ≡ bounds_of s (A ++ ((t + c) ∷ (M ++ (x ∷ Z))))
  up_law {xs} {ys} e m =
      let u : ℕ = at + t in
      let v : ℕ = u + sum M in
      let P : List ℕ = bounds_of s A ++ (at ∷ []) in
      let Q : List ℕ = u ∷ (bounds_of u M ++ (v ∷ [])) in
      let R : List ℕ = (v + (x + c)) ∷ bounds_of (v + (x + c)) Z in
      let before : xs ≡ P ++ (Q ++ R) =
      e ∙ bounds_append s A (t ∷ (M ++ ((x + c) ∷ Z))) ∙ ap (λ (l : List ℕ). bounds_of s A ++ (at ∷ (u ∷ l))) (bounds_append u M ((x + c) ∷ Z) ∙ sym (append_assoc (bounds_of u M) (v ∷ []) R))
      ∙ sym (append_assoc (bounds_of s A) (at ∷ []) (Q ++ R)) in
      let pl : length P ≡ 2 * length A + 1 = length-append (bounds_of s A) (at ∷ []) ∙ ap (λ (n : ℕ). n + 1) (bounds_length s A) in
      let ql : length Q ≡ 2 * length M + 2 = ap suc (length-append (bounds_of u M) (v ∷ []) ∙ ap (λ (n : ℕ). n + 1) (bounds_length u M)) ∙ omega arith in
      let w : ℕ = at + (t + c) in
      let y : ℕ = w + sum M in
      let vq : v + c ≡ y = omega arith in
      let q_is : map (λ k. k + c) Q ≡ w ∷ (bounds_of w M ++ (y ∷ [])) =
      ap₂ (λ (a : ℕ) (l : List ℕ). a ∷ l) {x = u + c} {y = w} (omega arith)
      (map_append (λ k. k + c) (bounds_of u M) (v ∷ []) ∙ ap₂ (λ (a : List ℕ) (b : ℕ). a ++ (b ∷ [])) (sym (higher c u M) ∙ ap (λ (k : ℕ). bounds_of k M) {x = u + c} {y = w} (omega arith)) vq) in
      let r_is : R ≡ (y + x) ∷ bounds_of (y + x) Z = ap (λ (k : ℕ). k ∷ bounds_of k Z) {x = v + (x + c)} {y = y + x} (omega arith) in
      whole (λ k. k + c) xs ys P Q R (2 * length A + 1) (2 * length A + 2 + 2 * length M + 1) m before pl (omega arith)
      ∙ ap₂ (λ (a b : List ℕ). P ++ (a ++ b)) q_is r_is
      ∙ append_assoc (bounds_of s A) (at ∷ []) ((w ∷ (bounds_of w M ++ (y ∷ []))) ++ ((y + x) ∷ bounds_of (y + x) Z))
      ∙ sym (bounds_append s A ((t + c) ∷ (M ++ (x ∷ Z))) ∙ ap (λ (l : List ℕ). bounds_of s A ++ (at ∷ (w ∷ l))) (bounds_append w M (x ∷ Z) ∙ sym (append_assoc (bounds_of w M) (y ∷ []) ((y + x) ∷ bounds_of (y + x) Z))))
