-- Segments of a block: who goes and who stays in two that follow each other, which records a move leaves alone, and what a segment
-- asks. Assumes nothing.
use mathlib.Core.Path.{◌≡◌, refl, sym, ap, ap₂, ◌∙◌}
use mathlib.Core.Bool.{Bool, true, false, cond}
use mathlib.Core.List.{List, ◌∷◌, ◌++◌, map}
use Prim.Native.Nat.{ℕ, zero, suc, ◌+◌, ◌-◌, ◌*◌, ◌≤◌, ◌<◌}
use native.Mathlib.Nat.{add-zero, zero-add, add-suc, add_assoc, mul-add, mul-le-mul_left}
use native.Mathlib.Omega.{arith}
use lib.ListN.{length, get_or, take, drop, length-drop, take-append-drop}
use lib.Seq.{drop-drop, get_or-drop}
use Rattle.words.specs.Lists.{range, upto, filter}
use Rattle.words.proofs.Lists.{map_append, range_append, filter_append}
use Rattle.words.proofs.Parts.{part_first}
use Rattle.mover.specs.Order.{cell, cells, mark_at, Ask}
use Rattle.mover.proofs.Cells.{fits}

-- ---- those from position p on, by the whole chain or by its words from p on

module _ (f g : ℕ → Bool) (lo p : ℕ) (h : (i : ℕ) → f i ≡ g (p + i)) where
  one : (s : ℕ) (l k : List ℕ) (b : Bool) → map (λ i. lo + p + i) l ≡ map (λ i. lo + i) k → map (λ i. lo + p + i) (cond b (s ∷ l) l) ≡ map (λ i. lo + i) (cond b ((p + s) ∷ k) k)
  one s l k true e = ap₂ (λ (x : ℕ) (y : List ℕ). x ∷ y) (add_assoc lo p s) e
  one s l k false e = e

  shifted : (j s : ℕ) → map (λ i. lo + p + i) (filter f (range s j)) ≡ map (λ i. lo + i) (filter g (range (p + s) j))
  shifted zero s = refl
  shifted (suc j) s =
      ap (λ (b : Bool). map (λ i. lo + p + i) (cond b (s ∷ filter f (range (suc s) j)) (filter f (range (suc s) j)))) (h s)
      ∙ one s (filter f (range (suc s) j)) (filter g (range (suc (p + s)) j)) (g (p + s)) (shifted j (suc s) ∙ ap (λ (k : ℕ). map (λ i. lo + i) (filter g (range k j))) (add-suc p s))

module _ (f : ℕ → Bool) (chain : List ℕ) (lo : ℕ) where
  -- those of j positions from p on whose marks pass a test
  abbrev pub picked : ℕ → ℕ → List ℕ
  picked p j = map (λ i. lo + i) (filter (λ i. f (mark_at chain i)) (range p j))

  -- the same by the chain's words from p on
  abbrev pub behind : ℕ → ℕ → List ℕ
  behind p j = map (λ i. lo + p + i) (filter (λ i. f (mark_at (drop (10 * p) chain) i)) (upto j))

  behind_is : (p j : ℕ) → behind p j ≡ picked p j
  behind_is p j =
      shifted (λ i. f (mark_at (drop (10 * p) chain) i)) (λ i. f (mark_at chain i)) lo p
      (λ i. ap f (get_or-drop (10 * p) chain (10 * i + 6) 0 ∙ ap (λ (k : ℕ). get_or chain k 0) {x = 10 * p + (10 * i + 6)} {y = 10 * (p + i) + 6} (omega arith))) j 0
      ∙ ap (λ (k : ℕ). picked k j) (add-zero p)

  both : (p i j : ℕ) → picked p i ++ picked (p + i) j ≡ picked p (i + j)
  both p i j =
      sym (map_append (λ i. lo + i) (filter (λ i. f (mark_at chain i)) (range p i)) (filter (λ i. f (mark_at chain i)) (range (p + i) j)))
      ∙ ap (map (λ i. lo + i)) (sym (filter_append (λ i. f (mark_at chain i)) (range p i) (range (p + i) j)) ∙ ap (filter (λ i. f (mark_at chain i))) (range_append p i j))

  -- k from p on, then those from q on
  pub seam : (p k q m : ℕ) → p + k ≡ q → q ≤ m → behind p k ++ behind q (m - q) ≡ behind p (m - p)
  seam p k q m e h =
      ap₂ (λ (x y : List ℕ). x ++ y) (behind_is p k) (behind_is q (m - q)) ∙ ap (λ (z : ℕ). picked p k ++ picked z (m - q)) (sym e) ∙ both p k (m - q)
      ∙ ap (picked p) {x = k + (m - q)} {y = m - p} (omega arith) ∙ sym (behind_is p (m - p))

  -- the first q, then j from q on
  pub seam_first : (q j : ℕ) → picked 0 q ++ behind q j ≡ picked 0 (q + j)
  seam_first q j = ap (λ (l : List ℕ). picked 0 q ++ l) (behind_is q j ∙ ap (λ (z : ℕ). picked z j) (sym (zero-add q))) ∙ both 0 q j

-- ---- records that are the same in both lists

module _ (w : ℕ) (xs ys : List ℕ) where
  same_one : (F : ℕ → ℕ) (s : ℕ) (l : List ℕ) (b : Bool) → cell w ys (F s) ≡ cell w xs (F s) → cells w ys (map F l) ≡ cells w xs (map F l) → cells w ys (map F (cond b (s ∷ l) l)) ≡ cells w xs (map F (cond b (s ∷ l) l))
  unfolding cells
  same_one F s l true e h = ap₂ (λ (x y : List ℕ). x ++ y) e h
  same_one F s l false e h = h

  cells_same : (f : ℕ → Bool) (lo k s : ℕ) → ((p : ℕ) → s ≤ p → p < s + k → cell w ys (lo + p) ≡ cell w xs (lo + p))
      → cells w ys (map (λ q. lo + q) (filter f (range s k))) ≡ cells w xs (map (λ q. lo + q) (filter f (range s k)))
  unfolding cells
  cells_same f lo zero s h = refl
  cells_same f lo (suc k) s h =
      same_one (λ q. lo + q) s (filter f (range (suc s) k)) (f s) (h s (omega arith) (omega arith)) (cells_same f lo k (suc s) (λ p a b. h p (omega arith) (omega arith)))

  -- in front of record lo + k, or from record lo on
  pub front_same : (f : ℕ → Bool) (lo k : ℕ) → take (w * (lo + k)) ys ≡ take (w * (lo + k)) xs → cells w ys (map (λ q. lo + q) (filter f (upto k))) ≡ cells w xs (map (λ q. lo + q) (filter f (upto k)))
  front_same f lo k e =
      cells_same f lo k 0
      (λ p a b. let c : w * (lo + p) + w ≤ w * (lo + k) = fits w (omega arith) in
      sym (part_first (w * (lo + p)) w (w * (lo + k)) ys c) ∙ ap (λ (l : List ℕ). take w (drop (w * (lo + p)) l)) e ∙ part_first (w * (lo + p)) w (w * (lo + k)) xs c)

  pub back_same : (f : ℕ → Bool) (lo k : ℕ) → drop (w * lo) ys ≡ drop (w * lo) xs → cells w ys (map (λ q. lo + q) (filter f (upto k))) ≡ cells w xs (map (λ q. lo + q) (filter f (upto k)))
  back_same f lo k e =
      cells_same f lo k 0
      (λ p a b. let at : w * (lo + p) ≡ w * lo + w * p = mul-add w lo p in
      ap (take w) (ap (λ (n : ℕ). drop n ys) at ∙ sym (drop-drop (w * p) (w * lo) ys) ∙ ap (drop (w * p)) e ∙ drop-drop (w * p) (w * lo) xs ∙ ap (λ (n : ℕ). drop n xs) (sym at)))

-- ---- what a segment asks: k positions from p on, whose words in the chain are ch

pub segment_ask : {w lo m e₀ e : ℕ} {chain xs₀ xs saved₀ saved ch : List ℕ} → Ask w lo m 64 e₀ chain saved₀ xs₀ → (p k : ℕ) → p + k ≤ m → k ≤ 64 → ch ≡ drop (10 * p) chain → length xs ≡ length xs₀
    → length saved ≡ length saved₀ → e ≤ length xs → Ask w (lo + p) k k e ch saved xs
segment_ask {w} {lo} {m} {e₀} {e} {chain} {xs₀} {xs} {saved₀} {saved} {ch} a p k h few ch_is size sv top =
    let in₀ = a.inside in
    let few₀ = a.few in
    let room₀ = a.room in
    let words₀ = a.words in
    let up : w * (lo + p + k) ≤ w * (lo + m) = mul-le-mul_left w (omega arith) in
    let wk : w * k ≤ w * 64 = mul-le-mul_left w few in
    let cl : length ch ≡ length chain - 10 * p = ap length ch_is ∙ length-drop (10 * p) chain in
    record {
      inside = omega arith;
      few = omega arith;
      target = top;
      room = omega arith;
      words = omega arith;
    }

-- a list in three
pub three : (xs : List ℕ) (a e : ℕ) → a ≤ e → xs ≡ take a xs ++ (take (e - a) (drop a xs) ++ drop e xs)
three xs a e h =
    sym (take-append-drop a xs)
    ∙ ap (λ (l : List ℕ). take a xs ++ l) (sym (take-append-drop (e - a) (drop a xs)) ∙ ap (λ (l : List ℕ). take (e - a) (drop a xs) ++ l) (drop-drop (e - a) a xs ∙ ap (λ (k : ℕ). drop k xs) {x = a + (e - a)} {y = e} (omega arith)))
