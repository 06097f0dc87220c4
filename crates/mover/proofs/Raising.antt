-- Segment after segment to a place in front: each goes behind what went already, and in the end the words are as if all had gone
-- at once. Assumes nothing.
use mathlib.Core.Path.{◌≡◌, refl, sym, ap, ap₂, ◌∙◌}
use mathlib.Core.Bool.{Bool, not}
use mathlib.Core.List.{List, ◌++◌, append_assoc, map}
use Prim.Native.Nat.{ℕ, ◌+◌, ◌-◌, ◌*◌, ◌≤◌}
use native.Mathlib.Nat.{add-zero, add_assoc, le_antisymm, mul-add, mul-le-mul_left}
use native.Mathlib.Omega.{arith}
use lib.Dec.{eqb}
use lib.ListN.{length, take, drop, length-drop, length-append}
use lib.Seq.{take_at, drop_at, length-take-le, drop-drop}
use Rattle.words.specs.Lists.{upto, filter}
use Rattle.mover.specs.Order.{cells, stays, goes, kept, gone, raised}
use Rattle.mover.proofs.Cells.{cells_append}
use Rattle.mover.proofs.Segments.{seam_first, back_same, three}

-- those before position q went, and e is where the next ones go

pub record Raising (w : ℕ) (chain : List ℕ) (lo m e₀ : ℕ) (xs₀ xs saved₀ saved : List ℕ) (q e : ℕ) : Type 0 where
  pub inside : q ≤ m
  pub size : length xs ≡ length xs₀
  pub saved_size : length saved ≡ length saved₀
  pub words : xs ≡ raised w chain lo q e₀ xs₀
  pub place : e ≡ e₀ + length (cells w xs₀ (gone chain lo q))

pub raising_none : (w : ℕ) (chain : List ℕ) (lo m e : ℕ) (xs saved : List ℕ) → e ≤ w * lo → Raising w chain lo m e xs xs saved saved 0 e
unfolding raised cells
raising_none w chain lo m e xs saved h = record {
  inside = omega arith;
  size = refl;
  saved_size = refl;
  words = three xs e (w * lo) h ∙ ap (λ (k : ℕ). take e xs ++ (take (w * lo - e) (drop e xs) ++ drop (w * k) xs)) (sym (add-zero lo));
  place = sym (add-zero e);
}

module _ {w lo m e₀ q e : ℕ} {chain xs₀ xs saved₀ saved : List ℕ} (fit : e₀ ≤ w * lo) (top : w * (lo + m) ≤ length xs₀) (i : Raising w chain lo m e₀ xs₀ xs saved₀ saved q e) where
  abbrev A : List ℕ
  A = take e₀ xs₀

  abbrev G : List ℕ
  G = cells w xs₀ (gone chain lo q)

  abbrev M : List ℕ
  M = take (w * lo - e₀) (drop e₀ xs₀)

  abbrev K : List ℕ
  K = cells w xs₀ (kept chain lo q)

  abbrev Z : List ℕ
  Z = drop (w * (lo + q)) xs₀

  five : xs ≡ A ++ (G ++ (M ++ (K ++ Z)))
  unfolding raised
  five = i.words

  regroup : xs ≡ (A ++ G) ++ ((M ++ K) ++ Z)
  regroup = five ∙ sym (append_assoc A G (M ++ (K ++ Z))) ∙ ap (λ (l : List ℕ). (A ++ G) ++ l) (sym (append_assoc M K Z))

  low : (w * (lo + q) ≤ w * (lo + m)) × (w * lo ≤ w * (lo + q))
  low = let h = i.inside in (mul-le-mul_left w (omega arith), mul-le-mul_left w (omega arith))

  length_front : length (A ++ G) ≡ e
  length_front =
      let a = length-append A G in
      let h = low in
      let l = h.0 in
      let k = h.1 in
      let t : length A ≡ e₀ = length-take-le e₀ xs₀ (omega arith) in
      let p = i.place in
      omega arith

  sizes : e + length (M ++ K) ≡ w * (lo + q)
  sizes =
      let h = low.0 in
      let a = length_front in
      let d : length Z ≡ length xs₀ - w * (lo + q) = length-drop (w * (lo + q)) xs₀ in
      let s = i.size in
      let l1 = ap length regroup ∙ length-append (A ++ G) ((M ++ K) ++ Z) in
      let l2 = length-append (M ++ K) Z in
      omega arith

  pub raising_fits : (e ≤ w * (lo + q)) × (w * (lo + q) ≤ length xs)
  raising_fits = let s = sizes in let h = low.0 in let z = i.size in (omega arith, omega arith)

  front : take e xs ≡ A ++ G
  front = ap (take e) regroup ∙ take_at (A ++ G) ((M ++ K) ++ Z) e length_front

  between : take (w * (lo + q) - e) (drop e xs) ≡ M ++ K
  between =
      let s = sizes in
      ap (λ (l : List ℕ). take (w * (lo + q) - e) (drop e l)) regroup ∙ ap (take (w * (lo + q) - e)) (drop_at (A ++ G) ((M ++ K) ++ Z) e length_front)
      ∙ take_at (M ++ K) Z (w * (lo + q) - e) (omega arith)

  behind : drop (w * (lo + q)) xs ≡ Z
  behind =
      let s = sizes in
      let a = length_front in
      let l = length-append (A ++ G) (M ++ K) in
      ap (drop (w * (lo + q))) (regroup ∙ sym (append_assoc (A ++ G) (M ++ K) Z)) ∙ drop_at ((A ++ G) ++ (M ++ K)) Z (w * (lo + q)) (omega arith)

  module _ (k : ℕ) where
    same : (f : ℕ → Bool) → cells w xs (map (λ i. lo + q + i) (filter f (upto k))) ≡ cells w xs₀ (map (λ i. lo + q + i) (filter f (upto k)))
    same f = back_same w xs₀ xs f (lo + q) k behind

    last : drop (w * (lo + q + k)) xs ≡ drop (w * (lo + (q + k))) xs₀
    last =
        let at : w * (lo + q + k) ≡ w * (lo + q) + w * k = mul-add w (lo + q) k in
        ap (λ (n : ℕ). drop n xs) at ∙ sym (drop-drop (w * k) (w * (lo + q)) xs) ∙ ap (drop (w * k)) behind ∙ drop-drop (w * k) (w * (lo + q)) xs₀ ∙ ap (λ (n : ℕ). drop n xs₀) (sym at)
        ∙ ap (λ (n : ℕ). drop (w * n) xs₀) (add_assoc lo q k)

    abbrev G' : List ℕ
    G' = cells w xs₀ (gone (drop (10 * q) chain) (lo + q) k)

    abbrev K' : List ℕ
    K' = cells w xs₀ (kept (drop (10 * q) chain) (lo + q) k)

    kept_all : K ++ K' ≡ cells w xs₀ (kept chain lo (q + k))
    kept_all = sym (cells_append w xs₀ (kept chain lo q) (kept (drop (10 * q) chain) (lo + q) k)) ∙ ap (cells w xs₀) (seam_first (λ n. eqb n 0) chain lo q k)

    gone_all : G ++ G' ≡ cells w xs₀ (gone chain lo (q + k))
    gone_all = sym (cells_append w xs₀ (gone chain lo q) (gone (drop (10 * q) chain) (lo + q) k)) ∙ ap (cells w xs₀) (seam_first (λ n. not (eqb n 0)) chain lo q k)

    both_raised : raised w (drop (10 * q) chain) (lo + q) k e xs ≡ raised w chain lo (q + k) e₀ xs₀
    unfolding raised
    both_raised =
        let E : List ℕ = drop (w * (lo + (q + k))) xs₀ in
        ap₂ (λ (x y : List ℕ). x ++ y) front
        (ap₂ (λ (x y : List ℕ). x ++ y) (same (goes (drop (10 * q) chain)))
        (ap₂ (λ (x y : List ℕ). x ++ y) between (ap₂ (λ (x y : List ℕ). x ++ y) (same (stays (drop (10 * q) chain))) last)))
        ∙ append_assoc A G (G' ++ ((M ++ K) ++ (K' ++ E))) ∙ ap (λ (l : List ℕ). A ++ l) (sym (append_assoc G G' ((M ++ K) ++ (K' ++ E))))
        ∙ ap (λ (l : List ℕ). A ++ ((G ++ G') ++ l)) (append_assoc M K (K' ++ E) ∙ ap (λ (l : List ℕ). M ++ l) (sym (append_assoc K K' E)))
        ∙ ap₂ (λ (x y : List ℕ). A ++ (x ++ (M ++ (y ++ E)))) gone_all kept_all

    gone_size : length G + length (cells w xs (gone (drop (10 * q) chain) (lo + q) k)) ≡ length (cells w xs₀ (gone chain lo (q + k)))
    gone_size = ap (λ (l : List ℕ). length G + length l) (same (goes (drop (10 * q) chain))) ∙ sym (length-append G G') ∙ ap length gone_all

  pub raising_more : (k : ℕ) {r : ℕ} {ch zs saved' : List ℕ} → q + k ≤ m → ch ≡ drop (10 * q) chain → length zs ≡ length xs → r ≡ length (cells w xs (gone ch (lo + q) k))
      → zs ≡ raised w ch (lo + q) k e xs → length saved' ≡ length saved → Raising w chain lo m e₀ xs₀ zs saved₀ saved' (q + k) (e + r)
  raising_more k h ch_is size r_is z sv =
      let g = gone_size k in
      let pl = i.place in
      let rl = r_is ∙ ap (λ (l : List ℕ). length (cells w xs (gone l (lo + q) k))) ch_is in
      record {
        inside = h;
        size = size ∙ i.size;
        saved_size = sv ∙ i.saved_size;
        words = z ∙ ap (λ (l : List ℕ). raised w l (lo + q) k e xs) ch_is ∙ both_raised k;
        place = omega arith;
      }

pub raising_end : {w lo m e₀ q e : ℕ} {chain xs₀ xs saved₀ saved : List ℕ} → Raising w chain lo m e₀ xs₀ xs saved₀ saved q e → m ≤ q → xs ≡ raised w chain lo m e₀ xs₀
raising_end {w} {lo} {m} {e₀} {q} {e} {chain} {xs₀} i h = i.words ∙ ap (λ (k : ℕ). raised w chain lo k e₀ xs₀) (le_antisymm i.inside h)
