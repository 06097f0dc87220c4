-- Segment after segment to a place behind: each goes before what went already, and in the end the words are as if all had gone at
-- once. Assumes nothing.
use mathlib.Core.Path.{◌≡◌, refl, sym, ap, ap₂, ◌∙◌}
use mathlib.Core.Bool.{Bool, not}
use mathlib.Core.List.{List, ◌++◌, append_assoc, map}
use Prim.Native.Nat.{ℕ, ◌+◌, ◌-◌, ◌*◌, ◌≤◌}
use native.Mathlib.Nat.{add-zero, sub_self, sub-zero, mul-le-mul_left}
use native.Mathlib.Omega.{arith}
use lib.Dec.{eqb}
use lib.ListN.{length, take, drop, length-drop, length-append}
use lib.Seq.{take_at, drop_at, take-take, length-take-le}
use Rattle.words.specs.Lists.{upto, filter}
use Rattle.mover.specs.Order.{cells, stays, goes, kept, gone, sunk}
use Rattle.mover.proofs.Cells.{cells_append}
use Rattle.mover.proofs.Segments.{seam, front_same, three}

-- those from position q on went, and e is where the next ones go

pub record Sinking (w : ℕ) (chain : List ℕ) (lo m e₀ : ℕ) (xs₀ xs saved₀ saved : List ℕ) (q e : ℕ) : Type 0 where
  pub inside : q ≤ m
  pub size : length xs ≡ length xs₀
  pub saved_size : length saved ≡ length saved₀
  pub words : xs ≡ sunk w (drop (10 * q) chain) (lo + q) (m - q) e₀ xs₀
  pub place : e + length (cells w xs₀ (gone (drop (10 * q) chain) (lo + q) (m - q))) ≡ e₀

sunk_none : (w : ℕ) (chain xs : List ℕ) (lo e j : ℕ) → j ≡ 0 → w * lo ≤ e → xs ≡ sunk w chain lo j e xs
unfolding sunk cells
sunk_none w chain xs lo e j z h =
    three xs (w * lo) e h ∙ ap (λ (k : ℕ). take (w * lo) xs ++ (take (e - w * k) (drop (w * k) xs) ++ drop e xs)) (sym (add-zero lo))
    ∙ ap (λ (k : ℕ). sunk w chain lo k e xs) (sym z)

gone_none : (w : ℕ) (chain xs : List ℕ) (lo e j : ℕ) → j ≡ 0 → e + length (cells w xs (gone chain lo j)) ≡ e
unfolding cells
gone_none w chain xs lo e j z = ap (λ (k : ℕ). e + length (cells w xs (gone chain lo k))) z ∙ add-zero e

pub sinking_none : (w : ℕ) (chain : List ℕ) (lo m e : ℕ) (xs saved : List ℕ) → w * (lo + m) ≤ e → Sinking w chain lo m e xs xs saved saved m e
sinking_none w chain lo m e xs saved h = record {
  inside = omega arith;
  size = refl;
  saved_size = refl;
  words = sunk_none w (drop (10 * m) chain) xs (lo + m) e (m - m) (sub_self m) h;
  place = gone_none w (drop (10 * m) chain) xs (lo + m) e (m - m) (sub_self m);
}

module _ {w lo m e₀ q e : ℕ} {chain xs₀ xs saved₀ saved : List ℕ} (fit : w * (lo + m) ≤ e₀) (top : e₀ ≤ length xs₀) (i : Sinking w chain lo m e₀ xs₀ xs saved₀ saved q e) where
  abbrev A : List ℕ
  A = take (w * (lo + q)) xs₀

  abbrev K : List ℕ
  K = cells w xs₀ (kept (drop (10 * q) chain) (lo + q) (m - q))

  abbrev M : List ℕ
  M = take (e₀ - w * (lo + q + (m - q))) (drop (w * (lo + q + (m - q))) xs₀)

  abbrev G : List ℕ
  G = cells w xs₀ (gone (drop (10 * q) chain) (lo + q) (m - q))

  abbrev Z : List ℕ
  Z = drop e₀ xs₀

  five : xs ≡ A ++ (K ++ (M ++ (G ++ Z)))
  unfolding sunk
  five = i.words

  -- what lies before e
  regroup : xs ≡ A ++ ((K ++ M) ++ (G ++ Z))
  regroup = five ∙ ap (λ (l : List ℕ). A ++ l) (sym (append_assoc K M (G ++ Z)))

  low : w * (lo + q) ≤ w * (lo + m)
  low = let h = i.inside in mul-le-mul_left w (omega arith)

  length_A : length A ≡ w * (lo + q)
  length_A = let h = low in length-take-le (w * (lo + q)) xs₀ (omega arith)

  sizes : w * (lo + q) + length (K ++ M) ≡ e
  sizes =
      let a = length_A in
      let z : length Z ≡ length xs₀ - e₀ = length-drop e₀ xs₀ in
      let p = i.place in
      let s = i.size in
      let l1 = ap length regroup ∙ length-append A ((K ++ M) ++ (G ++ Z)) in
      let l2 = length-append (K ++ M) (G ++ Z) in
      let l3 = length-append G Z in
      omega arith

  pub sinking_fits : (w * (lo + q) ≤ e) × (e ≤ length xs)
  sinking_fits = let s = sizes in let p = i.place in let z = i.size in (omega arith, omega arith)

  front : take (w * (lo + q)) xs ≡ A
  front = ap (take (w * (lo + q))) regroup ∙ take_at A ((K ++ M) ++ (G ++ Z)) (w * (lo + q)) length_A

  between : take (e - w * (lo + q)) (drop (w * (lo + q)) xs) ≡ K ++ M
  between =
      let s = sizes in
      ap (λ (l : List ℕ). take (e - w * (lo + q)) (drop (w * (lo + q)) l)) regroup ∙ ap (take (e - w * (lo + q))) (drop_at A ((K ++ M) ++ (G ++ Z)) (w * (lo + q)) length_A)
      ∙ take_at (K ++ M) (G ++ Z) (e - w * (lo + q)) (omega arith)

  behind : drop e xs ≡ G ++ Z
  behind =
      let s = sizes in
      let a = length_A in
      let l = length-append A (K ++ M) in
      ap (drop e) (regroup ∙ sym (append_assoc A (K ++ M) (G ++ Z))) ∙ drop_at (A ++ (K ++ M)) (G ++ Z) e (omega arith)

  module _ (p k : ℕ) (pk : p + k ≡ q) where
    hi : lo + p + k ≡ lo + q
    hi = omega arith

    same : (f : ℕ → Bool) → cells w xs (map (λ i. lo + p + i) (filter f (upto k))) ≡ cells w xs₀ (map (λ i. lo + p + i) (filter f (upto k)))
    same f = front_same w xs₀ xs f (lo + p) k (ap (λ (n : ℕ). take (w * n) xs) hi ∙ front ∙ ap (λ (n : ℕ). take (w * n) xs₀) (sym hi))

    first : take (w * (lo + p)) xs ≡ take (w * (lo + p)) xs₀
    first =
        let h : w * (lo + p) ≤ w * (lo + q) = mul-le-mul_left w (omega arith) in
        sym (take-take (w * (lo + p)) (w * (lo + q)) xs h) ∙ ap (take (w * (lo + p))) front ∙ take-take (w * (lo + p)) (w * (lo + q)) xs₀ h

    abbrev K' : List ℕ
    K' = cells w xs₀ (kept (drop (10 * p) chain) (lo + p) k)

    abbrev G' : List ℕ
    G' = cells w xs₀ (gone (drop (10 * p) chain) (lo + p) k)

    kept_all : K' ++ K ≡ cells w xs₀ (kept (drop (10 * p) chain) (lo + p) (m - p))
    kept_all =
        sym (cells_append w xs₀ (kept (drop (10 * p) chain) (lo + p) k) (kept (drop (10 * q) chain) (lo + q) (m - q)))
        ∙ ap (cells w xs₀) (seam (λ n. eqb n 0) chain lo p k q m pk i.inside)

    gone_all : G' ++ G ≡ cells w xs₀ (gone (drop (10 * p) chain) (lo + p) (m - p))
    gone_all =
        sym (cells_append w xs₀ (gone (drop (10 * p) chain) (lo + p) k) (gone (drop (10 * q) chain) (lo + q) (m - q)))
        ∙ ap (cells w xs₀) (seam (λ n. not (eqb n 0)) chain lo p k q m pk i.inside)

    both_sunk : sunk w (drop (10 * p) chain) (lo + p) k e xs ≡ sunk w (drop (10 * p) chain) (lo + p) (m - p) e₀ xs₀
    unfolding sunk
    both_sunk =
        let h = i.inside in
        let H : List ℕ = take (w * (lo + p)) xs₀ in
        ap₂ (λ (x y : List ℕ). x ++ y) first
        (ap₂ (λ (x y : List ℕ). x ++ y) (same (stays (drop (10 * p) chain)))
        (ap₂ (λ (x y : List ℕ). x ++ y) (ap (λ (n : ℕ). take (e - w * n) (drop (w * n) xs)) hi ∙ between) (ap₂ (λ (x y : List ℕ). x ++ y) (same (goes (drop (10 * p) chain))) behind)))
        ∙ ap (λ (l : List ℕ). H ++ (K' ++ l)) (append_assoc K M (G' ++ (G ++ Z))) ∙ ap (λ (l : List ℕ). H ++ l) (sym (append_assoc K' K (M ++ (G' ++ (G ++ Z)))))
        ∙ ap (λ (l : List ℕ). H ++ ((K' ++ K) ++ (M ++ l))) (sym (append_assoc G' G Z))
        ∙ ap₂ (λ (x y : List ℕ). H ++ (x ++ (M ++ (y ++ Z)))) kept_all gone_all
        ∙ ap (λ (n : ℕ). H ++ (cells w xs₀ (kept (drop (10 * p) chain) (lo + p) (m - p)) ++ (take (e₀ - w * n) (drop (w * n) xs₀) ++ (cells w xs₀ (gone (drop (10 * p) chain) (lo + p) (m - p)) ++ Z)))) {x = lo + q + (m - q)} {y = lo + p + (m - p)} (omega arith)

    -- how many words went: in the segment, and in all
    went_below : length (cells w xs (gone (drop (10 * p) chain) (lo + p) k)) ≡ length G'
    went_below = ap length (same (goes (drop (10 * p) chain)))

    gone_size : length G' + length G ≡ length (cells w xs₀ (gone (drop (10 * p) chain) (lo + p) (m - p)))
    gone_size = sym (length-append G' G) ∙ ap length gone_all

-- the words that go in a segment lie before e, as the length stays
sunk_below : (w : ℕ) (chain xs : List ℕ) (lo m e : ℕ) → e ≤ length xs → length (sunk w chain lo m e xs) ≡ length xs → length (cells w xs (gone chain lo m)) ≤ e
unfolding sunk
sunk_below w chain xs lo m e h s =
    let H : List ℕ = take (w * lo) xs in
    let K : List ℕ = cells w xs (kept chain lo m) in
    let M : List ℕ = take (e - w * (lo + m)) (drop (w * (lo + m)) xs) in
    let G : List ℕ = cells w xs (gone chain lo m) in
    let a = length-append H (K ++ (M ++ (G ++ drop e xs))) in
    let b = length-append K (M ++ (G ++ drop e xs)) in
    let c = length-append M (G ++ drop e xs) in
    let d = length-append G (drop e xs) in
    let z : length (drop e xs) ≡ length xs - e = length-drop e xs in
    omega arith

-- one segment more: k positions from p on, whose words in the chain are ch
module _ {w lo m e₀ q e : ℕ} {chain xs₀ xs saved₀ saved : List ℕ} (fit : w * (lo + m) ≤ e₀) (top : e₀ ≤ length xs₀) (i : Sinking w chain lo m e₀ xs₀ xs saved₀ saved q e)
    (p k : ℕ) {r : ℕ} {ch zs : List ℕ} (pk : p + k ≡ q) (ch_is : ch ≡ drop (10 * p) chain) (size : length zs ≡ length xs) (r_is : r ≡ length (cells w xs (gone ch (lo + p) k)))
    (z : zs ≡ sunk w ch (lo + p) k e xs) where
  pub sinking_below : r ≤ e
  sinking_below =
      let h = (sinking_fits fit top i).1 in
      let b = sunk_below w ch xs (lo + p) k e h (sym (ap length z) ∙ size) in
      omega arith

  pub sinking_more : {saved' : List ℕ} → length saved' ≡ length saved → Sinking w chain lo m e₀ xs₀ zs saved₀ saved' p (e - r)
  sinking_more sv =
      let h = i.inside in
      let b = sinking_below in
      let g = gone_size fit top i p k pk in
      let pl = i.place in
      let rl = r_is ∙ ap (λ (l : List ℕ). length (cells w xs (gone l (lo + p) k))) ch_is ∙ went_below fit top i p k pk in
      record {
        inside = omega arith;
        size = size ∙ i.size;
        saved_size = sv ∙ i.saved_size;
        words = z ∙ ap (λ (l : List ℕ). sunk w l (lo + p) k e xs) ch_is ∙ both_sunk fit top i p k pk;
        place = omega arith;
      }

pub sinking_end : {w lo m e₀ q e : ℕ} {chain xs₀ xs saved₀ saved : List ℕ} → Sinking w chain lo m e₀ xs₀ xs saved₀ saved q e → q ≡ 0 → xs ≡ sunk w chain lo m e₀ xs₀
sinking_end {w} {lo} {m} {e₀} {q} {e} {chain} {xs₀} i z =
    i.words ∙ ap (λ (k : ℕ). sunk w (drop (10 * k) chain) (lo + k) (m - k) e₀ xs₀) z ∙ ap₂ (λ (a b : ℕ). sunk w chain a b e₀ xs₀) (add-zero lo) (sub-zero m)
