-- The positions of a chain are those of its blocks, one after the other. Assumes nothing.
use mathlib.Core.Bool.{Bool, true, false, cond, ◌&&◌}
use mathlib.Core.List.{List, [], ◌∷◌, ◌++◌, append-nil}
use mathlib.Core.Logic.{◌⊎◌, inl, inr}
use mathlib.Core.Path.{◌≡◌, refl, sym, ap, ◌∙◌, subst}
use Prim.Native.Nat.{ℕ, zero, suc, ◌+◌, ◌*◌, ◌-◌, ◌≤◌, ◌<◌}
use native.Mathlib.Nat.{le_of_suc-le-suc, not-suc-le-zero, zero-add}
use native.Mathlib.Numerals.{add-one}
use native.Mathlib.Omega.{arith}
use borrow.Author.Tests.{lt-ltb, le-ltb, ltb-true, ltb-false}
use lib.Dec.{ltb}
use lib.ListN.{get_or, length, take, drop, length-drop, length-append, drop_of_length-le}
use lib.Seq.{drop-cons}
use Rattle.words.specs.Lists.{In, range}
use Rattle.words.proofs.Lists.{length_range}
use Rattle.words.proofs.Members.{in_split, range_in}
use Rattle.words.proofs.Bools.{left_true, right_true, lt?}
use Rattle.model.specs.Picture.{Picture}
use Rattle.model.specs.Move.{chain_places}
use Rattle.chains.specs.declared.chain.Chain.{Chain}
use Rattle.chains.specs.declared.places.Part.{Part}
use Rattle.chains.specs.Chain.{blocks_of, Sound}
use Rattle.chains.specs.Places.{start_in, end_past, Pair, Laid, kept_in, IsPart}
use Rattle.chains.proofs.Struct.{blocks_long}

take_range : (m s n : ℕ) → m ≤ n → take m (range s n) ≡ range s m
take_range zero s n h = refl
take_range (suc m) s zero h = absurd (not-suc-le-zero h)
take_range (suc m) s (suc n) h = ap (λ (l : List ℕ). s ∷ l) (take_range m (suc s) n (le_of_suc-le-suc h))

-- ---- one block after the other

abbrev kept : List ℕ → ℕ → ℕ → List ℕ
kept bounds b more = range (start_in bounds b) (kept_in bounds b more)

places_cons : (P : Picture) (b : ℕ) (bs : List ℕ) → chain_places P (b ∷ bs) ≡ kept P.bounds b (length bs) ++ chain_places P bs
places_cons P b [] = sym (append-nil (range (start_in P.bounds b) (end_past P.bounds b - start_in P.bounds b)))
places_cons P b (c ∷ cs) =
    let n = end_past P.bounds b - start_in P.bounds b in
    let h : n - 1 ≤ n = omega arith in
    ap (λ (l : List ℕ). l ++ chain_places P (c ∷ cs)) (take_range (n - 1) (start_in P.bounds b) n h)
    ∙ ap (λ (t : Bool). range (start_in P.bounds b) (cond t (n - 1) n) ++ chain_places P (c ∷ cs)) (sym (lt-ltb 0 (length (c ∷ cs)) (omega arith)))

module _ (P : Picture) {bounds : List ℕ} (e : P.bounds ≡ bounds) (bs : List ℕ) (k : ℕ) where
  pub places_step : k < length bs → chain_places P (drop k bs) ≡ kept bounds (get_or bs k 0) (length bs - (k + 1)) ++ chain_places P (drop (k + 1) bs)
  places_step h =
      let d : drop (suc k) bs ≡ drop (k + 1) bs = ap (λ (n : ℕ). drop n bs) (sym (add-one k)) in
      ap (chain_places P) (drop-cons bs k 0 h)
      ∙ places_cons P (get_or bs k 0) (drop (suc k) bs)
      ∙ ap (λ (l : List ℕ). kept P.bounds (get_or bs k 0) (length l) ++ chain_places P l) d
      ∙ ap (λ (n : ℕ). kept P.bounds (get_or bs k 0) n ++ chain_places P (drop (k + 1) bs)) (length-drop (k + 1) bs)
      ∙ ap (λ (l : List ℕ). kept l (get_or bs k 0) (length bs - (k + 1)) ++ chain_places P (drop (k + 1) bs)) e

  -- as the records of a part
  pub part_step : (r : Part) → IsPart bounds bs k r → k < length bs → chain_places P (drop k bs) ≡ range r.from (r.past - r.from) ++ chain_places P (drop (k + 1) bs)
  part_step r i h =
      let m : kept_in bounds (get_or bs k 0) (length bs - (k + 1)) ≡ r.past - r.from = omega (arith, i.past) in
      places_step h ∙ ap (λ (n : ℕ). range (start_in bounds (get_or bs k 0)) n ++ chain_places P (drop (k + 1) bs)) m
      ∙ ap (λ (s : ℕ). range s (r.past - r.from) ++ chain_places P (drop (k + 1) bs)) (sym i.from)

-- ---- each position is a record before the end of one of the blocks

kept_most : (t : Bool) (n : ℕ) → cond t (n - 1) n ≤ n
kept_most true n = omega arith
kept_most false n = omega arith

kept_under : (bounds : List ℕ) (b more g : ℕ) → In g (kept bounds b more) → g < end_past bounds b
kept_under bounds b more g i =
    let r = range_in g (start_in bounds b) (kept_in bounds b more) i in
    let r0 = r.0 in
    let r1 = r.1 in
    let m = kept_most (ltb 0 more) (end_past bounds b - start_in bounds b) in
    omega arith

place_under : (P : Picture) (bs : List ℕ) (g : ℕ) → In g (chain_places P bs) → (k : ℕ) × (k < length bs) × (g < end_past P.bounds (get_or bs k 0))
place_under P [] g i = absurd i
place_under P (b ∷ bs) g i = go (λ j. place_under P bs g j) (in_split g (kept P.bounds b (length bs)) (chain_places P bs) (subst (In g) (places_cons P b bs) i))
  where
    go : (In g (chain_places P bs) → (k : ℕ) × (k < length bs) × (g < end_past P.bounds (get_or bs k 0))) → In g (kept P.bounds b (length bs)) ⊎ In g (chain_places P bs)
        → (k : ℕ) × (k < length (b ∷ bs)) × (g < end_past P.bounds (get_or (b ∷ bs) k 0))
    go on (inl j) = (0, omega arith, kept_under P.bounds b (length bs) g j)
    go on (inr j) = let z = on j in let z1 = z.1 in (suc z.0, omega arith, z.2)

pub place_in : {bounds : List ℕ} {c : Chain} → Laid bounds c → (P : Picture) → P.bounds ≡ bounds → (g : ℕ) → In g (chain_places P (blocks_of c))
    → (k : ℕ) × (k < c.count) × (g < end_past bounds (get_or (blocks_of c) k 0))
place_in {bounds} {c} s P e g i =
    let z = place_under P (blocks_of c) g i in
    (z.0, subst (λ (n : ℕ). z.0 < n) (blocks_long s.few) z.1, subst (λ (l : List ℕ). g < end_past l (get_or (blocks_of c) z.0 0)) e z.2)

-- ---- a chain among B blocks, all of which have their bounds

pub laid_in : {bounds : List ℕ} {B : ℕ} {c : Chain} → Sound c B → ((b : ℕ) → b < B → Pair bounds b) → Laid bounds c
laid_in {c = c} s p = record { few = s.few; each = λ k h. p (get_or (blocks_of c) k 0) (s.each k h) }

-- ---- what `part_of` answers

module _ {bounds : List ℕ} {c : Chain} {k : ℕ} (s : Laid bounds c) (h : k < c.count) where
  abbrev bs : List ℕ
  bs = blocks_of c

  abbrev b : ℕ
  b = get_or bs k 0

  pub block_fits : {a : ℕ} → a ≡ b → 2 * a + 2 ≤ length bounds
  block_fits {a} e = let l = (s.each k h).size in omega (arith, l, e)

  more : length bs - (k + 1) ≡ c.count - (k + 1)
  more = ap (λ (n : ℕ). n - (k + 1)) (blocks_long s.few)

  inner : 0 < length bs - (k + 1) → kept_in bounds b (length bs - (k + 1)) ≡ end_past bounds b - start_in bounds b - 1
  inner l = ap (λ (t : Bool). cond t (end_past bounds b - start_in bounds b - 1) (end_past bounds b - start_in bounds b)) (lt-ltb 0 (length bs - (k + 1)) l)

  outer : length bs - (k + 1) ≤ 0 → kept_in bounds b (length bs - (k + 1)) ≡ end_past bounds b - start_in bounds b
  outer l = ap (λ (t : Bool). cond t (end_past bounds b - start_in bounds b - 1) (end_past bounds b - start_in bounds b)) (le-ltb 0 (length bs - (k + 1)) l)

  module _ {x y : ℕ} (ex : x ≡ start_in bounds b) (ey : y ≡ end_past bounds b) (ly : y < 4294967296) where
    pub part_inner : ltb (k + 1) c.count && ltb x y ≡ true → IsPart bounds bs k (record { from = x; past = y - 1 })
    part_inner t =
        let l : k + 1 < c.count = ltb-true (k + 1) c.count (left_true (ltb (k + 1) c.count) (ltb x y) t) in
        let m : x < y = ltb-true x y (right_true (ltb (k + 1) c.count) (ltb x y) t) in
        let i = inner (omega (arith, more, l)) in
        record { from = ex; past = omega (arith, ex, ey, i, m); fits = omega (arith, ey); low = omega arith }

    pub part_outer : ltb (k + 1) c.count && ltb x y ≡ false → IsPart bounds bs k (record { from = x; past = y })
    part_outer t = record { from = ex; past = go (lt? 0 (length bs - (k + 1))); fits = omega (arith, ey); low = omega arith }
      where
        o : start_in bounds b ≤ end_past bounds b
        o = (s.each k h).order

        none : k + 1 < c.count → y ≤ x
        none l = ltb-false x y (sym (ap (λ (z : Bool). z && ltb x y) (lt-ltb (k + 1) c.count l)) ∙ t)

        go : (0 < length bs - (k + 1)) ⊎ (length bs - (k + 1) ≤ 0) → y ≡ x + kept_in bounds b (length bs - (k + 1))
        go (inl l) = let i = inner l in let m = none (omega (arith, more, l)) in omega (arith, ex, ey, i, m, o)
        go (inr l) = let i = outer l in omega (arith, ex, ey, i, o)

-- ---- how many

module _ (bounds bs : List ℕ) where
  pub record Counted (n k : ℕ) : Type 0 where
    pub upto : k ≤ length bs
    pub low : n ≤ k * 4294967296
    pub same : (P : Picture) → P.bounds ≡ bounds → n + length (chain_places P (drop k bs)) ≡ length (chain_places P bs)

  pub counted_more : {n k : ℕ} (r : Part) → Counted n k → k < length bs → IsPart bounds bs k r → Counted (n + (r.past - r.from)) (k + 1)
  counted_more {n} {k} r c h i = record {
    upto = omega arith;
    low = omega (arith, c.low, i.low);
    same = λ P e.
        let s = c.same P e in
        let t = ap length (part_step P e bs k r i h) ∙ length-append (range r.from (r.past - r.from)) (chain_places P (drop (k + 1) bs)) in
        let u = length_range r.from (r.past - r.from) in
        omega (arith, s, t, u);
  }

  pub counted_end : {n k : ℕ} → Counted n k → length bs ≤ k → (P : Picture) → P.bounds ≡ bounds → n ≡ length (chain_places P bs)
  counted_end {n} {k} c h P e =
      let z : length (chain_places P (drop k bs)) ≡ 0 = ap (λ (l : List ℕ). length (chain_places P l)) (drop_of_length-le bs {i = k} h) in
      omega (arith, z, c.same P e)

pub counted_none : (bounds bs : List ℕ) → Counted bounds bs 0 0
counted_none bounds bs = record { upto = omega arith; low = omega arith; same = λ P e. zero-add (length (chain_places P bs)) }
