-- One word's step is progress, and progress composes: over the words of a row, the successors of a block, the blocks.
-- Assumes nothing.
use mathlib.Core.Path.{◌≡◌, refl, sym, ap, ap₂, ◌∙◌, subst}
use mathlib.Core.Logic.{◌⊎◌, ◌≢◌, inl, inr, ⊎_elim}
use mathlib.Core.Bool.{Bool, true, false, not, ◌||◌, false≢true}
use mathlib.Core.List.{List}
use Prim.Native.Nat.{ℕ, ◌+◌, ◌-◌, ◌*◌, ◌/◌, ◌%◌, ◌^◌, ◌≤◌, ◌<◌, min, max}
use native.Mathlib.Nat.{le_refl, le_trans, le_antisymm, le-max_left, le-max_right, add_assoc}
use native.Mathlib.Decide.{ℕ_discrete}
use native.Mathlib.Omega.{arith}
use lib.Bits.{bit_and, or_lt, and_le_r}
use lib.Dec.{eqb}
use lib.ListN.{length, get_or, set, drop, length-set}
use lib.Seq.{get_or-drop, set-get_or, get_or-set_same, get_or-set_other, drop-set-lt}
use borrow.Author.Tests.{eqb-true, eqb-false, not-true, not-false}
use Rattle.words.specs.Bits.{digit, room}
use Rattle.words.proofs.Digits.{digit_or, digit-and_not, le_or}
use Rattle.words.proofs.Rows.{room_set}
use Rattle.words.proofs.Parts.{row_fits, cell_inj, below_split}
use Rattle.defuse.specs.Sets.{Room}
use Rattle.flow.specs.Progress.{cell, raised, Among, Progress}

-- ---- one word

pub raised_lt : (l : List ℕ) (a c d : ℕ) → get_or l a 0 < 2 ^ 64 → raised l a c d < 2 ^ 64
raised_lt l a c d h = or_lt 64 _ _ h (omega (arith, and_le_r (get_or l c 0) (2 ^ 64 - 1 - get_or l d 0)))

module _ (l : List ℕ) (n w b s i : ℕ) (ds : List ℕ) (e : drop (n * w) l ≡ ds) (fits : Room n w l) (hb : b < n) (hs : s < n) (hi : i < w)
    (fv : raised l (b * w + i) (s * w + i) (n * w + b * w + i) < 2 ^ 64) (fd : get_or l (n * w + b * w + i) 0 < 2 ^ 64) where
  abbrev v : ℕ
  v = raised l (b * w + i) (s * w + i) (n * w + b * w + i)

  abbrev next : List ℕ
  next = set l (b * w + i) v

  own : b * w + i < n * w
  own = omega (arith, row_fits w hb)

  inside : b * w + i < length l
  inside = omega (arith, row_fits w hb, fits.fits)

  -- what block b writes, at a place of word i
  kill : (q : ℕ) → q / 64 ≡ i → digit (get_or l (n * w + b * w + i) 0) (q % 64) ≡ cell ds w b q
  unfolding cell
  kill q h = ap (λ (x : ℕ). digit (get_or l x 0) (q % 64)) (add_assoc (n * w) (b * w) i) ∙ ap (λ (x : ℕ). digit x (q % 64)) (sym (get_or-drop (n * w) l (b * w + i) 0))
      ∙ ap (λ (x : List ℕ). digit (get_or x (b * w + i) 0) (q % 64)) e ∙ ap (λ (x : ℕ). digit (get_or ds (b * w + x) 0) (q % 64)) (sym h)

  here : (x q : ℕ) → q / 64 ≡ i → digit (get_or l (x * w + i) 0) (q % 64) ≡ cell l w x q
  unfolding cell
  here x q h = ap (λ (y : ℕ). digit (get_or l (x * w + y) 0) (q % 64)) (sym h)

  -- the bits of the new word
  bits : (q : ℕ) → q / 64 ≡ i → digit v (q % 64) ≡ max (cell l w b q) (min (cell l w s q) (1 - cell ds w b q))
  bits q h =
      let k : q % 64 < 64 = omega arith in
      digit_or (get_or l (b * w + i) 0) (bit_and (get_or l (s * w + i) 0) (2 ^ 64 - 1 - get_or l (n * w + b * w + i) 0)) (q % 64)
      ∙ ap₂ max (here b q h) (digit-and_not (get_or l (s * w + i) 0) (get_or l (n * w + b * w + i) 0) (q % 64) fd k ∙ ap₂ (λ (x y : ℕ). min x (1 - y)) (here s q h) (kill q h))

  there : (q : ℕ) → q / 64 ≡ i → cell next w b q ≡ max (cell l w b q) (min (cell l w s q) (1 - cell ds w b q))
  unfolding cell
  there q h =
      ap (λ (x : ℕ). digit (get_or next (b * w + x) 0) (q % 64)) h ∙ ap (λ (x : ℕ). digit x (q % 64)) (get_or-set_same l (b * w + i) v 0 inside) ∙ bits q h

  else : (x q : ℕ) → x * w + q / 64 ≢ b * w + i → cell next w x q ≡ cell l w x q
  unfolding cell
  else x q h = ap (λ (y : ℕ). digit y (q % 64)) (get_or-set_other l (b * w + i) (x * w + q / 64) v 0 h)

  word : (q : ℕ) → q < 64 * w → q / 64 < w
  word q h = omega arith

  -- a cell of the new word, or one of another
  at? : (x q : ℕ) → q < 64 * w → ((x ≡ b) × (q / 64 ≡ i)) ⊎ (x * w + q / 64 ≢ b * w + i)
  at? x q h = elim (ℕ_discrete (x * w + q / 64) (b * w + i)) [ yes p ↦ inl (cell_inj hi (word q h) p) | no p ↦ inr p ]

  grow : (x q : ℕ) → q < 64 * w → cell l w x q ≤ cell next w x q
  grow x q h = go (at? x q h)
    where
      go : ((x ≡ b) × (q / 64 ≡ i)) ⊎ (x * w + q / 64 ≢ b * w + i) → cell l w x q ≤ cell next w x q
      go (inl p) = rw p.0 (rw (there q p.1) (le-max_left _ _))
      go (inr p) = rw (else x q p) (le_refl (cell l w x q))

  below : (q : ℕ) → q < 64 * w → (y : ℕ → ℕ) → ((c x : ℕ) → (c ≡ b) × (x ≡ s) × (q / 64 ≡ i) → min (y x) (1 - cell ds w c q) ≤ y c)
      → ((c : ℕ) → c < n → cell l w c q ≤ y c) → (c : ℕ) → c < n → cell next w c q ≤ y c
  below q h y up le c hc = go (at? c q h)
    where
      go : ((c ≡ b) × (q / 64 ≡ i)) ⊎ (c * w + q / 64 ≢ b * w + i) → cell next w c q ≤ y c
      go (inl p) = rw p.0 (rw (there q p.1) (omega (arith, le b hb, le s hs, up b s (refl, refl, p.1))))
      go (inr p) = rw (else c q p) (le c hc)

  pub raise_progress : (r : Bool) (m : List ℕ) → m ≡ next → r ≡ not (eqb v (get_or l (b * w + i) 0)) → Progress n w ds (λ c x j. (c ≡ b) × (x ≡ s) × (j ≡ i)) l m r
  raise_progress r m em er = rw (er, em) (record {
    size = length-set l (b * w + i) v;
    rest = drop-set-lt (n * w) l (b * w + i) v own ∙ e;
    mono = omega (arith, room_set l (b * w + i) v inside, le_or (get_or l (b * w + i) 0) (bit_and (get_or l (s * w + i) 0) (2 ^ 64 - 1 - get_or l (n * w + b * w + i) 0)));
    less = λ (t : not (eqb v (get_or l (b * w + i) 0)) ≡ true). let ne : v ≢ get_or l (b * w + i) 0 = eqb-false _ _ (not-true _ t) in
        omega (arith, room_set l (b * w + i) v inside, le_or (get_or l (b * w + i) 0) (bit_and (get_or l (s * w + i) 0) (2 ^ 64 - 1 - get_or l (n * w + b * w + i) 0)));
    same = λ t. ap (set l (b * w + i)) (eqb-true _ _ (not-false _ t)) ∙ set-get_or l (b * w + i) 0;
    grow = grow;
    fresh = λ c x q d h. rw (d.0, d.1) (rw (there q d.2) (le-max_right _ _));
    still = λ c j no_one hj. get_or-set_other l (b * w + i) (c * w + j) v 0 (λ p. let z = cell_inj hi hj p in no_one s (z.0, refl, z.1));
    below = below;
  })

-- ---- nothing, and one part after another

or_false : (r r' : Bool) → (r || r') ≡ false → (r ≡ false) × (r' ≡ false)
or_false true r' t = absurd (false≢true (sym t))
or_false false r' t = (refl, t)

or_true : (r r' : Bool) → (r || r') ≡ true → (r ≡ true) ⊎ (r' ≡ true)
or_true true r' t = inl refl
or_true false r' t = inr t

module _ {n w : ℕ} {ds : List ℕ} where
  pub nothing : {D : ℕ → ℕ → ℕ → Type 0} (l : List ℕ) → drop (n * w) l ≡ ds → ((b s i : ℕ) → D b s i → ⊥) → Progress n w ds D l l false
  nothing l e none = record {
    size = refl;
    rest = e;
    mono = le_refl (room l);
    less = λ t. absurd (false≢true t);
    same = λ t. refl;
    grow = λ b q h. le_refl (cell l w b q);
    fresh = λ b s q d. absurd (none b s (q / 64) d);
    still = λ b i no_one h. refl;
    below = λ q h y up le. le;
  }

  pub after : {D D' D'' : ℕ → ℕ → ℕ → Type 0} {l m k : List ℕ} {r r' : Bool}
      → ((b s i : ℕ) → D'' b s i → D b s i ⊎ D' b s i) → ((b s i : ℕ) → D b s i → D'' b s i) → ((b s i : ℕ) → D' b s i → D'' b s i)
      → Progress n w ds D l m r → Progress n w ds D' m k r' → Progress n w ds D'' l k (r || r')
  after {D} {D'} {D''} {l} {m} {k} {r} {r'} part in₁ in₂ p p' = record {
    size = p'.size ∙ p.size;
    rest = p'.rest;
    mono = le_trans p'.mono p.mono;
    less = λ t. ⊎_elim (λ u. let z = p.less u in omega (arith, p'.mono)) (λ u. let z = p'.less u in omega (arith, p.mono)) (or_true r r' t);
    same = λ t. p'.same (or_false r r' t).1 ∙ p.same (or_false r r' t).0;
    grow = λ b q h. le_trans (p.grow b q h) (p'.grow b q h);
    fresh = λ b s q d h.
        ⊎_elim (λ u. le_trans (p.fresh b s q u h) (p'.grow b q h)) (λ u. let z = p'.fresh b s q u h in let g = p.grow s q h in omega arith) (part b s (q / 64) d);
    still = λ b i no_one h. p'.still b i (λ s d. no_one s (in₂ b s i d)) h ∙ p.still b i (λ s d. no_one s (in₁ b s i d)) h;
    below = λ q h y up le. p'.below q h y (λ b s d. up b s (in₂ b s (q / 64) d)) (p.below q h y (λ b s d. up b s (in₁ b s (q / 64) d)) le);
  }

  -- the same edges, named otherwise
  pub recast : {D D' : ℕ → ℕ → ℕ → Type 0} {l m : List ℕ} {r : Bool} → ((b s i : ℕ) → D' b s i → D b s i) → ((b s i : ℕ) → D b s i → D' b s i)
      → Progress n w ds D l m r → Progress n w ds D' l m r
  recast out in₁ p = record {
    size = p.size;
    rest = p.rest;
    mono = p.mono;
    less = p.less;
    same = p.same;
    grow = p.grow;
    fresh = λ b s q d. p.fresh b s q (out b s (q / 64) d);
    still = λ b i no_one. p.still b i (λ s d. no_one s (in₁ b s i d));
    below = λ q h y up. p.below q h y (λ b s d. up b s (in₁ b s (q / 64) d));
  }

-- what the later part takes from the same rest
pub onto : {n w : ℕ} {ds l m : List ℕ} {D : ℕ → ℕ → ℕ → Type 0} {r : Bool} → drop (n * w) l ≡ ds → Progress n w (drop (n * w) l) D l m r → Progress n w ds D l m r
onto {n} {w} {ds} {l} {m} {D} {r} e p = subst (λ (x : List ℕ). Progress n w x D l m r) e p

-- one more word of an edge
pub row_more : {n w : ℕ} {ds l m k : List ℕ} {r r' : Bool} {b s i : ℕ} → Progress n w ds (λ c x j. (c ≡ b) × (x ≡ s) × (j < i)) l m r
    → Progress n w ds (λ c x j. (c ≡ b) × (x ≡ s) × (j ≡ i)) m k r' → Progress n w ds (λ c x j. (c ≡ b) × (x ≡ s) × (j < i + 1)) l k (r || r')
row_more {i = i} = after (λ c x j d. ⊎_elim (λ u. inl (d.0, d.1, u)) (λ u. inr (d.0, d.1, u)) (below_split j i d.2))
    (λ c x j d. (d.0, d.1, let u = d.2 in omega arith)) (λ c x j d. (d.0, d.1, let u = d.2 in omega arith))

module _ {n w : ℕ} {ds l m k : List ℕ} {b : ℕ} {r r' : Bool} where
  -- one more successor of a block
  pub edge_more : (ss : List ℕ) {j s : ℕ} → s ≡ get_or ss j 0 → Progress n w ds (λ c x i. (c ≡ b) × Among ss j x × (i < w)) l m r
      → Progress n w ds (λ c x i. (c ≡ b) × (x ≡ s) × (i < w)) m k r' → Progress n w ds (λ c x i. (c ≡ b) × Among ss (j + 1) x × (i < w)) l k (r || r')
  edge_more ss {j} {s} e = after
      (λ c x i d. ⊎_elim (λ u. inl (d.0, (d.1.0, u, d.1.2), d.2)) (λ u. inr (d.0, d.1.2 ∙ ap (λ (y : ℕ). get_or ss y 0) u ∙ sym e, d.2)) (below_split d.1.0 j d.1.1))
      (λ c x i d. (d.0, (d.1.0, (let u = d.1.1 in omega arith), d.1.2), d.2))
      (λ c x i d. (d.0, (j, omega arith, d.1 ∙ e), d.2))

module _ {n w : ℕ} {ds l m : List ℕ} {b : ℕ} {r : Bool} where
  -- all words, all successors
  pub row_all : {s i : ℕ} → i ≤ w → w ≤ i → Progress n w ds (λ c x j. (c ≡ b) × (x ≡ s) × (j < i)) l m r
      → Progress n w ds (λ c x j. (c ≡ b) × (x ≡ s) × (j < w)) l m r
  row_all {s} h g p = subst (λ (k : ℕ). Progress n w ds (λ c x j. (c ≡ b) × (x ≡ s) × (j < k)) l m r) (le_antisymm h g) p

  pub edge_all : (ss : List ℕ) {j : ℕ} → j ≤ length ss → length ss ≤ j → Progress n w ds (λ c x i. (c ≡ b) × Among ss j x × (i < w)) l m r
      → Progress n w ds (λ c x i. (c ≡ b) × Among ss (length ss) x × (i < w)) l m r
  edge_all ss h g p = subst (λ (k : ℕ). Progress n w ds (λ c x i. (c ≡ b) × Among ss k x × (i < w)) l m r) (le_antisymm h g) p

pub room_kept : {n w : ℕ} {l : List ℕ} (m : List ℕ) → length m ≡ length l → Room n w l → Room n w m
room_kept m e r = record { fits = omega (arith, r.fits) }

-- ---- the blocks, down or up

-- every edge of the blocks that P names
abbrev pub Blocks : (ℕ → Type 0) → ℕ → (ℕ → List ℕ) → ℕ → ℕ → ℕ → Type 0
Blocks P w succ c x i = P c × Among (succ c) (length (succ c)) x × (i < w)

-- one more block
pub block_more : {n w b : ℕ} {ds l m k : List ℕ} {r r' : Bool} (P P' : ℕ → Type 0) (succ : ℕ → List ℕ) (ss : List ℕ) → ss ≡ succ b
    → ((c : ℕ) → P' c → P c ⊎ (c ≡ b)) → ((c : ℕ) → P c → P' c) → ((c : ℕ) → c ≡ b → P' c)
    → Progress n w ds (Blocks P w succ) l m r → Progress n w ds (λ c x i. (c ≡ b) × Among ss (length ss) x × (i < w)) m k r'
    → Progress n w ds (Blocks P' w succ) l k (r || r')
block_more {b = b} P P' succ ss e part in₁ in₂ = after
    (λ c x i d. ⊎_elim (λ u. inl (u, d.1, d.2)) (λ (u : c ≡ b). inr (u, subst (λ (l : List ℕ). Among l (length l) x) (ap succ u ∙ sym e) d.1, d.2)) (part c d.0))
    (λ c x i d. (in₁ c d.0, d.1, d.2))
    (λ c x i d. (in₂ c d.0, subst (λ (l : List ℕ). Among l (length l) x) (e ∙ ap succ (sym d.0)) d.1, d.2))
