-- A cursor goes along a chain: what is left from block to block, and from a position to the next. Assumes nothing.
use mathlib.Core.Bool.{Bool, true, false, ◌&&◌}
use mathlib.Core.List.{List, [], ◌∷◌, ◌++◌}
use mathlib.Core.Path.{◌≡◌, refl, sym, ap, ◌∙◌}
use Prim.Native.Nat.{ℕ, suc, ◌+◌, ◌-◌, ◌≤◌, ◌<◌}
use native.Mathlib.Numerals.{add-one}
use native.Mathlib.Omega.{arith}
use lib.Dec.{leb, ltb}
use borrow.Author.Tests.{le-leb, leb-true, ltb-true, ltb-false}
use Rattle.words.proofs.Bools.{left_true, right_true}
use lib.ListN.{length, drop, drop_of_length-le}
use Rattle.words.specs.Lists.{range}
use Rattle.model.specs.Picture.{Picture}
use Rattle.model.specs.Move.{chain_places}
use Rattle.chains.specs.declared.chain.Chain.{Chain}
use Rattle.chains.specs.declared.places.Part.{Part}
use Rattle.chains.specs.declared.cursor.Cursor.{Cursor}
use Rattle.chains.specs.Chain.{blocks_of}
use Rattle.chains.specs.Places.{Laid, IsPart}
use Rattle.chains.specs.Cursor.{left_of, Inside, Standing}
use Rattle.chains.proofs.Struct.{blocks_long}
use Rattle.chains.proofs.Laid.{part_step}

none_left : (P : Picture) (bs : List ℕ) (k g past : ℕ) → past ≤ g → left_of P bs k g past ≡ chain_places P (drop (k + 1) bs)
unfolding left_of
none_left P bs k g past h = let z : past - g ≡ 0 = omega arith in ap (λ (n : ℕ). range g n ++ chain_places P (drop (k + 1) bs)) z

-- one position
one_left : (P : Picture) (bs : List ℕ) (k g past : ℕ) → g < past → left_of P bs k g past ≡ g ∷ left_of P bs k (g + 1) past
unfolding left_of
one_left P bs k g past h =
    let z : past - g ≡ suc (past - (g + 1)) = omega arith in
    ap (λ (n : ℕ). range g n ++ chain_places P (drop (k + 1) bs)) z
    ∙ ap (λ (m : ℕ). g ∷ (range m (past - (g + 1)) ++ chain_places P (drop (k + 1) bs))) (sym (add-one g))

-- a block with all its positions
block_left : (P : Picture) {bounds bs : List ℕ} (k : ℕ) (x : Part) → P.bounds ≡ bounds → IsPart bounds bs k x → k < length bs → chain_places P (drop k bs) ≡ left_of P bs k x.from x.past
unfolding left_of
block_left P {bounds} {bs} k x e i h = part_step P e bs k x i h

block_inside : {bounds : List ℕ} {c : Chain} {k : ℕ} (x : Part) → k < c.count → IsPart bounds (blocks_of c) k x → Inside bounds c k x.from x.past
block_inside x h i = record { block = h; order = omega (arith, i.past); fits = i.fits }

-- ---- over blocks

pub record Seeking (bounds : List ℕ) (c : Chain) (k₀ g₀ past₀ k g past : ℕ) : Type 0 where
  pub inside : Inside bounds c k g past
  pub same : (P : Picture) → P.bounds ≡ bounds → left_of P (blocks_of c) k₀ g₀ past₀ ≡ left_of P (blocks_of c) k g past

pub seeking_none : {bounds : List ℕ} {c : Chain} {k g past : ℕ} → Inside bounds c k g past → Seeking bounds c k g past k g past
seeking_none i = record { inside = i; same = λ P e. refl }

pub seeking_more : {bounds : List ℕ} {c : Chain} {k₀ g₀ past₀ k g past : ℕ} (x : Part) → Laid bounds c → Seeking bounds c k₀ g₀ past₀ k g past → past ≤ g → k + 1 < c.count → IsPart bounds (blocks_of c) (k + 1) x → Seeking bounds c k₀ g₀ past₀ (k + 1) x.from x.past
seeking_more {bounds} {c} {k₀} {g₀} {past₀} {k} {g} {past} x s q h l i = record {
  inside = block_inside x l i;
  same = λ P e. q.same P e ∙ none_left P (blocks_of c) k g past h ∙ block_left P (k + 1) x e i (rw (blocks_long s.few) l);
}

-- the test of the loop: no position is left of the block, and there is another
module _ (x : Cursor) (n : ℕ) where
  pub at_end : (leb x.past x.g && ltb (x.k + 1) n) ≡ true → x.past ≤ x.g
  at_end t = leb-true x.past x.g (left_true (leb x.past x.g) (ltb (x.k + 1) n) t)

  pub more_blocks : (leb x.past x.g && ltb (x.k + 1) n) ≡ true → x.k + 1 < n
  more_blocks t = ltb-true (x.k + 1) n (right_true (leb x.past x.g) (ltb (x.k + 1) n) t)

  no_more : (leb x.past x.g && ltb (x.k + 1) n) ≡ false → x.past ≤ x.g → n ≤ x.k + 1
  no_more t h = ltb-false (x.k + 1) n (sym (ap (λ (b : Bool). b && ltb (x.k + 1) n) (le-leb x.past x.g h)) ∙ t)

pub stands : {bounds : List ℕ} {c : Chain} {k₀ g₀ past₀ : ℕ} (x : Cursor) → Seeking bounds c k₀ g₀ past₀ x.k x.g x.past → (leb x.past x.g && ltb (x.k + 1) c.count) ≡ false
    → Standing bounds c x × ((P : Picture) → P.bounds ≡ bounds → left_of P (blocks_of c) k₀ g₀ past₀ ≡ left_of P (blocks_of c) x.k x.g x.past)
stands {c = c} x s t = (record { inside = s.inside; ended = no_more x c.count t }, s.same)

-- ---- the first, and the next

pub first_left : (P : Picture) {bounds : List ℕ} {c : Chain} (x : Part) → Laid bounds c → P.bounds ≡ bounds → IsPart bounds (blocks_of c) 0 x → chain_places P (blocks_of c) ≡ left_of P (blocks_of c) 0 x.from x.past
first_left P x s e i = block_left P 0 x e i (rw (blocks_long s.few) s.few.least)

pub next_left : (P : Picture) (bs : List ℕ) (x : Cursor) → x.g < x.past → left_of P bs x.k x.g x.past ≡ x.g ∷ left_of P bs x.k (x.g + 1) x.past
next_left P bs x h = one_left P bs x.k x.g x.past h

-- where the records of its block are at their end, no position is left
pub nothing_left : (P : Picture) {bounds : List ℕ} {c : Chain} {x : Cursor} → Laid bounds c → Standing bounds c x → x.past ≤ x.g → left_of P (blocks_of c) x.k x.g x.past ≡ []
nothing_left P {bounds} {c} {x} s t h =
    none_left P (blocks_of c) x.k x.g x.past h
    ∙ ap (chain_places P) (drop_of_length-le (blocks_of c) {i = x.k + 1} (rw (blocks_long s.few) (t.ended h)))
