-- The blocks of a chain, by their number. Assumes nothing.
use mathlib.Core.Bool.{Bool, ◌||◌}
use mathlib.Core.List.{List, [], ◌∷◌, ◌++◌, map}
use mathlib.Core.Logic.{⊎_elim}
use mathlib.Core.Path.{◌≡◌, refl, sym, ap, ap₂, ◌∙◌, subst}
use Prim.Native.Nat.{ℕ, ◌+◌, ◌-◌, ◌≤◌, ◌<◌}
use native.Mathlib.Nat.{zero-add}
use native.Mathlib.Numerals.{add-one}
use native.Mathlib.Decide.{ℕ_discrete}
use native.Mathlib.Omega.{arith}
use borrow.Author.Tests.{eq-eqb, ne_eqb}
use lib.Dec.{eqb}
use lib.ListN.{get_or, length, take, get_or-append}
use lib.Seq.{get_or-append_seam}
use Rattle.std.specs.List.{list_any}
use Rattle.std.proofs.Common.{set}
use Rattle.std.proofs.lemmas.List.{get_or-set_same, get_or-set_other}
use Rattle.words.specs.Lists.{mem, range}
use Rattle.words.proofs.Lists.{length_made, get_or-made, made_snoc, made_ext, made_part, map_map}
use Rattle.words.proofs.Parts.{below_split}
use Rattle.inst.specs.declared.index.BlockId.{BlockId}
use Rattle.inst.specs.contracts.index.BlockIdPartialEq as Same
use Rattle.chains.specs.declared.chain.Chain.{Chain}
use Rattle.chains.specs.Chain.{block_at, blocks_of, last_of, Few, Sound}

abbrev pub same_block : BlockId → BlockId → Bool
same_block = (Same.TheImpl.ghosts).eq

-- ---- how many there are, and each of them

pub blocks_long : {c : Chain} → Few c → length (blocks_of c) ≡ c.count
unfolding blocks_of
blocks_long {c} h = length_made (block_at c) 0 c.count

pub nth_is : (c : Chain) {k : ℕ} → k < c.count → block_at c k ≡ get_or (blocks_of c) k 0
unfolding blocks_of
nth_is c {k} h = sym (get_or-made (block_at c) 0 0 c.count k h ∙ ap (block_at c) (zero-add k))

-- one more
module _ (c : Chain) (b : BlockId) (h : c.count < length c.blocks) where
  abbrev more : List BlockId
  more = set c.blocks c.count b

  with_is : (t f : BlockId) → blocks_of (record { blocks = more; count = c.count + 1; t = t; f = f }) ≡ blocks_of c ++ (b.0 ∷ [])
  unfolding blocks_of
  with_is t f =
      let at : ℕ → ℕ = λ k. (get_or more k (record { 0 = 0 })).0 in
      let new : at (0 + c.count) ≡ b.0 = ap at (zero-add c.count) ∙ ap (λ (x : BlockId). x.0) (get_or-set_same c.blocks c.count b (record { 0 = 0 }) h) in
      ap (λ (n : ℕ). map at (range 0 n)) (add-one c.count) ∙ made_snoc at 0 c.count
      ∙ ap (λ (x : ℕ). map at (range 0 c.count) ++ (x ∷ [])) new
      ∙ ap (λ (xs : List ℕ). xs ++ (b.0 ∷ [])) (made_ext at (block_at c) 0 c.count (λ k s l. ap (λ (x : BlockId). x.0) (get_or-set_other c.blocks c.count k b (record { 0 = 0 }) (λ e. omega (arith, l, e)))))

  pub with_one : (t f : BlockId) → (blocks_of (record { blocks = more; count = c.count + 1; t = t; f = f }) ≡ blocks_of c ++ (b.0 ∷ [])) × (c.count + 1 ≡ c.count + 1)
  with_one t f = (with_is t f, refl)

-- ---- is a block among them?

turned : (x y : ℕ) → eqb x y ≡ eqb y x
turned x y = go (ℕ_discrete x y)
  where
    go : Dec (x ≡ y) → eqb x y ≡ eqb y x
    go (yes e) = eq-eqb x y e ∙ sym (eq-eqb y x (sym e))
    go (no n) = ne_eqb x y n ∙ sym (ne_eqb y x (λ e. n (sym e)))

among : (b : BlockId) (ys : List BlockId) → list_any (λ y. same_block y b) ys ≡ mem b.0 (map (λ y. y.0) ys)
among b [] = refl
among b (y ∷ ys) = ap₂ (λ (p q : Bool). p || q) (turned y.0 b.0) (among b ys)

pub has_is : (c : Chain) (b : BlockId) → c.count ≤ length c.blocks → list_any (λ y. same_block y b) (take c.count c.blocks) ≡ mem b.0 (blocks_of c)
unfolding blocks_of
has_is c b h =
    among b (take c.count c.blocks)
    ∙ ap (λ (ys : List BlockId). mem b.0 (map (λ y. y.0) ys)) (sym (made_part (λ k. get_or c.blocks k (record { 0 = 0 })) (record { 0 = 0 }) c.blocks (λ p l. refl) c.count 0 (omega (arith, h))))
    ∙ ap (mem b.0) (map_map (λ (y : BlockId). y.0) (λ k. get_or c.blocks k (record { 0 = 0 })) (range 0 c.count))

-- ---- the last of them

pub last_below : {c : Chain} {B : ℕ} → Sound c B → last_of c < B
unfolding last_of
last_below {c} {B} s = s.each (c.count - 1) (omega (arith, s.few.least))

pub sound_start : (c : Chain) {x B : ℕ} → blocks_of c ≡ x ∷ [] → c.count ≡ 1 → x < B → Sound c B
sound_start c {x} {B} eb en h = record {
  few = record { least = omega (arith, en); most = omega (arith, en) };
  each = λ k l. let z : k ≡ 0 = omega (arith, en, l) in subst (λ (n : ℕ). n < B) (sym (ap (λ (j : ℕ). get_or (blocks_of c) j 0) z ∙ ap (λ (l : List ℕ). get_or l 0 0) eb)) h;
}

-- ---- one block more

module _ {c : Chain} (d : Chain) {B : ℕ} (b : ℕ) (s : Sound c B) (h : c.count < 6) (eb : blocks_of d ≡ blocks_of c ++ (b ∷ [])) (en : d.count ≡ c.count + 1) where
  pub last_more : last_of d ≡ b
  unfolding last_of
  last_more =
      let e : d.count - 1 ≡ length (blocks_of c) = omega (arith, en, blocks_long s.few) in
      ap (λ (k : ℕ). get_or (blocks_of d) k 0) e ∙ ap (λ (l : List ℕ). get_or l (length (blocks_of c)) 0) eb ∙ get_or-append_seam (blocks_of c) b [] 0

  at_more : (k : ℕ) → k < c.count → get_or (blocks_of d) k 0 ≡ get_or (blocks_of c) k 0
  at_more k l = ap (λ (x : List ℕ). get_or x k 0) eb ∙ get_or-append (blocks_of c) (b ∷ []) 0 k (rw (blocks_long s.few) l)

  pub sound_more : b < B → Sound d B
  sound_more l = record {
    few = record { least = omega (arith, en); most = omega (arith, en) };
    each = λ k r. ⊎_elim (λ (q : k < c.count). subst (λ (x : ℕ). x < B) (sym (at_more k q)) (s.each k q)) (λ (q : k ≡ c.count). subst (λ (x : ℕ). x < B) (sym (end k q)) l) (below_split k c.count (omega (arith, en, r)));
  }
    where
      end : (k : ℕ) → k ≡ c.count → get_or (blocks_of d) k 0 ≡ b
      end k q = ap (λ (k : ℕ). get_or (blocks_of d) k 0) (q ∙ sym (blocks_long s.few)) ∙ ap (λ (l : List ℕ). get_or l (length (blocks_of c)) 0) eb ∙ get_or-append_seam (blocks_of c) b [] 0
