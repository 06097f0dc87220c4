-- What an answer of `new` tells of the number, and a number of what `new` makes of it. Assumes nothing.
use Rattle.std.specs.Prelude.{Option, Some, None}
use mathlib.Core.Bool.{Bool, true, false}
use mathlib.Core.Path.{◌≡◌, refl, ap, sym, ◌∙◌, subst}
use Prim.Native.Nat.{ℕ, ◌≤◌, ◌<◌}
use native.Mathlib.Omega.{arith}
use lib.Dec.{eqb, ltb}
use borrow.Author.Tests.{eqb-true, eqb-false, ltb-true, ltb-false, le-ltb}
use mathlib.Core.Logic.{◌⊎◌, inl, inr}
use Rattle.model.specs.Picture.{absent}
use Rattle.inst.specs.Index.{block_of, reg_of, pick, word_of, Among}
use Rattle.inst.specs.declared.index.Reg.{Reg}
use Rattle.inst.specs.declared.index.BlockId.{BlockId}

abbrev block_number : Option BlockId → ℕ
block_number (Some b) = b.0
block_number None = 0

-- of a longer list too
among_more : {count more : ℕ} → count ≤ more → (d : Option Reg) → Among count d → Among more d
among_more h (Some k) a = (omega (arith, h, a.0), a.1)
among_more h None a = tt

-- absent is no register, by as many as a list can have
pub none_made : (count : ℕ) {n : ℕ} → n ≡ absent → count ≤ absent → None ≡ reg_of n count
unfolding reg_of
none_made count {n} e h = sym (ap (λ (b : Bool). pick {A = Reg} b (record { 0 = n })) (le-ltb n count (omega arith)))

module _ (n count : ℕ) where
  pub is_block : (r : BlockId) → block_of n count ≡ Some r → (n ≡ r.0) × (n < count)
  unfolding block_of
  is_block r = go (ltb n count) refl
    where
      go : (b : Bool) → ltb n count ≡ b → pick b (record { 0 = n }) ≡ Some r → (n ≡ r.0) × (n < count)
      go true e q = (ap block_number q, ltb-true n count e)
      go false e q = let z : ◌≡◌ {A = ℕ} 0 1 = cc in absurd (omega arith)

  pub not_block : block_of n count ≡ None → count ≤ n
  unfolding block_of
  not_block = go (ltb n count) refl
    where
      go : (b : Bool) → ltb n count ≡ b → pick {A = BlockId} b (record { 0 = n }) ≡ None → count ≤ n
      go true e q = let z : ◌≡◌ {A = ℕ} 0 1 = cc in absurd (omega arith)
      go false e q = ltb-false n count e

  -- ---- a register's number

  pub is_reg : (r : Reg) → reg_of n count ≡ Some r → (n ≡ r.0) × (n < count)
  unfolding reg_of
  is_reg r = go (ltb n count) refl
    where
      go : (b : Bool) → ltb n count ≡ b → pick b (record { 0 = n }) ≡ Some r → (n ≡ r.0) × (n < count)
      go true e q = (ap word_of q, ltb-true n count e)
      go false e q = let z : ◌≡◌ {A = ℕ} 0 1 = cc in absurd (omega arith)

  pub not_reg : reg_of n count ≡ None → count ≤ n
  unfolding reg_of
  not_reg = go (ltb n count) refl
    where
      go : (b : Bool) → ltb n count ≡ b → pick {A = Reg} b (record { 0 = n }) ≡ None → count ≤ n
      go true e q = let z : ◌≡◌ {A = ℕ} 0 1 = cc in absurd (omega arith)
      go false e q = ltb-false n count e

  pub among_of : count ≤ absent → Among count (reg_of n count)
  unfolding reg_of
  among_of h = go (ltb n count) refl
    where
      go : (b : Bool) → ltb n count ≡ b → Among count (pick b (record { 0 = n }))
      go true e = let l = ltb-true n count e in (l, omega arith)
      go false e = tt

  -- a word that is absent, or a register's, comes back as it was
  pub word_of_reg : (n ≡ absent) ⊎ (n < count) → word_of (reg_of n count) ≡ n
  unfolding reg_of
  word_of_reg h = go (ltb n count) refl h
    where
      go : (b : Bool) → ltb n count ≡ b → (n ≡ absent) ⊎ (n < count) → word_of (pick b (record { 0 = n })) ≡ n
      go true e h = refl
      go false e (inl a) = sym a
      go false e (inr l) = let g = ltb-false n count e in absurd (omega arith)

  -- what is made of such a word, by as many registers as a list can have
  pub reg_made : count ≤ absent → (n ≡ absent) ⊎ (n < count) → {m : Option Reg} → m ≡ reg_of n count → Among count m × (word_of m ≡ n)
  reg_made few h e = (subst (Among count) (sym e) (among_of few), ap word_of e ∙ word_of_reg h)

  -- a word that is below the count unless it is absent comes back as it was
  word_back : ((n ≡ absent → ⊥) → n < count) → word_of (reg_of n count) ≡ n
  word_back h = word_of_reg (go (eqb n absent) refl)
    where
      go : (b : Bool) → eqb n absent ≡ b → (n ≡ absent) ⊎ (n < count)
      go true e = inl (eqb-true n absent e)
      go false e = inr (h (eqb-false n absent e))

  -- what was made of the word n by a count that is `count`
  module _ {c : ℕ} {d : Option Reg} (made : d ≡ reg_of n c) (is : c ≡ count) where
    by_count : reg_of n count ≡ d
    by_count = sym (made ∙ ap (reg_of n) is)

    -- among the registers of a longer list
    pub among_made : (more : ℕ) → count ≤ absent → count ≤ more → Among more d
    among_made more few h = subst (Among more) by_count (among_more h (reg_of n count) (among_of few))

    pub word_made : ((n ≡ absent → ⊥) → n < count) → word_of d ≡ n
    word_made h = sym (ap word_of by_count) ∙ word_back h

-- one of count registers, that there is
module _ {count : ℕ} {m : Option Reg} {r : Reg} (e : m ≡ Some r) (a : Among count m) where
  pub below : r.0 < count
  below = (subst (Among count) e a).0

  pub a_reg : (word_of m < count) × (word_of m ≡ absent → ⊥)
  a_reg =
      let in_use : Among count (Some r) = subst (Among count) e a in
      let w : word_of m ≡ r.0 = ap word_of e in
      (omega (arith, in_use.0, w), λ (q : word_of m ≡ absent). omega (arith, in_use.1, w, q))
