-- The block that holds a position; and in the picture lent each instruction's old place is its own. Assumes nothing.
use mathlib.Core.Path.{◌≡◌, refl, sym, ap, ◌∙◌, subst}
use mathlib.Core.Logic.{◌⊎◌, inl, inr, ⊎_elim}
use mathlib.Core.Bool.{Bool, true, false, ◌&&◌}
use Prim.Native.Nat.{ℕ, zero, suc, ◌+◌, ◌-◌, ◌≤◌, ◌<◌}
use native.Mathlib.Nat.{not-suc-le-zero}
use native.Mathlib.Omega.{arith}
use lib.Dec.{leb, ltb}
use lib.ListN.{length, length-map}
use borrow.Author.Tests.{ltb-true, le-leb, lt-ltb}
use Rattle.words.specs.Lists.{In, range}
use Rattle.words.proofs.Bools.{both_true, right_true, clash, eq?, lt?}
use Rattle.words.proofs.Lists.{get_d_map, get_or-range, length_range}
use Rattle.words.proofs.Members.{in_range}
use Rattle.model.specs.Picture.{Picture, nblocks, starts, ends, size, places}
use Rattle.laws.proofs.Accepted.{Accepted}
use Rattle.laws.proofs.Blocks.{in_turn, covered, size_past}
use Rattle.laws.proofs.Sizes.{block_within}
use Rattle.walk.specs.Machine.{Instr, no_instr, instr_at}
use Rattle.walk.specs.Demand.{OwnPlaces}
use Rattle.kept.specs.Walk.{block_of, home}
use Rattle.kept.proofs.Program.{placed, spot, before}

module _ (P : Picture) (ok : Accepted P) where
  pub home_is : (b p : ℕ) → b < nblocks P → starts P b ≤ p → p < ends P b → home P p ≡ b
  home_is b p h l u = go 0 (nblocks P) (omega arith) (omega arith) (omega arith)
    where
      -- blocks are looked through from the first on; a block before b ends before p
      go : (s n : ℕ) → s ≤ b → b < s + n → s + n ≤ nblocks P → block_of P p (range s n) ≡ b
      go s zero a c d = absurd (omega arith)
      go s (suc n) a c d = at (λ k. go (suc s) n k (omega arith) (omega arith)) (leb (starts P s) p && ltb p (ends P s)) refl (eq? s b)
        where
          at : (suc s ≤ b → block_of P p (range (suc s) n) ≡ b) → (t : Bool) → (leb (starts P s) p && ltb p (ends P s)) ≡ t → (s ≡ b) ⊎ (s ≡ b → ⊥)
              → ◌≡◌ {A = ℕ} (elim t as (λ z. ℕ) [ true ↦ s | false ↦ block_of P p (range (suc s) n) ]) b
          at k true e (inl f) = f
          at k true e (inr g) =
              let o = in_turn 0 (length P.locs) P.bounds ok.laid s b (omega arith) h in
              let v = ltb-true p (ends P s) (right_true (leb (starts P s) p) (ltb p (ends P s)) e) in
              absurd (omega arith)
          at k false e (inl f) =
              clash (both_true (leb (starts P s) p) (ltb p (ends P s)) (le-leb (starts P s) p (subst (λ (z : ℕ). starts P z ≤ p) (sym f) l)) (lt-ltb p (ends P s) (subst (λ (z : ℕ). p < ends P z) (sym f) u))) e
          at k false e (inr g) = k (omega arith)

  -- every position lies in its block
  pub in_home : (o : ℕ) → o < length P.locs → (home P o < nblocks P) × (starts P (home P o) ≤ o) × (o < ends P (home P o))
  in_home o h =
      let c = covered 0 (length P.locs) P.bounds ok.laid o (omega arith) h in
      subst (λ (b : ℕ). (b < nblocks P) × (starts P b ≤ o) × (o < ends P b)) (sym (home_is c.0 o c.1 c.2 c.3)) (c.1, c.2, c.3)

  pub home_places : (o : ℕ) → o < length P.locs → In o (places P (home P o))
  home_places o h =
      let z = in_home o h in
      let u = z.1 in
      let v = z.2 in
      in_range o (starts P (home P o)) (size P (home P o)) u (omega arith)

  -- in the picture lent
  pub own_places : OwnPlaces (before P)
  own_places b j h =
      let l : j < size P b = subst (λ (n : ℕ). j < n) (length-map (places P b) (placed (spot P) P) ∙ length_range (starts P b) (size P b)) h in
      let e : instr_at (before P) b j ≡ placed (spot P) P (starts P b + j) =
      get_d_map (placed (spot P) P) 0 no_instr (places P b) j (subst (λ (n : ℕ). j < n) (sym (length_range (starts P b) (size P b))) l) ∙ ap (placed (spot P) P) (get_or-range (starts P b) (size P b) j l) in
      ⊎_elim
      (λ (k : b < nblocks P). let w = block_within P ok b k in
      let v = w.0 in
      let y = home_is b (starts P b + j) k (omega arith) (omega arith) in
      (ap (λ (i : Instr). i.old_block) e ∙ y, ap (λ (i : Instr). i.old_index) e ∙ ap (λ (n : ℕ). starts P b + j - starts P n) y ∙ back (starts P b)))
      (λ (k : nblocks P ≤ b). absurd (not-suc-le-zero (subst (λ (n : ℕ). j < n) (size_past P b k) l)))
      (lt? b (nblocks P))
    where
      back : (s : ℕ) → s + j - s ≡ j
      back s = omega arith
