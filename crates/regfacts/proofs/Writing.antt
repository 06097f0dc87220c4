-- Registers that a record writes, below the count of those in use. Assumes nothing.
use Rattle.std.specs.Prelude.{Option}
use mathlib.Core.List.{List, ◌++◌}
use mathlib.Core.Logic.{◌⊎◌, inl, inr, ⊎_elim}
use mathlib.Core.Path.{◌≡◌, refl, sym, subst}
use Prim.Native.Nat.{ℕ, ◌+◌, ◌<◌}
use native.Mathlib.Omega.{arith}
use lib.ListN.{get_or}
use Rattle.model.specs.Picture.{inst, absent, writes}
use Rattle.inst.specs.Index.{reg_of, word_of, Among}
use Rattle.inst.specs.declared.index.Reg.{Reg}
use Rattle.inst.specs.Record.{write_at, present, rest_writes}
use Rattle.inst.proofs.Rest.{writes_step, writes_end, writes_all}
use Rattle.inst.proofs.Firsts.{present_none, present_some}
use Rattle.inst.proofs.Indices.{reg_made}
use Rattle.regfacts.specs.Written.{Fits}

-- each is an index of the words
pub slot_index : {recs : List ℕ} {R g : ℕ} → Fits recs R g → (s : ℕ) → s < 5 → (write_at (inst recs g) s ≡ absent → ⊥) → write_at (inst recs g) s < R
slot_index {recs} {R} {g} fits s h n = ⊎_elim (λ (e : write_at (inst recs g) s ≡ absent). absurd (n e)) (λ (l : write_at (inst recs g) s < R). l) (fits.slot s h)

-- ---- at most one register written

module _ (recs : List ℕ) (g : ℕ) {R : ℕ} (fits : Fits recs R g) where
  abbrev Low : List ℕ → Type 0
  Low ws = (get_or ws 0 absent ≡ absent) ⊎ (get_or ws 0 absent < R)

  low_step : (s : ℕ) → s < 5 → Low (rest_writes (inst recs g) (s + 1)) → Low (rest_writes (inst recs g) s)
  low_step s h l = subst Low (sym (writes_step recs g fits.whole.within s h)) (go (fits.slot s h))
    where
      go : (write_at (inst recs g) s ≡ absent) ⊎ (write_at (inst recs g) s < R) → Low (present (write_at (inst recs g) s) ++ rest_writes (inst recs g) (s + 1))
      go (inl e) = subst Low (sym (present_none (rest_writes (inst recs g) (s + 1)) e)) l
      go (inr k) = subst Low (sym (present_some (rest_writes (inst recs g) (s + 1)) (λ e. omega (arith, fits.room, k, e)))) (inr k)

  low_end : Low (rest_writes (inst recs g) 5)
  low_end = subst Low (sym (writes_end recs g fits.whole.within 5 (omega arith))) (inl refl)

  -- the first register written is below R, if it is one
  first_low : (get_or (writes (inst recs g)) 0 absent ≡ absent) ⊎ (get_or (writes (inst recs g)) 0 absent < R)
  first_low =
      subst Low (writes_all (inst recs g))
      (low_step 0 (omega arith) (low_step 1 (omega arith) (low_step 2 (omega arith) (low_step 3 (omega arith) (low_step 4 (omega arith) low_end)))))

  -- what is made of it, by R
  pub first_made : {d : ℕ} → d ≡ get_or (writes (inst recs g)) 0 absent → {m : Option Reg} → m ≡ reg_of d R → Among R m × (word_of m ≡ d) × ((word_of m ≡ absent) ⊎ (word_of m < R))
  first_made {d} e q =
      let low : (d ≡ absent) ⊎ (d < R) = subst (λ (n : ℕ). (n ≡ absent) ⊎ (n < R)) (sym e) first_low in
      let made = reg_made d R (omega (arith, fits.room)) low q in
      (made.0, made.1, subst (λ (n : ℕ). (n ≡ absent) ⊎ (n < R)) (sym made.1) low)
