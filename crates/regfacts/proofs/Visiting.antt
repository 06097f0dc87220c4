-- What a visit asks of a record's registers: that they are below the count of those in use. Assumes nothing.
use mathlib.Core.Path.{◌≡◌, refl, sym, subst}
use mathlib.Core.Logic.{inl, inr, ⊎_elim}
use mathlib.Core.Bool.{Bool, true, false, cond}
use mathlib.Core.List.{List, [], ◌∷◌, map}
use Prim.Native.Nat.{ℕ, ◌<◌}
use borrow.Author.Tests.{eqb-false}
use lib.Dec.{eqb}
use Rattle.words.specs.Lists.{In, upto}
use Rattle.words.proofs.Members.{concat_in, in_map, range_in, in_index}
use Rattle.model.specs.Picture.{inst, absent, reads, writes}
use Rattle.inst.specs.Index.{Low}
use Rattle.inst.specs.Record.{write_at, present}
use Rattle.inst.proofs.Rest.{writes_by_place}
use Rattle.regfacts.specs.Written.{Fits, Good}

in_present : (r x : ℕ) → In r (present x) → (r ≡ x) × (x ≡ absent → ⊥)
unfolding present
in_present r x i = go (eqb x absent) refl i
  where
    go : (b : Bool) → eqb x absent ≡ b → In r (cond b [] (x ∷ [])) → (r ≡ x) × (x ≡ absent → ⊥)
    go true e i = absurd i
    go false e (inl q) = (q, eqb-false x absent e)
    go false e (inr i) = absurd i

pub written_low : {recs : List ℕ} {R g : ℕ} → Fits recs R g → Low R (writes (inst recs g))
written_low {recs} {R} {g} h = record { few = h.room; each = below }
  where
    below : (q : ℕ) → In q (writes (inst recs g)) → q < R
    below q i =
        let z = concat_in q (map (λ s. present (write_at (inst recs g) s)) (upto 5)) (subst (In q) (sym (writes_by_place recs g h.whole.within)) i) in
        let y = in_map (λ s. present (write_at (inst recs g) s)) z.0 (upto 5) z.2 in
        let at = in_present q (write_at (inst recs g) y.0) (subst (In q) y.2 z.1) in
        ⊎_elim (λ e. absurd (at.1 e)) (λ (l : write_at (inst recs g) y.0 < R). subst (λ (x : ℕ). x < R) (sym at.0) l) (h.slot y.0 (range_in y.0 0 5 y.1).1)

pub read_low : {recs ops : List ℕ} {R g : ℕ} → Good recs ops R g → Low R (reads ops (inst recs g))
read_low {recs} {ops} {R} {g} h = record {
  few = h.fits.room;
  each = λ q i. let z = in_index absent q (reads ops (inst recs g)) i in subst (λ (x : ℕ). x < R) z.2 (h.each z.0 z.1);
}
