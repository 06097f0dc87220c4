-- The registers that the pool gives are fresh as the walk asks. Assumes nothing.
use mathlib.Core.Path.{◌≡◌, refl, sym, ap, ap₂, subst}
use mathlib.Core.Logic.{inl, inr}
use mathlib.Core.Bool.{Bool, true, false, ◌&&◌}
use mathlib.Core.List.{List, [], ◌∷◌}
use Prim.Native.Nat.{ℕ, ◌≤◌, ◌<◌}
use native.Mathlib.Nat.{le_refl}
use native.Mathlib.Omega.{arith}
use lib.Dec.{eqb}
use lib.ListN.{get_or, length}
use Rattle.words.specs.Lists.{upto, any, filter, lookup, In}
use Rattle.words.proofs.Bools.{T_true, true_T}
use Rattle.words.proofs.Members.{in_range, in_filter, any_in}
use Rattle.model.specs.Analyse.{Fact}
use Rattle.model.specs.Legal.{fact_at, writes_last}
use Rattle.model.specs.Move.{last_of, last_use, reaches, pooled}
use Rattle.laws.proofs.Given.{look_got, look_any, pooled_gets, last_reader}
use Rattle.laws.proofs.Reuse.{Got, Rising, rising, empty, pool_new, pool_reused}
use Rattle.walk.specs.Machine.{Instr, no_instr}
use Rattle.walk.specs.Rules.{by, defined_by, NewRegisters, Exposed}
use Rattle.kept.proofs.Straight.{Tied, def_last, reads_it, last_writes}

-- ---- fresh

module _ (run : List Fact) (S T' : List Instr) (tied : Tied run S) (mark : ℕ → Bool) (m size : ℕ) (there : ℕ → Bool) (ts : List ℕ)
    (short : m ≤ length S) (in_x : m ≤ size) (inside : (p : ℕ) → mark p ≡ true → p < m)
    (single : (p r s : ℕ) (rs : List ℕ) → mark p ≡ true → (get_or S p no_instr).writes ≡ r ∷ s ∷ rs → ⊥)
    (seen : (r : ℕ) → Exposed r T' → there r ≡ true) where
  abbrev pub served : List ℕ
  served = filter mark (upto size)

  abbrev pub gifts : List (ℕ × ℕ)
  gifts = (pooled run there (empty ts) served).given

  abbrev pub fr : ℕ → ℕ
  fr p = lookup gifts p (length ts)

  pub got : (p r : ℕ) → mark p ≡ true → In r (get_or S p no_instr).writes → Got p (fr p) gifts
  got p r k i =
      let l = inside p k in
      let g = pooled_gets run there served (empty ts) p r (in_filter mark p (upto size) (in_range p 0 size (omega arith) (omega arith)) k) (subst (In r) (sym (tied.defs p (omega arith))) i) in
      look_got gifts p g.0 (length ts) g.1

  pub gift : (p r d : ℕ) → mark p ≡ true → In r (get_or S p no_instr).writes → lookup gifts p d ≡ fr p
  gift p r d k i = look_any gifts p (fr p) d (length ts) (got p r k i)

  ordered : Rising 0 served
  ordered = rising mark 0 0 size (le_refl 0)

  above : (p : ℕ) → length ts ≤ fr p
  above p = go gifts (λ d r g. pool_new run there ts served ordered d r g)
    where
      go : (gs : List (ℕ × ℕ)) → ((d r : ℕ) → Got d r gs → length ts ≤ r) → length ts ≤ lookup gs p (length ts)
      go [] h = le_refl (length ts)
      go (x ∷ gs) h = at (go gs (λ d r g. h d r (inr g))) (eqb p x.0)
        where
          at : length ts ≤ lookup gs p (length ts) → (b : Bool) → length ts ≤ elim b as (λ z. ℕ) [ true ↦ x.1 | false ↦ lookup gs p (length ts) ]
          at k true = h x.0 x.1 (inl (refl, refl))
          at k false = k

  reader_use : (d p r : ℕ) → p < length S → In r (get_or S p no_instr).reads → defined_by S p r ≡ by d → p ≤ last_use run there d
  reader_use d p r h i e = go (any (reaches run there d) (fact_at run d).defs)
    where
      go : (b : Bool) → p ≤ elim b as (λ z. ℕ) [ true ↦ length run | false ↦ last_of run there d (upto (length run)) ]
      go true = let f = tied.len in omega arith
      go false = last_reader run there d p (upto (length run)) (let f = tied.len in in_range p 0 (length run) (omega arith) (omega arith)) (reads_it run S tied p r d h i e)

  end_use : (d r : ℕ) → Exposed r T' → defined_by S (length S) r ≡ by d → last_use run there d ≡ length run
  end_use d r x e =
      let z = last_writes run S tied r d e in
      ap (λ (b : Bool). elim b as (λ y. ℕ) [ true ↦ length run | false ↦ last_of run there d (upto (length run)) ])
      (T_true (any (reaches run there d) (fact_at run d).defs)
      (any_in (reaches run there d) r (fact_at run d).defs (subst (In r) (sym (tied.defs d z.0)) z.1)
      (true_T (reaches run there d r) (ap₂ ◌&&◌ (seen r x) (T_true (writes_last run d r) z.2)))))

  written : (n r d : ℕ) → n ≤ length S → defined_by S n r ≡ by d → In r (get_or S d no_instr).writes
  written n r d h e = (def_last run S tied n r d e).1

  pub fresh : NewRegisters (length ts) S T' mark fr
  fresh = record {
    above = λ p k. above p;
    single = single;
    past = λ d q p r s kd kq l e w n kp i f.
        let bp = inside p kp in
        let u = pool_reused run there ts served ordered d q (fr d) (got d r kd (written p r d (omega arith) f)) (subst (λ y. Got q y gifts) e (got q s kq w)) l in
        let v = reader_use d p r (omega arith) i f in
        omega arith;
    unread = λ d q r s kd kq l e w x f.
        let bq = inside q kq in
        let u = pool_reused run there ts served ordered d q (fr d) (got d r kd (written (length S) r d (le_refl (length S)) f)) (subst (λ y. Got q y gifts) e (got q s kq w)) l in
        let v = end_use d r x f in
        let g = tied.len in
        omega arith;
  }
