-- A chain's facts against straight code: the writer that `analyse` finds is the last one before. Assumes nothing.
use Rattle.std.specs.Prelude.{Option, None, Some}
use mathlib.Core.Path.{◌≡◌, sym, ap, ◌∙◌, subst}
use mathlib.Core.Logic.{◌⊎◌, inl, inr, ⊎_elim}
use mathlib.Core.Bool.{Bool, not, cond}
use mathlib.Core.List.{List, map}
use Prim.Native.Nat.{ℕ, zero, suc, ◌+◌, ◌-◌, ◌≤◌, ◌<◌}
use native.Mathlib.Nat.{zero-add}
use native.Mathlib.Omega.{arith}
use lib.Dec.{T, eqb, eqb_refl}
use lib.ListN.{get_or, length, take}
use lib.Seq.{take-suc, length-take-le}
use Rattle.words.specs.Lists.{any, mem, In}
use Rattle.words.proofs.Bools.{eq?}
use Rattle.words.proofs.Members.{in_mem, not_in_mem, in?, map_in, any_in}
use Rattle.words.proofs.Alls.{all_range}
use Rattle.model.specs.Analyse.{Fact, Read, no_fact, last_writer, when_some}
use Rattle.model.specs.Legal.{fact_at, reads_from, writes_last}
use Rattle.laws.proofs.Analysed.{writer_snoc}
use Rattle.walk.specs.Machine.{Instr, no_instr}
use Rattle.walk.specs.Rules.{Definer, entry, by, defined_by}
use Rattle.walk.proofs.Definers.{defined_here, defined_before, defined_entry, entry≢by, by_inj}

-- ---- the last writer

abbrev pub opt : Definer → Option ℕ
opt entry = None
opt (by p) = Some p

pub record Tied (run : List Fact) (S : List Instr) : Type 0 where
  pub len : length run ≡ length S
  pub defs : (k : ℕ) → k < length S → (fact_at run k).defs ≡ (get_or S k no_instr).writes
  pub uses : (k : ℕ) → k < length S → (fact_at run k).uses ≡ map (λ r. record { reg = r; writer = last_writer 0 (take k run) r }) (get_or S k no_instr).reads

module _ (run : List Fact) (S : List Instr) (tied : Tied run S) where
  pub def_writer : (r q : ℕ) → q ≤ length S → opt (defined_by S q r) ≡ last_writer 0 (take q run) r
  def_writer r zero h = ap opt (defined_entry S r)
  def_writer r (suc q) h =
      ⊎_elim
      (λ z. ap opt (defined_here S q r z) ∙ sym (step ∙ ap (λ (b : Bool). cond b (Some (0 + length (take q run))) (last_writer 0 (take q run) r)) (ap (mem r) (tied.defs q h) ∙ in_mem r (get_or S q no_instr).writes z)
      ∙ ap Some (zero-add (length (take q run)) ∙ length-take-le q run (let e = tied.len in omega arith))))
      (λ z. ap opt (defined_before S q r z) ∙ def_writer r q (omega arith) ∙ sym (step ∙ ap (λ (b : Bool). cond b (Some (0 + length (take q run))) (last_writer 0 (take q run) r)) (ap (mem r) (tied.defs q h) ∙ not_in_mem r (get_or S q no_instr).writes z)))
      (in? r (get_or S q no_instr).writes)
    where
      step : last_writer 0 (take (suc q) run) r ≡ cond (mem r (fact_at run q).defs) (Some (0 + length (take q run))) (last_writer 0 (take q run) r)
      step = ap (λ (l : List Fact). last_writer 0 l r) (take-suc run q no_fact (let e = tied.len in omega arith)) ∙ writer_snoc 0 (take q run) (fact_at run q) r

  -- q reads p's value
  pub reads_it : (q r p : ℕ) → q < length S → In r (get_or S q no_instr).reads → defined_by S q r ≡ by p → T (reads_from run q p)
  reads_it q r p h i e =
      subst (λ (us : List Read). T (any (λ u. when_some (eqb p) u.writer) us)) (sym (tied.uses q h))
      (any_in (λ u. when_some (eqb p) u.writer) (record { reg = r; writer = last_writer 0 (take q run) r }) (map (λ r. record { reg = r; writer = last_writer 0 (take q run) r }) (get_or S q no_instr).reads)
      (map_in (λ r. record { reg = r; writer = last_writer 0 (take q run) r }) r (get_or S q no_instr).reads i)
      (subst (λ (o : Option ℕ). T (when_some (eqb p) o)) (sym (ap opt e) ∙ def_writer r q (omega arith)) (eqb_refl p)))

  -- who wrote it last before n wrote it, and nobody since
  pub def_last : (n r p : ℕ) → defined_by S n r ≡ by p → (p < n) × In r (get_or S p no_instr).writes × ((q : ℕ) → p < q → q < n → In r (get_or S q no_instr).writes → ⊥)
  def_last zero r p e = entry≢by p (sym (defined_entry S r) ∙ e)
  def_last (suc n) r p e = ⊎_elim
      (λ z. let g = by_inj n p (sym (defined_here S n r z) ∙ e) in
      ((omega arith), subst (λ y. In r (get_or S y no_instr).writes) g z, (λ q a b i. absurd (no q n p g a b))))
      (λ z. let k = def_last n r p (sym (defined_before S n r z) ∙ e) in (
        (let y = k.0 in omega arith),
        k.1,
        (λ q a b i. ⊎_elim (λ f. z (subst (λ y. In r (get_or S y no_instr).writes) f i)) (λ l. k.2 q a l i) (below q n b)),
      ))
      (in? r (get_or S n no_instr).writes)
    where
      no : (q n p : ℕ) → n ≡ p → p < q → q < suc n → ⊥
      no q n p e a b = omega arith

      below : (q n : ℕ) → q < suc n → (q ≡ n) ⊎ (q < n)
      below q n h = ⊎_elim (λ e. inl e) (λ (g : q ≡ n → ⊥). inr (omega arith)) (eq? q n)

  pub last_writes : (r p : ℕ) → defined_by S (length S) r ≡ by p → (p < length S) × In r (get_or S p no_instr).writes × T (writes_last run p r)
  last_writes r p e =
      let k = def_last (length S) r p e in (
        k.0,
        k.1,
        all_range (λ q. not (mem r (fact_at run q).defs)) (suc p) (length run - suc p)
            (λ q a b. let l : q < length S = (let f = tied.len in omega arith) in
            subst (λ (x : Bool). T (not x)) (sym (ap (mem r) (tied.defs q l) ∙ not_in_mem r (get_or S q no_instr).writes (k.2 q (omega arith) l))) tt),
      )
