-- Rule 1: what is read by a kept position with no write in between is the value that it reads. Assumes nothing.
use Rattle.std.specs.Prelude.{Option}
use mathlib.Core.Path.{◌≡◌, refl, sym, ap, ◌∙◌, subst}
use mathlib.Core.Logic.{◌⊎◌, inl, inr, ⊎_elim}
use mathlib.Core.Bool.{Bool, true, false, not, ◌&&◌, ◌||◌}
use mathlib.Core.List.{List}
use Prim.Native.Nat.{ℕ, zero, suc, ◌+◌, ◌≤◌, ◌<◌}
use native.Mathlib.Omega.{arith}
use lib.Dec.{T, eqb, eqb→eq, eqb_refl}
use lib.ListN.{take}
use Rattle.words.specs.Lists.{In, mem}
use Rattle.words.proofs.Bools.{T_true, true_T, T_false, false_T, both, left, right, or_first, or_second, or_cases, eq?}
use Rattle.words.proofs.Members.{mem_in, in_mem, any_in, any_of, in_map, map_in}
use Rattle.model.specs.Analyse.{Fact, Read, last_writer, when_some}
use Rattle.model.specs.Legal.{fact_at, reads_from}
use Rattle.legalset.specs.Chain.{View, Stands, writer, place_at}
use Rattle.legalset.specs.Rules.{pending}
use Rattle.legalset.proofs.Lasting.{writer_is}

module _ (C : View) (n : ℕ) (L : ℕ → Bool) (r : ℕ) where
  -- position z reads r, is kept, and no position from q on before it writes r
  pub record Awaits (q k z : ℕ) : Type 0 where
    pub from : q ≤ z
    pub below : z < q + k
    pub kept : L z ≡ false
    pub reads : mem r (C.reads z) ≡ true
    pub none : (j : ℕ) → q ≤ j → j < z → mem r (C.defs j) ≡ false

  pub awaits_of : (q k : ℕ) → T (pending C.defs C.reads L r q k) → (z : ℕ) × Awaits q k z
  unfolding pending
  awaits_of q zero t = absurd t
  awaits_of q (suc k) t =
      ⊎_elim
      (λ (a : T (not (L q) && mem r (C.reads q))). (
        q,
        record {
          from = omega arith;
          below = omega arith;
          kept = T_false (L q) (left (not (L q)) (mem r (C.reads q)) a);
          reads = T_true (mem r (C.reads q)) (right (not (L q)) (mem r (C.reads q)) a);
          none = λ j h l. absurd (omega arith);
        },
      ))
      (λ (a : T (not (mem r (C.defs q)) && pending C.defs C.reads L r (suc q) k)).
      let w = T_false (mem r (C.defs q)) (left (not (mem r (C.defs q))) (pending C.defs C.reads L r (suc q) k) a) in
      let y = awaits_of (suc q) k (right (not (mem r (C.defs q))) (pending C.defs C.reads L r (suc q) k) a) in
      let b = y.1.below in let f = y.1.from in (
        y.0,
        record {
          from = omega arith;
          below = omega arith;
          kept = y.1.kept;
          reads = y.1.reads;
          none = λ j h l. ⊎_elim (λ (e : j ≡ q). ap (λ (x : ℕ). mem r (C.defs x)) e ∙ w) (λ (e : j ≡ q → ⊥). y.1.none j (omega arith) l) (eq? j q);
        },
      ))
      (or_cases (not (L q) && mem r (C.reads q)) (not (mem r (C.defs q)) && pending C.defs C.reads L r (suc q) k) t)

  pub of_awaits : (q k z : ℕ) → Awaits q k z → T (pending C.defs C.reads L r q k)
  unfolding pending
  of_awaits q zero z a = let f = a.from in let b = a.below in absurd (omega arith)
  of_awaits q (suc k) z a = go (eq? z q) (of_awaits (suc q) k z)
    where
      go : (z ≡ q) ⊎ (z ≡ q → ⊥) → (Awaits (suc q) k z → T (pending C.defs C.reads L r (suc q) k)) → T ((not (L q) && mem r (C.reads q)) || (not (mem r (C.defs q)) && pending C.defs C.reads L r (suc q) k))
      go (inl e) i = or_first (not (L q) && mem r (C.reads q)) (not (mem r (C.defs q)) && pending C.defs C.reads L r (suc q) k)
          (both (not (L q)) (mem r (C.reads q)) (false_T (L q) (sym (ap L e) ∙ a.kept)) (true_T (mem r (C.reads q)) (sym (ap (λ (x : ℕ). mem r (C.reads x)) e) ∙ a.reads)))
      go (inr e) i =
          let f = a.from in let b = a.below in
          or_second (not (L q) && mem r (C.reads q)) (not (mem r (C.defs q)) && pending C.defs C.reads L r (suc q) k)
          (both (not (mem r (C.defs q))) (pending C.defs C.reads L r (suc q) k) (false_T (mem r (C.defs q)) (a.none q (omega arith) (omega arith)))
          (i (record { from = omega arith; below = omega arith; kept = a.kept; reads = a.reads; none = λ j h l. a.none j (omega arith) l })))

-- a position that is not among those looked at does not matter
pub pending_ext : (C : View) (n : ℕ) (L M : ℕ → Bool) (r q k : ℕ) → ((z : ℕ) → q ≤ z → L z ≡ M z) → pending C.defs C.reads L r q k ≡ pending C.defs C.reads M r q k
unfolding pending
pending_ext C n L M r q zero h = refl
pending_ext C n L M r q (suc k) h = rw (h q (omega arith), pending_ext C n L M r (suc q) k (λ z l. h z (omega arith)))

-- q reads register r
abbrev pub use_of : List Fact → ℕ → ℕ → Read
use_of run q r = record { reg = r; writer = last_writer 0 (take q run) r }

module _ (C : View) (n : ℕ) (run : List Fact) (s : Stands C n run) (q p : ℕ) (h : q < n) where
  -- q reads p's value: a register that p wrote last before q
  pub reads_from_of : (r : ℕ) → mem r (C.reads q) ≡ true → writer C.defs r q ≡ suc p → reads_from run q p ≡ true
  unfolding place_at
  reads_from_of r i e =
      T_true (reads_from run q p)
      (any_in (λ u. when_some (eqb p) u.writer) (use_of run q r) (fact_at run q).uses (subst (In (use_of run q r)) (sym (s.uses q h)) (map_in (use_of run q) r (C.reads q) (mem_in r (C.reads q) i)))
      (subst (λ (o : Option ℕ). T (when_some (eqb p) o)) (sym (writer_is C n run s r q (omega arith) ∙ ap place_at e)) (eqb_refl p)))

  pub of_reads_from : reads_from run q p ≡ true → (r : ℕ) × (mem r (C.reads q) ≡ true) × (writer C.defs r q ≡ suc p)
  unfolding place_at
  of_reads_from e =
      let z = any_of (λ u. when_some (eqb p) u.writer) (fact_at run q).uses (true_T (reads_from run q p) e) in
      let y = in_map (use_of run q) z.0 (C.reads q) (subst (In z.0) (s.uses q h) z.1) in
      (y.0, in_mem y.0 (C.reads q) y.1, is (writer C.defs y.0 q) (subst (λ (o : Option ℕ). T (when_some (eqb p) o)) (ap (λ (u : Read). u.writer) y.2 ∙ writer_is C n run s y.0 q (omega arith)) z.2))
    where
      is : (d : ℕ) → T (when_some (eqb p) (place_at d)) → d ≡ suc p
      is zero t = absurd t
      is (suc d) t = ap suc (sym (eqb→eq p d t))
