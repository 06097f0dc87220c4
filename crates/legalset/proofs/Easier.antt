-- The tests of the passes only get easier as the set grows. Assumes nothing.
use mathlib.Core.Path.{◌≡◌}
use mathlib.Core.Logic.{⊎_elim}
use mathlib.Core.Bool.{Bool, true, false, not, ◌&&◌, ◌||◌}
use mathlib.Core.List.{[], ◌∷◌}
use Prim.Native.Nat.{ℕ, zero, suc, ◌+◌, ◌-◌, ◌/◌, ◌%◌, ◌≤◌}
use native.Mathlib.Nat.{le_trans}
use lib.Dec.{T, eqb, leb, leb→le, le→leb}
use Rattle.words.specs.Lists.{mem}
use Rattle.words.proofs.Bools.{hold, conj_of, or_mono, and_mono, T_true, true_T, T_false, false_T, clash, bool?}
use Rattle.words.proofs.Alls.{all_mono}
use Rattle.legalset.specs.Chain.{View}
use Rattle.legalset.specs.Rules.{last_kept, when_in, own_memory, read_fine, org_fine, still_fine, reads_ok, origins_ok, suspends_ok, memory_ok, own_ok, forward_ok, pending, backward_ok}
use Rattle.legalset.specs.Marks.{◌⊑◌}
use Rattle.legalset.proofs.Lasting.{kept_mono}
use Rattle.legalset.proofs.Dropping.{Mono}

leb_mono : (a b c : ℕ) → b ≤ a → T (leb a c) → T (leb b c)
leb_mono a b c h t = le→leb b c (le_trans h (leb→le a c t))

when_in_mono : (L B : ℕ → Bool) → L ⊑ B → (d : ℕ) → T (when_in L d) → T (when_in B d)
unfolding when_in
when_in_mono L B s zero t = t
when_in_mono L B s (suc d) t = s d t

own_mono : (L B : ℕ → Bool) → L ⊑ B → (o : ℕ) → T (own_memory L o) → T (own_memory B o)
unfolding own_memory
own_mono L B s o =
    or_mono (eqb o 0) (leb 5 o && eqb (o % 2) 1 && L ((o - 5) / 2)) (eqb o 0) (leb 5 o && eqb (o % 2) 1 && B ((o - 5) / 2)) (λ t. t)
    (and_mono (leb 5 o && eqb (o % 2) 1) (L ((o - 5) / 2)) (leb 5 o && eqb (o % 2) 1) (B ((o - 5) / 2)) (λ t. t) (s ((o - 5) / 2)))

read_mono : (L B : ℕ → Bool) → L ⊑ B → (p d k k' : ℕ) → k' ≤ k → T (read_fine L p d k) → T (read_fine B p d k')
unfolding read_fine
read_mono L B s p d k k' h = or_mono (when_in L d) (leb k (p + 1)) (when_in B d) (leb k' (p + 1)) (when_in_mono L B s d) (leb_mono k k' (p + 1) h)

org_mono : (p a a' b b' c c' o : ℕ) → a' ≤ a → b' ≤ b → c' ≤ c → T (org_fine p a b c o) → T (org_fine p a' b' c' o)
unfolding org_fine
org_mono p a a' b b' c c' o ha hb hc t =
    let h = hold ((eqb o 1 || leb 3 o) ∷ (leb a (p + 1) || eqb o 1) ∷ leb b (p + 1) ∷ (leb o 2 || leb c (p + 1)) ∷ []) t in
    conj_of ((eqb o 1 || leb 3 o) ∷ (leb a' (p + 1) || eqb o 1) ∷ leb b' (p + 1) ∷ (leb o 2 || leb c' (p + 1)) ∷ []) (
      h.0,
      (
        or_mono (leb a (p + 1)) (eqb o 1) (leb a' (p + 1)) (eqb o 1) (leb_mono a a' (p + 1) ha) (λ t. t) h.1.0,
        (
          leb_mono b b' (p + 1) hb h.1.1.0,
          (or_mono (leb o 2) (leb c (p + 1)) (leb o 2) (leb c' (p + 1)) (λ t. t) (leb_mono c c' (p + 1) hc) h.1.1.1.0, tt),
        ),
      ),
    )

still_mono : (p b b' : ℕ) (y : Bool) (o : ℕ) → b' ≤ b → T (still_fine p b y o) → T (still_fine p b' y o)
unfolding still_fine
still_mono p b b' y o h = or_mono (leb b (p + 1)) (not y && eqb o 0) (leb b' (p + 1)) (not y && eqb o 0) (leb_mono b b' (p + 1) h) (λ t. t)

module _ (C : View) (n : ℕ) where
  origins_mono : (L A : ℕ → Bool) → L ⊑ A → (p : ℕ) → T (origins_ok C n L p) → T (origins_ok C n A p)
  unfolding origins_ok
  origins_mono L A s p = all_mono _ _ (λ o. org_mono p _ _ _ _ _ _ o (kept_mono L A _ n s) (kept_mono L A _ n s) (kept_mono L A _ n s)) (C.from p)

  memory_mono : (L A : ℕ → Bool) → L ⊑ A → (p : ℕ) → T (memory_ok C n L p) → T (memory_ok C n A p)
  unfolding memory_ok
  memory_mono L A s p =
      and_mono (still_fine p (last_kept L C.barrier n) (C.creates p) (C.wrote p)) (origins_ok C n L p) (still_fine p (last_kept A C.barrier n) (C.creates p) (C.wrote p)) (origins_ok C n A p)
      (still_mono p (last_kept L C.barrier n) (last_kept A C.barrier n) (C.creates p) (C.wrote p) (kept_mono L A C.barrier n s)) (origins_mono L A s p)

  pub forward_mono : Mono (forward_ok C n)
  unfolding forward_ok reads_ok suspends_ok own_ok
  forward_mono L A B s z p t =
      let h = hold (reads_ok C n L L p ∷ suspends_ok C n L p ∷ memory_ok C n L p ∷ own_ok C n L p ∷ []) t in
      conj_of (reads_ok C n A B p ∷ suspends_ok C n A p ∷ memory_ok C n A p ∷ own_ok C n B p ∷ []) (
        all_mono _ _ (λ r. read_mono L B z p _ _ _ (kept_mono L A _ n s)) (C.reads p) h.0,
        (
          leb_mono _ _ (p + 1) (kept_mono L A _ n s) h.1.0,
          (memory_mono L A s p h.1.1.0, (own_mono L B z (C.wrote p) h.1.1.1.0, tt)),
        ),
      )

  pub pending_mono : (L B : ℕ → Bool) → L ⊑ B → (r q k : ℕ) → T (pending C.defs C.reads B r q k) → T (pending C.defs C.reads L r q k)
  unfolding pending
  pending_mono L B s r q zero t = t
  pending_mono L B s r q (suc k) t =
      or_mono (not (B q) && mem r (C.reads q)) (not (mem r (C.defs q)) && pending C.defs C.reads B r (suc q) k) (not (L q) && mem r (C.reads q)) (not (mem r (C.defs q)) && pending C.defs C.reads L r (suc q) k)
      (and_mono (not (B q)) (mem r (C.reads q)) (not (L q)) (mem r (C.reads q)) (out q) (λ t. t))
      (and_mono (not (mem r (C.defs q))) (pending C.defs C.reads B r (suc q) k) (not (mem r (C.defs q))) (pending C.defs C.reads L r (suc q) k) (λ t. t) (pending_mono L B s r (suc q) k)) t
    where
      out : (k : ℕ) → T (not (B k)) → T (not (L k))
      out k t = ⊎_elim (λ (e : L k ≡ true). clash (T_true (B k) (s k (true_T (L k) e))) (T_false (B k) t)) (λ (e : L k ≡ false). false_T (L k) e) (bool? (L k))

  -- rule 1 over the set now
  abbrev pub behind : (ℕ → Bool) → (ℕ → Bool) → ℕ → Bool
  behind L₀ L p = backward_ok C.defs C.reads n L p

  pub backward_mono : Mono behind
  unfolding backward_ok
  backward_mono L A B s z p t = all_mono _ _ (λ r. not_mono (pending C.defs C.reads L r (p + 1) (n - (p + 1))) (pending C.defs C.reads B r (p + 1) (n - (p + 1))) (pending_mono L B z r (p + 1) (n - (p + 1)))) (C.defs p) t
    where
      not_mono : (a b : Bool) → (T b → T a) → T (not a) → T (not b)
      not_mono true b f t = absurd t
      not_mono false true f t = absurd (f tt)
      not_mono false false f t = tt
