-- Only runs that there are are read: a write that the plain machine takes is by a run of the walk. Claim needs it for 'unmatched' runs.
-- Assumes nothing.
use mathlib.Core.Path.{sym, ◌∙◌, ap, subst}
use mathlib.Core.List.{List, [], ◌∷◌, map}
use mathlib.Core.Logic.{inl, inr, ⊎_elim}
use Prim.Native.Nat.{ℕ, zero, suc, ◌≤◌, ◌<◌}
use native.Mathlib.Omega.{arith}
use lib.ListN.{length}
use Rattle.words.specs.Lists.{In}
use Rattle.words.proofs.Bools.{eq?}
use Rattle.walk.specs.Machine.{put, Instr, Prog, LastWrite, none, write, State, first_slot, next_slots, store, run_plain, state_at, takes_from, takes}
use Rattle.walk.proofs.Facts.{put_same, put_other, Rest, rest_all, rest_next, rest_length}

module _ (Q : Prog) (w : ℕ → ℕ) (N : ℕ) where
  -- a write by a run of the first N places
  abbrev pub Real : LastWrite → Type 0
  Real none = Unit {0}
  Real (write n j s) = (n < N) × (j < length (Q (w n)))

  abbrev AllReal : State → Type 0
  AllReal σ = (r : ℕ) → Real (σ r)

  real_store : (n j : ℕ) (k : List ℕ) → n < N → j < length (Q (w n)) → (rs : List ℕ) (σ : State) → AllReal σ → AllReal (store n j k rs σ)
  real_store n j k h q [] σ f = f
  real_store n j k h q (x ∷ rs) σ f = real_store n j (next_slots k) h q rs (put σ x (write n j (first_slot k))) (λ s. ⊎_elim
      (λ p. subst Real (sym (ap (put σ x (write n j (first_slot k))) p ∙ put_same σ x (write n j (first_slot k)))) (h, q))
      (λ ne. subst Real (sym (put_other σ x (write n j (first_slot k)) s ne)) (f s))
      (eq? s x))

  real_run : (n j : ℕ) (c : List Instr) → Rest (Q (w n)) j c → n < N → (σ : State) → AllReal σ → AllReal (run_plain n j c σ)
  real_run n j [] e h σ f = f
  real_run n j (i ∷ c) e h σ f = real_run n (suc j) c (rest_next e) h (store n j i.slots i.writes σ) (real_store n j i.slots h (omega (arith, rest_length e)) i.writes σ f)

  real_state : (n : ℕ) → n ≤ N → AllReal (state_at Q w n)
  unfolding state_at
  real_state zero h r = tt
  real_state (suc n) h r = real_run n 0 (Q (w n)) (rest_all (Q (w n))) h (state_at Q w n) (real_state n (omega arith)) r

  real_map : (σ : State) (l : List ℕ) → AllReal σ → (y : LastWrite) → In y (map σ l) → Real y
  real_map σ [] f y h = absurd h
  real_map σ (r ∷ l) f y (inl e) = subst Real (sym e) (f r)
  real_map σ (r ∷ l) f y (inr h) = real_map σ l f y h

  real_take : (n j : ℕ) (c : List Instr) → Rest (Q (w n)) j c → n < N → (σ : State) → AllReal σ → (k : ℕ) (y : LastWrite) → In y (takes_from n j c σ k) → Real y
  real_take n j [] e h σ f k y q = absurd q
  real_take n j (i ∷ c) e h σ f zero y q = real_map σ i.reads f y q
  real_take n j (i ∷ c) e h σ f (suc k) y q =
      real_take n (suc j) c (rest_next e) h (store n j i.slots i.writes σ) (real_store n j i.slots h (omega (arith, rest_length e)) i.writes σ f) k y q

  pub real_takes : (n j : ℕ) → n < N → (y : LastWrite) → In y (takes Q w n j) → Real y
  real_takes n j h y q = real_take n 0 (Q (w n)) (rest_all (Q (w n))) h (state_at Q w n) (real_state n (omega arith)) j y q
