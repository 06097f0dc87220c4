-- From the machine with names to the plain machine of document 01: the two states are the same up to names, and before all rounds a run's
-- name is itself. Stands between Compose and Claim. Assumes nothing.
use mathlib.Core.Path.{◌≡◌, refl, sym, ◌∙◌, ap, ap₂, subst}
use mathlib.Core.List.{List, [], ◌∷◌, map, map-map}
use mathlib.Core.Logic.{⊎_elim}
use Prim.Native.Nat.{ℕ, zero, suc, ◌+◌, ◌<◌}
use native.Mathlib.Omega.{arith}
use lib.ListN.{length, get_or}
use Rattle.words.proofs.Bools.{eq?}
use Rattle.words.proofs.Members.{map_on}
use Rattle.walk.specs.Machine.{put, Instr, Prog, no_instr, instr_at, LastWrite, none, write, State, first_slot, next_slots, store, run_plain, state_at, takes_from, takes, latest_visit}
use Rattle.walk.specs.Demand.{OwnPlaces}
use Rattle.walk.proofs.Facts.{put_same, put_other, Rest, rest_all, rest_next, rest_at, rest_length}
use Rattle.walk.proofs.Named.{step_named, run_named, Wanted, state_named, WantedAlong}
use Rattle.walk.proofs.Compose.{latest_here}

module _ (Q : Prog) (w : ℕ → ℕ) where
  -- a write by its name: the run that it matches
  abbrev pub name_of : LastWrite → LastWrite
  name_of none = none
  name_of (write n j s) = write (latest_visit w n (instr_at Q (w n) j).old_block) (instr_at Q (w n) j).old_index s

  abbrev Named : State → State → Type 0
  Named σ σ° = (r : ℕ) → σ r ≡ name_of (σ° r)

  named_put : (σ σ° : State) (r : ℕ) (v v° : LastWrite) → v ≡ name_of v° → Named σ σ° → Named (put σ r v) (put σ° r v°)
  named_put σ σ° r v v° e h s = ⊎_elim
      (λ p. subst (λ z. put σ r v z ≡ name_of (put σ° r v° z)) (sym p) (put_same σ r v ∙ e ∙ ap name_of (sym (put_same σ° r v°))))
      (λ n. put_other σ r v s n ∙ h s ∙ ap name_of (sym (put_other σ° r v° s n)))
      (eq? s r)

  named_store : (m i n j : ℕ) (k : List ℕ) → ((s : ℕ) → write m i s ≡ name_of (write n j s)) → (rs : List ℕ) (σ σ° : State) → Named σ σ°
      → Named (store m i k rs σ) (store n j k rs σ°)
  named_store m i n j k e [] σ σ° h = h
  named_store m i n j k e (r ∷ rs) σ σ° h =
      named_store m i n j (next_slots k) e rs (put σ r (write m i (first_slot k))) (put σ° r (write n j (first_slot k))) (named_put σ σ° r (write m i (first_slot k)) (write n j (first_slot k)) (e (first_slot k)) h)

  write_name : (n j : ℕ) (i : Instr) → instr_at Q (w n) j ≡ i → (s : ℕ) → write (latest_visit w n i.old_block) i.old_index s ≡ name_of (write n j s)
  write_name n j i e s = ap (λ z. write (latest_visit w n z.old_block) z.old_index s) (sym e)

  named_run : (n j : ℕ) (c : List Instr) → Rest (Q (w n)) j c → (σ σ° : State) → Named σ σ°
      → Named (run_named (latest_visit w n) c σ) (run_plain n j c σ°)
  named_run n j [] e σ σ° h = h
  named_run n j (i ∷ c) e σ σ° h =
      named_run n (suc j) c (rest_next e) (step_named (latest_visit w n) i σ) (store n j i.slots i.writes σ°)
      (named_store (latest_visit w n i.old_block) i.old_index n j i.slots (write_name n j i (rest_at no_instr e)) i.writes σ σ° h)

  named_state : (n : ℕ) → Named (state_named Q w n) (state_at Q w n)
  unfolding state_named state_at
  named_state zero = λ r. refl
  named_state (suc n) = named_run n 0 (Q (w n)) (rest_all (Q (w n))) (state_named Q w n) (state_at Q w n) (named_state n)

  map_named : (σ σ° : State) (l : List ℕ) → Named σ σ° → map name_of (map σ° l) ≡ map σ l
  map_named σ σ° l h = map-map name_of σ° l ∙ map_on (λ r. name_of (σ° r)) σ l (λ r q. sym (h r))

  -- what is wanted of the names is what the plain machine takes, by name
  take_named : (want : ℕ → ℕ → List LastWrite) (n j : ℕ) (c : List Instr) → Rest (Q (w n)) j c → (σ σ° : State) → Named σ σ°
      → Wanted want (latest_visit w n) c σ → (k : ℕ) → k < length c
      → map name_of (takes_from n j c σ° k) ≡ want (latest_visit w n (get_or c k no_instr).old_block) (get_or c k no_instr).old_index
  take_named want n j [] e σ σ° h g k q = absurd (omega arith)
  take_named want n j (i ∷ c) e σ σ° h g zero q = map_named σ σ° i.reads h ∙ g.0
  take_named want n j (i ∷ c) e σ σ° h g (suc k) q =
      take_named want n (suc j) c (rest_next e) (step_named (latest_visit w n) i σ) (store n j i.slots i.writes σ°)
      (named_store (latest_visit w n i.old_block) i.old_index n j i.slots (write_name n j i (rest_at no_instr e)) i.writes σ σ° h) g.1 k (omega arith)

  pub named_takes : (want : ℕ → ℕ → List LastWrite) (N : ℕ) → WantedAlong want Q w N → (n j : ℕ) → n < N → j < length (Q (w n))
      → map name_of (takes Q w n j) ≡ want (latest_visit w n (instr_at Q (w n) j).old_block) (instr_at Q (w n) j).old_index
  named_takes want N g n j h q = take_named want n 0 (Q (w n)) (rest_all (Q (w n))) (state_named Q w n) (state_at Q w n) (named_state n) (g n h) j q

-- before all rounds a run's name is itself
module _ (P : Prog) (w : ℕ → ℕ) (own : OwnPlaces P) where
  own_name : (n j : ℕ) (i : Instr) (c : List Instr) → Rest (P (w n)) j (i ∷ c)
      → (latest_visit w n i.old_block ≡ n) × (i.old_index ≡ j)
  own_name n j i c e =
      let q = rest_at no_instr e in
      let h = own (w n) j (omega (arith, rest_length e)) in
      (latest_here w n i.old_block (sym h.0 ∙ ap (λ z. z.old_block) q), sym (ap (λ z. z.old_index) q) ∙ h.1)

  own-run_plain : (n j : ℕ) (c : List Instr) → Rest (P (w n)) j c → (σ : State) → run_named (latest_visit w n) c σ ≡ run_plain n j c σ
  own-run_plain n j [] e σ = refl
  own-run_plain n j (i ∷ c) e σ =
      let o = own_name n j i c e in
      ap (run_named (latest_visit w n) c) (ap₂ (λ a b. store a b i.slots i.writes σ) o.0 o.1)
      ∙ own-run_plain n (suc j) c (rest_next e) (store n j i.slots i.writes σ)

  own_state : (n : ℕ) → state_named P w n ≡ state_at P w n
  unfolding state_named state_at
  own_state zero = refl
  own_state (suc n) = own-run_plain n 0 (P (w n)) (rest_all (P (w n))) (state_named P w n) ∙ ap (run_plain n 0 (P (w n))) (own_state n)

  own_wanted : (n j : ℕ) (c : List Instr) → Rest (P (w n)) j c → (σ : State)
      → (want : ℕ → ℕ → List LastWrite) → ((k : ℕ) → want n (j + k) ≡ takes_from n j c σ k) → Wanted want (latest_visit w n) c σ
  own_wanted n j [] e σ want h = tt
  own_wanted n j (i ∷ c) e σ want h =
      let o = own_name n j i c e in
      let s : store (latest_visit w n i.old_block) i.old_index i.slots i.writes σ ≡ store n j i.slots i.writes σ = ap₂ (λ a b. store a b i.slots i.writes σ) o.0 o.1 in (
        sym (h 0) ∙ ap (want n) (omega arith) ∙ sym (ap₂ want o.0 o.1),
        subst (Wanted want (latest_visit w n) c) (sym s)
            (own_wanted n (suc j) c (rest_next e) (store n j i.slots i.writes σ) want (λ k. ap (want n) (omega arith) ∙ h (suc k))),
      )

  pub own-wanted_along : (N : ℕ) → WantedAlong (takes P w) P w N
  own-wanted_along N n h =
      own_wanted n 0 (P (w n)) (rest_all (P (w n))) (state_named P w n) (takes P w)
      (λ k. ap₂ (λ a b. takes_from n 0 (P (w n)) a b) (sym (own_state n)) (omega arith))
