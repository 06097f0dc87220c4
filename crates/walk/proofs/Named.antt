-- The machine with names: the plain machine, but a run is called by the run before that it matches (the latest visit to its old block, and
-- its old index). So "matches" is plain equality here, and rounds compose. Definitions, and how code runs piece by piece. The proof of one
-- round (Line, OneRound, Compose) is about this machine; Plain leads back to the plain one. Assumes nothing.
use mathlib.Core.Path.{◌≡◌, refl, ◌∙◌, ap}
use mathlib.Core.List.{List, [], ◌∷◌, ◌++◌, map}
use mathlib.Core.Logic.{inl, inr}
use Prim.Native.Nat.{ℕ, zero, suc, ◌<◌}
use Rattle.words.specs.Lists.{In}
use Rattle.words.proofs.Members.{in_left, in_right}
use Rattle.walk.specs.Machine.{put, Instr, Prog, LastWrite, none, write, State, first_slot, next_slots, store, latest_visit}
use Rattle.walk.specs.Rules.{written_by}
use Rattle.walk.proofs.Facts.{put_other}

-- `visit` gives the place of each old block
abbrev pub step_named : (ℕ → ℕ) → Instr → State → State
step_named visit i σ = store (visit i.old_block) i.old_index i.slots i.writes σ

abbrev pub run_named : (ℕ → ℕ) → List Instr → State → State
run_named visit [] σ = σ
run_named visit (i ∷ c) σ = run_named visit c (step_named visit i σ)

-- every run of the code takes what `want` says of its name
abbrev pub Wanted : (ℕ → ℕ → List LastWrite) → (ℕ → ℕ) → List Instr → State → Type 0
Wanted want visit [] σ = Unit {0}
Wanted want visit (i ∷ c) σ = (map σ i.reads ≡ want (visit i.old_block) i.old_index) × Wanted want visit c (step_named visit i σ)

-- the state before place n of the walk w
unfoldable pub state_named : Prog → (ℕ → ℕ) → ℕ → State
state_named P w zero = λ r. none
state_named P w (suc n) = run_named (latest_visit w n) (P (w n)) (state_named P w n)

-- every run of the program along the walk takes what `want` says of its name
abbrev pub WantedAlong : (ℕ → ℕ → List LastWrite) → Prog → (ℕ → ℕ) → ℕ → Type 0
WantedAlong want P w N = (n : ℕ) → n < N → Wanted want (latest_visit w n) (P (w n)) (state_named P w n)

pub state_named_step : (Q : Prog) (w : ℕ → ℕ) (n : ℕ) (c : List Instr) → Q (w n) ≡ c → state_named Q w (suc n) ≡ run_named (latest_visit w n) c (state_named Q w n)
unfolding state_named
state_named_step Q w n c e = ap (λ z. run_named (latest_visit w n) z (state_named Q w n)) e

pub wanted_append : (want : ℕ → ℕ → List LastWrite) (visit : ℕ → ℕ) (c d : List Instr) (σ : State) → Wanted want visit c σ
    → Wanted want visit d (run_named visit c σ) → Wanted want visit (c ++ d) σ
wanted_append want visit [] d σ h k = k
wanted_append want visit (i ∷ c) d σ h k = (h.0, wanted_append want visit c d (step_named visit i σ) h.1 k)

pub run_append : (visit : ℕ → ℕ) (c d : List Instr) (σ : State) → run_named visit (c ++ d) σ ≡ run_named visit d (run_named visit c σ)
run_append visit [] d σ = refl
run_append visit (i ∷ c) d σ = run_append visit c d (step_named visit i σ)

-- writes elsewhere leave a register alone
pub store_other : (m i : ℕ) (k : List ℕ) (rs : List ℕ) (σ : State) (r : ℕ) → (In r rs → ⊥) → store m i k rs σ r ≡ σ r
store_other m i k [] σ r h = refl
store_other m i k (x ∷ rs) σ r h = store_other m i (next_slots k) rs (put σ x (write m i (first_slot k))) r (λ q. h (inr q)) ∙ put_other σ x (write m i (first_slot k)) r (λ e. h (inl e))

pub run_other : (visit : ℕ → ℕ) (c : List Instr) (σ : State) (r : ℕ) → (In r (written_by c) → ⊥) → run_named visit c σ r ≡ σ r
run_other visit [] σ r h = refl
run_other visit (i ∷ c) σ r h =
    run_other visit c (step_named visit i σ) r (λ q. h (in_right r i.writes (written_by c) q)) ∙ store_other (visit i.old_block) i.old_index i.slots i.writes σ r (λ q. h (in_left r i.writes (written_by c) q))
