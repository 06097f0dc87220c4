-- The plain machine of document 01, "The walk": instructions with their old places, walks, runs, and the write that each read takes.
-- The statement (Demand) and one round (Rules) stand on this page. Assumes nothing.
use Rattle.std.specs.Prelude.{◌≡◌, cond, List, [], ◌∷◌, map, ℕ, zero, suc, ◌<◌, eqb, get_or}
use Rattle.words.specs.Lists.{In}

-- f, but v at r
unfoldable pub put : {A : Type 0} → (ℕ → A) → ℕ → A → ℕ → A
put f r v s = cond (eqb s r) v (f s)

-- an instruction, with its 'old place' (block and index in the program before all rounds)
pub record Instr : Type 0 where
  pub old_block : ℕ
  pub old_index : ℕ
  -- what no round changes: kind, form, payload, absent slots
  pub what : List ℕ
  -- where it may go, if it ends a block
  pub goes_to : List ℕ
  -- the slots that write
  pub slots : List ℕ
  -- the registers that it reads, slots first and then list places, and those that it writes, in the order of `slots`
  pub reads : List ℕ
  pub writes : List ℕ

-- the same instruction with other registers
abbrev pub with_registers : List ℕ → List ℕ → Instr → Instr
with_registers rs ws i = record { old_block = i.old_block; old_index = i.old_index; what = i.what; goes_to = i.goes_to; slots = i.slots; reads = rs; writes = ws }

-- a program: the code of each block
abbrev pub Prog : Type 0
Prog = ℕ → List Instr

abbrev pub no_instr : Instr
no_instr = record { old_block = 0; old_index = 0; what = []; goes_to = []; slots = []; reads = []; writes = [] }

abbrev pub instr_at : Prog → ℕ → ℕ → Instr
instr_at P b j = get_or (P b) j no_instr

-- what a register keeps: no write yet, or a 'write', which is a 'run' (the turn of instruction i of the block at place n) and a slot s of it
pub data LastWrite : Type 0 where
  none : LastWrite
  write : ℕ → ℕ → ℕ → LastWrite

abbrev pub State : Type 0
State = ℕ → LastWrite

abbrev pub first_slot : List ℕ → ℕ
first_slot [] = 0
first_slot (s ∷ ss) = s

abbrev pub next_slots : List ℕ → List ℕ
next_slots [] = []
next_slots (s ∷ ss) = ss

-- the run of instruction i at place n stores its writes: slots ss, registers rs, in order
abbrev pub store : ℕ → ℕ → List ℕ → List ℕ → State → State
store n i ss [] σ = σ
store n i ss (r ∷ rs) σ = store n i (next_slots ss) rs (put σ r (write n i (first_slot ss)))

-- a block's code from index j on, at place n of the walk: it runs whole
abbrev pub run_plain : ℕ → ℕ → List Instr → State → State
run_plain n j [] σ = σ
run_plain n j (i ∷ c) σ = run_plain n (suc j) c (store n j i.slots i.writes σ)

-- the state before place n of the walk w, which gives the block at each place
unfoldable pub state_at : Prog → (ℕ → ℕ) → ℕ → State
state_at P w zero = λ r. none
state_at P w (suc n) = run_plain n 0 (P (w n)) (state_at P w n)

-- the writes that the k-th instruction of the code takes, in order of slots and list places
abbrev pub takes_from : ℕ → ℕ → List Instr → State → ℕ → List LastWrite
takes_from n j [] σ k = []
takes_from n j (i ∷ c) σ zero = map σ i.reads
takes_from n j (i ∷ c) σ (suc k) = takes_from n (suc j) c (store n j i.slots i.writes σ) k

-- the writes that a run takes: instruction j of the block at place n
abbrev pub takes : Prog → (ℕ → ℕ) → ℕ → ℕ → List LastWrite
takes P w n j = takes_from n 0 (P (w n)) (state_at P w n) j

-- the 'latest visit' to b: the greatest place up to n that holds b (0 where there is none)
unfoldable pub latest_visit : (ℕ → ℕ) → ℕ → ℕ → ℕ
latest_visit w zero b = zero
latest_visit w (suc n) b = cond (eqb (w (suc n)) b) (suc n) (latest_visit w n b)

-- w is a 'walk' of N blocks: from block 0 on, each time to a successor
pub record Walk (succ : ℕ → List ℕ) (w : ℕ → ℕ) (N : ℕ) : Type 0 where
  pub starts : w zero ≡ zero
  pub goes : (n : ℕ) → suc n < N → In (w (suc n)) (succ (w n))
