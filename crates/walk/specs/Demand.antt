-- Demand 3 whole, as proofs/Whole proves it: successors and walks, any number of rounds, matching runs and writes, the claim. Assumes nothing.
use Rattle.std.specs.Prelude.{◌≡◌, true, List, [], ◌∷◌, ◌↔◌, ℕ, zero, ◌≤◌, ◌<◌, length, get_or}
use Rattle.words.specs.Lists.{In}
use Rattle.walk.specs.Machine.{Instr, Prog, instr_at, LastWrite, none, write, takes, latest_visit}
use Rattle.walk.specs.Rules.{Round}

-- where a block's last instruction may go: the block's successors
abbrev pub last_goes_to : List Instr → List ℕ
last_goes_to [] = []
last_goes_to (i ∷ []) = i.goes_to
last_goes_to (i ∷ j ∷ c) = last_goes_to (j ∷ c)

abbrev pub succs : Prog → ℕ → List ℕ
succs P b = last_goes_to (P b)

-- a 'walk' as a list: empty, or from block 0 on, each time to a successor
abbrev pub GoesOn : Prog → ℕ → List ℕ → Type 0
GoesOn P b [] = Unit {0}
GoesOn P b (c ∷ cs) = In c (succs P b) × GoesOn P c cs

abbrev pub IsWalk : Prog → List ℕ → Type 0
IsWalk P [] = Unit {0}
IsWalk P (b ∷ bs) = (b ≡ zero) × GoesOn P b bs

-- the block at place n
abbrev pub block_at : List ℕ → ℕ → ℕ
block_at ws n = get_or ws n 0

-- a round whose members are no branches
pub record FullRound (R : ℕ) (P P' : Prog) : Type 0 where
  pub is_round : Round R (succs P) P P'
  pub no_branch : (p : ℕ) → is_round.mark p ≡ true → (instr_at P is_round.x p).goes_to ≡ []

-- any number of rounds
pub data Sunk (P : Prog) : Prog → Type 0 where
  none_yet : Sunk P P
  again : {Q Q' : Prog} (R : ℕ) → Sunk P Q → FullRound R Q Q' → Sunk P Q'

-- before all rounds each instruction's old place is its own
abbrev pub OwnPlaces : Prog → Type 0
OwnPlaces P = (b j : ℕ) → j < length (P b) → ((instr_at P b j).old_block ≡ b) × ((instr_at P b j).old_index ≡ j)

-- ---- matching, for the program Q after, along one walk w

-- the run after of instruction j at place n 'matches' the run before of instruction i at place m: i is its old index and m the latest visit
-- to its old block
abbrev pub RunsMatch : Prog → (ℕ → ℕ) → ℕ → ℕ → ℕ → ℕ → Type 0
RunsMatch Q w n j m i = (latest_visit w n (instr_at Q (w n) j).old_block ≡ m) × ((instr_at Q (w n) j).old_index ≡ i)

-- writes match if their runs match and their slots are the same
abbrev pub WritesMatch : Prog → (ℕ → ℕ) → LastWrite → LastWrite → Type 0
WritesMatch Q w none none = Unit {0}
WritesMatch Q w none (write m i z) = ⊥
WritesMatch Q w (write n j s) none = ⊥
WritesMatch Q w (write n j s) (write m i z) = RunsMatch Q w n j m i × (s ≡ z)

-- two lists of one length, matched place by place
abbrev pub Pointwise : (LastWrite → LastWrite → Type 0) → List LastWrite → List LastWrite → Type 0
Pointwise M [] [] = Unit {0}
Pointwise M [] (y ∷ ys) = ⊥
Pointwise M (x ∷ xs) [] = ⊥
Pointwise M (x ∷ xs) (y ∷ ys) = M x y × Pointwise M xs ys

-- the claim of document 01 along the walk w of N blocks, P before and Q after
pub record Claim (P Q : Prog) (w : ℕ → ℕ) (N : ℕ) : Type 0 where
  -- the matching run is there: its place is up to n, holds the old block, and is the greatest such
  pub there : (n j : ℕ) → n < N → j < length (Q (w n)) →
      (latest_visit w n (instr_at Q (w n) j).old_block ≤ n) × (w (latest_visit w n (instr_at Q (w n) j).old_block) ≡ (instr_at Q (w n) j).old_block)
      × ((k : ℕ) → k ≤ n → w k ≡ (instr_at Q (w n) j).old_block → k ≤ latest_visit w n (instr_at Q (w n) j).old_block)
  -- each read takes its value from the matching write, or in both from none
  pub reads : (n j m i : ℕ) → n < N → j < length (Q (w n)) → RunsMatch Q w n j m i → Pointwise (WritesMatch Q w) (takes Q w n j) (takes P w m i)
  -- no two runs after match one run before
  pub single : (n j n' j' m i : ℕ) → n < N → n' < N → j < length (Q (w n)) → j' < length (Q (w n'))
      → RunsMatch Q w n j m i → RunsMatch Q w n' j' m i → (n ≡ n') × (j ≡ j')
  -- a run before that a matched run reads is matched: an 'unmatched' run is read by unmatched runs alone
  pub matched : (n j m i : ℕ) → n < N → j < length (Q (w n)) → RunsMatch Q w n j m i
      → (m' i' s : ℕ) → In (write m' i' s) (takes P w m i)
      → (n' : ℕ) × (j' : ℕ) × (n' < N) × (j' < length (Q (w n'))) × RunsMatch Q w n' j' m' i'

-- the same but for registers
pub record Alike (i j : Instr) : Type 0 where
  pub same_old_block : i.old_block ≡ j.old_block
  pub same_old_index : i.old_index ≡ j.old_index
  pub same_what : i.what ≡ j.what
  pub same_goes_to : i.goes_to ≡ j.goes_to
  pub same_slots : i.slots ≡ j.slots
  pub as_many_reads : length i.reads ≡ length j.reads
  pub as_many_writes : length i.writes ≡ length j.writes

-- demand 3
pub record Demand3 (P Q : Prog) : Type 0 where
  -- each position after has one old place, alike
  pub old : (c j : ℕ) → j < length (Q c) → ((instr_at Q c j).old_index < length (P (instr_at Q c j).old_block)) × Alike (instr_at Q c j) (instr_at P (instr_at Q c j).old_block (instr_at Q c j).old_index)
  -- each place before belongs to exactly one
  pub stands : (b i : ℕ) → i < length (P b) → (c : ℕ) × (j : ℕ) × (j < length (Q c)) × ((instr_at Q c j).old_block ≡ b) × ((instr_at Q c j).old_index ≡ i)
  pub once : (c j c' j' : ℕ) → j < length (Q c) → j' < length (Q c') → (instr_at Q c j).old_block ≡ (instr_at Q c' j').old_block
      → (instr_at Q c j).old_index ≡ (instr_at Q c' j').old_index → (c ≡ c') × (j ≡ j')
  -- the same walks
  pub walks : (ws : List ℕ) → IsWalk P ws ↔ IsWalk Q ws
  -- the claim along each
  pub along : (ws : List ℕ) → IsWalk P ws → Claim P Q (block_at ws) (length ws)
