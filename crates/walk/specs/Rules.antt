-- One round as document 01 states it: the chain, live-in, the rules on registers of the legal set (1 to 3), the new registers, the move.
-- Rules 4 to 6, the thresholds and the facts on registers are not used by the walk. Assumes nothing.
use Rattle.std.specs.Prelude.{◌≡◌, Bool, true, false, cond, List, [], ◌∷◌, ◌++◌, map, ◌⊎◌, ℕ, zero, suc, ◌≤◌, ◌<◌, length, get_or}
use Rattle.words.specs.Lists.{In, mem}
use Rattle.walk.specs.Machine.{Instr, with_registers, Prog, no_instr}

-- the registers that code writes
abbrev pub written_by : List Instr → List ℕ
written_by [] = []
written_by (i ∷ c) = i.writes ++ written_by c

-- c is a successor of p alone, and is not where walks begin
pub record Sole (succ : ℕ → List ℕ) (p c : ℕ) : Type 0 where
  pub nonzero : c ≡ zero → ⊥
  pub only : (a : ℕ) → In c (succ a) → a ≡ p

-- p, and then each block of the list, is the sole predecessor of the next
abbrev pub Linked : (ℕ → List ℕ) → ℕ → List ℕ → Type 0
Linked succ p [] = Unit {0}
Linked succ p (c ∷ cs) = Sole succ p c × Linked succ c cs

-- ---- the chain from x to the target t; `chain` holds the blocks between

-- every block but the last has the next as its one successor; the last has t, and any others
abbrev pub ChainSteps : (ℕ → List ℕ) → ℕ → ℕ → List ℕ → Type 0
ChainSteps succ t b [] = In t (succ b)
ChainSteps succ t b (c ∷ cs) = In c (succ b) × ((s : ℕ) → In s (succ b) → s ≡ c) × ChainSteps succ t c cs

-- the last block of the chain
abbrev pub last_block : ℕ → List ℕ → ℕ
last_block b [] = b
last_block b (c ∷ cs) = last_block c cs

-- each block behind x has one predecessor; x is not behind itself, and t not in the chain
pub record Chain (succ : ℕ → List ℕ) (x t : ℕ) (chain : List ℕ) : Type 0 where
  pub linked : Linked succ x (chain ++ t ∷ [])
  pub steps : ChainSteps succ t x chain
  pub x_apart : In x (chain ++ t ∷ []) → ⊥
  pub t_apart : In t chain → ⊥

-- the straight code of a chain: every block but the last without its last instruction, the Br
abbrev pub without_last : List Instr → List Instr
without_last [] = []
without_last (i ∷ []) = []
without_last (i ∷ j ∷ c) = i ∷ without_last (j ∷ c)

abbrev pub straight_code : Prog → ℕ → List ℕ → List Instr
straight_code P b [] = P b
straight_code P b (c ∷ cs) = without_last (P b) ++ straight_code P c cs

-- what is left out neither reads nor writes
abbrev pub LastQuiet : List Instr → Type 0
LastQuiet [] = Unit {0}
LastQuiet (i ∷ []) = (i.reads ≡ []) × (i.writes ≡ [])
LastQuiet (i ∷ j ∷ c) = LastQuiet (j ∷ c)

abbrev pub Quiet : Prog → ℕ → List ℕ → Type 0
Quiet P b [] = Unit {0}
Quiet P b (c ∷ cs) = LastQuiet (P b) × Quiet P c cs

-- ---- who wrote a register, and what is live

-- who wrote a register last before a position of straight code: nobody since its entry, or the instruction at p
pub data Definer : Type 0 where
  entry : Definer
  by : ℕ → Definer

unfoldable pub defined_by : List Instr → ℕ → ℕ → Definer
defined_by S zero r = entry
defined_by S (suc q) r = cond (mem r (get_or S q no_instr).writes) (by q) (defined_by S q r)

-- read before any write
abbrev pub Exposed : ℕ → List Instr → Type 0
Exposed r [] = ⊥
Exposed r (i ∷ c) = In r i.reads ⊎ ((In r i.writes → ⊥) × Exposed r c)

-- what is used of live-in: it is a solution (the least or not), of registers below R
pub record LiveSolution (R : ℕ) (succ : ℕ → List ℕ) (P : Prog) (live : ℕ → ℕ → Bool) : Type 0 where
  -- what is read before it is written is live
  pub use_in : (b r : ℕ) → Exposed r (P b) → live b r ≡ true
  -- so is what is live into a successor and not written
  pub pass : (b s r : ℕ) → In s (succ b) → live s r ≡ true → (In r (written_by (P b)) → ⊥) → live b r ≡ true
  pub low : (b r : ℕ) → live b r ≡ true → r < R

-- every register of the program is below R
abbrev pub RegistersBelow : ℕ → Prog → Type 0
RegistersBelow R P = (b : ℕ) (i : Instr) → In i (P b) → ((r : ℕ) → In r i.reads → r < R) × ((r : ℕ) → In r i.writes → r < R)

-- ---- the legal set

-- rules 1 to 3 for the members `mark` of the straight code S, of which the first n may be members; `live_other` is live into the other
-- branch, `live_past` is live out of the target and not written there
pub record Legal (S : List Instr) (n : ℕ) (mark : ℕ → Bool) (live_other live_past : ℕ → Type 0) : Type 0 where
  -- members stand in x, and the terminator is none
  pub inside : (p : ℕ) → mark p ≡ true → p < n
  -- rule 1
  pub readers : (q r p : ℕ) → q < length S → In r (get_or S q no_instr).reads → defined_by S q r ≡ by p → mark p ≡ true → mark q ≡ true
  -- rule 2: the other branch, and what is live out of the target
  pub last_not_other : (r p : ℕ) → defined_by S (length S) r ≡ by p → mark p ≡ true → live_other r → ⊥
  pub last_not_past : (r p : ℕ) → defined_by S (length S) r ≡ by p → mark p ≡ true → live_past r → ⊥
  -- rule 3
  pub stable : (p r q : ℕ) → mark p ≡ true → In r (get_or S p no_instr).reads → ((d : ℕ) → defined_by S p r ≡ by d → mark d ≡ true → ⊥)
      → p < q → q < length S → mark q ≡ false → In r (get_or S q no_instr).writes → ⊥

-- the law on new registers: `new_reg p` is what member p writes, and T the target's code
pub record NewRegisters (R : ℕ) (S : List Instr) (T : List Instr) (mark : ℕ → Bool) (new_reg : ℕ → ℕ) : Type 0 where
  -- new ones
  pub above : (p : ℕ) → mark p ≡ true → R ≤ new_reg p
  -- a member writes one register at most
  pub single : (p r s : ℕ) (rs : List ℕ) → mark p ≡ true → (get_or S p no_instr).writes ≡ r ∷ s ∷ rs → ⊥
  -- q reuses d's register: no member behind q reads d's value
  pub past : (d q p r s : ℕ) → mark d ≡ true → mark q ≡ true → d < q → new_reg q ≡ new_reg d → In s (get_or S q no_instr).writes
      → q < p → mark p ≡ true → In r (get_or S p no_instr).reads → defined_by S p r ≡ by d → ⊥
  -- nor does the target
  pub unread : (d q r s : ℕ) → mark d ≡ true → mark q ≡ true → d < q → new_reg q ≡ new_reg d → In s (get_or S q no_instr).writes
      → Exposed r T → defined_by S (length S) r ≡ by d → ⊥

-- ---- the move

-- a register's name after: the new register if a member wrote it
abbrev pub new_name : (ℕ → Bool) → (ℕ → ℕ) → Definer → ℕ → ℕ
new_name mark new_reg entry r = r
new_name mark new_reg (by p) r = cond (mark p) (new_reg p) r

-- what stays of the code from position q on
abbrev pub stays : (ℕ → Bool) → ℕ → List Instr → List Instr
stays mark q [] = []
stays mark q (i ∷ c) = cond (mark q) (stays mark (suc q) c) (i ∷ stays mark (suc q) c)

-- what goes to the target's head
abbrev pub goes : List Instr → (ℕ → Bool) → (ℕ → ℕ) → ℕ → List Instr → List Instr
goes S mark new_reg q [] = []
goes S mark new_reg q (i ∷ c) =
    cond (mark q)
    (with_registers (map (λ (r : ℕ). new_name mark new_reg (defined_by S q r) r) i.reads) (map (λ (r : ℕ). new_reg q) i.writes) i ∷ goes S mark new_reg (suc q) c)
    (goes S mark new_reg (suc q) c)

-- the target's own code: reads before its own write of the register are renamed; ws is what it has written so far
abbrev pub owns : List Instr → (ℕ → Bool) → (ℕ → ℕ) → List ℕ → List Instr → List Instr
owns S mark new_reg ws [] = []
owns S mark new_reg ws (i ∷ c) =
    with_registers (map (λ (r : ℕ). cond (mem r ws) r (new_name mark new_reg (defined_by S (length S) r) r)) i.reads) i.writes i ∷ owns S mark new_reg (i.writes ++ ws) c

-- one round of document 01: x's members go to the target's head
pub record Round (R : ℕ) (succ : ℕ → List ℕ) (P P' : Prog) : Type 0 where
  -- from x to t; members are the marked positions of the straight code
  pub x : ℕ
  pub t : ℕ
  pub chain : List ℕ
  pub live : ℕ → ℕ → Bool
  pub mark : ℕ → Bool
  pub new_reg : ℕ → ℕ
  -- what the pass knows: registers in use, live-in, the chain, its inner branches
  pub below : RegistersBelow R P
  pub solves : LiveSolution R succ P live
  pub is_chain : Chain succ x t chain
  pub quiet : Quiet P x chain
  -- the members and their new registers are lawful
  pub legal : Legal (straight_code P x chain) (length (without_last (P x))) mark (λ r. (s : ℕ) × In s (succ (last_block x chain)) × (s ≡ t → ⊥) × (live s r ≡ true))
      (λ r. (In r (written_by (P t)) → ⊥) × ((s : ℕ) × In s (succ t) × (live s r ≡ true)))
  pub fresh : NewRegisters R (straight_code P x chain) (P t) mark new_reg
  -- the program after
  pub after_x : P' x ≡ stays mark 0 (P x)
  pub after_t : P' t ≡ goes (straight_code P x chain) mark new_reg 0 (P x) ++ owns (straight_code P x chain) mark new_reg [] (P t)
  pub after_other : (b : ℕ) → (b ≡ x → ⊥) → (b ≡ t → ⊥) → P' b ≡ P b
