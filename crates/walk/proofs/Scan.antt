-- One round as a forward scan: definitions. The scan goes through x's code, the chain and the target, and says of each register where the
-- value that it held before is found after. `ScanRound` is what one round along a walk needs (OneRound); FromRules gives it from the rules
-- of document 01. Assumes nothing.
use mathlib.Core.Path.{◌≡◌}
use mathlib.Core.Bool.{Bool, true, cond}
use mathlib.Core.List.{List, [], ◌∷◌, ◌++◌, map}
use mathlib.Core.Logic.{◌⊎◌}
use Prim.Native.Nat.{ℕ, zero, ◌≤◌, ◌<◌}
use lib.Dec.{eqb}
use Rattle.words.specs.Lists.{In}
use Rattle.walk.specs.Machine.{put, Instr, with_registers, Prog}
use Rattle.walk.specs.Rules.{written_by, Linked}

-- x's code with marks: a moved instruction (a member) has its new register
pub data Marked : Type 0 where
  kept : Instr → Marked
  moved : ℕ → Instr → Marked

-- where the value that a register held before is found after: in the same register, nowhere, in a new register
pub data Location : Type 0 where
  same : Location
  lost : Location
  fresh : ℕ → Location

-- the environment of the scan: the location of each register's value
abbrev pub Locations : Type 0
Locations = ℕ → Location

-- ---- what code does to the locations

-- kept writes: before and after store the same
abbrev pub after_writes : Locations → List ℕ → Locations
after_writes a [] = a
after_writes a (r ∷ rs) = after_writes (put a r same) rs

abbrev pub after_code : Locations → List Instr → Locations
after_code a [] = a
after_code a (i ∷ c) = after_code (after_writes a i.writes) c

-- what was in the new register f is lost once f is reused
abbrev pub unless_reused : ℕ → Location → Location
unless_reused f same = same
unless_reused f lost = lost
unless_reused f (fresh g) = cond (eqb g f) lost (fresh g)

-- a moved instruction's writes: they will be in f
abbrev pub after_moved : Locations → ℕ → List ℕ → Locations
after_moved a f [] = a
after_moved a f (r ∷ rs) = after_moved (put (λ s. unless_reused f (a s)) r (fresh f)) f rs

abbrev pub scan : Locations → List Marked → Locations
scan a [] = a
scan a (kept i ∷ X) = scan (after_writes a i.writes) X
scan a (moved f i ∷ X) = scan (after_moved a f i.writes) X

-- along the blocks of a chain, all kept
abbrev pub after_chain : Prog → Locations → List ℕ → Locations
after_chain P a [] = a
after_chain P a (b ∷ bs) = after_chain P (after_code a (P b)) bs

-- at a block's entry: the registers that are live are where they were
abbrev pub live_in_place : (ℕ → Bool) → Locations
live_in_place l r = cond (l r) same lost

-- ---- the move, by the scan

-- the register that holds r's value after
abbrev pub register_at : Location → ℕ → ℕ
register_at same r = r
register_at lost r = r
register_at (fresh f) r = f

abbrev pub renamed : Locations → ℕ → ℕ
renamed a r = register_at (a r) r

-- x's code whole, what stays of it, and what goes to the target's head
abbrev pub all_of : List Marked → List Instr
all_of [] = []
all_of (kept i ∷ X) = i ∷ all_of X
all_of (moved f i ∷ X) = i ∷ all_of X

abbrev pub kept_of : List Marked → List Instr
kept_of [] = []
kept_of (kept i ∷ X) = i ∷ kept_of X
kept_of (moved f i ∷ X) = kept_of X

abbrev pub rename_moved : Locations → ℕ → Instr → Instr
rename_moved a f i = with_registers (map (renamed a) i.reads) (map (λ (r : ℕ). f) i.writes) i

abbrev pub moved_of : Locations → List Marked → List Instr
moved_of a [] = []
moved_of a (kept i ∷ X) = moved_of (after_writes a i.writes) X
moved_of a (moved f i ∷ X) = rename_moved a f i ∷ moved_of (after_moved a f i.writes) X

-- the target's own code
abbrev pub rename_own : Locations → List Instr → List Instr
rename_own a [] = []
rename_own a (i ∷ c) = with_registers (map (renamed a) i.reads) i.writes i ∷ rename_own (after_writes a i.writes) c

-- ---- what the scan asks

-- kept code reads what is where it was
abbrev pub ReadsInPlace : Locations → List Instr → Type 0
ReadsInPlace a [] = Unit {0}
ReadsInPlace a (i ∷ c) = ((r : ℕ) → In r i.reads → a r ≡ same) × ReadsInPlace (after_writes a i.writes) c

abbrev pub ChainInPlace : Prog → Locations → List ℕ → Type 0
ChainInPlace P a [] = Unit {0}
ChainInPlace P a (b ∷ bs) = ReadsInPlace a (P b) × ChainInPlace P (after_code a (P b)) bs

-- a value that can be read later: in a new register, or in its own one, below R and not among ws, which are written meanwhile
abbrev pub Findable : ℕ → List ℕ → Location → ℕ → Type 0
Findable R ws same r = (r < R) × (In r ws → ⊥)
Findable R ws lost r = ⊥
Findable R ws (fresh f) r = Unit {0}

-- x's code: kept code reads in place; new registers are above R, and moved code finds its values at the target, behind the rest of x and
-- the chain's writes cw
abbrev pub ScanAllows : ℕ → List ℕ → Locations → List Marked → Type 0
ScanAllows R cw a [] = Unit {0}
ScanAllows R cw a (kept i ∷ X) = ((r : ℕ) → In r i.reads → a r ≡ same) × ScanAllows R cw (after_writes a i.writes) X
ScanAllows R cw a (moved f i ∷ X) = (R ≤ f) × ((r : ℕ) → In r i.reads → Findable R (written_by (kept_of X) ++ cw) (a r) r) × ScanAllows R cw (after_moved a f i.writes) X

-- the target's own code finds its values behind the moved code
abbrev pub OwnFindable : ℕ → Locations → List Instr → Type 0
OwnFindable R a [] = Unit {0}
OwnFindable R a (i ∷ c) = ((r : ℕ) → In r i.reads → Findable R [] (a r) r) × ((r : ℕ) → In r i.writes → r < R) × OwnFindable R (after_writes a i.writes) c

-- the registers that a chain's blocks write
abbrev pub written_along : Prog → List ℕ → List ℕ
written_along P [] = []
written_along P (b ∷ bs) = written_by (P b) ++ written_along P bs

-- one round, as the walk needs it: x's code X with marks, the chain behind x, the target t
pub record ScanRound (R : ℕ) (succ : ℕ → List ℕ) (live : ℕ → ℕ → Bool) (P P' : Prog) (x t : ℕ) (chain : List ℕ) (X : List Marked) : Type 0 where
  -- the code before and after
  pub code_x : P x ≡ all_of X
  pub new_x : P' x ≡ kept_of X
  pub new_t : P' t ≡ moved_of (live_in_place (live x)) X ++ rename_own (after_chain P (scan (live_in_place (live x)) X) chain) (P t)
  pub new_other : (b : ℕ) → (b ≡ x → ⊥) → (b ≡ t → ⊥) → P' b ≡ P b
  -- x, the chain's blocks and t are apart, and none behind x is where walks begin
  pub x_alone : In x (chain ++ t ∷ []) → ⊥
  pub t_alone : In t chain → ⊥
  pub zero_out : In zero (chain ++ t ∷ []) → ⊥
  -- every read finds its value
  pub scan_ok : ScanAllows R (written_along P chain) (live_in_place (live x)) X
  pub chain_ok : ChainInPlace P (scan (live_in_place (live x)) X) chain
  pub own_ok : OwnFindable R (after_chain P (scan (live_in_place (live x)) X) chain) (P t)
  pub live_reads : (b : ℕ) → ReadsInPlace (live_in_place (live b)) (P b)
  pub live_low : (b r : ℕ) → live b r ≡ true → r < R
  -- where a block's successors lie, and what is live there
  pub from_x : (s : ℕ) → In s (succ x)
      → ((post : List ℕ) × (chain ++ t ∷ [] ≡ s ∷ post)) ⊎ ((In s (chain ++ t ∷ []) → ⊥) × ((r : ℕ) → live s r ≡ true → scan (live_in_place (live x)) X r ≡ same))
  pub from_chain : (pre : List ℕ) (b c : ℕ) (post : List ℕ) (s : ℕ) → chain ++ t ∷ [] ≡ pre ++ b ∷ c ∷ post → In s (succ b)
      → (s ≡ c) ⊎ ((In s (chain ++ t ∷ []) → ⊥) × ((r : ℕ) → live s r ≡ true → after_code (after_chain P (scan (live_in_place (live x)) X) pre) (P b) r ≡ same))
  pub from_t : (s : ℕ) → In s (succ t)
      → (In s (chain ++ t ∷ []) → ⊥) × ((r : ℕ) → live s r ≡ true → after_code (after_chain P (scan (live_in_place (live x)) X) chain) (P t) r ≡ same)
  pub from_other : (b : ℕ) → (b ≡ x → ⊥) → (In b (chain ++ t ∷ []) → ⊥) → (s : ℕ) → In s (succ b)
      → (In s (chain ++ t ∷ []) → ⊥) × ((r : ℕ) → live s r ≡ true → after_code (live_in_place (live b)) (P b) r ≡ same)

-- any number of rounds; in each, x and the blocks behind it are linked by sole predecessors
pub data ScanRounds (succ : ℕ → List ℕ) (P : Prog) : Prog → Type 0 where
  begin : ScanRounds succ P P
  round : {Q Q' : Prog} (R : ℕ) (live : ℕ → ℕ → Bool) (x t : ℕ) (chain : List ℕ) (X : List Marked)
      → ScanRounds succ P Q → ScanRound R succ live Q Q' x t chain X → Linked succ x (chain ++ t ∷ []) → ScanRounds succ P Q'
