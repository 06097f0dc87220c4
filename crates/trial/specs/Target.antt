-- One target tried (01, "A round"), in parts: whether it is one, the set, and the words. Assumes nothing.
use Rattle.std.specs.Prelude.{◌≡◌, true, false, ◌||◌, cond, List, ℕ, ◌+◌, ◌*◌, ◌<◌, eqb, ltb, get_or, length, drop, Option, None, Some}
use Rattle.words.specs.Lists.{count, member}
use Rattle.model.specs.Picture.{Picture, nblocks}
use Rattle.model.specs.Analyse.{Facts}
use Rattle.model.specs.Move.{Plan, chain_places, plan, run_of, needed_of, is_target}
use Rattle.facts.specs.declared.Fact.{Fact}
use Rattle.chains.specs.declared.chain.Chain.{Chain}
use Rattle.chains.specs.Chain.{blocks_of, Few}
use Rattle.summary.specs.Passes.{Row}
use Rattle.sizes.specs.declared.Sizes.{Sizes}
use Rattle.plan.specs.declared.turn.Asked.{Asked}
use Rattle.trial.specs.declared.target.Goal.{Goal}
use Rattle.trial.specs.declared.target.Aim.{Aim}
use Rattle.trial.specs.declared.target.Sunk.{Sunk}
use Rattle.sizes.specs.Parts.{needed_at, stamps_at}
use Rattle.chainwords.specs.Work.{chain_words, Lists, Tabled, Held}
use Rattle.chainwords.specs.Along.{Along, Planning, FromX, Marked}
use Rattle.chains.specs.Chain.{chain_in}

-- ---- `take_aim`

-- what is asked of the sweeps: the row at word o and the registers' words at s, the first m of n positions in x, and the fewest members
abbrev pub asked : ℕ → ℕ → ℕ → ℕ → ℕ → Asked
asked o s m n least = record { span = record { o = o; s = s; m = m; n = n }; least = least }

-- there is a picture of these lists, whose blocks both branches are
pub record Aiming (bounds recs pairs targets : List ℕ) (s : Sizes) (c : Chain) (work64 work32 : List ℕ) (g : Goal) : Type 0 where
  pub ops : List ℕ
  pub P : Picture
  pub lists : Lists P bounds recs ops s (length work64) (length work32)
  pub tabled : Tabled P pairs targets
  pub few : Few c
  pub into_block : g.into.0 < nblocks P
  pub other_block : g.other.0 < nblocks P

-- nothing to do: the sweeps are over no positions, and no words of registers are read; or the row of registers needed elsewhere
pub record Aimed (bounds recs pairs targets : List ℕ) (s : Sizes) (c : Chain) (work64 work32 : List ℕ) (g : Goal) (work64' : List ℕ) (r : Aim) : Type 0 where
  pub size64 : length work64' ≡ length work64
  pub held : (P : Picture) (G : Facts) (ops : List ℕ) → Lists P bounds recs ops s (length work64) (length work32) → Tabled P pairs targets → Held P G work64 work32 → Held P G work64' work32
  -- nothing to do
  pub off : r.least ≡ 0 → (r.asked ≡ asked (needed_at s) (stamps_at s) 0 0 1) × (r.end ≡ 8000)
  pub no_target : r.least ≡ 0 → 0 < g.least → (P : Picture) (G : Facts) (ops : List ℕ) → Lists P bounds recs ops s (length work64) (length work32) → Held P G work64 work32 → is_target P (chain_in c) g.into.0 ≡ false
  -- a target
  pub on : 0 < r.least → (r.least ≡ g.least) × (r.asked ≡ asked (needed_at s) (stamps_at s) g.inside g.places g.least) × (r.end ≡ 8000 + s.regs)
  pub target : 0 < r.least → (P : Picture) (G : Facts) (ops : List ℕ) → Lists P bounds recs ops s (length work64) (length work32) → Held P G work64 work32 → is_target P (chain_in c) g.into.0 ≡ true
  pub row : 0 < r.least → (P : Picture) (G : Facts) (ops : List ℕ) → Lists P bounds recs ops s (length work64) (length work32) → Tabled P pairs targets → Held P G work64 work32
      → Row work64' (needed_at s) P.regs (member (needed_of P g.into.0 g.other.0))

-- ---- `try_target`

-- how many of k members move, and how many of n positions are written
unfoldable pub taken : ℕ → ℕ → ℕ → Sunk
taken k least n = cond (eqb least 0 || ltb k least) (record { moved = 0; places = 0 }) (record { moved = k; places = n })

-- the structs w stand for the facts along chain c, and both branches are blocks
pub record Trying (bounds recs ops pairs targets : List ℕ) (s : Sizes) (c : Chain) (w : List Fact) (work64 work32 : List ℕ) (g : Goal) : Type 0 where
  pub planning : Planning bounds recs ops s c w work64 work32 g.into.0 g.inside g.places
  pub tabled : Tabled planning.P pairs targets
  pub other_block : g.other.0 < nblocks planning.P

-- `model`'s plan for this target
abbrev pub plan_toward : Picture → Facts → ℕ → Chain → Goal → Option Plan
plan_toward P G x c g = plan P (run_of P G (chain_in c)) x (chain_in c) g.least g.into.0 g.other.0

-- r members move, or none
pub record TargetTried (bounds recs ops pairs targets : List ℕ) (s : Sizes) (c : Chain) (w : List Fact) (work64 work32 : List ℕ) (g : Goal) (work64' work32' : List ℕ) (r : ℕ) : Type 0 where
  pub size64 : length work64' ≡ length work64
  pub size32 : length work32' ≡ length work32
  pub held : (P : Picture) (G : Facts) → Lists P bounds recs ops s (length work64) (length work32) → Tabled P pairs targets → Held P G work64 work32 → Held P G work64' work32'
  pub behind : drop 8000 work32' ≡ drop 8000 work32
  pub unwanted : g.least ≡ 0 → r ≡ 0
  -- no plan: the words are as they were
  pub still : r ≡ 0 → work32' ≡ work32
  pub none_is : 0 < g.least → (P : Picture) (G : Facts) (x : ℕ) → Lists P bounds recs ops s (length work64) (length work32) → Tabled P pairs targets → Held P G work64 work32
      → Along P G c w work32 g.places → FromX P c x g.inside → r ≡ 0 → plan_toward P G x c g ≡ None
  -- a plan: the words say so
  pub some_is : (P : Picture) (G : Facts) (x : ℕ) → Lists P bounds recs ops s (length work64) (length work32) → Tabled P pairs targets → Held P G work64 work32
      → Along P G c w work32 g.places → FromX P c x g.inside → (r ≡ 0 → ⊥)
      → (a : Plan) × (plan_toward P G x c g ≡ Some a) × (r ≡ count a.set) × Marked P a g.inside g.places (chain_words work32')
      × ((k : ℕ) → k < g.places → get_or (chain_words work32') (10 * k) 0 ≡ get_or (chain_places P (blocks_of c)) k 0)
