-- 01, "A round" and "Answers": what the move of a round comes to, against the room that is lent. Assumes nothing.
use Rattle.std.specs.Prelude.{◌≡◌, true, false, List, ℕ, ◌+◌, ◌≤◌, ◌<◌, length, take, drop, Option, None, Some}
use Rattle.words.specs.Lists.{count}
use Rattle.model.specs.Picture.{Picture}
use Rattle.model.specs.Refusal.{refusal, records}
use Rattle.model.specs.Analyse.{Facts}
use Rattle.model.specs.Move.{Plan, apply}
use Rattle.model.specs.Pass as Pass
use Rattle.model.specs.Pass.{fits}
use Rattle.checks.specs.Causes.{picture_of}
use Rattle.apply.specs.declared.needs.Counts.{Counts}
use Rattle.apply.specs.declared.moves.Move.{Move}
use Rattle.apply.specs.Apply.{Stands, Given, Asks, Counted, Fits}
use Rattle.sizes.specs.declared.Sizes.{Sizes}
use Rattle.sizes.specs.Parts.{sizes_of, stamps_at}
use Rattle.chainwords.specs.Work.{Begun, chain_words}
use Rattle.find.specs.Find.{IsAnswered}
use Rattle.oneround.specs.declared.weigh.Step.{Step}
use Rattle.oneround.specs.declared.weigh.Step.TheVariants.{Ends, Goes, Short}
use Rattle.oneround.specs.declared.weigh.Line.{Line}

-- ---- what it needs, counted

-- the move mv can be counted: the words of the chain are as the move asks, and the words for new names are there
pub record Needing (bounds recs types ops : List ℕ) (s : Sizes) (work64 work32 : List ℕ) (insts : ℕ) (mv : Move) : Type 0 where
  pub asks : Asks mv.from.0 mv.into.0 mv.inside mv.places s.regs s.opers s.lent insts bounds recs types ops (chain_words work32)
  pub lent_are : s.lent ≡ length types
  pub few_blocks : s.blocks ≤ 4096
  pub room64 : stamps_at s + s.lent ≤ length work64
  pub room32 : 8000 ≤ length work32

-- c was counted; of the work slices, the words of the chain and those for new names changed
pub record Needed (bounds recs types ops : List ℕ) (s : Sizes) (work64 work32 : List ℕ) (mv : Move) (work64' work32' : List ℕ) (c : Counts) : Type 0 where
  pub size64 : length work64' ≡ length work64
  pub size32 : length work32' ≡ length work32
  pub before : take (stamps_at s) work64' ≡ take (stamps_at s) work64
  pub behind : drop 8000 work32' ≡ drop 8000 work32
  pub counted : Counted mv.from.0 mv.into.0 mv.inside mv.places s.regs s.opers bounds recs types ops (chain_words work32) (chain_words work32') c.regs c.opers

-- what move mv, of these counts, comes to where so many registers and operands are lent
abbrev pub IsStepped : Move → Counts → ℕ → ℕ → Step → Type 0
IsStepped mv c lent room (Goes l) = (c.regs ≤ lent) × (c.opers ≤ room) × (l ≡ record { moved = mv; registers = c.regs; operands = c.opers })
IsStepped mv c lent room Short = c.regs ≤ lent → room < c.opers
IsStepped mv c lent room Ends = ⊥

-- ---- what it comes to

-- the line says what the plan a does to P
pub record Says (P : Picture) (a : Plan) (l : Line) : Type 0 where
  pub from_is : l.moved.from.0 ≡ a.x
  pub into_is : l.moved.into.0 ≡ a.into
  pub moved_is : l.moved.moved ≡ count a.set
  pub registers_are : l.registers ≡ (apply P a).regs
  pub operands_are : l.operands ≡ (apply P a).opers

-- what the move comes to, and what the work slices then hold: of a move that fits, all that `apply` takes
abbrev pub IsPrepared : Picture → Facts → Step → List ℕ → Type 0
IsPrepared P G (Goes l) w =
    (a : Plan) × (Pass.round P G ≡ Some a) × (fits P (apply P a) ≡ true) × Says P a l
    × Asks a.x a.into l.moved.inside l.moved.places P.regs P.opers (length P.types) (length P.locs) P.bounds P.recs P.types P.ops w
    × Fits a.x a.into l.moved.inside l.moved.places P.regs P.opers P.bounds P.recs P.types P.ops w
    × Stands P a l.moved.inside l.moved.places w × Given P a l.moved.inside w
IsPrepared P G Short w = (a : Plan) × (Pass.round P G ≡ Some a) × (fits P (apply P a) ≡ false)
IsPrepared P G Ends w = Pass.round P G ≡ None

-- what is lent besides, which `weigh` does not read
pub record Beside : Type 0 where
  pub locs : List ℕ
  pub vias : List ℕ
  pub pairs : List ℕ
  pub targets : List ℕ
  pub replay : List ℕ

abbrev pub with_beside : List ℕ → List ℕ → List ℕ → List ℕ → Sizes → Beside → Picture
with_beside bounds recs types ops s e = picture_of bounds recs e.locs e.vias types s.regs ops s.opers e.pairs e.targets e.replay

-- there is an accepted picture of these lists and sizes, and facts by which r is what the search of a round answers
pub record Ready (bounds recs types ops : List ℕ) (s : Sizes) (work64 work32 : List ℕ) (r : Option Move) : Type 0 where
  pub e : Beside
  pub G : Facts
  pub accepted : refusal (with_beside bounds recs types ops s e) (length work64) (length work32) records ≡ 0
  pub sizes_are : s ≡ sizes_of (with_beside bounds recs types ops s e)
  pub answer : IsAnswered (with_beside bounds recs types ops s e) G work64 work32 r

-- of every such picture and facts: the work slices hold what the call began with, and q is what it comes to
pub record Weighed (bounds recs types ops : List ℕ) (s : Sizes) (work64 work32 : List ℕ) (r : Option Move) (work64' work32' : List ℕ) (q : Step) : Type 0 where
  pub size64 : length work64' ≡ length work64
  pub size32 : length work32' ≡ length work32
  pub is : (e : Beside) (G : Facts) → refusal (with_beside bounds recs types ops s e) (length work64) (length work32) records ≡ 0 → IsAnswered (with_beside bounds recs types ops s e) G work64 work32 r
      → Begun (with_beside bounds recs types ops s e) G work64' work32' × IsPrepared (with_beside bounds recs types ops s e) G q (chain_words work32')
