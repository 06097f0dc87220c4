-- 01, "A round": what the search for a move from a block answers, `model`'s `try_block`; the chain's words then stand for the plan, as
-- `apply` takes it. Assumes nothing.
use Rattle.std.specs.Prelude.{◌≡◌, ◌||◌, cond, List, ℕ, ◌+◌, ◌*◌, ◌-◌, ◌<◌, eqb, ltb, get_or, length, Option, Some, None}
use Rattle.words.specs.Lists.{count, mem}
use Rattle.model.specs.Picture.{Picture, absent, size}
use Rattle.model.specs.Analyse.{Facts}
use Rattle.model.specs.Move.{Chain, Plan, chain, chain_places, minimum, try_block}
use Rattle.pool.specs.Pool.{last_at, wrote_at}
use Rattle.inst.specs.declared.index.BlockId.{BlockId}
use Rattle.apply.specs.Apply.{Stands}
use Rattle.apply.specs.declared.moves.Move.{Move}
use Rattle.search.specs.declared.find.Look.{Look}
use Rattle.trial.specs.declared.target.Goal.{Goal}
use Rattle.chainwords.specs.Work.{Shown, Given, Held, chain_words}
use Rattle.worth.specs.Worth.{Chosen}
use Rattle.chains.specs.declared.chain.Chain as C
use Rattle.sizes.specs.declared.Sizes.{Sizes}

-- the move mv is the plan from block x, and w, ten words a position, say so
pub record Found (P : Picture) (G : Facts) (x : ℕ) (mv : Move) (w : List ℕ) : Type 0 where
  pub a : Plan
  pub c : Chain
  pub is : try_block P G x ≡ Some a
  pub is_chain : chain P x ≡ Some c
  pub from_is : mv.from.0 ≡ x
  pub into_is : mv.into.0 ≡ a.into
  pub moved_is : mv.moved ≡ count a.set
  pub in_x : mv.inside ≡ size P x - 1
  pub stands : Stands P a mv.inside mv.places w
  pub places : (k : ℕ) → k < mv.places → get_or w (10 * k) 0 ≡ get_or (chain_places P c.blocks) k 0
  pub lasts : (p : ℕ) → p < mv.inside → last_at w p < 4096
  pub wrotes : (p : ℕ) → p < mv.inside → (wrote_at w p ≡ absent → ⊥) → wrote_at w p < P.regs

abbrev pub IsTried : Picture → Facts → ℕ → Option Move → List ℕ → Type 0
IsTried P G x (Some mv) w = Found P G x mv w
IsTried P G x None w = try_block P G x ≡ None

-- ---- what the targets are tried with, and the answer of `found`

-- t, of n positions along the chain
abbrev pub toward_t : List ℕ → List ℕ → Look → ℕ → Goal
toward_t bounds replay k n = record {
  into = k.c.t;
  other = k.c.f;
  least = minimum (mem k.c.t.0 replay || mem k.c.f.0 replay);
  inside = get_or bounds (2 * k.x.0 + 1) 0 - get_or bounds (2 * k.x.0) 0 - 1;
  places = n;
}

-- f, with the fewest that t was tried with, or with 0 (none is wanted) once some move into t
abbrev pub toward_f : Goal → ℕ → Goal
toward_f g moved = record { into = g.other; other = g.into; least = cond (eqb moved 0) g.least 0; inside = g.inside; places = g.places }

-- k members move from block x into t, or else l into f
unfoldable pub found : BlockId → Goal → ℕ → ℕ → Option Move
found x g k l =
    cond (ltb 0 k) (Some (record { from = x; into = g.into; inside = g.inside; places = g.places; moved = k })) (cond (ltb 0 l) (Some (record { from = x; into = g.other; inside = g.inside; places = g.places; moved = l })) None)

-- ---- `try_chain`

pub record Following (bounds recs ops pairs targets replay : List ℕ) (s : Sizes) (x : ℕ) (c : C.Chain) (work64 work32 : List ℕ) : Type 0 where
  pub given : Given bounds recs ops pairs targets replay s work64 work32
  pub chosen : Chosen given.P x c

-- the work slices after: of every picture and facts that they were for
pub record Followed (bounds recs ops pairs targets replay : List ℕ) (s : Sizes) (x : ℕ) (c : C.Chain) (work64 work32 work64' work32' : List ℕ) (r : Option Move) : Type 0 where
  pub size64 : length work64' ≡ length work64
  pub size32 : length work32' ≡ length work32
  pub held : (P : Picture) (G : Facts) → Shown P bounds recs ops pairs targets replay s (length work64) (length work32) → Held P G work64 work32 → Held P G work64' work32'
  pub is : (P : Picture) (G : Facts) → Shown P bounds recs ops pairs targets replay s (length work64) (length work32) → Held P G work64 work32 → Chosen P x c
      → IsTried P G x r (chain_words work32')
