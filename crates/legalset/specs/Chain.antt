-- A chain as `analyse` leaves it, a fact a position: what each position reads, writes and does; and when that stands for `model`'s
-- facts. Assumes nothing.
use Rattle.std.specs.Prelude.{◌≡◌, ◌⊎◌, Bool, false, cond, List, [], ◌∷◌, ◌++◌, map, ℕ, zero, suc, ◌/◌, ◌%◌, ◌≤◌, ◌<◌, eqb, get_or, length, take}
use Rattle.words.specs.Lists.{mem}
use Rattle.words.specs.Last.{last_below}
use Rattle.model.specs.Picture.{Inst, inst, reads, writes, list_of}
use Rattle.model.specs.Analyse.{Fact, last_writer}
use Rattle.model.specs.Legal.{fact_at}
use Rattle.facts.specs.declared.Fact as F
use Rattle.facts.specs.Marks.{fact_in}
use Rattle.effects.specs.Origin.{org_at, class_at, wrote_at}
unfoldable pub use Rattle.effects.specs.Origin.{place_at}
use Rattle.inst.specs.Record.{present}
use Rattle.regfacts.specs.Written.{Good}

-- ---- where values point

-- where register r points, if its writer and 1 is d; before the chain, what was known before round 1
unfoldable pub reg_org : List F.Fact → List ℕ → ℕ → ℕ → ℕ
reg_org w regs r zero = cond (eqb (get_or regs r 0 % 2) 1) 1 (cond (eqb (get_or regs r 0 / 2 % 2) 1) 3 0)
reg_org w regs r (suc d) = (fact_in w d).org

-- every second one, where the bit of `scalars` is 0
unfoldable pub picked : ℕ → List ℕ → List ℕ
picked sc [] = []
picked sc (a ∷ []) = []
picked sc (a ∷ n ∷ rs) = cond (eqb (sc % 2) 0) (a ∷ picked (sc / 2) rs) (picked (sc / 2) rs)

-- the origins that p reads, by the number in its fact: none, one, or those of a Cat's pieces, whose writers and 1 are d
unfoldable pub origins : List F.Fact → List ℕ → List ℕ → Inst → (ℕ → ℕ) → ℕ → List ℕ
origins w regs ops i d zero = []
origins w regs ops i d (suc o) = cond (eqb (suc o) 4294967295) (map (λ r. reg_org w regs r (d r)) (picked (get_or i 9 0) (list_of ops i))) (o ∷ [])

-- ---- a chain, position by position

pub record View : Type 0 where
  pub defs : ℕ → List ℕ
  pub reads : ℕ → List ℕ
  -- origins read; memory written, 0 or origin and 1
  pub from : ℕ → List ℕ
  pub wrote : ℕ → ℕ
  pub creates : ℕ → Bool
  pub barrier : ℕ → Bool
  pub suspends : ℕ → Bool

-- the last writer of r before p, and 1
unfoldable pub writer : (ℕ → List ℕ) → ℕ → ℕ → ℕ
writer defs r p = last_below (λ q. mem r (defs q)) p

abbrev pub defs_of : List ℕ → List F.Fact → ℕ → List ℕ
defs_of recs w q = writes (inst recs (fact_in w q).rec)

abbrev pub reads_of : List ℕ → List ℕ → List F.Fact → ℕ → List ℕ
reads_of recs ops w q = reads ops (inst recs (fact_in w q).rec)

abbrev pub view : List ℕ → List ℕ → List F.Fact → List ℕ → View
view recs ops w regs = record {
  defs = defs_of recs w;
  reads = reads_of recs ops w;
  from = λ p. origins w regs ops (inst recs (fact_in w p).rec) (λ r. writer (defs_of recs w) r p) (fact_in w p).from;
  wrote = λ p. (fact_in w p).wrote;
  creates = λ p. (fact_in w p).creates;
  barrier = λ p. (fact_in w p).barrier;
  suspends = λ p. (fact_in w p).suspends;
}

-- the view stands for the facts of n positions
pub record Stands (C : View) (n : ℕ) (run : List Fact) : Type 0 where
  pub long : length run ≡ n
  pub defs : (q : ℕ) → q < n → (fact_at run q).defs ≡ C.defs q
  pub uses : (q : ℕ) → q < n → (fact_at run q).uses ≡ map (λ r. record { reg = r; writer = last_writer 0 (take q run) r }) (C.reads q)
  pub from : (q : ℕ) → q < n → (fact_at run q).does.from ≡ map org_at (C.from q)
  pub wrote : (q : ℕ) → q < n → (fact_at run q).does.wrote ≡ wrote_at (C.wrote q)
  pub creates : (q : ℕ) → q < n → (fact_at run q).does.creates ≡ C.creates q
  pub barrier : (q : ℕ) → q < n → (fact_at run q).does.barrier ≡ C.barrier q
  pub suspends : (q : ℕ) → q < n → (fact_at run q).suspends ≡ C.suspends q

-- ---- what the code needs

-- the facts of n positions over R registers
pub record Safe (recs ops : List ℕ) (w : List F.Fact) (n R : ℕ) : Type 0 where
  pub few : n ≤ 800
  pub good : (p : ℕ) → p < n → Good recs ops R (fact_in w p).rec
  pub org : (p : ℕ) → p < n → (fact_in w p).org < 2004
  pub wrote : (p : ℕ) → p < n → (fact_in w p).wrote ≤ 2004
  pub from : (p : ℕ) → p < n → ((fact_in w p).from ≤ 2004) ⊎ ((fact_in w p).from ≡ 4294967295)

-- where there is no more, a fact has all that its record writes and reads
pub record Brief (recs ops : List ℕ) (w : List F.Fact) (n : ℕ) : Type 0 where
  pub defs : (p : ℕ) → p < n → (fact_in w p).more ≡ false → defs_of recs w p ≡ present (fact_in w p).def
  pub reads : (p : ℕ) → p < n → (fact_in w p).more ≡ false → reads_of recs ops w p ≡ present (fact_in w p).use0 ++ present (fact_in w p).use1

-- they stand for the chain's facts
pub record Told (recs ops : List ℕ) (w : List F.Fact) (regs : List ℕ) (n : ℕ) (run : List Fact) : Type 0 where
  pub stands : Stands (view recs ops w regs) n run
  pub class : (p : ℕ) → p < n → (fact_at run p).does.class ≡ class_at (fact_in w p).class
