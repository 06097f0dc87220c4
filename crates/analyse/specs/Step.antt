-- Going along a chain: last writers marked, and the fact of a position. Assumes nothing.
use Rattle.std.specs.Prelude.{◌≡◌, Bool, false, not, ◌||◌, ◌⊎◌, List, [], ◌∷◌, ◌++◌, map, ℕ, ◌+◌, ◌*◌, ◌%◌, ◌≤◌, ◌<◌, eqb, get_or, length, drop}
use Rattle.model.specs.Kinds.{row, cat}
use Rattle.model.specs.Picture.{Picture, inst, kind, absent, reads, writes, list_of}
use Rattle.model.specs.Analyse.{Facts, Fact, fact, analyse}
use Rattle.model.specs.Move.{chain_places}
use Rattle.inst.specs.Record.{present}
use Rattle.inst.specs.declared.scanned.Firsts.{Firsts}
use Rattle.effects.specs.Origin.{num, class_code}
use Rattle.facts.specs.declared.Fact as F
use Rattle.facts.specs.Marks.{fact_in}
use Rattle.effects.specs.declared.arms.Effect.{Effect}
use Rattle.chains.specs.declared.chain.Chain.{Chain}
use Rattle.chains.specs.Chain.{blocks_of}
use Rattle.chains.specs.Places.{Laid, end_past}
use Rattle.regfacts.specs.Written.{Good}
use Rattle.regfacts.specs.Flags.{Seen}
use Rattle.analyse.specs.State.{Stands, Marked, Ranged, State, Safe}

-- ---- last writers

-- what goes over the flags: position p, where its value points, whether that is a length, and whether it points to a layout
unfoldable pub stamp : ℕ → ℕ → Bool → Bool → ℕ
stamp p o l y = p + 1 + 1024 * (o + 2048 * num l + 4096 * num y)

-- a register's word after a write: the flags stay
unfoldable pub marked : ℕ → ℕ → ℕ
marked d v = 16 * d + v % 16

-- the first R registers have no writer, and the flags stay
pub record Forgot (R : ℕ) (before after : List ℕ) : Type 0 where
  pub size : length after ≡ length before
  pub low : (r : ℕ) → r < R → get_or after r 0 ≡ get_or before r 0 % 16
  pub high : (r : ℕ) → R ≤ r → get_or after r 0 ≡ get_or before r 0

-- ---- a position's fact

-- are there more registers than one written and two read?
unfoldable pub more : Firsts → Bool
more x = not (eqb x.d1 absent) || not (eqb x.r2 absent)

-- record g, its effect, whether it may suspend, and what it writes and reads
unfoldable pub fact_of : ℕ → Effect → Bool → Firsts → F.Fact
fact_of g e s x = record {
  rec = g;
  class = class_code e.class;
  org = e.org;
  wrote = e.wrote;
  from = e.from;
  def = x.d0;
  use0 = x.r0;
  use1 = x.r1;
  more = more x;
  len = e.len;
  layout = e.layout;
  creates = e.creates;
  barrier = e.barrier;
  suspends = s;
  member = false;
}

-- ---- positions one after the other

-- record g can be analysed: it is good, a Cat's list comes after three registers, and g is small
pub record Learnable (recs ops : List ℕ) (R g : ℕ) : Type 0 where
  pub good : Good recs ops R g
  pub three : (row (kind (inst recs g))).arm ≡ cat → drop 3 (reads ops (inst recs g)) ≡ list_of ops (inst recs g)
  pub small : g < 32768

-- x is of record g and not in the set; its numbers are small, but for the code of a Cat; where there is no more, it has all that the
-- record writes and reads
pub record Sized (recs ops : List ℕ) (g : ℕ) (x : F.Fact) : Type 0 where
  pub number : x.rec ≡ g
  pub member : x.member ≡ false
  pub org : x.org < 2004
  pub wrote : x.wrote ≤ 2004
  pub from : (x.from ≤ 2004) ⊎ ((x.from ≡ 4294967295) × ((row (kind (inst recs g))).arm ≡ cat))
  pub defs : x.more ≡ false → writes (inst recs g) ≡ present x.def
  pub reads : x.more ≡ false → reads ops (inst recs g) ≡ present x.use0 ++ present x.use1

-- x is the fact of record g at position p, and the words of registers that stood for a past stand for it and x
pub record Learned (recs ops regs regs' : List ℕ) (p R g : ℕ) (x : F.Fact) : Type 0 where
  pub size : length regs' ≡ length regs
  pub kept : (r : ℕ) → get_or regs' r 0 % 16 ≡ get_or regs r 0 % 16
  pub ranged : Ranged R (p + 1) regs'
  pub sized : Sized recs ops g x
  pub stands : (G : Facts) (past : List Fact) → length past ≡ p → Marked G past R regs → Stands x (fact G ops past (inst recs g))
  pub marked : (G : Facts) (past : List Fact) → length past ≡ p → Marked G past R regs → Marked G (past ++ fact G ops past (inst recs g) ∷ []) R regs'

-- x is of such a record, and has the code of a Cat only if that is one; where there is no more, it has all that the record writes and reads
pub record Holds (recs ops : List ℕ) (R : ℕ) (x : F.Fact) : Type 0 where
  pub good : Learnable recs ops R x.rec
  pub cat : x.from ≡ 4294967295 → (row (kind (inst recs x.rec))).arm ≡ cat
  pub defs : x.more ≡ false → writes (inst recs x.rec) ≡ present x.def
  pub reads : x.more ≡ false → reads ops (inst recs x.rec) ≡ present x.use0 ++ present x.use1

-- from position p on these records were analysed: what stood for a past stands for it and them
pub record Ran (recs ops regs : List ℕ) (w : List F.Fact) (regs' : List ℕ) (w' : List F.Fact) (p R : ℕ) (places : List ℕ) : Type 0 where
  pub regs_size : length regs' ≡ length regs
  pub size : length w' ≡ length w
  pub kept : (r : ℕ) → get_or regs' r 0 % 16 ≡ get_or regs r 0 % 16
  pub safe : Safe R (p + length places) regs' w'
  pub numbers : (k : ℕ) → k < length places → (fact_in w' (p + k)).rec ≡ get_or places k 0
  pub holds : (k : ℕ) → k < length places → Holds recs ops R (fact_in w' (p + k))
  pub others : (q : ℕ) → q < p → fact_in w' q ≡ fact_in w q
  pub state : (G : Facts) (past : List Fact) → length past ≡ p → State G past R regs w → State G (analyse G ops past (map (inst recs) places)) R regs' w'

-- chain c can be analysed, and so can each record up to the end of one of its blocks
pub record Ready (recs ops regs : List ℕ) (facts : List F.Fact) (bounds : List ℕ) (c : Chain) (R : ℕ) : Type 0 where
  pub in_use : R ≤ length regs
  pub lent : length regs ≤ 65536
  pub room : 800 ≤ length facts
  pub laid : Laid bounds c
  pub good : (k g : ℕ) → k < c.count → g < end_past bounds (get_or (blocks_of c) k 0) → Learnable recs ops R g
  pub short : (P : Picture) → P.bounds ≡ bounds → length (chain_places P (blocks_of c)) ≤ 800

-- words and structs stand for the facts of the whole chain
pub record Analysed (recs ops regs : List ℕ) (w : List F.Fact) (bounds : List ℕ) (c : Chain) (R p : ℕ) (regs' : List ℕ) (w' : List F.Fact) : Type 0 where
  pub regs_size : length regs' ≡ length regs
  pub size : length w' ≡ length w
  pub kept : (r : ℕ) → get_or regs' r 0 % 16 ≡ get_or regs r 0 % 16
  pub safe : Safe R p regs' w'
  pub short : p ≤ 800
  pub holds : (k : ℕ) → k < p → Holds recs ops R (fact_in w' k)
  pub positions : (P : Picture) → P.bounds ≡ bounds → p ≡ length (chain_places P (blocks_of c))
  pub numbers : (P : Picture) → P.bounds ≡ bounds → (k : ℕ) → k < p → (fact_in w' k).rec ≡ get_or (chain_places P (blocks_of c)) k 0
  pub state : (P : Picture) → P.bounds ≡ bounds → (G : Facts) → Seen G R regs → State G (analyse G ops [] (map (inst recs) (chain_places P (blocks_of c)))) R regs' w'
