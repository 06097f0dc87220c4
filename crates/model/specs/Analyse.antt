-- 01, "A round" and "The legal set": 000's facts on registers, `analyse`, `writes_nothing` and `alias`, over a chain's
-- instructions. Assumes nothing.
use Rattle.std.specs.Prelude.{Bool, true, false, ◌&&◌, ◌||◌, cond, List, [], ◌∷◌, ◌++◌, map, ℕ, suc, ◌+◌, ◌-◌, ◌*◌, ◌/◌, ◌%◌, ◌^◌, ℤ, pos, negsuc, nat_abs, eqb, ltb, leb, get_or, length, drop, Option, None, Some}
use Rattle.std.specs.Int.Signed.{lt_z}
use Rattle.words.specs.Lists.{upto, mem, filter, same}
use Rattle.model.specs.Kinds.{Arm, row, Const, AddrOf, CallNative, Suspend, CallIndirect, Call, CallProt, const, constF, addr_of, move, select, truth, bin, index, check, dopeLen, load, alloc, layout_of, signal, fills, store, cat, native, stops, deref, writes, other}
use Rattle.model.specs.Picture.{Picture, Inst, absent, kind, form, is_kind, reads}
use Rattle.model.specs.Picture as Pic
use Rattle.model.specs.Refusal.{all_code}

-- ---- an option that holds something, or something that passes

abbrev pub is_some : {A : Type 0} → Option A → Bool
is_some None = false
is_some (Some a) = true

abbrev pub when_some : {A : Type 0} → (A → Bool) → Option A → Bool
when_some f None = false
when_some f (Some a) = f a

abbrev pub unless_some : {A : Type 0} → (A → Bool) → Option A → Bool
unless_some f None = true
unless_some f (Some a) = f a

-- ---- facts on registers, once, before round 1

-- a Const's value: words 9 and 10, low and high half, signed
abbrev pub whole : Inst → ℤ
whole i = let n = get_or i 9 0 + 2 ^ 32 * get_or i 10 0 in elim (ltb n (2 ^ 63)) [ true ↦ pos n | false ↦ negsuc (2 ^ 64 - 1 - n) ]

-- what is known of a register: 000's `ro`, `frame` and `konst`
pub record Known : Type 0 where
  pub ro : Bool
  pub frame : Bool
  pub konst : Option ℤ

abbrev pub unknown : Known
unknown = record { ro = false; frame = false; konst = None }

-- the address of read-only memory (AddrOf's Inst and Const), of the function's own frame, or a constant
abbrev pub known : Inst → Known
known i =
    record {
      ro = is_kind AddrOf i && (eqb (form i) 2 || eqb (form i) 4);
      frame = is_kind AddrOf i && eqb (form i) 0;
      konst = elim (is_kind Const i) [ true ↦ Some (whole i) | false ↦ None ];
    }

-- from the register's writers: something only if there is exactly one
abbrev pub from_writers : List Inst → Known
from_writers [] = unknown
from_writers (i ∷ []) = known i
from_writers (i ∷ j ∷ is) = unknown

-- of each register in use before round 1; a new register has no facts
abbrev pub Facts : Type 0
Facts = List Known

abbrev pub facts : Picture → Facts
facts P = let is = all_code P in map (λ r. from_writers (filter (λ i. mem r (Pic.writes i)) is)) (upto P.regs)

abbrev pub known_of : Facts → ℕ → Known
known_of G r = get_or G r unknown

-- a constant is a length from -2^40 to 2^40, both included
abbrev pub small : ℤ → Bool
small z = leb (nat_abs z) (2 ^ 40)

abbrev pub positive : ℤ → Bool
positive z = lt_z (pos 0) z

-- ---- what is known at a position

pub data Org : Type 0 where
  Unknown Ro Heap Frame : Org
  Temp Img : ℕ → Org

pub data Class : Type 0 where
  No Movable Free : Class

-- a register read, and the position in the chain that wrote it
pub record Read : Type 0 where
  pub reg : ℕ
  pub writer : Option ℕ

-- what an instruction does: its class, the memory it reads, whether it makes a block, the memory it writes, whether it is a
-- barrier; then where its result points, whether that is a length, and whether it is a layout
pub record Effect : Type 0 where
  pub class : Class
  pub from : List Org
  pub creates : Bool
  pub wrote : Option Org
  pub barrier : Bool
  pub org : Org
  pub len : Bool
  pub layout : Bool

pub record Fact : Type 0 where
  pub uses : List Read
  pub defs : List ℕ
  pub does : Effect
  pub suspends : Bool

abbrev pub eff : Class → List Org → Bool → Option Org → Bool → Org → Bool → Bool → Effect
eff c f m w b o l y = record { class = c; from = f; creates = m; wrote = w; barrier = b; org = o; len = l; layout = y }

-- an origin as numbers, to compare two
abbrev pub org_code : Org → List ℕ
org_code Unknown = 0 ∷ []
org_code Ro = 1 ∷ []
org_code Heap = 2 ∷ []
org_code Frame = 3 ∷ []
org_code (Temp k) = 4 ∷ k ∷ []
org_code (Img k) = 5 ∷ k ∷ []

abbrev pub same_org : Org → Org → Bool
same_org a b = same (org_code a) (org_code b)

-- may a write to w reach what lies at r
abbrev pub alias : Org → Org → Bool
alias Unknown r = true
alias Ro r = same_org r Unknown
alias Heap r = same_org r Unknown
alias Frame r = same_org r Unknown || same_org r Frame
alias (Temp j) r = same_org r Unknown || same_org r (Temp j)
alias (Img j) r = same_org r Unknown || same_org r (Img j)

-- the last position, counted from k, that writes r
abbrev pub last_writer : ℕ → List Fact → ℕ → Option ℕ
last_writer k [] r = None
last_writer k (f ∷ fs) r = elim (last_writer (suc k) fs r) [ Some q ↦ Some q | None ↦ cond (mem r f.defs) (Some k) None ]

abbrev pub no_fact : Fact
no_fact = record { uses = []; defs = []; does = eff No [] false None false Unknown false false; suspends = false }

-- where a register that is read points (000's `orgof`), and whether it is a length (`lenof`): from its writer among the facts so
-- far, or from those of before round 1
abbrev pub org_of : Facts → List Fact → Read → Org
org_of G past u =
    elim u.writer [
      | Some d ↦ (get_or past d no_fact).does.org
      | None ↦ cond (known_of G u.reg).ro Ro (cond (known_of G u.reg).frame Frame Unknown)
    ]

abbrev pub len_of : Facts → List Fact → Read → Bool
len_of G past u = elim u.writer [ Some d ↦ (get_or past d no_fact).does.len | None ↦ when_some small (known_of G u.reg).konst ]

abbrev pub is_layout : List Fact → ℕ → Bool
is_layout past d = (get_or past d no_fact).does.layout

-- the pieces of a Cat that are addresses: every second register of its list, where the bit of `scalars` is 0
abbrev pub pieces : ℕ → List Org → List Org
pieces sc [] = []
pieces sc (a ∷ []) = []
pieces sc (a ∷ n ∷ os) = let more = pieces (sc / 2) os in cond (eqb (sc % 2) 0) (a ∷ more) more

-- what a word read from there is: a pointer into an image points into it, a word of a layout is a length
abbrev pub inside : Org → Org
inside Unknown = Unknown
inside Ro = Unknown
inside Heap = Unknown
inside Frame = Unknown
inside (Temp k) = Unknown
inside (Img k) = Img k

abbrev pub sized : (ℕ → Bool) → Org → Bool
sized f Unknown = false
sized f Ro = false
sized f Heap = false
sized f Frame = false
sized f (Temp k) = f k
sized f (Img k) = false

-- the instruction i at position p: whether its second read is a constant above 0, where its k-th read points (o) and whether
-- that is a length (l), which positions are layouts, and where the registers of its list point
module _ (i : Inst) (p : ℕ) (divisor : Bool) (o : ℕ → Org) (l : ℕ → Bool) (layouts : ℕ → Bool) (list : List Org) where
  -- nothing that the pass knows of
  abbrev pub plain : Effect
  plain = eff No [] false None false Unknown false false

  -- it can move and leaves a value
  abbrev pub value : Org → Bool → Effect
  value og ln = eff Movable [] false None false og ln false

  -- the arms of `analyse`:         class   reads        creates wrote        barrier org      len   layout
  abbrev pub arm : Arm → Effect
  arm const = eff Free [] false None false Unknown (small (whole i)) false
  arm constF = eff Free [] false None false Unknown false false
  arm addr_of = eff Free [] false None false (cond (eqb (form i) 2 || eqb (form i) 4) Ro (cond (eqb (form i) 0) Frame Unknown)) false false
  arm move = value (o 0) (l 0)
  arm select = value (cond (same_org (o 1) (o 2)) (o 1) Unknown) (l 1 && l 2)
  arm truth = value Unknown true
  arm bin = cond (l 0 && (ltb 0 (form i) && leb (form i) 3 && l 1 || eqb (form i) 4 && divisor)) (value Unknown true) plain
  arm index = value (o 0) false
  arm check = cond (eqb (form i) 3 && l 0) (value Unknown false) plain
  arm dopeLen = eff Movable (o 0 ∷ []) false None false Unknown true false
  arm load = cond (eqb (form i) 4) plain (eff Movable (o 0 ∷ []) false None false (inside (o 0)) (sized layouts (o 0)) false)
  arm alloc = eff (cond (l 0) Movable No) [] (l 0) None false (Temp p) false false
  arm layout_of = cond (eqb (form i) 0) (eff Movable (o 0 ∷ []) true None false (Temp p) false true) plain
  arm signal = value Unknown false
  arm fills = eff Movable [] false (Some (o 0)) false Unknown false false
  arm store = cond (eqb (form i) 4) plain (eff Movable [] false (Some (o 0)) false Unknown false false)
  arm cat = eff Movable (pieces (get_or i 9 0) list) false (Some (o 0)) false Unknown false false
  arm native =
      cond (eqb (form i) 1 && eqb (get_or i 8 0) 1) (eff Movable [] true None false (Img p) false false)
      (cond (eqb (form i) 2) (eff No [] false None false (Temp p) false false) (eff No [] false None true Unknown false false))
  arm stops = eff No [] false None true Unknown false false
  arm deref = eff No [] false None false Heap false false
  arm writes = eff No [] false (Some (o 0)) false Unknown false false
  arm other = plain

abbrev pub movable : Class → Bool
movable No = false
movable Movable = true
movable Free = false

-- what is not named writes memory nobody can place
abbrev pub placed : Inst → Effect → Option Org
placed i e =
    elim e.wrote [
      | Some w ↦ Some w
      | None ↦ cond (movable e.class || e.barrier || (row (kind i)).quiet || is_kind CallNative i) None (Some Unknown)
    ]

abbrev pub may_suspend : Inst → Bool
may_suspend i = is_kind Suspend i || is_kind CallIndirect i || ((is_kind Call i || is_kind CallProt i) && eqb (form i) 1)

-- in place of a read that is not there
abbrev pub unread : Read
unread = record { reg = absent; writer = None }

-- the fact of one instruction, after those of the past
abbrev pub fact : Facts → List ℕ → List Fact → Inst → Fact
fact G ops past i =
    let us : List Read = map (λ r. record { reg = r; writer = last_writer 0 past r }) (reads ops i) in
    let orgs : List Org = map (org_of G past) us in
    let lens : List Bool = map (len_of G past) us in
    let e = arm i (length past) (when_some positive (known_of G (get_or us 1 unread).reg).konst) (λ k. get_or orgs k Unknown) (λ k. get_or lens k false) (is_layout past) (drop 3 orgs) (row (kind i)).arm in
    record {
      uses = us;
      defs = Pic.writes i;
      does = eff e.class e.from e.creates (placed i e) e.barrier e.org e.len e.layout;
      suspends = may_suspend i;
    }

-- the facts of a chain, behind those of the past
abbrev pub analyse : Facts → List ℕ → List Fact → List Inst → List Fact
analyse G ops past [] = past
analyse G ops past (i ∷ is) = analyse G ops (past ++ fact G ops past i ∷ []) is
