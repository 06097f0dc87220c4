-- 01, "The move", new registers: `model`'s pool in words, and what the functions over it ensure. Assumes nothing.
-- A held register is one word, until × 2^20 + register × 8 + type, and a free one keeps that word.
use Rattle.std.specs.Prelude.{◌≡◌, Bool, true, false, cond, not, List, [], ◌∷◌, ◌++◌, map, ℕ, zero, suc, ◌+◌, ◌*◌, ◌/◌, ◌%◌, ◌≤◌, ◌<◌, eqb, ltb, get_or, length, take, drop, set, Option, None, Some}
use Rattle.std.specs.Int.{from_bool}
use Rattle.words.specs.Lists.{filter, lookup, In}
use Rattle.model.specs.Picture.{absent}
use Rattle.model.specs.Move.{Held, Pool, found, without, release, give, gives, grown}
use Rattle.pool.specs.declared.held.Pool.{Pool as Words}

unfoldable pub held_of : ℕ → Held
held_of w = record { until = w / 1048576; reg = (w % 1048576) / 8; type = (w % 1048576) % 8 }

unfoldable pub free_of : ℕ → ℕ × ℕ
free_of w = ((w % 1048576) % 8, (w % 1048576) / 8)

-- freed one after the other
unfoldable pub piled : List ℕ → List (ℕ × ℕ) → List (ℕ × ℕ)
piled [] fs = fs
piled (w ∷ ws) fs = piled ws (free_of w ∷ fs)

abbrev pub past : ℕ → ℕ → Bool
past p w = ltb (w / 1048576) p

-- ---- what the functions ensure

-- the words of those held, and of those free
abbrev pub held_words : Words → List ℕ
held_words a = a.held.items

abbrev pub free_words : Words → List ℕ
free_words a = a.free.items

-- how many registers are in it
abbrev pub in_pool : Words → ℕ
in_pool a = length (held_words a) + length (free_words a)

-- of those held the gone ones went behind the free ones, and the others close up
pub record Released (p : ℕ) (a b : Words) : Type 0 where
  pub stays : held_words b ≡ filter (λ w. not (past p w)) (held_words a)
  pub gone : free_words b ≡ free_words a ++ filter (past p) (held_words a)
  pub counts : in_pool b ≡ in_pool a
  pub next_same : b.next ≡ a.next

-- the register that is found: the free word at the place, if there is one
abbrev pub reg_at : Words → Option ℕ → Option ℕ
reg_at a None = None
reg_at a (Some k) = Some (free_of (get_or (free_words a) k 0)).1

-- the free words without that one
abbrev pub rest_at : List ℕ → Option ℕ → List ℕ
rest_at ws None = ws
rest_at ws (Some k) = take k ws ++ drop (suc k) ws

-- the topmost free word of type ty stands at place r, or there is none
pub record Top (ty : ℕ) (a : Words) (r : Option ℕ) : Type 0 where
  pub within : (k : ℕ) → r ≡ Some k → k < length (free_words a)
  pub found_is : found ty (piled (free_words a) []) ≡ reg_at a r
  pub rest_is : without ty (piled (free_words a) []) ≡ piled (rest_at (free_words a) r) []
  pub type_is : (k : ℕ) → r ≡ Some k → (free_of (get_or (free_words a) k 0)).0 ≡ ty

abbrev pub width : ℕ → ℕ
width ty = suc (from_bool (eqb ty 4))

-- the types after a register of type ty was given: it is new, or it is not
abbrev pub grow_if : Bool → List ℕ → ℕ → List ℕ
grow_if true ts ty = grown ts ty
grow_if false ts ty = ts

-- every register of the pool is one whose type is known
pub record Low (s : Pool) : Type 0 where
  pub free_low : (f : ℕ × ℕ) → In f s.free → f.1 < length s.types
  pub held_low : (h : Held) → In h s.held → h.reg < length s.types

-- the words are the pool s: R registers were in use with these types
pub record Is (R : ℕ) (types : List ℕ) (a : Words) (s : Pool) : Type 0 where
  pub held_is : map held_of (held_words a) ≡ s.held
  pub free_is : piled (free_words a) [] ≡ s.free
  pub next_is : length s.types ≡ a.next
  pub enough : R ≤ a.next
  pub types_are : (d : ℕ) → d < R → get_or s.types d 0 ≡ get_or types d 0
  pub low : Low s

-- register reg was given for a register of type ty: from s to s'
pub record Gives (R : ℕ) (types : List ℕ) (b : Words) (p reg ty : ℕ) (s s' : Pool) : Type 0 where
  pub is : Is R types b s'
  pub given_is : s'.given ≡ (p, reg) ∷ s.given
  pub types_is : s'.types ≡ grow_if (eqb reg (length s.types)) s.types ty

-- one register was given, held until `until`
pub record Gave (until ty : ℕ) (a b : Words) (reg : ℕ) : Type 0 where
  pub room : in_pool b ≤ in_pool a + 1
  pub small : b.next ≤ a.next + 2
  pub step : (R p d : ℕ) (types : List ℕ) (s : Pool) → Is R types a s → d < R → get_or types d 0 ≡ ty
      → Gives R types b p reg ty s (give p until s d)
  pub low : reg < 1048576

-- the registers that a word for "register written" stands for
abbrev pub regs_of : ℕ → List ℕ
regs_of d = cond (eqb d absent) [] (d ∷ [])

-- what member p was given, in the list of those
abbrev pub noted : ℕ → ℕ → ℕ → List (ℕ × ℕ) → List (ℕ × ℕ)
noted p d reg gs = cond (eqb d absent) gs ((p, reg) ∷ gs)

-- a member's turn: from s to s'
pub record Turned (R : ℕ) (types : List ℕ) (b : Words) (p d reg : ℕ) (s s' : Pool) : Type 0 where
  pub is : Is R types b s'
  pub given_is : s'.given ≡ noted p d reg s.given
  pub types_is : s'.types ≡ grow_if (eqb reg (length s.types)) s.types (get_or types d 0)

pub record Turn (p until d : ℕ) (types : List ℕ) (a b : Words) (reg : ℕ) : Type 0 where
  pub room : in_pool b ≤ in_pool a + 1
  pub small : b.next ≤ a.next + 2
  pub none_is : d ≡ absent → reg ≡ absent
  pub some_is : (d ≡ absent → ⊥) → reg < 1048576
  pub step : (R : ℕ) (s : Pool) → Is R types a s → ((d ≡ absent → ⊥) → d < R)
      → Turned R types b p d reg s (gives p until (release p s) (regs_of d))

-- ---- all positions: position p has ten words of w from 10 p on

abbrev pub mark_at : List ℕ → ℕ → ℕ
mark_at w p = get_or w (10 * p + 6) 0

abbrev pub last_at : List ℕ → ℕ → ℕ
last_at w p = get_or w (10 * p + 7) 0

abbrev pub wrote_at : List ℕ → ℕ → ℕ
wrote_at w p = get_or w (10 * p + 8) 0

abbrev pub new_at : List ℕ → ℕ → ℕ
new_at w p = get_or w (10 * p + 9) 0

abbrev pub turned : ℕ → ℕ → ℕ → ℕ → Pool → Pool
turned mark p until d s = cond (eqb mark 0) s (gives p until (release p s) (regs_of d))

-- the pool after the first p positions
unfoldable pub after : List ℕ → ℕ → Pool → Pool
after w zero s = s
after w (suc p) s = turned (mark_at w p) p (last_at w p) (wrote_at w p) (after w p s)

-- the types after the first p positions, by their new registers
unfoldable pub typed : List ℕ → List ℕ → ℕ → List ℕ → List ℕ
typed types w zero ts = ts
typed types w (suc p) ts = grow_if (eqb (new_at w p) (length (typed types w p ts))) (typed types w p ts) (get_or types (wrote_at w p) 0)

abbrev pub start : ℕ → List ℕ → Pool
start R types = record { free = []; held = []; types = take R types; given = [] }

abbrev pub reg_or : ℕ → ℕ → ℕ
reg_or w x = cond (eqb w absent) x w

-- what is asked of the words of m positions
pub record Ready (R m : ℕ) (types w : List ℕ) : Type 0 where
  pub regs : R ≤ length types
  pub few_regs : R ≤ 65536
  pub few : m ≤ 800
  pub size : 10 * m ≤ length w
  pub types_ok : (d : ℕ) → d < R → get_or types d 0 < 8
  pub until_ok : (p : ℕ) → p < m → last_at w p < 4096
  pub wrote_ok : (p : ℕ) → p < m → (wrote_at w p ≡ absent → ⊥) → wrote_at w p < R

-- position p's turn from w to v, by its mark
pub record Positioned (p : ℕ) (types w v : List ℕ) (a b : Words) : Type 0 where
  pub reg : ℕ
  pub stored : v ≡ set w (10 * p + 9) reg
  pub room : in_pool b ≤ in_pool a + 1
  pub small : b.next ≤ a.next + 2
  pub unmarked : mark_at w p ≡ 0 → (reg ≡ absent) × (b ≡ a)
  pub marked : (mark_at w p ≡ 0 → ⊥) → Turn p (last_at w p) (wrote_at w p) types a b reg

-- what holds after the first p positions
pub record Allotted (R : ℕ) (types w v : List ℕ) (next p : ℕ) : Type 0 where
  pub size : length v ≡ length w
  pub keeps : (q k : ℕ) → k < 9 → get_or v (10 * q + k) 0 ≡ get_or w (10 * q + k) 0
  pub next_is : length (after w p (start R types)).types ≡ next
  pub types_are : (after w p (start R types)).types ≡ typed types v p (take R types)
  pub given_are : (q x : ℕ) → q < p → lookup (after w p (start R types)).given q x ≡ reg_or (new_at v q) x
  pub given_later : (q x : ℕ) → p ≤ q → lookup (after w p (start R types)).given q x ≡ x
  pub none_new : (q : ℕ) → q < p → wrote_at w q ≡ absent → new_at v q ≡ absent

-- all m positions had their turn, and `next` registers are in use then
pub record Allots (R m : ℕ) (types w v : List ℕ) (next : ℕ) : Type 0 where
  pub all : Allotted R types w v next m
  pub above : R ≤ next
  pub below : next ≤ R + 2 * m
