-- What the parts of a pass require and ensure. Assumes nothing.
use Rattle.std.specs.Prelude.{◌≡◌, ◌⊎◌, Option, Bool, false, not, ◌&&◌, ◌||◌, cond, List, [], ◌∷◌, ◌++◌, map, replicate, ℕ, zero, suc, ◌+◌, ◌*◌, ◌-◌, ◌/◌, ◌%◌, ◌≤◌, ◌<◌, max, eqb, leb, get_or, length, set, take, drop}
use Rattle.words.specs.Lists.{mem, hit, all, conj, member, count}
use Rattle.words.specs.Bits.{is_in}
use Rattle.model.specs.Picture.{Inst, inst, absent, reads, writes, list_of}
use Rattle.model.specs.Analyse.{Fact}
use Rattle.model.specs.Legal.{greatest}
use Rattle.inst.specs.Index.{reg_of, word_of, Among}
use Rattle.inst.specs.declared.index.Reg.{Reg}
use Rattle.inst.specs.Record.{Known, present}
use Rattle.facts.specs.declared.Fact as F
use Rattle.facts.specs.Marks.{fact_in, marked}
use Rattle.regfacts.specs.Written.{Fits, Good}
use Rattle.summary.specs.declared.notes.Lasts.{Lasts}
use Rattle.legalset.specs.Chain.{view, writer, defs_of, reg_org, picked, Told}
use Rattle.legalset.specs.Marks.{in_set, own, Passed}
use Rattle.legalset.specs.Rules.{last_kept, org_fine, still_fine, forward_ok, pending}

-- what `post` says of a register of `count`, or none, is t of its number
pub record Tests (count : ℕ) (post : Option Reg → Bool → Type 0) (t : ℕ → Bool) : Type 0 where
  pub each : (m : Option Reg) (b : Bool) → Among count m → post m b → b ≡ (eqb (word_of m) absent || t (word_of m))

-- ---- one position

-- what record g writes are registers below R; it is d where there are not more
pub record Written (recs : List ℕ) (R g d : ℕ) (more : Bool) : Type 0 where
  pub known : Known recs g
  pub fits : Fits recs R g
  pub brief : more ≡ false → writes (inst recs g) ≡ present d

-- what it reads are such too; it is `use0` and `use1` where there are not more
pub record Readable (recs ops : List ℕ) (R : ℕ) (f : F.Fact) : Type 0 where
  pub good : Good recs ops R f.rec
  pub brief : f.more ≡ false → reads ops (inst recs f.rec) ≡ present f.use0 ++ present f.use1

-- what fact f itself has as written, and as read, among R registers: all of it where there are not more
unfoldable pub own_def : ℕ → F.Fact → List ℕ
own_def R f = present (word_of (reg_of f.def R))

unfoldable pub own_uses : ℕ → F.Fact → List ℕ
own_uses R f = present (word_of (reg_of f.use0 R)) ++ present (word_of (reg_of f.use1 R))

-- the numbers of memory are small
pub record Small (f : F.Fact) : Type 0 where
  pub org : f.org < 2004
  pub wrote : f.wrote ≤ 2004
  pub from : (f.from ≤ 2004) ⊎ (f.from ≡ 4294967295)

-- f is the fact of position p, but for the mark
pub record Shows (w : List F.Fact) (p : ℕ) (f : F.Fact) : Type 0 where
  pub same : marked (fact_in w p) f.member ≡ f

-- ---- a word a register

-- the word x when it is stamped: what stands below keep, or lo if that is more, and v
unfoldable pub over : ℕ → ℕ → ℕ → ℕ → ℕ
over keep lo v x = max (x % keep) lo + v

-- the word x of a register that is among those stamped, or not
unfoldable pub stamp : ℕ → ℕ → ℕ → Bool → ℕ → ℕ
stamp keep lo v b x = cond b (over keep lo v x) x

-- one register, or none, is stamped
unfoldable pub put_in : ℕ → ℕ → ℕ → ℕ → List ℕ → List ℕ
put_in keep lo v r st = cond (eqb r absent) st (set st r (over keep lo v (get_or st r 0)))

-- all registers of l are stamped
pub record Stamped (l : List ℕ) (keep lo v : ℕ) (before after : List ℕ) : Type 0 where
  pub size : length after ≡ length before
  pub each : (r : ℕ) → r < length before → get_or after r 0 ≡ stamp keep lo v (mem r l) (get_or before r 0)

-- ---- the summary of a set, and the writers so far

-- what is stamped of a writer d, given as d and 1: 0 for none, else 1, 2 if it is in L, and 4 times its origin
unfoldable pub writer_word : List F.Fact → (ℕ → Bool) → ℕ → ℕ
writer_word w L zero = 0
writer_word w L (suc d) = 1 + 2 * hit (L d) + 4 * (fact_in w d).org

-- each register's last writer kept by L₀, below 1024, and its last writer before p, from 2048 on
pub record Stamps (w : List F.Fact) (defs : ℕ → List ℕ) (L₀ L : ℕ → Bool) (n p : ℕ) (st : List ℕ) : Type 0 where
  pub kept : (r : ℕ) → r < length st → get_or st r 0 % 1024 ≡ last_kept L₀ (λ q. mem r (defs q)) n
  pub wrote : (r : ℕ) → r < length st → get_or st r 0 / 2048 ≡ writer_word w L (writer defs r p)

-- the last kept write of each origin and 1
pub record Writes (wrote : ℕ → ℕ) (L : ℕ → Bool) (n : ℕ) (writes : List ℕ) : Type 0 where
  pub each : (o : ℕ) → o < 2006 → get_or writes o 0 % 1024 ≡ last_kept L (λ q. eqb (wrote q) o) n

-- ---- the same from behind

-- the last of the k positions from q on that passes, and 1
unfoldable pub since : (ℕ → Bool) → ℕ → ℕ → ℕ
since f q zero = 0
since f q (suc k) = max (since f (suc q) k) (cond (f q) (q + 1) 0)

-- each register's last kept writer from q on, and 1024 if it is awaited: read by a kept position with no write in between
pub record Awaits (defs reads : ℕ → List ℕ) (L : ℕ → Bool) (n q : ℕ) (st : List ℕ) : Type 0 where
  pub each : (r : ℕ) → r < length st → get_or st r 0 ≡ since (λ z. not (L z) && mem r (defs z)) q (n - q) + 1024 * hit (pending defs reads L r q (n - q))

-- j is the number of Temp of a position from q on that is in L, as memory written
unfoldable pub member_at : (ℕ → Bool) → ℕ → ℕ → Bool
member_at L q j = (leb 5 j && eqb (j % 2) 1) && (leb q ((j - 5) / 2) && L ((j - 5) / 2))

-- the last position from q on, and 1, that L does not keep in the set and that is one of f
abbrev pub kept_since : (ℕ → Bool) → (ℕ → Bool) → ℕ → ℕ → ℕ
kept_since L f n q = since (λ z. not (L z) && f z) q (n - q)

-- the last kept position from q on that does it, and 1, for each memory written, by its number, for a barrier and for a suspension;
-- and 1024 for memory that is Temp of a member from q on
pub record Notes (w : List F.Fact) (L : ℕ → Bool) (n q : ℕ) (lasts : Lasts) : Type 0 where
  pub size : length lasts.writes ≡ 2006
  pub each : (j : ℕ) → j < 2006 → get_or lasts.writes j 0 % 1024 ≡ kept_since L (λ z. eqb (fact_in w z).wrote j) n q
  pub flags : (j : ℕ) → j < 2006 → get_or lasts.writes j 0 / 1024 ≡ hit (member_at L q j)
  pub barrier : lasts.barrier ≡ kept_since L (λ z. (fact_in w z).barrier) n q
  pub suspension : lasts.suspension ≡ kept_since L (λ z. (fact_in w z).suspends) n q

-- ---- the tests at p by these words

-- rule 3
unfoldable pub read_test : List ℕ → ℕ → ℕ → Bool
read_test st p r = eqb (get_or st r 0 / 4096 % 2) 1 || leb (get_or st r 0 % 1024) (p + 1)

-- rule 5 for an origin
unfoldable pub org_test : List ℕ → ℕ → ℕ → ℕ → Bool
org_test lasts bar p o = org_fine p bar (get_or lasts 1 0 % 1024) (get_or lasts (o + 1) 0 % 1024) o

-- where register r points, by its word x: its writer's origin, or what was known before round 1
unfoldable pub word_org : List ℕ → ℕ → ℕ → ℕ
word_org regs r x = cond (leb 2048 x) (x / 8192) (reg_org [] regs r 0)

-- the origins that p reads, by the number in its fact
unfoldable pub froms : List ℕ → List ℕ → Inst → List ℕ → ℕ → List ℕ
froms regs ops i st zero = []
froms regs ops i st (suc o) = cond (eqb (suc o) 4294967295) (map (λ r. word_org regs r (get_or st r 0)) (picked (get_or i 9 0) (list_of ops i))) (o ∷ [])

-- what p reads from, by the number in its fact
unfoldable pub from_test : List ℕ → List ℕ → Inst → List ℕ → List ℕ → ℕ → ℕ → ℕ → Bool
from_test regs ops i st lasts bar x p = all (org_test lasts bar p) (froms regs ops i st x)

-- what is stamped fits, and a second stamp changes nothing
pub record Beside (keep lo v : ℕ) : Type 0 where
  pub some : 0 < keep
  pub small : keep + lo + v ≤ 4294967296
  pub twice : (x : ℕ) → over keep lo v (over keep lo v x) ≡ over keep lo v x

-- rule 3 for what stands in a place
unfoldable pub place_test : List ℕ → ℕ → ℕ → Bool
place_test st p r = eqb r absent || read_test st p r

-- rule 5 for a register of a Cat's list
unfoldable pub piece_test : List ℕ → List ℕ → List ℕ → ℕ → ℕ → ℕ → Bool
piece_test regs st lasts bar p r = org_test lasts bar p (word_org regs r (get_or st r 0))

-- the origins that are stamped are small
pub record Near (st : List ℕ) : Type 0 where
  pub org : (r : ℕ) → r < length st → get_or st r 0 / 8192 < 2005

-- rule 5 for position p of fact f
unfoldable pub memory_test : List ℕ → List ℕ → List ℕ → List ℕ → List ℕ → F.Fact → ℕ → ℕ → Bool
memory_test recs ops regs st lasts f bar p = still_fine p bar f.creates f.wrote && from_test regs ops (inst recs f.rec) st lasts bar f.from p

-- rule 6 for the number of memory written
unfoldable pub own_test : List ℕ → ℕ → Bool
own_test lasts o = eqb o 0 || leb 1024 (get_or lasts o 0)

-- rules 3 to 6 for position p of fact f
unfoldable pub stay_test : List ℕ → List ℕ → List ℕ → List ℕ → List ℕ → F.Fact → ℕ → ℕ → ℕ → Bool
stay_test recs ops regs st lasts f sus bar p =
    conj (all (read_test st p) (reads ops (inst recs f.rec)) ∷ leb sus (p + 1) ∷ memory_test recs ops regs st lasts f bar p ∷ own_test lasts f.wrote ∷ [])

-- p is no member any more, if it was dropped
unfoldable pub forgot : Bool → ℕ → List ℕ → List ℕ
forgot dropped p ws = cond dropped (set ws (2 * p + 5) (get_or ws (2 * p + 5) 0 % 1024)) ws

-- the same notes, but for the writes
abbrev pub with_writes : List ℕ → Lasts → Lasts
with_writes ws ls = record { writes = ws; barrier = ls.barrier; suspension = ls.suspension }

abbrev pub forgotten : ℕ → Lasts → Lasts
forgotten p ls = with_writes (set ls.writes (2 * p + 5) (get_or ls.writes (2 * p + 5) 0 % 1024)) ls

-- what is stamped of the position of fact f, which is in the set or not
unfoldable pub fact_word : F.Fact → Bool → ℕ
fact_word f in? = 1 + 2 * hit in? + 4 * f.org

-- position p of fact f was looked at: st and lasts after those before, and whether it stays in the set
pub record Forwarded (recs ops regs : List ℕ) (f : F.Fact) (p : ℕ) (st : List ℕ) (lasts : Lasts) (st' : List ℕ) (lasts' : Lasts) (keep : Bool) : Type 0 where
  pub keeps : keep ≡ (f.member && stay_test recs ops regs st lasts.writes f lasts.suspension lasts.barrier p)
  pub stamped : Stamped (writes (inst recs f.rec)) 2048 0 (2048 * fact_word f keep) st st'
  pub forgets : lasts' ≡ with_writes (forgot (f.member && not keep) p lasts.writes) lasts

-- the summary of the marks, with the writers before p
pub record Summed (recs : List ℕ) (w : List F.Fact) (n p : ℕ) (st : List ℕ) (lasts : Lasts) (marks : List ℕ) : Type 0 where
  pub stamps : Stamps w (defs_of recs w) (in_set marks) (in_set marks) n p st
  pub size : length lasts.writes ≡ 2006
  pub writes : Writes (λ q. (fact_in w q).wrote) (in_set marks) n lasts.writes
  pub flags : (j : ℕ) → j < 2006 → get_or lasts.writes j 0 / 1024 ≡ hit (member_at (in_set marks) 0 j)
  pub barrier : lasts.barrier ≡ last_kept (in_set marks) (λ z. (fact_in w z).barrier) n
  pub suspension : lasts.suspension ≡ last_kept (in_set marks) (λ z. (fact_in w z).suspends) n

-- the first p positions were looked at from the front, after the summary st₀ and ls₀ of marks₀: what was dropped, r of them, and what is
-- stamped and noted now
pub record Going (recs ops : List ℕ) (w : List F.Fact) (regs : List ℕ) (n p : ℕ) (st₀ : List ℕ) (ls₀ : Lasts) (marks₀ st : List ℕ) (ls : Lasts) (marks : List ℕ) (r : ℕ) : Type 0 where
  pub size : length st ≡ length st₀
  pub stamps : Stamps w (defs_of recs w) (in_set marks₀) (in_set marks) n p st
  pub ls_size : length ls.writes ≡ 2006
  pub suspension : ls.suspension ≡ ls₀.suspension
  pub barrier : ls.barrier ≡ ls₀.barrier
  pub lows : (j : ℕ) → get_or ls.writes j 0 % 1024 ≡ get_or ls₀.writes j 0 % 1024
  pub flags : (j : ℕ) → j < 2006 → get_or ls.writes j 0 / 1024 ≡ hit (member_at (in_set marks) 0 j)
  pub passed : Passed (own (forward_ok (view recs ops w regs) n)) 0 p marks₀ marks r

-- q and 1, if q is kept
unfoldable pub kept_word : Bool → ℕ → ℕ
kept_word in? q = cond in? 0 (q + 1)

-- a later position in word k stays
unfoldable pub later_in : ℕ → ℕ → List ℕ → List ℕ
later_in k v ws = set ws k (1024 * (get_or ws k 0 / 1024) + max (get_or ws k 0 % 1024) v)

-- q is a member
unfoldable pub member_in : ℕ → List ℕ → List ℕ
member_in q ws = set ws (2 * q + 5) (get_or ws (2 * q + 5) 0 % 1024 + 1024)

-- nothing is noted
abbrev pub blank : Lasts
blank = record { writes = replicate 2006 0; barrier = 0; suspension = 0 }

-- what q does is noted, if q is kept, else that it is a member
pub record Noted (w : List F.Fact) (L : ℕ → Bool) (q : ℕ) (before after : Lasts) : Type 0 where
  pub size : length after.writes ≡ length before.writes
  pub each : (j : ℕ) → j < 2006 → get_or after.writes j 0 % 1024 ≡ max (get_or before.writes j 0 % 1024) (cond (not (L q) && eqb (fact_in w q).wrote j) (q + 1) 0)
  pub flags : (j : ℕ) → j < 2006 → get_or after.writes j 0 / 1024 ≡ cond (L q && eqb (2 * q + 5) j) 1 (get_or before.writes j 0 / 1024)
  pub barrier : after.barrier ≡ max before.barrier (cond (not (L q) && (fact_in w q).barrier) (q + 1) 0)
  pub suspension : after.suspension ≡ max before.suspension (cond (not (L q) && (fact_in w q).suspends) (q + 1) 0)

-- what q reads, the registers of l, is awaited, if q is kept
pub record Awaited (l : List ℕ) (in? : Bool) (before after : List ℕ) : Type 0 where
  pub size : length after ≡ length before
  pub each : (r : ℕ) → r < length before → get_or after r 0 ≡ stamp 1024 0 1024 (not in? && mem r l) (get_or before r 0)

-- what the position of fact f does, if it is kept; else that it is a member
abbrev pub kept_in : F.Fact → ℕ → Lasts → Lasts
kept_in f q ls = record { writes = later_in f.wrote (q + 1) ls.writes; barrier = max ls.barrier (cond f.barrier (q + 1) 0); suspension = max ls.suspension (cond f.suspends (q + 1) 0) }

unfoldable pub noting : F.Fact → Bool → ℕ → Lasts → Lasts
noting f in? q ls = cond in? (with_writes (member_in q ls.writes) ls) (kept_in f q ls)

-- position q of fact f was looked at from behind: st and lasts after those before, and whether it stays in the set
pub record Backed (recs ops : List ℕ) (f : F.Fact) (q : ℕ) (st : List ℕ) (ls : Lasts) (st' : List ℕ) (ls' : Lasts) (keep : Bool) : Type 0 where
  pub keeps : keep ≡ (f.member && all (λ x. leb (get_or st x 0) 1023) (writes (inst recs f.rec)))
  pub size : length st' ≡ length st
  pub each : (x : ℕ) → x < length st
      → get_or st' x 0 ≡ stamp 1024 0 1024 (not keep && mem x (reads ops (inst recs f.rec))) (stamp 1024 (kept_word keep q) 0 (mem x (writes (inst recs f.rec))) (get_or st x 0))
  pub notes : ls' ≡ noting f keep q ls

-- ---- the whole

-- each register's last writer in the chain, as `analyse` leaves it
pub record Ended (recs : List ℕ) (w : List F.Fact) (n : ℕ) (regs : List ℕ) : Type 0 where
  pub each : (r : ℕ) → r < length regs → get_or regs r 0 / 16 ≡ writer (defs_of recs w) r n

-- rule 2 for a register that p writes; the row of registers needed begins at word o of bits
unfoldable pub result_test : List ℕ → List ℕ → ℕ → ℕ → ℕ → Bool
result_test regs bits o p r = not (is_in bits (64 * o + r) && eqb (get_or regs r 0 / 16) (p + 1))

-- whether position p of fact f, if it is in x, begins in the set
unfoldable pub begin_test : List ℕ → List ℕ → List ℕ → F.Fact → ℕ → ℕ → Bool
begin_test recs regs bits f o p = eqb f.class 1 && all (result_test regs bits o p) (writes (inst recs f.rec))

-- the row that begins at word o of bits stands for the registers needed elsewhere
pub record Row (bits : List ℕ) (o R : ℕ) (needed : ℕ → Bool) : Type 0 where
  pub each : (r : ℕ) → r < R → is_in bits (64 * o + r) ≡ needed r

-- all but the k words from s on is as it was
pub record Around (s k : ℕ) (before after : List ℕ) : Type 0 where
  pub size : length after ≡ length before
  pub below : take s after ≡ take s before
  pub behind : drop (s + k) after ≡ drop (s + k) before

-- the marks are `model`'s greatest legal set, of r members, for whatever run and needs the words stand for; or that has fewer than
-- `least`, as has what is marked
pub record Greatest (recs ops : List ℕ) (w : List F.Fact) (regs bits : List ℕ) (o : ℕ) (marks : List ℕ) (m n least r : ℕ) : Type 0 where
  pub size : length marks ≡ n
  pub set : least ≤ r → (run : List Fact) (needed : ℕ → Bool) → Told recs ops w regs n run → Row bits o (length regs) needed → (p : ℕ) → in_set marks p ≡ member (greatest run needed m) p
  pub few : r < least → (run : List Fact) (needed : ℕ → Bool) → Told recs ops w regs n run → Row bits o (length regs) needed → count (greatest run needed m) < least
  pub count : least ≤ r → (run : List Fact) (needed : ℕ → Bool) → Told recs ops w regs n run → Row bits o (length regs) needed → r ≡ count (greatest run needed m)
