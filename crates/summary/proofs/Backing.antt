-- The backward pass: registers awaited and what is kept, one position after the other, last to first. Assumes nothing.
use mathlib.Core.Path.{◌≡◌, refl, sym, ap, ap₂, ◌∙◌, subst}
use mathlib.Core.Logic.{⊎_elim}
use mathlib.Core.Bool.{Bool, true, false, not, ◌&&◌, ◌||◌, cond}
use mathlib.Core.List.{List, []}
use Prim.Native.Nat.{ℕ, suc, ◌+◌, ◌*◌, ◌-◌, ◌/◌, ◌%◌, ◌≤◌, ◌<◌, max}
use native.Mathlib.Numerals.{add-one}
use native.Mathlib.Omega.{arith}
use borrow.Author.Tests.{eq-eqb, ne_eqb, le-leb, lt-leb}
use lib.Dec.{eqb, leb}
use lib.ListN.{get_or, length, set, replicate}
use Rattle.words.specs.Lists.{In, all, mem, hit}
use Rattle.words.proofs.Bools.{bool?, true_T, hit_le}
use Rattle.words.proofs.Members.{all_on}
use Rattle.model.specs.Picture.{inst, absent, reads, writes}
use Rattle.words.specs.Last.{last_below}
use Rattle.effects.specs.Origin.{num}
use Rattle.facts.specs.declared.Fact.{Fact}
use Rattle.facts.specs.Marks.{fact_in}
use Rattle.legalset.specs.Chain.{view, defs_of, reads_of, writer, Safe}
use Rattle.legalset.specs.Marks.{in_set, sifted, lost, Inside, Passed}
use Rattle.legalset.specs.Rules.{last_kept, pending, backward_ok}
use Rattle.legalset.proofs.Dropping.{passed_none, passed_down}
use Rattle.legalset.proofs.Easier.{behind, backward_mono}
use Rattle.legalset.proofs.Pending.{pending_ext}
use Rattle.summary.specs.Passes.{over, stamp, since, writer_word, kept_word, Stamped, Stamps, Awaits, Awaited, Notes, Noted, noting, kept_in, blank, Backed, Summed, Shows}
use Rattle.regfacts.specs.Written.{Fits}
use Rattle.regfacts.proofs.Visiting.{written_low}
use Rattle.summary.specs.declared.notes.Lasts.{Lasts}
use Rattle.summary.proofs.Summing.{zero_at, since_low, since_ext, since_all, since_kept, notes_none, notes_more, noted_member, noted_kept}
use Rattle.summary.proofs.Forwarding.{sifted_other, now_in, is_sifted, is_lost}

-- ---- what a record writes is not awaited

pub free_absent : (st : List ℕ) (r : ℕ) → r ≡ absent → true ≡ (eqb r absent || leb (get_or st r 0) 1023)
free_absent st r e = sym (ap (λ (b : Bool). b || leb (get_or st r 0) 1023) (eq-eqb r absent e))

pub free_there : (st : List ℕ) (r : ℕ) {k : ℕ} → (r ≡ absent → ⊥) → k ≡ r → leb (get_or st k 0) 1023 ≡ (eqb r absent || leb (get_or st r 0) 1023)
free_there st r n e = ap (λ (j : ℕ). leb (get_or st j 0) 1023) e ∙ sym (ap (λ (b : Bool). b || leb (get_or st r 0) 1023) (ne_eqb r absent n))

-- ---- what a kept position reads is

pub awaited_none : (l st : List ℕ) {b : Bool} → b ≡ true → Awaited l b st st
unfolding stamp
awaited_none l st t = record { size = refl; each = λ r h. sym (ap (λ (x : Bool). stamp 1024 0 1024 (not x && mem r l) (get_or st r 0)) t) }

pub awaited_one : (l : List ℕ) {st st' : List ℕ} {b : Bool} → b ≡ false → Stamped l 1024 0 1024 st st' → Awaited l b st st'
awaited_one l {st} {st'} t s = record { size = s.size; each = λ r h. s.each r h ∙ ap (λ (y : Bool). stamp 1024 0 1024 (not y && mem r l) (get_or st r 0)) (sym t) }

pub kept_no : (in? : Bool) (q : ℕ) → in? ≡ true → 0 ≡ kept_word in? q
unfolding kept_word
kept_no in? q t = sym (ap (λ (x : Bool). cond x 0 (q + 1)) t)

pub kept_yes : (in? : Bool) (q : ℕ) → in? ≡ false → q + 1 ≡ kept_word in? q
unfolding kept_word
kept_yes in? q t = sym (ap (λ (x : Bool). cond x 0 (q + 1)) t)

pub kept_few : (in? : Bool) (q : ℕ) {x : ℕ} → q < 800 → x ≡ kept_word in? q → x ≤ 800
unfolding kept_word
kept_few true q h e = omega arith
kept_few false q h e = omega arith

pub backed : {recs ops : List ℕ} {f : Fact} {q k : ℕ} {st mid st' : List ℕ} {ls ls' : Lasts} {b : Bool} → b ≡ (f.member && all (λ x. leb (get_or st x 0) 1023) (writes (inst recs f.rec))) → k ≡ kept_word b q → Stamped (writes (inst recs f.rec)) 1024 k 0 st mid
    → Awaited (reads ops (inst recs f.rec)) b mid st' → ls' ≡ noting f b q ls → Backed recs ops f q st ls st' ls' b
backed {recs} {ops} {f} {st = st} {b = b} t e s a n = record {
  keeps = t;
  size = a.size ∙ s.size;
  each = λ v h. a.each v (subst (λ (m : ℕ). v < m) (sym s.size) h)
      ∙ ap (stamp 1024 0 1024 (not b && mem v (reads ops (inst recs f.rec)))) (s.each v h ∙ ap (λ (x : ℕ). stamp 1024 x 0 (mem v (writes (inst recs f.rec))) (get_or st v 0)) e);
  notes = n;
}

-- ---- one position, by marks

-- position q was looked at from behind: st, lasts and marks after those before
pub record GoneBack (w : List Fact) (defs reads : ℕ → List ℕ) (q : ℕ) (st : List ℕ) (ls : Lasts) (marks st' : List ℕ) (ls' : Lasts) (marks' : List ℕ) (r : ℕ) : Type 0 where
  pub size : length st' ≡ length st
  pub each : (x : ℕ) → x < length st → get_or st' x 0 ≡ stamp 1024 0 1024 (not (in_set marks' q) && mem x (reads q)) (stamp 1024 (kept_word (in_set marks' q) q) 0 (mem x (defs q)) (get_or st x 0))
  pub notes : Noted w (in_set marks') q ls ls'
  pub sifts : marks' ≡ sifted marks q (all (λ x. leb (get_or st x 0) 1023) (defs q))
  pub loses : r ≡ lost marks q (all (λ x. leb (get_or st x 0) 1023) (defs q))

module _ {w : List Fact} {q : ℕ} {f : Fact} (t : Shows w q f) (L : ℕ → Bool) {ls : Lasts} (size : length ls.writes ≡ 2006) (few : q < 800) (low : (fact_in w q).wrote ≤ 2004) where
  pub noted_by : (b : Bool) {ls' : Lasts} → b ≡ L q → ls' ≡ noting f b q ls → Noted w L q ls ls'
  unfolding noting
  noted_by true e d = noted_member w L q ls e size few refl d
  noted_by false e d = noted_kept w L q ls e size few refl low (d ∙ ap (λ (x : Fact). kept_in x q ls) (sym t.same))

pub gone_back : {recs ops : List ℕ} {w : List Fact} {f : Fact} {n R q : ℕ} {st : List ℕ} {ls : Lasts} {st' : List ℕ} {ls' : Lasts} {keep : Bool} (S : List ℕ) → Safe recs ops w n R → q < n → length ls.writes ≡ 2006 → Shows w q f → q < length S → get_or S q 0 ≡ num f.member
    → Backed recs ops f q st ls st' ls' keep → GoneBack w (defs_of recs w) (reads_of recs ops w) q st ls S st' ls' (set S q (num keep)) (hit (f.member && not keep))
gone_back {recs} {ops} {w} {f} {n} {R} {q} {st} {ls} {st'} {ls'} {keep} S s l size t h e d = record {
  size = d.size;
  each = λ x u. d.each x u ∙ ap₂ (λ (b : Bool) (y : Fact). stamp 1024 0 1024 (not b && mem x (reads ops (inst recs y.rec))) (stamp 1024 (kept_word b q) 0 (mem x (writes (inst recs y.rec))) (get_or st x 0))) (sym (now_in S q keep h)) (sym t.same);
  notes = let few = s.few in noted_by t (in_set (set S q (num keep))) size (omega arith) (s.wrote q l) keep (sym (now_in S q keep h)) d.notes;
  sifts = is_sifted S q f.member (all (λ x. leb (get_or st x 0) 1023) (defs_of recs w q)) e kept;
  loses = is_lost S q f.member (all (λ x. leb (get_or st x 0) 1023) (defs_of recs w q)) e kept;
}
  where
    kept : keep ≡ (f.member && all (λ x. leb (get_or st x 0) 1023) (defs_of recs w q))
    kept = d.keeps ∙ ap (λ (y : Fact). f.member && all (λ x. leb (get_or st x 0) 1023) (writes (inst recs y.rec))) (sym t.same)

-- ---- the pass

pub writes_low : (recs : List ℕ) (R g : ℕ) → Fits recs R g → (r : ℕ) → In r (writes (inst recs g)) → r < R
writes_low recs R g h = (written_low h).each

-- a write: awaited no longer, and noted if it is the last kept one
write_step : (s : ℕ) (L md p : Bool) (q : ℕ) → s ≤ 800 → q < 800 → stamp 1024 (kept_word L q) 0 md (s + 1024 * hit p) ≡ max s (cond (not L && md) (q + 1) 0) + 1024 * hit (not md && p)
unfolding stamp over kept_word
write_step s true true p q h l = let k = hit_le p in omega arith
write_step s true false p q h l = omega arith
write_step s false true p q h l = let k = hit_le p in omega arith
write_step s false false p q h l = omega arith

-- a read by a kept position
read_step : (s : ℕ) (a b : Bool) → s ≤ 800 → stamp 1024 0 1024 a (s + 1024 * hit b) ≡ s + 1024 * hit (a || b)
unfolding stamp over
read_step s true b h = let k = hit_le b in omega arith
read_step s false b h = refl

module _ (marks : List ℕ) {recs ops : List ℕ} {w : List Fact} {n R q : ℕ} (s : Safe recs ops w n R) (h : q < n) {st : List ℕ} (size : length st ≡ R) (i : Awaits (defs_of recs w) (reads_of recs ops w) (in_set marks) n (q + 1) st) where
  pub back_is : all (λ x. leb (get_or st x 0) 1023) (defs_of recs w q) ≡ backward_ok (defs_of recs w) (reads_of recs ops w) n (in_set marks) q
  unfolding backward_ok
  back_is = all_on (λ x. leb (get_or st x 0) 1023) (λ r. not (pending (defs_of recs w) (reads_of recs ops w) (in_set marks) r (q + 1) (n - (q + 1)))) (defs_of recs w q)
      (λ r j. ap (λ (y : ℕ). leb y 1023) (i.each r (subst (λ (m : ℕ). r < m) (sym size) (writes_low recs R (fact_in w q).rec (s.good q h).fits r j)))
      ∙ none (since (λ z. not (in_set marks z) && mem r (defs_of recs w z)) (q + 1) (n - (q + 1))) (pending (defs_of recs w) (reads_of recs ops w) (in_set marks) r (q + 1) (n - (q + 1)))
      (since_low (λ z. not (in_set marks z) && mem r (defs_of recs w z)) (q + 1) (n - (q + 1))))
    where
      none : (k : ℕ) (b : Bool) → k ≤ q + 1 + (n - (q + 1)) → leb (k + 1024 * hit b) 1023 ≡ not b
      none k true l = lt-leb (k + 1024) 1023 (omega arith)
      none k false l = let f = s.few in le-leb (k + 0) 1023 (omega arith)

  module _ {ls : Lasts} {st' : List ℕ} {ls' : Lasts} {marks' : List ℕ} {d : ℕ} (k : GoneBack w (defs_of recs w) (reads_of recs ops w) q st ls marks st' ls' marks' d) where
    same : (z : ℕ) → suc q ≤ z → in_set marks z ≡ in_set marks' z
    same z l = sym (ap (λ (S : List ℕ). in_set S z) k.sifts ∙ sifted_other marks q _ z (λ e. omega arith))

    pub notes_next : Notes w (in_set marks) n (q + 1) ls → Notes w (in_set marks') n q ls'
    notes_next i = notes_more h same i k.notes

    -- each register's last kept writer behind q
    abbrev more : ℕ → ℕ
    more r = since (λ z. not (in_set marks' z) && mem r (defs_of recs w z)) (suc q) (n - (q + 1))

    pub awaits_next : Awaits (defs_of recs w) (reads_of recs ops w) (in_set marks') n q st'
    unfolding pending since
    awaits_next = record { each = λ r l. one r (subst (λ (m : ℕ). r < m) k.size l) }
      where
        since_is : (r : ℕ) → since (λ z. not (in_set marks z) && mem r (defs_of recs w z)) (q + 1) (n - (q + 1)) ≡ more r
        since_is r = ap (λ (x : ℕ). since (λ z. not (in_set marks z) && mem r (defs_of recs w z)) x (n - (q + 1))) (add-one q)
            ∙ since_ext (λ z. not (in_set marks z) && mem r (defs_of recs w z)) (λ z. not (in_set marks' z) && mem r (defs_of recs w z)) (suc q) (n - (q + 1)) (λ z u. ap (λ (b : Bool). not b && mem r (defs_of recs w z)) (same z u))

        low : (r : ℕ) → more r ≤ 800
        low r = let a = since_low (λ z. not (in_set marks' z) && mem r (defs_of recs w z)) (suc q) (n - (q + 1)) in let f = s.few in omega arith

        top : (r : ℕ) (b : Bool) → more r ≤ 800 → max (more r) (cond b (q + 1) 0) ≤ 800
        top r true l = let f = s.few in omega arith
        top r false l = omega arith

        pends : (r : ℕ) → pending (defs_of recs w) (reads_of recs ops w) (in_set marks) r (q + 1) (n - (q + 1)) ≡ pending (defs_of recs w) (reads_of recs ops w) (in_set marks') r (suc q) (n - (q + 1))
        pends r = ap (λ (y : ℕ). pending (defs_of recs w) (reads_of recs ops w) (in_set marks) r y (n - (q + 1))) (add-one q)
            ∙ pending_ext (view recs ops w []) n (in_set marks) (in_set marks') r (suc q) (n - (q + 1)) same

        one : (r : ℕ) → r < length st
            → get_or st' r 0 ≡ since (λ z. not (in_set marks' z) && mem r (defs_of recs w z)) q (n - q) + 1024 * hit (pending (defs_of recs w) (reads_of recs ops w) (in_set marks') r q (n - q))
        one r l =
            let e : suc (n - (q + 1)) ≡ n - q = omega arith in
            let f = s.few in
            k.each r l
            ∙ ap (λ (y : ℕ). stamp 1024 0 1024 (not (in_set marks' q) && mem r (reads_of recs ops w q)) (stamp 1024 (kept_word (in_set marks' q) q) 0 (mem r (defs_of recs w q)) y))
            (i.each r l ∙ ap₂ (λ (x : ℕ) (b : Bool). x + 1024 * hit b) (since_is r) (pends r))
            ∙ ap (stamp 1024 0 1024 (not (in_set marks' q) && mem r (reads_of recs ops w q)))
            (write_step (more r) (in_set marks' q) (mem r (defs_of recs w q)) (pending (defs_of recs w) (reads_of recs ops w) (in_set marks') r (suc q) (n - (q + 1))) q (low r) (omega arith))
            ∙ read_step (max (more r) (cond (not (in_set marks' q) && mem r (defs_of recs w q)) (q + 1) 0)) (not (in_set marks' q) && mem r (reads_of recs ops w q))
            (not (mem r (defs_of recs w q)) && pending (defs_of recs w) (reads_of recs ops w) (in_set marks') r (suc q) (n - (q + 1))) (top r (not (in_set marks' q) && mem r (defs_of recs w q)) (low r))
            ∙ ap (λ (x : ℕ). since (λ z. not (in_set marks' z) && mem r (defs_of recs w z)) q x + 1024 * hit (pending (defs_of recs w) (reads_of recs ops w) (in_set marks') r q x)) e

-- the positions from q on are done
pub record Backing (recs ops : List ℕ) (w : List Fact) (n q : ℕ) (st₀ marks₀ st : List ℕ) (ls : Lasts) (marks : List ℕ) (r : ℕ) : Type 0 where
  pub size : length st ≡ length st₀
  pub awaits : Awaits (defs_of recs w) (reads_of recs ops w) (in_set marks) n q st
  pub notes : Notes w (in_set marks) n q ls
  pub passed : Passed (backward_ok (defs_of recs w) (reads_of recs ops w) n) q n marks₀ marks r

outside : {n : ℕ} {S : List ℕ} → Inside n S → (x : ℕ) → n ≤ x → in_set S x ≡ false
outside {n} {S} i x h = ⊎_elim (λ (e : in_set S x ≡ true). let z = i.low x (true_T (in_set S x) e) in absurd (omega arith)) (λ (e : in_set S x ≡ false). e) (bool? (in_set S x))

pub backing_none : (recs ops : List ℕ) (w : List Fact) (n : ℕ) (st : List ℕ) {ls : Lasts} (marks : List ℕ) → st ≡ replicate (length st) 0 → ls ≡ blank → Inside n marks → Backing recs ops w n n st marks st ls marks 0
unfolding pending since
backing_none recs ops w n st marks e f g = record {
  size = refl;
  awaits = record {
    each = λ r h. let z : 0 ≡ n - n = omega arith in
        zero_at e r ∙ ap (λ (y : ℕ). since (λ z. not (in_set marks z) && mem r (defs_of recs w z)) n y + 1024 * hit (pending (defs_of recs w) (reads_of recs ops w) (in_set marks) r n y)) z;
  };
  notes = notes_none w (in_set marks) n f (outside g);
  passed = passed_none (behind (view recs ops w []) n) n marks;
}

pub backing_more : {recs ops : List ℕ} {w : List Fact} {n q : ℕ} {st₀ marks₀ st : List ℕ} {ls : Lasts} {marks st' : List ℕ} {ls' : Lasts} {marks' : List ℕ} {r d : ℕ} → Safe recs ops w n (length st₀) → 0 < q → q ≤ n
    → Backing recs ops w n q st₀ marks₀ st ls marks r → GoneBack w (defs_of recs w) (reads_of recs ops w) (q - 1) st ls marks st' ls' marks' d → Backing recs ops w n (q - 1) st₀ marks₀ st' ls' marks' (r + d)
backing_more {recs} {ops} {w} {n} {q} {st₀} {marks₀} {st} {ls} {marks} s l h i k =
    let e : q ≡ q - 1 + 1 = omega arith in
    let a = subst (λ (y : ℕ). Awaits (defs_of recs w) (reads_of recs ops w) (in_set marks) n y st) e i.awaits in
    record {
      size = k.size ∙ i.size;
      awaits = awaits_next marks s (omega arith) i.size a k;
      notes = notes_next marks s (omega arith) i.size a k (subst (λ (y : ℕ). Notes w (in_set marks) n y ls) e i.notes);
      passed = passed_down (behind (view recs ops w []) n) (backward_mono (view recs ops w []) n) l i.passed (back_is marks s (omega arith) i.size a) k.sifts k.loses;
    }

-- what is awaited and noted at the end is the summary of the marks
stamps_of : {recs ops : List ℕ} {w : List Fact} {n R : ℕ} {L : ℕ → Bool} {st : List ℕ} → Safe recs ops w n R → Awaits (defs_of recs w) (reads_of recs ops w) L n 0 st → Stamps w (defs_of recs w) L L n 0 st
unfolding last_kept writer last_below writer_word
stamps_of {recs} {ops} {w} {n} {R} {L} {st} s i = record { kept = λ r h. (parts r h).0; wrote = λ r h. (parts r h).1 }
  where
    parts : (r : ℕ) → r < length st → (get_or st r 0 % 1024 ≡ last_below (λ q. not (L q) && mem r (defs_of recs w q)) n) × (get_or st r 0 / 2048 ≡ 0)
    parts r h =
        let e = i.each r h in
        let a = since_all (λ z. not (L z) && mem r (defs_of recs w z)) n in
        let l = since_low (λ z. not (L z) && mem r (defs_of recs w z)) 0 (n - 0) in
        let f = s.few in
        let k = hit_le (pending (defs_of recs w) (reads_of recs ops w) L r 0 (n - 0)) in
        (omega arith, omega arith)

pub backing_end : {recs ops : List ℕ} {w : List Fact} {n q : ℕ} {st₀ marks₀ st : List ℕ} {ls : Lasts} {marks : List ℕ} {r : ℕ} → Safe recs ops w n (length st₀) → Backing recs ops w n q st₀ marks₀ st ls marks r → q ≤ 0
    → Passed (backward_ok (defs_of recs w) (reads_of recs ops w) n) 0 n marks₀ marks r × Summed recs w n 0 st ls marks
backing_end {recs} {ops} {w} {n} {q} {marks₀ = marks₀} {st = st} {ls = ls} {marks = marks} {r = r} s i h =
    let e : q ≡ 0 = omega arith in
    let a = subst (λ (y : ℕ). Notes w (in_set marks) n y ls) e i.notes in (
      subst (λ (y : ℕ). Passed (backward_ok (defs_of recs w) (reads_of recs ops w) n) y n marks₀ marks r) e i.passed,
      record {
        stamps = stamps_of s (subst (λ (y : ℕ). Awaits (defs_of recs w) (reads_of recs ops w) (in_set marks) n y st) e i.awaits);
        size = a.size;
        writes = record { each = λ o l. since_kept (in_set marks) (λ z. eqb (fact_in w z).wrote o) n (a.each o l) };
        flags = a.flags;
        barrier = since_kept (in_set marks) (λ z. (fact_in w z).barrier) n a.barrier;
        suspension = since_kept (in_set marks) (λ z. (fact_in w z).suspends) n a.suspension;
      },
    )
