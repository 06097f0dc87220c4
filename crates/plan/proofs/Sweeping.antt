-- The sweeps, position by position, over the marks of the first n facts: the start marks the positions to begin with, that backward and
-- that forward drop what breaks their rules. Assumes nothing.
use mathlib.Core.Path.{◌≡◌, refl, sym, ap, ◌∙◌, subst}
use mathlib.Core.Bool.{Bool, true, false, not, ◌&&◌, cond}
use mathlib.Core.Logic.{◌⊎◌, inl, inr, ⊎_elim}
use mathlib.Core.List.{List, [], ◌∷◌}
use Prim.Native.Nat.{ℕ, zero, suc, ◌+◌, ◌*◌, ◌-◌, ◌/◌, ◌%◌, ◌≤◌, ◌<◌, max}
use native.Mathlib.Omega.{arith}
use lib.Dec.{T, eqb, ltb}
use lib.ListN.{get_or, length, set, take, replicate, length-set, length-map, length-take}
use lib.Seq.{get_or-take, take-set-lt, length-take-le, get_or-set_other}
use Rattle.summary.specs.declared.notes.Lasts.{Lasts}
use Rattle.words.specs.Lists.{hit, mem}
use Rattle.words.specs.Last.{last_below}
use Rattle.words.proofs.Bools.{eq?, lt?, hit_le}
use Rattle.effects.specs.Origin.{num}
use Rattle.facts.specs.declared.Fact.{Fact}
use Rattle.facts.specs.Marks.{no_fact, marked, fact_in, bare}
use Rattle.facts.proofs.Bare.{bare_shows, bare_marked}
use Rattle.legalset.specs.Chain.{view, writer, Safe, Brief}
use Rattle.legalset.specs.Marks.{in_set, members, Inside}
use Rattle.legalset.proofs.Settling.{back_passed}
use Rattle.plan.specs.declared.sweep.Span.{Span}
use Rattle.summary.specs.Passes.{over, stamp, fact_word, writer_word, begin_test, Stamped, Near, Small, Shows, Summed, Around, Written, Readable, Backed, Forwarded, Going}
use Rattle.plan.specs.Sweep.{part, marks_of, marks, Sweepable, from_first, from_last, VisitStart, VisitBack, VisitForth, Swept, none, more, Marked, Begun, Clear, Backward, Forward}
use Rattle.summary.proofs.Wording.{written, readable, small}
use Rattle.summary.proofs.Backing.{Backing, backing_none, backing_more, backing_end, gone_back}
use Rattle.summary.proofs.Forwarding.{going_none, going_more, gone_on, now_in}
use Rattle.summary.proofs.Summing.{safe_len}
use Rattle.legality.proofs.Marking.{past_marks, members_low}
use Rattle.plan.proofs.Lent.{part_len, around_on, around_none}

-- ---- the marks of the first n facts

mark_at : (fs : List Fact) (p : ℕ) → get_or (marks_of fs) p 0 ≡ num (get_or fs p no_fact).member
unfolding marks_of num
mark_at [] p = refl
mark_at (f ∷ fs) zero = refl
mark_at (f ∷ fs) (suc p) = mark_at fs p

marks_put : (fs : List Fact) (p : ℕ) (f : Fact) → marks_of (set fs p f) ≡ set (marks_of fs) p (num f.member)
unfolding marks_of
marks_put [] p f = refl
marks_put (x ∷ fs) zero f = refl
marks_put (x ∷ fs) (suc p) f = ap (λ (ms : List ℕ). num x.member ∷ ms) (marks_put fs p f)

marks_of_long : (fs : List Fact) → length (marks_of fs) ≡ length fs
unfolding marks_of
marks_of_long fs = length-map fs (λ (f : Fact). num f.member)

pub marks_long : (n : ℕ) (fs : List Fact) → n ≤ length fs → length (marks n fs) ≡ n
marks_long n fs h = length-take-le n (marks_of fs) (let z = marks_of_long fs in omega arith)

pub marks_at : (n : ℕ) (fs : List Fact) (p : ℕ) → p < n → get_or (marks n fs) p 0 ≡ num (get_or fs p no_fact).member
marks_at n fs p h = get_or-take n (marks_of fs) p 0 h ∙ mark_at fs p

marks_set : (n : ℕ) (fs : List Fact) (p : ℕ) (b : Bool) → p < n → marks n (set fs p (marked (get_or fs p no_fact) b)) ≡ set (marks n fs) p (num b)
marks_set n fs p b h = ap (take n) (marks_put fs p (marked (get_or fs p no_fact) b)) ∙ take-set-lt n (marks_of fs) p (num b) h

-- none stands behind them
in_low : (n : ℕ) (fs : List Fact) (p : ℕ) → n ≤ length fs → T (in_set (marks n fs) p) → p < n
in_low n fs p h t = ⊎_elim (λ (l : p < n). l) (λ (l : n ≤ p). let z = marks_long n fs h in absurd (subst T (sym (past_marks (marks n fs) p (omega arith))) t)) (lt? p n)

-- ---- a fact without its mark

pub shown : (fs : List Fact) (p : ℕ) → Shows (bare fs) p (get_or fs p no_fact)
shown fs p = record { same = bare_shows fs p }

pub marked_none : (fs : List Fact) → Marked fs fs
marked_none fs = record { bare_same = refl; long = refl }

pub marked_on : {fs fs' fs'' : List Fact} → Marked fs fs' → Marked fs' fs'' → Marked fs fs''
marked_on a b = record { bare_same = b.bare_same ∙ a.bare_same; long = b.long ∙ a.long }

pub marked_more : {fs fs' : List Fact} → Marked fs fs' → (p : ℕ) (b : Bool) → Marked fs (set fs' p (marked (get_or fs' p no_fact) b))
marked_more {fs} {fs'} k p b = record { bare_same = bare_marked fs' p b ∙ k.bare_same; long = length-set fs' p (marked (get_or fs' p no_fact) b) ∙ k.long }

-- ---- what a step asks

near_next : {f : Fact} {l st st' : List ℕ} (b : Bool) → Small f → Near st → Stamped l 2048 0 (2048 * fact_word f b) st st' → Near st'
unfolding stamp over fact_word
near_next {f} {l} {st} {st'} b m k d = record { org = λ r h. let u = subst (λ (x : ℕ). r < x) d.size h in subst (λ (x : ℕ). x / 8192 < 2005) (sym (d.each r u)) (go (mem r l) (get_or st r 0) (k.org r u)) }
  where
    go : (c : Bool) (x : ℕ) → x / 8192 < 2005 → cond c (max (x % 2048) 0 + 2048 * (1 + 2 * hit b + 4 * f.org)) x / 8192 < 2005
    go true x h = let o = m.org in let z = hit_le b in omega arith
    go false x h = h

-- by the summary that a sweep backward leaves no origin is stamped yet
pub summed_near : {recs : List ℕ} {w : List Fact} {n : ℕ} {st : List ℕ} {ls : Lasts} {S : List ℕ} → Summed recs w n 0 st ls S → Near st
unfolding writer last_below writer_word
summed_near z = record { org = λ r h. let x = z.stamps.wrote r h in omega arith }

module _ {recs ops regs work₀ : List ℕ} {fs₀ : List Fact} {z : Span} (r : Sweepable recs ops regs work₀ fs₀ z) where
  abbrev st₀ : List ℕ
  st₀ = part z.s (length regs) work₀

  safe : Safe recs ops (bare fs₀) z.n (length st₀)
  safe = safe_len r.safe (part_len z.s (length regs) work₀ r.room)

  inside : Inside z.n (marks z.n fs₀)
  inside = record { low = λ p t. in_low z.n fs₀ p r.long t }

  pub sweepable_on : {work : List ℕ} {fs : List Fact} → length work ≡ length work₀ → Marked fs₀ fs → Sweepable recs ops regs work fs z
  sweepable_on {fs = fs} e k =
      let row = r.row in
      let room = r.room in
      let a = r.long in
      let b = k.long in
      record {
        safe = subst (λ (w : List Fact). Safe recs ops w z.n (length regs)) (sym k.bare_same) r.safe;
        brief = subst (λ (w : List Fact). Brief recs ops w z.n) (sym k.bare_same) r.brief;
        row = omega arith;
        room = omega arith;
        long = omega arith;
      }

  module _ {fs : List Fact} (k : Marked fs₀ fs) where
    says : (p : ℕ) → Shows (bare fs₀) p (get_or fs p no_fact)
    says p = subst (λ (w : List Fact). Shows w p (get_or fs p no_fact)) k.bare_same (shown fs p)

    size : length (marks z.n fs) ≡ z.n
    size = let a = r.long in let b = k.long in marks_long z.n fs (omega arith)

    module _ {p : ℕ} (l : p < z.n) where
      pub fact_low : p < length fs
      fact_low = let a = r.long in let b = k.long in omega arith

      pub place_few : p < 800
      place_few = let few = r.safe.few in omega arith

      pub fact_written : let f = get_or fs p no_fact in Written recs (length regs) f.rec f.def f.more
      fact_written = written r.safe l (says p) r.brief

      pub fact_readable : Readable recs ops (length regs) (get_or fs p no_fact)
      fact_readable = readable r.safe l (says p) r.brief

      pub fact_small : Small (get_or fs p no_fact)
      fact_small = small r.safe l (says p)

      marked_set : (b : Bool) → set (marks z.n fs) p (num b) ≡ marks z.n (set fs p (marked (get_or fs p no_fact) b))
      marked_set b = sym (marks_set z.n fs p b l)

-- ---- turn by turn

module _ {visit : ℕ → Fact → List ℕ → Lasts → ℕ → List ℕ → Lasts → Bool → ℕ → Type 0} {work₀ work work' : List ℕ} {ls₀ ls ls' : Lasts} {fs₀ fs : List Fact} {q k k' : ℕ} {b : Bool} where
  -- position q, after those before it
  swept_forth : Swept visit from_first work₀ ls₀ fs₀ q work ls fs k → visit q (get_or fs q no_fact) work ls k work' ls' b k' → Swept visit from_first work₀ ls₀ fs₀ (q + 1) work' ls' (set fs q (marked (get_or fs q no_fact) b)) k'
  swept_forth s v = more q k k' work work' ls ls' fs b s v

  -- the one before q, after those from q on
  swept_back : {n : ℕ} → 0 < q → q ≤ n → Swept visit (from_last n) work₀ ls₀ fs₀ (n - q) work ls fs k → visit (q - 1) (get_or fs (q - 1) no_fact) work ls k work' ls' b k'
      → Swept visit (from_last n) work₀ ls₀ fs₀ (n - (q - 1)) work' ls' (set fs (q - 1) (marked (get_or fs (q - 1) no_fact) b)) k'
  swept_back {n} o h s v =
      let i : n - q + 1 ≡ n - (q - 1) = omega arith in
      let e : n - 1 - (n - q) ≡ q - 1 = omega arith in
      subst (λ (j : ℕ). Swept visit (from_last n) work₀ ls₀ fs₀ j work' ls' (set fs (q - 1) (marked (get_or fs (q - 1) no_fact) b)) k') i
      (subst (λ (p : ℕ). Swept visit (from_last n) work₀ ls₀ fs₀ (n - q + 1) work' ls' (set fs p (marked (get_or fs p no_fact) b)) k') e
      (more (n - q) k k' work work' ls ls' fs b s (subst (λ (p : ℕ). visit p (get_or fs p no_fact) work ls k work' ls' b k') (sym e) v)))

-- ---- the start

one_more : (S : List ℕ) (i : ℕ) (b : Bool) → i < length S → members (take (suc i) (set S i (num b))) ≡ members (take i S) + hit b
unfolding members num
one_more [] i b h = absurd (omega arith)
one_more (x ∷ S) zero true h = refl
one_more (x ∷ S) zero false h = refl
one_more (x ∷ S) (suc i) b h = let e = one_more S i b (omega arith) in omega arith

pub begun_none : (recs regs bits : List ℕ) (z : Span) (fs : List Fact) → Begun recs regs bits z fs 0 fs 0
unfolding members
begun_none recs regs bits z fs = record { each = λ p h. absurd (omega arith); count = refl; facts = marked_none fs }

pub begun_count : {recs regs bits : List ℕ} {z : Span} {fs fs' : List Fact} {i k : ℕ} → Begun recs regs bits z fs i fs' k → k ≤ i
begun_count {fs' = fs'} {i = i} d = let e = d.count in let a = members_low (marks i fs') in let b = length-take i (marks_of fs') in omega arith

module _ {recs ops regs bits : List ℕ} {z : Span} {fs fs' : List Fact} {p k : ℕ} {b : Bool} (r : Sweepable recs ops regs bits fs z) (d : Begun recs regs bits z fs p fs' k) (l : p < z.n) where
  pub begun_more : b ≡ (ltb p z.m && begin_test recs regs bits (get_or fs' p no_fact) z.o p) → Begun recs regs bits z fs (p + 1) (set fs' p (marked (get_or fs' p no_fact) b)) (k + hit b)
  unfolding begin_test in_set
  begun_more e = record {
    each = λ q h. subst (λ (S : List ℕ). in_set S q ≡ (ltb q z.m && begin_test recs regs bits (fact_in (bare fs) q) z.o q)) (marked_set r d.facts l b) (one q h (eq? q p));
    count =
        let n : suc p ≡ p + 1 = omega arith in
        ap (λ (x : ℕ). x + hit b) d.count ∙ sym (one_more (marks_of fs') p b (let f = fact_low r d.facts l in let a = marks_of_long fs' in omega arith))
        ∙ sym (ap (λ (S : List ℕ). members (take (suc p) S)) (marks_put fs' p (marked (get_or fs' p no_fact) b)))
        ∙ ap (λ (i : ℕ). members (marks i (set fs' p (marked (get_or fs' p no_fact) b)))) n;
    facts = marked_more d.facts p b;
  }
    where
      one : (q : ℕ) → q < p + 1 → (q ≡ p) ⊎ (q ≡ p → ⊥) → in_set (set (marks z.n fs') p (num b)) q ≡ (ltb q z.m && begin_test recs regs bits (fact_in (bare fs) q) z.o q)
      one q h (inl x) =
          subst (λ (y : ℕ). in_set (set (marks z.n fs') p (num b)) y ≡ (ltb y z.m && begin_test recs regs bits (fact_in (bare fs) y) z.o y)) (sym x)
          (now_in (marks z.n fs') p b (let a = size r d.facts in omega arith) ∙ e ∙ ap (λ (f : Fact). ltb p z.m && begin_test recs regs bits f z.o p) (sym (says r d.facts p).same))
      one q h (inr x) = ap (λ (y : ℕ). not (eqb y 0)) (get_or-set_other (marks z.n fs') p q (num b) 0 x) ∙ d.each q (omega arith)

pub begun_swept : {recs regs work : List ℕ} {z : Span} {fs fs' : List Fact} {p k : ℕ} {b : Bool} {ls : Lasts} → Swept (VisitStart recs regs z) from_first work ls fs p work ls fs' k → b ≡ (ltb p z.m && begin_test recs regs work (get_or fs' p no_fact) z.o p)
    → Swept (VisitStart recs regs z) from_first work ls fs (p + 1) work ls (set fs' p (marked (get_or fs' p no_fact) b)) (k + hit b)
begun_swept s e = swept_forth s (record { begun = e; counted = refl; same = (refl, refl) })

-- ---- backward

-- the positions from q on were looked at
pub record Behind (recs ops regs : List ℕ) (z : Span) (work₀ : List ℕ) (ls₀ : Lasts) (fs₀ : List Fact) (q : ℕ) (work : List ℕ) (ls : Lasts) (fs : List Fact) (k : ℕ) : Type 0 where
  pub backing : Clear (length regs) z.s work₀ ls₀ → Backing recs ops (bare fs₀) z.n q (part z.s (length regs) work₀) (marks z.n fs₀) (part z.s (length regs) work) ls (marks z.n fs) k
  pub around : Around z.s (length regs) work₀ work
  pub facts : Marked fs₀ fs
  pub low : k + q ≤ z.n

module _ {recs ops regs work₀ : List ℕ} {fs₀ : List Fact} {z : Span} (r : Sweepable recs ops regs work₀ fs₀ z) {ls₀ : Lasts} where
  pub behind_none : Behind recs ops regs z work₀ ls₀ fs₀ z.n work₀ ls₀ fs₀ 0
  behind_none = record {
    backing = λ c. backing_none recs ops (bare fs₀) z.n (st₀ r) (marks z.n fs₀) (c.words ∙ ap (λ (x : ℕ). replicate x 0) (sym (part_len z.s (length regs) work₀ r.room))) c.notes (inside r);
    around = around_none z.s (length regs) work₀;
    facts = marked_none fs₀;
    low = omega arith;
  }

  module _ {q k : ℕ} {work : List ℕ} {ls : Lasts} {fs : List Fact} (i : Behind recs ops regs z work₀ ls₀ fs₀ q work ls fs k) where
    pub behind_more : {work' : List ℕ} {ls' : Lasts} {b : Bool} → 0 < q → q ≤ z.n → Backed recs ops (get_or fs (q - 1) no_fact) (q - 1) (part z.s (length regs) work) ls (part z.s (length regs) work') ls' b → Around z.s (length regs) work work'
        → Behind recs ops regs z work₀ ls₀ fs₀ (q - 1) work' ls' (set fs (q - 1) (marked (get_or fs (q - 1) no_fact) b)) (k + hit ((get_or fs (q - 1) no_fact).member && not b))
    behind_more {work'} {ls'} {b} o h d m =
        let l : q - 1 < z.n = omega arith in
        record {
          backing = λ c.
              let a = i.backing c in
              subst (λ (S : List ℕ). Backing recs ops (bare fs₀) z.n (q - 1) (st₀ r) (marks z.n fs₀) (part z.s (length regs) work') ls' S (k + hit ((get_or fs (q - 1) no_fact).member && not b))) (marked_set r i.facts l b)
              (backing_more (safe r) o h a
              (gone_back (marks z.n fs) (safe r) l a.notes.size (says r i.facts (q - 1)) (let e = size r i.facts in omega arith) (marks_at z.n fs (q - 1) l) d));
          around = around_on i.around m;
          facts = marked_more i.facts (q - 1) b;
          low = let a = i.low in let c = hit_le ((get_or fs (q - 1) no_fact).member && not b) in omega arith;
        }

    -- (no position behind the n is a member, so that m may be more)
    pub behind_end : q ≤ 0 → Backward recs ops regs z work₀ ls₀ fs₀ work ls fs k
    behind_end h = record {
      passed = λ c.
          let d = back_passed (view recs ops (bare fs₀) regs) z.n z.n (omega arith) refl (backing_end (safe r) (i.backing c) h).0 in
          record { size = d.size; within = d.within; holds = d.holds; count = d.count; left = λ e. let x = d.left e in (x.0, λ p a l t. x.1 p a ((inside r).low p t) t) };
      sum = λ c. (backing_end (safe r) (i.backing c) h).1;
      around = i.around;
      facts = i.facts;
    }

-- and the sweep so far, turn by turn
pub record BehindSwept (recs ops regs : List ℕ) (z : Span) (work₀ : List ℕ) (ls₀ : Lasts) (fs₀ : List Fact) (q : ℕ) (work : List ℕ) (ls : Lasts) (fs : List Fact) (k : ℕ) : Type 0 where
  pub behind : Behind recs ops regs z work₀ ls₀ fs₀ q work ls fs k
  pub swept : Swept (VisitBack recs ops regs z) (from_last z.n) work₀ ls₀ fs₀ (z.n - q) work ls fs k

module _ {recs ops regs work₀ : List ℕ} {fs₀ : List Fact} {z : Span} (r : Sweepable recs ops regs work₀ fs₀ z) {ls₀ : Lasts} where
  pub behind_swept_none : BehindSwept recs ops regs z work₀ ls₀ fs₀ z.n work₀ ls₀ fs₀ 0
  behind_swept_none = record {
    behind = behind_none r;
    swept = let e : 0 ≡ z.n - z.n = omega arith in subst (λ (i : ℕ). Swept (VisitBack recs ops regs z) (from_last z.n) work₀ ls₀ fs₀ i work₀ ls₀ fs₀ 0) e none;
  }

  module _ {q k : ℕ} {work : List ℕ} {ls : Lasts} {fs : List Fact} (i : BehindSwept recs ops regs z work₀ ls₀ fs₀ q work ls fs k) where
    pub behind_swept_more : {work' : List ℕ} {ls' : Lasts} {b : Bool} → 0 < q → q ≤ z.n → Backed recs ops (get_or fs (q - 1) no_fact) (q - 1) (part z.s (length regs) work) ls (part z.s (length regs) work') ls' b → Around z.s (length regs) work work'
        → BehindSwept recs ops regs z work₀ ls₀ fs₀ (q - 1) work' ls' (set fs (q - 1) (marked (get_or fs (q - 1) no_fact) b)) (k + hit ((get_or fs (q - 1) no_fact).member && not b))
    behind_swept_more o h d m = record { behind = behind_more r i.behind o h d m; swept = swept_back o h i.swept (record { backed = d; counted = refl; around = m }) }

    pub behind_swept : q ≤ 0 → Swept (VisitBack recs ops regs z) (from_last z.n) work₀ ls₀ fs₀ z.n work ls fs k
    behind_swept h = let e : z.n - q ≡ z.n = omega arith in subst (λ (j : ℕ). Swept (VisitBack recs ops regs z) (from_last z.n) work₀ ls₀ fs₀ j work ls fs k) e i.swept

-- ---- forward

-- the first p positions were looked at
pub record Ahead (recs ops regs : List ℕ) (z : Span) (work₀ : List ℕ) (ls₀ : Lasts) (fs₀ : List Fact) (p : ℕ) (work : List ℕ) (ls : Lasts) (fs : List Fact) (k : ℕ) : Type 0 where
  pub going : Summed recs (bare fs₀) z.n 0 (part z.s (length regs) work₀) ls₀ (marks z.n fs₀)
      → Going recs ops (bare fs₀) regs z.n p (part z.s (length regs) work₀) ls₀ (marks z.n fs₀) (part z.s (length regs) work) ls (marks z.n fs) k
  pub near : Near (part z.s (length regs) work)
  pub around : Around z.s (length regs) work₀ work
  pub facts : Marked fs₀ fs
  pub low : k ≤ p

module _ {recs ops regs work₀ : List ℕ} {fs₀ : List Fact} {z : Span} (r : Sweepable recs ops regs work₀ fs₀ z) {ls₀ : Lasts} where
  pub ahead_none : Near (part z.s (length regs) work₀) → Ahead recs ops regs z work₀ ls₀ fs₀ 0 work₀ ls₀ fs₀ 0
  ahead_none n = record { going = λ u. going_none u; near = n; around = around_none z.s (length regs) work₀; facts = marked_none fs₀; low = omega arith }

  module _ {p k : ℕ} {work : List ℕ} {ls : Lasts} {fs : List Fact} (i : Ahead recs ops regs z work₀ ls₀ fs₀ p work ls fs k) where
    pub ahead_more : {work' : List ℕ} {ls' : Lasts} {b : Bool} → p < z.n → Forwarded recs ops regs (get_or fs p no_fact) p (part z.s (length regs) work) ls (part z.s (length regs) work') ls' b → Around z.s (length regs) work work'
        → Ahead recs ops regs z work₀ ls₀ fs₀ (p + 1) work' ls' (set fs p (marked (get_or fs p no_fact) b)) (k + hit ((get_or fs p no_fact).member && not b))
    ahead_more {work'} {ls'} {b} l d m = record {
      going = λ u.
          subst (λ (S : List ℕ). Going recs ops (bare fs₀) regs z.n (p + 1) (st₀ r) ls₀ (marks z.n fs₀) (part z.s (length regs) work') ls' S (k + hit ((get_or fs p no_fact).member && not b))) (marked_set r i.facts l b)
          (going_more (safe r) l u (i.going u) (says r i.facts p) (let e = marks_long z.n fs₀ r.long in omega arith)
          (gone_on (marks z.n fs) (says r i.facts p) (let e = size r i.facts in omega arith) (marks_at z.n fs p l) d));
      near = near_next b (fact_small r i.facts l) i.near d.stamped;
      around = around_on i.around m;
      facts = marked_more i.facts p b;
      low = let a = i.low in let c = hit_le ((get_or fs p no_fact).member && not b) in omega arith;
    }

    pub ahead_end : p ≡ z.m → Forward recs ops regs z work₀ ls₀ fs₀ work ls fs k
    ahead_end e = record {
      going = λ u. subst (λ (x : ℕ). Going recs ops (bare fs₀) regs z.n x (st₀ r) ls₀ (marks z.n fs₀) (part z.s (length regs) work) ls (marks z.n fs) k) e (i.going u);
      around = i.around;
      facts = i.facts;
    }

-- and the sweep so far, turn by turn
pub record AheadSwept (recs ops regs : List ℕ) (z : Span) (work₀ : List ℕ) (ls₀ : Lasts) (fs₀ : List Fact) (p : ℕ) (work : List ℕ) (ls : Lasts) (fs : List Fact) (k : ℕ) : Type 0 where
  pub ahead : Ahead recs ops regs z work₀ ls₀ fs₀ p work ls fs k
  pub swept : Swept (VisitForth recs ops regs z) from_first work₀ ls₀ fs₀ p work ls fs k

module _ {recs ops regs work₀ : List ℕ} {fs₀ : List Fact} {z : Span} (r : Sweepable recs ops regs work₀ fs₀ z) {ls₀ : Lasts} where
  pub ahead_swept_none : Near (part z.s (length regs) work₀) → AheadSwept recs ops regs z work₀ ls₀ fs₀ 0 work₀ ls₀ fs₀ 0
  ahead_swept_none n = record { ahead = ahead_none r n; swept = none }

  module _ {p k : ℕ} {work : List ℕ} {ls : Lasts} {fs : List Fact} (i : AheadSwept recs ops regs z work₀ ls₀ fs₀ p work ls fs k) where
    pub ahead_swept_more : {work' : List ℕ} {ls' : Lasts} {b : Bool} → p < z.n → Forwarded recs ops regs (get_or fs p no_fact) p (part z.s (length regs) work) ls (part z.s (length regs) work') ls' b → Around z.s (length regs) work work'
        → AheadSwept recs ops regs z work₀ ls₀ fs₀ (p + 1) work' ls' (set fs p (marked (get_or fs p no_fact) b)) (k + hit ((get_or fs p no_fact).member && not b))
    ahead_swept_more l d m = record { ahead = ahead_more r i.ahead l d m; swept = swept_forth i.swept (record { forwarded = d; counted = refl; around = m }) }

    pub ahead_swept : p ≡ z.m → Swept (VisitForth recs ops regs z) from_first work₀ ls₀ fs₀ z.m work ls fs k
    ahead_swept e = subst (λ (j : ℕ). Swept (VisitForth recs ops regs z) from_first work₀ ls₀ fs₀ j work ls fs k) e i.swept
