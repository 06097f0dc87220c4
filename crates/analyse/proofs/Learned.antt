-- The fact of one position, and the words of registers after it. Assumes nothing.
use Rattle.std.specs.Prelude.{Option, Some}
use mathlib.Core.Bool.{Bool, true, false, cond, not, ◌||◌}
use mathlib.Core.List.{List, [], ◌∷◌, ◌++◌}
use mathlib.Core.Logic.{inl, inr, ⊎_elim}
use mathlib.Core.Path.{◌≡◌, refl, sym, ap, ◌∙◌, subst}
use Prim.Native.Nat.{ℕ, suc, ◌+◌, ◌/◌, ◌%◌, ◌≤◌, ◌<◌}
use native.Mathlib.Nat.{zero-add}
use native.Mathlib.Omega.{arith}
use borrow.Author.Tests.{eqb-true}
use lib.Dec.{eqb}
use lib.ListN.{get_or, length, get_or-append, get_or-eq_default}
use lib.Seq.{get_or-append_seam}
use Rattle.words.specs.Lists.{mem}
use Rattle.words.proofs.Bools.{lt?, clash}
use Rattle.model.specs.Picture.{Inst, inst, absent, kind, form, reads, writes}
use Rattle.model.specs.Analyse.{Facts, Fact, fact, no_fact, last_writer, may_suspend}
use Rattle.inst.specs.Table.{packed, arm_at}
use Rattle.inst.specs.Table as T
use Rattle.inst.specs.declared.scanned.Firsts.{Firsts}
use Rattle.inst.specs.Firsts.{Heads}
use Rattle.inst.proofs.Firsts.{Present, all_written, all_read}
use Rattle.effects.specs.Arms.{arm_of, leads}
use Rattle.effects.specs.declared.arms.Arm.{Arm}
use Rattle.effects.proofs.Origins.{class_kept}
use Rattle.effects.specs.declared.arms.Effect.{Effect}
use Rattle.effects.specs.declared.input.Input.{Input}
use Rattle.effects.specs.declared.origin.Value.{Value}
use Rattle.inst.specs.Written.{Written, settle}
use Rattle.regfacts.specs.Written.{Fits}
use Rattle.regfacts.specs.Flags.{Seen}
use Rattle.analyse.specs.State.{Stands, place_at, left_in, Left, Marked, Ranges, Ranged, Asked, Low, Judged}
use Rattle.analyse.specs.Step.{stamp, marked, more, fact_of, Learnable, Sized, Learned}
use Rattle.analyse.proofs.Layouts.{lay_keep}
use Rattle.analyse.proofs.Marking.{last_more, settle_flags, writer_new, left_new, ranges_settle, opt_settle}
use Rattle.analyse.proofs.Verdict.{led}

-- ---- the flags stay

pub seen_kept : {G : Facts} {R : ℕ} {xs ys : List ℕ} → ((r : ℕ) → get_or ys r 0 % 16 ≡ get_or xs r 0 % 16) → Seen G R xs → Seen G R ys
seen_kept h s = record { size = s.size; flags = λ r l. h r ∙ s.flags r l }

pub fits_more : {recs : List ℕ} {R K g : ℕ} → R ≤ K → K ≤ 65536 → Fits recs R g → Fits recs K g
fits_more {recs} {R} {K} {g} h l f = record {
  whole = f.whole;
  room = l;
  slot = λ s q. ⊎_elim (λ (e : _ ≡ absent). inl e) (λ (e : _ < R). inr (omega (arith, h, e))) (f.slot s q);
}

flags_kept_by : (d : ℕ) (i : Inst) {xs ys : List ℕ} → Written (marked d) i xs ys → (k : ℕ) → get_or ys k 0 % 16 ≡ get_or xs k 0 % 16
flags_kept_by d i {xs} {ys} m k =
    ⊎_elim (λ (h : k < length xs). ap (λ (x : ℕ). x % 16) (m.each k h) ∙ settle_flags d (mem k (writes i)) (get_or xs k 0))
    (λ (h : length xs ≤ k). ap (λ (x : ℕ). x % 16) (get_or-eq_default ys 0 (omega (arith, m.size)) ∙ sym (get_or-eq_default xs 0 h))) (lt? k (length xs))

-- ---- no more registers

nothing_more : (x : Firsts) → more x ≡ false → (x.d1 ≡ absent) × (x.r2 ≡ absent)
unfolding more
nothing_more x e = go (eqb x.d1 absent) (eqb x.r2 absent) refl refl e
  where
    go : (a b : Bool) → eqb x.d1 absent ≡ a → eqb x.r2 absent ≡ b → (not a || not b) ≡ false → (x.d1 ≡ absent) × (x.r2 ≡ absent)
    go true true p q z = (eqb-true x.d1 absent p, eqb-true x.r2 absent q)
    go true false p q z = clash refl z
    go false b p q z = clash refl z

some_read : {recs ops : List ℕ} {R g : ℕ} → Learnable recs ops R g → Present (reads ops (inst recs g))
some_read good = record { each = λ k h e. omega (arith, good.good.each k h, good.good.fits.room, e) }

-- ---- one position

module _ (recs ops : List ℕ) (e : Effect) (b : Bool) (y : Input) (a : Arm) {regs regs' : List ℕ} {g p R : ℕ} {x : Firsts} (ranged : Ranged R p regs) (few : p + 1 < 1000) (good : Learnable recs ops R g)
    (ea : arm_of a ≡ arm_at (T.arm (packed (kind (inst recs g)) (form (inst recs g))))) (low : Low p (inst recs g) e) (heads : Heads (reads ops (inst recs g)) (writes (inst recs g)) x)
    (m : Written (marked (stamp p e.org e.len (leads a y.reads e))) (inst recs g) regs regs') where
  abbrev i : Inst
  i = inst recs g

  abbrev d : ℕ
  d = stamp p e.org e.len (leads a y.reads e)

  word : (r : ℕ) → r < R → get_or regs' r 0 ≡ settle (marked d) (mem r (writes i)) (get_or regs r 0)
  word r h = m.each r (omega (arith, ranged.in_use))

  small_R : R ≤ 65536
  small_R = omega (arith, ranged.in_use, ranged.lent)

  ranged_new : Ranged R (p + 1) regs'
  ranged_new = record {
    in_use = omega (arith, m.size, ranged.in_use);
    lent = omega (arith, m.size, ranged.lent);
    few = few;
    each = λ r h. subst (Ranges (p + 1)) (sym (word r h)) (ranges_settle p e.org e.len (leads a y.reads e) few low.org (mem r (writes i)) (get_or regs r 0) (ranged.each r h));
  }

  module _ (G : Facts) (past : List Fact) (el : length past ≡ p) (s : Marked G past R regs) (q : Asked G past ops i y) (j : Judged e (fact G ops past i)) where
    abbrev f : Fact
    f = fact G ops past i

    abbrev after : List Fact
    after = past ++ (f ∷ [])

    -- a register that it writes
    own : Left after (record { org = e.org; len = e.len; layout = leads a y.reads e }) f
    own = record { org = j.org; len = j.len; layout = led G past ops R i y small_R good.good.each q e a ea j.org j.layout }

    -- and one that it does not
    still : (v k : ℕ) → Ranges p v → v / 16 % 1024 ≡ suc k → Left past (left_in v) (get_or past k no_fact) → Left after (left_in v) (get_or after k no_fact)
    unfolding left_in
    still v k g ek l =
        subst (Left after (left_in v)) (sym (get_or-append past (f ∷ []) no_fact k (omega (arith, g.writer, ek, el))))
        (record { org = l.org; len = l.len; layout = l.layout ∙ lay_keep past f (v / 16384 % 2048) (omega (arith, g.org, el)) })

    left_by : (c : Bool) (v k : ℕ) → Ranges p v → ((n : ℕ) → v / 16 % 1024 ≡ suc n → Left past (left_in v) (get_or past n no_fact)) → settle (marked d) c v / 16 % 1024 ≡ suc k → Left after (left_in (settle (marked d) c v)) (get_or after k no_fact)
    unfolding settle
    left_by true v k g l ek =
        let z : k ≡ length past = omega (arith, ek, writer_new p e.org e.len (leads a y.reads e) few low.org v, el) in
        subst (λ (n : ℕ). Left after (left_in (marked d v)) (get_or after n no_fact)) (sym z)
        (subst (Left after (left_in (marked d v))) (sym (get_or-append_seam past f [] no_fact))
        (subst (λ (c : Value). Left after c f) (sym (left_new p e.org e.len (leads a y.reads e) few low.org v)) own))
    left_by false v k g l ek = still v k g ek (l k ek)

    marked_new : Marked G after R regs'
    marked_new = record {
      seen = seen_kept (flags_kept_by d i m) s.seen;
      writer = λ r h.
          ap (λ (n : ℕ). place_at (n / 16 % 1024)) (word r h) ∙ opt_settle p e.org e.len (leads a y.reads e) few low.org (mem r (writes i)) (get_or regs r 0)
          ∙ ap (λ (o : Option ℕ). cond (mem r (writes i)) (Some p) o) (s.writer r h)
          ∙ ap (λ (n : ℕ). cond (mem r (writes i)) (Some n) (last_writer 0 past r)) (sym el ∙ sym (zero-add (length past)))
          ∙ sym (last_more 0 past f r);
      left = λ r h k ek.
          subst (λ (n : ℕ). Left after (left_in n) (get_or after k no_fact)) (sym (word r h))
          (left_by (mem r (writes i)) (get_or regs r 0) k (ranged.each r h) (s.left r h) (sym (ap (λ (n : ℕ). n / 16 % 1024) (word r h)) ∙ ek));
    }

  stands_by : (G : Facts) (past : List Fact) → b ≡ may_suspend i → Judged e (fact G ops past i) → Stands (fact_of g e b x) (fact G ops past i)
  unfolding fact_of
  stands_by G past eb j = record {
    class = class_kept e.class ∙ j.class;
    org = j.org;
    len = j.len;
    layout = j.layout;
    creates = j.creates;
    barrier = j.barrier;
    suspends = eb;
    wrote = j.wrote;
    from = j.from;
    def = heads.d0;
  }

  sized_new : Sized recs ops g (fact_of g e b x)
  unfolding fact_of
  sized_new = record {
    number = refl;
    member = refl;
    org = omega (arith, low.org, few);
    wrote = low.wrote;
    from = low.from;
    defs = λ q. all_written i heads.d0 heads.d1 (nothing_more x q).0;
    reads = λ q. all_read heads (some_read good) (nothing_more x q).1;
  }

  pub learned : b ≡ may_suspend i → ((G : Facts) (past : List Fact) → length past ≡ p → Marked G past R regs → Asked G past ops i y) → ((G : Facts) (past : List Fact) → Asked G past ops i y → Judged e (fact G ops past i))
      → Learned recs ops regs regs' p R g (fact_of g e b x)
  learned eb q j = record {
    size = m.size;
    kept = flags_kept_by d i m;
    ranged = ranged_new;
    sized = sized_new;
    stands = λ G past el s. stands_by G past eb (j G past (q G past el s));
    marked = λ G past el s. let z = q G past el s in marked_new G past el s z (j G past z);
  }
