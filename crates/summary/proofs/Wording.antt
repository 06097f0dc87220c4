-- A position's fact for what it writes and reads, where it has all, else its record. Assumes nothing.
use Rattle.std.specs.Prelude.{Option, Some, None}
use mathlib.Core.Path.{◌≡◌, refl, sym, ap, ap₂, ◌∙◌, subst}
use mathlib.Core.Logic.{◌⊎◌, inl, inr, ⊎_elim}
use mathlib.Core.Bool.{Bool, false, ◌&&◌, ◌||◌, cond, and-true}
use mathlib.Core.List.{List, [], ◌∷◌, ◌++◌, append-nil}
use Prim.Native.Nat.{ℕ, ◌≤◌, ◌<◌}
use native.Mathlib.Omega.{arith}
use borrow.Author.Tests.{ne_eqb}
use lib.Dec.{eqb, leb}
use lib.ListN.{get_or, length}
use Rattle.words.specs.Lists.{In, all}
use Rattle.words.proofs.Bools.{eq?}
use Rattle.words.proofs.Members.{in_left, in_right}
use Rattle.model.specs.Picture.{inst, absent, reads, writes}
use Rattle.inst.specs.Index.{reg_of, word_of, Among}
use Rattle.inst.specs.declared.index.Reg.{Reg}
use Rattle.inst.specs.Record.{present}
use Rattle.inst.proofs.Indices.{among_of, word_of_reg}
use Rattle.facts.specs.declared.Fact.{Fact}
use Rattle.legalset.specs.Chain.{Safe, Brief}
use Rattle.summary.specs.declared.notes.Lasts.{Lasts}
use Rattle.summary.specs.Passes.{put_in, kept_word, noting, Stamped, Awaited, Backed, Beside, Written, Readable, Small, Shows, own_def, own_uses}
use Rattle.regfacts.proofs.Visiting.{read_low, written_low}
use Rattle.summary.proofs.Places.{present_tested}
use Rattle.summary.proofs.Stamping.{stamped_present, stamped_both}
use Rattle.summary.proofs.Backing.{backed}

-- ---- each position of a chain is such

module _ {recs ops : List ℕ} {w : List Fact} {n R p : ℕ} (s : Safe recs ops w n R) (h : p < n) {f : Fact} (t : Shows w p f) where
  pub written : Brief recs ops w n → Written recs R f.rec f.def f.more
  written b = subst (λ (x : Fact). Written recs R x.rec x.def x.more) t.same (record { known = (s.good p h).known; fits = (s.good p h).fits; brief = b.defs p h })

  pub readable : Brief recs ops w n → Readable recs ops R f
  readable b = subst (Readable recs ops R) t.same (record { good = s.good p h; brief = b.reads p h })

  pub small : Small f
  small = subst Small t.same (record { org = s.org p h; wrote = s.wrote p h; from = s.from p h })

-- ---- stamped by another name of the list

pub stamped_is : {l m : List ℕ} {keep lo v : ℕ} {st st' : List ℕ} → l ≡ m → Stamped l keep lo v st st' → Stamped m keep lo v st st'
stamped_is {keep = keep} {lo = lo} {v = v} {st = st} {st' = st'} e k = subst (λ (l : List ℕ). Stamped l keep lo v st st') e k

-- ---- what a fact itself has

among_low : {R : ℕ} (m : Option Reg) → Among R m → (word_of m ≡ absent) ⊎ (word_of m < R)
among_low (Some r) a = inr a.0
among_low None a = inl refl

-- m is made of the word x, by as many registers as a list can have
module _ (x : ℕ) {R : ℕ} (few : R ≤ 65536) {m : Option Reg} (q : m ≡ reg_of x R) where
  pub own_among : Among R m
  own_among = subst (Among R) (sym q) (among_of x R (omega (arith, few)))

  own_low : (word_of m ≡ absent) ⊎ (word_of m < R)
  own_low = among_low m own_among

  -- its word is stamped in as many words
  own_stamped : {keep lo v : ℕ} {now after : List ℕ} → R ≡ length now → after ≡ put_in keep lo v (word_of m) now → Stamped (present (word_of (reg_of x R))) keep lo v now after
  own_stamped {keep} {lo} {v} {now} {after} e k =
      subst (λ (n : ℕ). Stamped (present n) keep lo v now after) (ap word_of q)
      (stamped_present (word_of m) (omega (arith, few, e)) (subst (λ (n : ℕ). (word_of m ≡ absent) ⊎ (word_of m < n)) e own_low) k)

module _ (f : Fact) (R : ℕ) (h : ℕ → Bool) where
  alone : (x : ℕ) → all h (present x) ≡ (eqb x absent || h x)
  alone x = ap (all h) (sym (append-nil (present x))) ∙ present_tested h x [] ∙ and-true (eqb x absent || h x)

  pub def_tested : {m : Option Reg} → m ≡ reg_of f.def R → {b : Bool} → b ≡ (eqb (word_of m) absent || h (word_of m)) → b ≡ all h (own_def R f)
  unfolding own_def
  def_tested q k = k ∙ ap (λ (r : Option Reg). eqb (word_of r) absent || h (word_of r)) q ∙ sym (alone (word_of (reg_of f.def R)))

  pub uses_tested : {x y : Option Reg} → x ≡ reg_of f.use0 R → y ≡ reg_of f.use1 R → {b c : Bool}
      → b ≡ (eqb (word_of x) absent || h (word_of x)) → c ≡ (eqb (word_of y) absent || h (word_of y)) → (b && c) ≡ all h (own_uses R f)
  unfolding own_uses
  uses_tested q r k l =
      ap₂ (λ (i j : Bool). i && j) (k ∙ ap (λ (z : Option Reg). eqb (word_of z) absent || h (word_of z)) q)
      (l ∙ ap (λ (z : Option Reg). eqb (word_of z) absent || h (word_of z)) r ∙ sym (alone (word_of (reg_of f.use1 R))))
      ∙ sym (present_tested h (word_of (reg_of f.use0 R)) (present (word_of (reg_of f.use1 R))))

module _ (f : Fact) (st : List ℕ) (few : length st ≤ 65536) {keep lo v : ℕ} (b : Beside keep lo v) where
  pub def_stamped : {m : Option Reg} → m ≡ reg_of f.def (length st) → {st' : List ℕ} → st' ≡ put_in keep lo v (word_of m) st → Stamped (own_def (length st) f) keep lo v st st'
  unfolding own_def
  def_stamped q k = own_stamped f.def few q refl k

  module _ {x : Option Reg} (q : x ≡ reg_of f.use0 (length st)) {mid : List ℕ} (k : mid ≡ put_in keep lo v (word_of x) st) where
    one_put : Stamped (present (word_of (reg_of f.use0 (length st)))) keep lo v st mid
    one_put = own_stamped f.use0 few q refl k

    few_on : length mid ≤ 65536
    few_on = omega (arith, few, one_put.size)

    pub own_among_on : {m : Option Reg} → m ≡ reg_of f.use1 (length mid) → Among (length mid) m
    own_among_on r = own_among f.use1 few_on r

    pub uses_stamped : {m : Option Reg} → m ≡ reg_of f.use1 (length mid) → {st' : List ℕ} → st' ≡ put_in keep lo v (word_of m) mid → Stamped (own_uses (length st) f) keep lo v st st'
    unfolding own_uses
    uses_stamped r l = stamped_both b one_put (own_stamped f.use1 few (r ∙ ap (reg_of f.use1) one_put.size) (sym one_put.size) l)

present_in : (x : ℕ) → (x ≡ absent → ⊥) → In x (present x)
unfolding present
present_in x n = subst (λ (b : Bool). In x (cond b [] (x ∷ []))) (sym (ne_eqb x absent n)) (inl refl)

-- a word that is a register below R, or none, is what is made of it
own_word : (R x : ℕ) → ((r : ℕ) → In r (present x) → r < R) → word_of (reg_of x R) ≡ x
own_word R x h = word_of_reg x R (⊎_elim (λ e. inl e) (λ n. inr (h x (present_in x n))) (eq? x absent))

-- where there are not more, it is what the record writes and reads
pub def_all : (f : Fact) {recs : List ℕ} {R : ℕ} → Written recs R f.rec f.def f.more → f.more ≡ false → own_def R f ≡ writes (inst recs f.rec)
unfolding own_def
def_all f {recs} {R} a e =
    let is = a.brief e in
    ap present (own_word R f.def (λ r i. (written_low a.fits).each r (subst (In r) (sym is) i))) ∙ sym is

pub uses_all : (f : Fact) {recs ops : List ℕ} {R : ℕ} → Readable recs ops R f → f.more ≡ false → own_uses R f ≡ reads ops (inst recs f.rec)
unfolding own_uses
uses_all f {recs} {ops} {R} a e =
    let is = a.brief e in
    let low : (r : ℕ) → In r (present f.use0 ++ present f.use1) → r < R = λ r i. (read_low a.good).each r (subst (In r) (sym is) i) in
    ap₂ (λ (x y : ℕ). present x ++ present y)
    (own_word R f.use0 (λ r i. low r (in_left r (present f.use0) (present f.use1) i)))
    (own_word R f.use1 (λ r i. low r (in_right r (present f.use0) (present f.use1) i)))
    ∙ sym is

-- the step from behind, by the fact
pub backed_by : (f : Fact) {recs ops : List ℕ} {q k : ℕ} {st mid st' : List ℕ} {ls ls' : Lasts} {b : Bool} → Written recs (length st) f.rec f.def f.more → Readable recs ops (length st) f → f.more ≡ false
    → b ≡ (f.member && all (λ x. leb (get_or st x 0) 1023) (own_def (length st) f)) → k ≡ kept_word b q → Stamped (own_def (length st) f) 1024 k 0 st mid → Awaited (own_uses (length mid) f) b mid st' → ls' ≡ noting f b q ls
    → Backed recs ops f q st ls st' ls' b
backed_by f {st = st} {mid = mid} {st' = st'} {b = b} w r e t k s a n =
    let defs = def_all f w e in
    let uses = ap (λ (m : ℕ). own_uses m f) s.size ∙ uses_all f r e in
    backed (t ∙ ap (λ (l : List ℕ). f.member && all (λ (x : ℕ). leb (get_or st x 0) 1023) l) defs) k (stamped_is defs s) (subst (λ (l : List ℕ). Awaited l b mid st') uses a) n
