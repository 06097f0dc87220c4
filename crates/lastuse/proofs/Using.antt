-- Each position's last reader, one position after the other. Assumes nothing.
use mathlib.Core.Path.{◌≡◌, refl, sym, ap, ap₂, ◌∙◌, subst}
use mathlib.Core.Logic.{◌⊎◌, inl, inr}
use mathlib.Core.Bool.{Bool, true, false, not, ◌&&◌, ◌||◌, cond, or-false}
use mathlib.Core.List.{List, [], ◌∷◌, ◌++◌}
use Prim.Native.Nat.{ℕ, zero, suc, ◌+◌, ◌-◌, ◌%◌, ◌≤◌, ◌<◌, max}
use native.Mathlib.Numerals.{add-one}
use native.Mathlib.Omega.{arith}
use borrow.Author.Tests.{eq-eqb, ne_eqb}
use lib.Dec.{eqb}
use lib.ListN.{get_or, length, set, replicate, length-set}
use lib.Seq.{get_or-set_same, get_or-set_other}
use Rattle.words.specs.Lists.{In, any, mem}
use Rattle.words.specs.Last.{last_below}
use Rattle.words.proofs.Bools.{eq?}
use Rattle.words.proofs.Lasts.{last_ext, last_step}
use Rattle.words.proofs.Members.{any_on}
use Rattle.words.proofs.Alls.{any_append}
use Rattle.model.specs.Picture.{absent}
use Rattle.inst.specs.Index.{Low}
use Rattle.legalset.specs.Chain.{writer}
use Rattle.legalset.proofs.Lasting.{writer_low}
use Rattle.summary.specs.Passes.{over, stamp}
use Rattle.lastuse.specs.Uses.{note_in, Noticed, ReadOn, reads_value, or_own, last_reader, Readers}
use Rattle.summary.proofs.Summing.{zero_at}

-- ---- one register

module _ (st : List ℕ) (r q : ℕ) (ls : List ℕ) where
  pub note_none : r ≡ absent → ls ≡ note_in st r q ls
  unfolding note_in
  note_none e = sym (ap (λ (b : Bool). cond b ls (cond (eqb (get_or st r 0) 0) ls (set ls (get_or st r 0 - 1) q))) (eq-eqb r absent e))

  pub note_zero : {k : ℕ} → (r ≡ absent → ⊥) → k ≡ r → get_or st k 0 ≡ 0 → ls ≡ note_in st r q ls
  unfolding note_in
  note_zero n e z = sym (ap₂ (λ (a b : Bool). cond a ls (cond b ls (set ls (get_or st r 0 - 1) q))) (ne_eqb r absent n) (eq-eqb (get_or st r 0) 0 (ap (λ (j : ℕ). get_or st j 0) (sym e) ∙ z)))

  pub note_set : {k : ℕ} → (r ≡ absent → ⊥) → k ≡ r → (get_or st k 0 ≡ 0 → ⊥) → set ls (get_or st k 0 - 1) q ≡ note_in st r q ls
  unfolding note_in
  note_set n e z =
      ap (λ (j : ℕ). set ls (get_or st j 0 - 1) q) e
      ∙ sym (ap₂ (λ (a b : Bool). cond a ls (cond b ls (set ls (get_or st r 0 - 1) q))) (ne_eqb r absent n) (ne_eqb (get_or st r 0) 0 (λ y. z (ap (λ (j : ℕ). get_or st j 0) e ∙ y))))

  note_at : length ls ≡ 800 → (p : ℕ) → p < 800 → get_or (note_in st r q ls) p 0 ≡ cond (not (eqb r absent) && eqb (get_or st r 0) (p + 1)) q (get_or ls p 0)
  unfolding note_in
  note_at s p h = go (eqb r absent) (get_or st r 0)
    where
      there : (d : ℕ) → (p ≡ d) ⊎ (p ≡ d → ⊥) → get_or (set ls (suc d - 1) q) p 0 ≡ cond (eqb (suc d) (p + 1)) q (get_or ls p 0)
      there d (inl e) =
          let z : suc d - 1 ≡ p = omega arith in
          ap (λ (i : ℕ). get_or (set ls i q) p 0) z ∙ get_or-set_same ls p q 0 (omega arith) ∙ sym (ap (λ (b : Bool). cond b q (get_or ls p 0)) (eq-eqb (suc d) (p + 1) (omega arith)))
      there d (inr n) =
          let z : suc d - 1 ≡ d = omega arith in
          ap (λ (i : ℕ). get_or (set ls i q) p 0) z ∙ get_or-set_other ls d p q 0 n ∙ sym (ap (λ (b : Bool). cond b q (get_or ls p 0)) (ne_eqb (suc d) (p + 1) (λ e. n (omega arith))))

      go : (a : Bool) (d : ℕ) → get_or (cond a ls (cond (eqb d 0) ls (set ls (d - 1) q))) p 0 ≡ cond (not a && eqb d (p + 1)) q (get_or ls p 0)
      go true d = refl
      go false zero = sym (ap (λ (b : Bool). cond b q (get_or ls p 0)) (ne_eqb 0 (p + 1) (λ e. omega arith)))
      go false (suc d) = ap (λ (b : Bool). get_or (cond b ls (set ls (suc d - 1) q)) p 0) (ne_eqb (suc d) 0 (λ e. omega arith)) ∙ there d (eq? p d)

  note_size : length (note_in st r q ls) ≡ length ls
  unfolding note_in
  note_size = go (eqb r absent) (eqb (get_or st r 0) 0)
    where
      go : (a b : Bool) → length (cond a ls (cond b ls (set ls (get_or st r 0 - 1) q))) ≡ length ls
      go true b = refl
      go false true = refl
      go false false = length-set ls (get_or st r 0 - 1) q

pub note_low : (st : List ℕ) {k : ℕ} → k < length st → ((x : ℕ) → x < length st → get_or st x 0 ≤ 800) → (get_or st k 0 ≡ 0 → ⊥) → get_or st k 0 - 1 < 800
note_low st {k} l b z = let h = b k l in omega arith

-- ---- one register after the other

two : (q : ℕ) (a b : Bool) (y : ℕ) → cond b q (cond a q y) ≡ cond (a || b) q y
two q true true y = refl
two q true false y = refl
two q false b y = refl

module _ {st : List ℕ} {q : ℕ} where
  pub noticed_none : (ls : List ℕ) → length ls ≡ 800 → Noticed st [] q ls ls
  noticed_none ls e = record { size = e; each = λ p h. refl }

  -- those of l, then those of m
  pub noticed_both : {l m before now after : List ℕ} → Noticed st l q before now → Noticed st m q now after → Noticed st (l ++ m) q before after
  noticed_both {l} {m} {before} i j = record {
    size = j.size;
    each = λ p h. j.each p h ∙ ap (cond (any (λ r. eqb (get_or st r 0) (p + 1)) m) q) (i.each p h)
        ∙ two q (any (λ r. eqb (get_or st r 0) (p + 1)) l) (any (λ r. eqb (get_or st r 0) (p + 1)) m) (get_or before p 0)
        ∙ ap (λ (b : Bool). cond b q (get_or before p 0)) (sym (any_append (λ r. eqb (get_or st r 0) (p + 1)) l m));
  }

  noticed_one : {x : ℕ} {now after : List ℕ} → length now ≡ 800 → (x ≡ absent → ⊥) → after ≡ note_in st x q now → Noticed st (x ∷ []) q now after
  noticed_one {x} {now} s n f = record {
    size = ap length f ∙ note_size st x q now ∙ s;
    each = λ p h. ap (λ (l : List ℕ). get_or l p 0) f ∙ note_at st x q now s p h
        ∙ ap (λ (b : Bool). cond b q (get_or now p 0)) (ap (λ (b : Bool). not b && eqb (get_or st x 0) (p + 1)) (ne_eqb x absent n) ∙ sym (or-false (eqb (get_or st x 0) (p + 1))));
  }

  -- y, one of R registers, after those of l
  pub noticed_more : {l more xs : List ℕ} {R x y : ℕ} {before now after : List ℕ} → l ++ (y ∷ []) ≡ more → Low R xs → In y xs → x ≡ y → after ≡ note_in st x q now
      → Noticed st l q before now → Noticed st more q before after
  noticed_more {l} {y = y} {before = before} {after = after} e low there same f i =
      let below = low.each y there in
      let one = noticed_one i.size (λ z. absurd (omega (arith, low.few, below, same, z))) f in
      subst (λ (m : List ℕ). Noticed st m q before after) (ap (λ (n : ℕ). l ++ n ∷ []) same ∙ e) (noticed_both i one)

-- ---- the chain

own_is : (p q : ℕ) → q ≡ or_own p (suc q)
unfolding or_own
own_is p q = refl

pub record Reading (defs reads : ℕ → List ℕ) (q : ℕ) (st₀ st ls : List ℕ) : Type 0 where
  pub size : length st ≡ length st₀
  pub writers : (r : ℕ) → r < length st₀ → get_or st r 0 ≡ writer defs r q
  pub readers : Readers defs reads q ls

pub reading_none : (defs rd : ℕ → List ℕ) (st₀ : List ℕ) {st ls : List ℕ} → length st ≡ length st₀ → st ≡ replicate (length st) 0 → length ls ≡ 800 → ((p : ℕ) → p < 800 → get_or ls p 0 ≡ p) → Reading defs rd 0 st₀ st ls
unfolding writer last_below last_reader or_own
reading_none defs rd st₀ {st} {ls} a z e h = record { size = a; writers = λ r l. zero_at z r; readers = record { size = e; each = h } }

pub reading_low : {defs rd : ℕ → List ℕ} {q : ℕ} {st₀ st ls : List ℕ} → Reading defs rd q st₀ st ls → q ≤ 800 → (x : ℕ) → x < length st → get_or st x 0 ≤ 800
reading_low {defs} {rd} {q} i l x h = let e = i.writers x (subst (λ (m : ℕ). x < m) i.size h) in let w = writer_low defs x q in omega arith

pub reading_more : {defs rd : ℕ → List ℕ} {q : ℕ} {st₀ st ls st' ls' : List ℕ} → ((r : ℕ) → In r (rd q) → r < length st₀) → Reading defs rd q st₀ st ls → ReadOn (defs q) (rd q) q st ls st' ls' → Reading defs rd (q + 1) st₀ st' ls'
unfolding stamp over writer last_reader reads_value
reading_more {defs} {rd} {q} {st₀} {st} {ls} low i k = record {
  size = k.stamped.size ∙ i.size;
  writers = λ r l. k.stamped.each r (subst (λ (m : ℕ). r < m) (sym i.size) l) ∙ put (mem r (defs q)) (get_or st r 0) ∙ ap (cond (mem r (defs q)) (suc q)) (i.writers r l) ∙ sym (ap (last_below (λ j. mem r (defs j))) (add-one q) ∙ last_step (λ j. mem r (defs j)) q);
  readers = record {
    size = k.noticed.size;
    each = λ p l. k.noticed.each p l ∙ ap₂ (λ (b : Bool) (y : ℕ). cond b q y)
        (any_on (λ r. eqb (get_or st r 0) (p + 1)) (λ r. eqb (last_below (λ j. mem r (defs j)) q) (p + 1)) (rd q) (λ r j. ap (λ (y : ℕ). eqb y (p + 1)) (i.writers r (low r j)))) (i.readers.each p l)
        ∙ own (reads_value defs rd p q) p (last_below (reads_value defs rd p) q) ∙ ap (or_own p) (sym (ap (last_below (reads_value defs rd p)) (add-one q) ∙ last_step (reads_value defs rd p) q));
  };
}
  where
    put : (b : Bool) (y : ℕ) → cond b (max (y % 1) 0 + (q + 1)) y ≡ cond b (suc q) y
    put true y = omega arith
    put false y = refl

    own : (b : Bool) (p y : ℕ) → cond b q (or_own p y) ≡ or_own p (cond b (suc q) y)
    own true p y = own_is p q
    own false p y = refl

-- other names for the same reads and writes
pub readers_same : {defs rd defs' rd' : ℕ → List ℕ} {n : ℕ} {ls : List ℕ} → ((q : ℕ) → q < n → defs q ≡ defs' q) → ((q : ℕ) → q < n → rd q ≡ rd' q) → Readers defs rd n ls → Readers defs' rd' n ls
unfolding last_reader reads_value writer
readers_same {defs} {rd} {defs'} {rd'} {n} d e i = record {
  size = i.size;
  each = λ p h. i.each p h ∙ ap (or_own p) (last_ext (reads_value defs rd p) (reads_value defs' rd' p) n (λ q l.
      any_on (λ r. eqb (writer defs r q) (p + 1)) (λ r. eqb (writer defs' r q) (p + 1)) (rd q) (λ r j. ap (λ (y : ℕ). eqb y (p + 1)) (last_ext (λ k. mem r (defs k)) (λ k. mem r (defs' k)) q (λ k m. ap (mem r) (d k (omega (arith, m, l))))))
      ∙ ap (any (λ r. eqb (writer defs' r q) (p + 1))) (e q l)));
}
