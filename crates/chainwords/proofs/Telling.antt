-- The words that each position has by its fact. Assumes nothing.
use mathlib.Core.Path.{◌≡◌, refl, sym, ap, ◌∙◌, subst}
use mathlib.Core.Logic.{⊎_elim}
use mathlib.Core.List.{List}
use Prim.Native.Nat.{ℕ, ◌+◌, ◌*◌, ◌-◌, ◌≤◌, ◌<◌}
use native.Mathlib.Omega.{arith}
use lib.ListN.{get_or, length, drop, set, length-set, length-drop}
use lib.Seq.{get_or-drop, get_or-set_same, get_or-set_other, ext_get_or}
use Rattle.words.proofs.Parts.{below_split}
use Rattle.effects.specs.Origin.{num}
use Rattle.facts.specs.declared.Fact.{Fact}
use Rattle.facts.specs.Marks.{no_fact}
use Rattle.chainwords.specs.Puts.{put_fact, Facts}

-- ---- one position

module _ (w : List ℕ) (p : ℕ) (f : Fact) where
  abbrev first : List ℕ
  first = set w (10 * p) f.rec

  abbrev second : List ℕ
  second = set first (10 * p + 6) (num f.member)

  pub fact_size : length (put_fact w p f) ≡ length w
  unfolding put_fact
  fact_size = simp length-set

  fact_rec : 10 * p + 9 ≤ length w → get_or (put_fact w p f) (10 * p) 0 ≡ f.rec
  unfolding put_fact
  fact_rec h =
      get_or-set_other second (10 * p + 8) (10 * p) f.def 0 (λ e. omega arith) ∙ get_or-set_other first (10 * p + 6) (10 * p) (num f.member) 0 (λ e. omega arith) ∙ get_or-set_same w (10 * p) f.rec 0 (omega arith)

  fact_mark : 10 * p + 9 ≤ length w → get_or (put_fact w p f) (10 * p + 6) 0 ≡ num f.member
  unfolding put_fact
  fact_mark h =
      get_or-set_other second (10 * p + 8) (10 * p + 6) f.def 0 (λ e. omega arith)
      ∙ get_or-set_same first (10 * p + 6) (num f.member) 0 (let z = length-set w (10 * p) f.rec in omega arith)

  fact_wrote : 10 * p + 9 ≤ length w → get_or (put_fact w p f) (10 * p + 8) 0 ≡ f.def
  unfolding put_fact
  fact_wrote h =
      get_or-set_same second (10 * p + 8) f.def 0 (let z = length-set w (10 * p) f.rec in let u = length-set first (10 * p + 6) (num f.member) in omega arith)

  fact_else : (i : ℕ) → (i ≡ 10 * p → ⊥) → (i ≡ 10 * p + 6 → ⊥) → (i ≡ 10 * p + 8 → ⊥) → get_or (put_fact w p f) i 0 ≡ get_or w i 0
  unfolding put_fact
  fact_else i a b c = get_or-set_other second (10 * p + 8) i f.def 0 c ∙ get_or-set_other first (10 * p + 6) i (num f.member) 0 b ∙ get_or-set_other w (10 * p) i f.rec 0 a

-- ---- the first p positions

pub facts_none : (fs : List Fact) (w : List ℕ) → Facts fs w w 0
facts_none fs w = record { size = refl; rec = λ q h. absurd (omega arith); mark = λ q h. absurd (omega arith); wrote = λ q h. absurd (omega arith); rest = λ i h. refl }

module _ {fs : List Fact} {before after : List ℕ} {p : ℕ} (h : Facts fs before after p) where
  pub facts_more : {f : Fact} → p < 800 → 8000 ≤ length before → f ≡ get_or fs p no_fact → Facts fs before (put_fact after p f) (p + 1)
  facts_more {f} l k e =
      let long : 10 * p + 9 ≤ length after = omega (arith, h.size) in
      record {
        size = fact_size after p f ∙ h.size;
        rec = λ q i. ⊎_elim
            (λ (b : q < p). fact_else after p f (10 * q) (λ e. omega arith) (λ e. omega arith) (λ e. omega arith) ∙ h.rec q b)
            (λ (u : q ≡ p). subst (λ (z : ℕ). get_or (put_fact after p f) (10 * z) 0 ≡ (get_or fs z no_fact).rec) (sym u) (fact_rec after p f long ∙ ap (λ (x : Fact). x.rec) e)) (below_split q p i);
        mark = λ q i. ⊎_elim
            (λ (b : q < p). fact_else after p f (10 * q + 6) (λ e. omega arith) (λ e. omega arith) (λ e. omega arith) ∙ h.mark q b)
            (λ (u : q ≡ p). subst (λ (z : ℕ). get_or (put_fact after p f) (10 * z + 6) 0 ≡ num (get_or fs z no_fact).member) (sym u) (fact_mark after p f long ∙ ap (λ (x : Fact). num x.member) e)) (below_split q p i);
        wrote = λ q i. ⊎_elim
            (λ (b : q < p). fact_else after p f (10 * q + 8) (λ e. omega arith) (λ e. omega arith) (λ e. omega arith) ∙ h.wrote q b)
            (λ (u : q ≡ p). subst (λ (z : ℕ). get_or (put_fact after p f) (10 * z + 8) 0 ≡ (get_or fs z no_fact).def) (sym u) (fact_wrote after p f long ∙ ap (λ (x : Fact). x.def) e)) (below_split q p i);
        rest = λ i b. fact_else after p f i (λ e. omega arith) (λ e. omega arith) (λ e. omega arith) ∙ h.rest i (omega arith);
      }

  pub facts_behind : p ≤ 800 → drop 8000 after ≡ drop 8000 before
  facts_behind l =
      ext_get_or 0 (drop 8000 after) (drop 8000 before) (length-drop 8000 after ∙ ap (λ (k : ℕ). k - 8000) h.size ∙ sym (length-drop 8000 before))
      (λ i _. get_or-drop 8000 after i 0 ∙ h.rest (8000 + i) (omega arith) ∙ sym (get_or-drop 8000 before i 0))

pub facts_still : {fs : List Fact} {before after : List ℕ} → Facts fs before after 0 → after ≡ before
facts_still {fs} {before} {after} h = ext_get_or 0 after before h.size (λ i _. h.rest i (omega arith))
