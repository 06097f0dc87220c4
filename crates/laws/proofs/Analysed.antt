-- A chain's facts, position by position: each is that of its instruction after those before it, and so is the last writer.
-- Assumes nothing.
use Rattle.std.specs.Prelude.{Option, None, Some}
use mathlib.Core.Path.{◌≡◌, refl, sym, ap, ◌∙◌, subst}
use mathlib.Core.Bool.{Bool, true, false, cond}
use mathlib.Core.List.{List, [], ◌∷◌, ◌++◌, append_assoc, append-nil}
use Prim.Native.Nat.{ℕ, zero, suc, ◌+◌, ◌<◌}
use native.Mathlib.Nat.{not-suc-le-zero, le_of_suc-le-suc, suc-add, add-suc, add-zero, zero-add}
use native.Mathlib.Omega.{arith}
use lib.ListN.{get_or, length, take, length-append}
use lib.Seq.{get_or-append_seam, take-append_seam}
use Rattle.words.specs.Lists.{mem}
use Rattle.model.specs.Picture.{Inst}
use Rattle.model.specs.Analyse.{Facts, Fact, fact, no_fact, analyse, last_writer}
use Rattle.model.specs.Legal.{fact_at}

module _ (G : Facts) (ops : List ℕ) where
  -- what is there stays there
  goes_on : (past : List Fact) (is : List Inst) → (more : List Fact) × (analyse G ops past is ≡ past ++ more)
  goes_on past [] = ([], sym (append-nil past))
  goes_on past (i ∷ is) =
      let r = goes_on (past ++ fact G ops past i ∷ []) is in
      (fact G ops past i ∷ r.0, r.1 ∙ append_assoc past (fact G ops past i ∷ []) r.0)

  pub analysed : (past : List Fact) (is : List Inst) (k : ℕ) → k < length is
      → get_or (analyse G ops past is) (length past + k) no_fact ≡ fact G ops (take (length past + k) (analyse G ops past is)) (get_or is k [])
  analysed past [] k h = absurd (not-suc-le-zero h)
  analysed past (i ∷ is) zero h =
      let f = fact G ops past i in
      let r = goes_on (past ++ f ∷ []) is in
      let e : analyse G ops past (i ∷ is) ≡ past ++ f ∷ r.0 = r.1 ∙ append_assoc past (f ∷ []) r.0 in
      ap (λ (x : ℕ). get_or (analyse G ops past (i ∷ is)) x no_fact) (add-zero (length past))
      ∙ ap (λ (l : List Fact). get_or l (length past) no_fact) e ∙ get_or-append_seam past f r.0 no_fact
      ∙ sym (ap (λ (l : List Fact). fact G ops l i) (ap (λ (x : ℕ). take x (analyse G ops past (i ∷ is))) (add-zero (length past)) ∙ ap (take (length past)) e ∙ take-append_seam past (f ∷ r.0)))
  analysed past (i ∷ is) (suc k) h =
      let f = fact G ops past i in
      let n : length (past ++ f ∷ []) + k ≡ length past + suc k = ap (λ (x : ℕ). x + k) (length-append past (f ∷ []) ∙ add-suc (length past) 0 ∙ ap suc (add-zero (length past))) ∙ suc-add (length past) k ∙ sym (add-suc (length past) k) in
      subst (λ (x : ℕ). get_or (analyse G ops past (i ∷ is)) x no_fact ≡ fact G ops (take x (analyse G ops past (i ∷ is))) (get_or is k [])) n (analysed (past ++ f ∷ []) is k (le_of_suc-le-suc h))

-- the last writer, with one fact more
pub writer_snoc : (k : ℕ) (past : List Fact) (f : Fact) (r : ℕ) → last_writer k (past ++ f ∷ []) r ≡ cond (mem r f.defs) (Some (k + length past)) (last_writer k past r)
writer_snoc k [] f r = ap (λ (n : ℕ). cond (mem r f.defs) (Some n) None) (sym (add-zero k))
writer_snoc k (g ∷ past) f r =
    ap (λ (o : Option ℕ). elim o as (λ z. Option ℕ) [ Some q ↦ Some q | None ↦ cond (mem r g.defs) (Some k) None ]) (writer_snoc (suc k) past f r)
    ∙ go (mem r f.defs)
  where
    go : (b : Bool) → ◌≡◌ {A = Option ℕ} (elim (cond b (Some (suc k + length past)) (last_writer (suc k) past r)) as (λ z. Option ℕ) [ Some q ↦ Some q | None ↦ cond (mem r g.defs) (Some k) None ])
        (cond b (Some (k + suc (length past))) (last_writer k (g ∷ past) r))
    go true = ap Some (suc-add k (length past) ∙ sym (add-suc k (length past)))
    go false = refl

module _ (G : Facts) (ops : List ℕ) where
  pub length_analyse : (past : List Fact) (is : List Inst) → length (analyse G ops past is) ≡ length past + length is
  length_analyse past [] = sym (add-zero (length past))
  length_analyse past (i ∷ is) =
      length_analyse (past ++ fact G ops past i ∷ []) is ∙ ap (λ (n : ℕ). n + length is) (length-append past (fact G ops past i ∷ []))
      ∙ shift (length past) (length is)
    where
      shift : (a b : ℕ) → a + 1 + b ≡ a + suc b
      shift a b = omega arith

  pub fact_of : (is : List Inst) (k : ℕ) → k < length is → fact_at (analyse G ops [] is) k ≡ fact G ops (take k (analyse G ops [] is)) (get_or is k [])
  fact_of is k h = subst (λ (n : ℕ). get_or (analyse G ops [] is) n no_fact ≡ fact G ops (take n (analyse G ops [] is)) (get_or is k [])) (zero-add k) (analysed G ops [] is k h)
