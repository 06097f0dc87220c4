-- Positions one after the other: runs put together. Assumes nothing.
use mathlib.Core.List.{List, [], ◌∷◌, ◌++◌, map}
use mathlib.Core.Logic.{◌⊎◌, inl, inr}
use mathlib.Core.Path.{◌≡◌, refl, sym, ap, ◌∙◌, subst}
use Prim.Native.Nat.{ℕ, ◌+◌, ◌-◌, ◌≤◌, ◌<◌}
use native.Mathlib.Nat.{add-zero, not-suc-le-zero}
use native.Mathlib.Omega.{arith}
use lib.ListN.{get_or, length, length-append, length-map, get_or-append}
use lib.Seq.{get_or-append-add}
use Rattle.words.proofs.Bools.{lt?}
use Rattle.words.proofs.Lists.{map_append}
use Rattle.model.specs.Picture.{Inst, inst}
use Rattle.model.specs.Analyse.{Facts, Fact, fact, analyse}
use Rattle.laws.proofs.Analysed.{length_analyse}
use Rattle.facts.specs.declared.Fact as F
use Rattle.facts.specs.Marks.{fact_in}
use Rattle.analyse.specs.State.{State, Safe}
use Rattle.analyse.specs.Step.{Holds, Ran}

-- ---- two runs are one

run_append : (G : Facts) (ops : List ℕ) (past : List Fact) (is js : List Inst) → analyse G ops past (is ++ js) ≡ analyse G ops (analyse G ops past is) js
run_append G ops past [] js = refl
run_append G ops past (i ∷ is) js = run_append G ops (past ++ fact G ops past i ∷ []) is js

pub ran_none : {R p : ℕ} {regs : List ℕ} {w : List F.Fact} (recs ops : List ℕ) → Safe R p regs w → Ran recs ops regs w regs w p R []
ran_none {R} {p} {regs} {w} recs ops s = record {
  regs_size = refl;
  size = refl;
  kept = λ r. refl;
  safe = subst (λ (n : ℕ). Safe R n regs w) (sym (add-zero p)) s;
  numbers = λ k h. absurd (not-suc-le-zero h);
  holds = λ k h. absurd (not-suc-le-zero h);
  others = λ q h. refl;
  state = λ G past e s. s;
}

module _ {recs ops regs regs₁ regs₂ xs ys : List ℕ} {w w₁ w₂ : List F.Fact} {p q R : ℕ} (a : Ran recs ops regs w regs₁ w₁ p R xs) (eq : q ≡ p + length xs) (b : Ran recs ops regs₁ w₁ regs₂ w₂ q R ys) where
  number : (k : ℕ) → k < length (xs ++ ys) → (k < length xs) ⊎ (length xs ≤ k) → (fact_in w₂ (p + k)).rec ≡ get_or (xs ++ ys) k 0
  number k h (inl l) = ap (λ (x : F.Fact). x.rec) (b.others (p + k) (omega (arith, eq))) ∙ a.numbers k l ∙ sym (get_or-append xs ys 0 k l)
  number k h (inr l) =
      let j : k - length xs < length ys = omega (arith, length-append xs ys, h) in
      let n : p + k ≡ q + (k - length xs) = omega (arith, eq) in
      let m : length xs + (k - length xs) ≡ k = omega arith in
      ap (λ (x : ℕ). (fact_in w₂ x).rec) n ∙ b.numbers (k - length xs) j ∙ sym (get_or-append-add xs ys (k - length xs) 0) ∙ ap (λ (x : ℕ). get_or (xs ++ ys) x 0) m

  held : (k : ℕ) → k < length (xs ++ ys) → (k < length xs) ⊎ (length xs ≤ k) → Holds recs ops R (fact_in w₂ (p + k))
  held k h (inl l) = subst (Holds recs ops R) (sym (b.others (p + k) (omega (arith, eq)))) (a.holds k l)
  held k h (inr l) =
      let j : k - length xs < length ys = omega (arith, length-append xs ys, h) in
      let n : q + (k - length xs) ≡ p + k = omega (arith, eq) in
      subst (λ (x : ℕ). Holds recs ops R (fact_in w₂ x)) n (b.holds (k - length xs) j)

  pub ran_append : Ran recs ops regs w regs₂ w₂ p R (xs ++ ys)
  ran_append = record {
    regs_size = b.regs_size ∙ a.regs_size;
    size = b.size ∙ a.size;
    kept = λ r. b.kept r ∙ a.kept r;
    safe = let n : q + length ys ≡ p + length (xs ++ ys) = omega (arith, eq, length-append xs ys) in subst (λ (k : ℕ). Safe R k regs₂ w₂) n b.safe;
    numbers = λ k h. number k h (lt? k (length xs));
    holds = λ k h. held k h (lt? k (length xs));
    others = λ k h. b.others k (omega (arith, eq)) ∙ a.others k h;
    state = λ G past e s.
        subst (λ (l : List Fact). State G l R regs₂ w₂) (sym (ap (analyse G ops past) (map_append (inst recs) xs ys) ∙ run_append G ops past (map (inst recs) xs) (map (inst recs) ys)))
        (b.state G (analyse G ops past (map (inst recs) xs)) (length_analyse G ops past (map (inst recs) xs) ∙ ap (λ (n : ℕ). n + length (map (inst recs) xs)) e ∙ ap (λ (n : ℕ). p + n) (length-map xs (inst recs)) ∙ sym eq) (a.state G past e s));
  }
