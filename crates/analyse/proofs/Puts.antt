-- The fact of one position, and the state after it. Assumes nothing.
use mathlib.Core.List.{List, [], ◌∷◌, ◌++◌}
use mathlib.Core.Logic.{◌⊎◌, inl, inr}
use mathlib.Core.Path.{◌≡◌, sym, ap, ◌∙◌, subst}
use Prim.Native.Nat.{ℕ, ◌+◌, ◌≤◌, ◌<◌}
use native.Mathlib.Decide.{ℕ_discrete}
use native.Mathlib.Nat.{add-zero}
use native.Mathlib.Omega.{arith}
use lib.ListN.{get_or, length, set, length-set, length-append, get_or-append}
use lib.Seq.{get_or-append_seam, get_or-set_same, get_or-set_other}
use Rattle.model.specs.Kinds.{row, cat}
use Rattle.model.specs.Picture.{inst, kind, reads, writes}
use Rattle.model.specs.Analyse.{Facts, Fact, fact, no_fact}
use Rattle.facts.specs.declared.Fact as F
use Rattle.facts.specs.Marks as Marks
use Rattle.facts.specs.Marks.{fact_in}
use Rattle.analyse.specs.State.{Stands, State, Near, Safe}
use Rattle.analyse.specs.Step.{Learnable, Sized, Learned, Holds, Ran}

-- ---- what is known of one fact

-- a Cat's code is of a Cat
coded : {n : ℕ} {A : Type 0} → (n ≤ 2004) ⊎ ((n ≡ 4294967295) × A) → n ≡ 4294967295 → A
coded (inl h) q = absurd (omega arith)
coded (inr h) q = h.1

near_of : {recs ops : List ℕ} {g : ℕ} {x : F.Fact} → Sized recs ops g x → Near x
near_of {recs} {ops} {g} {x} s = record { org = s.org; wrote = s.wrote; from = go s.from }
  where
    go : {A : Type 0} → (x.from ≤ 2004) ⊎ ((x.from ≡ 4294967295) × A) → (x.from ≤ 2004) ⊎ (x.from ≡ 4294967295)
    go (inl h) = inl h
    go (inr h) = inr h.0

holds_of : {recs ops : List ℕ} {R g : ℕ} {x : F.Fact} → Sized recs ops g x → Learnable recs ops R g → Holds recs ops R x
holds_of {recs} {ops} {R} {g} {x} s good = record {
  good = subst (Learnable recs ops R) (sym s.number) good;
  cat = λ q. subst (λ (k : ℕ). (row (kind (inst recs k))).arm ≡ cat) (sym s.number) (coded s.from q);
  defs = λ q. ap (λ (k : ℕ). writes (inst recs k)) s.number ∙ s.defs q;
  reads = λ q. ap (λ (k : ℕ). reads ops (inst recs k)) s.number ∙ s.reads q;
}

-- ---- one position

module _ {recs ops regs regs' : List ℕ} {w : List F.Fact} {g p R : ℕ} {x : F.Fact} (safe : Safe R p regs w) (room : p < length w) (l : Learned recs ops regs regs' p R g x) (good : Learnable recs ops R g) where
  abbrev w' : List F.Fact
  w' = set w p x

  here : fact_in w' p ≡ x
  here = get_or-set_same w p x Marks.no_fact room

  other : (q : ℕ) → (q ≡ p → ⊥) → fact_in w' q ≡ fact_in w q
  other q z = get_or-set_other w p q x Marks.no_fact z

  module _ (G : Facts) (past : List Fact) (el : length past ≡ p) (s : State G past R regs w) where
    f : Fact
    f = fact G ops past (inst recs g)

    at : (q : ℕ) → q < length (past ++ (f ∷ [])) → Dec (q ≡ p) → Stands (fact_in w' q) (get_or (past ++ (f ∷ [])) q no_fact)
    unfolding f
    at q h (yes z) =
        subst (λ (k : ℕ). Stands (fact_in w' k) (get_or (past ++ (f ∷ [])) k no_fact)) (sym z)
        (subst (λ (y : F.Fact). Stands y (get_or (past ++ (f ∷ [])) p no_fact)) (sym here)
        (subst (Stands x) (sym (get_or-append_seam past f [] no_fact) ∙ ap (λ (k : ℕ). get_or (past ++ (f ∷ [])) k no_fact) el) (l.stands G past el s.marked)))
    at q h (no z) =
        let k : q < length past = omega (arith, length-append past (f ∷ []), h, z, el) in
        subst (Stands (fact_in w' q)) (sym (get_or-append past (f ∷ []) no_fact q k)) (subst (λ (y : F.Fact). Stands y (get_or past q no_fact)) (sym (other q z)) (s.each q k))

    goes_on : State G (past ++ (f ∷ [])) R regs' w'
    unfolding f
    goes_on = record { marked = l.marked G past el s.marked; each = λ q h. at q h (ℕ_discrete q p) }

  near_at : (q : ℕ) → q < p + 1 → Dec (q ≡ p) → Near (fact_in w' q)
  near_at q h (yes z) = subst Near (sym (ap (fact_in w') z ∙ here)) (near_of l.sized)
  near_at q h (no z) = subst Near (sym (other q z)) (safe.near q (omega (arith, h, z)))

  pub ran_one : Ran recs ops regs w regs' (set w p x) p R (g ∷ [])
  unfolding f
  ran_one = record {
    regs_size = l.size;
    size = length-set w p x;
    kept = l.kept;
    safe = record { ranged = l.ranged; near = λ q h. near_at q h (ℕ_discrete q p) };
    numbers = λ k h.
        let z : k ≡ 0 = omega arith in
        ap (λ (j : ℕ). (fact_in w' (p + j)).rec) z ∙ ap (λ (j : ℕ). (fact_in w' j).rec) (add-zero p) ∙ ap (λ (y : F.Fact). y.rec) here ∙ l.sized.number ∙ ap (λ (j : ℕ). get_or (g ∷ []) j 0) (sym z);
    holds = λ k h. let z : p + k ≡ p = omega arith in subst (Holds recs ops R) (sym (ap (fact_in w') z ∙ here)) (holds_of l.sized good);
    others = λ q h. other q (λ e. omega arith);
    state = λ G past el s. goes_on G past el s;
  }
