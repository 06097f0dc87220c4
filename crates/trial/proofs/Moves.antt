-- The answers of `toward_f` and `found`; the first target that has a plan, or none. Assumes nothing.
use Rattle.std.specs.Prelude.{Option, Some, None}
use mathlib.Core.Path.{◌≡◌, refl, sym, ap, ◌∙◌, subst}
use mathlib.Core.Logic.{⊎_elim}
use mathlib.Core.Bool.{Bool, cond}
use mathlib.Core.List.{List}
use Prim.Native.Nat.{ℕ, ◌*◌, ◌≤◌, ◌<◌}
use native.Mathlib.Omega.{arith}
use borrow.Author.Tests.{lt-ltb, le-ltb, ne_eqb}
use lib.Dec.{ltb}
use lib.ListN.{get_or, length}
use Rattle.words.specs.Lists.{count}
use Rattle.model.specs.Picture.{Picture}
use Rattle.model.specs.Analyse.{Facts}
use Rattle.model.specs.Move.{Plan, chain_places, run_of}
use Rattle.laws.proofs.Planned as laws
use Rattle.facts.specs.declared.Fact.{Fact}
use Rattle.chains.specs.declared.chain.Chain.{Chain}
use Rattle.chains.specs.Chain.{blocks_of}
use Rattle.sizes.specs.declared.Sizes.{Sizes}
use Rattle.inst.specs.declared.index.BlockId.{BlockId}
use Rattle.apply.specs.declared.moves.Move.{Move}
use Rattle.trial.specs.declared.target.Goal.{Goal}
use Rattle.chainwords.specs.Work.{chain_words, Lists, Tabled, Held}
use Rattle.chainwords.specs.Along.{Along, FromX, Marked}
use Rattle.chains.specs.Chain.{chain_in}
use Rattle.trial.specs.Target.{plan_toward, TargetTried}
use Rattle.trial.specs.Trial.{toward_f, found}
use Rattle.trial.proofs.Planned.{along_behind, lists_of, some_or}

-- ---- `toward_f`

-- some move into t: none is wanted
pub toward_none : (g : Goal) (k : ℕ) → (k ≡ 0 → ⊥) → record { into = g.other; other = g.into; least = 0; inside = g.inside; places = g.places } ≡ toward_f g k
toward_none g k e = ap (λ (b : Bool). record { into = g.other; other = g.into; least = cond b g.least 0; inside = g.inside; places = g.places }) (sym (ne_eqb k 0 e))

-- ---- `found`

module _ (x : BlockId) (g : Goal) (k l : ℕ) where
  abbrev in_t : Option Move
  in_t = Some (record { from = x; into = g.into; inside = g.inside; places = g.places; moved = k })

  abbrev in_f : Option Move
  in_f = Some (record { from = x; into = g.other; inside = g.inside; places = g.places; moved = l })

  pub found_t : 0 < k → in_t ≡ found x g k l
  unfolding found
  found_t h = ap (λ (b : Bool). cond b in_t (cond (ltb 0 l) in_f None)) (sym (lt-ltb 0 k h))

  not_t : k ≤ 0 → cond (ltb 0 l) in_f None ≡ found x g k l
  unfolding found
  not_t h = ap (λ (b : Bool). cond b in_t (cond (ltb 0 l) in_f None)) (sym (le-ltb 0 k h))

  pub found_f : k ≤ 0 → 0 < l → in_f ≡ found x g k l
  found_f h b = ap (λ (z : Bool). cond z in_f None) (sym (lt-ltb 0 l b)) ∙ not_t h

  pub found_none : k ≤ 0 → l ≤ 0 → None ≡ found x g k l
  found_none h b = ap (λ (z : Bool). cond z in_f None) (sym (le-ltb 0 l b)) ∙ not_t h

-- ---- the move along chain c, into t or else into f

-- the first plan, or else the second
abbrev pub first_of : Option Plan → Option Plan → Option Plan
first_of p q = elim p [ Some a ↦ Some a | None ↦ q ]

-- the plan for t, with which g is tried, or else that for f
abbrev pub plan_in : Picture → Facts → ℕ → Chain → Goal → Option Plan
plan_in P G x c g = first_of (plan_toward P G x c g) (plan_toward P G x c (toward_f g 0))

-- the move mv is that plan, and the words say so
pub record Moves (P : Picture) (G : Facts) (x : ℕ) (c : Chain) (g : Goal) (mv : Move) (w : List ℕ) : Type 0 where
  pub a : Plan
  pub is : plan_in P G x c g ≡ Some a
  pub from_is : mv.from.0 ≡ x
  pub into_is : mv.into.0 ≡ a.into
  pub moved_is : mv.moved ≡ count a.set
  pub inside_is : mv.inside ≡ g.inside
  pub places_is : mv.places ≡ g.places
  pub marked : Marked P a g.inside g.places w
  pub numbers : (k : ℕ) → k < g.places → get_or w (10 * k) 0 ≡ get_or (chain_places P (blocks_of c)) k 0

abbrev pub MovesBy : Picture → Facts → ℕ → Chain → Goal → Option Move → List ℕ → Type 0
MovesBy P G x c g (Some mv) w = Moves P G x c g mv w
MovesBy P G x c g None w = plan_in P G x c g ≡ None

first_some : {p : Option Plan} (q : Option Plan) {a : Plan} → p ≡ Some a → first_of p q ≡ Some a
first_some q e = ap (λ (o : Option Plan). first_of o q) e

first_none : {p : Option Plan} (q : Option Plan) → p ≡ None → first_of p q ≡ q
first_none q e = ap (λ (o : Option Plan). first_of o q) e

-- ---- t is tried, then f

module _ {bounds recs ops pairs targets : List ℕ} {s : Sizes} {c : Chain} {w : List Fact} {work64 work32 : List ℕ} {g : Goal} {k l : ℕ} {work64' work32' work64'' work32'' : List ℕ} (p : TargetTried bounds recs ops pairs targets s c w work64 work32 g work64' work32' k)
    (q : TargetTried bounds recs ops pairs targets s c w work64' work32' (toward_f g k) work64'' work32'' l) where
  pub held_both : (P : Picture) (G : Facts) → Lists P bounds recs ops s (length work64) (length work32) → Tabled P pairs targets → Held P G work64 work32 → Held P G work64'' work32''
  held_both P G r u d = q.held P G (lists_of p.size64 p.size32 r) u (p.held P G r u d)

  module _ (some? : 0 < g.least) (P : Picture) (G : Facts) (x : ℕ) (r : Lists P bounds recs ops s (length work64) (length work32)) (u : Tabled P pairs targets) (d : Held P G work64 work32)
      (a : Along P G c w work32 g.places) (f : FromX P c x g.inside) (from : BlockId) (here : from.0 ≡ x) where
    abbrev IsAnswer : Option Move → Type 0
    IsAnswer v = MovesBy P G x c g v (chain_words work32'')

    -- the plan is for the target's block
    into_it : (h : Goal) {v : Plan} → plan_toward P G x c h ≡ Some v → h.into.0 ≡ v.into
    into_it h {v} e = sym (laws.planned P (run_of P G (chain_in c)) x (chain_in c) h.least h.into.0 h.other.0 v e).into_is

    -- into t: the words stay as they are
    into_t : 0 < k → IsAnswer (found from g k l)
    into_t h =
        let z = p.some_is P G x r u d a f (λ y. omega arith) in
        let same : chain_words work32'' ≡ chain_words work32' = ap chain_words (q.still (q.unwanted (ap (λ (i : Goal). i.least) (sym (toward_none g k (λ y. omega arith)))))) in
        let it : IsAnswer (Some (record { from = from; into = g.into; inside = g.inside; places = g.places; moved = k })) =
        record {
          a = z.0;
          is = first_some (plan_toward P G x c (toward_f g 0)) z.1;
          from_is = here;
          into_is = into_it g z.1;
          moved_is = z.2;
          inside_is = refl;
          places_is = refl;
          marked = subst (Marked P z.0 g.inside g.places) (sym same) z.3;
          numbers = λ j b. ap (λ (v : List ℕ). get_or v (10 * j) 0) same ∙ z.4 j b;
        } in
        subst IsAnswer (found_t from g k l h) it

    -- not into t: f is tried with the same fewest
    module _ (k0 : k ≡ 0) where
      no_t : plan_in P G x c g ≡ plan_toward P G x c (toward_f g k)
      no_t = first_none (plan_toward P G x c (toward_f g 0)) (p.none_is some? P G x r u d a f k0) ∙ ap (λ (y : ℕ). plan_toward P G x c (toward_f g y)) (sym k0)

      into_f : 0 < l → IsAnswer (found from g k l)
      into_f h =
          let z = q.some_is P G x (lists_of p.size64 p.size32 r) u (p.held P G r u d) (along_behind p.behind a) f (λ y. omega arith) in
          let it : IsAnswer (Some (record { from = from; into = g.other; inside = g.inside; places = g.places; moved = l })) =
          record {
            a = z.0;
            is = no_t ∙ z.1;
            from_is = here;
            into_is = into_it (toward_f g k) z.1;
            moved_is = z.2;
            inside_is = refl;
            places_is = refl;
            marked = z.3;
            numbers = z.4;
          } in
          subst IsAnswer (found_f from g k l (omega arith) h) it

      neither : l ≡ 0 → IsAnswer (found from g k l)
      neither l0 =
          let it : plan_in P G x c g ≡ None =
          no_t
          ∙ q.none_is (subst (λ (y : ℕ). 0 < (toward_f g y).least) (sym k0) some?) P G x (lists_of p.size64 p.size32 r) u (p.held P G r u d) (along_behind p.behind a) f l0 in
          subst IsAnswer (found_none from g k l (omega arith) (omega arith)) it

    pub first_plan : IsAnswer (found from g k l)
    first_plan = ⊎_elim (λ (k0 : k ≡ 0). ⊎_elim (neither k0) (into_f k0) (some_or l)) into_t (some_or k)
