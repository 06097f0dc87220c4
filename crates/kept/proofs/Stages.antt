-- One round more of the pictures between rounds, case by case. Assumes nothing.
use Rattle.std.specs.Prelude.{Option, None, Some}
use mathlib.Core.Path.{◌≡◌, sym, ap, ◌∙◌, subst}
use mathlib.Core.Bool.{Bool, true, false}
use mathlib.Core.List.{List}
use Prim.Native.Nat.{ℕ, zero, suc}
use native.Mathlib.Omega.{arith}
use Rattle.words.specs.Lists.{concat}
use Rattle.words.proofs.Bools.{clash}
use Rattle.model.specs.Picture.{Picture}
use Rattle.model.specs.Analyse.{Facts}
use Rattle.model.specs.Move.{Plan, order, apply}
use Rattle.model.specs.Pass.{round, fits}
use Rattle.laws.proofs.Rounds.{Next, no_move, no_room, goes_on, next}
use Rattle.kept.specs.Walk.{Stage, carried, stage}

module _ (G : Facts) (k : ℕ) (P : Picture) (was : List ℕ) where
  abbrev pub here : Stage
  here = record { now = P; was = was }

  abbrev pub further : Plan → Stage
  further a = stage G k (apply P a) (carried was (concat (order P a)))

  abbrev by_room : Plan → Bool → Stage
  by_room a b = elim b as (λ z. Stage) [ true ↦ further a | false ↦ here ]

  abbrev by_plan : Option Plan → Stage
  by_plan o = elim o as (λ z. Stage) [ None ↦ here | Some a ↦ by_room a (fits P (apply P a)) ]

  pub stage_done : round P G ≡ None → stage G (suc k) P was ≡ here
  stage_done e = ap by_plan e

  pub stage_short : (a : Plan) → round P G ≡ Some a → fits P (apply P a) ≡ false → stage G (suc k) P was ≡ here
  stage_short a e f = ap by_plan e ∙ ap (by_room a) f

  pub stage_more : (a : Plan) → round P G ≡ Some a → fits P (apply P a) ≡ true → stage G (suc k) P was ≡ further a
  stage_more a e f = ap by_plan e ∙ ap (by_room a) f

-- ---- a round more at the end

not_none : (o : Option Plan) (a : Plan) → o ≡ None → o ≡ Some a → ⊥
not_none o a p q = let z : ◌≡◌ {A = ℕ} 0 1 = cc in omega arith

same_plan : (o : Option Plan) (a b : Plan) → o ≡ Some a → o ≡ Some b → a ≡ b
same_plan o a b p q = cc

-- what k + 1 rounds leave is what a round makes of what k leave
pub last_round : (G : Facts) (k : ℕ) (P : Picture) (was : List ℕ) (a : Plan) → round (stage G k P was).now G ≡ Some a → fits (stage G k P was).now (apply (stage G k P was).now a) ≡ true
    → (stage G (suc k) P was).now ≡ apply (stage G k P was).now a
last_round G zero P was a e f = ap (λ (s : Stage). s.now) (stage_more G zero P was a e f)
last_round G (suc k) P was a e f = go (λ b. last_round G k (apply P b) (carried was (concat (order P b))) a) (next P G)
  where
    Has : Picture → Type 0
    Has Q = (round Q G ≡ Some a) × (fits Q (apply Q a) ≡ true)

    has : Has (stage G (suc k) P was).now
    has = (e, f)

    go : ((b : Plan) → round (further G k P was b).now G ≡ Some a → fits (further G k P was b).now (apply (further G k P was b).now a) ≡ true → (further G (suc k) P was b).now ≡ apply (further G k P was b).now a)
        → Next P G → (stage G (suc (suc k)) P was).now ≡ apply (stage G (suc k) P was).now a
    go rec (no_move n) =
        let h : Has P = subst (λ (s : Stage). Has s.now) (stage_done G k P was n) has in
        absurd (not_none (round P G) a n h.0)
    go rec (no_room b r n) =
        let h : Has P = subst (λ (s : Stage). Has s.now) (stage_short G k P was b r n) has in
        clash h.1 (subst (λ (p : Plan). fits P (apply P p) ≡ false) (same_plan (round P G) b a r h.0) n)
    go rec (goes_on b r m) =
        let here_is = stage_more G k P was b r m in
        let h : Has (further G k P was b).now = subst (λ (s : Stage). Has s.now) here_is has in
        ap (λ (s : Stage). s.now) (stage_more G (suc k) P was b r m) ∙ rec b h.0 h.1 ∙ ap (λ (s : Stage). apply s.now a) (sym here_is)
