-- The number that the call comes to is small. Assumes nothing.
use mathlib.Core.Path.{◌≡◌, sym, subst}
use mathlib.Core.Bool.{Bool, true, false}
use Prim.Native.Nat.{ℕ, zero, suc, ◌+◌, ◌≤◌}
use native.Mathlib.Omega.{arith}
use Rattle.model.specs.declared.Answer.{Answer}
use Rattle.model.specs.declared.Answer.TheVariants.{Done, Refused}
use Rattle.model.specs.Picture.{Picture}
use Rattle.model.specs.Refusal.{refusal}
use Rattle.model.specs.Numbered.{refusal_of}
use Rattle.model.proofs.Numbers.{number_low}
use Rattle.model.specs.Analyse.{Facts, facts}
use Rattle.model.specs.Move.{Plan, apply}
use Rattle.model.specs.Pass.{Outcome, used, number, ends_in, sink_all, most_rounds, gated, sink}
use Rattle.laws.proofs.Rounds.{Next, no_move, no_room, goes_on, next, sink_done, sink_short, sink_more}

-- at most k rounds more
rounds_low : (k n : ℕ) (G : Facts) (P : Picture) → number (sink_all k n G P).answer ≤ 100 + n + k
rounds_low zero n G P = omega arith
rounds_low (suc k) n G P = go (λ a. rounds_low k (suc n) G (apply P a)) (next P G)
  where
    go : ((a : Plan) → number (sink_all k (suc n) G (apply P a)).answer ≤ 100 + suc n + k) → Next P G → number (sink_all (suc k) n G P).answer ≤ 100 + n + suc k
    go rec (no_move e) = subst (λ (o : Outcome). number o.answer ≤ 100 + n + suc k) (sym (sink_done k n G P e)) (omega arith)
    go rec (no_room a e f) = subst (λ (o : Outcome). number o.answer ≤ 100 + n + suc k) (sym (sink_short k n G P a e f)) (omega arith)
    go rec (goes_on a e f) = subst (λ (o : Outcome). number o.answer ≤ 100 + n + suc k) (sym (sink_more k n G P a e f)) (let h = rec a in omega arith)

module _ (P : Picture) (w64 w32 nf : ℕ) where
  abbrev by_gates : Bool → Outcome
  by_gates b = elim b as (λ z. Outcome) [ true ↦ ends_in (Done (used 0 P)) P | false ↦ sink_all most_rounds 0 (facts P) P ]

  abbrev by_refusal : ℕ → Outcome
  by_refusal n = elim n as (λ z. Outcome) [ suc n ↦ ends_in (Refused (refusal_of (suc n))) P | zero ↦ by_gates (gated P) ]

  gates_low : (b : Bool) → number (by_gates b).answer ≤ 300
  gates_low true = omega arith
  gates_low false = let h = rounds_low 8 0 (facts P) P in omega arith

  refusals_low : (n : ℕ) → number (by_refusal n).answer ≤ 300
  refusals_low zero = gates_low (gated P)
  refusals_low (suc n) = let h = number_low (refusal_of (suc n)) in omega arith

  -- the answer of the call
  pub answer_low : (r : Answer) → r ≡ (sink P w64 w32 nf).answer → number r ≤ 300
  answer_low r e = subst (λ (a : Answer). number a ≤ 300) (sym e) (refusals_low (refusal P w64 w32 nf))
