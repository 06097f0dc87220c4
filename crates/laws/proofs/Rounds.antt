-- One round more of the call: there is no move, or it does not fit the room, or the rounds go on with the picture it leaves. Assumes nothing.
use Rattle.std.specs.Prelude.{Option, None, Some}
use mathlib.Core.Path.{◌≡◌, refl, sym, ap, ◌∙◌}
use mathlib.Core.Bool.{Bool, true, false}
use mathlib.Core.List.{List, [], ◌∷◌}
use Prim.Native.Nat.{ℕ, zero, suc}
use Rattle.words.specs.Lists.{count}
use Rattle.model.specs.Picture.{Picture}
use Rattle.model.specs.Refusal.{refusal}
use Rattle.model.specs.Numbered.{refusal_of}
use Rattle.model.specs.Analyse.{Facts, facts}
use Rattle.model.specs.Move.{Plan, apply}
use Rattle.model.specs.declared.Answer.TheVariants.{Done, Short, Refused}
use Rattle.model.specs.Pass.{Outcome, used, ends_in, after_line, round, fits, sink_all, most_rounds, gated, sink}

pub data Next (P : Picture) (G : Facts) : Type 0 where
  no_move : round P G ≡ None → Next P G
  no_room : (a : Plan) → round P G ≡ Some a → fits P (apply P a) ≡ false → Next P G
  goes_on : (a : Plan) → round P G ≡ Some a → fits P (apply P a) ≡ true → Next P G

pub next : (P : Picture) (G : Facts) → Next P G
next P G = go (round P G) refl
  where
    room : (a : Plan) → round P G ≡ Some a → (b : Bool) → fits P (apply P a) ≡ b → Next P G
    room a e true f = goes_on a e f
    room a e false f = no_room a e f

    go : (o : Option Plan) → round P G ≡ o → Next P G
    go None e = no_move e
    go (Some a) e = room a e (fits P (apply P a)) refl

-- the line of round n + 1
abbrev pub line_of : ℕ → Picture → Plan → List ℕ
line_of n P a = suc n ∷ a.x ∷ a.into ∷ count a.set ∷ (apply P a).regs ∷ (apply P a).opers ∷ []

module _ (k n : ℕ) (G : Facts) (P : Picture) where
  abbrev by_room : Plan → Bool → Outcome
  by_room a b = elim b as (λ z. Outcome) [ true ↦ after_line (line_of n P a) (sink_all k (suc n) G (apply P a)) | false ↦ ends_in (Short (used n P)) P ]

  abbrev by_plan : Option Plan → Outcome
  by_plan o = elim o as (λ z. Outcome) [ None ↦ ends_in (Done (used n P)) P | Some a ↦ by_room a (fits P (apply P a)) ]

  pub sink_done : round P G ≡ None → sink_all (suc k) n G P ≡ ends_in (Done (used n P)) P
  sink_done e = ap by_plan e

  pub sink_short : (a : Plan) → round P G ≡ Some a → fits P (apply P a) ≡ false → sink_all (suc k) n G P ≡ ends_in (Short (used n P)) P
  sink_short a e f = ap by_plan e ∙ ap (by_room a) f

  pub sink_more : (a : Plan) → round P G ≡ Some a → fits P (apply P a) ≡ true → sink_all (suc k) n G P ≡ after_line (line_of n P a) (sink_all k (suc n) G (apply P a))
  sink_more a e f = ap by_plan e ∙ ap (by_room a) f

-- ---- the call: refusals and gates, then the rounds

module _ (P : Picture) where
  abbrev gates : Bool → Outcome
  gates b = elim b as (λ z. Outcome) [ true ↦ ends_in (Done (used 0 P)) P | false ↦ sink_all most_rounds 0 (facts P) P ]

  abbrev by_refusal : ℕ → Outcome
  by_refusal n = elim n as (λ z. Outcome) [ suc n ↦ ends_in (Refused (refusal_of (suc n))) P | zero ↦ gates (gated P) ]

  by_cause : (n : ℕ) → (n ≡ 0 → ⊥) → by_refusal n ≡ ends_in (Refused (refusal_of n)) P
  by_cause zero h = absurd (h refl)
  by_cause (suc n) h = refl

  module _ (w64 w32 nf : ℕ) where
    pub sink_refused : (n : ℕ) → n ≡ refusal P w64 w32 nf → (n ≡ 0 → ⊥) → sink P w64 w32 nf ≡ ends_in (Refused (refusal_of n)) P
    sink_refused n e h = ap by_refusal (sym e) ∙ by_cause n h

    module _ (ok : refusal P w64 w32 nf ≡ 0) where
      pub sink_gated : gated P ≡ true → sink P w64 w32 nf ≡ ends_in (Done (used 0 P)) P
      sink_gated e = ap by_refusal ok ∙ ap gates e

      pub sink_through : gated P ≡ false → sink P w64 w32 nf ≡ sink_all most_rounds 0 (facts P) P
      sink_through e = ap by_refusal ok ∙ ap gates e
