-- The call put together (01, "The call"): from the start through the loop to its end; and demand 3 of it. Assumes nothing.
use mathlib.Core.Path.{◌≡◌, refl, sym, ap, ◌∙◌, subst}
use mathlib.Core.List.{List, ◌++◌}
use mathlib.Core.Logic.{⊎_elim}
use Prim.Native.Nat.{ℕ, zero, suc, ◌*◌, ◌-◌}
use lib.ListN.{length, replicate}
use Rattle.words.specs.Lists.{concat}
use Rattle.words.proofs.Bools.{bool?}
use Rattle.std.specs.declared.ops.ControlFlow.{ControlFlow}
use Rattle.std.specs.declared.ops.ControlFlow.TheVariants.{Continue, Break}
use Rattle.model.specs.declared.Answer.{Answer}
use Rattle.model.specs.declared.Answer.TheVariants as answer
use Rattle.model.specs.Picture.{Picture}
use Rattle.model.specs.Refusal.{refusal}
use Rattle.model.specs.Analyse.{Facts, facts}
use Rattle.model.specs.Move.{Plan, apply}
use Rattle.model.specs.Pass.{Outcome, used, values, number, rounds, ends_in, gated, sink, sink_all, most_rounds}
use Rattle.laws.proofs.Rounds.{Next as NextRound, no_move, no_room, goes_on, sink_done, sink_short, sink_more, sink_gated, sink_through}
use Rattle.laws.proofs.Rounds as Rounds
use Rattle.checks.specs.Causes.{picture_of}
use Rattle.kept.specs.Walk as Walk
use Rattle.kept.proofs.Answer.{left_after}
use Rattle.facts.specs.declared.Fact.{Fact}
use Rattle.sizes.specs.declared.Sizes.{Sizes}
use Rattle.sizes.specs.Parts.{sizes_of}
use Rattle.rounds.specs.declared.state.At.{At}
use Rattle.rounds.specs.declared.state.Ran.{Ran}
use Rattle.sink.specs.Sink.{Lent, Coming, Finished, registers, operands}
use Rattle.rounds.specs.Ended.{Did, Work}
use Rattle.rounds.specs.State.{first_at}
use Rattle.rounds.specs.Going.{Between, IsStarted, Started}
use Rattle.oneround.specs.Kept.{Kept}
use Rattle.oneround.proofs.Kept.{holds_is, kept_of}

-- ---- the answer's counts are those of the picture left, and what a round does not touch is as it was

record Fair (P : Picture) (o : Outcome) : Type 0 where
  regs_are : registers o.answer ≡ o.left.regs
  opers_are : operands o.answer ≡ o.left.opers
  same_pairs : o.left.pairs ≡ P.pairs
  same_targets : o.left.targets ≡ P.targets
  same_replay : o.left.replay ≡ P.replay

fair_done : (P : Picture) (n : ℕ) → Fair P (ends_in (answer.Done (used n P)) P)
fair_done P n = record { regs_are = refl; opers_are = refl; same_pairs = refl; same_targets = refl; same_replay = refl }

fair_short : (P : Picture) (n : ℕ) → Fair P (ends_in (answer.Short (used n P)) P)
fair_short P n = record { regs_are = refl; opers_are = refl; same_pairs = refl; same_targets = refl; same_replay = refl }

all_fair : (G : Facts) (k n : ℕ) (P : Picture) → Fair P (sink_all k n G P)
all_fair G zero n P = fair_done P n
all_fair G (suc k) n P = go (λ a. all_fair G k (suc n) (apply P a)) (Rounds.next P G)
  where
    go : ((a : Plan) → Fair (apply P a) (sink_all k (suc n) G (apply P a))) → NextRound P G → Fair P (sink_all (suc k) n G P)
    go rec (no_move e) = subst (Fair P) (sym (sink_done k n G P e)) (fair_done P n)
    go rec (no_room a e f) = subst (Fair P) (sym (sink_short k n G P a e f)) (fair_short P n)
    go rec (goes_on a e f) =
        let z = rec a in
        subst (Fair P) (sym (sink_more k n G P a e f))
        (record { regs_are = z.regs_are; opers_are = z.opers_are; same_pairs = z.same_pairs; same_targets = z.same_targets; same_replay = z.same_replay })

fair : (P : Picture) (w64 w32 nf : ℕ) → refusal P w64 w32 nf ≡ 0 → Fair P (sink P w64 w32 nf)
fair P w64 w32 nf ok =
    ⊎_elim (λ e. subst (Fair P) (sym (sink_gated P w64 w32 nf ok e)) (fair_done P 0)) (λ e. subst (Fair P) (sym (sink_through P w64 w32 nf ok e)) (all_fair (facts P) most_rounds 0 P)) (bool? (gated P))

-- ---- the whole call: P is lent, with these work slices and this list

-- what `sink_all` promises (src/lib.rt)
abbrev pub Promised : (P : Picture) (work64 work32 : List ℕ) (fs : List Fact) (r : Ran) (bounds recs locs vias types ops work64' work32' : List ℕ) (fs' : List Fact) → Type 0
Promised P work64 work32 fs r bounds recs locs vias types ops work64' work32' fs' =
    let o = sink P (length work64) (length work32) (length fs) in
    let cause = refusal P (length work64) (length work32) (length fs) in
    (r.answer ≡ o.answer)
    × (number r.answer ≡ number o.answer)
    × (values r.answer ≡ values o.answer)
    × (r.lines ≡ concat o.lines ++ replicate (48 - 6 * rounds r.answer) 0)
    × (bounds ≡ o.left.bounds)
    × (recs ≡ o.left.recs)
    × (locs ≡ o.left.locs)
    × (vias ≡ o.left.vias)
    × (types ≡ o.left.types)
    × (ops ≡ o.left.ops)
    × Work cause work64 work32 work64' work32'
    × Lent cause fs fs'
    × (cause ≡ 0 → Kept P (picture_of bounds recs locs vias types (registers r.answer) ops (operands r.answer) P.pairs P.targets P.replay) (rounds r.answer))

-- what `here::sink_here` does, with n records of its own
abbrev pub PromisedHere : (P : Picture) (work64 work32 : List ℕ) (n : ℕ) (r : Ran) (bounds recs locs vias types ops work64' work32' : List ℕ) → Type 0
PromisedHere P work64 work32 n r bounds recs locs vias types ops work64' work32' =
    let o = sink P (length work64) (length work32) n in
    let cause = refusal P (length work64) (length work32) n in
    (r.answer ≡ o.answer)
    × (number r.answer ≡ number o.answer)
    × (values r.answer ≡ values o.answer)
    × (r.lines ≡ concat o.lines ++ replicate (48 - 6 * rounds r.answer) 0)
    × (bounds ≡ o.left.bounds)
    × (recs ≡ o.left.recs)
    × (locs ≡ o.left.locs)
    × (vias ≡ o.left.vias)
    × (types ≡ o.left.types)
    × (ops ≡ o.left.ops)
    × Work cause work64 work32 work64' work32'
    × (cause ≡ 0 → Kept P (picture_of bounds recs locs vias types (registers r.answer) ops (operands r.answer) P.pairs P.targets P.replay) (rounds r.answer))

module _ (P : Picture) (work64 work32 : List ℕ) (fs : List Fact) where
  abbrev o : Outcome
  o = sink P (length work64) (length work32) (length fs)

  -- demand 3
  call_kept : {a : Answer} {lines bounds recs locs vias types ops : List ℕ} → Did o a lines bounds recs locs vias types ops → refusal P (length work64) (length work32) (length fs) ≡ 0
      → Kept P (picture_of bounds recs locs vias types (registers a) ops (operands a) P.pairs P.targets P.replay) (rounds a)
  call_kept {a} {lines} {bounds} {recs} {locs} {vias} {types} {ops} d ok =
      let f = fair P (length work64) (length work32) (length fs) ok in
      let e : picture_of bounds recs locs vias types (registers a) ops (operands a) o.left.pairs o.left.targets o.left.replay ≡ o.left =
      holds_is o.left d.holds (ap registers d.answer_is ∙ f.regs_are) (ap operands d.answer_is ∙ f.opers_are) in
      let q : picture_of bounds recs locs vias types (registers a) ops (operands a) P.pairs P.targets P.replay
      ≡ picture_of bounds recs locs vias types (registers a) ops (operands a) o.left.pairs o.left.targets o.left.replay =
      λ i. picture_of bounds recs locs vias types (registers a) ops (operands a) (sym f.same_pairs i) (sym f.same_targets i) (sym f.same_replay i) in
      kept_of P _ (rounds a) (length work64) (length work32) (length fs) ok (q ∙ e ∙ left_after P (length work64) (length work32) (length fs) ok ∙ ap (λ (b : Answer). (Walk.after P (rounds b)).now) (sym d.answer_is))

  -- what the call gives at its end
  given : {r : Ran} {bounds recs locs vias types ops work64' work32' : List ℕ} {fs' : List Fact} → Did o r.answer r.lines bounds recs locs vias types ops
      → Work (refusal P (length work64) (length work32) (length fs)) work64 work32 work64' work32' → Lent (refusal P (length work64) (length work32) (length fs)) fs fs'
      → Promised P work64 work32 fs r bounds recs locs vias types ops work64' work32' fs'
  given d w l = (
    d.answer_is,
    ap number d.answer_is,
    ap values d.answer_is,
    d.lines_are,
    d.holds.bounds_are,
    d.holds.recs_are,
    d.holds.locs_are,
    d.holds.vias_are,
    d.holds.types_are,
    d.holds.ops_are,
    w,
    l,
    call_kept d,
  )

  module _ {v : ControlFlow Answer Sizes} {bits words : List ℕ} (s : Started P work64 work32 (length fs) v bits words) where
    abbrev Starts : ControlFlow Answer Sizes → Type 0
    Starts u = IsStarted P (length work64) (length work32) (length fs) u bits words

    -- no round was tried
    pub stopped : {a : Answer} → v ≡ Break a → Promised P work64 work32 fs (record { answer = a; lines = replicate 48 0 }) P.bounds P.recs P.locs P.vias P.types P.ops bits words fs
    stopped e = given (subst Starts e s.is) s.work (record { size = refl; kept = λ h. refl })

    -- what the start gives to the loop, and what the call then gives
    module _ {z : Sizes} (e : v ≡ Continue z) {q : At} (f : q ≡ first_at z) where
      starts : Starts (Continue z)
      starts = subst Starts e s.is

      abbrev Q : Picture
      Q = picture_of P.bounds P.recs P.locs P.vias P.types q.sizes.regs P.ops q.sizes.opers P.pairs P.targets P.replay

      same_sizes : q.sizes ≡ sizes_of P
      same_sizes = ap (λ (m : At). m.sizes) f ∙ starts.0

      where_it_is : P ≡ Q
      where_it_is =
          let e = sym same_sizes in
          λ i. picture_of P.bounds P.recs P.locs P.vias P.types (e i).regs P.ops (e i).opers P.pairs P.targets P.replay

      between : Between P (length work64) (length work32) (length fs) Q q bits words
      between = subst (λ (Z : Picture). Between P (length work64) (length work32) (length fs) Z q bits words) where_it_is
          (subst (λ (m : At). Between P (length work64) (length work32) (length fs) P m bits words) (sym f) starts.1)

      pub coming : Coming Q q bits words (length fs)
      coming = record { P = P; w64 = length work64; w32 = length work32; between = between }

      pub promised : {r : Ran} {bounds recs locs vias types ops work64' work32' : List ℕ} {fs' : List Fact}
          → Finished Q q bits words fs r.answer r.lines bounds recs locs vias types ops work64' work32' fs' → Promised P work64 work32 fs r bounds recs locs vias types ops work64' work32' fs'
      promised g =
          let ok = between.lent in
          given (g.did P (length work64) (length work32) between)
          (record { size64 = g.size64 ∙ s.work.size64; size32 = g.size32 ∙ s.work.size32; kept = λ h. absurd (h ok) })
          (record { size = g.size; kept = λ h. absurd (h ok) })
