-- Demand 3 of one round, and at the end of any number of rounds. Assumes nothing.
use Rattle.std.specs.Prelude.{Some}
use mathlib.Core.Path.{◌≡◌, refl, sym, ap, ◌∙◌, subst}
use mathlib.Core.Bool.{true}
use mathlib.Core.List.{List}
use Prim.Native.Nat.{ℕ, ◌+◌}
use native.Mathlib.Numerals.{add-one}
use lib.ListN.{length}
use Rattle.model.specs.Picture.{Picture}
use Rattle.model.specs.Refusal.{refusal, records}
use Rattle.model.specs.Analyse.{facts}
use Rattle.model.specs.Move.{Plan, apply}
use Rattle.model.specs.Pass as Pass
use Rattle.model.specs.Pass.{fits}
use Rattle.checks.specs.Causes.{picture_of}
use Rattle.apply.specs.Apply.{Holds}
use Rattle.kept.specs.Walk.{after, Keeps}
use Rattle.kept.proofs.Stages.{last_round}
use Rattle.kept.proofs.Answer.{kept_after}
use Rattle.chainwords.specs.Work.{Begun}
use Rattle.oneround.specs.declared.weigh.Step.{Step}
use Rattle.oneround.specs.declared.weigh.Step.TheVariants.{Ends, Goes, Short}
use Rattle.oneround.specs.Make.{IsNext}
use Rattle.oneround.specs.Round.{Stepped}
use Rattle.oneround.specs.Kept.{Kept, rounds_then, registers_then, operands_then, StepKept}

-- slices that hold a picture, with its counts and what is not touched, are it
pub holds_is : (Q : Picture) {bounds recs locs vias types ops : List ℕ} {R U : ℕ} → Holds Q bounds recs locs vias types ops → R ≡ Q.regs → U ≡ Q.opers
    → picture_of bounds recs locs vias types R ops U Q.pairs Q.targets Q.replay ≡ Q
holds_is Q h eR eU = λ i. record {
  bounds = h.bounds_are i;
  recs = h.recs_are i;
  locs = h.locs_are i;
  vias = h.vias_are i;
  types = h.types_are i;
  regs = eR i;
  ops = h.ops_are i;
  opers = eU i;
  pairs = Q.pairs;
  targets = Q.targets;
  replay = Q.replay;
}

-- for every accepted picture, at the end of any number of rounds
pub kept_of : (L Q : Picture) (n w64 w32 nf : ℕ) → refusal L w64 w32 nf ≡ 0 → Q ≡ (after L n).now → Kept L Q n
kept_of L Q n w64 w32 nf ok e = record {
  rounds_left = e;
  keeps = subst (λ (Z : Picture). Keeps L Z (after L n).was) (sym e) (kept_after L w64 w32 nf ok n);
  between = λ k h. kept_after L w64 w32 nf ok k;
}

-- what a round leaves of what n rounds left is what n + 1 leave
one_more : (L P : Picture) (n : ℕ) (a : Plan) → (after L n).now ≡ P → Pass.round P (facts L) ≡ Some a → fits P (apply P a) ≡ true → apply P a ≡ (after L (n + 1)).now
one_more L P n a e m f =
    ap (λ (Z : Picture). apply Z a) (sym e)
    ∙ sym (last_round (facts L) n L _ a (subst (λ (Z : Picture). Pass.round Z (facts L) ≡ Some a) (sym e) m) (subst (λ (Z : Picture). fits Z (apply Z a) ≡ true) (sym e) f))
    ∙ ap (λ (k : ℕ). (after L k).now) (sym (add-one n))

module _ {P : Picture} {work64 work32 : List ℕ} {r : Step} {bounds recs locs vias types ops work64' work32' : List ℕ} (s : Stepped P work64 work32 r bounds recs locs vias types ops work64' work32') where
  pub step_kept : StepKept P work64 work32 r (picture_of bounds recs locs vias types (registers_then r P.regs) ops (operands_then r P.opers) P.pairs P.targets P.replay)
  step_kept = record { kept = λ L n ok e b. go L n ok e r (s.is (facts L) b) }
    where
      go : (L : Picture) (n : ℕ) → refusal L (length work64) (length work32) records ≡ 0 → (after L n).now ≡ P → (r : Step) → IsNext P r (λ Q. Holds Q bounds recs locs vias types ops × Begun Q (facts L) work64' work32') (facts L)
          → Kept L (picture_of bounds recs locs vias types (registers_then r P.regs) ops (operands_then r P.opers) P.pairs P.targets P.replay) (rounds_then r n)
      go L n ok e (Goes l) z = kept_of L _ (n + 1) (length work64) (length work32) records ok (holds_is (apply P z.0) z.4.0 z.3.registers_are z.3.operands_are ∙ one_more L P n z.0 e z.1 z.2)
      go L n ok e Short z = kept_of L _ n (length work64) (length work32) records ok (holds_is P z.3.0 refl refl ∙ sym e)
      go L n ok e Ends z = kept_of L _ n (length work64) (length work32) records ok (holds_is P z.1.0 refl refl ∙ sym e)
