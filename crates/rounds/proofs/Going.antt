-- Where the call stands between two rounds (01, "A round"): what a round asks there, and how the call goes on from it, with a move, for
-- want of room, or at its end. Assumes nothing.
use mathlib.Core.Path.{◌≡◌, refl, sym, ap, ap₂, ◌∙◌, subst}
use mathlib.Core.Bool.{Bool, true, false, cond}
use mathlib.Core.List.{List, [], ◌∷◌, ◌++◌, append_assoc, append-nil}
use Prim.Native.Nat.{ℕ, suc, ◌+◌, ◌*◌, ◌-◌, ◌/◌, ◌<◌}
use native.Mathlib.Numerals.{add-one}
use native.Mathlib.Omega.{arith}
use lib.Dec.{ltb}
use lib.ListN.{length, take, replicate, take-append-drop}
use borrow.Author.Tests.{ltb-true, ltb-false}
use Rattle.words.specs.Lists.{concat}
use Rattle.std.specs.declared.ops.ControlFlow.{ControlFlow}
use Rattle.std.specs.declared.ops.ControlFlow.TheVariants.{Continue, Break}
use Rattle.model.specs.declared.Used.{Used}
use Rattle.model.specs.declared.Answer.{Answer}
use Rattle.model.specs.declared.Answer.TheVariants as answer
use Rattle.model.specs.Picture.{Picture}
use Rattle.model.specs.Refusal.{refusal, records}
use Rattle.model.specs.Analyse.{facts}
use Rattle.model.specs.Move.{apply}
use Rattle.model.specs.Pass.{Outcome, used, rounds, ends_in, after_line, sink_all, sink, most_rounds}
use Rattle.laws.proofs.Keeps.{round-not_refused}
use Rattle.laws.proofs.Rounds.{line_of, sink_done, sink_short, sink_more}
use Rattle.checks.specs.Causes.{picture_of}
use Rattle.sizes.specs.declared.Sizes.{Sizes}
use Rattle.sizes.specs.Parts.{sizes_of}
use Rattle.apply.specs.Apply.{Holds}
use Rattle.chainwords.specs.Work.{Begun}
use Rattle.oneround.specs.declared.weigh.Line.{Line}
use Rattle.oneround.specs.declared.weigh.Step.{Step}
use Rattle.oneround.specs.declared.weigh.Step.TheVariants.{Ends, Goes, Short}
use Rattle.oneround.specs.Make.{IsNext}
use Rattle.oneround.specs.Round.{Open, Stepped}
use Rattle.oneround.proofs.Kept.{holds_is}
use Rattle.rounds.specs.declared.state.At.{At}
use Rattle.rounds.specs.declared.state.Ran.{Ran}
use Rattle.rounds.specs.Ended.{Did}
use Rattle.rounds.specs.State.{line_words, Advancing, next_at, last_ran, ended, advanced}
use Rattle.rounds.specs.Going.{Leads, Between, to_come}
use Rattle.rounds.proofs.Lines.{long_still, one_more, zero_still}

-- each slice is as long as it was
pub record Sized (P Q : Picture) : Type 0 where
  pub bounds : length Q.bounds ≡ length P.bounds
  pub recs : length Q.recs ≡ length P.recs
  pub locs : length Q.locs ≡ length P.locs
  pub vias : length Q.vias ≡ length P.vias
  pub types : length Q.types ≡ length P.types
  pub ops : length Q.ops ≡ length P.ops

-- at the end
done_of : {o : Outcome} {i : ℕ} {lines : List ℕ} {Q : Picture} (a : Answer) → Leads o i lines (ends_in a Q) → rounds a ≡ i
    → Did o a lines Q.bounds Q.recs Q.locs Q.vias Q.types Q.ops
done_of {o} {i} {lines} {Q} a l e = record {
  answer_is = sym l.answer_same;
  lines_are = sym (take-append-drop (6 * i) lines) ∙ ap₂ (λ (xs zs : List ℕ). xs ++ zs) (sym (append-nil (take (6 * i) lines)) ∙ sym l.lines_same) l.rest_zero
      ∙ ap (λ (n : ℕ). concat o.lines ++ replicate (48 - 6 * n) 0) (sym e);
  holds = subst (λ (Z : Picture). Holds Z Q.bounds Q.recs Q.locs Q.vias Q.types Q.ops) (sym l.left_same)
      (record { bounds_are = refl; recs_are = refl; locs_are = refl; vias_are = refl; types_are = refl; ops_are = refl });
}

-- ---- by what the call goes on, and by what it ends

abbrev at_end : Ran → ControlFlow Ran At
at_end r = Break r

on_if : (b : Bool) (n : At) (r : Ran) {q : At} → cond b (Continue n) (Break r) ≡ Continue q → (b ≡ true) × (n ≡ q)
on_if true n r e = (refl, cc)
on_if false n r e = absurd (let z : ⊥ = cc in z)

off_if : (b : Bool) (n : At) (r : Ran) {q : Ran} → cond b (Continue n) (Break r) ≡ Break q → (b ≡ false) × (r ≡ q)
off_if true n r e = absurd (let z : ⊥ = cc in z)
off_if false n r e = (refl, cc)

-- fewer rounds may come after a round
pub fewer : (m q : At) (r : Step) → m.rounds < most_rounds → advanced m r ≡ Continue q → to_come q < to_come m
fewer m q (Goes l) few e =
    subst (λ (z : At). to_come z < to_come m) (on_if (ltb (m.rounds + 1) most_rounds) (next_at m l) (last_ran m l) e).1 (omega arith)
fewer m q Short few e = absurd (let z : ⊥ = cc in z)
fewer m q Ends few e = absurd (let z : ⊥ = cc in z)

-- ---- a round is to be tried

module _ {P : Picture} {w64 w32 nf : ℕ} {Q : Picture} {m : At} {work64 work32 : List ℕ} (b : Between P w64 w32 nf Q m work64 work32) where
  pub opening : Open Q m.sizes work64 work32
  opening = record { accepted = b.accepted; sizes_are = b.sizes_are; G = facts P; begun = b.begun }

  pub advancing : Advancing m
  advancing = record { long = b.long; few = b.few }

  -- as many rounds are left as one and some more
  left_is : most_rounds - m.rounds ≡ suc (most_rounds - (m.rounds + 1))
  left_is = let f = b.few in omega arith

  leads_on : Leads (sink P w64 w32 nf) m.rounds m.lines (sink_all (suc (most_rounds - (m.rounds + 1))) m.rounds (facts P) Q)
  leads_on = subst (λ (k : ℕ). Leads (sink P w64 w32 nf) m.rounds m.lines (sink_all k m.rounds (facts P) Q)) left_is b.leads

  -- ---- it was tried, and came to r

  module _ {r : Step} {bounds recs locs vias types ops work64' work32' : List ℕ} (s : Stepped Q work64 work32 r bounds recs locs vias types ops work64' work32') where
    abbrev at_next : At → Picture
    at_next q = picture_of bounds recs locs vias types q.sizes.regs ops q.sizes.opers Q.pairs Q.targets Q.replay

    -- on to q
    abbrev On : At → Type 0
    On q = Between P w64 w32 nf (at_next q) q work64' work32'

    -- at the end
    abbrev Over : Ran → Type 0
    Over n = Did (sink P w64 w32 nf) n.answer n.lines bounds recs locs vias types ops

    abbrev Left : Picture → Type 0
    Left Z = Holds Z bounds recs locs vias types ops × Begun Z (facts P) work64' work32'

    -- with a move
    module _ (l : Line) (z : IsNext Q (Goes l) Left (facts P)) where
      abbrev q : At
      q = next_at m l

      here : at_next q ≡ apply Q z.0
      here = holds_is (apply Q z.0) z.4.0 z.3.registers_are z.3.operands_are

      line_is : line_words (m.rounds + 1) l ≡ line_of m.rounds Q z.0
      line_is = let w = z.3 in λ i. add-one m.rounds i ∷ w.from_is i ∷ w.into_is i ∷ w.moved_is i ∷ w.registers_are i ∷ w.operands_are i ∷ []

      lead : Leads (sink P w64 w32 nf) (m.rounds + 1) q.lines (sink_all (most_rounds - (m.rounds + 1)) (m.rounds + 1) (facts P) (at_next q))
      lead =
          let a = z.0 in
          let o = leads_on in
          let k = most_rounds - (m.rounds + 1) in
          let rest = sink_all k (m.rounds + 1) (facts P) (at_next q) in
          let e : sink_all (suc k) m.rounds (facts P) Q ≡ after_line (line_of m.rounds Q a) rest =
          sink_more k m.rounds (facts P) Q a z.1 z.2
          ∙ ap₂ (λ (i : ℕ) (Z : Picture). after_line (line_of m.rounds Q a) (sink_all k i (facts P) Z)) (sym (add-one m.rounds)) (sym here) in
          record {
            answer_same = o.answer_same ∙ ap (λ (y : Outcome). y.answer) e;
            left_same = o.left_same ∙ ap (λ (y : Outcome). y.left) e;
            lines_same = o.lines_same ∙ ap (λ (y : Outcome). take (6 * m.rounds) m.lines ++ concat y.lines) e
                ∙ sym (append_assoc (take (6 * m.rounds) m.lines) (line_of m.rounds Q a) (concat rest.lines))
                ∙ ap (λ (y : List ℕ). (take (6 * m.rounds) m.lines ++ y) ++ concat rest.lines) (sym line_is)
                ∙ ap (λ (y : List ℕ). y ++ concat rest.lines) (sym (one_more m.rounds l m.lines b.few b.long));
            rest_zero = zero_still m.rounds l m.lines b.few b.long o.rest_zero;
          }

      sizes_next : Sized Q (at_next q) → q.sizes ≡ sizes_of (at_next q)
      sizes_next sized =
          let e = b.sizes_are in
          λ i. record {
            blocks = (ap (λ (s : Sizes). s.blocks) e ∙ ap (λ (k : ℕ). k / 2) (sym sized.bounds)) i;
            insts = (ap (λ (s : Sizes). s.insts) e ∙ sym sized.locs) i;
            regs = l.registers;
            lent = (ap (λ (s : Sizes). s.lent) e ∙ sym sized.types) i;
            opers = l.operands;
          }

      accepted_next : refusal (at_next q) (length work64') (length work32') records ≡ 0
      accepted_next =
          subst (λ (Z : Picture). refusal Z (length work64') (length work32') records ≡ 0) (sym here)
          (ap₂ (λ (i j : ℕ). refusal (apply Q z.0) i j records) s.size64 s.size32 ∙ round-not_refused Q (facts P) z.0 (length work64) (length work32) records b.accepted z.1 z.2)

      moved_on : Sized Q (at_next q) → ltb (m.rounds + 1) most_rounds ≡ true → On q
      moved_on sized e = record {
        lent = b.lent;
        accepted = accepted_next;
        begun = subst (λ (Z : Picture). Begun Z (facts P) work64' work32') (sym here) z.4.1;
        few = ltb-true (m.rounds + 1) most_rounds e;
        long = long_still m.rounds l m.lines b.few b.long;
        sizes_are = sizes_next sized;
        leads = lead;
      }

      moved_last : ltb (m.rounds + 1) most_rounds ≡ false → Over (last_ran m l)
      moved_last e =
          let h = ltb-false (m.rounds + 1) most_rounds e in
          let y : most_rounds - (m.rounds + 1) ≡ 0 = omega arith in
          done_of (answer.Done (used (m.rounds + 1) (at_next q)))
          (subst (λ (k : ℕ). Leads (sink P w64 w32 nf) (m.rounds + 1) q.lines (sink_all k (m.rounds + 1) (facts P) (at_next q))) y lead) refl

    -- without one
    halts : (a : Answer) → Holds Q bounds recs locs vias types ops → sink_all (suc (most_rounds - (m.rounds + 1))) m.rounds (facts P) Q ≡ ends_in a Q → rounds a ≡ m.rounds → Over (ended m a)
    halts a h e n =
        let here : at_next m ≡ Q = holds_is Q h (ap (λ (s : Sizes). s.regs) b.sizes_are) (ap (λ (s : Sizes). s.opers) b.sizes_are) in
        subst (λ (Z : Picture). Did (sink P w64 w32 nf) a m.lines Z.bounds Z.recs Z.locs Z.vias Z.types Z.ops) (sym here)
        (done_of a (subst (Leads (sink P w64 w32 nf) m.rounds m.lines) e leads_on) n)

    used_is : used m.rounds Q ≡ record { rounds = m.rounds; registers = m.sizes.regs; operands = m.sizes.opers }
    used_is = λ i. record { rounds = m.rounds; registers = (sym b.sizes_are i).regs; operands = (sym b.sizes_are i).opers }

    next_is : IsNext Q r Left (facts P)
    next_is = s.is (facts P) b.begun

    -- the laws of the call's loop
    pub onward : (q : At) → Sized Q (at_next q) → advanced m r ≡ Continue q → On q
    onward q sized e = go r next_is e
      where
        go : (r : Step) → IsNext Q r Left (facts P) → advanced m r ≡ Continue q → On q
        go (Goes l) z e =
            let f = on_if (ltb (m.rounds + 1) most_rounds) (next_at m l) (last_ran m l) e in
            subst On f.1 (moved_on l z (subst (λ (p : At). Sized Q (at_next p)) (sym f.1) sized) f.0)
        go Short z e = absurd (let z : ⊥ = cc in z)
        go Ends z e = absurd (let z : ⊥ = cc in z)

    pub over : (n : Ran) → advanced m r ≡ Break n → Over n
    over n e = go r next_is e
      where
        k : ℕ
        k = most_rounds - (m.rounds + 1)

        same : {a : Ran} → Over a → at_end a ≡ Break n → Over n
        same {a} o f = let g : a ≡ n = cc in subst Over g o

        go : (r : Step) → IsNext Q r Left (facts P) → advanced m r ≡ Break n → Over n
        go (Goes l) z e =
            let f = off_if (ltb (m.rounds + 1) most_rounds) (next_at m l) (last_ran m l) e in
            subst Over f.1 (moved_last l z f.0)
        go Short z e = same (halts (answer.Short _) z.3.0 (sink_short k m.rounds (facts P) Q z.0 z.1 z.2 ∙ ap (λ (u : Used). ends_in (answer.Short u) Q) used_is) refl) e
        go Ends z e = same (halts (answer.Done _) z.1.0 (sink_done k m.rounds (facts P) Q z.0 ∙ ap (λ (u : Used). ends_in (answer.Done u) Q) used_is) refl) e
