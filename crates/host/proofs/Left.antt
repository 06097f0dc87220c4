-- What the call gives and leaves: the counts in use that its answer says, within what is lent; pairs, targets and replay as they were;
-- a line of six words for each round, at most eight; a small number. Assumes nothing.
use mathlib.Core.Path.{◌≡◌, refl, sym, ap, ◌∙◌, subst}
use mathlib.Core.Logic.{◌⊎◌, inl, inr, ⊎_elim}
use mathlib.Core.Bool.{true, false}
use mathlib.Core.List.{List, ◌++◌}
use Prim.Native.Nat.{ℕ, zero, suc, ◌+◌, ◌*◌, ◌-◌, ◌≤◌}
use native.Mathlib.Nat.{add-zero, suc-add, add-suc}
use native.Mathlib.Omega.{arith}
use lib.ListN.{length, replicate}
use Rattle.words.specs.Lists.{concat}
use Rattle.words.proofs.Bools.{bool?}
use Rattle.words.proofs.Each.{Each}
use Rattle.model.specs.declared.Answer.{Answer}
use Rattle.model.specs.declared.Answer.TheVariants.{Done, Short, Refused}
use Rattle.model.specs.Picture.{Picture}
use Rattle.model.specs.Refusal.{refusal}
use Rattle.model.specs.declared.Refusal.{Refusal}
use Rattle.model.specs.Numbered.{refusal_of}
use Rattle.model.proofs.Numbers.{number_low}
use Rattle.model.specs.Analyse.{Facts, facts}
use Rattle.model.specs.Move.{Plan, apply}
use Rattle.model.specs.Pass.{Outcome, used, rounds, number, ends_in, sink_all, most_rounds, gated, sink}
use Rattle.layout.specs.Layout.{picture_bytes, Fitting}
use Rattle.apply.specs.Apply.{Holds}
use Rattle.rounds.specs.declared.state.Ran.{Ran}
use Rattle.rounds.specs.Ended.{Did}
use Rattle.sink.specs.Sink.{registers, operands}
use Rattle.sink.proofs.Call.{PromisedHere}
use Rattle.host.specs.Host.{put_by, put_left, ran_by, RanAs, Roomy}
use Rattle.laws.proofs.Accepted.{Accepted, accepted}
use Rattle.laws.proofs.Sizes.{regs_lent, opers_lent}
use Rattle.laws.proofs.Keeps.{keeps}
use Rattle.laws.proofs.Rounds.{Next, no_move, no_room, goes_on, next, sink_done, sink_short, sink_more, sink_gated, sink_through, sink_refused}

-- the picture in these slices, with the registers and operands in use that the answer gives
abbrev pub left_of : (a : Answer) (bounds recs locs vias types ops pairs targets replay : List ℕ) → Picture
left_of a bounds recs locs vias types ops pairs targets replay =
    record {
      bounds = bounds;
      recs = recs;
      locs = locs;
      vias = vias;
      types = types;
      regs = registers a;
      ops = ops;
      opers = operands a;
      pairs = pairs;
      targets = targets;
      replay = replay;
    }

-- the tables stay as they were
pub record Same (P Q : Picture) : Type 0 where
  pub pairs_same : Q.pairs ≡ P.pairs
  pub targets_same : Q.targets ≡ P.targets
  pub replay_same : Q.replay ≡ P.replay

abbrev pub SixAre : List ℕ → Type 0
SixAre l = length l ≡ 6

-- from n rounds on, at most k more
pub record Went (k n : ℕ) (P : Picture) (o : Outcome) : Type 0 where
  pub more : ℕ
  pub few : more ≤ k
  pub says : (o.answer ≡ Done (used (n + more) o.left)) ⊎ (o.answer ≡ Short (used (n + more) o.left))
  pub many : length o.lines ≡ more
  pub sixes : Each SixAre o.lines
  pub same : Same P o.left
  pub regs_fit : o.left.regs ≤ length o.left.types
  pub opers_fit : o.left.opers ≤ length o.left.ops

module _ (k n : ℕ) (P : Picture) (ok : Accepted P) where
  ends : (a : Answer) → (a ≡ Done (used n P)) ⊎ (a ≡ Short (used n P)) → Went k n P (ends_in a P)
  ends a e = record {
    more = 0;
    few = omega arith;
    says = subst (λ (m : ℕ). (a ≡ Done (used m P)) ⊎ (a ≡ Short (used m P))) (sym (add-zero n)) e;
    many = refl;
    sixes = tt;
    same = record { pairs_same = refl; targets_same = refl; replay_same = refl };
    regs_fit = regs_lent P ok;
    opers_fit = opers_lent P ok;
  }

all_went : (k n : ℕ) (G : Facts) (P : Picture) → Accepted P → Went k n P (sink_all k n G P)
all_went zero n G P ok = ends 0 n P ok (Done (used n P)) (inl refl)
all_went (suc k) n G P ok = go (λ a r. all_went k (suc n) G (apply P a) r) (next P G)
  where
    go : ((a : Plan) → Accepted (apply P a) → Went k (suc n) (apply P a) (sink_all k (suc n) G (apply P a))) → Next P G → Went (suc k) n P (sink_all (suc k) n G P)
    go rec (no_move e) = subst (Went (suc k) n P) (sym (sink_done k n G P e)) (ends (suc k) n P ok (Done (used n P)) (inl refl))
    go rec (no_room a e f) = subst (Went (suc k) n P) (sym (sink_short k n G P a e f)) (ends (suc k) n P ok (Short (used n P)) (inr refl))
    go rec (goes_on a e f) =
        let l = rec a (keeps P G a ok e f) in
        let m = l.more in
        let o = sink_all k (suc n) G (apply P a) in
        let z : suc n + m ≡ n + suc m = suc-add n m ∙ sym (add-suc n m) in
        subst (Went (suc k) n P) (sym (sink_more k n G P a e f))
        record {
          more = suc m;
          few = (let h = l.few in omega arith);
          says = subst (λ (i : ℕ). (o.answer ≡ Done (used i o.left)) ⊎ (o.answer ≡ Short (used i o.left))) z l.says;
          many = ap suc l.many;
          sixes = (refl, l.sixes);
          same = record { pairs_same = l.same.pairs_same; targets_same = l.same.targets_same; replay_same = l.same.replay_same };
          regs_fit = l.regs_fit;
          opers_fit = l.opers_fit;
        }

-- ---- the call

-- the rounds went, or the picture was refused
pub data Came (P : Picture) (o : Outcome) : Type 0 where
  went : Went 8 0 P o → Came P o
  stopped : (r : Refusal) → o ≡ ends_in (Refused r) P → Came P o

module _ (P : Picture) (w64 w32 nf : ℕ) where
  through : refusal P w64 w32 nf ≡ 0 → (gated P ≡ true) ⊎ (gated P ≡ false) → Came P (sink P w64 w32 nf)
  through z (inl e) = subst (Came P) (sym (sink_gated P w64 w32 nf z e)) (went (ends 8 0 P (accepted P w64 w32 nf z) (Done (used 0 P)) (inl refl)))
  through z (inr e) = subst (Came P) (sym (sink_through P w64 w32 nf z e)) (went (all_went most_rounds 0 (facts P) P (accepted P w64 w32 nf z)))

  by_number : (n : ℕ) → refusal P w64 w32 nf ≡ n → Came P (sink P w64 w32 nf)
  by_number zero z = through z (bool? (gated P))
  by_number (suc n) z = stopped (refusal_of (suc n)) (sink_refused P w64 w32 nf (suc n) (sym z) (λ (q : suc n ≡ 0). omega arith))

  pub came : Came P (sink P w64 w32 nf)
  came = by_number (refusal P w64 w32 nf) refl

-- ---- what follows

module _ {P : Picture} {o : Outcome} where
  -- what holds of Done and Short holds of the answer
  said : (F : Answer → Type 0) (w : Went 8 0 P o) → F (Done (used (0 + w.more) o.left)) → F (Short (used (0 + w.more) o.left)) → F o.answer
  said F w d s = ⊎_elim (λ e. subst F (sym e) d) (λ e. subst F (sym e) s) w.says

  pub small : Came P o → number o.answer ≤ 300
  small (went w) = let h = w.few in said (λ a. number a ≤ 300) w (omega arith) (omega arith)
  small (stopped r e) = subst (λ (o : Outcome). number o.answer ≤ 300) (sym e) (let h = number_low r in omega arith)

  pub few_rounds : Came P o → rounds o.answer ≤ 8
  few_rounds (went w) = let h = w.few in said (λ a. rounds a ≤ 8) w (omega arith) (omega arith)
  few_rounds (stopped r e) = subst (λ (o : Outcome). rounds o.answer ≤ 8) (sym e) (omega arith)

  pub as_many : Came P o → length o.lines ≡ rounds o.answer
  as_many (went w) = let h = w.many in said (λ a. length o.lines ≡ rounds a) w (omega arith) (omega arith)
  as_many (stopped r e) = subst (λ (o : Outcome). length o.lines ≡ rounds o.answer) (sym e) refl

  pub sixes_each : Came P o → Each SixAre o.lines
  sixes_each (went w) = w.sixes
  sixes_each (stopped r e) = subst (λ (o : Outcome). Each SixAre o.lines) (sym e) tt

  regs_said : (w : Went 8 0 P o) → registers o.answer ≡ o.left.regs
  regs_said w = said (λ a. registers a ≡ o.left.regs) w refl refl

  opers_said : (w : Went 8 0 P o) → operands o.answer ≡ o.left.opers
  opers_said w = said (λ a. operands a ≡ o.left.opers) w refl refl

  module _ {bounds recs locs vias types ops : List ℕ} (h : Holds o.left bounds recs locs vias types ops) where
    regs_room : Came P o → registers o.answer ≤ length types
    regs_room (went w) = let e = regs_said w in let f = w.regs_fit in let t = ap length h.types_are in omega arith
    regs_room (stopped r e) = subst (λ (o : Outcome). registers o.answer ≤ length types) (sym e) (omega arith)

    opers_room : Came P o → operands o.answer ≤ length ops
    opers_room (went w) = let e = opers_said w in let f = w.opers_fit in let t = ap length h.ops_are in omega arith
    opers_room (stopped r e) = subst (λ (o : Outcome). operands o.answer ≤ length ops) (sym e) (omega arith)

    -- what the call leaves can be written
    pub fitting : Came P o → {a : Answer} → a ≡ o.answer → {n : ℕ} → Roomy bounds recs locs vias types ops P.pairs P.targets P.replay n
        → Fitting (left_of a bounds recs locs vias types ops P.pairs P.targets P.replay) n
    fitting k {a} e {n} m =
        let r : registers a ≤ length types = subst (λ (a : Answer). registers a ≤ length types) (sym e) (regs_room k) in
        let u : operands a ≤ length ops = subst (λ (a : Answer). operands a ≤ length ops) (sym e) (opers_room k) in
        record {
          bounds_fit = m.bounds_fit;
          recs_fit = m.recs_fit;
          locs_fit = m.locs_fit;
          vias_fit = m.vias_fit;
          regs_fit = omega (arith, m.types_fit);
          regs_lent = r;
          opers_fit = omega (arith, m.ops_fit);
          opers_lent = u;
          pairs_fit = m.pairs_fit;
          targets_fit = m.targets_fit;
          replay_fit = m.replay_fit;
          holds = m.holds;
        }

    left_is : (w : Went 8 0 P o) → left_of o.answer bounds recs locs vias types ops P.pairs P.targets P.replay ≡ o.left
    left_is w =
        λ z. record {
          bounds = h.bounds_are z;
          recs = h.recs_are z;
          locs = h.locs_are z;
          vias = h.vias_are z;
          types = h.types_are z;
          regs = regs_said w z;
          ops = h.ops_are z;
          opers = opers_said w z;
          pairs = sym w.same.pairs_same z;
          targets = sym w.same.targets_same z;
          replay = sym w.same.replay_same z;
        }

    put_is : Came P o → (result : List ℕ) → put_by o.answer (picture_bytes (left_of o.answer bounds recs locs vias types ops P.pairs P.targets P.replay)) result ≡ put_left o result
    put_is (went w) result = ap (λ (Q : Picture). put_by o.answer (picture_bytes Q) result) (left_is w)
    put_is (stopped r e) result =
        let bs = picture_bytes (left_of o.answer bounds recs locs vias types ops P.pairs P.targets P.replay) in
        subst (λ (o : Outcome). put_by o.answer bs result ≡ put_left o result) (sym e) refl

    -- and what is written is the picture left
    pub put_same : Came P o → {a : Answer} → a ≡ o.answer → (result : List ℕ)
        → put_by a (picture_bytes (left_of a bounds recs locs vias types ops P.pairs P.targets P.replay)) result ≡ put_left o result
    put_same k e result = ap (λ (a : Answer). put_by a (picture_bytes (left_of a bounds recs locs vias types ops P.pairs P.targets P.replay)) result) e ∙ put_is k result

-- what the call on P promises, of its outcome
pub did_of : (P : Picture) (work64 work32 : List ℕ) (n : ℕ) (r : Ran) {bounds recs locs vias types ops work64' work32' : List ℕ} → PromisedHere P work64 work32 n r bounds recs locs vias types ops work64' work32'
    → Did (sink P (length work64) (length work32) n) r.answer r.lines bounds recs locs vias types ops
did_of P work64 work32 n r p = record {
  answer_is = p.0;
  lines_are = p.3;
  holds = record { bounds_are = p.4; recs_are = p.5; locs_are = p.6; vias_are = p.7; types_are = p.8; ops_are = p.9 };
}

-- all of it, of the call on P
pub ran_of : (P : Picture) (w64 w32 nf : ℕ) {r : Ran} {bounds recs locs vias types ops result after : List ℕ} → Did (sink P w64 w32 nf) r.answer r.lines bounds recs locs vias types ops
    → after ≡ put_by r.answer (picture_bytes (left_of r.answer bounds recs locs vias types ops P.pairs P.targets P.replay)) result
    → RanAs (sink P w64 w32 nf) result r after
ran_of P w64 w32 nf {r} {result = result} d e =
    let o = sink P w64 w32 nf in
    let l : r.lines ≡ (ran_by o).lines = d.lines_are ∙ ap (λ (a : Answer). concat o.lines ++ replicate (48 - 6 * rounds a) 0) d.answer_is in
    record { ran_is = λ i. record { answer = d.answer_is i; lines = l i }; result_is = e ∙ put_same d.holds (came P w64 w32 nf) d.answer_is result }
