-- DEMAND 3: the theorem, for every number of rounds; and for the picture that the call leaves. Assumes nothing.
use mathlib.Core.Path.{◌≡◌, refl, sym, ap, ◌∙◌, subst}
use mathlib.Core.List.{List}
use mathlib.Core.Logic.{⊎_elim}
use Prim.Native.Nat.{ℕ, zero, suc, ◌+◌}
use native.Mathlib.Nat.{add-zero, zero-add, suc-add, add-suc, le_refl}
use lib.ListN.{length}
use Rattle.words.specs.Lists.{upto, concat}
use Rattle.words.proofs.Bools.{bool?}
use Rattle.model.specs.Picture.{Picture}
use Rattle.model.specs.Refusal.{refusal}
use Rattle.model.specs.Analyse.{Facts, facts}
use Rattle.model.specs.Move.{Plan, order, apply}
use Rattle.model.specs.declared.Answer.{Answer}
use Rattle.model.specs.declared.Answer.TheVariants.{Done, Short}
use Rattle.model.specs.Pass.{Outcome, used, rounds, ends_in, sink_all, most_rounds, gated, sink}
use Rattle.laws.proofs.Rounds.{Next, no_move, no_room, goes_on, next, sink_done, sink_short, sink_more, sink_gated, sink_through}
use Rattle.laws.proofs.Accepted.{Accepted, accepted}
use Rattle.walk.proofs.Whole.{demand}
use Rattle.kept.specs.Walk.{Stage, carried, stage, after, Keeps, Demand3}
use Rattle.kept.proofs.Stages.{stage_more}
use Rattle.kept.proofs.Program.{before, behind}
use Rattle.kept.proofs.Home.{own_places}
use Rattle.kept.proofs.Standing.{standing}
use Rattle.kept.proofs.Followed.{follows}

-- ---- what the call leaves is the picture after as many rounds as it says

-- from n rounds on: so many more were done, and the picture left is the one after them
record Left (G : Facts) (n : ℕ) (P : Picture) (was : List ℕ) (o : Outcome) : Type 0 where
  more : ℕ
  counted : rounds o.answer ≡ n + more
  left_is : o.left ≡ (stage G more P was).now

none_more : (G : Facts) (n : ℕ) (P : Picture) (was : List ℕ) (a : Answer) → rounds a ≡ n → Left G n P was (ends_in a P)
none_more G n P was a e = record { more = 0; counted = e ∙ sym (add-zero n); left_is = refl }

all_left : (G : Facts) (k n : ℕ) (P : Picture) (was : List ℕ) → Left G n P was (sink_all k n G P)
all_left G zero n P was = none_more G n P was (Done (used n P)) refl
all_left G (suc k) n P was = go (λ a. all_left G k (suc n) (apply P a) (carried was (concat (order P a)))) (next P G)
  where
    go : ((a : Plan) → Left G (suc n) (apply P a) (carried was (concat (order P a))) (sink_all k (suc n) G (apply P a))) → Next P G → Left G n P was (sink_all (suc k) n G P)
    go rec (no_move e) = subst (Left G n P was) (sym (sink_done k n G P e)) (none_more G n P was (Done (used n P)) refl)
    go rec (no_room a e f) = subst (Left G n P was) (sym (sink_short k n G P a e f)) (none_more G n P was (Short (used n P)) refl)
    go rec (goes_on a e f) =
        let l = rec a in
        subst (Left G n P was) (sym (sink_more k n G P a e f))
        (record { more = suc l.more; counted = l.counted ∙ suc-add n l.more ∙ sym (add-suc n l.more); left_is = l.left_is ∙ ap (λ (s : Stage). s.now) (sym (stage_more G l.more P was a e f)) })

pub left_after : (P : Picture) (w64 w32 nf : ℕ) → refusal P w64 w32 nf ≡ 0 → (sink P w64 w32 nf).left ≡ (after P (rounds (sink P w64 w32 nf).answer)).now
left_after P w64 w32 nf ok = ⊎_elim (λ e. subst Ends (sym (sink_gated P w64 w32 nf ok e)) refl) (λ e. subst Ends (sym (sink_through P w64 w32 nf ok e)) run) (bool? (gated P))
  where
    Ends : Outcome → Type 0
    Ends o = o.left ≡ (after P (rounds o.answer)).now

    run : Ends (sink_all most_rounds 0 (facts P) P)
    run =
        let l = all_left (facts P) most_rounds 0 P (upto (length P.locs)) in
        l.left_is ∙ ap (λ (k : ℕ). (after P k).now) (sym (l.counted ∙ zero-add l.more))

-- ---- DEMAND 3

module _ (P : Picture) (w64 w32 nf : ℕ) (accept : refusal P w64 w32 nf ≡ 0) where
  ok : Accepted P
  ok = accepted P w64 w32 nf accept

  pub kept_after : (k : ℕ) → Keeps P (after P k).now (after P k).was
  kept_after k =
      let s = standing P ok k in
      record {
        exactly_once = s.once;
        along = follows P (after P k).now (after P k).was ok s (demand (before P) (behind P (after P k).now (after P k).was) s.sunk (own_places P ok));
      }

-- for every accepted picture, every number of rounds up to those that the call says, and every walk
pub demand3 : Demand3
demand3 P w64 w32 nf k accept h = kept_after P w64 w32 nf accept k

-- and so of what the call leaves, in Done and in Short
pub kept_at_end : (P : Picture) (w64 w32 nf : ℕ) → refusal P w64 w32 nf ≡ 0 → Keeps P (sink P w64 w32 nf).left (after P (rounds (sink P w64 w32 nf).answer)).was
kept_at_end P w64 w32 nf accept =
    let k = rounds (sink P w64 w32 nf).answer in
    subst (λ (Q : Picture). Keeps P Q (after P k).was) (sym (left_after P w64 w32 nf accept)) (demand3 P w64 w32 nf k accept (le_refl k))
