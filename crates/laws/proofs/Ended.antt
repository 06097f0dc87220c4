-- 01, "A round": Done with fewer than 8 rounds, past the gates, means that no block has a move left. Assumes nothing.
use Rattle.std.specs.Prelude.{None}
use mathlib.Core.Path.{◌≡◌, sym, ap, subst}
use mathlib.Core.Bool.{true, false}
use Prim.Native.Nat.{ℕ, zero, suc, ◌+◌, ◌<◌}
use native.Mathlib.Nat.{add-zero, lt_irrefl}
use native.Mathlib.Omega.{arith}
use lib.Dec.{ltb}
use Rattle.words.specs.Lists.{upto}
use Rattle.words.proofs.Members.{in_range}
use Rattle.model.specs.declared.Used.{Used}
use Rattle.model.specs.declared.Answer.{Answer}
use Rattle.model.specs.declared.Answer.TheVariants.{Done, Short, Refused}
use Rattle.model.specs.Picture.{Picture, nblocks, size}
use Rattle.model.specs.Refusal.{refusal}
use Rattle.model.specs.Analyse.{Facts, facts}
use Rattle.model.specs.Move.{Plan, min_replay, try_block, apply}
use Rattle.model.specs.Pass.{Outcome, used, rounds, round, sink_all, most_rounds, gated, sink}
use Rattle.laws.proofs.Planned.{none_first}
use Rattle.laws.proofs.Rounds.{Next, no_move, no_room, goes_on, next, sink_done, sink_short, sink_more, sink_through}

-- no block of more than 3 instructions has a move
pub record Settled (P : Picture) (G : Facts) : Type 0 where
  pub all_still : (b : ℕ) → b < nblocks P → ltb min_replay (size P b) ≡ true → try_block P G b ≡ None

settled : (P : Picture) (G : Facts) → round P G ≡ None → Settled P G
settled P G e = record { all_still = λ b h l. none_first P G (upto (nblocks P)) e b (in_range b 0 (nblocks P) (omega arith) (omega arith)) l }

-- an answer that says Done with fewer than n rounds leaves nothing to move
abbrev Ends : ℕ → Facts → Outcome → Type 0
Ends n G o = (u : Used) → o.answer ≡ Done u → u.rounds < n → Settled o.left G

-- the rounds of a Done
done_rounds : (u v : Used) → Done u ≡ Done v → u.rounds ≡ v.rounds
done_rounds u v e = ap rounds e

not_done : (u v : Used) → Short u ≡ Done v → ⊥
not_done u v e = let z : ◌≡◌ {A = ℕ} 0 1 = ap is_done e in absurd (omega arith)
  where
    is_done : Answer → ℕ
    is_done (Done w) = 1
    is_done (Short w) = 0
    is_done (Refused n) = 0

all_ended : (k n : ℕ) (G : Facts) (P : Picture) → Ends (n + k) G (sink_all k n G P)
all_ended zero n G P = λ u e h. absurd (lt_irrefl n (subst (λ (m : ℕ). m < n) (sym (done_rounds (used n P) u e)) (subst (λ (m : ℕ). u.rounds < m) (add-zero n) h)))
all_ended (suc k) n G P = go (λ a. all_ended k (suc n) G (apply P a)) (next P G)
  where
    go : ((a : Plan) → Ends (suc n + k) G (sink_all k (suc n) G (apply P a))) → Next P G → Ends (n + suc k) G (sink_all (suc k) n G P)
    go r (no_move e) = subst (Ends (n + suc k) G) (sym (sink_done k n G P e)) (λ u f h. settled P G e)
    go r (no_room a e f) = subst (Ends (n + suc k) G) (sym (sink_short k n G P a e f)) (λ u e h. absurd (not_done (used n P) u e))
    go r (goes_on a e f) = subst (Ends (n + suc k) G) (sym (sink_more k n G P a e f)) (λ u e h. r a u e (omega arith))

pub ended : (P : Picture) (w64 w32 nf : ℕ) → refusal P w64 w32 nf ≡ 0 → gated P ≡ false
    → (u : Used) → (sink P w64 w32 nf).answer ≡ Done u → u.rounds < most_rounds → Settled (sink P w64 w32 nf).left (facts P)
ended P w64 w32 nf ok through = subst (Ends most_rounds (facts P)) (sym (sink_through P w64 w32 nf ok through)) (all_ended most_rounds 0 (facts P) P)
