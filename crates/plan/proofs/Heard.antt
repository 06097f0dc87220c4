-- The structs that `analyse` leaves of a chain are what the plan asks: they stand for the chain's facts, and their numbers are small.
-- Assumes nothing.
use mathlib.Core.Path.{◌≡◌, refl, sym, ap, ◌∙◌, subst}
use mathlib.Core.Logic.{⊎_elim}
use mathlib.Core.List.{List, [], map}
use Prim.Native.Nat.{ℕ, zero, suc, ◌/◌, ◌%◌, ◌≤◌, ◌<◌}
use native.Mathlib.Nat.{zero-add}
use native.Mathlib.Omega.{arith}
use lib.Dec.{eqb}
use lib.ListN.{get_or, length, take, length-map, get_or-eq_default}
use lib.Seq.{get_or-take, take_all, length-take-le}
use Rattle.words.proofs.Bools.{lt?}
use Rattle.words.proofs.Lists.{get_d_map}
use Rattle.model.specs.Picture.{Picture, inst}
use Rattle.model.specs.Analyse.{Facts, Known, unknown, Fact, analyse, known_of, last_writer}
use Rattle.model.specs.Move.{chain_places}
use Rattle.laws.proofs.Analysed.{length_analyse}
use Rattle.facts.specs.declared.Fact as F
use Rattle.chains.specs.declared.chain.Chain.{Chain}
use Rattle.chains.specs.Chain.{blocks_of}
use Rattle.regfacts.specs.Flags.{Seen, flags_of}
use Rattle.analyse.specs.State.{plain, State}
use Rattle.analyse.specs.Step.{Analysed}
use Rattle.analyse.proofs.Looked.{ro_bit, frame_bit}
use Rattle.legalset.specs.Chain.{place_at, writer, defs_of, view, Safe, Brief, Told}
use Rattle.legalset.proofs.Lasting.{writer_is}
use Rattle.summary.specs.Passes.{Ended}
use Rattle.plan.proofs.Telling as telling
use Rattle.plan.proofs.Telling.{Heard}

-- ---- the whole chain

same_place : (a b : ℕ) → place_at a ≡ place_at b → a ≡ b
unfolding place_at
same_place zero zero e = refl
same_place zero (suc b) e = let z : ◌≡◌ {A = ℕ} 0 1 = cc in absurd (omega arith)
same_place (suc a) zero e = let z : ◌≡◌ {A = ℕ} 0 1 = cc in absurd (omega arith)
same_place (suc a) (suc b) e = cc

module _ {recs ops regs : List ℕ} {w : List F.Fact} {bounds : List ℕ} {c : Chain} {R n : ℕ} {regs' : List ℕ} {w' : List F.Fact} (a : Analysed recs ops regs w bounds c R n regs' w') where
  pub safe : Safe recs ops w' n R
  safe = record {
    few = a.short;
    good = λ p h. (a.holds p h).good.good;
    org = λ p h. (a.safe.near p h).org;
    wrote = λ p h. (a.safe.near p h).wrote;
    from = λ p h. (a.safe.near p h).from;
  }

  pub brief : Brief recs ops w' n
  brief = record {
    defs = λ p h z. (a.holds p h).defs z;
    reads = λ p h z. (a.holds p h).reads z;
  }

  module _ (P : Picture) (eb : P.bounds ≡ bounds) (G : Facts) (seen : Seen G R regs) (copy : List ℕ) (ec : copy ≡ map plain (take R regs')) where
    abbrev places : List ℕ
    places = chain_places P (blocks_of c)

    abbrev run : List Fact
    run = analyse G ops [] (map (inst recs) places)

    state : State G run R regs' w'
    state = a.state P eb G seen

    long : length run ≡ n
    long = length_analyse G ops [] (map (inst recs) places) ∙ zero-add (length (map (inst recs) places)) ∙ length-map places (inst recs) ∙ sym (a.positions P eb)

    long_enough : length (take R regs') ≡ R
    long_enough = length-take-le R regs' a.safe.ranged.in_use

    size : length copy ≡ R
    size = ap length ec ∙ length-map (take R regs') plain ∙ long_enough

    copied : (r : ℕ) → r < R → get_or copy r 0 ≡ plain (get_or regs' r 0)
    copied r h = ap (λ (l : List ℕ). get_or l r 0) ec ∙ get_d_map plain 0 0 (take R regs') r (omega (arith, long_enough)) ∙ ap plain (get_or-take R regs' r 0 h)

    flags : (r : ℕ) → r < R → get_or copy r 0 % 16 ≡ flags_of (known_of G r)
    flags r h = let e = copied r h in let f = state.marked.seen.flags r h in omega (arith, e, f)

    -- a register past the last has no facts
    nothing : (r : ℕ) → R ≤ r → (get_or copy r 0 ≡ 0) × (known_of G r ≡ unknown)
    nothing r h = (get_or-eq_default copy 0 (omega (arith, size)), get_or-eq_default G unknown (omega (arith, seen.size)))

    pub heard : Heard G recs ops w' copy (chain_places P (blocks_of c)) (analyse G ops [] (map (inst recs) (chain_places P (blocks_of c))))
    heard = record {
      is_run = refl;
      numbers = λ k h. a.numbers P eb k (subst (λ (x : ℕ). k < x) (sym (a.positions P eb)) h);
      stands = λ p h. state.each p (subst (λ (x : ℕ). p < x) (sym (long ∙ a.positions P eb)) h);
      cat = λ p h e. let z = a.holds p (subst (λ (x : ℕ). p < x) (sym (a.positions P eb)) h) in (z.cat e, z.good.three (z.cat e));
      ro = λ r. ⊎_elim (λ (h : r < R). ro_bit (known_of G r) (get_or copy r 0) (flags r h))
          (λ (h : R ≤ r). ap (λ (x : ℕ). eqb (x % 2) 1) (nothing r h).0 ∙ sym (ap (λ (k : Known). k.ro) (nothing r h).1)) (lt? r R);
      frame = λ r. ⊎_elim (λ (h : r < R). frame_bit (known_of G r) (get_or copy r 0) (flags r h))
          (λ (h : R ≤ r). ap (λ (x : ℕ). eqb (x / 2 % 2) 1) (nothing r h).0 ∙ sym (ap (λ (k : Known). k.frame) (nothing r h).1)) (lt? r R);
    }

    pub told : Told recs ops w' copy n (analyse G ops [] (map (inst recs) (chain_places P (blocks_of c))))
    told = subst (λ (x : ℕ). Told recs ops w' copy x run) (sym (a.positions P eb)) (telling.told heard)

    pub ended : Ended recs w' n copy
    ended = record {
      each = λ r h.
          let l : r < R = subst (λ (x : ℕ). r < x) size h in
          let e : get_or copy r 0 / 16 ≡ get_or regs' r 0 / 16 % 1024 = omega (arith, copied r l) in
          e ∙ same_place (get_or regs' r 0 / 16 % 1024) (writer (defs_of recs w') r n)
          (state.marked.writer r l ∙ ap (λ (fs : List Fact). last_writer 0 fs r) (sym (take_all n run (omega (arith, long)))) ∙ writer_is (view recs ops w' copy) n run told.stands r n (omega arith));
    }
