-- The facts along a whole chain, position by position. Assumes nothing.
use mathlib.Core.List.{List, [], ◌∷◌, ◌++◌, map, append-nil, append_assoc}
use mathlib.Core.Logic.{⊎_elim}
use mathlib.Core.Path.{◌≡◌, refl, sym, ap, ◌∙◌, subst}
use Prim.Native.Nat.{ℕ, ◌+◌, ◌/◌, ◌%◌, ◌≤◌, ◌<◌}
use native.Mathlib.Nat.{zero-add, not-suc-le-zero}
use native.Mathlib.Omega.{arith}
use lib.ListN.{get_or, length, set, length-append}
use Rattle.words.specs.Lists.{In}
use Rattle.words.proofs.Bools.{lt?}
use Rattle.words.proofs.Members.{in_mid}
use Rattle.model.specs.Picture.{Picture, inst}
use Rattle.model.specs.Analyse.{Facts, analyse}
use Rattle.model.specs.Move.{chain_places}
use Rattle.chains.specs.declared.chain.Chain.{Chain}
use Rattle.chains.specs.Chain.{blocks_of}
use Rattle.chains.specs.Positions.{bounded}
use Rattle.chains.proofs.Laid.{place_in}
use Rattle.facts.specs.declared.Fact as F
use Rattle.facts.specs.Marks.{fact_in, bare}
use Rattle.facts.proofs.Bare.{bare_put, length_bare}
use Rattle.regfacts.specs.Flags.{Seen}
use Rattle.analyse.specs.State.{place_at, State, Ranged, Safe}
use Rattle.analyse.specs.Step.{Forgot, Learnable, Learned, Holds, Ran, Ready, Analysed}
use Rattle.analyse.proofs.Puts.{ran_one}
use Rattle.analyse.proofs.Learned.{seen_kept}
use Rattle.analyse.proofs.Marking.{ranges_none}
use Rattle.analyse.proofs.Run.{ran_none, ran_append}

-- ---- before the first position

forgot_flags : {R : ℕ} {xs ys : List ℕ} → Forgot R xs ys → (r : ℕ) → get_or ys r 0 % 16 ≡ get_or xs r 0 % 16
forgot_flags {R} {xs} {ys} f r = ⊎_elim (λ (h : r < R). let e = f.low r h in omega (arith, e)) (λ (h : R ≤ r). ap (λ (x : ℕ). x % 16) (f.high r h)) (lt? r R)

none_yet : {R : ℕ} {xs ys : List ℕ} → Forgot R xs ys → (r : ℕ) → r < R → get_or ys r 0 < 16
none_yet f r h = let e = f.low r h in omega (arith, e)

no_writer : {R : ℕ} {xs ys : List ℕ} → Forgot R xs ys → (r : ℕ) → r < R → get_or ys r 0 / 16 % 1024 ≡ 0
no_writer f r h = let e = none_yet f r h in omega (arith, e)

fresh_state : {G : Facts} {R : ℕ} {xs ys : List ℕ} (w : List F.Fact) → Forgot R xs ys → Seen G R xs → State G [] R ys w
unfolding place_at
fresh_state w f s = record {
  marked = record { seen = seen_kept (forgot_flags f) s; writer = λ r h. ap place_at (no_writer f r h); left = λ r h d e. absurd (omega (arith, no_writer f r h, e)) };
  each = λ p h. absurd (not-suc-le-zero h);
}

-- ---- so many positions, and those that are left

pub record Chained (recs ops bounds : List ℕ) (c : Chain) (R : ℕ) (regs₀ : List ℕ) (w₀ : List F.Fact) (regs : List ℕ) (w : List F.Fact) (left : List ℕ) (p : ℕ) : Type 0 where
  pub places : List ℕ
  pub at : p ≡ length places
  pub ran : Ran recs ops regs₀ w₀ regs w 0 R places
  pub all : (P : Picture) → P.bounds ≡ bounds → places ++ left ≡ chain_places P (blocks_of c)

module _ {recs ops regs bounds : List ℕ} {facts : List F.Fact} {c : Chain} {R : ℕ} (y : Ready recs ops regs facts bounds c R) where
  abbrev bs : List ℕ
  bs = blocks_of c

  abbrev w : List F.Fact
  w = bare facts

  pub chained_none : {regs₀ left : List ℕ} → Forgot R regs regs₀ → ((P : Picture) → P.bounds ≡ bounds → left ≡ chain_places P bs) → Chained recs ops bounds c R regs₀ w regs₀ w left 0
  chained_none {regs₀} f all = record {
    places = [];
    at = refl;
    ran = ran_none recs ops (record {
      ranged = record {
        in_use = omega (arith, f.size, y.in_use);
        lent = omega (arith, f.size, y.lent);
        few = omega arith;
        each = λ r h. ranges_none 0 (get_or regs₀ r 0) (none_yet f r h);
      };
      near = λ p h. absurd (not-suc-le-zero h);
    });
    all = all;
  }

  safe_at : {regs₀ regs₁ left : List ℕ} {w₁ : List F.Fact} {p : ℕ} → Chained recs ops bounds c R regs₀ w regs₁ w₁ left p → Safe R p regs₁ w₁
  safe_at {regs₀} {regs₁} {left} {w₁} h = subst (λ (m : ℕ). Safe R m regs₁ w₁) (zero-add (length h.places) ∙ sym h.at) h.ran.safe

  module _ {regs₀ regs₁ left : List ℕ} {w₁ : List F.Fact} {p g : ℕ} {next : List ℕ} (h : Chained recs ops bounds c R regs₀ w regs₁ w₁ left p) (l : left ≡ g ∷ next) where
    there : (P : Picture) → P.bounds ≡ bounds → h.places ++ g ∷ next ≡ chain_places P bs
    there P e = ap (λ (m : List ℕ). h.places ++ m) (sym l) ∙ h.all P e

    pub few_yet : p < 800
    few_yet =
        let short = y.short (bounded bounds) refl in
        let a = ap length (there (bounded bounds) refl) in
        let b = length-append h.places (g ∷ next) in
        omega (arith, short, a, b, h.at)

    good_at : Learnable recs ops R g
    good_at = let z = place_in y.laid (bounded bounds) refl g (subst (In g) (there (bounded bounds) refl) (in_mid h.places g next)) in y.good z.0 g z.1 z.2

    pub learn_ready : Ranged R p regs₁ × Learnable recs ops R g × (p + 1 < 1000)
    learn_ready = ((safe_at h).ranged, good_at, omega (arith, few_yet))

    goes_on : {regs₂ : List ℕ} {w₂ : List F.Fact} → Ran recs ops regs₁ w₁ regs₂ w₂ p R (g ∷ []) → Chained recs ops bounds c R regs₀ w regs₂ w₂ next (p + 1)
    goes_on b = record {
      places = h.places ++ (g ∷ []);
      at = let a = length-append h.places (g ∷ []) in omega (arith, a, h.at);
      ran = ran_append h.ran (h.at ∙ sym (zero-add (length h.places))) b;
      all = λ P e. append_assoc h.places (g ∷ []) next ∙ there P e;
    }

  -- one more position: its fact is put where it belongs
  pub chained_more : {regs₀ regs₁ regs₂ left next : List ℕ} (gs : List F.Fact) {p g : ℕ} (h : Chained recs ops bounds c R regs₀ w regs₁ (bare gs) left p) (l : left ≡ g ∷ next) (f : F.Fact) → length gs ≡ length facts
      → Learned recs ops regs₁ regs₂ p R g f → Chained recs ops bounds c R regs₀ w regs₂ (bare (set gs p f)) next (p + 1)
  chained_more {regs₀} {regs₁} {regs₂} {left} {next} gs {p} {g} h l f size does =
      let few = few_yet h l in
      subst (λ (ws : List F.Fact). Chained recs ops bounds c R regs₀ w regs₂ ws next (p + 1)) (sym (bare_put gs p f does.sized.member))
      (goes_on h l (ran_one (safe_at h) (omega (arith, few, size, y.room, length_bare gs)) does (good_at h l)))

  pub chained_end : {regs₀ regs₁ left : List ℕ} {w₁ : List F.Fact} {p : ℕ} → Forgot R regs regs₀ → Chained recs ops bounds c R regs₀ w regs₁ w₁ left p → left ≡ [] → Analysed recs ops regs w bounds c R p regs₁ w₁
  chained_end {regs₀} {regs₁} {left} {w₁} {p} f h l = record {
    regs_size = h.ran.regs_size ∙ f.size;
    size = h.ran.size;
    kept = λ r. h.ran.kept r ∙ forgot_flags f r;
    safe = safe_at h;
    short = let s = y.short (bounded bounds) refl in omega (arith, s, h.at, ap length (all (bounded bounds) refl));
    holds = λ j q. subst (λ (m : ℕ). Holds recs ops R (fact_in w₁ m)) (zero-add j) (h.ran.holds j (omega (arith, q, h.at)));
    positions = λ P e. h.at ∙ ap length (all P e);
    numbers = λ P e j q. ap (λ (m : ℕ). (fact_in w₁ m).rec) (sym (zero-add j)) ∙ h.ran.numbers j (omega (arith, q, h.at)) ∙ ap (λ (m : List ℕ). get_or m j 0) (all P e);
    state = λ P e G s. subst (λ (m : List ℕ). State G (analyse G ops [] (map (inst recs) m)) R regs₁ w₁) (all P e) (h.ran.state G [] refl (fresh_state w f s));
  }
    where
      all : (P : Picture) → P.bounds ≡ bounds → h.places ≡ chain_places P bs
      all P e = sym (append-nil h.places) ∙ ap (λ (m : List ℕ). h.places ++ m) (sym l) ∙ h.all P e
