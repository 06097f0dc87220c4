-- `take_aim`: what it asks of its callees, and that the row is that of the registers needed elsewhere; `taken`. Assumes nothing.
use mathlib.Core.Path.{◌≡◌, refl, sym, ap, ap₂, ◌∙◌, subst}
use mathlib.Core.Logic.{◌⊎◌, inl, inr}
use mathlib.Core.Bool.{Bool, true, false, not, ◌&&◌, ◌||◌, cond}
use mathlib.Core.List.{List, [], ◌∷◌}
use Prim.Native.Nat.{ℕ, ◌+◌, ◌-◌, ◌*◌, ◌/◌, ◌≤◌, ◌<◌}
use native.Mathlib.Nat.{zero-add}
use native.Mathlib.Omega.{arith}
use borrow.Author.Tests.{not-true, eqb-true, eqb-false, ltb-true, ltb-false, ne_eqb}
use lib.Dec.{eqb, ltb}
use lib.ListN.{length, take, drop}
use Rattle.words.specs.Bits.{is_in}
use Rattle.words.specs.Lists.{mem, same, member}
use Rattle.words.proofs.Bools.{left_true, right_true}
use Rattle.words.proofs.Lists.{get_or-made, front_same, back_same}
use Rattle.model.specs.Picture.{Picture, nblocks, callers}
use Rattle.model.specs.Refusal.{records}
use Rattle.model.specs.Analyse.{Facts}
use Rattle.model.specs.Move.{needed, needed_of}
use Rattle.laws.proofs.Accepted.{accepted}
use Rattle.flow.specs.Live.{Live, Wrote}
use Rattle.chains.specs.declared.chain.Chain.{Chain}
use Rattle.chains.specs.Chain.{blocks_of, last_of, Preds}
use Rattle.summary.specs.Passes.{Row}
use Rattle.flow.specs.Needed.{Shows, Needed}
use Rattle.sizes.specs.declared.Sizes.{Sizes}
use Rattle.trial.specs.declared.target.Goal.{Goal}
use Rattle.trial.specs.declared.target.Sunk.{Sunk}
use Rattle.sizes.specs.Parts.{needed_at, stamps_at, preds_at}
use Rattle.words.specs.Bits.{width}
use Rattle.chainwords.specs.Work.{at_needed, at_regs, Held, Lists, Tabled}
use Rattle.trial.specs.Target.{asked, taken, Aiming, Aimed}
use Rattle.chainwords.proofs.Standing.{wrote_held}
use Rattle.chainwords.proofs.Rooms.{room_of, row_before, Same, held_same, preds_lent}

-- ---- where the row lies, and its blocks

pub needed_from : (s : Sizes) {w o : ℕ} → w ≡ width s.regs → o ≡ s.blocks * w + s.blocks * w → o ≡ needed_at s
needed_from s e h = h ∙ ap (λ (x : ℕ). s.blocks * x + s.blocks * x) e

pub block_lent : {P : Picture} {bounds recs ops : List ℕ} {s : Sizes} {w64 w32 b : ℕ} → Lists P bounds recs ops s w64 w32 → b < nblocks P → b < length bounds / 2
block_lent {b = b} l h = subst (λ (bs : List ℕ). b < length bs / 2) (sym l.bounds_are) h

pub block_in : {P : Picture} {bounds recs ops : List ℕ} {s : Sizes} {w64 w32 b : ℕ} → Lists P bounds recs ops s w64 w32 → b < nblocks P → b < s.blocks
block_in {b = b} l h = subst (λ (n : ℕ). b < n) (sym l.blocks_are) h

pub row_lent : {P : Picture} {bounds recs ops : List ℕ} {s : Sizes} {w64 w32 b w : ℕ} → Lists P bounds recs ops s w64 w32 → b < nblocks P → w ≡ width s.regs
    → length bounds / 2 * w + length bounds / 2 * w + w ≤ w64
row_lent {P} {bounds} {s = s} {w64 = w64} {w32 = w32} {w = w} l h e =
    let n : length bounds / 2 ≡ nblocks P = ap (λ (bs : List ℕ). length bs / 2) l.bounds_are in
    let k : w ≡ width P.regs = e ∙ ap width l.regs_are in
    let r = room_of P w64 w32 l.accepted in
    let a = row_before r h in
    let b = r.words64 in
    let fits : nblocks P * width P.regs + nblocks P * width P.regs + width P.regs ≤ w64 = omega arith in
    subst (λ (x : ℕ). x * w + x * w + w ≤ w64) (sym n) (subst (λ (y : ℕ). nblocks P * y + nblocks P * y + y ≤ w64) (sym k) fits)

-- ---- the row, and what stays

-- the row stands for the registers needed elsewhere
row_here : {bounds recs ops pairs targets : List ℕ} {s : Sizes} {work64 work32 mid : List ℕ} {into other w : ℕ} (P : Picture) (G : Facts) → Lists P bounds recs ops s (length work64) (length work32) → Tabled P pairs targets → Held P G work64 work32
    → Needed bounds recs pairs targets w into other work64 mid → w ≡ width s.regs → Row mid (needed_at s) P.regs (member (needed_of P into other))
row_here {bounds} {recs} {ops} {pairs} {targets} {s} {work64} {work32} {mid} {into} {other} {w} P G l t h d ew =
    let k : w ≡ width P.regs = ew ∙ ap width l.regs_are in
    let live : Live P w work64 = subst (λ (y : ℕ). Live P y work64) (sym k) h.live in
    let wrote : Wrote P w work64 = subst (λ (y : ℕ). Wrote P y work64) (sym k) (wrote_held h) in
    let at : needed_at s ≡ length bounds / 2 * w + length bounds / 2 * w = ap₂ (λ (x y : ℕ). x * y + x * y) (l.blocks_are ∙ ap (λ (bs : List ℕ). length bs / 2) (sym l.bounds_are)) (sym ew) in
    let shows : Shows P bounds recs pairs targets = record { bounds_are = sym l.bounds_are; recs_are = sym l.recs_are; pairs_are = sym t.pairs_are; targets_are = sym t.targets_are } in
    record {
      each = λ r q.
          ap (λ (x : ℕ). is_in mid (64 * x + r)) at ∙ d.row P shows live wrote r (omega arith)
          ∙ sym (get_or-made (needed P into other) false 0 P.regs r q ∙ ap (needed P into other) (zero-add r));
    }

-- the other rows and the registers' words stay
same_needed : {bounds recs ops pairs targets : List ℕ} {s : Sizes} {w64 w32 : ℕ} {work64 mid : List ℕ} {into other w b : ℕ} (P : Picture) → Lists P bounds recs ops s w64 w32 → b < nblocks P → Needed bounds recs pairs targets w into other work64 mid
    → w ≡ width s.regs → Same P work64 mid
same_needed {bounds} {s = s} {w64 = w64} {w32 = w32} {work64 = work64} {mid = mid} {w = w} P l h d ew =
    let k : w ≡ width P.regs = ew ∙ ap width l.regs_are in
    let q : length bounds / 2 * w + length bounds / 2 * w ≡ at_needed P = ap₂ (λ (bs : List ℕ) (y : ℕ). length bs / 2 * y + length bs / 2 * y) l.bounds_are k in
    let a = row_before (room_of P w64 w32 l.accepted) h in
    record {
      rows = λ i j. front_same (length bounds / 2 * w + length bounds / 2 * w) work64 mid d.front i (omega arith);
      firsts = λ i u v. back_same (length bounds / 2 * w + length bounds / 2 * w + w) work64 mid d.back i (omega arith);
      regs = λ i j. back_same (length bounds / 2 * w + length bounds / 2 * w + w) work64 mid d.back (at_regs P + i) (omega arith);
    }

-- the predecessors, by where they begin
pub preds_from : (s : Sizes) (work32 : List ℕ) (P : Picture) {p : ℕ} → p ≡ preds_at s → Preds P (take (length work32 - preds_at s) (drop (preds_at s) work32)) s.blocks → Preds P (take (length work32 - p) (drop p work32)) s.blocks
preds_from s work32 P e h = subst (λ (p : ℕ). Preds P (take (length work32 - p) (drop p work32)) s.blocks) (sym e) h

-- ---- the answers

-- r says whether it is a target, by the words lent
pub record Spotted (s : Sizes) (c : Chain) (work32 : List ℕ) (into : ℕ) (r : Bool) : Type 0 where
  pub is : (P : Picture) → Preds P (take (length work32 - (8000 + s.lent)) (drop (8000 + s.lent) work32)) s.blocks → r ≡ (not (mem into (blocks_of c)) && same (callers P into) (last_of c ∷ []))

module _ {bounds recs pairs targets : List ℕ} {s : Sizes} {c : Chain} {work64 work32 : List ℕ} {g : Goal} where
  -- nothing to do
  pub aim_off : {q : Bool} {o st : ℕ} → Spotted s c work32 g.into.0 q → (not (eqb g.least 0) && q) ≡ false → o ≡ needed_at s → st ≡ stamps_at s
      → Aimed bounds recs pairs targets s c work64 work32 g work64 (record { least = 0; end = 8000; asked = asked o st 0 0 1 })
  aim_off {q} f e eo es = record {
    size64 = refl;
    held = λ P G ops l t h. h;
    off = λ _. (ap₂ (λ (x y : ℕ). asked x y 0 0 1) eo es, refl);
    no_target = λ _ some? P G ops l h.
        sym (f.is P (preds_lent work32 l h.begun.preds))
        ∙ subst (λ (b : Bool). (not b && q) ≡ false) (ne_eqb g.least 0 (λ y. omega arith)) e;
    on = λ y. absurd (omega arith);
    target = λ y. absurd (omega arith);
    row = λ y. absurd (omega arith);
  }

  -- a target
  pub aim_on : {q : Bool} {w o st e : ℕ} {work64' : List ℕ} → Aiming bounds recs pairs targets s c work64 work32 g → Spotted s c work32 g.into.0 q → (not (eqb g.least 0) && q) ≡ true
      → w ≡ width s.regs → o ≡ needed_at s → st ≡ stamps_at s → e ≡ 8000 + s.regs → Needed bounds recs pairs targets w g.into.0 g.other.0 work64 work64'
      → Aimed bounds recs pairs targets s c work64 work32 g work64' (record { least = g.least; end = e; asked = asked o st g.inside g.places g.least })
  aim_on {q} {w} {o} {st} {e} {work64'} p f y ew eo es ee put =
      record {
        size64 = put.size;
        held = λ P G ops l t u.
            let low : g.into.0 < nblocks P = subst (λ (x : ℕ). g.into.0 < x) (sym p.lists.blocks_are ∙ l.blocks_are) p.into_block in
            held_same (accepted P (length work64) (length work32) records l.accepted) (same_needed P l low put ew) u;
        off = λ x. absurd (some? x);
        no_target = λ x. absurd (some? x);
        on = λ _. (refl, ap₂ (λ (x v : ℕ). asked x v g.inside g.places g.least) eo es, ee);
        target = λ _ P G ops l u. sym (f.is P (preds_lent work32 l u.begun.preds)) ∙ right_true (not (eqb g.least 0)) q y;
        row = λ _ P G ops l t u. row_here P G l t u put ew;
      }
    where
      some? : g.least ≡ 0 → ⊥
      some? = eqb-false g.least 0 (not-true (eqb g.least 0) (left_true (not (eqb g.least 0)) q y))

-- ---- `taken`

module _ (k least n : ℕ) where
  pub taken_none : (eqb least 0 || ltb k least) ≡ true → taken k least n ≡ record { moved = 0; places = 0 }
  unfolding taken
  taken_none e = ap (λ (b : Bool). cond b (record { moved = 0; places = 0 }) (record { moved = k; places = n })) e

  pub taken_all : (eqb least 0 || ltb k least) ≡ false → taken k least n ≡ record { moved = k; places = n }
  unfolding taken
  taken_all e = ap (λ (b : Bool). cond b (record { moved = 0; places = 0 }) (record { moved = k; places = n })) e

-- of k members none move, since there is nothing to do or they are too few; or all
pub data Share (k least n : ℕ) : Sunk → Type 0 where
  none_move : (least ≡ 0) ⊎ (k < least) → Share k least n (record { moved = 0; places = 0 })
  all_move : 0 < least → least ≤ k → Share k least n (record { moved = k; places = n })

pub shares : (k least n : ℕ) → Share k least n (taken k least n)
shares k least n = go (eqb least 0) (ltb k least) refl refl
  where
    go : (u v : Bool) → eqb least 0 ≡ u → ltb k least ≡ v → Share k least n (taken k least n)
    go true v e f = subst (Share k least n) (sym (taken_none k least n (ap (λ (b : Bool). b || ltb k least) e))) (none_move (inl (eqb-true least 0 e)))
    go false true e f = subst (Share k least n) (sym (taken_none k least n (ap₂ ◌||◌ e f))) (none_move (inr (ltb-true k least f)))
    go false false e f =
        let h = eqb-false least 0 e in
        let i = ltb-false k least f in
        subst (Share k least n) (sym (taken_all k least n (ap₂ ◌||◌ e f))) (all_move (omega arith) i)
