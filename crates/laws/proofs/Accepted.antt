-- Acceptance: every cause of the table but 10 (what the pass works in) is absent. `accepted` gives it from a refusal of 0, and
-- `not_refused` goes back. What follows from it stands in Sizes and Admitted; that a round keeps it, in Keeps. Assumes nothing.
use mathlib.Core.Path.{◌≡◌, refl, sym, ap, ap₂, ◌∙◌, subst}
use mathlib.Core.Bool.{Bool, true, false, ◌&&◌, ◌||◌}
use mathlib.Core.List.{List, [], ◌∷◌}
use Prim.Native.Nat.{ℕ, zero, suc, ◌≤◌, ◌<◌}
use native.Mathlib.Nat.{suc-ne-zero, le_refl}
use native.Mathlib.Omega.{arith}
use lib.Dec.{ltb, leb}
use lib.ListN.{get_or, length, take}
use borrow.Author.Tests.{le-ltb, ltb-false}
use Rattle.words.specs.Lists.{upto, any}
use Rattle.words.proofs.Bools.{or_left, or_right}
use Rattle.words.proofs.Members.{any_no, no_any, in_map, map_in, in_range, range_in}
use Rattle.words.proofs.Each.{Each}
use Rattle.model.specs.Kinds.{Cat}
use Rattle.model.specs.Picture.{Picture, Inst, inst, is_kind, roles, slots, nblocks}
use Rattle.model.specs.Refusal.{all_code, too_large, uneven, gaps, bad_kind, bad_slots, half_part, bad_list, bad_branch, bad_pairs, work64, work32, records, causes, lowest, refusal}

-- of a single instruction: causes 4, 5, 6, 7 and 8
pub record Admitted (P : Picture) (i : Inst) : Type 0 where
  pub kind_fits : bad_kind i ≡ false
  pub slots_fit : bad_slots P.regs (roles i) (slots i) ≡ false
  pub no_half : half_part i ≡ false
  pub list_fits : bad_list P.opers i ≡ false
  pub branch_fits : bad_branch (nblocks P) i ≡ false
  pub cat_short : (is_kind Cat i && ltb 33 (get_or i 8 0)) ≡ false

-- of a picture
pub record Accepted (P : Picture) : Type 0 where
  pub sizes : too_large P ≡ false
  pub even : uneven P ≡ false
  pub laid : gaps 0 (length P.locs) P.bounds ≡ false
  pub each : (p : ℕ) → p < length P.locs → Admitted P (inst P.recs p)
  pub operands : any (leb P.regs) (take P.opers P.ops) ≡ false
  pub case_targets : any (leb (nblocks P)) P.targets ≡ false
  pub case_pairs : bad_pairs (length P.targets) P.pairs ≡ false
  pub types_used : any (ltb 7) (take P.regs P.types) ≡ false

-- ---- from a refusal of 0

none_below : (n : ℕ) (cs : List Bool) → lowest (suc n) cs ≡ 0 → (k : ℕ) → get_or cs k false ≡ false
none_below n [] e k = refl
none_below n (true ∷ cs) e k = absurd (suc-ne-zero n e)
none_below n (false ∷ cs) e zero = refl
none_below n (false ∷ cs) e (suc k) = none_below (suc n) cs e k

module _ (P : Picture) where
  -- a test over the code, by places
  at_each : (f : Inst → Bool) → any f (all_code P) ≡ false → (p : ℕ) → p < length P.locs → f (inst P.recs p) ≡ false
  at_each f e p h = any_no f (inst P.recs p) (all_code P) e (map_in (inst P.recs) p (upto (length P.locs)) (in_range p 0 (length P.locs) (omega arith) (omega arith)))

  over_all : (f : Inst → Bool) → ((p : ℕ) → p < length P.locs → f (inst P.recs p) ≡ false) → any f (all_code P) ≡ false
  over_all f h =
      no_any f (all_code P)
      (λ i j. let z = in_map (inst P.recs) i (upto (length P.locs)) j in
      let r = range_in z.0 0 (length P.locs) z.1 in
      let l = r.1 in
      subst (λ (y : Inst). f y ≡ false) (sym z.2) (h z.0 (omega arith)))

  pub accepted : (w64 w32 nf : ℕ) → refusal P w64 w32 nf ≡ 0 → Accepted P
  accepted w64 w32 nf ok =
      let is = all_code P in
      let none : (k : ℕ) → get_or (causes P w64 w32 nf) k false ≡ false = none_below 0 (causes P w64 w32 nf) ok in
      let lists = any (bad_list P.opers) is in
      let ops = any (leb P.regs) (take P.opers P.ops) in
      let branches = any (bad_branch (nblocks P)) is in
      let targets = any (leb (nblocks P)) P.targets in
      let pairs = bad_pairs (length P.targets) P.pairs in
      let seven : (branches || targets) ≡ false = or_left (branches || targets) pairs (none 6) in
      record {
        sizes = none 0;
        even = none 1;
        laid = none 2;
        each = λ p h.
            let i = inst P.recs p in
            let five = at_each (λ i. bad_slots P.regs (roles i) (slots i) || half_part i) (none 4) p h in
            record {
              kind_fits = at_each bad_kind (none 3) p h;
              slots_fit = or_left (bad_slots P.regs (roles i) (slots i)) (half_part i) five;
              no_half = or_right (bad_slots P.regs (roles i) (slots i)) (half_part i) five;
              list_fits = at_each (bad_list P.opers) (or_left lists ops (none 5)) p h;
              branch_fits = at_each (bad_branch (nblocks P)) (or_left branches targets seven) p h;
              cat_short = at_each (λ i. is_kind Cat i && ltb 33 (get_or i 8 0)) (none 7) p h;
            };
        operands = or_right lists ops (none 5);
        case_targets = or_right branches targets seven;
        case_pairs = or_right (branches || targets) pairs (none 6);
        types_used = none 8;
      }

-- ---- and back

all_absent : (n : ℕ) (cs : List Bool) → Each (λ c. c ≡ false) cs → lowest n cs ≡ 0
all_absent n [] e = refl
all_absent n (c ∷ cs) e = ap (λ (b : Bool). lowest n (b ∷ cs)) e.0 ∙ all_absent (suc n) cs e.1

pub not_refused : (P : Picture) (w64 w32 nf : ℕ) → Accepted P → work64 P ≤ w64 → work32 P ≤ w32 → records ≤ nf → refusal P w64 w32 nf ≡ 0
not_refused P w64 w32 nf ok a b r =
    all_absent 1 (causes P w64 w32 nf) (
      ok.sizes,
      (
        ok.even,
        (
          ok.laid,
          (
            over_all P bad_kind (λ p h. (ok.each p h).kind_fits),
            (
              over_all P (λ i. bad_slots P.regs (roles i) (slots i) || half_part i) (λ p h. ap₂ ◌||◌ (ok.each p h).slots_fit (ok.each p h).no_half),
              (
                ap₂ ◌||◌ (over_all P (bad_list P.opers) (λ p h. (ok.each p h).list_fits)) ok.operands,
                (
                  ap₂ ◌||◌ (ap₂ ◌||◌ (over_all P (bad_branch (nblocks P)) (λ p h. (ok.each p h).branch_fits)) ok.case_targets) ok.case_pairs,
                  (
                    over_all P (λ i. is_kind Cat i && ltb 33 (get_or i 8 0)) (λ p h. (ok.each p h).cat_short),
                    (
                      ok.types_used,
                      (
                        ap₂ ◌||◌ (ap₂ ◌||◌ (le-ltb w64 (work64 P) a) (le-ltb w32 (work32 P) b)) (le-ltb nf records r),
                        tt,
                      ),
                    ),
                  ),
                ),
              ),
            ),
          ),
        ),
      ),
    )

-- the work slices are long enough, and the records are enough
pub work_room : (P : Picture) (w64 w32 nf : ℕ) → refusal P w64 w32 nf ≡ 0 → (work64 P ≤ w64) × (work32 P ≤ w32) × (records ≤ nf)
work_room P w64 w32 nf ok =
    let a = ltb w64 (work64 P) in
    let b = ltb w32 (work32 P) in
    let e : (a || b || ltb nf records) ≡ false = none_below 0 (causes P w64 w32 nf) ok 9 in
    let d : (a || b) ≡ false = or_left (a || b) (ltb nf records) e in
    (ltb-false w64 (work64 P) (or_left a b d), ltb-false w32 (work32 P) (or_right a b d), ltb-false nf records (or_right (a || b) (ltb nf records) e))

-- so those that are needed would be enough
pub needed_records : (P : Picture) (w64 w32 nf : ℕ) → refusal P w64 w32 nf ≡ 0 → refusal P w64 w32 records ≡ 0
needed_records P w64 w32 nf ok = let w = work_room P w64 w32 nf ok in not_refused P w64 w32 records (accepted P w64 w32 nf ok) w.0 w.1 (le_refl records)
