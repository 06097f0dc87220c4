-- Where the parts of the two work slices lie in an accepted picture, and that what they hold stays where words elsewhere are written.
-- Assumes nothing.
use mathlib.Core.Path.{◌≡◌, refl, sym, ap, ◌∙◌, subst}
use mathlib.Core.List.{List, [], ◌∷◌}
use Prim.Native.Nat.{ℕ, ◌+◌, ◌-◌, ◌*◌, ◌≤◌, ◌<◌}
use native.Mathlib.Nat.{mul_assoc, mul-le-mul_left}
use native.Mathlib.Omega.{arith}
use lib.Dec.{eqb}
use lib.ListN.{get_or, length, take, drop, length-drop}
use lib.Seq.{length-take-le}
use Rattle.words.proofs.Parts.{get_d_part, row_fits}
use Rattle.model.specs.Picture.{Picture, nblocks}
use Rattle.model.specs.Refusal.{records, refusal}
use Rattle.model.specs.Analyse.{Facts}
use Rattle.laws.proofs.Accepted.{Accepted, accepted, work_room}
use Rattle.laws.proofs.Sizes.{few_blocks, few_types, regs_lent}
use Rattle.flow.proofs.Standing.{row_as}
use Rattle.chains.specs.Chain.{Preds}
use Rattle.sizes.specs.declared.Sizes.{Sizes}
use Rattle.words.specs.Bits.{width}
use Rattle.chainwords.specs.Work.{at_needed, at_regs, pred_words, Held, Lists}
use Rattle.chainwords.proofs.Standing.{same_rows, flags_same, firsts_before, begun_kept}

-- ---- sizes: B blocks, R registers in use, K lent

pub record Room (B R K w64 w32 : ℕ) : Type 0 where
  pub blocks : B ≤ 4096
  pub lent : R ≤ K
  pub few : K ≤ 65536
  pub rows : B * width R ≤ B * width K
  pub four : 4 * B * width K ≡ 4 * (B * width K)
  pub words64 : 4 * B * width K + 2 * K ≤ w64
  pub words32 : 8 * K + 16 * B + 8000 ≤ w32

pub room_of : (P : Picture) (w64 w32 : ℕ) → refusal P w64 w32 records ≡ 0 → Room (nblocks P) P.regs (length P.types) w64 w32
room_of P w64 w32 e =
    let ok = accepted P w64 w32 records e in
    let z = work_room P w64 w32 records e in
    let l = regs_lent P ok in
    let wide : width P.regs ≤ width (length P.types) = omega arith in
    record {
      blocks = few_blocks P ok;
      lent = l;
      few = few_types P ok;
      rows = mul-le-mul_left (nblocks P) wide;
      four = mul_assoc 4 (nblocks P) (width (length P.types));
      words64 = z.0;
      words32 = z.1;
    }

pub room : {P : Picture} {bounds recs ops : List ℕ} {s : Sizes} {w64 w32 : ℕ} → Lists P bounds recs ops s w64 w32 → Room s.blocks s.regs s.lent w64 w32
room {P} {s = s} {w64 = w64} {w32 = w32} l =
    subst (λ (n : ℕ). Room n s.regs s.lent w64 w32) (sym l.blocks_are)
    (subst (λ (n : ℕ). Room (nblocks P) n s.lent w64 w32) (sym l.regs_are)
    (subst (λ (n : ℕ). Room (nblocks P) P.regs n w64 w32) (sym l.lent_are) (room_of P w64 w32 l.accepted)))

-- the row of registers needed lies before the words of the registers
pub row_before : {B R K w64 w32 b : ℕ} → Room B R K w64 w32 → b < B → B * width R + B * width R + width R ≤ 4 * B * width K
row_before {R = R} r h =
    let a = row_fits (width R) h in
    let b = r.rows in
    let c = r.four in
    omega arith

-- ---- what is held stays

-- the rows but that of registers needed, and the words of registers, are the same
pub record Same (P : Picture) (xs ys : List ℕ) : Type 0 where
  pub rows : (i : ℕ) → i < at_needed P → get_or ys i 0 ≡ get_or xs i 0
  pub firsts : (i : ℕ) → at_needed P + width P.regs ≤ i → i < at_regs P → get_or ys i 0 ≡ get_or xs i 0
  pub regs : (i : ℕ) → i < length P.types → get_or ys (at_regs P + i) 0 ≡ get_or xs (at_regs P + i) 0

pub held_same : {P : Picture} {G : Facts} {xs ys work32 : List ℕ} → Accepted P → Same P xs ys → Held P G xs work32 → Held P G ys work32
held_same {P} {G} {xs} {ys} {work32} ok s h = record {
  begun = begun_kept (record {
    rows = λ b l. let f = firsts_before P ok l in same_rows xs ys l (λ i p q. s.rows i q) (λ i p q. s.firsts i p (omega arith));
    flags = flags_same P xs ys s.regs;
  }) refl h.begun;
  live = record {
    row = λ b r l k.
        let f = row_fits (width P.regs) l in
        row_as (width P.regs) b b xs ys (λ i u. s.rows (b * width P.regs + i) (omega arith)) r k ∙ h.live.row b r l k;
  };
}

-- ---- the predecessors, as the part from word 8,000 + K on

pub preds_lent : {P : Picture} {bounds recs ops : List ℕ} {s : Sizes} {w64 : ℕ} (work32 : List ℕ) → Lists P bounds recs ops s w64 (length work32) → Preds P (pred_words P work32) (nblocks P)
    → Preds P (take (length work32 - (8000 + s.lent)) (drop (8000 + s.lent) work32)) s.blocks
preds_lent {P} {s = s} work32 l p =
    let e = l.blocks_are in
    record {
      count = λ b h. ap (λ (v : ℕ). eqb v 1) (word (2 * b) (omega arith)) ∙ p.count b (omega arith);
      sole = λ b h q. p.sole b (omega arith) q ∙ ap (λ (v : ℕ). v ∷ []) (sym (word (2 * b + 1) (omega arith)));
    }
  where
    word : (i : ℕ) → i < 2 * nblocks P → get_or (take (length work32 - (8000 + s.lent)) (drop (8000 + s.lent) work32)) i 0 ≡ get_or (pred_words P work32) i 0
    word i h =
        let r = (room l).words32 in
        let e = l.blocks_are in
        get_d_part work32 (8000 + s.lent) (length work32 - (8000 + s.lent)) i 0 (omega arith)
        ∙ ap (λ (k : ℕ). get_or work32 (8000 + k + i) 0) l.lent_are ∙ sym (get_d_part work32 (8000 + length P.types) (2 * nblocks P) i 0 h)

pub preds_room : {P : Picture} {bounds recs ops : List ℕ} {s : Sizes} {w64 : ℕ} (work32 : List ℕ) → Lists P bounds recs ops s w64 (length work32)
    → 2 * s.blocks ≤ length (take (length work32 - (8000 + s.lent)) (drop (8000 + s.lent) work32))
preds_room {s = s} work32 l =
    let r = (room l).words32 in
    let d = length-drop (8000 + s.lent) work32 in
    let e = length-take-le (length work32 - (8000 + s.lent)) (drop (8000 + s.lent) work32) (omega arith) in
    omega arith
