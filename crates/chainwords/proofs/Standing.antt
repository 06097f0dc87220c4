-- What stands between rounds stays where its words are the same: the rows of what each block writes and reads first, the facts on
-- registers, the predecessors. Assumes nothing.
use mathlib.Core.Path.{◌≡◌, sym, ap, ◌∙◌, subst}
use mathlib.Core.List.{List, []}
use Prim.Native.Nat.{ℕ, ◌+◌, ◌*◌, ◌%◌, ◌≤◌, ◌<◌}
use native.Mathlib.Nat.{add-mul, mul_assoc, mul-le-mul_left}
use native.Mathlib.Omega.{arith}
use lib.ListN.{get_or, length, take, drop}
use Rattle.words.proofs.Parts.{get_d_part, row_fits}
use Rattle.words.proofs.Lists.{front_same, back_same}
use Rattle.model.specs.Picture.{Picture, nblocks}
use Rattle.model.specs.Refusal.{records, refusal}
use Rattle.model.specs.Analyse.{Facts}
use Rattle.laws.proofs.Accepted.{Accepted, accepted, work_room}
use Rattle.laws.proofs.Sizes.{regs_lent}
use Rattle.cfg.specs.Drawn.{drawn}
use Rattle.flow.specs.Live.{Rows, Wrote}
use Rattle.flow.proofs.Standing.{rows_same}
use Rattle.flow.proofs.Whole.{rows_whole, rows_drawn, wrote_rows}
use Rattle.chains.specs.Chain.{Preds}
use Rattle.words.specs.Bits.{width}
use Rattle.chainwords.specs.Work.{at_needed, at_regs, at_stamps, reg_words, pred_words, Begun, Held}

-- ---- rows of w words

-- where block b's row of what it reads first begins
pub first_row : (n b w : ℕ) → (2 * n + 1 + b) * w ≡ n * w + n * w + w + b * w
first_row n b w =
    let p = add-mul (2 * n + 1) b w in
    let q = add-mul (2 * n) 1 w in
    let r = mul_assoc 2 n w in
    omega arith

-- block b's two rows are the same words
pub record SameRows (n w b : ℕ) (xs ys : List ℕ) : Type 0 where
  pub wrote : (i : ℕ) → i < w → get_or ys ((n + b) * w + i) 0 ≡ get_or xs ((n + b) * w + i) 0
  pub first : (i : ℕ) → i < w → get_or ys ((2 * n + 1 + b) * w + i) 0 ≡ get_or xs ((2 * n + 1 + b) * w + i) 0

-- all words of the rows but live-in are the same
pub same_rows : {n w b : ℕ} (xs ys : List ℕ) → b < n → ((i : ℕ) → n * w ≤ i → i < n * w + n * w → get_or ys i 0 ≡ get_or xs i 0)
    → ((i : ℕ) → n * w + n * w + w ≤ i → i < n * w + n * w + w + n * w → get_or ys i 0 ≡ get_or xs i 0) → SameRows n w b xs ys
same_rows {n} {w} {b} xs ys h f g =
    let k = row_fits w h in
    let a = add-mul n b w in
    let c = first_row n b w in
    record { wrote = λ i l. f ((n + b) * w + i) (omega arith) (omega arith); first = λ i l. g ((2 * n + 1 + b) * w + i) (omega arith) (omega arith) }

-- ---- between rounds

-- the rows, and the flags of registers, are the same
pub record Firm (P : Picture) (xs ys : List ℕ) : Type 0 where
  pub rows : (b : ℕ) → b < nblocks P → SameRows (nblocks P) (width P.regs) b xs ys
  pub flags : (r : ℕ) → r < length P.types → get_or (reg_words P ys) r 0 % 16 ≡ get_or (reg_words P xs) r 0 % 16

pub begun_kept : {P : Picture} {G : Facts} {xs ys work32 work32' : List ℕ} → Firm P xs ys → pred_words P work32' ≡ pred_words P work32 → Begun P G xs work32 → Begun P G ys work32'
begun_kept {P} {G} {xs} {ys} f e b = record {
  seen = record { size = b.seen.size; flags = λ r l. f.flags r l ∙ b.seen.flags r l };
  known = b.known;
  preds = subst (λ (ws : List ℕ). Preds P ws (nblocks P)) (sym e) b.preds;
  rows = λ c h. rows_same P (width P.regs) c xs ys (f.rows c h).first (f.rows c h).wrote (b.rows c h);
}

-- the flags are, if the words are
pub flags_same : (P : Picture) (xs ys : List ℕ) → ((i : ℕ) → i < length P.types → get_or ys (at_regs P + i) 0 ≡ get_or xs (at_regs P + i) 0)
    → (r : ℕ) → r < length P.types → get_or (reg_words P ys) r 0 % 16 ≡ get_or (reg_words P xs) r 0 % 16
flags_same P xs ys e r l =
    ap (λ (v : ℕ). v % 16) (get_d_part ys (at_regs P) (length P.types) r 0 l ∙ e r l ∙ sym (get_d_part xs (at_regs P) (length P.types) r 0 l))

-- the rows of live-in lie before the words of the registers
live_before : (P : Picture) → Accepted P → nblocks P * width P.regs ≤ at_regs P
live_before P ok =
    let l = regs_lent P ok in
    let wide : width P.regs ≤ width (length P.types) = omega arith in
    let b = mul-le-mul_left (nblocks P) wide in
    let c = mul_assoc 4 (nblocks P) (width (length P.types)) in
    omega arith

-- so do those of what each block reads first
pub firsts_before : (P : Picture) → Accepted P → {b : ℕ} → b < nblocks P → at_needed P + width P.regs + nblocks P * width P.regs ≤ at_regs P
firsts_before P ok h =
    let l = regs_lent P ok in
    let wide : width P.regs ≤ width (length P.types) = omega arith in
    let a = row_fits (width P.regs) h in
    let b = mul-le-mul_left (nblocks P) wide in
    let c = mul_assoc 4 (nblocks P) (width (length P.types)) in
    omega arith

-- words are written from k on
pub firm_front : (P : Picture) → Accepted P → (k : ℕ) (xs ys : List ℕ) → at_stamps P ≤ k → take k ys ≡ take k xs → Firm P xs ys
firm_front P ok k xs ys h e = record {
  rows = λ b l. let f = firsts_before P ok l in
      same_rows xs ys l (λ i p q. front_same k xs ys e i (omega arith)) (λ i p q. front_same k xs ys e i (omega arith));
  flags = flags_same P xs ys (λ i l. front_same k xs ys e (at_regs P + i) (omega arith));
}

-- words are written before k
pub firm_back : (P : Picture) → Accepted P → (k : ℕ) (xs ys : List ℕ) → k ≤ nblocks P * width P.regs → drop k ys ≡ drop k xs → Firm P xs ys
firm_back P ok k xs ys h e = record {
  rows = λ b l. same_rows xs ys l (λ i p q. back_same k xs ys e i (omega arith)) (λ i p q. back_same k xs ys e i (omega arith));
  flags = flags_same P xs ys (λ i l. let f = live_before P ok in back_same k xs ys e (at_regs P + i) (omega arith));
}

-- ---- the rows as `flow` has them

-- they have room
pub rows_room : (P : Picture) (w64 w32 : ℕ) → refusal P w64 w32 records ≡ 0 → 3 * nblocks P * width P.regs + width P.regs ≤ w64
rows_room P w64 w32 e =
    let l = regs_lent P (accepted P w64 w32 records e) in
    let wide : width P.regs ≤ width (length P.types) = omega arith in
    let few : width P.regs ≤ 2 * length P.types = omega arith in
    let a = mul-le-mul_left (nblocks P) wide in
    let b = mul_assoc 4 (nblocks P) (width (length P.types)) in
    let c = mul_assoc 3 (nblocks P) (width P.regs) in
    let d = (work_room P w64 w32 records e).0 in
    omega arith

-- and so have four rows a block, before the words of registers
pub all_room : (P : Picture) → Accepted P → 4 * nblocks P * width P.regs ≤ at_regs P
all_room P ok =
    let l = regs_lent P ok in
    let wide : width P.regs ≤ width (length P.types) = omega arith in
    mul-le-mul_left (4 * nblocks P) wide

module _ (P : Picture) {bounds recs ops : List ℕ} {w : ℕ} (eb : bounds ≡ P.bounds) (er : recs ≡ P.recs) (eo : ops ≡ P.ops) (ew : w ≡ width P.regs) {b : ℕ} (bits : List ℕ) where
  pub rows_of : Rows (drawn bounds recs ops [] []) w b bits → Rows P (width P.regs) b bits
  rows_of h =
      rows_whole P [] [] (width P.regs) b bits
      (subst (λ (v : ℕ). Rows (drawn P.bounds P.recs P.ops [] []) v b bits) ew
      (subst (λ (l : List ℕ). Rows (drawn P.bounds P.recs l [] []) w b bits) eo
      (subst (λ (l : List ℕ). Rows (drawn P.bounds l ops [] []) w b bits) er
      (subst (λ (l : List ℕ). Rows (drawn l recs ops [] []) w b bits) eb h))))

  pub rows_for : (pairs targets : List ℕ) → Rows P (width P.regs) b bits → Rows (drawn bounds recs ops pairs targets) w b bits
  rows_for pairs targets h =
      subst (λ (l : List ℕ). Rows (drawn l recs ops pairs targets) w b bits) (sym eb)
      (subst (λ (l : List ℕ). Rows (drawn P.bounds l ops pairs targets) w b bits) (sym er)
      (subst (λ (l : List ℕ). Rows (drawn P.bounds P.recs l pairs targets) w b bits) (sym eo)
      (subst (λ (v : ℕ). Rows (drawn P.bounds P.recs P.ops pairs targets) v b bits) (sym ew)
      (rows_drawn P pairs targets (width P.regs) b bits h))))

-- ---- in a round

-- what each block writes
pub wrote_held : {P : Picture} {G : Facts} {work64 work32 : List ℕ} → Held P G work64 work32 → Wrote P (width P.regs) work64
wrote_held {P} {work64 = work64} h = wrote_rows P (width P.regs) work64 h.begun.rows
