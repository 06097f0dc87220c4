-- After a move (01, "A round"): the rows of the two blocks that it changed are made anew, or all; and all blocks' rows then stand for
-- the new picture. Assumes nothing.
use mathlib.Core.Path.{◌≡◌, refl, sym, ap, ◌∙◌, subst}
use mathlib.Core.Logic.{◌⊎◌, inl, inr}
use mathlib.Core.List.{List, []}
use Prim.Native.Nat.{ℕ, ◌+◌, ◌*◌, ◌/◌, ◌≤◌, ◌<◌}
use native.Mathlib.Nat.{le_trans, le_refl, mul_assoc}
use native.Mathlib.Omega.{arith}
use lib.Dec.{eqb}
use lib.ListN.{get_or, length, take, drop}
use Rattle.words.specs.Bits.{is_in}
use Rattle.words.proofs.Bools.{eq?}
use Rattle.model.specs.Picture.{Picture, nblocks, code, callers}
use Rattle.model.specs.Live.{read_first, written}
use Rattle.model.specs.Refusal.{refusal, records}
use Rattle.model.specs.Analyse.{Facts}
use Rattle.model.specs.Move.{Plan, apply}
use Rattle.laws.proofs.Accepted.{Accepted, accepted}
use Rattle.laws.proofs.Sizes.{few_types, regs_lent}
use Rattle.laws.proofs.Moving.{Moving, x_block}
use Rattle.laws.proofs.Endings.{callers_kept}
use Rattle.laws.proofs.Unchanged.{same_blocks, same_types, regs_more}
use Rattle.laws.proofs.Apart.{first_kept, written_kept}
use Rattle.cfg.specs.Drawn.{drawn}
use Rattle.flow.specs.Live.{Rows, OnlyRows}
use Rattle.flow.proofs.Standing.{apart_rows, within_rows, rows_else}
use Rattle.chains.specs.Chain.{Preds}
use Rattle.regfacts.specs.Flags.{Seen}
use Rattle.words.specs.Bits.{width}
use Rattle.chainwords.specs.Work.{at_regs, at_stamps, reg_words, pred_words, Begun}
use Rattle.chainwords.proofs.Standing.{begun_kept, firm_front, flags_same, firsts_before, rows_of, rows_for}
use Rattle.search.proofs.Start.{RowsAsk, rows_asked}
use Rattle.oneround.specs.Make.{Renewing, Renewed}

-- ---- what is asked to make rows

module _ {bounds recs ops work64 : List ℕ} {was regs from into : ℕ} (k : Renewing bounds recs ops work64 was regs from into) where
  pub regs_few : regs ≤ 65536
  regs_few = let ok = accepted k.Q (length work64) k.w32 records k.accepted in let e = k.regs_are in let a = regs_lent k.Q ok in let b = few_types k.Q ok in omega arith

  pub renew_ask : {r : ℕ} (bits : List ℕ) → length bits ≡ length work64 → r ≡ regs → RowsAsk bounds recs ops r bits
  renew_ask bits e er =
      rows_asked k.Q k.w32 bits (subst (λ (n : ℕ). refusal k.Q n k.w32 records ≡ 0) (sym e) k.accepted) k.bounds_are k.recs_are k.ops_are (er ∙ k.regs_are)

-- ---- what was made

abbrev EachOf : List ℕ → List ℕ → List ℕ → ℕ → ℕ → List ℕ → Type 0
EachOf bounds recs ops w b bits = Rows (drawn bounds recs ops [] []) w b bits

-- words behind all rows
past : {n w b : ℕ} {xs ys : List ℕ} → b < n → OnlyRows n w b xs ys → (i : ℕ) → 3 * n * w + w ≤ i → get_or ys i 0 ≡ get_or xs i 0
past {n} {w} {b} h o i l =
    let p = within_rows n w b h in
    let q = apart_rows n w b b h in
    o.same i (inr (omega arith)) (inr (omega arith))

pub renewed_two : {bounds recs ops work64 mid work64' : List ℕ} {v w from into : ℕ} → w ≡ v → from < length bounds / 2 → into < length bounds / 2
    → EachOf bounds recs ops w from mid → OnlyRows (length bounds / 2) w from work64 mid → EachOf bounds recs ops w into work64' → OnlyRows (length bounds / 2) w into mid work64'
    → Renewed bounds recs ops work64 v w from into work64'
renewed_two {bounds} {recs} {ops} {work64} {mid} {work64'} {v} {w} {from} {into} ew hf hi rf of ri oi = record {
  size = oi.size ∙ of.size;
  behind = λ i l. past hi oi i l ∙ past hf of i l;
  rows = λ b h f. go b h f (eq? b into) (eq? b from);
}
  where
    go : (b : ℕ) → b < length bounds / 2 → (w ≡ v → (b ≡ from → ⊥) → (b ≡ into → ⊥) → EachOf bounds recs ops w b work64) → (b ≡ into) ⊎ (b ≡ into → ⊥) → (b ≡ from) ⊎ (b ≡ from → ⊥)
        → EachOf bounds recs ops w b work64'
    go b h f (inl e) d = subst (λ (c : ℕ). EachOf bounds recs ops w c work64') (sym e) ri
    go b h f (inr n) (inl e) = rows_else (drawn bounds recs ops [] []) w b mid work64' into hi h n oi (subst (λ (c : ℕ). EachOf bounds recs ops w c mid) (sym e) rf)
    go b h f (inr n) (inr m) =
        rows_else (drawn bounds recs ops [] []) w b mid work64' into hi h n oi (rows_else (drawn bounds recs ops [] []) w b work64 mid from hf h m of (f ew m n))

-- with widths that are equal
-- ---- what the call began with, after a move

module _ (P : Picture) (G : Facts) (a : Plan) (mv : Moving P G a) where
  abbrev Q : Picture
  Q = apply P a

  -- another block's rows stand for the picture after as they stood
  rows_over : (w b : ℕ) (bits : List ℕ) → b < nblocks P → (b ≡ a.x → ⊥) → (b ≡ a.into → ⊥) → Rows P w b bits → Rows Q w b bits
  rows_over w b bits low nx ni h = record {
    first = λ r l. subst (λ (n : ℕ). is_in bits (64 * ((2 * n + 1 + b) * w) + r) ≡ read_first Q.ops r (code Q b)) (sym (same_blocks P G a mv))
        (h.first r l ∙ sym (first_kept P G a mv b low nx ni r));
    wrote = λ r l. subst (λ (n : ℕ). is_in bits (64 * ((n + b) * w) + r) ≡ written r (code Q b)) (sym (same_blocks P G a mv))
        (h.wrote r l ∙ sym (written_kept P G a mv b low nx ni r));
  }

  -- predecessors are the same
  preds_after : (work32 : List ℕ) → Preds P (pred_words P work32) (nblocks P) → Preds Q (pred_words Q work32) (nblocks Q)
  preds_after work32 p =
      subst (λ (n : ℕ). Preds Q (take (2 * n) (drop (8000 + length Q.types) work32)) n) (sym (same_blocks P G a mv))
      (subst (λ (k : ℕ). Preds Q (take (2 * nblocks P) (drop (8000 + k) work32)) (nblocks P)) (sym (same_types P G a mv)) here)
    where
      kept : (c : ℕ) → callers Q c ≡ callers P c
      kept = callers_kept P G a mv

      here : Preds Q (pred_words P work32) (nblocks P)
      here = record {
        count = λ c h. p.count c h ∙ ap (λ (l : List ℕ). eqb (length l) 1) (sym (kept c));
        sole = λ c h e. kept c ∙ p.sole c h (ap length (sym (kept c)) ∙ e);
      }

  seen_after : (bits : List ℕ) → Seen G (length P.types) (reg_words P bits) → Seen G (length Q.types) (reg_words Q bits)
  seen_after bits s =
      subst (λ (n : ℕ). Seen G (length Q.types) (take (length Q.types) (drop (4 * n * width (length Q.types)) bits))) (sym (same_blocks P G a mv))
      (subst (λ (k : ℕ). Seen G k (take k (drop (4 * nblocks P * width k) bits))) (sym (same_types P G a mv)) s)

  -- new names were put from at_stamps on, and the rows made anew
  pub begun_after : {bounds recs ops : List ℕ} (work64 mid work64' work32 : List ℕ) → Accepted Q → bounds ≡ Q.bounds → recs ≡ Q.recs → ops ≡ Q.ops
      → take (at_stamps P) mid ≡ take (at_stamps P) work64 → Renewed bounds recs ops mid (width P.regs) (width Q.regs) a.x a.into work64'
      → Begun P G work64 work32 → Begun Q G work64' work32
  begun_after {bounds} {recs} {ops} work64 mid work64' work32 okQ eb er eo e n began = record {
    seen = record { size = s.size; flags = λ r l. flags_same Q mid work64' same r l ∙ s.flags r l };
    known = le_trans began.known (regs_more P G a mv).0;
    preds = preds_after work32 began.preds;
    rows = λ b h.
        let low : b < nblocks P = subst (λ (k : ℕ). b < k) (same_blocks P G a mv) h in
        rows_of Q eb er eo refl work64' (n.rows b (subst (λ (l : List ℕ). b < length l / 2) (sym eb) h)
        (λ ew nx ni. rows_for Q eb er eo refl mid [] [] (subst (λ (v : ℕ). Rows Q v b mid) (sym ew) (rows_over (width P.regs) b mid low nx ni (stood.rows b low)))));
  }
    where
      stood : Begun P G mid work32
      stood = begun_kept (firm_front P mv.ok (at_stamps P) work64 mid (le_refl (at_stamps P)) e) refl began

      s : Seen G (length Q.types) (reg_words Q mid)
      s = seen_after mid stood.seen

      same : (i : ℕ) → i < length Q.types → get_or work64' (at_regs Q + i) 0 ≡ get_or mid (at_regs Q + i) 0
      same i l =
          let f = firsts_before Q okQ (subst (λ (k : ℕ). a.x < k) (sym (same_blocks P G a mv)) (x_block P G a mv)) in
          let k : 3 * (length bounds / 2) * width Q.regs ≡ 3 * nblocks Q * width Q.regs = ap (λ (l : List ℕ). 3 * (length l / 2) * width Q.regs) eb in
          let m = mul_assoc 3 (nblocks Q) (width Q.regs) in
          n.behind (at_regs Q + i) (omega arith)
