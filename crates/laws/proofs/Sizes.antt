-- What acceptance says of a picture's sizes, records and blocks. Assumes nothing.
use mathlib.Core.Path.{◌≡◌, sym, subst}
use mathlib.Core.Logic.{◌⊎◌, inl, inr, ⊎_elim}
use mathlib.Core.Bool.{Bool, false, not, ◌||◌}
use Prim.Native.Nat.{ℕ, ◌*◌, ◌/◌, ◌%◌, ◌≤◌, ◌<◌}
use native.Mathlib.Omega.{arith}
use lib.Dec.{eqb, ltb, eqb→eq}
use lib.ListN.{get_or, length, take, drop, length-drop}
use lib.Seq.{length-take-le, get_or-take}
use borrow.Author.Tests.{ltb-false, eqb-false}
use Rattle.words.specs.Lists.{In}
use Rattle.words.proofs.Bools.{or_left, or_right, or_cases, not_false_T, lt?}
use Rattle.words.proofs.Members.{any_no, range_in, in_get_or, in_map}
use Rattle.model.specs.Picture.{Picture, Inst, inst, nblocks, starts, ends, size, places, code}
use Rattle.laws.proofs.Accepted.{Accepted, Admitted}
use Rattle.laws.proofs.Blocks.{block_fits, places_past}

-- ---- cause 1

record Few (P : Picture) : Type 0 where
  blocks : ltb 4096 (nblocks P) ≡ false
  insts : ltb 32768 (length P.locs) ≡ false
  types : ltb 65536 (length P.types) ≡ false
  ops : ltb 131072 (length P.ops) ≡ false
  pairs : ltb 65536 (length P.pairs) ≡ false
  targets : ltb 65536 (length P.targets) ≡ false
  regs : ltb (length P.types) P.regs ≡ false
  opers : ltb (length P.ops) P.opers ≡ false

module _ (P : Picture) (ok : Accepted P) where
  few : Few P
  few =
      let a = ltb 4096 (nblocks P) in
      let b = ltb 32768 (length P.locs) in
      let c = ltb 65536 (length P.types) in
      let d = ltb 131072 (length P.ops) in
      let e = ltb 65536 (length P.pairs) in
      let f = ltb 65536 (length P.targets) in
      let g = ltb (length P.types) P.regs in
      let h = ltb (length P.ops) P.opers in
      let q7 = or_left (a || b || c || d || e || f || g) h ok.sizes in
      let q6 = or_left (a || b || c || d || e || f) g q7 in
      let q5 = or_left (a || b || c || d || e) f q6 in
      let q4 = or_left (a || b || c || d) e q5 in
      let q3 = or_left (a || b || c) d q4 in
      let q2 = or_left (a || b) c q3 in
      record {
        blocks = or_left a b q2;
        insts = or_right a b q2;
        types = or_right (a || b) c q3;
        ops = or_right (a || b || c) d q4;
        pairs = or_right (a || b || c || d) e q5;
        targets = or_right (a || b || c || d || e) f q6;
        regs = or_right (a || b || c || d || e || f) g q7;
        opers = or_right (a || b || c || d || e || f || g) h ok.sizes;
      }

  pub few_blocks : nblocks P ≤ 4096
  few_blocks = ltb-false 4096 (nblocks P) few.blocks

  pub few_insts : length P.locs ≤ 32768
  few_insts = ltb-false 32768 (length P.locs) few.insts

  pub few_types : length P.types ≤ 65536
  few_types = ltb-false 65536 (length P.types) few.types

  pub few_ops : length P.ops ≤ 131072
  few_ops = ltb-false 131072 (length P.ops) few.ops

  pub few_pairs : length P.pairs ≤ 65536
  few_pairs = ltb-false 65536 (length P.pairs) few.pairs

  pub few_targets : length P.targets ≤ 65536
  few_targets = ltb-false 65536 (length P.targets) few.targets

  -- no more in use than lent
  pub regs_lent : P.regs ≤ length P.types
  regs_lent = ltb-false (length P.types) P.regs few.regs

  pub opers_lent : P.opers ≤ length P.ops
  opers_lent = ltb-false (length P.ops) P.opers few.opers

  -- ---- cause 2

  abbrev odd_recs : Bool
  odd_recs = not (eqb (length P.recs) (16 * length P.locs))

  abbrev odd_vias : Bool
  odd_vias = not (eqb (length P.vias) 0 || eqb (length P.vias) (length P.locs))

  abbrev odd_bounds : Bool
  odd_bounds = eqb (length P.bounds % 2) 1

  abbrev odd_pairs : Bool
  odd_pairs = eqb (length P.pairs % 2) 1

  pub recs_length : length P.recs ≡ 16 * length P.locs
  recs_length = eqb→eq (length P.recs) (16 * length P.locs) (not_false_T (eqb (length P.recs) (16 * length P.locs)) (or_left odd_recs odd_vias (or_left (odd_recs || odd_vias) odd_bounds (or_left (odd_recs || odd_vias || odd_bounds) odd_pairs ok.even))))

  pub vias_length : (length P.vias ≡ 0) ⊎ (length P.vias ≡ length P.locs)
  vias_length =
      ⊎_elim (λ t. inl (eqb→eq (length P.vias) 0 t)) (λ t. inr (eqb→eq (length P.vias) (length P.locs) t))
      (or_cases (eqb (length P.vias) 0) (eqb (length P.vias) (length P.locs))
      (not_false_T (eqb (length P.vias) 0 || eqb (length P.vias) (length P.locs)) (or_right odd_recs odd_vias (or_left (odd_recs || odd_vias) odd_bounds (or_left (odd_recs || odd_vias || odd_bounds) odd_pairs ok.even)))))

  pub bounds_length : length P.bounds ≡ 2 * nblocks P
  bounds_length = let n : length P.bounds % 2 ≡ 1 → ⊥ = eqb-false (length P.bounds % 2) 1 (or_right (odd_recs || odd_vias) odd_bounds (or_left (odd_recs || odd_vias || odd_bounds) odd_pairs ok.even)) in omega arith

  pub pairs_length : length P.pairs ≡ 2 * (length P.pairs / 2)
  pairs_length = let n : length P.pairs % 2 ≡ 1 → ⊥ = eqb-false (length P.pairs % 2) 1 (or_right (odd_recs || odd_vias || odd_bounds) odd_pairs ok.even) in omega arith

  -- each record is whole
  pub record_whole : (p : ℕ) → p < length P.locs → length (inst P.recs p) ≡ 16
  record_whole p h = length-take-le 16 (drop (16 * p) P.recs) (let e = recs_length in simp length-drop (omega arith))

  -- ---- cause 3

  pub block_within : (b : ℕ) → b < nblocks P → (starts P b ≤ ends P b) × (ends P b ≤ length P.locs)
  block_within b h = block_fits 0 (length P.locs) P.bounds ok.laid b h

  -- a place of a block
  pub place_below : (b p : ℕ) → In p (places P b) → (b < nblocks P) × (p < length P.locs)
  place_below b p i = ⊎_elim
      (λ (h : b < nblocks P). let w = block_within b h in let z = range_in p (starts P b) (size P b) i in let u = w.0 in let v = w.1 in let y = z.1 in (h, omega arith))
      (λ (h : nblocks P ≤ b). absurd (subst (In p) (places_past P b h) i)) (lt? b (nblocks P))

  pub admitted_at : (b p : ℕ) → In p (places P b) → Admitted P (inst P.recs p)
  admitted_at b p i = ok.each p (place_below b p i).1

  pub admitted_in : (b : ℕ) (i : Inst) → In i (code P b) → Admitted P i
  admitted_in b i j = let z = in_map (inst P.recs) i (places P b) j in subst (Admitted P) (sym z.2) (admitted_at b z.0 z.1)

  -- ---- cause 9

  pub types_low : (r : ℕ) → r < P.regs → get_or P.types r 0 ≤ 7
  types_low r h =
      let l = regs_lent in
      ltb-false 7 (get_or P.types r 0)
      (any_no (ltb 7) (get_or P.types r 0) (take P.regs P.types) ok.types_used
      (subst (λ (t : ℕ). In t (take P.regs P.types)) (get_or-take P.regs P.types r 0 h) (in_get_or 0 (take P.regs P.types) r (let e = length-take-le P.regs P.types l in omega arith))))
