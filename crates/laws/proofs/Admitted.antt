-- What acceptance says of an instruction: its kind and form, the registers it reads and writes, its list, where it branches to; so
-- every successor of every block is a block. Assumes nothing.
use mathlib.Core.Path.{◌≡◌, refl, sym, ap, ap₂, ◌∙◌, subst}
use mathlib.Core.Logic.{◌⊎◌, inl, inr, ⊎_elim}
use mathlib.Core.Bool.{Bool, true, false, not, ◌&&◌, ◌||◌, cond, true≢false}
use mathlib.Core.List.{List, [], ◌∷◌, ◌++◌, map}
use Prim.Native.Nat.{ℕ, zero, suc, ◌+◌, ◌-◌, ◌*◌, ◌/◌, ◌≤◌, ◌<◌}
use native.Mathlib.Omega.{arith}
use lib.Dec.{T, eqb, ltb, leb, eqb→eq}
use lib.ListN.{get_or, length, take, drop}
use lib.Seq.{get_or-take, length-take-le}
use borrow.Author.Tests.{ltb-false, leb-false}
use Rattle.words.specs.Lists.{In}
use Rattle.words.proofs.Bools.{left, right, or_left, or_right, not_false_T, true_T, clash}
use Rattle.words.proofs.Members.{any_no, in_take, in_drop, in_split, in_get_or}
use Rattle.words.proofs.Parts.{part_first}
use Rattle.model.specs.Kinds.{Role, off, wr, rd, wr?, rd?, reading, writing, Row, row, kind_of, place, Br, CondBr, Case, Cat}
use Rattle.model.specs.Picture.{Picture, Inst, inst, absent, kind, form, is_kind, roles, slots, chosen, list_of, reads, writes, nblocks, ends, size, End, goes, parts, cases, stops, end_of, ending, table, end_succs, succs}
use Rattle.model.specs.Refusal.{bad_slot, bad_slots, bad_pairs}
use Rattle.model.proofs.Movable.{may_move}
use Rattle.laws.proofs.Accepted.{Accepted, Admitted}
use Rattle.laws.proofs.Blocks.{last_place}
use Rattle.laws.proofs.Sizes.{opers_lent, admitted_at}
use Rattle.laws.proofs.Renamed.{optional_there}

-- ---- how an instruction ends a block

abbrev pub end_by : ℕ → ℕ → ℕ → End
end_by k s t =
    elim (eqb k (place Br)) as (λ z. End) [
      | true ↦ goes s
      | false ↦ elim (eqb k (place CondBr)) as (λ z. End) [ true ↦ parts s t | false ↦ elim (eqb k (place Case)) as (λ z. End) [ true ↦ cases s | false ↦ stops ] ]
    ]

module _ (i : Inst) where
  pub goes_kind : (t : ℕ) → end_of i ≡ goes t → (is_kind Br i ≡ true) × (get_or i 9 0 ≡ t)
  goes_kind t e = go (is_kind Br i) (is_kind CondBr i) (is_kind Case i) refl e
    where
      go : (a b c : Bool) → is_kind Br i ≡ a
          → ◌≡◌ {A = End} (elim a as (λ z. End) [
            | true ↦ goes (get_or i 9 0)
            | false ↦ elim b as (λ z. End) [ true ↦ parts (get_or i 9 0) (get_or i 10 0) | false ↦ elim c as (λ z. End) [ true ↦ cases (get_or i 9 0) | false ↦ stops ] ]
          ]) (goes t) → (is_kind Br i ≡ true) × (get_or i 9 0 ≡ t)
      go true b c q e = (q, cc)
      go false true c q e = let z : ◌≡◌ {A = ℕ} 0 1 = cc in absurd (omega arith)
      go false false true q e = let z : ◌≡◌ {A = ℕ} 0 1 = cc in absurd (omega arith)
      go false false false q e = let z : ◌≡◌ {A = ℕ} 0 1 = cc in absurd (omega arith)

  pub parts_kind : (t f : ℕ) → end_of i ≡ parts t f → (is_kind CondBr i ≡ true) × (get_or i 9 0 ≡ t) × (get_or i 10 0 ≡ f)
  parts_kind t f e = go (is_kind Br i) (is_kind CondBr i) (is_kind Case i) refl e
    where
      go : (a b c : Bool) → is_kind CondBr i ≡ b
          → ◌≡◌ {A = End} (elim a as (λ z. End) [
            | true ↦ goes (get_or i 9 0)
            | false ↦ elim b as (λ z. End) [ true ↦ parts (get_or i 9 0) (get_or i 10 0) | false ↦ elim c as (λ z. End) [ true ↦ cases (get_or i 9 0) | false ↦ stops ] ]
          ]) (parts t f) → (is_kind CondBr i ≡ true) × (get_or i 9 0 ≡ t) × (get_or i 10 0 ≡ f)
      go true b c q e = let z : ◌≡◌ {A = ℕ} 0 1 = cc in absurd (omega arith)
      go false true c q e = (q, cc, cc)
      go false false true q e = let z : ◌≡◌ {A = ℕ} 0 1 = cc in absurd (omega arith)
      go false false false q e = let z : ◌≡◌ {A = ℕ} 0 1 = cc in absurd (omega arith)

  -- the row of a kind that is known
  pub row_at : (n : ℕ) → eqb (get_or i 0 0) n ≡ true → row (kind i) ≡ row (kind_of n)
  row_at n e = ap (λ (k : ℕ). row (kind_of k)) (eqb→eq (get_or i 0 0) n (true_T (eqb (get_or i 0 0) n) e))

  -- what may move ends no block
  pub mover_stops : T (may_move (row (kind i)).arm) → end_of i ≡ stops
  mover_stops t = go (is_kind Br i) (is_kind CondBr i) (is_kind Case i) refl refl refl
    where
      go : (a b c : Bool) → is_kind Br i ≡ a → is_kind CondBr i ≡ b → is_kind Case i ≡ c
          → ◌≡◌ {A = End} (elim a as (λ z. End) [
            | true ↦ goes (get_or i 9 0)
            | false ↦ elim b as (λ z. End) [ true ↦ parts (get_or i 9 0) (get_or i 10 0) | false ↦ elim c as (λ z. End) [ true ↦ cases (get_or i 9 0) | false ↦ stops ] ]
          ]) stops
      go true b c e f g = absurd (subst (λ (w : Row). T (may_move w.arm)) (row_at 52 e) t)
      go false true c e f g = absurd (subst (λ (w : Row). T (may_move w.arm)) (row_at 53 f) t)
      go false false true e f g = absurd (subst (λ (w : Row). T (may_move w.arm)) (row_at 54 g) t)
      go false false false e f g = refl

-- ---- slots

low_slot : (f : Role → Bool) → f off ≡ false → (R r : ℕ) (o : Role) → f o ≡ true → eqb r absent ≡ false → bad_slot R o r ≡ false → r < R
low_slot f n R r off e a b = clash e n
low_slot f n R r wr e a b = leb-false R r b
low_slot f n R r rd e a b = leb-false R r b
low_slot f n R r wr? e a b = leb-false R r (optional_there (leb R r) (eqb r absent) b a)
low_slot f n R r rd? e a b = leb-false R r (optional_there (leb R r) (eqb r absent) b a)

low_chosen : (f : Role → Bool) → f off ≡ false → (R : ℕ) (os : List Role) (rs : List ℕ) → bad_slots R os rs ≡ false → (r : ℕ) → In r (chosen f os rs) → r < R
low_chosen f n R [] rs b r i = absurd i
low_chosen f n R (o ∷ os) [] b r i = absurd i
low_chosen f n R (o ∷ os) (x ∷ rs) b r i = go (low_chosen f n R os rs (or_right (bad_slot R o x) (bad_slots R os rs) b) r) (f o) (eqb x absent) refl refl i
  where
    go : (In r (chosen f os rs) → r < R) → (c d : Bool) → f o ≡ c → eqb x absent ≡ d → In r (cond (c && not d) (x ∷ chosen f os rs) (chosen f os rs)) → r < R
    go k true false e g (inl q) = subst (λ y. y < R) (sym q) (low_slot f n R x o e g (or_left (bad_slot R o x) (bad_slots R os rs) b))
    go k true false e g (inr j) = k j
    go k true true e g j = k j
    go k false d e g j = k j

-- ---- one instruction

list_cases : (O : ℕ) (b : Bool) (s n : ℕ) → cond b (ltb O (s + n)) (not (eqb s 0 && eqb n 0)) ≡ false → (s + n ≤ O) × (b ≡ false → (s ≡ 0) × (n ≡ 0))
list_cases O true s n e = (ltb-false O (s + n) e, (λ q. absurd (true≢false q)))
list_cases O false s n e =
    let t = not_false_T (eqb s 0 && eqb n 0) e in
    let a = eqb→eq s 0 (left (eqb s 0) (eqb n 0) t) in
    let b = eqb→eq n 0 (right (eqb s 0) (eqb n 0) t) in
    (omega arith, (λ q. (a, b)))

module _ (P : Picture) (i : Inst) (ok : Admitted P i) where
  pub writes_low : (r : ℕ) → In r (writes i) → r < P.regs
  writes_low = low_chosen writing refl P.regs (roles i) (slots i) ok.slots_fit

  pub slot_reads_low : (r : ℕ) → In r (chosen reading (roles i) (slots i)) → r < P.regs
  slot_reads_low = low_chosen reading refl P.regs (roles i) (slots i) ok.slots_fit

  -- the list lies within the operands in use; a kind without one has 0, 0
  pub list_in : get_or i 7 0 + get_or i 8 0 ≤ P.opers
  list_in = (list_cases P.opers (row (kind i)).list (get_or i 7 0) (get_or i 8 0) ok.list_fits).0

  pub list_none : (row (kind i)).list ≡ false → (get_or i 7 0 ≡ 0) × (get_or i 8 0 ≡ 0)
  list_none = (list_cases P.opers (row (kind i)).list (get_or i 7 0) (get_or i 8 0) ok.list_fits).1

  -- branches go to blocks
  pub goes_low : (t : ℕ) → end_of i ≡ goes t → t < nblocks P
  goes_low t e =
      let z = goes_kind i t e in
      let B = nblocks P in
      let h : (is_kind Br i && leb B (get_or i 9 0)) ≡ false = or_left (is_kind Br i && leb B (get_or i 9 0)) (is_kind CondBr i && (leb B (get_or i 9 0) || leb B (get_or i 10 0))) ok.branch_fits in
      subst (λ (n : ℕ). n < B) z.1 (leb-false B (get_or i 9 0) (ap (λ (b : Bool). b && leb B (get_or i 9 0)) (sym z.0) ∙ h))

  pub parts_low : (t f : ℕ) → end_of i ≡ parts t f → (t < nblocks P) × (f < nblocks P)
  parts_low t f e =
      let z = parts_kind i t f e in
      let B = nblocks P in
      let h : (leb B (get_or i 9 0) || leb B (get_or i 10 0)) ≡ false =
      ap (λ (b : Bool). b && (leb B (get_or i 9 0) || leb B (get_or i 10 0))) (sym z.0) ∙ or_right (is_kind Br i && leb B (get_or i 9 0)) (is_kind CondBr i && (leb B (get_or i 9 0) || leb B (get_or i 10 0))) ok.branch_fits in (
        subst (λ (n : ℕ). n < B) z.1 (leb-false B (get_or i 9 0) (or_left (leb B (get_or i 9 0)) (leb B (get_or i 10 0)) h)),
        subst (λ (n : ℕ). n < B) z.2 (leb-false B (get_or i 10 0) (or_right (leb B (get_or i 9 0)) (leb B (get_or i 10 0)) h)),
      )

  -- a Br reads and writes nothing
  pub br_quiet : (d : ℕ) → end_of i ≡ goes d → (reads P.ops i ≡ []) × (writes i ≡ [])
  br_quiet d e =
      let r = row_at i 52 (goes_kind i d e).0 in
      let n = (list_none (ap (λ (w : Row). w.list) r)).1 in (
        ap₂ (λ (w : Row) (k : ℕ). chosen reading (map (Rattle.model.specs.Kinds.at_form (form i)) w.slots) (slots i) ++ take k (drop (get_or i 7 0) P.ops)) r n,
        ap (λ (w : Row). chosen writing (map (Rattle.model.specs.Kinds.at_form (form i)) w.slots) (slots i)) r,
      )

-- ---- in an accepted picture

module _ (P : Picture) (ok : Accepted P) where
  pub operand_low : (r : ℕ) → In r (take P.opers P.ops) → r < P.regs
  operand_low r j = leb-false P.regs r (any_no (leb P.regs) r (take P.opers P.ops) ok.operands j)

  pub operand_at : (k : ℕ) → k < P.opers → get_or P.ops k 0 < P.regs
  operand_at k h =
      let l = opers_lent P ok in
      operand_low (get_or P.ops k 0)
      (subst (λ (r : ℕ). In r (take P.opers P.ops)) (get_or-take P.opers P.ops k 0 h) (in_get_or 0 (take P.opers P.ops) k (omega (arith, length-take-le P.opers P.ops l))))

  pub list_low : (i : Inst) → Admitted P i → (r : ℕ) → In r (list_of P.ops i) → r < P.regs
  list_low i a r j =
      operand_low r
      (in_drop r (get_or i 7 0) (take P.opers P.ops) (in_take r (get_or i 8 0) (drop (get_or i 7 0) (take P.opers P.ops))
      (subst (In r) (sym (part_first (get_or i 7 0) (get_or i 8 0) P.opers P.ops (list_in P i a))) j)))

  pub reads_low : (i : Inst) → Admitted P i → (r : ℕ) → In r (reads P.ops i) → r < P.regs
  reads_low i a r j = ⊎_elim (slot_reads_low P i a r) (list_low i a r) (in_split r (chosen reading (roles i) (slots i)) (list_of P.ops i) j)

  -- case targets are blocks
  pub table_low : (t c : ℕ) → In c (table P t) → c < nblocks P
  table_low t c j =
      leb-false (nblocks P) c
      (any_no (leb (nblocks P)) c P.targets ok.case_targets (in_drop c (get_or P.pairs (2 * t) 0) P.targets (in_take c (get_or P.pairs (2 * t + 1) 0) (drop (get_or P.pairs (2 * t) 0) P.targets) j)))

  -- how a block ends is how its last instruction does
  pub ending_last : (b : ℕ) (e : End) → ending P b ≡ e → (e ≡ stops) ⊎ ((end_of (inst P.recs (ends P b - 1)) ≡ e) × Admitted P (inst P.recs (ends P b - 1)))
  ending_last b e q = go (size P b) refl
    where
      go : (n : ℕ) → size P b ≡ n → (e ≡ stops) ⊎ ((end_of (inst P.recs (ends P b - 1)) ≡ e) × Admitted P (inst P.recs (ends P b - 1)))
      go zero s = inl (sym q ∙ ap (λ (c : Bool). elim c as (λ z. End) [ true ↦ stops | false ↦ end_of (inst P.recs (ends P b - 1)) ]) (ap (λ (k : ℕ). eqb k 0) s))
      go (suc n) s = inr (
        sym (ap (λ (c : Bool). elim c as (λ z. End) [ true ↦ stops | false ↦ end_of (inst P.recs (ends P b - 1)) ]) (ap (λ (k : ℕ). eqb k 0) s ∙ lib.Dec.eqb-suc-zero n)) ∙ q,
        admitted_at P ok b (ends P b - 1) (last_place P b n s).1,
      )

  pub ends_goes : (b t : ℕ) → ending P b ≡ goes t → (t < nblocks P) × Admitted P (inst P.recs (ends P b - 1)) × (end_of (inst P.recs (ends P b - 1)) ≡ goes t)
  ends_goes b t e = ⊎_elim (λ (q : goes t ≡ stops). let z : ◌≡◌ {A = ℕ} 0 1 = cc in absurd (omega arith))
      (λ z. (goes_low P (inst P.recs (ends P b - 1)) z.1 t z.0, z.1, z.0)) (ending_last b (goes t) e)

  pub ends_parts : (b t f : ℕ) → ending P b ≡ parts t f → (t < nblocks P) × (f < nblocks P)
  ends_parts b t f e = ⊎_elim (λ (q : parts t f ≡ stops). let z : ◌≡◌ {A = ℕ} 0 1 = cc in absurd (omega arith))
      (λ z. parts_low P (inst P.recs (ends P b - 1)) z.1 t f z.0) (ending_last b (parts t f) e)

  -- every successor is a block
  pub succs_low : (b c : ℕ) → In c (succs P b) → c < nblocks P
  succs_low b c j = go (ending P b) refl j
    where
      go : (e : End) → ending P b ≡ e → In c (end_succs P e) → c < nblocks P
      go (goes t) e (inl q) = subst (λ (n : ℕ). n < nblocks P) (sym q) (ends_goes b t e).0
      go (goes t) e (inr k) = absurd k
      go (parts t f) e (inl q) = subst (λ (n : ℕ). n < nblocks P) (sym q) (ends_parts b t f e).0
      go (parts t f) e (inr (inl q)) = subst (λ (n : ℕ). n < nblocks P) (sym q) (ends_parts b t f e).1
      go (parts t f) e (inr (inr k)) = absurd k
      go (cases t) e k = table_low t c k
      go stops e k = absurd k

-- ---- case pairs: none is empty, each lies within the targets

pub pair_fits : (n : ℕ) (ps : List ℕ) → bad_pairs n ps ≡ false → (t : ℕ) → t < length ps / 2 → (0 < get_or ps (2 * t + 1) 0) × (get_or ps (2 * t) 0 + get_or ps (2 * t + 1) 0 ≤ n)
pair_fits n [] e t h = absurd (omega arith)
pair_fits n (s ∷ []) e t h = absurd (omega arith)
pair_fits n (s ∷ l ∷ ps) e zero h =
    let f = or_left (eqb l 0 || ltb n (s + l)) (bad_pairs n ps) e in
    let z : l ≡ 0 → ⊥ = borrow.Author.Tests.eqb-false l 0 (or_left (eqb l 0) (ltb n (s + l)) f) in
    (omega arith, ltb-false n (s + l) (or_right (eqb l 0) (ltb n (s + l)) f))
pair_fits n (s ∷ l ∷ ps) e (suc t) h =
    let two : 2 * suc t ≡ suc (suc (2 * t)) = omega arith in
    let two_one : 2 * suc t + 1 ≡ suc (suc (2 * t + 1)) = omega arith in
    rw (two_one, two) (pair_fits n ps (or_right (eqb l 0 || ltb n (s + l)) (bad_pairs n ps) e) t (omega arith))
