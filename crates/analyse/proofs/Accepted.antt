-- Acceptance gives what the functions of this crate ask of records and blocks. Assumes nothing.
use mathlib.Core.Bool.{Bool, true, false, not, ◌||◌, cond}
use mathlib.Core.List.{List, [], ◌∷◌, ◌++◌, map}
use mathlib.Core.Logic.{◌⊎◌, inl, inr}
use mathlib.Core.Path.{◌≡◌, refl, ap, ◌∙◌, subst}
use Prim.Native.Nat.{ℕ, zero, suc, ◌≤◌, ◌<◌}
use native.Mathlib.Nat.{not-suc-le-zero, le_of_suc-le-suc}
use native.Mathlib.Omega.{arith}
use borrow.Author.Tests.{ne_eqb, eqb-true, leb-false}
use lib.Dec.{eqb, leb}
use lib.ListN.{get_or, length, drop}
use Rattle.words.specs.Lists.{upto, all, mem}
use Rattle.words.proofs.Bools.{T_true, true_T, or_left, or_right, or_rest, clash, eq?}
use Rattle.words.proofs.Members.{in_get_or, in_range, all_in, mem_in}
use Rattle.model.specs.Kinds.{Arm, Role, off, wr, rd, wr?, rd?, reading, writing, row, kind_of, at_form, cat}
use Rattle.model.specs.Picture.{Picture, Inst, inst, absent, kind, form, roles, slots, chosen, list_of, reads, writes, nblocks}
use Rattle.model.specs.Refusal.{bad_slot, bad_slots}
use Rattle.model.specs.Analyse.{facts}
use Rattle.laws.proofs.Accepted as laws
use Rattle.model.proofs.Results.{kind_low}
use Rattle.laws.proofs.Admitted.{writes_low, list_in, reads_low}
use Rattle.laws.proofs.Renamed.{optional_there}
use Rattle.laws.proofs.Sizes.{few_insts, few_types, regs_lent, opers_lent, recs_length, bounds_length, block_within}
use Rattle.inst.specs.Record as I
use Rattle.inst.specs.Record.{Within, Listed, write_at}
use Rattle.inst.specs.Table.{arm_code}
use Rattle.inst.proofs.Words.{slots_long, slot_is}
use Rattle.chains.specs.Places.{Pair, end_past}
use Rattle.regfacts.specs.Written.{Fits, Good}
use Rattle.regfacts.specs.Flags.{Found, Seen}
use Rattle.analyse.specs.Step.{Learnable}
use Rattle.analyse.proofs.Learned.{fits_more}
use Rattle.regfacts.proofs.First.{first_seen}

-- ---- slots

-- a register below R, or none
slot_low : (f : Role → Bool) → f off ≡ false → (R r : ℕ) (o : Role) → bad_slot R o r ≡ false → (cond (f o) r absent ≡ absent) ⊎ (cond (f o) r absent < R)
slot_low f n R r o b = go (f o) refl (eq? r absent)
  where
    low : (o : Role) → f o ≡ true → (r ≡ absent → ⊥) → bad_slot R o r ≡ false → r < R
    low off e a b = clash e n
    low wr e a b = leb-false R r b
    low rd e a b = leb-false R r b
    low wr? e a b = leb-false R r (optional_there (leb R r) (eqb r absent) b (ne_eqb r absent a))
    low rd? e a b = leb-false R r (optional_there (leb R r) (eqb r absent) b (ne_eqb r absent a))

    go : (c : Bool) → f o ≡ c → (r ≡ absent) ⊎ (r ≡ absent → ⊥) → (cond c r absent ≡ absent) ⊎ (cond c r absent < R)
    go true e (inl a) = inl a
    go true e (inr a) = inr (low o e a b)
    go false e a = inl refl

slots_low : (f : Role → Bool) → f off ≡ false → (R : ℕ) (os : List Role) (rs : List ℕ) → bad_slots R os rs ≡ false → (s : ℕ) → s < length rs
    → (cond (f (get_or os s off)) (get_or rs s 0) absent ≡ absent) ⊎ (cond (f (get_or os s off)) (get_or rs s 0) absent < R)
slots_low f n R os [] b s h = absurd (not-suc-le-zero h)
slots_low f n R [] (r ∷ rs) b zero h = slot_low f n R r off (or_left (bad_slot R off r) (bad_slots R [] rs) b)
slots_low f n R [] (r ∷ rs) b (suc s) h = slots_low f n R [] rs (or_right (bad_slot R off r) (bad_slots R [] rs) b) s (le_of_suc-le-suc h)
slots_low f n R (o ∷ os) (r ∷ rs) b zero h = slot_low f n R r o (or_left (bad_slot R o r) (bad_slots R os rs) b)
slots_low f n R (o ∷ os) (r ∷ rs) b (suc s) h = slots_low f n R os rs (or_right (bad_slot R o r) (bad_slots R os rs) b) s (le_of_suc-le-suc h)

-- ---- a Cat

-- only kind 39 has its arm
abbrev cat_at : ℕ → Bool
cat_at w = not (eqb (arm_code (row (kind_of w)).arm) 16) || eqb w 39

cats : all cat_at (upto 101) ≡ true
cats = refl

only_cat : (w : ℕ) → w ≤ 100 → (row (kind_of w)).arm ≡ cat → w ≡ 39
only_cat w h e =
    eqb-true w 39
    (T_true (eqb w 39) (or_rest (not (eqb (arm_code (row (kind_of w)).arm) 16)) (eqb w 39)
    (all_in cat_at w (upto 101) (true_T (all cat_at (upto 101)) cats) (in_range w 0 101 (omega arith) (omega arith)))
    (ap (λ (a : Arm). not (eqb (arm_code a) 16)) e)))

three_first : (R : ℕ) → R ≤ 65536 → (rs : List ℕ) → 3 ≤ length rs → bad_slots R (rd ∷ rd ∷ rd ∷ []) rs ≡ false → (xs : List ℕ) → drop 3 (chosen reading (rd ∷ rd ∷ rd ∷ []) rs ++ xs) ≡ xs
three_first R l [] h b xs = absurd (not-suc-le-zero h)
three_first R l (r ∷ []) h b xs = absurd (omega arith)
three_first R l (r ∷ s ∷ []) h b xs = absurd (omega arith)
three_first R l (r ∷ s ∷ t ∷ rs) h b xs =
    let b1 = or_right (leb R r) (leb R s || (leb R t || bad_slots R [] rs)) b in
    let b2 = or_right (leb R s) (leb R t || bad_slots R [] rs) b1 in
    let r1 = leb-false R r (or_left (leb R r) (leb R s || (leb R t || bad_slots R [] rs)) b) in
    let r2 = leb-false R s (or_left (leb R s) (leb R t || bad_slots R [] rs) b1) in
    let r3 = leb-false R t (or_left (leb R t) (bad_slots R [] rs) b2) in
    simp (ne_eqb r absent (λ q. omega arith), ne_eqb s absent (λ q. omega arith), ne_eqb t absent (λ q. omega arith))

-- ---- an accepted picture

module _ (P : Picture) (ok : laws.Accepted P) where
  few_regs : P.regs ≤ 65536
  few_regs = let a = regs_lent P ok in let b = few_types P ok in omega arith

  module _ (g : ℕ) (h : g < length P.locs) where
    abbrev i : Inst
    i = inst P.recs g

    fine : laws.Admitted P i
    fine = ok.each g h

    within : Within P.recs g
    within = let e = recs_length P ok in record { whole = omega arith }

    known : I.Known P.recs g
    known = let k = kind_low i fine.kind_fits in record { within = within; kind = omega arith }

    listed : Listed P.recs P.ops g
    listed = let a = list_in P i fine in let b = opers_lent P ok in record { within = within; list = omega arith }

    three : (row (kind i)).arm ≡ cat → drop 3 (reads P.ops i) ≡ list_of P.ops i
    three e =
        let z : roles i ≡ rd ∷ rd ∷ rd ∷ [] = ap (λ (n : ℕ). map (at_form (form i)) (row (kind_of n)).slots) (only_cat (get_or i 0 0) (kind_low i fine.kind_fits) e) in
        ap (λ (os : List Role). drop 3 (chosen reading os (slots i) ++ list_of P.ops i)) z
        ∙ three_first P.regs few_regs (slots i) (rw (slots_long P.recs g within) (omega arith)) (subst (λ (os : List Role). bad_slots P.regs os (slots i) ≡ false) z fine.slots_fit) (list_of P.ops i)

    fits : Fits P.recs P.regs g
    unfolding write_at
    fits = record {
      whole = known;
      room = few_regs;
      slot = λ s l.
          subst (λ (r : ℕ). (cond (writing (get_or (roles i) s off)) r absent ≡ absent) ⊎ (cond (writing (get_or (roles i) s off)) r absent < P.regs)) (slot_is i s l)
          (slots_low writing refl P.regs (roles i) (slots i) fine.slots_fit s (rw (slots_long P.recs g within) l));
    }

    -- each record can be analysed
    good : Good P.recs P.ops P.regs g
    good = record { known = known; listed = listed; fits = fits; each = λ k l. reads_low P ok i fine (get_or (reads P.ops i) k absent) (in_get_or absent (reads P.ops i) k l) }

    pub good_given : Learnable P.recs P.ops P.regs g
    good_given = let s = few_insts P ok in record { good = good; three = three; small = omega arith }

    -- and its writers noted, in as many words as there are registers lent
    pub fits_given : Fits P.recs (length P.types) g
    fits_given = fits_more (regs_lent P ok) (few_types P ok) fits

  -- the words of `find_facts` stand for the facts of the picture, also for registers that are new after it
  pub seen_given : {R : ℕ} {words : List ℕ} → Found P.recs (length P.locs) (length P.types) words → P.regs ≤ R → R ≤ length P.types → Seen (facts P) R words
  seen_given f a b = first_seen P f a b (λ r l p h. go r l p h (mem r (writes (inst P.recs p))) refl)
    where
      go : (r : ℕ) → P.regs ≤ r → (p : ℕ) → p < length P.locs → (b : Bool) → mem r (writes (inst P.recs p)) ≡ b → b ≡ false
      go r l p h true e = let z = writes_low P (inst P.recs p) (ok.each p h) r (mem_in r (writes (inst P.recs p)) e) in absurd (omega arith)
      go r l p h false e = refl

  -- the blocks
  pub pair_given : (b : ℕ) → b < nblocks P → Pair P.bounds b
  pair_given b h = let e = bounds_length P ok in record { size = omega arith; order = (block_within P ok b h).0 }

  pub ends_given : (b : ℕ) → b < nblocks P → end_past P.bounds b ≤ length P.locs
  ends_given b h = (block_within P ok b h).1
