-- A round keeps acceptance, and so does any number of rounds. Assumes nothing.
use Rattle.std.specs.Prelude.{Some}
use mathlib.Core.Path.{◌≡◌, refl, sym, ap, ap₂, ◌∙◌, subst}
use mathlib.Core.Logic.{inl, inr, ⊎_elim}
use mathlib.Core.Bool.{Bool, true, false, not, ◌&&◌, ◌||◌, cond}
use mathlib.Core.List.{List, [], ◌∷◌, ◌++◌, map}
use Prim.Native.Nat.{ℕ, ◌+◌, ◌*◌, ◌%◌, ◌≤◌, ◌<◌}
use native.Mathlib.Nat.{zero-add, le_of_eq, le_trans}
use native.Mathlib.Omega.{arith}
use lib.Dec.{eqb, ltb, leb, eqb→eq}
use lib.ListN.{get_or, length, take, drop, length-append}
use lib.Seq.{take_at}
use borrow.Author.Tests.{le-ltb, lt-leb, eq-eqb, ne_eqb, ltb-false}
use Rattle.words.specs.Lists.{In, upto, any, concat}
use Rattle.words.proofs.Bools.{right, not_false_T, eq?}
use Rattle.words.proofs.Members.{no_any, any_no, in_map, in_split, in_get_or, concat_in}
use Rattle.words.proofs.Each.{Each, each_of, each_in}
use Rattle.model.specs.Kinds.{row, kind_of, place, Cat, Br, CondBr, SigGather}
use Rattle.model.specs.Picture.{Picture, Inst, inst, absent, roles, slots, list_of, nblocks}
use Rattle.model.specs.Refusal.{gaps, bad_slots, bad_branch, refusal}
use Rattle.model.specs.Analyse.{Facts}
use Rattle.model.specs.Move.{Plan, Job, renamed, made, made_all, new_list, changes, more_of, fresh, members, order_of, order, new_code, apply}
use Rattle.model.specs.Pass.{round, fits}
use Rattle.laws.proofs.Accepted.{Accepted, Admitted, accepted, not_refused, work_room}
use Rattle.laws.proofs.Admitted.{operand_low, list_low}
use Rattle.laws.proofs.Blocks.{gaps_spans}
use Rattle.laws.proofs.Renamed.{slots_more, slots_fit_renamed}
use Rattle.laws.proofs.Laid.{inst_laid}
use Rattle.laws.proofs.Made.{Body, made_body, same_roles, made_word, made_absent, Sound, MadeFor, Pairs}
use Rattle.laws.proofs.Moving.{Moving}
use Rattle.laws.proofs.Ordered.{order_place}
use Rattle.laws.proofs.Planned.{chosen}
use Rattle.laws.proofs.Typed.{Small, pooled_small}
use Rattle.laws.proofs.Sizes.{few_blocks, few_insts, few_types, few_ops, few_pairs, few_targets, pairs_length, vias_length}
use Rattle.laws.proofs.Unchanged.{same_blocks, locs_order, same_locs, same_vias, same_types, same_ops, code_length, recs_after, regs_more, opers_more, same_work64, same_work32}
use Rattle.laws.proofs.Applied as Applied

-- ---- a list stays within the operands in use

list_more : (O O' : ℕ) → O ≤ O' → (b : Bool) (s n : ℕ) → cond b (ltb O (s + n)) (not (eqb s 0 && eqb n 0)) ≡ false → cond b (ltb O' (s + n)) (not (eqb s 0 && eqb n 0)) ≡ false
list_more O O' h true s n e = let l = ltb-false O (s + n) e in le-ltb O' (s + n) (omega arith)
list_more O O' h false s n e = e

list_made : (O O' : ℕ) (b : Bool) (s s' n : ℕ) → s' + n ≤ O' → (n ≡ 0 → s' ≡ s) → cond b (ltb O (s + n)) (not (eqb s 0 && eqb n 0)) ≡ false → cond b (ltb O' (s' + n)) (not (eqb s' 0 && eqb n 0)) ≡ false
list_made O O' true s s' n h k e = le-ltb O' (s' + n) h
list_made O O' false s s' n h k e =
    let n_none = eqb→eq n 0 (right (eqb s 0) (eqb n 0) (not_false_T (eqb s 0 && eqb n 0) e)) in
    ap (λ (x : ℕ). not (eqb x 0 && eqb n 0)) (k n_none) ∙ e

eight : {a b c d e f g h : Bool} → a ≡ false → b ≡ false → c ≡ false → d ≡ false → e ≡ false → f ≡ false → g ≡ false → h ≡ false → (a || b || c || d || e || f || g || h) ≡ false
eight p q r s t u v w = ap₂ ◌||◌ (ap₂ ◌||◌ (ap₂ ◌||◌ (ap₂ ◌||◌ (ap₂ ◌||◌ (ap₂ ◌||◌ (ap₂ ◌||◌ p q) r) s) t) u) v) w

module _ (P : Picture) (G : Facts) (a : Plan) (mv : Moving P G a) where
  abbrev Q : Picture
  Q = apply P a

  abbrev ok : Accepted P
  ok = mv.ok

  -- ---- an instruction that is not renamed, and one that is

  admitted_kept : (i : Inst) → Admitted P i → Admitted Q i
  admitted_kept i f = record {
    kind_fits = f.kind_fits;
    slots_fit = slots_more P.regs Q.regs (regs_more P G a mv).0 (roles i) (slots i) f.slots_fit;
    no_half = f.no_half;
    list_fits = list_more P.opers Q.opers (opers_more P G a mv).0 (row (kind_of (get_or i 0 0))).list (get_or i 7 0) (get_or i 8 0) f.list_fits;
    branch_fits = ap (λ (n : ℕ). bad_branch n i) (same_blocks P G a mv) ∙ f.branch_fits;
    cat_short = f.cat_short;
  }

  admitted_made : (m : Inst) (j : Job) → Sound P Q.regs j → MadeFor P.ops Q.ops Q.opers m j → Admitted Q m
  admitted_made m j s ma = subst (Admitted Q) (sym ma.is) record {
    kind_fits = ap₂ (λ (k : ℕ) (z : ℕ × ℕ). ltb 100 k || ltb z.0 (row (kind_of k)).least || ltb (row (kind_of k)).most z.0 || (eqb k (place Cat) && ltb 65535 z.1)) w0 (λ z. (w1 z, w9 z)) ∙ f.kind_fits;
    slots_fit = ap₂ (bad_slots Q.regs) (same_roles j start e u v) b.slot_words
        ∙ slots_fit_renamed j.rd j.wr P.regs Q.regs grow (λ r l. s.rd_low r (le_trans l grow)) (λ r l. s.wr_low r (le_trans l grow)) (roles j.old) (slots j.old) f.slots_fit;
    no_half = ap₂ (λ (k : Bool) (z : Bool × Bool). k && not z.0 && z.1 || k && z.0 && not z.1) (ap (λ (k : ℕ). eqb k (place SigGather)) w0) (λ z. (made_absent j start e u v 2 (omega arith) z, made_absent j start e u v 3 (omega arith) z)) ∙ f.no_half;
    list_fits = ap₂ (λ (k : ℕ) (z : ℕ × ℕ). cond (row (kind_of k)).list (ltb Q.opers (z.0 + z.1)) (not (eqb z.0 0 && eqb z.1 0))) w0 (λ z. (b.list_start z, w8 z))
        ∙ list_made P.opers Q.opers (row (kind_of (get_or j.old 0 0))).list (get_or j.old 7 0) start (get_or j.old 8 0) ma.fits ma.still f.list_fits;
    branch_fits = ap₂ (λ (k : ℕ) (z : ℕ × ℕ). eqb k (place Br) && leb (nblocks Q) z.0 || eqb k (place CondBr) && (leb (nblocks Q) z.0 || leb (nblocks Q) z.1)) w0 (λ z. (w9 z, made_word j start e u v 2 z))
        ∙ ap (λ (n : ℕ). bad_branch n j.old) (same_blocks P G a mv) ∙ f.branch_fits;
    cat_short = ap₂ (λ (k n : ℕ). eqb k (place Cat) && ltb 33 n) w0 w8 ∙ f.cat_short;
  }
    where
      start : ℕ
      start = ma.start

      e : length j.old ≡ 16
      e = s.whole

      f : Admitted P j.old
      f = s.admitted

      u : (r : ℕ) → eqb r absent ≡ false → eqb (j.rd r) absent ≡ false
      u = s.rd_present

      v : (r : ℕ) → eqb r absent ≡ false → eqb (j.wr r) absent ≡ false
      v = s.wr_present

      b : Body j.old (renamed j.rd j.wr (roles j.old) (slots j.old)) start
      b = made_body j start e u v

      grow : P.regs ≤ Q.regs
      grow = (regs_more P G a mv).0

      w0 : get_or (made j start) 0 0 ≡ get_or j.old 0 0
      w0 = b.kind_word

      w1 : get_or (made j start) 1 0 ≡ get_or j.old 1 0
      w1 = b.form_word

      w8 : get_or (made j start) 8 0 ≡ get_or j.old 8 0
      w8 = b.list_length

      w9 : get_or (made j start) 9 0 ≡ get_or j.old 9 0
      w9 = made_word j start e u v 1

  all_made : (ms : List Inst) (ks : List Job) → Each (Sound P Q.regs) ks → Pairs (MadeFor P.ops Q.ops Q.opers) ms ks → (i : Inst) → In i ms → Admitted Q i
  all_made [] ks s p i j = absurd j
  all_made (m ∷ ms) [] s p i j = absurd p
  all_made (m ∷ ms) (k ∷ ks) s p i (inl e) = subst (Admitted Q) (sym e) (admitted_made m k s.0 p.0)
  all_made (m ∷ ms) (k ∷ ks) s p i (inr j) = all_made ms ks s.1 p.1 i j

  in_block : (b : ℕ) (i : Inst) → In i (new_code P a (Applied.js P G a mv) b) → Admitted Q i
  in_block b i j = ⊎_elim
      (λ (e : b ≡ a.into). all_made (made_all P.ops P.opers (Applied.js P G a mv)) (Applied.js P G a mv) (Applied.sound P G a mv) (Applied.made_here P G a mv) i
      (subst (In i) (ap (new_code P a (Applied.js P G a mv)) e ∙ Applied.code_into P G a mv) j))
      (λ (n : b ≡ a.into → ⊥). let z = in_map (inst P.recs) i (order_of P a b) (subst (In i) (Applied.code_else P G a mv b n) j) in
      subst (Admitted Q) (sym z.2) (admitted_kept (inst P.recs z.0) (ok.each z.0 (order_place P G a mv b z.0 z.1))))
      (eq? b a.into)

  each_after : (p : ℕ) → p < length Q.locs → Admitted Q (inst Q.recs p)
  each_after p h =
      let is = concat (Applied.cs P G a mv) in
      let l : p < length is = subst (λ (n : ℕ). p < n) (sym (code_length P G a mv)) h in
      let z = concat_in (get_or is p []) (Applied.cs P G a mv) (in_get_or [] is p l) in
      let y = in_map (new_code P a (Applied.js P G a mv)) z.0 (upto (nblocks P)) z.2 in
      subst (Admitted Q) (sym (inst_laid is (Applied.all_whole P G a mv) p l)) (in_block y.0 (get_or is p []) (subst (In (get_or is p [])) y.2 z.1))

  -- ---- operands and types in use

  ops_after : take Q.opers Q.ops ≡ take P.opers P.ops ++ Applied.extra P G a mv
  ops_after =
      let old = take P.opers P.ops in
      let more = Applied.extra P G a mv in
      take_at (old ++ more) (drop (P.opers + length more) P.ops) Q.opers (omega (arith, length-append old more, Applied.taken P G a mv))

  more_low : (j : Job) → Sound P Q.regs j → (r : ℕ) → In r (more_of P.ops j) → r < Q.regs
  more_low j s r i = go (changes P.ops j) i
    where
      go : (b : Bool) → In r (elim b as (λ z. List ℕ) [ true ↦ new_list P.ops j | false ↦ [] ]) → r < Q.regs
      go true i =
          let z = in_map j.rd r (list_of P.ops j.old) i in
          subst (λ (n : ℕ). n < Q.regs) (sym z.2) (s.rd_low z.0 (le_trans (list_low P ok j.old s.admitted z.0 z.1) (regs_more P G a mv).0))
      go false i = absurd i

  extra_low : (r : ℕ) → In r (Applied.extra P G a mv) → r < Q.regs
  extra_low r i =
      let z = concat_in r (map (more_of P.ops) (Applied.js P G a mv)) i in
      let y = in_map (more_of P.ops) z.0 (Applied.js P G a mv) z.2 in
      more_low y.0 (each_in (Sound P Q.regs) y.0 (Applied.js P G a mv) (Applied.sound P G a mv) y.1) r (subst (In r) y.2 z.1)

  small_types : Small (fresh P a).types
  small_types =
      pooled_small a.run (Applied.read_there P G a mv) (members P a) (record { free = []; held = []; types = take P.regs P.types; given = [] })
      (each_of (λ t. t ≤ 7) (take P.regs P.types) (λ t i. ltb-false 7 t (any_no (ltb 7) t (take P.regs P.types) ok.types_used i)))

  -- ---- A MOVE KEEPS ACCEPTANCE

  pub move_keeps : Accepted Q
  move_keeps = record {
    sizes = eight
        (le-ltb 4096 (nblocks Q) (omega (arith, few_blocks P ok, same_blocks P G a mv)))
        (le-ltb 32768 (length Q.locs) (omega (arith, few_insts P ok, same_locs P G a mv)))
        (le-ltb 65536 (length Q.types) (omega (arith, few_types P ok, same_types P G a mv)))
        (le-ltb 131072 (length Q.ops) (omega (arith, few_ops P ok, same_ops P G a mv)))
        (le-ltb 65536 (length P.pairs) (few_pairs P ok))
        (le-ltb 65536 (length P.targets) (few_targets P ok))
        (le-ltb (length Q.types) Q.regs (regs_more P G a mv).1)
        (le-ltb (length Q.ops) Q.opers (opers_more P G a mv).1);
    even = ap₂ ◌||◌ (ap₂ ◌||◌ (ap₂ ◌||◌ (ap not (eq-eqb (length Q.recs) (16 * length Q.locs) (recs_after P G a mv))) (ap not vias_fit)) bounds_even)
        (ne_eqb (length P.pairs % 2) 1 (λ e. let l = pairs_length P ok in omega arith));
    laid = ap (gaps 0 (length Q.locs)) (Applied.bounds_order P G a mv) ∙ gaps_spans 0 (length Q.locs) (order P a) (zero-add (length (concat (order P a))) ∙ sym (locs_order P G a mv));
    each = each_after;
    operands = no_any (leb Q.regs) (take Q.opers Q.ops)
        (λ r i. lt-leb Q.regs r (⊎_elim (λ j. le_trans (operand_low P ok r j) (regs_more P G a mv).0) (extra_low r) (in_split r (take P.opers P.ops) (Applied.extra P G a mv) (subst (In r) ops_after i))));
    case_targets = ap (λ (n : ℕ). any (leb n) P.targets) (same_blocks P G a mv) ∙ ok.case_targets;
    case_pairs = ok.case_pairs;
    types_used = no_any (ltb 7) (take Q.regs Q.types)
        (λ t i. le-ltb 7 t (each_in (λ t. t ≤ 7) t (fresh P a).types small_types (subst (In t) (take_at (fresh P a).types (drop (length (fresh P a).types) P.types) Q.regs refl) i)));
  }
    where
      vias_fit : (eqb (length Q.vias) 0 || eqb (length Q.vias) (length Q.locs)) ≡ true
      vias_fit = ⊎_elim
          (λ (z : length P.vias ≡ 0). ap (λ (b : Bool). b || eqb (length Q.vias) (length Q.locs)) (eq-eqb (length Q.vias) 0 (same_vias P G a mv ∙ z)))
          (λ (z : length P.vias ≡ length P.locs). ap (λ (b : Bool). eqb (length Q.vias) 0 || b) (eq-eqb (length Q.vias) (length Q.locs) (same_vias P G a mv ∙ z ∙ sym (same_locs P G a mv))) ∙ mathlib.Core.Bool.or-true (eqb (length Q.vias) 0))
          (vias_length P ok)

      bounds_even : eqb (length Q.bounds % 2) 1 ≡ false
      bounds_even = let l = Applied.bounds_length P G a mv in ne_eqb (length Q.bounds % 2) 1 (λ e. omega arith)

-- ---- rounds

pub moving : (P : Picture) (G : Facts) (a : Plan) → Accepted P → round P G ≡ Some a → fits P (apply P a) ≡ true → Moving P G a
moving P G a ok e f = record { ok = ok; choice = chosen P G a e; room = f }

-- A ROUND KEEPS ACCEPTANCE
pub keeps : (P : Picture) (G : Facts) (a : Plan) → Accepted P → round P G ≡ Some a → fits P (apply P a) ≡ true → Accepted (apply P a)
keeps P G a ok e f = move_keeps P G a (moving P G a ok e f)

-- and what was not refused is not, with the same work slices and records
pub round-not_refused : (P : Picture) (G : Facts) (a : Plan) (w64 w32 nf : ℕ) → refusal P w64 w32 nf ≡ 0 → round P G ≡ Some a → fits P (apply P a) ≡ true → refusal (apply P a) w64 w32 nf ≡ 0
round-not_refused P G a w64 w32 nf z e f =
    let ok = accepted P w64 w32 nf z in
    let mv = moving P G a ok e f in
    let w = work_room P w64 w32 nf z in
    not_refused (apply P a) w64 w32 nf (move_keeps P G a mv) (le_trans (le_of_eq (same_work64 P G a mv)) w.0) (le_trans (le_of_eq (same_work32 P G a mv)) w.1) w.2
