-- The register of each slot, put behind those of the slots before it. Assumes nothing.
use Rattle.std.specs.Prelude.{Option}
use mathlib.Core.Path.{◌≡◌, refl, sym, ap, subst, ◌∙◌}
use mathlib.Core.Logic.{inl, ⊎_elim}
use mathlib.Core.Bool.{Bool, true, false, cond}
use mathlib.Core.List.{List, [], ◌∷◌, ◌++◌, map, append_assoc, append-nil}
use Prim.Native.Nat.{ℕ, ◌+◌, ◌≤◌, ◌<◌}
use native.Mathlib.Omega.{arith}
use lib.Dec.{eqb, ltb}
use lib.ListN.{get_or, length, take, drop, length-append}
use borrow.Author.Tests.{eq-eqb, ne_eqb, ltb-true, ltb-false}
use Rattle.words.specs.Lists.{In, upto, concat}
use Rattle.words.proofs.Bools.{eq?}
use Rattle.words.proofs.Members.{in_left, in_right, in_concat, map_in, in_range}
use Rattle.model.specs.Picture.{Inst, inst, absent, reads, writes, list_of}
use Rattle.inst.specs.declared.index.Reg.{Reg}
use Rattle.inst.specs.declared.regs.Regs.{Regs}
use Rattle.inst.specs.Index.{reg_of, pick, one, Low}
use Rattle.inst.specs.Regs.{numbers}
use Rattle.inst.specs.Record.{Within, present, read_at, write_at, rest_reads, rest_writes}
use Rattle.inst.proofs.Rest.{reads_step, writes_step, reads_all, reads_by_place, writes_by_place}

-- ---- a word, by its range test

-- a word that is absent, or a register's
one_of : (n c : ℕ) {r : Option Reg} → c ≤ absent → ((n ≡ absent → ⊥) → n < c) → r ≡ reg_of n c → one r ≡ present n
unfolding reg_of present
one_of n c {r} few low e = ap one e ∙ go (ltb n c) refl
  where
    go : (b : Bool) → ltb n c ≡ b → one (pick b (record { 0 = n })) ≡ cond (eqb n absent) [] (n ∷ [])
    go true q =
        let l = ltb-true n c q in
        sym (ap (λ (b : Bool). cond b [] (n ∷ [])) (ne_eqb n absent (λ z. absurd (omega arith))))
    go false q =
        let g = ltb-false n c q in
        sym (ap (λ (b : Bool). cond b [] (n ∷ [])) (⊎_elim (eq-eqb n absent) (λ (z : n ≡ absent → ⊥). let y = low z in absurd (omega arith)) (eq? n absent)))

present_in : (r : ℕ) → (r ≡ absent → ⊥) → In r (present r)
unfolding present
present_in r n = subst (λ (b : Bool). In r (cond b [] (r ∷ []))) (sym (ne_eqb r absent n)) (inl refl)

-- the registers of a slot are among those of all
module _ (g : ℕ → ℕ) (s : ℕ) (h : s < 5) where
  by_place : (l : List ℕ) → concat (map (λ k. present (g k)) (upto 5)) ≡ l → (g s ≡ absent → ⊥) → In (g s) l
  by_place l e n =
      subst (In (g s)) e
      (in_concat (g s) (present (g s)) (map (λ k. present (g k)) (upto 5)) (present_in (g s) n) (map_in (λ k. present (g k)) s (upto 5) (in_range s 0 5 (omega arith) (omega arith))))

-- slot s before the slots after it
module _ (recs : List ℕ) (p : ℕ) {c s : ℕ} (w : Within recs p) (h : s < 5) {r : Option Reg} where
  slot_read : Low c (rest_reads (inst recs p) 0) → r ≡ reg_of (read_at (inst recs p) s) c → one r ≡ present (read_at (inst recs p) s)
  unfolding rest_reads
  slot_read l = one_of (read_at (inst recs p) s) c (omega (arith, l.few)) (λ n. l.each _ (by_place (read_at (inst recs p)) s h _ (reads_by_place recs p w) n))

  slot_written : Low c (writes (inst recs p)) → r ≡ reg_of (write_at (inst recs p) s) c → one r ≡ present (write_at (inst recs p) s)
  slot_written l = one_of (write_at (inst recs p) s) c (omega (arith, l.few)) (λ n. l.each _ (by_place (write_at (inst recs p)) s h _ (writes_by_place recs p w) n))

  pub read_next : Low c (rest_reads (inst recs p) 0) → r ≡ reg_of (read_at (inst recs p) s) c → rest_reads (inst recs p) s ≡ one r ++ rest_reads (inst recs p) (s + 1)
  read_next l e = reads_step recs p w s h ∙ ap (λ (xs : List ℕ). xs ++ rest_reads (inst recs p) (s + 1)) (sym (slot_read l e))

  pub write_next : Low c (writes (inst recs p)) → r ≡ reg_of (write_at (inst recs p) s) c → rest_writes (inst recs p) s ≡ one r ++ rest_writes (inst recs p) (s + 1)
  write_next l e = writes_step recs p w s h ∙ ap (λ (xs : List ℕ). xs ++ rest_writes (inst recs p) (s + 1)) (sym (slot_written l e))

-- two parts of such registers
module _ {c : ℕ} (xs ys : List ℕ) {zs : List ℕ} (e : xs ++ ys ≡ zs) (l : Low c zs) where
  pub slots_below : Low c xs
  slots_below = record { few = l.few; each = λ q i. l.each q (subst (In q) e (in_left q xs ys i)) }

  pub list_below : Low c ys
  list_below = record { few = l.few; each = λ q i. l.each q (subst (In q) e (in_right q xs ys i)) }

-- what it reads in its slots, and in its list
module _ (ops : List ℕ) (i : Inst) {c : ℕ} (l : Low c (reads ops i)) where
  pub slots_low : Low c (rest_reads i 0)
  slots_low = slots_below (rest_reads i 0) (list_of ops i) (reads_all ops i) l

  pub list_low : Low c (list_of ops i)
  list_low = list_below (rest_reads i 0) (list_of ops i) (reads_all ops i) l

-- ---- the loops that gather them

-- x has all but the rest, and there is room for that
pub record Gathering (N : ℕ) (x : Regs N) (rest all : List ℕ) : Type 0 where
  pub so_far : numbers x ++ rest ≡ all
  pub room : x.count + length rest ≤ N

module _ {N : ℕ} {x : Regs N} {all : List ℕ} where
  pub gathering_none : numbers x ≡ [] → x.count ≡ 0 → length all ≤ N → Gathering N x all all
  gathering_none e n h = record { so_far = ap (λ (l : List ℕ). l ++ all) e; room = omega (arith, n, h) }

  -- a register r, if it is one, and then more
  module _ (r : Option Reg) (more : List ℕ) {rest : List ℕ} (g : Gathering N x rest all) (e : rest ≡ one r ++ more) where
    split : length rest ≡ length (one r) + length more
    split = ap length e ∙ length-append (one r) more

    pub gathering_room : x.count + length (one r) ≤ N
    gathering_room = omega (arith, split, g.room)

    pub gathering_more : {y : Regs N} → numbers y ≡ numbers x ++ one r → y.count ≡ x.count + length (one r) → Gathering N y more all
    gathering_more q n = record {
      so_far = ap (λ (l : List ℕ). l ++ more) q ∙ append_assoc (numbers x) (one r) more ∙ ap (λ (l : List ℕ). numbers x ++ l) (sym e) ∙ g.so_far;
      room = omega (arith, split, g.room, n);
    }

  pub gathering_end : {rest : List ℕ} → Gathering N x rest all → rest ≡ [] → numbers x ≡ all
  gathering_end g e = sym (append-nil (numbers x)) ∙ ap (λ (l : List ℕ). numbers x ++ l) (sym e) ∙ g.so_far

-- what was gathered in the slots, and the list where it lies
pub visited : (xs ops : List ℕ) (i : Inst) {s n : ℕ} → xs ≡ rest_reads i 0 → s ≡ get_or i 7 0 → n ≡ get_or i 8 0
    → xs ++ take n (drop s ops) ≡ reads ops i
visited xs ops i {s} {n} e a l =
    ap (λ (k : List ℕ). k ++ take n (drop s ops)) e
    ∙ ap (λ (m : ℕ). rest_reads i 0 ++ take n (drop m ops)) a
    ∙ ap (λ (m : ℕ). rest_reads i 0 ++ take m (drop (get_or i 7 0) ops)) l
    ∙ reads_all ops i
