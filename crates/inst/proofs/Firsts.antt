-- The first registers read and written, one slot put before the others. Assumes nothing.
use mathlib.Core.Bool.{Bool, true, false, cond, not, ◌&&◌, ◌||◌}
use mathlib.Core.List.{List, [], ◌∷◌, ◌++◌, append_assoc}
use mathlib.Core.Path.{◌≡◌, refl, sym, ap, ◌∙◌, subst}
use Prim.Native.Nat.{ℕ, zero, suc, ◌+◌, ◌/◌, ◌%◌, ◌<◌, ◌≤◌}
use native.Mathlib.Nat.{not-suc-le-zero, le_of_suc-le-suc}
use native.Mathlib.Omega.{arith}
use borrow.Author.Tests.{eq-eqb, ne_eqb, eqb-false, ltb-true}
use lib.Dec.{eqb, ltb}
use lib.ListN.{get_or, length}
use Rattle.words.proofs.Bools.{or_left, or_right}
use Rattle.model.specs.Kinds.{Role, writing}
use Rattle.model.specs.Picture.{Inst, inst, absent, roles, slots, chosen, list_of, reads, writes}
use Rattle.inst.specs.declared.scanned.Firsts.{Firsts}
use Rattle.inst.specs.Table.{two_bits}
use Rattle.inst.specs.Record.{Used, read_at, write_at, later, readers, writers, present, rest_reads, rest_writes}
use Rattle.inst.specs.Firsts.{Heads}
use Rattle.inst.proofs.Slots.{read_no, write_no}
use Rattle.inst.proofs.Rest.{reads_next, writes_next, reads_end, writes_end, reads_all, writes_all}

pub present_none : {r : ℕ} (ys : List ℕ) → r ≡ absent → present r ++ ys ≡ ys
unfolding present
present_none {r} ys e = ap (λ (b : Bool). cond b [] (r ∷ []) ++ ys) (eq-eqb r absent e)

pub present_some : {r : ℕ} (ys : List ℕ) → (r ≡ absent → ⊥) → present r ++ ys ≡ r ∷ ys
unfolding present
present_some {r} ys n = ap (λ (b : Bool). cond b [] (r ∷ []) ++ ys) (ne_eqb r absent n)

module _ {rs ds : List ℕ} {x : Firsts} (r : ℕ) (h : Heads rs ds x) where
  pub none_read : r ≡ absent → Heads (present r ++ rs) ds x
  none_read e = subst (λ (l : List ℕ). Heads l ds x) (sym (present_none rs e)) h

  pub none_written : r ≡ absent → Heads rs (present r ++ ds) x
  none_written e = subst (λ (l : List ℕ). Heads rs l x) (sym (present_none ds e)) h

  pub one_read : (r ≡ absent → ⊥) → Heads (present r ++ rs) ds (record { r0 = r; r1 = x.r0; r2 = x.r1; d0 = x.d0; d1 = x.d1 })
  one_read n =
      subst (λ (l : List ℕ). Heads l ds (record { r0 = r; r1 = x.r0; r2 = x.r1; d0 = x.d0; d1 = x.d1 })) (sym (present_some rs n))
      (record { r0 = refl; r1 = h.r0; r2 = h.r1; d0 = h.d0; d1 = h.d1 })

  pub one_written : (r ≡ absent → ⊥) → Heads rs (present r ++ ds) (record { r0 = x.r0; r1 = x.r1; r2 = x.r2; d0 = r; d1 = x.d0 })
  one_written n =
      subst (λ (l : List ℕ). Heads rs l (record { r0 = x.r0; r1 = x.r1; r2 = x.r2; d0 = r; d1 = x.d0 })) (sym (present_some ds n))
      (record { r0 = h.r0; r1 = h.r1; r2 = h.r2; d0 = refl; d1 = h.d0 })

module _ (recs : List ℕ) (p u : ℕ) (g : Used recs p u) where
  abbrev i : Inst
  i = inst recs p

  -- what slot s reads and writes comes before the rest
  pub slot_more : (s r d : ℕ) → s < 5 → r ≡ read_at i s → d ≡ write_at i s → (l : List ℕ) {y : Firsts}
      → Heads (present r ++ (rest_reads i (s + 1) ++ l)) (present d ++ rest_writes i (s + 1)) y → Heads (rest_reads i s ++ l) (rest_writes i s) y
  slot_more s r d h er ed l {y} z =
      let a : present r ++ (rest_reads i (s + 1) ++ l) ≡ rest_reads i s ++ l =
      sym (ap (λ (k : List ℕ). k ++ l) (reads_next recs p g.within s h er) ∙ append_assoc (present r) (rest_reads i (s + 1)) l) in
      subst (λ (k : List ℕ). Heads k (rest_writes i s) y) a
      (subst (λ (k : List ℕ). Heads (present r ++ (rest_reads i (s + 1) ++ l)) k y) (sym (writes_next recs p g.within s h ed)) z)

  -- after the last slot
  pub no_slot : (l : List ℕ) {x : Firsts} → Heads l [] x → Heads (rest_reads i 5 ++ l) (rest_writes i 5) x
  no_slot l {x} h =
      subst (λ (k : List ℕ). Heads (k ++ l) (rest_writes i 5) x) (sym (reads_end recs p g.within 5 (omega arith)))
      (subst (λ (k : List ℕ). Heads l k x) (sym (writes_end recs p g.within 5 (omega arith))) h)

  -- slots 3 and 4 do nothing
  module _ (few : u < 4096) where
    idle : (s : ℕ) → s < 5 → (two_bits u s ≡ 0) → (l : List ℕ) {x : Firsts} → Heads (rest_reads i (s + 1) ++ l) (rest_writes i (s + 1)) x → Heads (rest_reads i s ++ l) (rest_writes i s) x
    idle s h z l w =
        slot_more s absent absent h (read_no recs p u s g h _ refl (λ q. omega arith)) (write_no recs p u s g h _ refl (λ q. omega arith)) l
        (none_written absent (none_read absent w refl) refl)

    pub no_last : (l : List ℕ) {x : Firsts} → Heads l [] x → Heads (rest_reads i 3 ++ l) (rest_writes i 3) x
    no_last l h =
        let a : two_bits u 3 ≡ 0 = omega arith in
        let b : two_bits u 4 ≡ 0 = omega arith in
        idle 3 (omega arith) a l (idle 4 (omega arith) b l (no_slot l h))

  -- ---- what most kinds do: they read in the first three slots, and write in the first

  not_read : (s : ℕ) → s < 5 → (two_bits u s ≡ 0) → rest_reads i (s + 1) ≡ [] → rest_reads i s ≡ []
  not_read s h z e = reads_next recs p g.within s h (read_no recs p u s g h _ refl (λ q. omega arith)) ∙ present_none (rest_reads i (s + 1)) refl ∙ e

  no_last_read : u < 4096 → rest_reads i 3 ≡ []
  no_last_read few =
      let z : two_bits u 3 ≡ 0 = omega arith in
      let y : two_bits u 4 ≡ 0 = omega arith in
      not_read 3 (omega arith) z (not_read 4 (omega arith) y (reads_end recs p g.within 5 (omega arith)))

  -- none after those that may read does
  pub readers_end : {s : ℕ} → s ≡ readers u → rest_reads i s ≡ []
  readers_end {s} e = go (ltb u 4096) refl
    where
      go : (b : Bool) → ltb u 4096 ≡ b → rest_reads i s ≡ []
      go true k = ap (rest_reads i) (e ∙ ap {B = ℕ} (λ (b : Bool). cond b 3 5) k) ∙ no_last_read (ltb-true u 4096 k)
      go false k = reads_end recs p g.within s (let z = ap {B = ℕ} (λ (b : Bool). cond b 3 5) k in omega (arith, e, z))

  not_written : (s : ℕ) → s < 5 → (two_bits u s / 2 ≡ 1 → ⊥) → rest_writes i (s + 1) ≡ [] → rest_writes i s ≡ []
  not_written s h n e = writes_next recs p g.within s h (write_no recs p u s g h _ refl n) ∙ present_none (rest_writes i (s + 1)) refl ∙ e

  no_later : later u ≡ false → rest_writes i 1 ≡ []
  no_later e =
      let f3 = or_left _ _ e in
      let f2 = or_left _ _ f3 in
      let n1 = eqb-false (u / 32 % 2) 1 (or_left _ _ f2) in
      let n2 = eqb-false (u / 512 % 2) 1 (or_right (eqb (u / 32 % 2) 1) _ f2) in
      let n3 = eqb-false (u / 8192 % 2) 1 (or_right (eqb (u / 32 % 2) 1 || eqb (u / 512 % 2) 1) _ f3) in
      let n4 = eqb-false (u / 131072 % 2) 1 (or_right (eqb (u / 32 % 2) 1 || eqb (u / 512 % 2) 1 || eqb (u / 8192 % 2) 1) _ e) in
      not_written 1 (omega arith) (λ q. n1 (omega arith)) (not_written 2 (omega arith) (λ q. n2 (omega arith)) (not_written 3 (omega arith) (λ q. n3 (omega arith)) (not_written 4 (omega arith) (λ q. n4 (omega arith)) (writes_end recs p g.within 5 (omega arith)))))

  -- none after those that may write does
  pub writers_end : {s : ℕ} → s ≡ writers u → rest_writes i s ≡ []
  writers_end {s} e = go (later u) refl
    where
      go : (b : Bool) → later u ≡ b → rest_writes i s ≡ []
      go true k = writes_end recs p g.within s (let z = ap {B = ℕ} (λ (b : Bool). cond b 5 1) k in omega (arith, e, z))
      go false k = ap (rest_writes i) (e ∙ ap {B = ℕ} (λ (b : Bool). cond b 5 1) k) ∙ no_later k

-- no more than there are
pub readers_few : (u : ℕ) → readers u ≤ 5
readers_few u = go (ltb u 4096)
  where
    go : (b : Bool) → cond b 3 5 ≤ 5
    go true = omega arith
    go false = omega arith

pub writers_few : (u : ℕ) → writers u ≤ 5
writers_few u = go (later u)
  where
    go : (b : Bool) → cond b 5 1 ≤ 5
    go true = omega arith
    go false = omega arith

-- the slots and then the list are all that it reads
pub scanned : {recs recs' : List ℕ} (p : ℕ) {xs : List ℕ} {x : Firsts} → recs' ≡ recs → (ops : List ℕ) → xs ≡ list_of ops (inst recs p)
    → Heads (rest_reads (inst recs' p) 0 ++ xs) (rest_writes (inst recs' p) 0) x → Heads (reads ops (inst recs p)) (writes (inst recs p)) x
scanned {recs} {recs'} p {xs} {x} e ops l h =
    let i : Inst = inst recs p in
    let at_list : Heads (rest_reads i 0 ++ list_of ops i) (rest_writes i 0) x =
    subst (λ (k : List ℕ). Heads (rest_reads i 0 ++ k) (rest_writes i 0) x) l (subst (λ (rs : List ℕ). Heads (rest_reads (inst rs p) 0 ++ xs) (rest_writes (inst rs p) 0) x) e h) in
    subst (λ (k : List ℕ). Heads k (writes i) x) (reads_all ops i) (subst (λ (k : List ℕ). Heads (rest_reads i 0 ++ list_of ops i) k x) (writes_all i) at_list)

-- ---- where no third is read, or no second written, these are all

-- none of these is absent
pub record Present (xs : List ℕ) : Type 0 where
  pub each : (k : ℕ) → k < length xs → get_or xs k absent ≡ absent → ⊥

alone : {r : ℕ} → (r ≡ absent → ⊥) → present r ≡ r ∷ []
unfolding present
alone {r} n = ap (λ (b : Bool). cond b [] (r ∷ [])) (ne_eqb r absent n)

one_of : (xs : List ℕ) → Present xs → get_or xs 1 absent ≡ absent → xs ≡ present (get_or xs 0 absent)
unfolding present
one_of [] n e = refl
one_of (a ∷ []) n e = sym (alone (n.each 0 (omega arith)))
one_of (a ∷ b ∷ xs) n e = absurd (n.each 1 (omega arith) e)

two_of : (xs : List ℕ) → Present xs → get_or xs 2 absent ≡ absent → xs ≡ present (get_or xs 0 absent) ++ present (get_or xs 1 absent)
unfolding present
two_of [] n e = refl
two_of (a ∷ []) n e = sym (present_some [] (n.each 0 (omega arith)))
two_of (a ∷ b ∷ []) n e = sym (present_some (present b) (n.each 0 (omega arith)) ∙ ap (λ (l : List ℕ). a ∷ l) (alone (n.each 1 (omega arith))))
two_of (a ∷ b ∷ d ∷ xs) n e = absurd (n.each 2 (omega arith) e)

some_chosen : (f : Role → Bool) (os : List Role) (rs : List ℕ) → Present (chosen f os rs)
some_chosen f [] rs = record { each = λ k h e. not-suc-le-zero h }
some_chosen f (o ∷ os) [] = record { each = λ k h e. not-suc-le-zero h }
some_chosen f (o ∷ os) (r ∷ rs) = go (f o) (eqb r absent) refl (some_chosen f os rs)
  where
    first : (r ≡ absent → ⊥) → (xs : List ℕ) → Present xs → (k : ℕ) → k < length (r ∷ xs) → get_or (r ∷ xs) k absent ≡ absent → ⊥
    first n xs s zero h e = n e
    first n xs s (suc k) h e = s.each k (le_of_suc-le-suc h) e

    go : (b c : Bool) → eqb r absent ≡ c → {xs : List ℕ} → Present xs → Present (cond (b && not c) (r ∷ xs) xs)
    go true true q s = s
    go true false q {xs} s = record { each = first (eqb-false r absent q) xs s }
    go false c q s = s

pub all_written : (i : Inst) {d0 d1 : ℕ} → d0 ≡ get_or (writes i) 0 absent → d1 ≡ get_or (writes i) 1 absent → d1 ≡ absent → writes i ≡ present d0
all_written i h0 h1 e = one_of (writes i) (some_chosen writing (roles i) (slots i)) (sym h1 ∙ e) ∙ ap present (sym h0)

pub all_read : {rs ds : List ℕ} {x : Firsts} → Heads rs ds x → Present rs → x.r2 ≡ absent → rs ≡ present x.r0 ++ present x.r1
all_read {rs} {ds} {x} h s e = two_of rs s (sym h.r2 ∙ e) ∙ ap (λ (r : ℕ). present r ++ present (get_or rs 1 absent)) (sym h.r0) ∙ ap (λ (r : ℕ). present x.r0 ++ present r) (sym h.r1)
