-- The tests of the forward pass, place by place. Assumes nothing.
use mathlib.Core.Path.{◌≡◌, refl, sym, ap, ap₂, ◌∙◌, subst}
use mathlib.Core.Logic.{◌⊎◌, inl, inr}
use mathlib.Core.Bool.{Bool, true, false, not, ◌&&◌, ◌||◌, cond, and-true}
use mathlib.Core.List.{List, [], ◌∷◌, map, ◌++◌}
use Prim.Native.Nat.{ℕ, zero, suc, ◌+◌, ◌-◌, ◌/◌, ◌%◌, ◌≤◌, ◌<◌}
use native.Mathlib.Omega.{arith}
use borrow.Author.Tests.{eq-eqb, ne_eqb, le-leb, lt-leb, not-true, not-false}
use lib.Dec.{eqb, leb}
use lib.ListN.{get_or, length}
use Rattle.words.specs.Lists.{In, all, conj}
use Rattle.words.proofs.Alls.{all_map, and_yes, and_nay}
use Rattle.words.proofs.Members.{in_get_or}
use Rattle.model.specs.Picture.{Inst, inst, absent, reads, list_of}
use Rattle.facts.specs.declared.Fact.{Fact}
use Rattle.inst.proofs.Gathered.{list_low as in_list}
use Rattle.regfacts.specs.Written.{Good}
use Rattle.regfacts.proofs.Visiting.{read_low}
use Rattle.legalset.specs.Chain.{reg_org, picked}
use Rattle.legalset.specs.Rules.{org_fine, still_fine}
use Rattle.summary.specs.Passes.{read_test, place_test, word_org, org_test, piece_test, froms, from_test, memory_test, own_test, stay_test, Near}

-- ---- rule 3

module _ (st : List ℕ) (p r : ℕ) where
  pub place_absent : r ≡ absent → true ≡ place_test st p r
  unfolding place_test
  place_absent e = sym (ap (λ (b : Bool). b || read_test st p r) (eq-eqb r absent e))

  pub place_there : {k : ℕ} → (r ≡ absent → ⊥) → k ≡ r → (eqb (get_or st k 0 / 4096 % 2) 1 || leb (get_or st k 0 % 1024) (p + 1)) ≡ place_test st p r
  unfolding place_test read_test
  place_there {k} n e =
      ap (λ (j : ℕ). eqb (get_or st j 0 / 4096 % 2) 1 || leb (get_or st j 0 % 1024) (p + 1)) e
      ∙ sym (ap (λ (x : Bool). x || (eqb (get_or st r 0 / 4096 % 2) 1 || leb (get_or st r 0 % 1024) (p + 1))) (ne_eqb r absent n))

pub place_is : (st : List ℕ) (p r : ℕ) {b : Bool} → b ≡ place_test st p r → b ≡ (eqb r absent || read_test st p r)
unfolding place_test
place_is st p r e = e

-- ---- rule 5

and4 : (a b c d : Bool) → (((a && b) && c) && d) ≡ conj (a ∷ b ∷ c ∷ d ∷ [])
and4 true true true true = refl
and4 true true true false = refl
and4 true true false d = refl
and4 true false c d = refl
and4 false b c d = refl

pub org_is : (lasts : List ℕ) (bar p o : ℕ) {k : ℕ} → k ≡ o
    → ((((eqb o 1 || leb 3 o) && (leb bar (p + 1) || eqb o 1)) && leb (get_or lasts 1 0 % 1024) (p + 1)) && (leb o 2 || leb (get_or lasts (k + 1) 0 % 1024) (p + 1))) ≡ org_test lasts bar p o
unfolding org_test org_fine
org_is lasts bar p o {k} e =
    ap (λ (j : ℕ). (((eqb o 1 || leb 3 o) && (leb bar (p + 1) || eqb o 1)) && leb (get_or lasts 1 0 % 1024) (p + 1)) && (leb o 2 || leb (get_or lasts (j + 1) 0 % 1024) (p + 1))) e
    ∙ and4 (eqb o 1 || leb 3 o) (leb bar (p + 1) || eqb o 1) (leb (get_or lasts 1 0 % 1024) (p + 1)) (leb o 2 || leb (get_or lasts (o + 1) 0 % 1024) (p + 1))

module _ (regs : List ℕ) {st : List ℕ} {r k : ℕ} (h : Near st) (l : r < length st) (e : k ≡ r) where
  pub reg_yes : 2048 ≤ get_or st k 0 → (get_or st k 0 / 8192 ≡ word_org regs r (get_or st r 0)) × (get_or st k 0 / 8192 < 2005)
  unfolding word_org
  reg_yes z = (
    sym (ap (λ (b : Bool). cond b (get_or st k 0 / 8192) (reg_org [] regs r 0)) (le-leb 2048 (get_or st k 0) z)) ∙ ap (λ (j : ℕ). cond (leb 2048 (get_or st j 0)) (get_or st j 0 / 8192) (reg_org [] regs r 0)) e,
    h.org k (subst (λ (x : ℕ). x < length st) (sym e) l),
  )

  none_is : get_or st k 0 < 2048 → word_org regs r (get_or st r 0) ≡ cond (eqb (get_or regs k 0 % 2) 1) 1 (cond (eqb (get_or regs k 0 / 2 % 2) 1) 3 0)
  unfolding word_org reg_org
  none_is z =
      ap (λ (j : ℕ). cond (leb 2048 (get_or st j 0)) (get_or st j 0 / 8192) (cond (eqb (get_or regs j 0 % 2) 1) 1 (cond (eqb (get_or regs j 0 / 2 % 2) 1) 3 0))) (sym e)
      ∙ ap (λ (b : Bool). cond b (get_or st k 0 / 8192) (cond (eqb (get_or regs k 0 % 2) 1) 1 (cond (eqb (get_or regs k 0 / 2 % 2) 1) 3 0))) (lt-leb 2048 (get_or st k 0) z)

  pub reg_ro : get_or st k 0 < 2048 → get_or regs k 0 % 2 ≡ 1 → (1 ≡ word_org regs r (get_or st r 0)) × (1 < 2005)
  reg_ro z a = (sym (none_is z ∙ ap (λ (b : Bool). cond b 1 (cond (eqb (get_or regs k 0 / 2 % 2) 1) 3 0)) (eq-eqb (get_or regs k 0 % 2) 1 a)), omega arith)

  pub reg_frame : get_or st k 0 < 2048 → (get_or regs k 0 % 2 ≡ 1 → ⊥) → get_or regs k 0 / 2 % 2 ≡ 1 → (3 ≡ word_org regs r (get_or st r 0)) × (3 < 2005)
  reg_frame z a b = (sym (none_is z ∙ ap₂ (λ (x y : Bool). cond x 1 (cond y 3 0)) (ne_eqb (get_or regs k 0 % 2) 1 a) (eq-eqb (get_or regs k 0 / 2 % 2) 1 b)), omega arith)

  pub reg_none : get_or st k 0 < 2048 → (get_or regs k 0 % 2 ≡ 1 → ⊥) → (get_or regs k 0 / 2 % 2 ≡ 1 → ⊥) → (0 ≡ word_org regs r (get_or st r 0)) × (0 < 2005)
  reg_none z a b = (sym (none_is z ∙ ap₂ (λ (x y : Bool). cond x 1 (cond y 3 0)) (ne_eqb (get_or regs k 0 % 2) 1 a) (ne_eqb (get_or regs k 0 / 2 % 2) 1 b)), omega arith)

module _ (regs st lasts : List ℕ) (bar p : ℕ) where
  pub piece_odd : (sc r : ℕ) → (sc % 2 ≡ 0 → ⊥) → true ≡ (not (eqb (sc % 2) 0) || piece_test regs st lasts bar p r)
  piece_odd sc r n = sym (ap (λ (b : Bool). not b || piece_test regs st lasts bar p r) (ne_eqb (sc % 2) 0 n))

  pub piece_even : (sc r : ℕ) {o : ℕ} {b : Bool} → sc % 2 ≡ 0 → o ≡ word_org regs r (get_or st r 0) → b ≡ org_test lasts bar p o → b ≡ (not (eqb (sc % 2) 0) || piece_test regs st lasts bar p r)
  unfolding piece_test
  piece_even sc r {o} e f g = g ∙ ap (org_test lasts bar p) f ∙ sym (ap (λ (b : Bool). not b || org_test lasts bar p (word_org regs r (get_or st r 0))) (eq-eqb (sc % 2) 0 e))

-- a Cat's list xs, of which a pair is the first two and next what comes after
module _ {xs : List ℕ} (pair next : List ℕ) (e : xs ≡ pair ++ next) (l : length pair ≡ 2) where
  pub next_low : {n : ℕ} → ((k : ℕ) → k < length xs → get_or xs k 0 < n) → (k : ℕ) → k < length next → get_or next k 0 < n
  next_low {n} h = go pair l (subst (λ (ys : List ℕ). (k : ℕ) → k < length ys → get_or ys k 0 < n) e h)
    where
      go : (ys : List ℕ) → length ys ≡ 2 → ((k : ℕ) → k < length (ys ++ next) → get_or (ys ++ next) k 0 < n) → (k : ℕ) → k < length next → get_or next k 0 < n
      go [] z h = absurd (omega arith)
      go (a ∷ []) z h = absurd (omega arith)
      go (a ∷ b ∷ []) z h = λ k m. h (suc (suc k)) (omega arith)
      go (a ∷ b ∷ c ∷ ys) z h = absurd (omega arith)

  pub first_low : {n : ℕ} → ((k : ℕ) → k < length xs → get_or xs k 0 < n) → get_or pair 0 0 < n
  first_low {n} h = go pair l (subst (λ (ys : List ℕ). (k : ℕ) → k < length ys → get_or ys k 0 < n) e h)
    where
      go : (ys : List ℕ) → length ys ≡ 2 → ((k : ℕ) → k < length (ys ++ next) → get_or (ys ++ next) k 0 < n) → get_or ys 0 0 < n
      go [] z h = absurd (omega arith)
      go (a ∷ ys) z h = h 0 (omega arith)

  module _ (f : ℕ → Bool) (sc : ℕ) {b n : Bool} {r : ℕ} (i : all f (picked sc xs) ≡ n) (q : get_or pair 0 0 ≡ r) (d : b ≡ (not (eqb (sc % 2) 0) || f r)) where
    both : (b && all f (picked (sc / 2) next)) ≡ n
    unfolding picked
    both = ap (λ (y : Bool). y && all f (picked (sc / 2) next)) (d ∙ ap (λ (x : ℕ). not (eqb (sc % 2) 0) || f x) (sym q)) ∙ sym (go pair l (eqb (sc % 2) 0) refl) ∙ ap (λ (ys : List ℕ). all f (picked sc ys)) (sym e) ∙ i
      where
        go : (ys : List ℕ) → length ys ≡ 2 → (c : Bool) → eqb (sc % 2) 0 ≡ c → all f (picked sc (ys ++ next)) ≡ ((not c || f (get_or ys 0 0)) && all f (picked (sc / 2) next))
        go [] z c t = absurd (omega arith)
        go (a ∷ []) z c t = absurd (omega arith)
        go (a ∷ b ∷ []) z true t = ap (λ (x : Bool). all f (cond x (a ∷ picked (sc / 2) next) (picked (sc / 2) next))) t
        go (a ∷ b ∷ []) z false t = ap (λ (x : Bool). all f (cond x (a ∷ picked (sc / 2) next) (picked (sc / 2) next))) t
        go (a ∷ b ∷ c ∷ ys) z x t = absurd (omega arith)

    pub pick_no : b ≡ false → false ≡ n
    pick_no t = ap (λ (x : Bool). x && all f (picked (sc / 2) next)) (sym t) ∙ both

    pub pick_on : b ≡ true → all f (picked (sc / 2) next) ≡ n
    pick_on t = ap (λ (x : Bool). x && all f (picked (sc / 2) next)) (sym t) ∙ both

pub pick_end : (f : ℕ → Bool) (xs : List ℕ) (sc : ℕ) {n : Bool} → all f (picked sc xs) ≡ n → length xs < 2 → true ≡ n
unfolding picked
pick_end f xs sc i h = go xs h ∙ i
  where
    go : (ys : List ℕ) → length ys < 2 → true ≡ all f (picked sc ys)
    go [] l = refl
    go (a ∷ []) l = refl
    go (a ∷ b ∷ ys) l = absurd (omega (arith, l))

one_origin : (regs ops : List ℕ) (i : Inst) (st : List ℕ) (o : ℕ) → (suc o ≡ 4294967295 → ⊥) → froms regs ops i st (suc o) ≡ o ∷ []
unfolding froms
one_origin regs ops i st o n = ap (λ (b : Bool). cond b (map (λ r. word_org regs r (get_or st r 0)) (picked (get_or i 9 0) (list_of ops i))) (o ∷ [])) (ne_eqb (suc o) 4294967295 n)

module _ (regs ops : List ℕ) (i : Inst) (st lasts : List ℕ) (bar x p : ℕ) where
  pub from_none : x ≡ 0 → true ≡ from_test regs ops i st lasts bar x p
  unfolding from_test froms
  from_none z = sym (ap (λ (y : ℕ). all (org_test lasts bar p) (froms regs ops i st y)) z)

  pub from_one : {b : Bool} → (x ≡ 0 → ⊥) → (x ≡ 4294967295 → ⊥) → b ≡ org_test lasts bar p (x - 1) → b ≡ from_test regs ops i st lasts bar x p
  unfolding from_test
  from_one {b} z n f = f ∙ is x z n
    where
      is : (x : ℕ) → (x ≡ 0 → ⊥) → (x ≡ 4294967295 → ⊥) → org_test lasts bar p (x - 1) ≡ all (org_test lasts bar p) (froms regs ops i st x)
      is zero z n = absurd (z refl)
      is (suc o) z n = let q : suc o - 1 ≡ o = omega arith in ap (org_test lasts bar p) q ∙ sym (and-true (org_test lasts bar p o)) ∙ sym (ap (all (org_test lasts bar p)) (one_origin regs ops i st o n))

  pub from_cat : {sc : ℕ} {xs : List ℕ} {b : Bool} → x ≡ 4294967295 → xs ≡ list_of ops i → sc ≡ get_or i 9 0 → b ≡ all (piece_test regs st lasts bar p) (picked sc xs) → b ≡ from_test regs ops i st lasts bar x p
  unfolding from_test froms piece_test
  from_cat {sc} {xs} z f g h =
      h ∙ ap₂ (λ (s : ℕ) (l : List ℕ). all (λ r. org_test lasts bar p (word_org regs r (get_or st r 0))) (picked s l)) g f
      ∙ sym (all_map (org_test lasts bar p) (λ r. word_org regs r (get_or st r 0)) (picked (get_or i 9 0) (list_of ops i)))
      ∙ ap (λ (y : ℕ). all (org_test lasts bar p) (froms regs ops i st y)) (sym z)

-- ---- rule 6, and rule 5 for what creates or writes

pub own_words : (lasts : List ℕ) (o : ℕ) {k : ℕ} → k ≡ o → (eqb o 0 || leb 1024 (get_or lasts k 0)) ≡ own_test lasts o
unfolding own_test
own_words lasts o f = ap (λ (b : ℕ). eqb o 0 || leb 1024 (get_or lasts b 0)) f

pub still_is : (p bar : ℕ) (c : Bool) (o : ℕ) → (leb bar (p + 1) || (not c && eqb o 0)) ≡ still_fine p bar c o
unfolding still_fine
still_is p bar c o = refl

module _ (recs ops regs st lasts : List ℕ) (f : Fact) (bar p : ℕ) {x : Bool} (e : x ≡ still_fine p bar f.creates f.wrote) where
  pub memory_no : not x ≡ true → false ≡ memory_test recs ops regs st lasts f bar p
  unfolding memory_test
  memory_no t = and_nay (from_test regs ops (inst recs f.rec) st lasts bar f.from p) e (not-true x t)

  pub memory_on : {y : Bool} → not x ≡ false → y ≡ from_test regs ops (inst recs f.rec) st lasts bar f.from p → y ≡ memory_test recs ops regs st lasts f bar p
  unfolding memory_test
  memory_on t k = and_yes e (not-false x t) k

-- ---- all of them

-- a is of rule 4, b of rule 6 besides, c of rule 5 besides
together : (m r3 r4 r5 r6 : Bool) {a b c : Bool} → a ≡ (m && r4) → b ≡ (a && r6) → c ≡ (b && r5) → (m && conj (r3 ∷ r4 ∷ r5 ∷ r6 ∷ [])) ≡ (c && r3)
together m r3 r4 r5 r6 x y z = all_of_them m r3 r4 r5 r6 ∙ sym (ap (λ (v : Bool). v && r3) (z ∙ ap (λ (v : Bool). v && r5) (y ∙ ap (λ (v : Bool). v && r6) x)))
  where
    all_of_them : (m r3 r4 r5 r6 : Bool) → (m && conj (r3 ∷ r4 ∷ r5 ∷ r6 ∷ [])) ≡ ((((m && r4) && r6) && r5) && r3)
    all_of_them false r3 r4 r5 r6 = refl
    all_of_them true true true true true = refl
    all_of_them true true true true false = refl
    all_of_them true true true false true = refl
    all_of_them true true true false false = refl
    all_of_them true true false r5 r6 = refl
    all_of_them true false true true true = refl
    all_of_them true false true true false = refl
    all_of_them true false true false true = refl
    all_of_them true false true false false = refl
    all_of_them true false false r5 r6 = refl

-- ---- sizes

pub from_small : {x : ℕ} → (x ≤ 2004) ⊎ (x ≡ 4294967295) → (x ≡ 4294967295 → ⊥) → x - 1 < 2005
from_small (inl h) n = omega arith
from_small (inr h) n = absurd (n h)

pub list_low : {recs ops : List ℕ} {R g : ℕ} {xs : List ℕ} → Good recs ops R g → xs ≡ list_of ops (inst recs g) → (k : ℕ) → k < length xs → get_or xs k 0 < R
list_low {recs} {ops} {R} {g} {xs} h e k l = (in_list ops (inst recs g) (read_low h)).each (get_or xs k 0) (subst (In (get_or xs k 0)) e (in_get_or 0 xs k l))

-- ---- rules 4, 6, 5 and 3, in this order

module _ (recs ops regs st lasts : List ℕ) (d : Fact) (sus bar p : ℕ) {a b c : Bool} (four : a ≡ (d.member && leb sus (p + 1))) (six : b ≡ (a && own_test lasts d.wrote)) (five : c ≡ (b && memory_test recs ops regs st lasts d bar p)) where
  pub by_rules : {v : Bool} → c ≡ true → v ≡ all (read_test st p) (reads ops (inst recs d.rec)) → v ≡ (d.member && stay_test recs ops regs st lasts d sus bar p)
  unfolding stay_test
  by_rules t e = e ∙ sym (together _ (all (read_test st p) (reads ops (inst recs d.rec))) _ _ _ four six five ∙ ap (λ (x : Bool). x && all (read_test st p) (reads ops (inst recs d.rec))) t)

  pub none_stay : c ≡ false → c ≡ (d.member && stay_test recs ops regs st lasts d sus bar p)
  unfolding stay_test
  none_stay t = t ∙ sym (together _ (all (read_test st p) (reads ops (inst recs d.rec))) _ _ _ four six five ∙ ap (λ (x : Bool). x && all (read_test st p) (reads ops (inst recs d.rec))) t)
