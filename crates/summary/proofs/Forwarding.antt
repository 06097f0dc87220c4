-- The forward pass: what its words test is rules 3 to 6, and one position after the other. Assumes nothing.
use mathlib.Core.Path.{◌≡◌, refl, sym, ap, ap₂, ◌∙◌, subst}
use mathlib.Core.Logic.{◌⊎◌, inl, inr, ⊎_elim}
use mathlib.Core.Bool.{Bool, true, false, not, ◌&&◌, ◌||◌, cond}
use mathlib.Core.List.{List, [], ◌∷◌, map}
use Prim.Native.Nat.{ℕ, zero, suc, ◌+◌, ◌*◌, ◌-◌, ◌/◌, ◌%◌, ◌≤◌, ◌<◌, max}
use native.Mathlib.Numerals.{add-one}
use native.Mathlib.Omega.{arith}
use borrow.Author.Tests.{eq-eqb, ne_eqb, eqb-true, le-leb, lt-leb}
use lib.Dec.{eqb, leb, leb→le}
use lib.ListN.{get_or, length, set, length-set}
use lib.Seq.{get_or-set_same, get_or-set_other, set-get_or}
use Rattle.words.specs.Lists.{In, all, mem, conj, hit}
use Rattle.words.specs.Last.{last_below}
use Rattle.words.proofs.Bools.{eq?, true_T, hit_le}
use Rattle.words.proofs.Members.{in_map, map_on, all_on}
use Rattle.words.proofs.Lasts.{last_step, last_low}
use Rattle.model.specs.Picture.{Inst, inst, reads, writes, list_of}
use Rattle.effects.specs.Origin.{num}
use Rattle.facts.specs.declared.Fact.{Fact}
use Rattle.facts.specs.Marks.{fact_in}
use Rattle.legalset.specs.Chain.{view, defs_of, writer, reg_org, picked, origins, Safe}
use Rattle.legalset.specs.Marks.{in_set, sifted, lost}
use Rattle.legalset.specs.Rules.{last_kept, when_in, read_fine, org_fine, own_memory, still_fine, reads_ok, origins_ok, suspends_ok, memory_ok, own_ok, forward_ok}
use Rattle.legalset.proofs.Lasting.{writer_low}
use Rattle.legalset.proofs.Dropping.{passed_none, passed_up}
use Rattle.legalset.proofs.Easier.{forward_mono}
use Rattle.summary.specs.Passes.{over, stamp, writer_word, Stamped, Stamps, Writes, read_test, word_org, org_test, froms, from_test, memory_test, member_at, own_test, stay_test, fact_word, forgot, forgotten, with_writes, Forwarded, Summed, Going, Shows}
use Rattle.summary.specs.declared.notes.Lasts.{Lasts}
use Rattle.summary.proofs.Summing.{at_parts, same_at}
use Rattle.inst.proofs.Gathered.{list_low}
use Rattle.regfacts.proofs.Visiting.{read_low}

in_picked : (sc : ℕ) (xs : List ℕ) (r : ℕ) → In r (picked sc xs) → In r xs
unfolding picked
in_picked sc [] r i = i
in_picked sc (a ∷ []) r i = absurd i
in_picked sc (a ∷ b ∷ xs) r i = go (eqb (sc % 2) 0) (in_picked (sc / 2) xs r) i
  where
    go : (c : Bool) → (In r (picked (sc / 2) xs) → In r xs) → In r (cond c (a ∷ picked (sc / 2) xs) (picked (sc / 2) xs)) → In r (a ∷ b ∷ xs)
    go true k (inl e) = inl e
    go true k (inr j) = inr (inr (k j))
    go false k j = inr (inr (k j))

-- ---- what is stamped of a writer

-- whether it is in the set
word_in : (w : List Fact) (L : ℕ → Bool) (d x : ℕ) → x / 2048 ≡ writer_word w L d → eqb (x / 4096 % 2) 1 ≡ when_in L d
unfolding writer_word when_in
word_in w L zero x e = let z : x / 4096 % 2 ≡ 0 = omega arith in ap (λ (y : ℕ). eqb y 1) z
word_in w L (suc d) x e = let k = hit_le (L d) in let z : x / 4096 % 2 ≡ hit (L d) = omega arith in ap (λ (y : ℕ). eqb y 1) z ∙ is (L d)
  where
    is : (b : Bool) → eqb (hit b) 1 ≡ b
    is true = refl
    is false = refl

-- where it points
word_points : (w : List Fact) (regs : List ℕ) (L : ℕ → Bool) (r d x : ℕ) → x / 2048 ≡ writer_word w L d → word_org regs r x ≡ reg_org w regs r d
unfolding writer_word word_org reg_org
word_points w regs L r zero x e = ap (λ (b : Bool). cond b (x / 8192) (reg_org [] regs r 0)) (lt-leb 2048 x (omega arith))
word_points w regs L r (suc d) x e = let k = hit_le (L d) in let z : x / 8192 ≡ (fact_in w d).org = omega arith in ap (λ (b : Bool). cond b (x / 8192) (reg_org [] regs r 0)) (le-leb 2048 x (omega arith)) ∙ z

module _ (w : List Fact) (regs ops : List ℕ) (i : Inst) where
  froms_origins : (st : List ℕ) (d : ℕ → ℕ) → ((r : ℕ) → In r (list_of ops i) → word_org regs r (get_or st r 0) ≡ reg_org w regs r (d r)) → (x : ℕ) → froms regs ops i st x ≡ origins w regs ops i d x
  unfolding origins froms
  froms_origins st d h zero = refl
  froms_origins st d h (suc o) =
      ap (λ (l : List ℕ). cond (eqb (suc o) 4294967295) l (o ∷ []))
      (map_on (λ r. word_org regs r (get_or st r 0)) (λ r. reg_org w regs r (d r)) (picked (get_or i 9 0) (list_of ops i)) (λ r j. h r (in_picked (get_or i 9 0) (list_of ops i) r j)))

  reg_low : (n : ℕ) → ((p : ℕ) → p < n → (fact_in w p).org < 2004) → (r d : ℕ) → d ≤ n → reg_org w regs r d < 2005
  unfolding reg_org
  reg_low n h r zero l = go (eqb (get_or regs r 0 % 2) 1) (eqb (get_or regs r 0 / 2 % 2) 1)
    where
      go : (a b : Bool) → cond a 1 (cond b 3 0) < 2005
      go true b = omega arith
      go false true = omega arith
      go false false = omega arith
  reg_low n h r (suc d) l = let z = h d (omega arith) in omega arith

  origins_low : (n : ℕ) → ((p : ℕ) → p < n → (fact_in w p).org < 2004) → (d : ℕ → ℕ) → ((r : ℕ) → d r ≤ n) → (x : ℕ) → (x ≤ 2004) ⊎ (x ≡ 4294967295) → (o : ℕ) → In o (origins w regs ops i d x) → o < 2005
  unfolding origins
  origins_low n h d l zero b o j = absurd j
  origins_low n h d l (suc x) b o j = go (eqb (suc x) 4294967295) refl j
    where
      go : (c : Bool) → eqb (suc x) 4294967295 ≡ c → In o (cond c (map (λ r. reg_org w regs r (d r)) (picked (get_or i 9 0) (list_of ops i))) (x ∷ [])) → o < 2005
      go true e j = let z = in_map (λ r. reg_org w regs r (d r)) o (picked (get_or i 9 0) (list_of ops i)) j in let y = z.2 in let u = reg_low n h z.0 (d z.0) (l z.0) in omega arith
      go false e (inl q) = ⊎_elim (λ u. omega arith) (λ u. absurd (borrow.Author.Tests.eqb-false (suc x) 4294967295 e u)) b
      go false e (inr j) = absurd j

-- the member's flag
own_same : (L : ℕ → Bool) (lasts : List ℕ) (o : ℕ) → get_or lasts o 0 / 1024 ≡ hit (member_at L 0 o) → own_test lasts o ≡ own_memory L o
unfolding own_test own_memory member_at
own_same L lasts o e =
    ap (λ (b : Bool). eqb o 0 || b) (big (get_or lasts o 0) ((leb 5 o && eqb (o % 2) 1) && (leb 0 ((o - 5) / 2) && L ((o - 5) / 2))) e
    ∙ ap (λ (b : Bool). (leb 5 o && eqb (o % 2) 1) && (b && L ((o - 5) / 2))) (le-leb 0 ((o - 5) / 2) (omega arith)))
  where
    big : (x : ℕ) (b : Bool) → x / 1024 ≡ hit b → leb 1024 x ≡ b
    big x true e = le-leb 1024 x (omega arith)
    big x false e = lt-leb 1024 x (omega arith)

module _ (regs marks : List ℕ) {recs ops : List ℕ} {w : List Fact} {n R p : ℕ} (s : Safe recs ops w n R) (h : p < n) {L₀ : ℕ → Bool} {st lasts : List ℕ} {sus bar : ℕ} (size : length st ≡ R)
    (x : Stamps w (defs_of recs w) L₀ (in_set marks) n p st) (y : Writes (λ q. (fact_in w q).wrote) L₀ n lasts) (eb : bar ≡ last_kept L₀ (λ z. (fact_in w z).barrier) n) (es : sus ≡ last_kept L₀ (λ z. (fact_in w z).suspends) n)
    (fs : (j : ℕ) → j < 2006 → get_or lasts j 0 / 1024 ≡ hit (member_at (in_set marks) 0 j)) where
  writer_at : (r : ℕ) → r < R → get_or st r 0 / 2048 ≡ writer_word w (in_set marks) (writer (defs_of recs w) r p)
  writer_at r l = x.wrote r (subst (λ (m : ℕ). r < m) (sym size) l)

  kept_at : (r : ℕ) → r < R → get_or st r 0 % 1024 ≡ last_kept L₀ (λ q. mem r (defs_of recs w q)) n
  kept_at r l = x.kept r (subst (λ (m : ℕ). r < m) (sym size) l)

  pub reads_are : all (read_test st p) (reads ops (inst recs (fact_in w p).rec)) ≡ reads_ok (view recs ops w regs) n L₀ (in_set marks) p
  unfolding read_test reads_ok read_fine
  reads_are = all_on (read_test st p) (λ r. read_fine (in_set marks) p (writer (defs_of recs w) r p) (last_kept L₀ (λ q. mem r (defs_of recs w q)) n)) (reads ops (inst recs (fact_in w p).rec))
      (λ r i. let l = (read_low (s.good p h)).each r i in
      ap₂ (λ (a : Bool) (k : ℕ). a || leb k (p + 1)) (word_in w (in_set marks) (writer (defs_of recs w) r p) (get_or st r 0) (writer_at r l)) (kept_at r l))

  froms_are : from_test regs ops (inst recs (fact_in w p).rec) st lasts bar (fact_in w p).from p ≡ origins_ok (view recs ops w regs) n L₀ p
  unfolding from_test org_test origins_ok
  froms_are =
      ap (all (org_test lasts bar p)) (froms_origins w regs ops (inst recs (fact_in w p).rec) st (λ r. writer (defs_of recs w) r p)
      (λ r i. word_points w regs (in_set marks) r (writer (defs_of recs w) r p) (get_or st r 0) (writer_at r ((list_low ops (inst recs (fact_in w p).rec) (read_low (s.good p h))).each r i))) (fact_in w p).from)
      ∙ all_on (org_test lasts bar p) (λ o. org_fine p (last_kept L₀ (λ z. (fact_in w z).barrier) n) (last_kept L₀ (λ q. eqb (fact_in w q).wrote 1) n) (last_kept L₀ (λ q. eqb (fact_in w q).wrote (o + 1)) n) o)
      (origins w regs ops (inst recs (fact_in w p).rec) (λ r. writer (defs_of recs w) r p) (fact_in w p).from) one
    where
      one : (o : ℕ) → In o (origins w regs ops (inst recs (fact_in w p).rec) (λ r. writer (defs_of recs w) r p) (fact_in w p).from)
          → org_test lasts bar p o ≡ org_fine p (last_kept L₀ (λ z. (fact_in w z).barrier) n) (last_kept L₀ (λ q. eqb (fact_in w q).wrote 1) n) (last_kept L₀ (λ q. eqb (fact_in w q).wrote (o + 1)) n) o
      one o i =
          let l = origins_low w regs ops (inst recs (fact_in w p).rec) n s.org (λ r. writer (defs_of recs w) r p) (λ r. let z = writer_low (defs_of recs w) r p in omega arith) (fact_in w p).from (s.from p h) o i in
          ap (λ (z : ℕ). org_fine p z (get_or lasts 1 0 % 1024) (get_or lasts (o + 1) 0 % 1024) o) eb
          ∙ ap₂ (λ (a b : ℕ). org_fine p (last_kept L₀ (λ z. (fact_in w z).barrier) n) a b o) (y.each 1 (omega arith)) (y.each (o + 1) (omega arith))

  pub memory_are : {f : Fact} → Shows w p f → memory_test recs ops regs st lasts f bar p ≡ memory_ok (view recs ops w regs) n L₀ p
  unfolding memory_test memory_ok
  memory_are t = ap₂ (λ (a b : Bool). a && b) (ap (λ (y : Fact). still_fine p bar y.creates y.wrote) (sym t.same) ∙ ap (λ (z : ℕ). still_fine p z (fact_in w p).creates (fact_in w p).wrote) eb)
      (ap (λ (y : Fact). from_test regs ops (inst recs y.rec) st lasts bar y.from p) (sym t.same) ∙ froms_are)

  pub suspends_are : leb sus (p + 1) ≡ suspends_ok (view recs ops w regs) n L₀ p
  unfolding suspends_ok
  suspends_are = ap (λ (z : ℕ). leb z (p + 1)) es

  pub own_is : own_test lasts (fact_in w p).wrote ≡ own_memory (in_set marks) (fact_in w p).wrote
  own_is = let k = s.wrote p h in own_same (in_set marks) lasts (fact_in w p).wrote (fs (fact_in w p).wrote (omega arith))

  pub stay_is : {f : Fact} → Shows w p f → stay_test recs ops regs st lasts f sus bar p ≡ forward_ok (view recs ops w regs) n L₀ (in_set marks) p
  unfolding stay_test forward_ok own_ok
  stay_is {f} t =
      ap₂ (λ (a b : Bool). conj (a ∷ leb sus (p + 1) ∷ b ∷ own_test lasts f.wrote ∷ [])) (ap (λ (y : Fact). all (read_test st p) (reads ops (inst recs y.rec))) (sym t.same) ∙ reads_are) (memory_are t)
      ∙ ap₂ (λ (a b : Bool). conj (reads_ok (view recs ops w regs) n L₀ (in_set marks) p ∷ a ∷ memory_ok (view recs ops w regs) n L₀ p ∷ b ∷ [])) suspends_are (ap (λ (y : Fact). own_test lasts y.wrote) (sym t.same) ∙ own_is)

pub sifted_other : (S : List ℕ) (p : ℕ) (ok : Bool) (z : ℕ) → (z ≡ p → ⊥) → in_set (sifted S p ok) z ≡ in_set S z
unfolding sifted in_set
sifted_other S p ok z n = go (in_set S p && not ok)
  where
    go : (b : Bool) → in_set (cond b (set S p 0) S) z ≡ in_set S z
    go true = ap (λ (x : ℕ). not (eqb x 0)) (get_or-set_other S p z 0 0 n)
    go false = refl

-- a set that is the same before p
word_ext : (w : List Fact) (L M : ℕ → Bool) (p d : ℕ) → d ≤ p → ((z : ℕ) → z < p → L z ≡ M z) → writer_word w L d ≡ writer_word w M d
unfolding writer_word
word_ext w L M p zero h e = refl
word_ext w L M p (suc d) h e = ap (λ (b : Bool). 1 + 2 * hit b + 4 * (fact_in w d).org) (e d h)

-- the next position's writers
stamps_more : {w : List Fact} {defs : ℕ → List ℕ} {L₀ L M : ℕ → Bool} {n p : ℕ} {st st' : List ℕ} → ((z : ℕ) → z < p → L z ≡ M z) → Stamps w defs L₀ L n p st
    → Stamped (defs p) 2048 0 (2048 * writer_word w M (suc p)) st st' → Stamps w defs L₀ M n (p + 1) st'
unfolding stamp over writer
stamps_more {w} {defs} {L₀} {L} {M} {n} {p} {st} {st'} same i k = record { kept = λ r h. below r (subst (λ (m : ℕ). r < m) k.size h); wrote = λ r h. above r (subst (λ (m : ℕ). r < m) k.size h) }
  where
    low : (r : ℕ) (b : Bool) → cond b (max (get_or st r 0 % 2048) 0 + 2048 * writer_word w M (suc p)) (get_or st r 0) % 1024 ≡ get_or st r 0 % 1024
    low r true = omega arith
    low r false = refl

    below : (r : ℕ) → r < length st → get_or st' r 0 % 1024 ≡ last_kept L₀ (λ q. mem r (defs q)) n
    below r h = ap (λ (y : ℕ). y % 1024) (k.each r h) ∙ low r (mem r (defs p)) ∙ i.kept r h

    high : (r : ℕ) (b : Bool) → get_or st r 0 / 2048 ≡ writer_word w L (last_below (λ q. mem r (defs q)) p) → last_below (λ q. mem r (defs q)) p ≤ p
        → cond b (max (get_or st r 0 % 2048) 0 + 2048 * writer_word w M (suc p)) (get_or st r 0) / 2048 ≡ writer_word w M (cond b (suc p) (last_below (λ q. mem r (defs q)) p))
    high r true e l = omega arith
    high r false e l = e ∙ word_ext w L M p (last_below (λ q. mem r (defs q)) p) l same

    above : (r : ℕ) → r < length st → get_or st' r 0 / 2048 ≡ writer_word w M (last_below (λ q. mem r (defs q)) (p + 1))
    above r h = ap (λ (y : ℕ). y / 2048) (k.each r h) ∙ high r (mem r (defs p)) (i.wrote r h) (last_low (λ q. mem r (defs q)) p)
        ∙ ap (writer_word w M) (sym (ap (last_below (λ q. mem r (defs q))) (add-one p) ∙ last_step (λ q. mem r (defs q)) p))

-- one member less
member_less : (L M : ℕ → Bool) (p j : ℕ) → ((z : ℕ) → (z ≡ p → ⊥) → L z ≡ M z) → M p ≡ false → cond (eqb (2 * p + 5) j) 0 (hit (member_at L 0 j)) ≡ hit (member_at M 0 j)
unfolding member_at
member_less L M p j same out = go (eq? (2 * p + 5) j)
  where
    none : (a b : Bool) → 0 ≡ hit (a && (b && false))
    none true true = refl
    none true false = refl
    none false b = refl

    other : (a b : Bool) → leb 5 j ≡ a → eqb (j % 2) 1 ≡ b → (2 * p + 5 ≡ j → ⊥) → hit ((a && b) && (leb 0 ((j - 5) / 2) && L ((j - 5) / 2))) ≡ hit ((a && b) && (leb 0 ((j - 5) / 2) && M ((j - 5) / 2)))
    other false b e f n = refl
    other true false e f n = refl
    other true true e f n =
        let h = leb→le 5 j (true_T (leb 5 j) e) in
        let o = eqb-true (j % 2) 1 f in
        ap (λ (c : Bool). hit (leb 0 ((j - 5) / 2) && c)) (same ((j - 5) / 2) (λ u. n (omega arith)))

    go : (2 * p + 5 ≡ j) ⊎ (2 * p + 5 ≡ j → ⊥) → cond (eqb (2 * p + 5) j) 0 (hit ((leb 5 j && eqb (j % 2) 1) && (leb 0 ((j - 5) / 2) && L ((j - 5) / 2)))) ≡ hit ((leb 5 j && eqb (j % 2) 1) && (leb 0 ((j - 5) / 2) && M ((j - 5) / 2)))
    go (inl e) =
        let x : (j - 5) / 2 ≡ p = omega arith in
        ap (λ (b : Bool). cond b 0 (hit ((leb 5 j && eqb (j % 2) 1) && (leb 0 ((j - 5) / 2) && L ((j - 5) / 2))))) (eq-eqb (2 * p + 5) j e)
        ∙ none (leb 5 j && eqb (j % 2) 1) (leb 0 ((j - 5) / 2)) ∙ ap (λ (c : Bool). hit ((leb 5 j && eqb (j % 2) 1) && (leb 0 ((j - 5) / 2) && c))) (sym (ap M x ∙ out))
    go (inr n) = ap (λ (b : Bool). cond b 0 (hit ((leb 5 j && eqb (j % 2) 1) && (leb 0 ((j - 5) / 2) && L ((j - 5) / 2))))) (ne_eqb (2 * p + 5) j n) ∙ other (leb 5 j) (eqb (j % 2) 1) refl refl n

forgot_low : (d : Bool) (p : ℕ) (ls : List ℕ) (j : ℕ) → p < 800 → length ls ≡ 2006 → get_or (forgot d p ls) j 0 % 1024 ≡ get_or ls j 0 % 1024
unfolding forgot
forgot_low true p ls j h s = let z : get_or ls (2 * p + 5) 0 % 1024 % 1024 ≡ get_or ls (2 * p + 5) 0 % 1024 = omega arith in
    (at_parts ls (2 * p + 5) (get_or ls (2 * p + 5) 0 % 1024) j (omega arith)).0 ∙ same_at ls (2 * p + 5) j (λ x. x % 1024) z
forgot_low false p ls j h s = refl

forgot_size : (d : Bool) (p : ℕ) (ls : List ℕ) → length (forgot d p ls) ≡ length ls
unfolding forgot
forgot_size true p ls = length-set ls (2 * p + 5) _
forgot_size false p ls = refl

module _ (S ls : List ℕ) (p : ℕ) (ok : Bool) (h : p < 800) (long : p < length S) (s : length ls ≡ 2006) (f : (j : ℕ) → j < 2006 → get_or ls j 0 / 1024 ≡ hit (member_at (in_set S) 0 j)) where
  still : (z : ℕ) → (z ≡ p → ⊥) → in_set S z ≡ in_set (set S p 0) z
  unfolding in_set
  still z n = sym (ap (λ (x : ℕ). not (eqb x 0)) (get_or-set_other S p z 0 0 n))

  gone : in_set (set S p 0) p ≡ false
  unfolding in_set
  gone = ap (λ (x : ℕ). not (eqb x 0)) (get_or-set_same S p 0 0 long)

  forgot_by : (b : Bool) (j : ℕ) → j < 2006 → get_or (forgot b p ls) j 0 / 1024 ≡ hit (member_at (in_set (cond b (set S p 0) S)) 0 j)
  unfolding forgot
  forgot_by false j l = f j l
  forgot_by true j l = let z : get_or ls (2 * p + 5) 0 % 1024 / 1024 ≡ 0 = omega arith in
      (at_parts ls (2 * p + 5) (get_or ls (2 * p + 5) 0 % 1024) j (omega arith)).1 ∙ ap₂ (cond (eqb (2 * p + 5) j)) z (f j l) ∙ member_less (in_set S) (in_set (set S p 0)) p j still gone

  forgot_flags : {W ls' : List ℕ} → W ≡ sifted S p ok → ls' ≡ forgot (in_set S p && not ok) p ls → (j : ℕ) → j < 2006 → get_or ls' j 0 / 1024 ≡ hit (member_at (in_set W) 0 j)
  unfolding sifted
  forgot_flags {W} {ls'} a c j l = ap (λ (x : List ℕ). get_or x j 0 / 1024) c ∙ forgot_by (in_set S p && not ok) j l ∙ ap (λ (x : List ℕ). hit (member_at (in_set x) 0 j)) (sym a)

-- ---- one position, by marks

-- position p of fact f was looked at: st, lasts and marks after those before
pub record GoneOn (recs ops : List ℕ) (w : List Fact) (regs : List ℕ) (f : Fact) (p : ℕ) (st : List ℕ) (lasts : Lasts) (marks st' : List ℕ) (lasts' : Lasts) (marks' : List ℕ) (r : ℕ) : Type 0 where
  pub stamped : Stamped (defs_of recs w p) 2048 0 (2048 * writer_word w (in_set marks') (suc p)) st st'
  pub sifts : marks' ≡ sifted marks p (stay_test recs ops regs st lasts.writes f lasts.suspension lasts.barrier p)
  pub forgets : lasts' ≡ with_writes (forgot (in_set marks p && not (stay_test recs ops regs st lasts.writes f lasts.suspension lasts.barrier p)) p lasts.writes) lasts
  pub loses : r ≡ lost marks p (stay_test recs ops regs st lasts.writes f lasts.suspension lasts.barrier p)

-- the mark m of position p becomes that of a member that keeps a rule
module _ (S : List ℕ) (p : ℕ) (m ok : Bool) {keep : Bool} (e : get_or S p 0 ≡ num m) (k : keep ≡ (m && ok)) where
  pub was_in : in_set S p ≡ m
  unfolding in_set num
  was_in = ap (λ (x : ℕ). not (eqb x 0)) e ∙ is m
    where
      is : (b : Bool) → not (eqb (num b) 0) ≡ b
      is true = refl
      is false = refl

  pub is_dropped : (m && not keep) ≡ (in_set S p && not ok)
  is_dropped = ap (λ (b : Bool). m && not b) k ∙ go m ∙ ap (λ (b : Bool). b && not ok) (sym was_in)
    where
      go : (b : Bool) → (b && not (b && ok)) ≡ (b && not ok)
      go true = refl
      go false = refl

  pub is_lost : hit (m && not keep) ≡ lost S p ok
  unfolding lost
  is_lost = ap hit is_dropped

  pub is_sifted : set S p (num keep) ≡ sifted S p ok
  unfolding sifted num
  is_sifted = ap (λ (b : Bool). set S p (num b)) k ∙ go m ok e ∙ ap (λ (b : Bool). cond (b && not ok) (set S p 0) S) (sym was_in)
    where
      go : (b c : Bool) → get_or S p 0 ≡ num b → set S p (num (b && c)) ≡ cond (b && not c) (set S p 0) S
      go true true u = ap (set S p) (sym u) ∙ set-get_or S p 0
      go true false u = refl
      go false c u = ap (set S p) (sym u) ∙ set-get_or S p 0

pub now_in : (S : List ℕ) (p : ℕ) (b : Bool) → p < length S → in_set (set S p (num b)) p ≡ b
unfolding in_set num
now_in S p true h = ap (λ (x : ℕ). not (eqb x 0)) (get_or-set_same S p 1 0 h)
now_in S p false h = ap (λ (x : ℕ). not (eqb x 0)) (get_or-set_same S p 0 0 h)

pub gone_on : {recs ops : List ℕ} {w : List Fact} {regs : List ℕ} {f : Fact} {p : ℕ} {st : List ℕ} {ls : Lasts} {st' : List ℕ} {ls' : Lasts} {keep : Bool} (S : List ℕ) → Shows w p f → p < length S → get_or S p 0 ≡ num f.member → Forwarded recs ops regs f p st ls st' ls' keep
    → GoneOn recs ops w regs f p st ls S st' ls' (set S p (num keep)) (hit (f.member && not keep))
unfolding writer_word fact_word
gone_on {recs} {ops} {w} {regs} {f} {p} {st} {ls} {st'} {ls'} {keep} S t h e d = record {
  stamped = subst (λ (y : Fact). Stamped (writes (inst recs y.rec)) 2048 0 (2048 * (1 + 2 * hit (in_set (set S p (num keep)) p) + 4 * y.org)) st st') (sym t.same)
      (subst (λ (b : Bool). Stamped (writes (inst recs f.rec)) 2048 0 (2048 * (1 + 2 * hit b + 4 * f.org)) st st') (sym (now_in S p keep h)) d.stamped);
  sifts = is_sifted S p f.member (stay_test recs ops regs st ls.writes f ls.suspension ls.barrier p) e d.keeps;
  forgets = d.forgets ∙ ap (λ (b : Bool). with_writes (forgot b p ls.writes) ls) (is_dropped S p f.member (stay_test recs ops regs st ls.writes f ls.suspension ls.barrier p) e d.keeps);
  loses = is_lost S p f.member (stay_test recs ops regs st ls.writes f ls.suspension ls.barrier p) e d.keeps;
}

pub going_none : {recs ops : List ℕ} {w : List Fact} {regs : List ℕ} {n : ℕ} {st : List ℕ} {lasts : Lasts} {marks : List ℕ} → Summed recs w n 0 st lasts marks → Going recs ops w regs n 0 st lasts marks st lasts marks 0
going_none {recs} {ops} {w} {regs} {n} {st} {lasts} {marks} s = record { size = refl; stamps = s.stamps; ls_size = s.size; suspension = refl; barrier = refl; lows = λ j. refl; flags = s.flags; passed = passed_none (forward_ok (view recs ops w regs) n) 0 marks }

-- the last kept writes are as they were
writes_on : (w : List Fact) {L : ℕ → Bool} {n : ℕ} {ls₀ ls : List ℕ} → ((j : ℕ) → get_or ls j 0 % 1024 ≡ get_or ls₀ j 0 % 1024) → Writes (λ q. (fact_in w q).wrote) L n ls₀ → Writes (λ q. (fact_in w q).wrote) L n ls
writes_on w f z = record { each = λ o h. f o ∙ z.each o h }

module _ {recs ops : List ℕ} {w : List Fact} {regs : List ℕ} {n p : ℕ} {st₀ : List ℕ} {ls₀ : Lasts} {marks₀ st : List ℕ} {ls : Lasts} {marks : List ℕ} {r : ℕ} (s : Safe recs ops w n (length st₀)) (h : p < n) (z : Summed recs w n 0 st₀ ls₀ marks₀) (i : Going recs ops w regs n p st₀ ls₀ marks₀ st ls marks r) where
  pub going_more : {f : Fact} {st' : List ℕ} {ls' : Lasts} {marks' : List ℕ} {d : ℕ} → Shows w p f → n ≤ length marks₀ → GoneOn recs ops w regs f p st ls marks st' ls' marks' d
      → Going recs ops w regs n (p + 1) st₀ ls₀ marks₀ st' ls' marks' (r + d)
  going_more {f} t long k = let few = s.few in let size = i.passed.size in record {
    size = k.stamped.size ∙ i.size;
    stamps = stamps_more (λ z l. sym (ap (λ (S : List ℕ). in_set S z) k.sifts ∙ sifted_other marks _ _ z (λ e. omega arith))) i.stamps k.stamped;
    ls_size = ap (λ (x : Lasts). length x.writes) k.forgets ∙ forgot_size _ p ls.writes ∙ i.ls_size;
    suspension = ap (λ (x : Lasts). x.suspension) k.forgets ∙ i.suspension;
    barrier = ap (λ (x : Lasts). x.barrier) k.forgets ∙ i.barrier;
    lows = λ j. ap (λ (x : Lasts). get_or x.writes j 0 % 1024) k.forgets ∙ forgot_low _ p ls.writes j (omega arith) i.ls_size ∙ i.lows j;
    flags = forgot_flags marks ls.writes p _ (omega arith) (omega arith) i.ls_size i.flags k.sifts (ap (λ (x : Lasts). x.writes) k.forgets);
    passed = passed_up (forward_ok (view recs ops w regs) n) (forward_mono (view recs ops w regs) n) i.passed (stay_is regs marks s h i.size i.stamps (writes_on w i.lows z.writes) (i.barrier ∙ z.barrier) (i.suspension ∙ z.suspension) i.flags t) k.sifts k.loses;
  }

-- ---- by the position's fact

module _ {recs ops regs : List ℕ} {ls : Lasts} {st st' : List ℕ} {f : Fact} {p v : ℕ} {b : Bool} (t : b ≡ (f.member && stay_test recs ops regs st ls.writes f ls.suspension ls.barrier p)) (e : v ≡ 2048 * fact_word f b) (k : Stamped (writes (inst recs f.rec)) 2048 0 v st st') where
  pub forwarded : {ls' : Lasts} → ls' ≡ with_writes (forgot (f.member && not b) p ls.writes) ls → Forwarded recs ops regs f p st ls st' ls' b
  forwarded g = record { keeps = t; stamped = subst (λ (x : ℕ). Stamped (writes (inst recs f.rec)) 2048 0 x st st') e k; forgets = g }

  -- dropped, or not
  pub forwarded_less : {ls' : Lasts} → (f.member && not b) ≡ true → ls' ≡ forgotten p ls → Forwarded recs ops regs f p st ls st' ls' b
  unfolding forgot
  forwarded_less d g = forwarded (g ∙ sym (ap (λ (x : Bool). with_writes (forgot x p ls.writes) ls) d))

  pub forwarded_same : (f.member && not b) ≡ false → Forwarded recs ops regs f p st ls st' ls b
  unfolding forgot
  forwarded_same d = forwarded (sym (ap (λ (x : Bool). with_writes (forgot x p ls.writes) ls) d))

-- what is stamped of it
module _ (f : Fact) (b : Bool) where
  pub stamp_in : b ≡ true → 8192 * f.org + 6144 ≡ 2048 * fact_word f b
  unfolding fact_word
  stamp_in t = let h = ap hit t in omega arith

  pub stamp_out : b ≡ false → 8192 * f.org + 2048 ≡ 2048 * fact_word f b
  unfolding fact_word
  stamp_out t = let h = ap hit t in omega arith

  pub fact_low : f.org < 2004 → fact_word f b < 8020
  unfolding fact_word
  fact_low h = let k = hit_le b in omega arith
