-- What the kept positions do, summed up from behind, one position after the other. Assumes nothing.
use mathlib.Core.Path.{◌≡◌, refl, sym, ap, ap₂, ◌∙◌, subst}
use mathlib.Core.Logic.{◌⊎◌, inl, inr, ⊎_elim}
use mathlib.Core.Bool.{Bool, true, false, not, ◌&&◌, cond}
use mathlib.Core.List.{List}
use Prim.Native.Nat.{ℕ, zero, suc, ◌+◌, ◌*◌, ◌-◌, ◌/◌, ◌%◌, ◌≤◌, ◌<◌, max}
use native.Mathlib.Omega.{arith}
use borrow.Author.Tests.{eq-eqb, ne_eqb, eqb-true, le-leb, lt-leb}
use lib.Dec.{T, eqb, leb, leb→le}
use lib.ListN.{get_or, length, set, replicate, length-set, length-replicate}
use lib.Seq.{get_or-set_same, get_or-set_other}
use Rattle.words.specs.Last.{last_below}
use Rattle.words.specs.Lists.{hit}
use Rattle.words.proofs.Bools.{eq?, lt?, true_T}
use Rattle.words.proofs.Lasts.{last_step, last_low}
use Rattle.words.proofs.Lists.{get_or_zeros}
use Rattle.facts.specs.declared.Fact.{Fact}
use Rattle.facts.specs.Marks.{fact_in}
use Rattle.legalset.specs.Chain.{Safe}
use Rattle.legalset.specs.Rules.{last_kept}
use Rattle.summary.specs.declared.notes.Lasts.{Lasts}
use Rattle.summary.specs.Passes.{since, later_in, member_in, member_at, Notes, Noted, noting, blank, kept_in, with_writes}

-- ---- the record of a position

pub safe_len : {recs ops : List ℕ} {w : List Fact} {n : ℕ} {R R' : ℕ} → Safe recs ops w n R → R' ≡ R → Safe recs ops w n R'
safe_len {recs} {ops} {w} {n} s e = subst (Safe recs ops w n) (sym e) s

-- ---- all words 0

pub zero_at : {st : List ℕ} → st ≡ replicate (length st) 0 → (r : ℕ) → get_or st r 0 ≡ 0
zero_at {st} e r = ap (λ (l : List ℕ). get_or l r 0) e ∙ get_or_zeros (length st) r

-- ---- the last that passes, from behind

pub since_low : (f : ℕ → Bool) (q k : ℕ) → since f q k ≤ q + k
unfolding since
since_low f q zero = omega arith
since_low f q (suc k) = let h = since_low f (suc q) k in go (f q) h
  where
    go : (b : Bool) → since f (suc q) k ≤ suc q + k → max (since f (suc q) k) (cond b (q + 1) 0) ≤ q + suc k
    go true h = omega arith
    go false h = omega arith

pub since_ext : (f g : ℕ → Bool) (q k : ℕ) → ((z : ℕ) → q ≤ z → f z ≡ g z) → since f q k ≡ since g q k
unfolding since
since_ext f g q zero h = refl
since_ext f g q (suc k) h = rw (h q (omega arith), since_ext f g (suc q) k (λ z l. h z (omega arith)))

since_below : (f : ℕ → Bool) (q k : ℕ) → last_below f (q + k) ≡ max (since f q k) (last_below f q)
unfolding since
since_below f q zero = let e : q + 0 ≡ q = omega arith in let z : last_below f q ≡ max 0 (last_below f q) = omega arith in ap (last_below f) e ∙ z
since_below f q (suc k) =
    let e : q + suc k ≡ suc q + k = omega arith in
    ap (last_below f) e ∙ since_below f (suc q) k ∙ ap (max (since f (suc q) k)) (last_step f q) ∙ go (f q) (last_low f q)
  where
    go : (b : Bool) → last_below f q ≤ q → max (since f (suc q) k) (cond b (suc q) (last_below f q)) ≡ max (max (since f (suc q) k) (cond b (q + 1) 0)) (last_below f q)
    go true h = omega arith
    go false h = omega arith

-- all of them
pub since_all : (f : ℕ → Bool) (n : ℕ) → since f 0 (n - 0) ≡ last_below f n
unfolding last_below
since_all f n = let e : n ≡ 0 + n = omega arith in let d : n - 0 ≡ n = omega arith in let z : max (since f 0 n) 0 ≡ since f 0 n = omega arith in ap (since f 0) d ∙ sym z ∙ sym (ap (last_below f) e ∙ since_below f 0 n)

-- ---- what is noted

-- one word changed
set_at : (ls : List ℕ) (k v j : ℕ) → k < length ls → get_or (set ls k v) j 0 ≡ cond (eqb k j) v (get_or ls j 0)
set_at ls k v j h = ⊎_elim
    (λ (e : k ≡ j). ap (λ (x : ℕ). get_or (set ls k v) x 0) (sym e) ∙ get_or-set_same ls k v 0 h ∙ sym (ap (λ (b : Bool). cond b v (get_or ls j 0)) (eq-eqb k j e)))
    (λ (e : k ≡ j → ⊥). get_or-set_other ls k j v 0 (λ u. e (sym u)) ∙ sym (ap (λ (b : Bool). cond b v (get_or ls j 0)) (ne_eqb k j e))) (eq? k j)

-- its part below 1024, and the rest
pub at_parts : (ls : List ℕ) (k v j : ℕ) → k < length ls → (get_or (set ls k v) j 0 % 1024 ≡ cond (eqb k j) (v % 1024) (get_or ls j 0 % 1024)) × (get_or (set ls k v) j 0 / 1024 ≡ cond (eqb k j) (v / 1024) (get_or ls j 0 / 1024))
at_parts ls k v j h = (ap (λ (x : ℕ). x % 1024) (set_at ls k v j h) ∙ low (eqb k j), ap (λ (x : ℕ). x / 1024) (set_at ls k v j h) ∙ high (eqb k j))
  where
    low : (b : Bool) → cond b v (get_or ls j 0) % 1024 ≡ cond b (v % 1024) (get_or ls j 0 % 1024)
    low true = refl
    low false = refl

    high : (b : Bool) → cond b v (get_or ls j 0) / 1024 ≡ cond b (v / 1024) (get_or ls j 0 / 1024)
    high true = refl
    high false = refl

pub same_at : (ls : List ℕ) (k j : ℕ) {x : ℕ} (f : ℕ → ℕ) → x ≡ f (get_or ls k 0) → cond (eqb k j) x (f (get_or ls j 0)) ≡ f (get_or ls j 0)
same_at ls k j {x} f e = ⊎_elim (λ (u : k ≡ j). ap (λ (b : Bool). cond b x (f (get_or ls j 0))) (eq-eqb k j u) ∙ e ∙ ap (λ (i : ℕ). f (get_or ls i 0)) u) (λ (u : k ≡ j → ⊥). ap (λ (b : Bool). cond b x (f (get_or ls j 0))) (ne_eqb k j u)) (eq? k j)

module _ (ls : List ℕ) (k v j : ℕ) (h : k < length ls) where
  pub later_low : v ≤ 800 → get_or (later_in k v ls) j 0 % 1024 ≡ max (get_or ls j 0 % 1024) (cond (eqb k j) v 0)
  unfolding later_in
  later_low l =
      let z : (1024 * (get_or ls k 0 / 1024) + max (get_or ls k 0 % 1024) v) % 1024 ≡ max (get_or ls k 0 % 1024) v = omega arith in
      (at_parts ls k (1024 * (get_or ls k 0 / 1024) + max (get_or ls k 0 % 1024) v) j h).0 ∙ ap (λ (x : ℕ). cond (eqb k j) x (get_or ls j 0 % 1024)) z ∙ go (eq? k j)
    where
      go : (k ≡ j) ⊎ (k ≡ j → ⊥) → cond (eqb k j) (max (get_or ls k 0 % 1024) v) (get_or ls j 0 % 1024) ≡ max (get_or ls j 0 % 1024) (cond (eqb k j) v 0)
      go (inl e) = ap (λ (b : Bool). cond b (max (get_or ls k 0 % 1024) v) (get_or ls j 0 % 1024)) (eq-eqb k j e) ∙ ap (λ (x : ℕ). max (get_or ls x 0 % 1024) v) e ∙ sym (ap (λ (b : Bool). max (get_or ls j 0 % 1024) (cond b v 0)) (eq-eqb k j e))
      go (inr e) = let z : get_or ls j 0 % 1024 ≡ max (get_or ls j 0 % 1024) 0 = omega arith in
          ap (λ (b : Bool). cond b (max (get_or ls k 0 % 1024) v) (get_or ls j 0 % 1024)) (ne_eqb k j e) ∙ z ∙ sym (ap (λ (b : Bool). max (get_or ls j 0 % 1024) (cond b v 0)) (ne_eqb k j e))

  pub later_high : v ≤ 800 → get_or (later_in k v ls) j 0 / 1024 ≡ get_or ls j 0 / 1024
  unfolding later_in
  later_high l =
      let z : (1024 * (get_or ls k 0 / 1024) + max (get_or ls k 0 % 1024) v) / 1024 ≡ get_or ls k 0 / 1024 = omega arith in
      (at_parts ls k (1024 * (get_or ls k 0 / 1024) + max (get_or ls k 0 % 1024) v) j h).1 ∙ same_at ls k j (λ x. x / 1024) z

pub later_size : (ls : List ℕ) (k v : ℕ) → length (later_in k v ls) ≡ length ls
unfolding later_in
later_size ls k v = length-set ls k _

pub later_is : (ls : List ℕ) (k v : ℕ) {y : ℕ} → y ≡ 1024 * (get_or ls k 0 / 1024) + max (get_or ls k 0 % 1024) v → set ls k y ≡ later_in k v ls
unfolding later_in
later_is ls k v e = ap (set ls k) e

-- none is noted
pub max_none : (n : ℕ) → n ≡ max n 0
max_none n = omega arith

-- a barrier, or a suspension, is noted where there is one
flag_yes : (x e : ℕ) {y : ℕ} {b : Bool} → b ≡ true → y ≡ max x e → y ≡ max x (cond b e 0)
flag_yes x e t d = d ∙ sym (ap (λ (c : Bool). max x (cond c e 0)) t)

flag_no : (x e : ℕ) {b : Bool} → b ≡ false → x ≡ max x (cond b e 0)
flag_no x e t = max_none x ∙ sym (ap (λ (c : Bool). max x (cond c e 0)) t)

abbrev lasts_of : List ℕ → ℕ → ℕ → Lasts
lasts_of ws b s = record { writes = ws; barrier = b; suspension = s }

module _ (f : Fact) (q : ℕ) (ls : Lasts) where
  -- all but the suspension
  abbrev pub barred : Lasts
  barred = lasts_of (later_in f.wrote (q + 1) ls.writes) (max ls.barrier (cond f.barrier (q + 1) 0)) ls.suspension

  module _ {v : ℕ} (e : v ≡ max (get_or ls.writes f.wrote 0 % 1024) (q + 1)) where
    wrote : set ls.writes f.wrote (1024 * (get_or ls.writes f.wrote 0 / 1024) + v) ≡ later_in f.wrote (q + 1) ls.writes
    wrote = later_is ls.writes f.wrote (q + 1) (ap (λ (x : ℕ). 1024 * (get_or ls.writes f.wrote 0 / 1024) + x) e)

    pub barred_yes : {x : ℕ} → f.barrier ≡ true → x ≡ max ls.barrier (q + 1) → lasts_of (set ls.writes f.wrote (1024 * (get_or ls.writes f.wrote 0 / 1024) + v)) x ls.suspension ≡ barred
    barred_yes t d = ap₂ (λ (ws : List ℕ) (b : ℕ). lasts_of ws b ls.suspension) wrote (flag_yes ls.barrier (q + 1) t d)

    pub barred_no : f.barrier ≡ false → lasts_of (set ls.writes f.wrote (1024 * (get_or ls.writes f.wrote 0 / 1024) + v)) ls.barrier ls.suspension ≡ barred
    barred_no t = ap₂ (λ (ws : List ℕ) (b : ℕ). lasts_of ws b ls.suspension) wrote (flag_no ls.barrier (q + 1) t)

  module _ {mid : Lasts} (m : mid ≡ barred) where
    pub suspended_yes : {x : ℕ} → f.suspends ≡ true → x ≡ max mid.suspension (q + 1) → lasts_of mid.writes mid.barrier x ≡ kept_in f q ls
    suspended_yes t d = ap₂ (λ (y : Lasts) (s : ℕ). lasts_of y.writes y.barrier s) m (flag_yes ls.suspension (q + 1) t (d ∙ ap (λ (y : Lasts). max y.suspension (q + 1)) m))

    pub suspended_no : f.suspends ≡ false → mid ≡ kept_in f q ls
    suspended_no t = m ∙ ap (lasts_of (later_in f.wrote (q + 1) ls.writes) (max ls.barrier (cond f.barrier (q + 1) 0))) (flag_no ls.suspension (q + 1) t)

pub noting_in : (f : Fact) (b : Bool) (q : ℕ) (ls : Lasts) → b ≡ true → with_writes (set ls.writes (2 * q + 5) (get_or ls.writes (2 * q + 5) 0 % 1024 + 1024)) ls ≡ noting f b q ls
unfolding noting member_in
noting_in f b q ls t = sym (ap (λ (x : Bool). noting f x q ls) t)

pub noting_out : (f : Fact) (b : Bool) (q : ℕ) (ls : Lasts) {ls' : Lasts} → b ≡ false → ls' ≡ kept_in f q ls → ls' ≡ noting f b q ls
unfolding noting
noting_out f b q ls t e = e ∙ sym (ap (λ (x : Bool). noting f x q ls) t)

module _ (w : List Fact) (L : ℕ → Bool) (q : ℕ) (ls : Lasts) {ls' : Lasts} {b : Bool} (e : b ≡ L q) (s : length ls.writes ≡ 2006) (l : q < 800) where
  pub noted_member : b ≡ true → ls' ≡ with_writes (member_in q ls.writes) ls → Noted w L q ls ls'
  unfolding member_in
  noted_member t d = record {
    size = ap (λ (x : Lasts). length x.writes) d ∙ length-set ls.writes (2 * q + 5) _;
    each = λ j h.
        let y : (get_or ls.writes (2 * q + 5) 0 % 1024 + 1024) % 1024 ≡ get_or ls.writes (2 * q + 5) 0 % 1024 = omega arith in
        ap (λ (x : Lasts). get_or x.writes j 0 % 1024) d ∙ (at_parts ls.writes (2 * q + 5) (get_or ls.writes (2 * q + 5) 0 % 1024 + 1024) j (omega arith)).0 ∙ same_at ls.writes (2 * q + 5) j (λ x. x % 1024) y
        ∙ out (get_or ls.writes j 0 % 1024) (eqb (fact_in w q).wrote j);
    flags = λ j h.
        let y : (get_or ls.writes (2 * q + 5) 0 % 1024 + 1024) / 1024 ≡ 1 = omega arith in
        ap (λ (x : Lasts). get_or x.writes j 0 / 1024) d ∙ (at_parts ls.writes (2 * q + 5) (get_or ls.writes (2 * q + 5) 0 % 1024 + 1024) j (omega arith)).1
        ∙ ap (λ (x : ℕ). cond (eqb (2 * q + 5) j) x (get_or ls.writes j 0 / 1024)) y ∙ sym (ap (λ (x : Bool). cond (x && eqb (2 * q + 5) j) 1 (get_or ls.writes j 0 / 1024)) (sym e ∙ t));
    barrier = ap (λ (x : Lasts). x.barrier) d ∙ out ls.barrier (fact_in w q).barrier;
    suspension = ap (λ (x : Lasts). x.suspension) d ∙ out ls.suspension (fact_in w q).suspends;
  }
    where
      -- a member notes nothing else
      out : (x : ℕ) (c : Bool) → x ≡ max x (cond (not (L q) && c) (q + 1) 0)
      out x c = max_none x ∙ sym (ap (λ (y : Bool). max x (cond (not y && c) (q + 1) 0)) (sym e ∙ t))

  pub noted_kept : b ≡ false → (fact_in w q).wrote ≤ 2004 → ls' ≡ kept_in (fact_in w q) q ls → Noted w L q ls ls'
  noted_kept t h d = record {
    size = ap (λ (x : Lasts). length x.writes) d ∙ later_size ls.writes (fact_in w q).wrote (q + 1);
    each = λ j i. ap (λ (x : Lasts). get_or x.writes j 0 % 1024) d ∙ later_low ls.writes (fact_in w q).wrote (q + 1) j (omega arith) (omega arith) ∙ its (get_or ls.writes j 0 % 1024) (eqb (fact_in w q).wrote j);
    flags = λ j i.
        ap (λ (x : Lasts). get_or x.writes j 0 / 1024) d ∙ later_high ls.writes (fact_in w q).wrote (q + 1) j (omega arith) (omega arith)
        ∙ ap (λ (x : Bool). cond (x && eqb (2 * q + 5) j) 1 (get_or ls.writes j 0 / 1024)) (sym t ∙ e);
    barrier = ap (λ (x : Lasts). x.barrier) d ∙ its ls.barrier (fact_in w q).barrier;
    suspension = ap (λ (x : Lasts). x.suspension) d ∙ its ls.suspension (fact_in w q).suspends;
  }
    where
      its : (x : ℕ) (c : Bool) → max x (cond c (q + 1) 0) ≡ max x (cond (not (L q) && c) (q + 1) 0)
      its x c = ap (λ (y : Bool). max x (cond (not y && c) (q + 1) 0)) (sym t ∙ e)

-- no member from n on
pub notes_none : (w : List Fact) (L : ℕ → Bool) (n : ℕ) {ls : Lasts} → ls ≡ blank → ((x : ℕ) → n ≤ x → L x ≡ false) → Notes w L n n ls
unfolding since member_at
notes_none w L n {ls} e f = record {
  size = ap (λ (l : Lasts). length l.writes) e ∙ length-replicate {A = ℕ} 2006 0;
  each = λ j h. ap (λ (l : Lasts). get_or l.writes j 0 % 1024) e ∙ ap (λ (y : ℕ). y % 1024) (get_or_zeros 2006 j) ∙ ends (λ z. eqb (fact_in w z).wrote j);
  flags = λ j h. ap (λ (l : Lasts). get_or l.writes j 0 / 1024) e ∙ ap (λ (y : ℕ). y / 1024) (get_or_zeros 2006 j) ∙ none (leb 5 j && eqb (j % 2) 1) (leb n ((j - 5) / 2)) (L ((j - 5) / 2)) (λ t. f ((j - 5) / 2) (leb→le n ((j - 5) / 2) t));
  barrier = ap (λ (l : Lasts). l.barrier) e ∙ ends (λ z. (fact_in w z).barrier);
  suspension = ap (λ (l : Lasts). l.suspension) e ∙ ends (λ z. (fact_in w z).suspends);
}
  where
    ends : (g : ℕ → Bool) → 0 ≡ since (λ z. not (L z) && g z) n (n - n)
    ends g = let z : 0 ≡ n - n = omega arith in ap (since (λ z. not (L z) && g z) n) z

    none : (a b c : Bool) → (T b → c ≡ false) → 0 ≡ hit (a && (b && c))
    none false b c k = refl
    none true false c k = refl
    none true true c k = ap hit (sym (k tt))

-- one member besides
member_step : (L M : ℕ → Bool) (q j : ℕ) → ((z : ℕ) → suc q ≤ z → L z ≡ M z) → cond (M q && eqb (2 * q + 5) j) 1 (hit (member_at L (q + 1) j)) ≡ hit (member_at M q j)
unfolding member_at
member_step L M q j same = go (eq? (2 * q + 5) j)
  where
    its : (b : Bool) → cond (b && true) 1 0 ≡ hit b
    its true = refl
    its false = refl

    here : cond (M q && true) 1 (hit ((leb 5 (2 * q + 5) && eqb ((2 * q + 5) % 2) 1) && (leb (q + 1) ((2 * q + 5 - 5) / 2) && L ((2 * q + 5 - 5) / 2)))) ≡ hit ((leb 5 (2 * q + 5) && eqb ((2 * q + 5) % 2) 1) && (leb q ((2 * q + 5 - 5) / 2) && M ((2 * q + 5 - 5) / 2)))
    here =
        let x : (2 * q + 5 - 5) / 2 ≡ q = omega arith in
        let o : (2 * q + 5) % 2 ≡ 1 = omega arith in
        ap₂ (λ (a b : Bool). cond (M q && true) 1 (hit (a && (b && L ((2 * q + 5 - 5) / 2))))) (ap₂ (λ (a b : Bool). a && b) (le-leb 5 (2 * q + 5) (omega arith)) (eq-eqb ((2 * q + 5) % 2) 1 o)) (lt-leb (q + 1) ((2 * q + 5 - 5) / 2) (omega arith))
        ∙ its (M q)
        ∙ sym (ap₂ (λ (a b : Bool). hit (a && (b && M ((2 * q + 5 - 5) / 2)))) (ap₂ (λ (a b : Bool). a && b) (le-leb 5 (2 * q + 5) (omega arith)) (eq-eqb ((2 * q + 5) % 2) 1 o)) (le-leb q ((2 * q + 5 - 5) / 2) (omega arith))
        ∙ ap (λ (y : ℕ). hit (M y)) x)

    other : (a b : Bool) → leb 5 j ≡ a → eqb (j % 2) 1 ≡ b → (2 * q + 5 ≡ j → ⊥) → hit ((a && b) && (leb (q + 1) ((j - 5) / 2) && L ((j - 5) / 2))) ≡ hit ((a && b) && (leb q ((j - 5) / 2) && M ((j - 5) / 2)))
    other false b e f n = refl
    other true false e f n = refl
    other true true e f n =
        let h = leb→le 5 j (true_T (leb 5 j) e) in
        let o = eqb-true (j % 2) 1 f in
        ⊎_elim (λ (l : q < (j - 5) / 2). ap₂ (λ (a c : Bool). hit (a && c)) (le-leb (q + 1) ((j - 5) / 2) (omega arith) ∙ sym (le-leb q ((j - 5) / 2) (omega arith))) (same ((j - 5) / 2) (omega arith)))
        (λ (l : (j - 5) / 2 ≤ q). let k : (j - 5) / 2 < q = below h o n l in
        ap (λ (a : Bool). hit (a && L ((j - 5) / 2))) (lt-leb (q + 1) ((j - 5) / 2) (omega arith)) ∙ sym (ap (λ (a : Bool). hit (a && M ((j - 5) / 2))) (lt-leb q ((j - 5) / 2) k))) (lt? q ((j - 5) / 2))
      where
        below : 5 ≤ j → j % 2 ≡ 1 → (2 * q + 5 ≡ j → ⊥) → (j - 5) / 2 ≤ q → (j - 5) / 2 < q
        below h o n l = ⊎_elim (λ (u : (j - 5) / 2 < q). u) (λ (u : q ≤ (j - 5) / 2). absurd (n (omega arith))) (lt? ((j - 5) / 2) q)

    rest : (b : Bool) (x : ℕ) → cond (b && false) 1 x ≡ x
    rest true x = refl
    rest false x = refl

    go : (2 * q + 5 ≡ j) ⊎ (2 * q + 5 ≡ j → ⊥) → cond (M q && eqb (2 * q + 5) j) 1 (hit ((leb 5 j && eqb (j % 2) 1) && (leb (q + 1) ((j - 5) / 2) && L ((j - 5) / 2)))) ≡ hit ((leb 5 j && eqb (j % 2) 1) && (leb q ((j - 5) / 2) && M ((j - 5) / 2)))
    go (inl e) =
        ap (λ (b : Bool). cond (M q && b) 1 (hit ((leb 5 j && eqb (j % 2) 1) && (leb (q + 1) ((j - 5) / 2) && L ((j - 5) / 2))))) (eq-eqb (2 * q + 5) j e)
        ∙ subst (λ (i : ℕ). cond (M q && true) 1 (hit ((leb 5 i && eqb (i % 2) 1) && (leb (q + 1) ((i - 5) / 2) && L ((i - 5) / 2)))) ≡ hit ((leb 5 i && eqb (i % 2) 1) && (leb q ((i - 5) / 2) && M ((i - 5) / 2)))) e here
    go (inr n) =
        ap (λ (b : Bool). cond (M q && b) 1 (hit ((leb 5 j && eqb (j % 2) 1) && (leb (q + 1) ((j - 5) / 2) && L ((j - 5) / 2))))) (ne_eqb (2 * q + 5) j n)
        ∙ rest (M q) (hit ((leb 5 j && eqb (j % 2) 1) && (leb (q + 1) ((j - 5) / 2) && L ((j - 5) / 2)))) ∙ other (leb 5 j) (eqb (j % 2) 1) refl refl n

-- position q besides, where the sets are the same behind it
pub notes_more : {w : List Fact} {L M : ℕ → Bool} {n q : ℕ} {ls ls' : Lasts} → q < n → ((z : ℕ) → suc q ≤ z → L z ≡ M z) → Notes w L n (q + 1) ls → Noted w M q ls ls' → Notes w M n q ls'
unfolding since
notes_more {w} {L} {M} {n} {q} {ls} {ls'} h same i k = record {
  size = k.size ∙ i.size;
  each = λ j l. one (λ z. eqb (fact_in w z).wrote j) (k.each j l) (i.each j l);
  flags = λ j l. k.flags j l ∙ ap (cond (M q && eqb (2 * q + 5) j) 1) (i.flags j l) ∙ member_step L M q j same;
  barrier = one (λ z. (fact_in w z).barrier) k.barrier i.barrier;
  suspension = one (λ z. (fact_in w z).suspends) k.suspension i.suspension;
}
  where
    one : (f : ℕ → Bool) {x y : ℕ} → y ≡ max x (cond (not (M q) && f q) (q + 1) 0) → x ≡ since (λ z. not (L z) && f z) (q + 1) (n - (q + 1)) → y ≡ since (λ z. not (M z) && f z) q (n - q)
    one f a b =
        let e : suc (n - (q + 1)) ≡ n - q = omega arith in
        let d : q + 1 ≡ suc q = omega arith in
        a
        ∙ ap (λ (x : ℕ). max x (cond (not (M q) && f q) (q + 1) 0)) (b ∙ ap (λ (x : ℕ). since (λ z. not (L z) && f z) x (n - (q + 1))) d
        ∙ since_ext (λ z. not (L z) && f z) (λ z. not (M z) && f z) (suc q) (n - (q + 1)) (λ z u. ap (λ (b : Bool). not b && f z) (same z u)))
        ∙ ap (since (λ z. not (M z) && f z) q) e

-- ---- the whole chain

pub since_kept : (L : ℕ → Bool) (f : ℕ → Bool) (n : ℕ) {x : ℕ} → x ≡ since (λ z. not (L z) && f z) 0 (n - 0) → x ≡ last_kept L f n
unfolding last_kept
since_kept L f n e = e ∙ since_all (λ z. not (L z) && f z) n
