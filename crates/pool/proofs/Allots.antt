-- One position's turn, and all of them. Assumes nothing.
use Rattle.std.specs.Prelude.{Option}
use mathlib.Core.Path.{◌≡◌, refl, sym, ap, ap₂, ◌∙◌, subst}
use mathlib.Core.Bool.{Bool, true, false, cond}
use mathlib.Core.List.{List, [], ◌∷◌, map}
use Prim.Native.Nat.{ℕ, zero, suc, ◌+◌, ◌*◌, ◌≤◌, ◌<◌}
use native.Mathlib.Numerals.{add-one}
use native.Mathlib.Omega.{arith}
use borrow.Author.Tests.{eq-eqb, ne_eqb, eqb-true, eqb-false}
use lib.Dec.{eqb}
use lib.ListN.{length, take, get_or, set, length-set}
use lib.Seq.{get_or-set_same, get_or-set_other, length-take-le, get_or-take}
use Rattle.words.specs.Lists.{lookup}
use Rattle.words.proofs.Bools.{lt?}
use mathlib.Core.Logic.{⊎_elim}
use Rattle.model.specs.Picture.{absent}
use Rattle.inst.specs.Index.{reg_of, word_of, Among}
use Rattle.inst.specs.declared.index.Reg.{Reg}
use Rattle.model.specs.Move.{Pool, release, gives}
use Rattle.inst.proofs.Indices.{among_made, word_made}
use Rattle.pool.specs.declared.held.Pool.{Pool as Words}
use Rattle.pool.specs.Pool.{Is, Turn, Ready, Positioned, Allotted, mark_at, last_at, wrote_at, new_at, after, typed, start, reg_or, regs_of, grow_if, piled, held_of, held_words, free_words, in_pool}

-- ---- one position

pub position_none : {p : ℕ} {types w : List ℕ} {a : Words} → mark_at w p ≡ 0 → Positioned p types w (set w (10 * p + 9) absent) a a
position_none z = record {
  reg = absent;
  stored = refl;
  room = omega arith;
  small = omega arith;
  unmarked = λ e. (refl, refl);
  marked = λ f. absurd (f z);
}

pub position_some : {p d reg : ℕ} {types w : List ℕ} {a b : Words} → (mark_at w p ≡ 0 → ⊥) → d ≡ wrote_at w p
    → Turn p (last_at w p) d types a b reg → Positioned p types w (set w (10 * p + 9) reg) a b
position_some {p} {d} {reg} {types} {w} {a} {b} nz ed t = record {
  reg = reg;
  stored = refl;
  room = t.room;
  small = t.small;
  unmarked = λ z. absurd (nz z);
  marked = λ f. subst (λ (k : ℕ). Turn p (last_at w p) k types a b reg) ed t;
}

-- the register that a position writes
module _ {R m p c : ℕ} {types w : List ℕ} {d : Option Reg} (r : Ready R m types w) (lt : p < m) (made : d ≡ reg_of (wrote_at w p) c) (is : c ≡ R) where
  pub wrote_word : word_of d ≡ wrote_at w p
  wrote_word = word_made (wrote_at w p) R made is (r.wrote_ok p lt)

  pub wrote_asks : Among (length types) d × ((word_of d ≡ absent → ⊥) → get_or types (word_of d) 0 < 8)
  wrote_asks =
      let few = r.few_regs in
      (among_made (wrote_at w p) R made is (length types) (omega arith) r.regs, λ nt. subst (λ (k : ℕ). get_or types k 0 < 8) (sym wrote_word) (r.types_ok _ (r.wrote_ok p lt (λ z. nt (wrote_word ∙ z)))))

-- ---- the words of the others

module _ (w : List ℕ) (p reg : ℕ) where
  abbrev v : List ℕ
  v = set w (10 * p + 9) reg

  set_keeps : (q k : ℕ) → k < 9 → get_or v (10 * q + k) 0 ≡ get_or w (10 * q + k) 0
  set_keeps q k h = get_or-set_other w (10 * p + 9) (10 * q + k) reg 0 (λ e. omega arith)

  set_before : (q : ℕ) → q < p → new_at v q ≡ new_at w q
  set_before q h = get_or-set_other w (10 * p + 9) (10 * q + 9) reg 0 (λ e. omega arith)

typed_same : (types v w ts : List ℕ) (p : ℕ) → ((q : ℕ) → q < p → new_at v q ≡ new_at w q) → ((q : ℕ) → q < p → wrote_at v q ≡ wrote_at w q) → typed types v p ts ≡ typed types w p ts
unfolding typed
typed_same types v w ts zero h g = refl
typed_same types v w ts (suc p) h g =
    ap₂ (λ (n d : ℕ). grow_if (eqb n (length (typed types v p ts))) (typed types v p ts) (get_or types d 0)) (h p (omega arith)) (g p (omega arith))
    ∙ ap (λ (l : List ℕ). grow_if (eqb (new_at w p) (length l)) l (get_or types (wrote_at w p) 0)) (typed_same types v w ts p (λ q l. h q (omega arith)) (λ q l. g q (omega arith)))

-- ---- the loop

pub record Allotting (R m : ℕ) (types w v : List ℕ) (a : Words) (p : ℕ) : Type 0 where
  pub high : p ≤ m
  pub counts : in_pool a ≤ p
  pub below : a.next ≤ R + 2 * p
  pub is : Is R types a (after w p (start R types))
  pub rest : Allotted R types w v a.next p

pub allotting_none : {R m : ℕ} {types w : List ℕ} {a : Words} → Ready R m types w → held_words a ≡ [] → free_words a ≡ [] → a.next ≡ R → Allotting R m types w w a 0
unfolding after typed piled
allotting_none {R} {m} {types} {w} {a} r held free next =
    let n : length (take R types) ≡ a.next = length-take-le R types r.regs ∙ sym next in
    let h = ap length held in
    let f = ap length free in
    record {
      high = omega arith;
      counts = omega arith;
      below = omega arith;
      is = record {
        held_is = ap (map held_of) held;
        free_is = ap (λ (l : List ℕ). piled l []) free;
        next_is = n;
        enough = omega arith;
        types_are = λ d h. get_or-take R types d 0 h;
        low = record { free_low = λ f i. absurd i; held_low = λ h i. absurd i };
      };
      rest = record { size = refl; keeps = λ q k h. refl; next_is = n; types_are = refl; given_are = λ q x h. absurd (omega arith); given_later = λ q x h. refl; none_new = λ q h. absurd (omega arith) };
    }

-- what a position's turn makes of the pool
record Step (R p reg : ℕ) (types : List ℕ) (b : Words) (s s' : Pool) (d : ℕ) : Type 0 where
  is : Is R types b s'
  types_is : s'.types ≡ grow_if (eqb reg (length s.types)) s.types (get_or types d 0)
  before_is : (q x : ℕ) → q < p → lookup s'.given q x ≡ lookup s.given q x
  here_is : (x : ℕ) → ((y : ℕ) → lookup s.given p y ≡ y) → lookup s'.given p x ≡ reg_or reg x
  later_is : (q x : ℕ) → p < q → lookup s'.given q x ≡ lookup s.given q x

module _ {R m p : ℕ} {types w v v' : List ℕ} {a b : Words} (r : Ready R m types w) (h : Allotting R m types w v a p) (lt : p < m)
    (t : Positioned p types v v' a b) where
  abbrev s : Pool
  s = after w p (start R types)

  abbrev d : ℕ
  d = wrote_at w p

  reg : ℕ
  reg = t.reg

  few : a.next < 131000
  few = let k = h.below in let l = r.few in let n = r.few_regs in omega arith

  step_none : mark_at w p ≡ 0 → Step R p t.reg types b s s d
  step_none z =
      let u = t.unmarked (h.rest.keeps p 6 (omega arith) ∙ z) in
      let e : eqb t.reg absent ≡ true = eq-eqb t.reg absent u.0 in
      let n = h.is.next_is in
      record {
        is = subst (λ (c : Words). Is R types c s) (sym u.1) h.is;
        types_is = sym (ap (λ (b : Bool). grow_if b s.types (get_or types d 0)) (ne_eqb t.reg (length s.types) (λ q. let l = few in omega (arith, u.0))));
        before_is = λ q x l. refl;
        here_is = λ x g. g x ∙ sym (ap (λ (b : Bool). cond b x t.reg) e);
        later_is = λ q x l. refl;
      }

  step_some : (mark_at w p ≡ 0 → ⊥) → Step R p t.reg types b s (gives p (last_at w p) (release p s) (regs_of d)) d
  step_some nz =
      let k = h.rest.keeps in
      let turn : Turn p (last_at w p) d types a b t.reg =
      subst (λ (x : ℕ). Turn p x d types a b t.reg) (k p 7 (omega arith))
      (subst (λ (x : ℕ). Turn p (last_at v p) x types a b t.reg) (k p 8 (omega arith)) (t.marked (λ z. nz (sym (k p 6 (omega arith)) ∙ z)))) in
      let u = turn.step R s h.is (r.wrote_ok p lt) in
      let g = u.given_is in
      record {
        is = u.is;
        types_is = u.types_is;
        before_is = λ q x l. ap (λ (z : List (ℕ × ℕ)). lookup z q x) g ∙ other (eqb d absent) q x (ne_eqb q p (λ e. omega arith));
        here_is = λ x f. ap (λ (z : List (ℕ × ℕ)). lookup z p x) g ∙ here (eqb d absent) refl x f turn;
        later_is = λ q x l. ap (λ (z : List (ℕ × ℕ)). lookup z q x) g ∙ other (eqb d absent) q x (ne_eqb q p (λ e. omega arith));
      }
    where
      other : (b : Bool) (q x : ℕ) → eqb q p ≡ false → lookup (cond b s.given ((p, t.reg) ∷ s.given)) q x ≡ lookup s.given q x
      other true q x e = refl
      other false q x e = ap (λ (c : Bool). elim c as (λ z. ℕ) [ true ↦ t.reg | false ↦ lookup s.given q x ]) e

      here : (m : Bool) → eqb d absent ≡ m → (x : ℕ) → ((y : ℕ) → lookup s.given p y ≡ y) → Turn p (last_at w p) d types a b t.reg
          → lookup (cond m s.given ((p, t.reg) ∷ s.given)) p x ≡ reg_or t.reg x
      here true e x f turn = f x ∙ sym (ap (λ (c : Bool). cond c x t.reg) (eq-eqb t.reg absent (turn.none_is (eqb-true d absent e))))
      here false e x f turn =
          ap (λ (c : Bool). elim c as (λ z. ℕ) [ true ↦ t.reg | false ↦ lookup s.given p x ]) (eq-eqb p p refl)
          ∙ sym (ap (λ (c : Bool). cond c x t.reg) (ne_eqb t.reg absent (λ q. let l = turn.some_is (eqb-false d absent e) in omega arith)))

  step : Step R p t.reg types b s (after w (suc p) (start R types)) d
  unfolding after
  step = go (eqb (mark_at w p) 0) refl
    where
      go : (m : Bool) → eqb (mark_at w p) 0 ≡ m → Step R p t.reg types b s (cond m s (gives p (last_at w p) (release p s) (regs_of d))) d
      go true e = step_none (eqb-true (mark_at w p) 0 e)
      go false e = step_some (eqb-false (mark_at w p) 0 e)

  keeps : (q k : ℕ) → k < 9 → get_or v' (10 * q + k) 0 ≡ get_or w (10 * q + k) 0
  keeps q k l = ap (λ (z : List ℕ). get_or z (10 * q + k) 0) t.stored ∙ set_keeps v p t.reg q k l ∙ h.rest.keeps q k l

  earlier : (q : ℕ) → q < p → new_at v' q ≡ new_at v q
  earlier q l = ap (λ (z : List ℕ). new_at z q) t.stored ∙ set_before v p t.reg q l

  new_is : new_at v' p ≡ t.reg
  new_is = ap (λ (z : List ℕ). new_at z p) t.stored ∙ get_or-set_same v (10 * p + 9) t.reg 0 (let k = h.rest.size in let l = r.size in omega arith)

  types_next : (after w (suc p) (start R types)).types ≡ typed types v' (suc p) (take R types)
  unfolding typed
  types_next =
      let e : s.types ≡ typed types v' p (take R types) =
      h.rest.types_are ∙ sym (typed_same types v' v (take R types) p earlier (λ q l. keeps q 8 (omega arith) ∙ sym (h.rest.keeps q 8 (omega arith)))) in
      step.types_is ∙ ap₂ (λ (n : ℕ) (l : List ℕ). grow_if (eqb n (length l)) l (get_or types d 0)) (sym new_is) e
      ∙ ap (λ (k : ℕ). grow_if (eqb (new_at v' p) (length (typed types v' p (take R types)))) (typed types v' p (take R types)) (get_or types k 0)) (sym (keeps p 8 (omega arith)))

  given_next : (q x : ℕ) → q < suc p → lookup (after w (suc p) (start R types)).given q x ≡ reg_or (new_at v' q) x
  given_next q x l =
      ⊎_elim (λ b. step.before_is q x b ∙ h.rest.given_are q x b ∙ ap (λ (k : ℕ). reg_or k x) (sym (earlier q b)))
      (λ b. subst (λ (k : ℕ). lookup (after w (suc p) (start R types)).given k x ≡ reg_or (new_at v' k) x) {x = p} {y = q} (omega arith)
      (step.here_is x (λ y. h.rest.given_later p y (omega arith)) ∙ ap (λ (k : ℕ). reg_or k x) (sym new_is)))
      (lt? q p)

  none_here : d ≡ absent → t.reg ≡ absent
  none_here e = go (eqb (mark_at v p) 0) refl
    where
      go : (b : Bool) → eqb (mark_at v p) 0 ≡ b → t.reg ≡ absent
      go true f = (t.unmarked (eqb-true (mark_at v p) 0 f)).0
      go false f = (t.marked (eqb-false (mark_at v p) 0 f)).none_is (h.rest.keeps p 8 (omega arith) ∙ e)

  none_next : (q : ℕ) → q < suc p → wrote_at w q ≡ absent → new_at v' q ≡ absent
  none_next q l e =
      ⊎_elim (λ b. earlier q b ∙ h.rest.none_new q b e)
      (λ b. let s : p ≡ q = omega arith in subst (λ (k : ℕ). new_at v' k ≡ absent) s (new_is ∙ none_here (ap (wrote_at w) s ∙ e)))
      (lt? q p)

  pub allotting_more : Allotting R m types w v' b (p + 1)
  allotting_more =
      let counts = h.counts in
      let room = t.room in
      let below = h.below in
      let small = t.small in
      record {
        high = omega arith;
        counts = omega arith;
        below = omega arith;
        is = subst (λ (k : ℕ). Is R types b (after w k (start R types))) (sym (add-one p)) step.is;
        rest = subst (Allotted R types w v' b.next) (sym (add-one p)) (record {
          size = ap length t.stored ∙ length-set v (10 * p + 9) t.reg ∙ h.rest.size;
          keeps = keeps;
          next_is = step.is.next_is;
          types_are = types_next;
          given_are = given_next;
          given_later = λ q x l. step.later_is q x l ∙ h.rest.given_later q x (omega arith);
          none_new = none_next;
        });
      }
