-- A member's turn in words is its turn in the pool. Assumes nothing.
use mathlib.Core.Path.{◌≡◌, refl, sym, ap, ap₂, ◌∙◌, subst}
use mathlib.Core.Bool.{Bool, true, false, not, cond}
use mathlib.Core.List.{List, [], ◌∷◌, map}
use Prim.Native.Nat.{ℕ, ◌<◌}
use native.Mathlib.Omega.{arith}
use borrow.Author.Tests.{eq-eqb, ne_eqb}
use lib.Dec.{eqb, ltb}
use lib.ListN.{length, get_or}
use Rattle.words.specs.Lists.{filter}
use Rattle.model.specs.Picture.{absent}
use Rattle.model.specs.Move.{Held, Pool, freed, release, gives}
use Rattle.pool.specs.declared.held.Pool.{Pool as Words}
use Rattle.pool.specs.Pool.{held_of, free_of, piled, past, held_words, free_words, Released, Is, Gave, Turned, Turn, grow_if}
use Rattle.pool.proofs.Founds.{piled_append}
use Rattle.pool.proofs.Lows.{low_release}

stays_held : (p : ℕ) (ws : List ℕ) → map held_of (filter (λ w. not (past p w)) ws) ≡ filter (λ h. not (ltb h.until p)) (map held_of ws)
unfolding held_of
stays_held p [] = refl
stays_held p (w ∷ ws) = go (past p w) (stays_held p ws)
  where
    go : (b : Bool) → map held_of (filter (λ x. not (past p x)) ws) ≡ filter (λ h. not (ltb h.until p)) (map held_of ws)
        → map held_of (cond (not b) (w ∷ filter (λ x. not (past p x)) ws) (filter (λ x. not (past p x)) ws))
        ≡ cond (not b) (held_of w ∷ filter (λ h. not (ltb h.until p)) (map held_of ws)) (filter (λ h. not (ltb h.until p)) (map held_of ws))
    go true e = e
    go false e = ap (λ (l : List Held). held_of w ∷ l) e

freed_piled : (p : ℕ) (ws : List ℕ) (fs : List (ℕ × ℕ)) → freed p (map held_of ws) fs ≡ piled (filter (past p) ws) fs
unfolding held_of piled free_of
freed_piled p [] fs = refl
freed_piled p (w ∷ ws) fs = go (past p w) (λ gs. freed_piled p ws gs)
  where
    go : (b : Bool) → ((gs : List (ℕ × ℕ)) → freed p (map held_of ws) gs ≡ piled (filter (past p) ws) gs)
        → freed p (map held_of ws) (cond b (free_of w ∷ fs) fs) ≡ piled (cond b (w ∷ filter (past p) ws) (filter (past p) ws)) fs
    go true e = e (free_of w ∷ fs)
    go false e = e fs

pub released_is : {R p : ℕ} {types : List ℕ} {a b : Words} {s : Pool} → Is R types a s → Released p a b → Is R types b (release p s)
released_is {R} {p} {types} {a} {b} {s} i r =
    let n = r.next_same in
    let ni = i.next_is in
    let e = i.enough in
    record {
      held_is = ap (map held_of) r.stays ∙ stays_held p (held_words a) ∙ ap (filter (λ h. not (ltb h.until p))) i.held_is;
      free_is =
          ap (λ (l : List ℕ). piled l []) r.gone ∙ piled_append (free_words a) (filter (past p) (held_words a)) []
          ∙ sym (freed_piled p (held_words a) (piled (free_words a) [])) ∙ ap₂ (freed p) i.held_is i.free_is;
      next_is = omega arith;
      enough = omega arith;
      types_are = i.types_are;
      low = low_release p s i.low;
    }

pub turn_none : {p until d : ℕ} {types : List ℕ} {a b : Words} → Released p a b → d ≡ absent → a.next < 131000 → Turn p until d types a b absent
turn_none {p} {until} {d} {types} {a} {b} r e few =
    let t : eqb d absent ≡ true = eq-eqb d absent e in
    let counts = r.counts in
    let same = r.next_same in
    record {
      room = omega arith;
      small = omega arith;
      none_is = λ q. refl;
      some_is = λ q. absurd (q e);
      step = λ R s i within.
          subst (Turned R types b p d absent s) (sym (ap (λ (b : Bool). gives p until (release p s) (cond b [] (d ∷ []))) t))
          (record {
            is = released_is i r;
            given_is = sym (ap (λ (b : Bool). cond b s.given ((p, absent) ∷ s.given)) t);
            types_is = sym (ap (λ (b : Bool). grow_if b s.types (get_or types d 0)) (ne_eqb absent (length s.types) (λ q. omega (arith, i.next_is))));
          });
    }

pub turn_some : {p until d ty reg : ℕ} {types : List ℕ} {a b c : Words} → Released p a b → (d ≡ absent → ⊥) → ty ≡ get_or types d 0
    → Gave until ty b c reg → Turn p until d types a c reg
turn_some {p} {until} {d} {ty} {reg} {types} {a} {b} {c} r nt tq v =
    let t : eqb d absent ≡ false = ne_eqb d absent nt in
    let counts = r.counts in
    let same = r.next_same in
    let vr = v.room in
    let vs = v.small in
    record {
      room = omega arith;
      small = omega arith;
      none_is = λ q. absurd (nt q);
      some_is = λ q. v.low;
      step = λ R s i within.
          let w = v.step R p d types (release p s) (released_is i r) (within nt) (sym tq) in
          subst (Turned R types c p d reg s) (sym (ap (λ (b : Bool). gives p until (release p s) (cond b [] (d ∷ []))) t))
          (record {
            is = w.is;
            given_is = w.given_is ∙ sym (ap (λ (b : Bool). cond b s.given ((p, reg) ∷ s.given)) t);
            types_is = w.types_is ∙ ap (λ (n : ℕ). grow_if (eqb reg (length s.types)) s.types n) tq;
          });
    }
