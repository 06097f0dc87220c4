-- Stamping the registers of a list, one after the other. Assumes nothing.
use mathlib.Core.Path.{◌≡◌, refl, sym, ap, ◌∙◌, subst}
use mathlib.Core.Logic.{◌⊎◌, ⊎_elim}
use mathlib.Core.Bool.{Bool, true, false, ◌||◌, cond}
use mathlib.Core.List.{List, [], ◌∷◌, ◌++◌, append-nil}
use Prim.Native.Nat.{ℕ, ◌*◌, ◌≤◌, ◌<◌}
use native.Mathlib.Omega.{arith}
use borrow.Author.Tests.{eq-eqb, ne_eqb}
use lib.ListN.{get_or, length, set, length-set}
use lib.Seq.{get_or-set_same, get_or-set_other}
use Rattle.words.specs.Lists.{In, mem}
use Rattle.words.proofs.Bools.{eq?}
use Rattle.words.proofs.Alls.{mem_append}
use Rattle.model.specs.Picture.{Inst, absent, writes}
use Rattle.inst.specs.Index.{Low}
use Rattle.inst.specs.Record.{present}
use Rattle.inst.specs.Written.{put_in as change_in, settle, Written as Changed}
use Rattle.inst.proofs.Firsts.{present_none, present_some}
use Rattle.summary.specs.Passes.{over, stamp, put_in, Stamped, Beside}

-- ---- the stamps in use

-- a whole word
pub whole_stamp : (v : ℕ) → v < 4294967295 → Beside 1 0 v
unfolding over
whole_stamp v h = record { some = omega arith; small = omega arith; twice = λ x. omega arith }

-- the last kept writer, no longer awaited
pub kept_stamp : (lo : ℕ) → lo ≤ 800 → Beside 1024 lo 0
unfolding over
kept_stamp lo h = record { some = omega arith; small = omega arith; twice = λ x. omega arith }

-- awaited
pub awaited_stamp : Beside 1024 0 1024
unfolding over
awaited_stamp = record { some = omega arith; small = omega arith; twice = λ x. omega arith }

-- what is asked of the last writer
pub writer_stamp : {v x : ℕ} → v ≡ 2048 * x → x < 8020 → Beside 2048 0 v
unfolding over
writer_stamp {v} {x} e h = record { some = omega arith; small = omega arith; twice = λ x. omega arith }

-- ---- the stamp as a change of words

pub put_is : (keep lo v r : ℕ) (st : List ℕ) → change_in (over keep lo v) r st ≡ put_in keep lo v r st
unfolding change_in put_in
put_is keep lo v r st = refl

pub stamped_written : (keep lo v : ℕ) {i : Inst} {st st' : List ℕ} → Changed (over keep lo v) i st st' → Stamped (writes i) keep lo v st st'
unfolding settle stamp
stamped_written keep lo v w = record { size = w.size; each = λ r h. w.each r h }

-- ---- one register after the other

module _ (keep lo v : ℕ) where
  again : Beside keep lo v → (b c : Bool) (x : ℕ) → stamp keep lo v c (stamp keep lo v b x) ≡ stamp keep lo v (b || c) x
  unfolding stamp
  again h true true x = h.twice x
  again h true false x = refl
  again h false c x = refl

  put_absent : (r : ℕ) (st : List ℕ) → r ≡ absent → put_in keep lo v r st ≡ st
  unfolding put_in
  put_absent r st e = ap (λ (b : Bool). cond b st (set st r (over keep lo v (get_or st r 0)))) (eq-eqb r absent e)

  put_there : (r : ℕ) (st : List ℕ) → (r ≡ absent → ⊥) → put_in keep lo v r st ≡ set st r (over keep lo v (get_or st r 0))
  unfolding put_in
  put_there r st e = ap (λ (b : Bool). cond b st (set st r (over keep lo v (get_or st r 0)))) (ne_eqb r absent e)

  set_at : (x : ℕ) (st : List ℕ) → x < length st → (r : ℕ) → get_or (set st x (over keep lo v (get_or st x 0))) r 0 ≡ stamp keep lo v (mem r (x ∷ [])) (get_or st r 0)
  unfolding stamp
  set_at x st h r = ⊎_elim
      (λ (e : r ≡ x). ap (λ (y : ℕ). get_or (set st x (over keep lo v (get_or st x 0))) y 0) e ∙ get_or-set_same st x (over keep lo v (get_or st x 0)) 0 h ∙ ap (λ (y : ℕ). over keep lo v (get_or st y 0)) (sym e)
      ∙ sym (ap (λ (b : Bool). stamp keep lo v (b || false) (get_or st r 0)) (eq-eqb r x e)))
      (λ (e : r ≡ x → ⊥). get_or-set_other st x r (over keep lo v (get_or st x 0)) 0 e ∙ sym (ap (λ (b : Bool). stamp keep lo v (b || false) (get_or st r 0)) (ne_eqb r x e))) (eq? r x)

  pub stamped_none : (st : List ℕ) → Stamped [] keep lo v st st
  unfolding stamp
  stamped_none st = record { size = refl; each = λ r h. refl }

  -- a register below the length of the words
  stamped_one : {x : ℕ} {st after : List ℕ} → x < length st → (x ≡ absent → ⊥) → after ≡ put_in keep lo v x st → Stamped (x ∷ []) keep lo v st after
  stamped_one {x} {st} h n e =
      let there = e ∙ put_there x st n in
      record { size = ap length there ∙ length-set st x _; each = λ r l. ap (λ (y : List ℕ). get_or y r 0) there ∙ set_at x st h r }

module _ {keep lo v : ℕ} where
  -- or none
  pub stamped_present : (x : ℕ) {st after : List ℕ} → length st ≤ 65536 → (x ≡ absent) ⊎ (x < length st) → after ≡ put_in keep lo v x st → Stamped (present x) keep lo v st after
  stamped_present x {st} {after} few h e = ⊎_elim
      (λ (z : x ≡ absent). subst (λ (l : List ℕ). Stamped l keep lo v st after) (sym (present_none [] z) ∙ append-nil (present x))
      (subst (Stamped [] keep lo v st) (sym (e ∙ put_absent keep lo v x st z)) (stamped_none keep lo v st)))
      (λ (z : x < length st). let n : (x ≡ absent → ⊥) = λ y. absurd (omega (arith, few, y, z)) in
      subst (λ (l : List ℕ). Stamped l keep lo v st after) (sym (present_some [] n) ∙ append-nil (present x)) (stamped_one keep lo v z n e)) h

  module _ (b : Beside keep lo v) where
    -- those of l, then those of m
    pub stamped_both : {l m before now after : List ℕ} → Stamped l keep lo v before now → Stamped m keep lo v now after → Stamped (l ++ m) keep lo v before after
    stamped_both {l} {m} {before} i j = record {
      size = j.size ∙ i.size;
      each = λ r h.
          j.each r (subst (λ (n : ℕ). r < n) (sym i.size) h) ∙ ap (stamp keep lo v (mem r m)) (i.each r h) ∙ again keep lo v b (mem r l) (mem r m) (get_or before r 0)
          ∙ ap (λ (y : Bool). stamp keep lo v y (get_or before r 0)) (sym (mem_append r l m));
    }

    -- y, one of R registers, after those of l
    pub stamped_more : {l more xs : List ℕ} {x y : ℕ} {before now after : List ℕ} → l ++ (y ∷ []) ≡ more → Low (length before) xs → In y xs → x ≡ y → after ≡ put_in keep lo v x now
        → Stamped l keep lo v before now → Stamped more keep lo v before after
    stamped_more {l} {y = y} {before = before} {after = after} e low there same f i =
        let s = i.size in
        let below = low.each y there in
        let one = stamped_one keep lo v (omega (arith, below, s, same)) (λ z. absurd (omega (arith, low.few, below, same, z))) f in
        subst (λ (m : List ℕ). Stamped m keep lo v before after) (ap (λ (n : ℕ). l ++ n ∷ []) same ∙ e) (stamped_both i one)
