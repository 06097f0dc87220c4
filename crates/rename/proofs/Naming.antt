-- Names: one that is put, and those that a record's writes set back. Assumes nothing.
use mathlib.Core.Path.{◌≡◌, refl, sym, ap, ◌∙◌}
use mathlib.Core.Bool.{Bool, true, false, not, ◌&&◌, cond}
use mathlib.Core.List.{List}
use Prim.Native.Nat.{ℕ, ◌%◌, ◌≤◌, ◌<◌}
use native.Mathlib.Nat.{mod-eq_of_lt}
use native.Mathlib.Omega.{arith}
use borrow.Author.Tests.{eqb-true, eqb-false}
use lib.Dec.{eqb}
use lib.ListN.{length, get_or, set, length-set, replicate, get_or-replicate, length-replicate, get_or-eq_default}
use lib.Seq.{get_or-set_same, get_or-set_other}
use Rattle.words.specs.Lists.{mem}
use Rattle.words.proofs.Lists.{get_d_any}
use Rattle.words.proofs.Bools.{lt?}
use mathlib.Core.Logic.{⊎_elim}
use Rattle.model.specs.Picture.{Inst, absent, writes}
use Rattle.laws.proofs.Renamed.{Present}
use Rattle.inst.specs.Written.{put_in, settle, Written}
use Rattle.rename.specs.Names.{reg_or, named, put_name, pick, Forgot}

pub put_size : (ws : List ℕ) (w nw : ℕ) → length (put_name ws w nw) ≡ length ws
put_size ws w nw = go (eqb w absent)
  where
    go : (t : Bool) → length (cond t ws (set ws w nw)) ≡ length ws
    go true = refl
    go false = length-set ws w nw

-- what is read at a place that was stored, within or not
stored : (ws : List ℕ) (w nw r : ℕ) → w < length ws → nw < 4294967296 → named (set ws w nw) r ≡ cond (eqb r w) (reg_or nw r) (named ws r)
stored ws w nw r h small = go (eqb r w) refl
  where
    go : (b : Bool) → eqb r w ≡ b → named (set ws w nw) r ≡ cond b (reg_or nw r) (named ws r)
    go true e =
        ap (λ (k : ℕ). reg_or (k % 4294967296) r) (ap (λ (k : ℕ). get_or (set ws w nw) k absent) (eqb-true r w e) ∙ get_or-set_same ws w nw absent h)
        ∙ ap (λ (k : ℕ). reg_or k r) (mod-eq_of_lt small)
    go false e = ap (λ (k : ℕ). reg_or (k % 4294967296) r) (get_or-set_other ws w r nw absent (eqb-false r w e))

pub named_put : (ws : List ℕ) (d nw : ℕ) → ((d ≡ absent → ⊥) → d < length ws) → nw < 4294967296 → (r : ℕ)
    → named (put_name ws d nw) r ≡ cond (not (eqb d absent) && eqb r d) (reg_or nw r) (named ws r)
named_put ws d nw ok small r = go (eqb d absent) refl
  where
    go : (t : Bool) → eqb d absent ≡ t → named (cond t ws (set ws d nw)) r ≡ cond (not t && eqb r d) (reg_or nw r) (named ws r)
    go true e = refl
    go false e = stored ws d nw r (ok (eqb-false d absent e)) small

-- no name is absent
pub named_present : (ws : List ℕ) → Present (named ws)
named_present ws r e = go (eqb (get_or ws r absent % 4294967296) absent) refl
  where
    go : (b : Bool) → eqb (get_or ws r absent % 4294967296) absent ≡ b → eqb (cond b r (get_or ws r absent % 4294967296)) absent ≡ false
    go true f = e
    go false f = f

pub reg_or-present : (nw : ℕ) → Present (reg_or nw)
reg_or-present nw r e = go (eqb nw absent) refl
  where
    go : (b : Bool) → eqb nw absent ≡ b → eqb (cond b r nw) absent ≡ false
    go true f = e
    go false f = f

-- where nothing has a new name
pub named_none : (n r : ℕ) → named (replicate n absent) r ≡ r
named_none n r = ap (λ (k : ℕ). reg_or (k % 4294967296) r) (⊎_elim (λ h. get_or-replicate n r absent absent h) (λ h. get_or-eq_default (replicate n absent) absent (let l = length-replicate n absent in omega arith)) (lt? r n))

-- ---- by the change of words

pub put_is : (ws : List ℕ) (w nw : ℕ) → put_in (λ v. nw) w ws ≡ put_name ws w nw
unfolding put_in
put_is ws w nw = refl

pub forgot : {i : Inst} {ws vs : List ℕ} → Written (λ v. absent) i ws vs → Forgot i ws vs
unfolding settle
forgot {i} {ws} {vs} w = record { size = w.size; names = λ r. ⊎_elim (within r) (past r) (lt? r (length ws)) }
  where
    name_of : ℕ → ℕ → ℕ
    name_of r k = reg_or (k % 4294967296) r

    settled : (b : Bool) (v r : ℕ) → name_of r (settle (λ v. absent) b v) ≡ pick b r (name_of r v)
    settled true v r = refl
    settled false v r = refl

    same : (b : Bool) (r : ℕ) → r ≡ pick b r r
    same true r = refl
    same false r = refl

    within : (r : ℕ) → r < length ws → named vs r ≡ pick (mem r (writes i)) r (named ws r)
    within r h =
        ap (name_of r) (get_d_any vs r absent 0 (let e = w.size in omega arith) ∙ w.each r h)
        ∙ settled (mem r (writes i)) (get_or ws r 0) r
        ∙ ap (λ (k : ℕ). pick (mem r (writes i)) r (name_of r k)) (get_d_any ws r 0 absent h)

    past : (r : ℕ) → length ws ≤ r → named vs r ≡ pick (mem r (writes i)) r (named ws r)
    past r h =
        ap (name_of r) (get_or-eq_default vs absent (let e = w.size in omega arith))
        ∙ same (mem r (writes i)) r
        ∙ ap (λ (k : ℕ). pick (mem r (writes i)) r (name_of r k)) (sym (get_or-eq_default ws absent h))
