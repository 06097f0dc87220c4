-- One record of a walk: what the walk asks of it, and what is left of that after others were made anew. Assumes nothing.
use mathlib.Core.Path.{◌≡◌, refl, sym, ap, ap₂, ◌∙◌, subst}
use mathlib.Core.Bool.{Bool, true, false, false≢true, cond}
use mathlib.Core.List.{List}
use Prim.Native.Nat.{ℕ, ◌+◌, ◌*◌, ◌≤◌, ◌<◌}
use native.Mathlib.Omega.{arith}
use borrow.Author.Tests.{eq-eqb}
use lib.Dec.{eqb}
use lib.ListN.{length, get_or, take}
use lib.Seq.{get_or-take}
use Rattle.words.specs.Lists.{mem, concat}
use Rattle.words.proofs.Lists.{made_ext}
use Rattle.model.specs.Kinds as K
use Rattle.model.specs.Picture.{Inst, inst, absent, roles, writes}
use Rattle.model.specs.Move.{changes}
use Rattle.laws.proofs.Made.{same_roles}
use Rattle.inst.specs.Table.{pack}
use Rattle.inst.specs.Record.{Within, Used, uses_of, write_at, present}
use Rattle.inst.proofs.Rest.{writes_by_place}
use Rattle.inst.proofs.Words.{word_is}
use Rattle.rename.specs.Names.{named, reg_or, pick, put_name, job, Fit, Remade, Forgot}
use Rattle.rename.specs.Runs.{Line, Operands, Pass, Passed, Owned}
use Rattle.rename.proofs.Naming.{named_put, named_present, reg_or-present, put_size}
use Rattle.rename.proofs.Records.{inst_length, inst_same, one, made_slot}

pub used_is : {R u q d : ℕ} {xs : List ℕ} → Line R u xs q → d ≡ uses_of (inst xs q) → Used xs q d
used_is l e = record { within = l.known.within; uses = e }

pub line_fit : {q u o d nw does : ℕ} {gone : Bool} {ws xs ops : List ℕ} → Pass q u o ws gone d nw xs ops → gone ≡ true → does ≡ uses_of (inst xs q) → Fit q does u o ws nw xs ops
line_fit p f e = record {
  known = used_is p.line e;
  few_regs = p.line.few_regs;
  slots_ok = p.line.slots_ok;
  list_ok = p.line.list_ok;
  used = p.used;
  lent = p.lent;
  few = p.operands.few;
  operands_ok = p.operands.each;
  room = p.room f;
}

pub written_ok : {R u q : ℕ} {xs : List ℕ} → Line R u xs q → (s : ℕ) → s < 5 → (write_at (inst xs q) s ≡ absent → ⊥) → write_at (inst xs q) s < R
unfolding write_at
written_ok {R} {u} {q} {xs} l s h = go (K.writing (get_or (roles (inst xs q)) s K.off))
  where
    word : get_or (inst xs q) (2 + s) 0 ≡ get_or xs (16 * q + 2 + s) 0
    word = sym (word_is xs q (2 + s) (omega arith)) ∙ ap (λ (n : ℕ). get_or xs n 0) {x = 16 * q + (2 + s)} {y = 16 * q + 2 + s} (omega arith)

    go : (b : Bool) → (cond b (get_or (inst xs q) (2 + s) 0) absent ≡ absent → ⊥) → cond b (get_or (inst xs q) (2 + s) 0) absent < R
    go true f = subst (λ (k : ℕ). k < R) (sym word) (l.slots_ok s h (λ e. f (word ∙ e)))
    go false f = absurd (f refl)

-- the same of that record as a value, and what it did
pub slots_ok : {R u q p : ℕ} {xs recs : List ℕ} → Line R u xs q → recs ≡ xs → p ≡ q → (s : ℕ) → s < 5 → (write_at (inst recs p) s ≡ absent → ⊥) → write_at (inst recs p) s < R
slots_ok {R} l e f s h =
    subst (λ (i : Inst). (write_at i s ≡ absent → ⊥) → write_at i s < R) (sym (ap₂ inst e f)) (written_ok l s h)

pub slots_forgot : {q p : ℕ} {xs recs ws vs : List ℕ} → recs ≡ xs → p ≡ q → Forgot (inst recs p) ws vs → Forgot (inst xs q) ws vs
slots_forgot {q} {p} {xs} {recs} {ws} {vs} e f h = subst (λ (i : Inst). Forgot i ws vs) (ap₂ inst e f) h

-- ---- a record that nothing touched

module _ {R R' u q : ℕ} {xs : List ℕ} (ys : List ℕ) (size : length ys ≡ length xs) (l : Line R u xs q) (e : R' ≡ R) (word : (k : ℕ) → k < 16 → get_or ys (16 * q + k) 0 ≡ get_or xs (16 * q + k) 0) where
  pub still : inst ys q ≡ inst xs q
  still = inst_same xs ys q size l.known.within.whole word

  pub line_still : Line R' u ys q
  line_still = record {
    known = record { within = record { whole = let a = l.known.within.whole in omega arith }; kind = subst (λ (i : Inst). get_or i 0 0 < 101) (sym still) l.known.kind };
    few_regs = subst (λ (z : ℕ). z ≤ absent) (sym e) l.few_regs;
    slots_ok = λ s h.
        let same : get_or ys (16 * q + 2 + s) 0 ≡ get_or xs (16 * q + 2 + s) 0 =
        ap (λ (x : ℕ). get_or ys x 0) {x = 16 * q + 2 + s} {y = 16 * q + (2 + s)} (omega arith) ∙ word (2 + s) (omega arith) ∙ ap (λ (x : ℕ). get_or xs x 0) {x = 16 * q + (2 + s)} {y = 16 * q + 2 + s} (omega arith) in
        subst (λ (z : ℕ). (z ≡ absent → ⊥) → z < R') (sym same) (subst (λ (z : ℕ). (get_or xs (16 * q + 2 + s) 0 ≡ absent → ⊥) → get_or xs (16 * q + 2 + s) 0 < z) (sym e) (l.slots_ok s h));
    list_ok = subst (λ (z : ℕ). z ≤ u) (ap₂ (λ (x y : ℕ). x + y) (sym (word 7 (omega arith))) (sym (word 8 (omega arith)))) l.list_ok;
  }

pub operands_still : {R R' u o : ℕ} {ops ops' : List ℕ} → Operands R u ops → R' ≡ R → u ≤ o → length ops' ≡ length ops → take o ops' ≡ take o ops → Operands R' u ops'
operands_still {R} {R'} {u} {o} {ops} {ops'} p e h size front = record {
  lent = let a = p.lent in omega arith;
  few = let a = p.few in omega arith;
  each = λ k l.
      let same : get_or ops' k 0 ≡ get_or ops k 0 = sym (get_or-take o ops' k 0 (omega arith)) ∙ ap (λ (z : List ℕ). get_or z k 0) front ∙ get_or-take o ops k 0 (omega arith) in
      subst (λ (z : ℕ). z < R') (sym same) (subst (λ (z : ℕ). get_or ops k 0 < z) (sym e) (p.each k l));
}

-- ---- one position of x

pub pass_kept : {q u o d nw : ℕ} {gone : Bool} {ws vs xs ops : List ℕ} → Line (length ws) u xs q → gone ≡ false → Forgot (inst xs q) ws vs → Passed q o gone d nw ws vs xs xs ops ops o
pass_kept l z f = record {
  size = refl;
  ops_size = refl;
  names_size = f.size;
  kept = λ e. (refl, refl, refl, f.names);
  moved = λ g. absurd (false≢true (sym z ∙ g));
}

pub pass_moved : {q o d nw r : ℕ} {gone : Bool} {ws vs xs ys ops ops' : List ℕ} → gone ≡ true → Remade q o ws nw xs ys ops ops' r → ((d ≡ absent → ⊥) → d < length ws) → nw < 4294967296 → vs ≡ put_name ws d nw
    → Passed q o gone d nw ws vs xs ys ops ops' r
pass_moved {q} {o} {d} {nw} {r} {ws} z m ok small e = record {
  size = m.size;
  ops_size = m.ops_size;
  names_size = ap length e ∙ put_size ws d nw;
  kept = λ f. absurd (false≢true (sym f ∙ z));
  moved = λ f. (m, λ y. ap (λ (l : List ℕ). named l y) e ∙ named_put ws d nw ok small y);
}

-- ---- one record of the target: what it writes is what it wrote

written : (w : ℕ) → cond (eqb w absent) w (reg_or absent w) ≡ w
written w = ap (λ (b : Bool). cond (eqb w absent) w (cond b w absent)) (eq-eqb absent absent refl) ∙ both (eqb w absent)
  where
    both : (b : Bool) → cond b w w ≡ w
    both true = refl
    both false = refl

module _ {q o u d r : ℕ} {ws xs ys ops ops' : List ℕ} (l : Line (length ws) u xs q) (e : d ≡ uses_of (inst xs q)) (m : Remade q o ws absent xs ys ops ops' r) where
  abbrev start : ℕ
  start = cond (changes ops (job (inst xs q) ws absent)) o (get_or (inst xs q) 7 0)

  sixteen : length (inst xs q) ≡ 16
  sixteen = inst_length xs q l.known.within.whole

  roles_same : roles (inst ys q) ≡ roles (inst xs q)
  roles_same = ap roles m.here ∙ same_roles (job (inst xs q) ws absent) start sixteen (named_present ws) (reg_or-present absent)

  within : Within ys q
  within = record { whole = let a = l.known.within.whole in let b = m.size in omega arith }

  pub used_after : Used ys q d
  unfolding uses_of
  used_after = record { within = within; uses = e ∙ ap pack (sym roles_same) }

  one_same : (x : K.Role) (w : ℕ) → cond (K.writing x) (one (named ws) (reg_or absent) x w) absent ≡ cond (K.writing x) w absent
  one_same K.off w = refl
  one_same K.rd w = refl
  one_same K.rd? w = refl
  one_same K.wr w = written w
  one_same K.wr? w = written w

  write_same : (s : ℕ) → s < 5 → write_at (inst ys q) s ≡ write_at (inst xs q) s
  unfolding write_at
  write_same s h =
      ap₂ (λ (os : List K.Role) (w : ℕ). cond (K.writing (get_or os s K.off)) w absent) roles_same
      (ap (λ (i : Inst). get_or i (2 + s) 0) m.here ∙ made_slot (job (inst xs q) ws absent) start sixteen s h)
      ∙ one_same (get_or (roles (inst xs q)) s K.off) (get_or (inst xs q) (2 + s) 0)

  pub written_after : (s : ℕ) → s < 5 → (write_at (inst ys q) s ≡ absent → ⊥) → write_at (inst ys q) s < length ws
  written_after s h = subst (λ (z : ℕ). (z ≡ absent → ⊥) → z < length ws) (sym (write_same s h)) (written_ok l s h)

  writes_same : writes (inst ys q) ≡ writes (inst xs q)
  writes_same =
      sym (writes_by_place ys q within)
      ∙ ap concat (made_ext (λ s. present (write_at (inst ys q) s)) (λ s. present (write_at (inst xs q) s)) 0 5 (λ s a b. ap present (write_same s (omega arith))))
      ∙ writes_by_place xs q l.known.within

  pub own_law : {vs : List ℕ} → Forgot (inst ys q) ws vs → Owned q o ws vs xs ys ops ops' r
  own_law {vs} f = record {
    remade = m;
    size = f.size;
    names = λ y. f.names y ∙ ap (λ (z : List ℕ). pick (mem y z) y (named ws y)) writes_same;
  }
