-- The pass over the records: what is found among those passed, none of them of a bad kind; and what `found` says of causes 4
-- to 8. Assumes nothing.
use mathlib.Core.Path.{◌≡◌, refl, sym, ap, ◌∙◌, subst}
use mathlib.Core.Bool.{Bool, true, false, cond, ◌||◌}
use mathlib.Core.List.{List}
use Prim.Native.Nat.{ℕ, ◌+◌, ◌*◌, ◌≤◌, ◌<◌}
use native.Mathlib.Nat.{le_antisymm, lt_of_lt_of_le}
use lib.ListN.{length}
use Rattle.words.specs.Lists.{any}
use Rattle.std.specs.Prelude.{Result, Ok, Err}
use Rattle.model.specs.declared.Refusal.{Refusal}
use Rattle.model.specs.declared.Refusal.TheVariants as cause
use Rattle.model.specs.Picture.{Inst, inst}
use Rattle.model.specs.Refusal.{bad_kind, bad_list, bad_branch}
use Rattle.checks.specs.declared.look.Found.{Found}
use Rattle.checks.specs.Causes.{code, bad_regs, long_cat}
use Rattle.checks.specs.Found.{found, others}
use Rattle.checks.specs.Plain.{Skipped}
use Rattle.checks.proofs.Given.{within}
use Rattle.checks.proofs.Insts.{code_none, code_yes, code_on, code_more, code_past}
use Rattle.checks.proofs.Freed.{Free, plain_free}

-- ---- the loop

pub record Seen (R O B : ℕ) (recs : List ℕ) (p : ℕ) (f : Found) : Type 0 where
  pub kinds : any bad_kind (code recs p) ≡ false
  pub others_are : f ≡ others R O B (code recs p)

module _ (R O B : ℕ) (recs : List ℕ) where
  pub seen_none : Seen R O B recs 0 (record { regs = false; lists = false; branches = false; cats = false })
  seen_none =
      record {
        kinds = code_none bad_kind recs;
        others_are = λ i. record {
          regs = sym (code_none (bad_regs R) recs) i;
          lists = sym (code_none (bad_list O) recs) i;
          branches = sym (code_none (bad_branch B) recs) i;
          cats = sym (code_none long_cat recs) i;
        };
      }

  -- a record more, of no bad kind
  module _ (p : ℕ) {f : Found} {k r l x y : Bool} (s : Seen R O B recs p f) (ek : k ≡ bad_kind (inst recs p)) (no_kind : k ≡ false) where
    pub seen_more : r ≡ bad_regs R (inst recs p) → l ≡ bad_list O (inst recs p) → x ≡ bad_branch B (inst recs p) → y ≡ long_cat (inst recs p)
        → Seen R O B recs (p + 1) (record { regs = f.regs || r; lists = f.lists || l; branches = f.branches || x; cats = f.cats || y })
    seen_more er el ex ey =
        let e = s.others_are in
        record {
          kinds = code_on bad_kind recs p s.kinds ek no_kind;
          others_are = λ i. record {
            regs = code_more (bad_regs R) recs p (ap (λ (f : Found). f.regs) e) er i;
            lists = code_more (bad_list O) recs p (ap (λ (f : Found). f.lists) e) el i;
            branches = code_more (bad_branch B) recs p (ap (λ (f : Found). f.branches) e) ex i;
            cats = code_more long_cat recs p (ap (λ (f : Found). f.cats) e) ey i;
          };
        }

  -- past plain ones
  pub seen_past : {n p q : ℕ} {f : Found} → 16 * n ≤ length recs → Seen R O B recs p f → Skipped R recs n p q → Seen R O B recs q f
  seen_past {n} {p} {q} w s k =
      let free : (j : ℕ) → p ≤ j → j < q → Free R (inst recs j) = λ j l h. plain_free recs j R (within recs n j w (lt_of_lt_of_le h k.upto)) (k.plain j l h) in
      record {
        kinds = sym (code_past bad_kind recs p q k.from (λ j l h. (free j l h).kinds)) ∙ s.kinds;
        others_are = s.others_are ∙ (λ i. record {
          regs = code_past (bad_regs R) recs p q k.from (λ j l h. (free j l h).regs) i;
          lists = code_past (bad_list O) recs p q k.from (λ j l h. (free j l h).lists O) i;
          branches = code_past (bad_branch B) recs p q k.from (λ j l h. (free j l h).branches B) i;
          cats = code_past long_cat recs p q k.from (λ j l h. (free j l h).cats) i;
        });
      }

  -- one of a bad kind
  pub seen_bad : {n p : ℕ} {r : Bool} → p < n → r ≡ bad_kind (inst recs p) → r ≡ true → Err cause.Kind ≡ found R O B (code recs n)
  unfolding found
  seen_bad {n} h e t = ap (λ (b : Bool). cond b (Err cause.Kind) (Ok (others R O B (code recs n)))) (code_yes bad_kind recs {n = n} h e t)

  -- all of them
  pub seen_all : {n p : ℕ} {f : Found} → p ≤ n → n ≤ p → Seen R O B recs p f → Ok f ≡ found R O B (code recs n)
  unfolding found
  seen_all {n} {p} {f} h k s =
      let z : Seen R O B recs n f = subst (λ (m : ℕ). Seen R O B recs m f) (le_antisymm h k) s in
      ap (λ (g : Found). Ok g) z.others_are ∙ sym (ap (λ (b : Bool). cond b (Err cause.Kind) (Ok (others R O B (code recs n)))) z.kinds)

-- ---- what it says

module _ (R O B : ℕ) (is : List Inst) {x : Result Found Refusal} (e : x ≡ found R O B is) where
  pub found_kind : {r : Refusal} → x ≡ Err r → (true ≡ any bad_kind is) × (r ≡ cause.Kind)
  unfolding found
  found_kind {r} h = go (any bad_kind is) (sym e ∙ h)
    where
      go : (b : Bool) → cond b (Err cause.Kind) (Ok (others R O B is)) ≡ Err r → (true ≡ b) × (r ≡ cause.Kind)
      go true q = (refl, cc)
      go false q = absurd (let z : ⊥ = cc in z)

  pub found_others : {f : Found} → x ≡ Ok f → (false ≡ any bad_kind is) × (f ≡ others R O B is)
  unfolding found
  found_others {f} h = go (any bad_kind is) (sym e ∙ h)
    where
      go : (b : Bool) → cond b (Err cause.Kind) (Ok (others R O B is)) ≡ Ok f → (false ≡ b) × (f ≡ others R O B is)
      go true q = absurd (let z : ⊥ = cc in z)
      go false q = (refl, cc)
