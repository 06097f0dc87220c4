-- Request 2026-02 (model/specs/Entry): block 0 only begins a chain, and where no block leads to it chains and targets are document
-- 01's. All by one law on callers. Assumes nothing.
use Rattle.std.specs.Prelude.{Option, None, Some}
use mathlib.Core.Path.{◌≡◌, refl, sym, ap, ap₂, ◌∙◌, subst}
use mathlib.Core.Logic.{inl, inr, ⊎_elim}
use mathlib.Core.Bool.{Bool, true, false, not, ◌&&◌}
use mathlib.Core.List.{List, [], ◌∷◌, ◌++◌}
use Prim.Native.Nat.{ℕ, zero, suc, ◌-◌, ◌<◌}
use native.Mathlib.Omega.{arith}
use lib.Dec.{eqb}
use lib.ListN.{get_or, length}
use borrow.Author.Tests.{ne_eqb}
use Rattle.words.specs.Lists.{In, mem, same}
use Rattle.words.proofs.Bools.{and_no, lt?}
use Rattle.model.specs.Picture.{Picture, inst, nblocks, ends, size, End, end_of, goes, parts, cases, stops, ending, end_succs, succs, preds, callers}
use Rattle.model.specs.Move.{Chain, chain_from}
use Rattle.model.specs.Entry.{OnlyBegins, chain_from_01, AsBefore}
use Rattle.laws.proofs.Blocks.{is_pred, size_past}
use Rattle.laws.proofs.Chains.{Links, last_of_chain, chain_found, ends_succs}

-- A block to which a block goes, and which has one caller, is not block 0, and that block is its one predecessor
pub sole_caller : (P : Picture) (p b : ℕ) → In b (succs P p) → length (callers P b) ≡ 1 → (b ≡ 0 → ⊥) × (preds P b ≡ p ∷ [])
sole_caller P p zero i e = absurd (none_else (preds P zero) (is_pred P p zero i) e)
  where
    none_else : (l : List ℕ) → In p l → suc (length l) ≡ 1 → ⊥
    none_else [] j e = j
    none_else (x ∷ l) j e = omega arith
sole_caller P p (suc b) i e = (λ z. absurd (omega (arith, z)), alone (preds P (suc b)) (is_pred P p (suc b) i) e)
  where
    alone : (l : List ℕ) → In p l → length l ≡ 1 → l ≡ p ∷ []
    alone [] j e = absurd j
    alone (x ∷ []) (inl h) e = ap (λ (z : ℕ). z ∷ []) (sym h)
    alone (x ∷ []) (inr j) e = absurd j
    alone (x ∷ y ∷ l) j e = absurd (omega arith)

-- ---- block 0 only begins

module _ (P : Picture) where
  later : (bs : List ℕ) (cur : ℕ) (cs : List ℕ) → Links P bs cur cs → (k : ℕ) → k < length cs → get_or cs k 0 ≡ 0 → ⊥
  later bs cur [] l k h e = omega arith
  later bs cur (c ∷ cs) l zero h e = (sole_caller P cur c (subst (In c) (sym (ap (end_succs P) l.0)) (inl refl)) l.1).0 e
  later bs cur (c ∷ cs) l (suc k) h e = later (bs ++ c ∷ []) c cs l.3 k (omega arith) e

  -- a block that ends in a CondBr is one
  parts_low : (b t f : ℕ) → ending P b ≡ parts t f → b < nblocks P
  parts_low b t f e = ⊎_elim (λ h. h) (λ h. absurd (clash (sym (past (size_past P b h)) ∙ e))) (lt? b (nblocks P))
    where
      past : size P b ≡ 0 → ending P b ≡ stops
      past z = ap (λ (n : ℕ). elim (eqb n 0) as (λ z. End) [ true ↦ stops | false ↦ end_of (inst P.recs (ends P b - 1)) ]) z

      clash : stops ≡ parts t f → ⊥
      clash q = let z : ◌≡◌ {A = ℕ} 0 1 = cc in absurd (omega arith)

pub only_begins : OnlyBegins
only_begins = record {
  no_later_part = λ P x k c e h z.
      let f = chain_found P x c e in
      later P (x ∷ []) x f.rest f.links k (let n = ap length f.blocks_are in omega (arith, n)) (ap (λ (l : List ℕ). get_or l (suc k) 0) (sym f.blocks_are) ∙ z);
  no_target = λ P x c e.
      let f = chain_found P x c e in
      let low = parts_low P (last_of_chain x f.rest) c.t c.f f.ends_in in
      and_no (not (mem 0 c.blocks)) (ap (λ (b : Bool). b && same (preds P 0) []) (ne_eqb (nblocks P) c.last (λ q. let l = f.last_is in omega (arith, q, l))));
}

-- ---- as before

module _ (P : Picture) (none : preds P 0 ≡ []) where
  callers_there : (p b : ℕ) → In b (succs P p) → callers P b ≡ preds P b
  callers_there p zero i = absurd (subst (In p) none (is_pred P p zero i))
  callers_there p (suc b) i = refl

  same_from : (k : ℕ) (bs : List ℕ) (cur : ℕ) → chain_from P k bs cur ≡ chain_from_01 P k bs cur
  same_from zero bs cur = refl
  same_from (suc k) bs cur = go (λ to. same_from k (bs ++ to ∷ []) to) (ending P cur) refl
    where
      there : (to : ℕ) → ending P cur ≡ goes to → In to (succs P cur)
      there to q = subst (In to) (sym (ap (end_succs P) q)) (inl refl)

      go : ((to : ℕ) → chain_from P k (bs ++ to ∷ []) to ≡ chain_from_01 P k (bs ++ to ∷ []) to) → (x : End) → ending P cur ≡ x
          → ◌≡◌ {A = Option Chain} (elim x as (λ z. Option Chain) [
            | goes to ↦ elim (eqb (length (callers P to)) 1 && not (mem to bs)) as (λ z. Option Chain) [ true ↦ chain_from P k (bs ++ to ∷ []) to | false ↦ None ]
            | parts t f ↦ Some (record { blocks = bs; last = cur; t = t; f = f })
            | cases c ↦ None
            | stops ↦ None
          ]) (elim x as (λ z. Option Chain) [
            | goes to ↦ elim (eqb (length (preds P to)) 1 && not (mem to bs)) as (λ z. Option Chain) [ true ↦ chain_from_01 P k (bs ++ to ∷ []) to | false ↦ None ]
            | parts t f ↦ Some (record { blocks = bs; last = cur; t = t; f = f })
            | cases c ↦ None
            | stops ↦ None
          ])
      go rec (goes to) q =
          ap₂ (λ (l : List ℕ) (o : Option Chain). elim (eqb (length l) 1 && not (mem to bs)) as (λ z. Option Chain) [ true ↦ o | false ↦ None ])
          (callers_there cur to (there to q)) (rec to)
      go rec (parts t f) q = refl
      go rec (cases n) q = refl
      go rec stops q = refl

pub as_before : AsBefore
as_before = record {
  same_chain = λ P n x. same_from P n 5 (x ∷ []) x;
  same_target = λ P n x b c e i.
      let f = chain_found P x c e in
      ap (λ (l : List ℕ). not (mem b c.blocks) && same l (c.last ∷ [])) (callers_there P n (last_of_chain x f.rest) b (subst (In b) (sym (ends_succs P x c f)) i));
}
