-- The chain that the pass finds is a chain of the walk. Assumes nothing.
use mathlib.Core.Path.{◌≡◌, refl, sym, ap, subst}
use mathlib.Core.Logic.{inl, inr, ⊎_elim}
use mathlib.Core.List.{List, [], ◌∷◌, ◌++◌}
use Prim.Native.Nat.{ℕ}
use lib.ListN.{length}
use Rattle.words.specs.Lists.{In}
use Rattle.words.proofs.Members.{in_split, one_in}
use Rattle.model.specs.Picture.{Picture, goes, ending, end_succs, succs, preds, callers}
use Rattle.model.specs.Analyse.{Facts}
use Rattle.model.specs.Move.{Plan}
use Rattle.laws.proofs.Blocks.{is_pred}
use Rattle.laws.proofs.Chains.{Links, last_of_chain, links_apart, ends_succs}
use Rattle.laws.proofs.Entry.{sole_caller}
use Rattle.laws.proofs.Moving.{Moving, found, rest, into_out}
use Rattle.walk.specs.Rules.{Sole, Linked, Chain, ChainSteps, last_block}

pub last_same : (b : ℕ) (cs : List ℕ) → last_of_chain b cs ≡ last_block b cs
last_same b [] = refl
last_same b (c ∷ cs) = last_same c cs

module _ (P : Picture) where
  sole : (p c : ℕ) → length (callers P c) ≡ 1 → In c (succs P p) → Sole (succs P) p c
  sole p c e i =
      let s = sole_caller P p c i e in
      record { nonzero = s.0; only = λ a j. one_in (preds P c) a p (ap length s.1) (is_pred P a c j) (is_pred P p c i) }

  goes_there : (b c : ℕ) → ending P b ≡ goes c → succs P b ≡ c ∷ []
  goes_there b c e = ap (end_succs P) e

  linked : (bs : List ℕ) (cur t : ℕ) (cs : List ℕ) → Links P bs cur cs → In t (succs P (last_of_chain cur cs)) → length (callers P t) ≡ 1 → Linked (succs P) cur (cs ++ t ∷ [])
  linked bs cur t [] l i e = (sole cur t e i, tt)
  linked bs cur t (c ∷ cs) l i e = (sole cur c l.1 (subst (In c) (sym (goes_there cur c l.0)) (inl refl)), linked (bs ++ c ∷ []) c t cs l.3 i e)

  steps : (bs : List ℕ) (cur t : ℕ) (cs : List ℕ) → Links P bs cur cs → In t (succs P (last_of_chain cur cs)) → ChainSteps (succs P) t cur cs
  steps bs cur t [] l i = i
  steps bs cur t (c ∷ cs) l i =
      let e = goes_there cur c l.0 in
      (subst (In c) (sym e) (inl refl), (λ s j. only s c (subst (In s) e j)), steps (bs ++ c ∷ []) c t cs l.3 i)
    where
      only : (s c : ℕ) → In s (c ∷ []) → s ≡ c
      only s c (inl e) = e
      only s c (inr j) = absurd j

module _ (P : Picture) (G : Facts) (a : Plan) (mv : Moving P G a) where
  into_next : In a.into (succs P (last_of_chain a.x (rest P G a mv)))
  into_next = subst (In a.into) (sym (ends_succs P a.x mv.choice.c (found P G a mv))) (⊎_elim (λ z. inl z.0) (λ z. inr (inl z.0)) mv.choice.sides)

  x_out : In a.x (rest P G a mv ++ a.into ∷ []) → ⊥
  x_out j =
      ⊎_elim (λ k. links_apart P (a.x ∷ []) a.x a.x (rest P G a mv) (found P G a mv).links (inl refl) k) (λ k. ⊎_elim (λ f. into_out P G a mv (inl (sym f))) (λ y. y) k)
      (in_split a.x (rest P G a mv) (a.into ∷ []) j)

  pub is_chain : Chain (succs P) a.x a.into (rest P G a mv)
  is_chain = record {
    linked = linked P (a.x ∷ []) a.x a.into (rest P G a mv) (found P G a mv).links into_next (ap length mv.choice.sole);
    steps = steps P (a.x ∷ []) a.x a.into (rest P G a mv) (found P G a mv).links into_next;
    x_apart = x_out;
    t_apart = λ j. into_out P G a mv (inr j);
  }
