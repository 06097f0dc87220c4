-- A move leaves the code of every block but x and the target as it was, and so what these blocks read first and what they write.
-- Assumes nothing.
use mathlib.Core.Path.{◌≡◌, refl, sym, ap, ap₂, ◌∙◌, subst}
use mathlib.Core.Logic.{inl, inr}
use mathlib.Core.Bool.{Bool, not, ◌&&◌, ◌||◌}
use mathlib.Core.List.{List, [], ◌∷◌, ◌++◌, map}
use Prim.Native.Nat.{ℕ, ◌<◌}
use Rattle.words.specs.Lists.{In, mem}
use Rattle.words.proofs.Members.{in_map}
use Rattle.model.specs.Kinds.{reading}
use Rattle.model.specs.Picture.{Picture, Inst, inst, roles, slots, chosen, writes, nblocks, places, code}
use Rattle.model.specs.Live.{read_first, written}
use Rattle.model.specs.Analyse.{Facts}
use Rattle.model.specs.Move.{Plan, apply}
use Rattle.laws.proofs.Accepted.{Admitted}
use Rattle.laws.proofs.Sizes.{admitted_at}
use Rattle.laws.proofs.Moving.{Moving}
use Rattle.laws.proofs.Ordered.{order_else}
use Rattle.laws.proofs.Applied as Applied

module _ (P : Picture) (G : Facts) (a : Plan) (mv : Moving P G a) where
  abbrev Q : Picture
  Q = apply P a

  -- lists of operands in use stay
  first_on : (r : ℕ) (is : List Inst) → ((i : Inst) → In i is → Admitted P i) → read_first Q.ops r is ≡ read_first P.ops r is
  first_on r [] f = refl
  first_on r (i ∷ is) f =
      ap₂ (λ (l : List ℕ) (c : Bool). mem r (chosen reading (roles i) (slots i) ++ l) || (not (mem r (writes i)) && c))
      (Applied.kept_list P G a mv i (f i (inl refl))) (first_on r is (λ j u. f j (inr u)))

  module _ (b : ℕ) (low : b < nblocks P) (not_x : b ≡ a.x → ⊥) (not_into : b ≡ a.into → ⊥) where
    pub code_kept : code Q b ≡ code P b
    code_kept = Applied.code_after P G a mv b low ∙ Applied.code_else P G a mv b not_into ∙ ap (map (inst P.recs)) (order_else P G a mv b not_x not_into)

    pub first_kept : (r : ℕ) → read_first Q.ops r (code Q b) ≡ read_first P.ops r (code P b)
    first_kept r = ap (read_first Q.ops r) code_kept ∙ first_on r (code P b) (λ i u.
        let z = in_map (inst P.recs) i (places P b) u in subst (Admitted P) (sym z.2) (admitted_at P mv.ok b z.0 z.1))

    pub written_kept : (r : ℕ) → written r (code Q b) ≡ written r (code P b)
    written_kept r = ap (written r) code_kept
