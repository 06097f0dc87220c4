-- A branch to no block, by the shape in the row of a record's kind. Assumes nothing.
use mathlib.Core.Bool.{Bool, true, false, ◌&&◌, ◌||◌}
use mathlib.Core.Path.{◌≡◌, refl, sym, ap, ◌∙◌}
use Prim.Native.Nat.{ℕ, ◌<◌}
use native.Mathlib.Omega.{arith}
use lib.Dec.{leb}
use lib.ListN.{get_or}
use borrow.Author.Tests.{eqb-true}
use Rattle.model.specs.Kinds.{Br, CondBr, Case}
use Rattle.model.specs.Picture.{Inst, End, goes, parts, cases, stops, kind, form, is_kind, end_of}
use Rattle.model.specs.Refusal.{bad_branch}
use Rattle.inst.specs.Table.{packed, shape}
use Rattle.inst.specs.Shape.{shape_of}
use Rattle.inst.specs.declared.table.Shape.{Shape}
use Rattle.inst.specs.declared.table.Shape.TheVariants.{Stops, Goes, Parts, Cases}
use Rattle.inst.proofs.Ends.{ends}

module _ (B : ℕ) (i : Inst) where
  abbrev t : ℕ
  t = get_or i 9 0

  abbrev f : ℕ
  f = get_or i 10 0

  -- an end that names no block
  abbrev astray : End → Bool
  astray e = elim e [ goes a ↦ leb B a | parts a b ↦ leb B a || leb B b | cases c ↦ false | stops ↦ false ]

  abbrev by : Bool → Bool → Bool → End
  by a b c = elim a [ true ↦ goes t | false ↦ elim b [ true ↦ parts t f | false ↦ elim c [ true ↦ cases t | false ↦ stops ] ] ]

  by_kind : (a b c : Bool) → is_kind Br i ≡ a → is_kind CondBr i ≡ b → (a && leb B t || b && (leb B t || leb B f)) ≡ astray (by a b c)
  by_kind true true c p q = absurd (let x = eqb-true (get_or i 0 0) 52 p in let y = eqb-true (get_or i 0 0) 53 q in omega arith)
  by_kind true false c p q = mathlib.Core.Bool.or-false (leb B t)
  by_kind false true c p q = refl
  by_kind false false true p q = refl
  by_kind false false false p q = refl

  branch_is : bad_branch B i ≡ astray (end_of i)
  branch_is = by_kind (is_kind Br i) (is_kind CondBr i) (is_kind Case i) refl refl

  -- by the shape of the row that was looked up
  module _ {s : Shape} {x : ℕ} (known : get_or i 0 0 < 101) (ex : x ≡ packed (kind i) (form i)) (es : s ≡ shape_of (shape x)) where
    abbrev at_row : s ≡ shape_of (shape (packed (kind i) (form i)))
    at_row = es ∙ ap (λ (y : ℕ). shape_of (shape y)) ex

    pub at_goes : s ≡ Goes → leb B t ≡ bad_branch B i
    at_goes e = sym (branch_is ∙ ap astray (ends i (form i) known (sym e ∙ at_row)))

    pub at_parts : s ≡ Parts → (leb B t || leb B f) ≡ bad_branch B i
    at_parts e = sym (branch_is ∙ ap astray (ends i (form i) known (sym e ∙ at_row)))

    pub at_cases : s ≡ Cases → false ≡ bad_branch B i
    at_cases e = sym (branch_is ∙ ap astray (ends i (form i) known (sym e ∙ at_row)))

    pub at_stops : s ≡ Stops → false ≡ bad_branch B i
    at_stops e = sym (branch_is ∙ ap astray (ends i (form i) known (sym e ∙ at_row)))
