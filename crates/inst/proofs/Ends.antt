-- How an instruction ends a block, by the shape in its kind's row. Assumes nothing.
use mathlib.Core.Bool.{Bool, true, false, cond}
use mathlib.Core.Path.{◌≡◌, refl, sym, subst}
use Prim.Native.Nat.{ℕ, ◌<◌}
use lib.ListN.{get_or}
use Rattle.model.specs.Kinds.{Br, CondBr, Case}
use Rattle.model.specs.Picture.{Inst, kind, is_kind, End, goes, parts, cases, stops, end_of}
use Rattle.model.proofs.Table.{place_is}
use Rattle.inst.specs.Table.{packed, shape}
use Rattle.inst.specs.Shape.{shape_of}
use Rattle.inst.specs.declared.table.Shape.{Shape}
use Rattle.inst.specs.declared.table.Shape.TheVariants.{Stops, Goes, Parts, Cases}
use Rattle.inst.proofs.Rows.{shape_is}

-- the end that a shape stands for
abbrev pub EndsAs : Shape → Inst → Type 0
EndsAs Stops i = end_of i ≡ stops
EndsAs Goes i = end_of i ≡ goes (get_or i 9 0)
EndsAs Parts i = end_of i ≡ parts (get_or i 9 0) (get_or i 10 0)
EndsAs Cases i = end_of i ≡ cases (get_or i 9 0)

abbrev by : Inst → Bool → Bool → Bool → End
by i a b c =
    elim a [
      | true ↦ goes (get_or i 9 0)
      | false ↦ elim b [ true ↦ parts (get_or i 9 0) (get_or i 10 0) | false ↦ elim c [ true ↦ cases (get_or i 9 0) | false ↦ stops ] ]
    ]

by_kind : (i : Inst) (a b c : Bool) → end_of i ≡ by i a b c → EndsAs (shape_of (cond a 1 (cond b 2 (cond c 3 0)))) i
by_kind i true b c h = h
by_kind i false true c h = h
by_kind i false false true h = h
by_kind i false false false h = h

pub ends : (i : Inst) (f : ℕ) {s : Shape} → get_or i 0 0 < 101 → s ≡ shape_of (shape (packed (kind i) f)) → EndsAs s i
ends i f h e =
    subst (λ (s : Shape). EndsAs s i) (sym e)
    (rw (shape_is (kind i) f, place_is (get_or i 0 0) h)
    (by_kind i (is_kind Br i) (is_kind CondBr i) (is_kind Case i) refl))
