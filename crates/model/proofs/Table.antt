-- The table of kinds, by one computed test each. Assumes nothing.
use mathlib.Core.Path.{◌≡◌, refl, sym, ap, ◌∙◌}
use mathlib.Core.Bool.{Bool, true, ◌||◌}
use mathlib.Core.List.{List, map}
use Prim.Native.Nat.{ℕ, suc, ◌-◌, ◌<◌}
use native.Mathlib.Nat.{zero-add}
use lib.Dec.{eqb, leb}
use lib.ListN.{get_or, length}
use Rattle.words.specs.Lists.{range, upto, all, filter, ◌implies◌}
use Rattle.words.proofs.Lists.{get_d_map, get_or-range}
use Rattle.model.specs.Kinds.{Kind, Stmt, TakeBounds, kinds, kind_of, place, row, at_form, writing}
use Rattle.model.proofs.Movable.{may_move}

-- the kinds stand at their places
pub places : map place kinds ≡ upto 101
places = refl

pub place_is : (w : ℕ) → w < 101 → place (kind_of w) ≡ w
place_is w h = sym (get_d_map place Stmt 0 kinds w h) ∙ ap (λ (l : List ℕ). get_or l w 0) places ∙ get_or-range 0 101 w h ∙ zero-add w

-- ---- request 2026-11, at every form allowed

abbrev pub forms : Kind → List ℕ
forms k = range (row k).least (suc (row k).most - (row k).least)

-- at most one of the slots is written at the form
abbrev pub one_written : Kind → ℕ → Bool
one_written k f = leb (length (filter writing (map (at_form f) (row k).slots))) 1

-- only TakeBounds writes more than one register
abbrev pub take_bounds_or_one : Kind → ℕ → Bool
take_bounds_or_one k f = eqb (place k) (place TakeBounds) || one_written k f

pub only_take_bounds : all (λ k. all (take_bounds_or_one k) (forms k)) kinds ≡ true
only_take_bounds = refl

-- a kind that may move writes one at most
abbrev pub moves_with_one : Kind → ℕ → Bool
moves_with_one k f = may_move (row k).arm implies one_written k f

pub movers_write_one : all (λ k. all (moves_with_one k) (forms k)) kinds ≡ true
movers_write_one = refl
