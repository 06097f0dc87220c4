-- A test of the records of a range, one by one. Assumes nothing.
use mathlib.Core.Path.{◌≡◌, refl, ap, ◌∙◌}
use mathlib.Core.Bool.{Bool, ◌||◌}
use mathlib.Core.List.{List, map}
use Prim.Native.Nat.{ℕ, zero, suc, ◌+◌}
use native.Mathlib.Numerals.{add-one}
use Rattle.std.specs.List.{list_any, range_with_len}
use Rattle.words.specs.Lists.{range, any}
use Rattle.model.specs.Picture.{Inst, inst}

pub any_between : (f : Inst → Bool) (recs : List ℕ) (a n : ℕ) → list_any (λ p. f (inst recs p)) (range_with_len a n) ≡ any f (map (inst recs) (range a n))
any_between f recs a zero = refl
any_between f recs a (suc n) =
    ap (λ (b : Bool). f (inst recs a) || b) (any_between f recs (a + 1) n ∙ ap (λ (k : ℕ). any f (map (inst recs) (range k n))) (add-one a))
