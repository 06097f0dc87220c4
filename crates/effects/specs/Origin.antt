-- Origins, classes, memory, flags and positions as numbers: what each number stands for. Assumes nothing.
use Rattle.std.specs.Prelude.{Bool, cond, List, [], ◌∷◌, ℕ, zero, suc, ◌/◌, ◌%◌, eqb, Option, None, Some}
use Rattle.words.specs.Lists.{hit}
use Rattle.model.specs.Analyse.{Org, Unknown, Ro, Heap, Frame, Temp, Img, Class, No, Movable, Free}
use Rattle.effects.specs.declared.arms.Class as D
use Rattle.effects.specs.declared.arms.Class.TheVariants as C

-- 0 Unknown, 1 Ro, 2 Heap, 3 Frame, 4 + 2 k Temp k, 5 + 2 k Img k
unfoldable pub org_at : ℕ → Org
org_at zero = Unknown
org_at (suc zero) = Ro
org_at (suc (suc zero)) = Heap
org_at (suc (suc (suc zero))) = Frame
org_at (suc (suc (suc (suc n)))) = cond (eqb (n % 2) 0) (Temp (n / 2)) (Img (n / 2))

unfoldable pub class_at : ℕ → Class
class_at zero = No
class_at (suc zero) = Movable
class_at (suc (suc n)) = Free

-- a class, and its number in a Fact
abbrev pub class_of : D.Class → Class
class_of C.No = No
class_of C.Movable = Movable
class_of C.Free = Free

abbrev pub class_code : D.Class → ℕ
class_code C.No = 0
class_code C.Movable = 1
class_code C.Free = 2

-- memory written: 0 none, or an origin's number and 1
unfoldable pub wrote_at : ℕ → Option Org
wrote_at zero = None
wrote_at (suc n) = Some (org_at n)

-- memory read: 0 none, or an origin's number and 1, or 4294967295, the pieces of a Cat, which are looked up again
unfoldable pub from_at : ℕ → List Org → List Org
from_at zero cat = []
from_at (suc n) cat = cond (eqb (suc n) 4294967295) cat (org_at n ∷ [])

-- a flag: `hit`, kept shut
unfoldable pub num : Bool → ℕ
num b = hit b

-- a position and 1, or 0 for none
unfoldable pub place_at : ℕ → Option ℕ
place_at zero = None
place_at (suc d) = Some d
