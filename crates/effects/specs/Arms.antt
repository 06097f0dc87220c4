-- An effect as a struct of numbers, and when it is what `model`'s `arm` says. Assumes nothing.
use Rattle.std.specs.Prelude.{Bool, ◌⊎◌, ◌≡◌, List, ℕ, ◌+◌, ◌*◌, ◌≤◌, ◌<◌, get_or}
use Rattle.model.specs.Kinds as K
use Rattle.model.specs.Picture.{Inst, form}
use Rattle.model.specs.Analyse as M
use Rattle.model.specs.Analyse.{Org, eff, arm, pieces, small, whole}
use Rattle.effects.specs.Origin.{org_at, class_of, wrote_at, from_at}
use Rattle.effects.specs.Input.{value_at}
use Rattle.effects.specs.declared.arms.Arm.{Arm}
use Rattle.effects.specs.declared.arms.Arm.TheVariants.{Const, ConstF, AddrOf, Move, Select, Truth, Bin, Index, Check, DopeLen, Load, Alloc, LayoutOf, Signal, Fills, Store, Cat, Native, Stops, Deref, Writes, Other}
use Rattle.effects.specs.declared.arms.Class.{Class}
use Rattle.effects.specs.declared.arms.Effect.{Effect}
use Rattle.effects.specs.declared.input.Input.{Input}
use Rattle.effects.specs.declared.origin.Value.{Value}

-- `model`'s arm
abbrev pub arm_of : Arm → K.Arm
arm_of Const = K.const
arm_of ConstF = K.constF
arm_of AddrOf = K.addr_of
arm_of Move = K.move
arm_of Select = K.select
arm_of Truth = K.truth
arm_of Bin = K.bin
arm_of Index = K.index
arm_of Check = K.check
arm_of DopeLen = K.dopeLen
arm_of Load = K.load
arm_of Alloc = K.alloc
arm_of LayoutOf = K.layout_of
arm_of Signal = K.signal
arm_of Fills = K.fills
arm_of Store = K.store
arm_of Cat = K.cat
arm_of Native = K.native
arm_of Stops = K.stops
arm_of Deref = K.deref
arm_of Writes = K.writes
arm_of Other = K.other

-- class, origin, length, layout, creates, memory written, barrier, memory read
abbrev pub effect_of : Class → ℕ → Bool → Bool → Bool → ℕ → Bool → ℕ → Effect
effect_of c o l y m w b f = record { class = c; org = o; len = l; layout = y; creates = m; wrote = w; barrier = b; from = f }

-- what a struct says; the pieces of a Cat stand beside it
unfoldable pub does : Effect → List Org → M.Effect
does e ps = eff (class_of e.class) (from_at e.from ps) e.creates (wrote_at e.wrote) e.barrier (org_at e.org) e.len e.layout

-- the k-th register read; past the third, nothing is known
abbrev pub read_at : Input → ℕ → Value
read_at x k = value_at x.reads k

-- the instruction i of arm a, by the numbers of what it reads
unfoldable pub asked : Inst → Arm → Input → List Org → M.Effect
asked i a x list = arm i x.p x.divisor (λ k. org_at (read_at x k).org) (λ k. (read_at x k).len) (λ k. (read_at x 0).layout) list (arm_of a)

-- r is what `analyse` says of an instruction of arm a, where x holds what that asks (of a constant, whether it is a length); its
-- numbers are small, but for the code of a Cat, and its origin is of a position up to this one
pub record Right (r : Effect) (a : Arm) (x : Input) : Type 0 where
  pub near : r.org < 6 + 2 * x.p
  pub wrote : r.wrote ≤ 2004
  pub from : (r.from ≤ 2004) ⊎ ((r.from ≡ 4294967295) × (arm_of a ≡ K.cat))
  pub right : (i : Inst) (list : List Org) → form i ≡ x.form → get_or i 8 0 ≡ x.list → (a ≡ Const → small (whole i) ≡ x.small) → does r (pieces (get_or i 9 0) list) ≡ asked i a x list

-- does the value of an instruction of arm a point to a layout: what Move and Index read first, what Select reads second, or else
-- its own block
unfoldable pub leads : Arm → List Value → Effect → Bool
leads Move rs e = (value_at rs 0).layout
leads Index rs e = (value_at rs 0).layout
leads Select rs e = (value_at rs 1).layout
leads _ rs e = e.layout
