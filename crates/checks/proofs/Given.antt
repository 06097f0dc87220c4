-- What the absence of causes 2 and 4 gives, and what a row says that was looked up. Assumes nothing.
use mathlib.Core.Path.{◌≡◌, sym, ap₂, ◌∙◌}
use mathlib.Core.Bool.{Bool, false}
use mathlib.Core.List.{List}
use Prim.Native.Nat.{ℕ, ◌*◌, ◌≤◌, ◌<◌}
use native.Mathlib.Omega.{arith}
use lib.ListN.{get_or, length}
use Rattle.model.specs.Kinds.{kind_of}
use Rattle.model.specs.Picture.{Inst, inst, kind, form}
use Rattle.model.specs.Refusal.{bad_kind}
use Rattle.model.proofs.Results.{kind_low}
use Rattle.inst.specs.Table.{packed}
use Rattle.inst.specs.Record.{Within, Known}

-- one of n records that are whole
pub within : (recs : List ℕ) (n p : ℕ) → 16 * n ≤ length recs → p < n → Within recs p
within recs n p h l = record { whole = omega arith }

-- a record without cause 4 has a known kind
pub known : {r : Bool} (recs : List ℕ) (p : ℕ) → Within recs p → r ≡ bad_kind (inst recs p) → r ≡ false → Known recs p
known recs p w e f =
    let k = kind_low (inst recs p) (sym e ∙ f) in
    record { within = w; kind = omega arith }

-- the row that was looked up by a record's kind and form
pub row_by : (i : Inst) {x k f : ℕ} → x ≡ packed (kind_of k) f → k ≡ get_or i 0 0 → f ≡ get_or i 1 0 → x ≡ packed (kind i) (form i)
row_by i e ek ef = e ∙ ap₂ (λ (w f : ℕ). packed (kind_of w) f) ek ef
