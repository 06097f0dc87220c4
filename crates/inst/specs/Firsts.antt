-- The first registers of those that a record reads and of those that it writes, as the struct `Firsts` holds them. Assumes nothing.
use Rattle.std.specs.Prelude.{◌≡◌, List, ℕ, get_or}
use Rattle.model.specs.Picture.{absent}
use Rattle.inst.specs.declared.scanned.Firsts.{Firsts}

-- x has the first three of rs and the first two of ds, absent where there is none
pub record Heads (rs ds : List ℕ) (x : Firsts) : Type 0 where
  pub r0 : x.r0 ≡ get_or rs 0 absent
  pub r1 : x.r1 ≡ get_or rs 1 absent
  pub r2 : x.r2 ≡ get_or rs 2 absent
  pub d0 : x.d0 ≡ get_or ds 0 absent
  pub d1 : x.d1 ≡ get_or ds 1 absent
