-- Records that write and read registers in use. Assumes nothing.
use Rattle.std.specs.Prelude.{◌≡◌, ◌⊎◌, List, ℕ, ◌≤◌, ◌<◌, get_or, length}
use Rattle.model.specs.Picture.{inst, reads, absent}
use Rattle.inst.specs.Record as I
use Rattle.inst.specs.Record.{Listed, write_at}

-- record p is whole, and writes registers below R
pub record Fits (recs : List ℕ) (R p : ℕ) : Type 0 where
  pub whole : I.Known recs p
  pub room : R ≤ 65536
  pub slot : (s : ℕ) → s < 5 → (write_at (inst recs p) s ≡ absent) ⊎ (write_at (inst recs p) s < R)

-- and reads such
pub record Good (recs ops : List ℕ) (R p : ℕ) : Type 0 where
  pub known : I.Known recs p
  pub listed : Listed recs ops p
  pub fits : Fits recs R p
  pub each : (k : ℕ) → k < length (reads ops (inst recs p)) → get_or (reads ops (inst recs p)) k absent < R
