-- What causes 4 to 8 find in the records (01, "The call", the table): where no kind is bad, each of the others by itself.
-- Assumes nothing.
use Rattle.std.specs.Prelude.{cond, List, ℕ, Result, Ok, Err}
use Rattle.words.specs.Lists.{any}
use Rattle.model.specs.declared.Refusal.{Refusal}
use Rattle.model.specs.declared.Refusal.TheVariants as cause
use Rattle.model.specs.Picture.{Inst}
use Rattle.model.specs.Refusal.{bad_kind, bad_list, bad_branch}
use Rattle.checks.specs.declared.look.Found.{Found}
use Rattle.checks.specs.Causes.{bad_regs, long_cat}

-- of R registers, O operands in use and B blocks
abbrev pub others : ℕ → ℕ → ℕ → List Inst → Found
others R O B is =
    record {
      regs = any (bad_regs R) is;
      lists = any (bad_list O) is;
      branches = any (bad_branch B) is;
      cats = any long_cat is;
    }

unfoldable pub found : ℕ → ℕ → ℕ → List Inst → Result Found Refusal
found R O B is = cond (any bad_kind is) (Err cause.Kind) (Ok (others R O B is))
