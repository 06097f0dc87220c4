-- A picture as a program of the walk: each block's instructions, with the place that each had at first. Assumes nothing.
use mathlib.Core.Bool.{not, ◌&&◌, cond}
use mathlib.Core.List.{List, [], ◌∷◌, map}
use Prim.Native.Nat.{ℕ, suc, ◌-◌}
use lib.Dec.{eqb}
use lib.ListN.{get_or}
use Rattle.model.specs.Kinds.{Role, writing}
use Rattle.model.specs.Picture.{Picture, Inst, inst, absent, roles, slots, reads, writes, starts, places, end_of, end_succs}
use Rattle.walk.specs.Machine.{Instr, Prog}
use Rattle.kept.specs.Walk.{bare, home}

-- the numbers of the present slots that write, from k on
abbrev pub slots_at : ℕ → List Role → List ℕ → List ℕ
slots_at k [] rs = []
slots_at k (o ∷ os) [] = []
slots_at k (o ∷ os) (r ∷ rs) = let more = slots_at (suc k) os rs in cond (writing o && not (eqb r absent)) (k ∷ more) more

-- a block and an index in it
pub record Spot : Type 0 where
  pub block : ℕ
  pub index : ℕ

-- an instruction of P that stood at s
abbrev pub ins : Picture → Spot → Inst → Instr
ins P s i =
    record {
      old_block = s.block;
      old_index = s.index;
      what = bare i;
      goes_to = end_succs P (end_of i);
      slots = slots_at 0 (roles i) (slots i);
      reads = reads P.ops i;
      writes = writes i;
    }

-- position p of P, which stood at `was p`
abbrev pub placed : (ℕ → Spot) → Picture → ℕ → Instr
placed was P p = ins P (was p) (inst P.recs p)

-- P's blocks, where position p stood at `was p`
abbrev pub prog : (ℕ → Spot) → Picture → Prog
prog was P b = map (placed was P) (places P b)

-- a position as block and index
abbrev pub spot : Picture → ℕ → Spot
spot P o = let b = home P o in record { block = b; index = o - starts P b }

-- the picture itself; and the one after, whose positions stood at `was` of P
abbrev pub before : Picture → Prog
before P = prog (spot P) P

abbrev pub behind : Picture → Picture → List ℕ → Prog
behind P Q was = prog (λ p. spot P (get_or was p 0)) Q
