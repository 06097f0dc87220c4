-- The types that the pool of new registers has given: if those in use before are 7 or less, so are all. Assumes nothing.
use Rattle.std.specs.Prelude.{Option, None, Some}
use mathlib.Core.Bool.{Bool, true, false, cond}
use mathlib.Core.List.{List, [], ◌∷◌}
use Prim.Native.Nat.{ℕ, zero, suc, ◌≤◌}
use native.Mathlib.Omega.{arith}
use lib.Dec.{eqb}
use lib.ListN.{get_or}
use Rattle.words.proofs.Each.{Each, each_append}
use Rattle.model.specs.Analyse.{Fact}
use Rattle.model.specs.Legal.{fact_at}
use Rattle.model.specs.Move.{Pool, found, grown, given_types, give, gives, release, last_use, pooled}

abbrev pub Small : List ℕ → Type 0
Small ts = Each (λ t. t ≤ 7) ts

small_at : (ts : List ℕ) → Small ts → (d : ℕ) → get_or ts d 0 ≤ 7
small_at [] s d = omega arith
small_at (t ∷ ts) s zero = s.0
small_at (t ∷ ts) s (suc d) = small_at ts s.1 d

-- a new register has the old one's type; a Sig's next one is an I64
grown_small : (ts : List ℕ) (ty : ℕ) → Small ts → ty ≤ 7 → Small (grown ts ty)
grown_small ts ty s h = each_append (λ t. t ≤ 7) ts (cond (eqb ty 4) (4 ∷ 0 ∷ []) (ty ∷ [])) s (go (eqb ty 4))
  where
    go : (b : Bool) → Small (cond b (4 ∷ 0 ∷ []) (ty ∷ []))
    go true = (omega arith, (omega arith, tt))
    go false = (h, tt)

given_small : (ts : List ℕ) (ty : ℕ) (o : Option ℕ) → Small ts → ty ≤ 7 → Small (given_types ts ty o)
given_small ts ty None s h = grown_small ts ty s h
given_small ts ty (Some r) s h = s

gives_small : (p u : ℕ) (ds : List ℕ) (s : Pool) → Small s.types → Small (gives p u s ds).types
gives_small p u [] s h = h
gives_small p u (d ∷ ds) s h =
    let ty = get_or s.types d 0 in
    gives_small p u ds (give p u s d) (given_small s.types ty (found ty s.free) h (small_at s.types h d))

pub pooled_small : (run : List Fact) (there : ℕ → Bool) (ps : List ℕ) (s : Pool) → Small s.types → Small (pooled run there s ps).types
pooled_small run there [] s h = h
pooled_small run there (p ∷ ps) s h =
    pooled_small run there ps (gives p (last_use run there p) (release p s) (fact_at run p).defs) (gives_small p (last_use run there p) (fact_at run p).defs (release p s) h)
