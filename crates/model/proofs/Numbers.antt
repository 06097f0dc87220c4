-- A cause and its number: each gives the other, no number is above 10, and what acceptance answers by a number. Assumes nothing.
use mathlib.Core.Path.{◌≡◌, refl, ap, ◌∙◌}
use mathlib.Core.Bool.{Bool, true, false}
use mathlib.Core.List.{List, [], ◌∷◌}
use Prim.Native.Nat.{ℕ, zero, suc, ◌+◌, ◌≤◌, ◌<◌}
use native.Mathlib.Omega.{arith}
use Rattle.std.specs.Prelude.{Ok, Err, eqb, length}
use Rattle.words.specs.Lists.{upto}
use Rattle.words.proofs.Members.{all_in, in_range}
use Rattle.model.specs.declared.Refusal.{Refusal}
use Rattle.model.specs.declared.Refusal.TheVariants as cause
use Rattle.model.specs.Picture.{Picture}
use Rattle.model.specs.Refusal.{causes, lowest, refusal}
use Rattle.model.specs.Numbered.{number_of, refusal_of, verdict}
use Rattle.model.specs.Results.{NeverEleven}

-- no cause has a number above 10
pub number_low : (r : Refusal) → number_of r ≤ 10
number_low cause.Large = omega arith
number_low cause.Uneven = omega arith
number_low cause.Blocks = omega arith
number_low cause.Kind = omega arith
number_low cause.Slot = omega arith
number_low cause.List = omega arith
number_low cause.Branch = omega arith
number_low cause.Cat = omega arith
number_low cause.Type = omega arith
number_low cause.Work = omega arith

-- the cause of a number has that number
pub number_back : (n : ℕ) → n < 10 → number_of (refusal_of (suc n)) ≡ suc n
number_back n h = lib.Dec.eqb→eq _ _ (all_in (λ k. eqb (number_of (refusal_of (suc k))) (suc k)) n (upto 10) tt (in_range n 0 10 (omega arith) (omega arith)))

-- ---- acceptance, by the number n

pub verdict_none : (n : ℕ) {u : Unit {0}} → verdict n ≡ Ok u → n ≡ 0
verdict_none zero e = refl
verdict_none (suc n) e = absurd (let z : ⊥ = cc in z)

pub verdict_some : (n : ℕ) {r : Refusal} → verdict n ≡ Err r → (n ≡ 0 → ⊥) × (r ≡ refusal_of n)
verdict_some zero e = absurd (let z : ⊥ = cc in z)
verdict_some (suc n) e = (λ z. omega arith, cc)

pub verdict_number : (n : ℕ) {r : Refusal} → n ≤ 10 → verdict n ≡ Err r → number_of r ≡ n
verdict_number zero h e = absurd (let z : ⊥ = cc in z)
verdict_number (suc n) h e = ap number_of (verdict_some (suc n) e).1 ∙ number_back n (omega arith)

-- ---- a picture's number

lowest_low : (n : ℕ) (cs : List Bool) → lowest (suc n) cs ≤ n + length cs
lowest_low n [] = omega arith
lowest_low n (true ∷ cs) = omega arith
lowest_low n (false ∷ cs) = let h = lowest_low (suc n) cs in omega arith

pub refusal_low : NeverEleven
refusal_low P w64 w32 nf = lowest_low 0 (causes P w64 w32 nf)

-- the cause that is answered for a picture has the picture's number
pub refused_number : (P : Picture) (w64 w32 nf : ℕ) {r : Refusal} → verdict (refusal P w64 w32 nf) ≡ Err r → number_of r ≡ refusal P w64 w32 nf
refused_number P w64 w32 nf e = verdict_number (refusal P w64 w32 nf) (refusal_low P w64 w32 nf) e
