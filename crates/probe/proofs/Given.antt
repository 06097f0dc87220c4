-- What `flow`'s functions leave, said of the whole picture; and what a refusal of 0 gives of the words lent. Assumes nothing.
use mathlib.Core.Path.{◌≡◌, sym, ◌∙◌, subst}
use mathlib.Core.List.{List}
use Prim.Native.Nat.{ℕ, ◌*◌, ◌≤◌}
use native.Mathlib.Omega.{arith}
use Rattle.model.specs.Picture.{Picture, nblocks}
use Rattle.std.specs.Prelude.{Result, Ok, Err}
use Rattle.model.specs.declared.Refusal.{Refusal}
use Rattle.model.specs.Refusal.{refusal}
use Rattle.model.specs.Numbered.{number_of, verdict}
use Rattle.model.proofs.Numbers.{verdict_none, verdict_some, refused_number}
use Rattle.laws.proofs.Accepted.{work_room}
use Rattle.cfg.specs.Drawn.{drawn}
use Rattle.flow.specs.Live.{Live}
use Rattle.flow.proofs.Whole.{live-rows_whole}

pub live_of : (P : Picture) (w v : ℕ) (bits : List ℕ) → w ≡ v → Live (drawn P.bounds P.recs P.ops P.pairs P.targets) w bits → Live P v bits
live_of P w v bits e l = subst (λ (k : ℕ). Live P k bits) e (live-rows_whole P w bits l)

-- ---- acceptance answers r

module _ {r : Result Unit Refusal} (P : Picture) (w64 w32 nf : ℕ) (e : r ≡ verdict (refusal P w64 w32 nf)) where
  pub none : {u : Unit {0}} → r ≡ Ok u → refusal P w64 w32 nf ≡ 0
  none h = verdict_none (refusal P w64 w32 nf) (sym e ∙ h)

  module _ {c : Refusal} (h : r ≡ Err c) where
    pub some_cause : refusal P w64 w32 nf ≡ 0 → ⊥
    some_cause = (verdict_some (refusal P w64 w32 nf) (sym e ∙ h)).0

    pub its_number : {n : ℕ} → n ≡ number_of c → n ≡ refusal P w64 w32 nf
    its_number f = f ∙ refused_number P w64 w32 nf (sym e ∙ h)

-- the slice lent for the predecessors has room for them
pub words_room : (P : Picture) (w64 n nf : ℕ) → refusal P w64 n nf ≡ 0 → 2 * nblocks P ≤ n
words_room P w64 n nf ok = let w = (work_room P w64 n nf ok).1 in omega arith
