-- The straight code of the walk along a chain: it is the chain's places, and the chain's facts are tied to it. Assumes nothing.
use mathlib.Core.Path.{◌≡◌, refl, sym, ap, ap₂, ◌∙◌, subst}
use mathlib.Core.List.{List, [], ◌∷◌, ◌++◌, map}
use Prim.Native.Nat.{ℕ, zero, suc, ◌-◌, ◌<◌}
use native.Mathlib.Nat.{zero-add}
use native.Mathlib.Omega.{arith}
use lib.ListN.{get_or, length, take, length-map}
use Rattle.words.specs.Lists.{range}
use Rattle.words.proofs.Lists.{map_append, get_d_map}
use Rattle.model.specs.Picture.{Picture, Inst, inst, reads, starts, size, places}
use Rattle.model.specs.Picture as Pic
use Rattle.model.specs.Analyse.{Facts, Fact, analyse, last_writer}
use Rattle.model.specs.Move.{chain_places}
use Rattle.laws.proofs.Analysed.{length_analyse, fact_of}
use Rattle.walk.specs.Machine.{Instr, no_instr}
use Rattle.walk.specs.Rules.{without_last, straight_code}
use Rattle.kept.proofs.Program.{Spot, placed, prog}
use Rattle.kept.proofs.Straight.{Tied}

module _ (was : ℕ → Spot) (P : Picture) (G : Facts) where
  pub tied : (ps : List ℕ) → Tied (analyse G P.ops [] (map (inst P.recs) ps)) (map (placed was P) ps)
  tied ps = record {
    len = length_analyse G P.ops [] is ∙ zero-add (length is) ∙ length-map ps (inst P.recs) ∙ sym (length-map ps (placed was P));
    defs = λ k h. ap (λ (f : Fact). f.defs) (fact_of G P.ops is k (short k h)) ∙ ap Pic.writes (inst_at k h) ∙ ap (λ (i : Instr). i.writes) (sym (ins_at k h));
    uses = λ k h. ap (λ (f : Fact). f.uses) (fact_of G P.ops is k (short k h))
        ∙ ap (λ (i : Inst). map (λ r. record { reg = r; writer = last_writer 0 (take k run) r }) (reads P.ops i)) (inst_at k h)
        ∙ ap (λ (i : Instr). map (λ r. record { reg = r; writer = last_writer 0 (take k run) r }) i.reads) (sym (ins_at k h));
  }
    where
      is : List Inst
      is = map (inst P.recs) ps

      run : List Fact
      run = analyse G P.ops [] is

      low : (k : ℕ) → k < length (map (placed was P) ps) → k < length ps
      low k h = subst (λ (n : ℕ). k < n) (length-map ps (placed was P)) h

      short : (k : ℕ) → k < length (map (placed was P) ps) → k < length is
      short k h = subst (λ (n : ℕ). k < n) (sym (length-map ps (inst P.recs))) (low k h)

      inst_at : (k : ℕ) → k < length (map (placed was P) ps) → get_or is k [] ≡ inst P.recs (get_or ps k 0)
      inst_at k h = get_d_map (inst P.recs) 0 [] ps k (low k h)

      ins_at : (k : ℕ) → k < length (map (placed was P) ps) → get_or (map (placed was P) ps) k no_instr ≡ placed was P (get_or ps k 0)
      ins_at k h = get_d_map (placed was P) 0 no_instr ps k (low k h)

  -- ---- the straight code

  body_range : (s n : ℕ) → without_last (map (placed was P) (range s (suc n))) ≡ map (placed was P) (take n (range s (suc n)))
  body_range s zero = refl
  body_range s (suc n) = ap (λ (l : List Instr). placed was P s ∷ l) (body_range (suc s) n)

  pub body_places : (b : ℕ) → without_last (prog was P b) ≡ map (placed was P) (take (size P b - 1) (places P b))
  body_places b = go (size P b)
    where
      go : (n : ℕ) → without_last (map (placed was P) (range (starts P b) n)) ≡ map (placed was P) (take (n - 1) (range (starts P b) n))
      go zero = refl
      go (suc n) = body_range (starts P b) n ∙ ap (λ (k : ℕ). map (placed was P) (take k (range (starts P b) (suc n)))) (less n)
        where
          less : (n : ℕ) → n ≡ suc n - 1
          less n = omega arith

  pub straight : (x : ℕ) (cs : List ℕ) → straight_code (prog was P) x cs ≡ map (placed was P) (chain_places P (x ∷ cs))
  straight x [] = refl
  straight x (c ∷ cs) = ap₂ ◌++◌ (body_places x) (straight c cs) ∙ sym (map_append (placed was P) (take (size P x - 1) (places P x)) (chain_places P (c ∷ cs)))
