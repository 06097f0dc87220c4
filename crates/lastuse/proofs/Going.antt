-- Each position's last reader, along the records of a chain. Assumes nothing.
use mathlib.Core.Path.{◌≡◌, refl, sym, ap, ◌∙◌, subst}
use mathlib.Core.List.{List, [], ◌∷◌, ◌++◌, append-nil, append_assoc}
use Prim.Native.Nat.{ℕ, ◌+◌, ◌≤◌, ◌<◌}
use native.Mathlib.Omega.{arith}
use lib.ListN.{get_or, length, replicate, length-append, length-replicate}
use lib.Seq.{get_or-append_seam}
use Rattle.model.specs.Picture.{Picture, inst, reads, writes}
use Rattle.model.specs.Move.{chain_places}
use Rattle.chains.specs.declared.chain.Chain.{Chain}
use Rattle.chains.specs.Chain.{blocks_of}
use Rattle.chains.specs.Positions.{bounded}
use Rattle.regfacts.specs.Written.{Good}
use Rattle.lastuse.specs.Uses.{ReadOn, Readers, defs_at, reads_at, Legible, ReadersAlong}
use Rattle.regfacts.proofs.Visiting.{read_low}
use Rattle.lastuse.proofs.Using.{Reading, reading_none, reading_low, reading_more}

pub cleared : (st : List ℕ) {st' : List ℕ} → st' ≡ replicate (length st) 0 → (length st' ≡ length st) × (st' ≡ replicate (length st') 0)
cleared st e = let l = ap length e ∙ length-replicate (length st) 0 in (l, e ∙ ap (λ (n : ℕ). replicate n 0) (sym l))

-- so many positions, and those that are left
pub record Going (recs ops bounds : List ℕ) (c : Chain) (st₀ st ls left : List ℕ) (q : ℕ) : Type 0 where
  pub places : List ℕ
  pub at : q ≡ length places
  pub all : (P : Picture) → P.bounds ≡ bounds → places ++ left ≡ chain_places P (blocks_of c)
  pub reading : (P : Picture) → P.bounds ≡ bounds → Reading (defs_at recs (chain_places P (blocks_of c))) (reads_at recs ops (chain_places P (blocks_of c))) q st₀ st ls

pub going_none : (recs ops : List ℕ) {bounds : List ℕ} {c : Chain} (st₀ : List ℕ) {st ls left : List ℕ} → length st ≡ length st₀ → st ≡ replicate (length st) 0 → length ls ≡ 800 → ((p : ℕ) → p < 800 → get_or ls p 0 ≡ p)
    → ((P : Picture) → P.bounds ≡ bounds → left ≡ chain_places P (blocks_of c)) → Going recs ops bounds c st₀ st ls left 0
going_none recs ops {c = c} st₀ size z long own all = record {
  places = [];
  at = refl;
  all = all;
  reading = λ P e. reading_none (defs_at recs (chain_places P (blocks_of c))) (reads_at recs ops (chain_places P (blocks_of c))) st₀ size z long own;
}

-- no more than 800 of them
pub few_places : {recs ops bounds : List ℕ} {c : Chain} {R : ℕ} {left : List ℕ} → Legible recs ops bounds c R → ((P : Picture) → P.bounds ≡ bounds → left ≡ chain_places P (blocks_of c)) → length left ≤ 800
few_places {bounds = bounds} y all =
    let e = ap length (all (bounded bounds) refl) in
    let f = y.few (bounded bounds) refl in
    omega (arith, e, f)

pub legible_on : {recs ops bounds : List ℕ} {c : Chain} {R R' : ℕ} → Legible recs ops bounds c R → R' ≡ R → Legible recs ops bounds c R'
legible_on {recs} {ops} {bounds} {c} y e = subst (Legible recs ops bounds c) (sym e) y

module _ {recs ops bounds : List ℕ} {c : Chain} (st₀ : List ℕ) (y : Legible recs ops bounds c (length st₀)) where
  abbrev bs : List ℕ
  bs = blocks_of c

  module _ {st ls left : List ℕ} {q : ℕ} (h : Going recs ops bounds c st₀ st ls left q) where
    pub going_size : length st ≡ length st₀
    going_size = (h.reading (bounded bounds) refl).size

    module _ {g : ℕ} {next : List ℕ} (l : left ≡ g ∷ next) where
      there : (P : Picture) → P.bounds ≡ bounds → h.places ++ g ∷ next ≡ chain_places P bs
      there P e = ap (λ (m : List ℕ). h.places ++ m) (sym l) ∙ h.all P e

      -- the record at the next position
      inside : (P : Picture) → P.bounds ≡ bounds → q < length (chain_places P bs)
      inside P e =
          let a = ap length (there P e) in
          let b = length-append h.places (g ∷ next) in
          omega (arith, a, b, h.at)

      here : (P : Picture) → P.bounds ≡ bounds → get_or (chain_places P bs) q 0 ≡ g
      here P e = ap (λ (k : ℕ). get_or (chain_places P bs) k 0) h.at ∙ ap (λ (m : List ℕ). get_or m (length h.places) 0) (sym (there P e)) ∙ get_or-append_seam h.places g next 0

      pub few_yet : q < 800
      few_yet = let a = inside (bounded bounds) refl in let b = y.few (bounded bounds) refl in omega (arith, a, b)

      good_here : Good recs ops (length st₀) g
      good_here = subst (Good recs ops (length st₀)) (here (bounded bounds) refl) (y.good (bounded bounds) refl q (inside (bounded bounds) refl))

      pub read_ready : Good recs ops (length st) g × ((r : ℕ) → r < length st → get_or st r 0 ≤ 800) × (length ls ≡ 800) × (q < 800)
      read_ready = (subst (λ (m : ℕ). Good recs ops m g) (sym going_size) good_here, reading_low (h.reading (bounded bounds) refl) (omega (arith, few_yet)), (h.reading (bounded bounds) refl).readers.size, few_yet)

      pub going_more : {st' ls' : List ℕ} → ReadOn (writes (inst recs g)) (reads ops (inst recs g)) q st ls st' ls' → Going recs ops bounds c st₀ st' ls' next (q + 1)
      going_more {st'} {ls'} k = record {
        places = h.places ++ (g ∷ []);
        at = let a = length-append h.places (g ∷ []) in omega (arith, a, h.at);
        all = λ P u. append_assoc h.places (g ∷ []) next ∙ there P u;
        reading = λ P u. reading_more (λ r i. (read_low (y.good P u q (inside P u))).each r i) (h.reading P u)
            (subst (λ (g : ℕ). ReadOn (writes (inst recs g)) (reads ops (inst recs g)) q st ls st' ls') (sym (here P u)) k);
      }

    pub going_end : left ≡ [] → ReadersAlong recs ops bounds c ls
    going_end l = record { each = λ P e. subst (λ (m : ℕ). Readers (defs_at recs (chain_places P bs)) (reads_at recs ops (chain_places P bs)) m ls) (h.at ∙ all P e) (h.reading P e).readers }
      where
        all : (P : Picture) → P.bounds ≡ bounds → length h.places ≡ length (chain_places P bs)
        all P e = ap length (sym (append-nil h.places) ∙ ap (λ (m : List ℕ). h.places ++ m) (sym l) ∙ h.all P e)
