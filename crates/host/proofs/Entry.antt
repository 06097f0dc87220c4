-- The call on bytes within the bounds; and the host's number for what it gives. Assumes nothing.
use mathlib.Core.Path.{◌≡◌, refl, sym, ap, ◌∙◌}
use mathlib.Core.Bool.{Bool, true, false, ◌&&◌}
use mathlib.Core.List.{List, []}
use Prim.Native.Nat.{ℕ, ◌≤◌}
use lib.Dec.{leb}
use lib.ListN.{length}
use borrow.Author.Tests.{le-leb}
use Rattle.std.specs.Prelude.{Option, Some, None}
use Rattle.words.specs.Bytes.{words_of}
use Rattle.words.proofs.Bools.{clash}
use Rattle.model.specs.Pass.{number}
use Rattle.layout.specs.Layout.{readable, picture_in}
use Rattle.rounds.specs.declared.state.Ran.{Ran}
use Rattle.host.specs.Host.{sunk, within_bounds, put_left, written, ran_by, replied, RanAs}
use Rattle.host.proofs.Left.{came, small}

module _ (bs result : List ℕ) (k u : ℕ) where
  abbrev the_bytes : Bool → List ℕ
  the_bytes b = elim b as (λ z. List ℕ) [ true ↦ put_left (sunk bs k u) result | false ↦ result ]

  abbrev the_reply : Bool → Option Ran
  the_reply b = elim b as (λ z. Option Ran) [ true ↦ Some (ran_by (sunk bs k u)) | false ↦ None ]

  within : within_bounds bs (length result) k u ≡ true → (Some (ran_by (sunk bs k u)) ≡ replied bs (length result) k u) × (put_left (sunk bs k u) result ≡ written bs result k u)
  within e = (sym (ap the_reply e), sym (ap the_bytes e))

-- ---- the bounds

pub record Within (n k u : ℕ) : Type 0 where
  pub long : 53024 ≤ n
  pub regs_few : k ≤ 512
  pub opers_few : u ≤ 2048

-- the bounds hold: whether the bytes can be read is left
pub as_readable : (bs : List ℕ) (n k u : ℕ) → Within n k u → within_bounds bs n k u ≡ readable bs
as_readable bs n k u w = go (readable bs) (leb 53024 n) (leb k 512) (leb u 2048) (le-leb _ _ w.long) (le-leb _ _ w.regs_few) (le-leb _ _ w.opers_few)
  where
    go : (a b c d : Bool) → b ≡ true → c ≡ true → d ≡ true → a && b && c && d ≡ a
    go false b c d p q r = refl
    go true true true true p q r = refl
    go true false c d p q r = clash refl (sym p)
    go true true false d p q r = clash refl (sym q)
    go true true true false p q r = clash refl (sym r)

-- ---- the call within the bounds

module _ (bs result : List ℕ) (k u : ℕ) where
  pub done : readable bs ≡ true → Within (length result) k u → {ran : Ran} {after : List ℕ} → RanAs (sunk bs k u) result ran after
      → (Some ran ≡ replied bs (length result) k u) × (after ≡ written bs result k u)
  done e w {ran} r =
      let i = within bs result k u (as_readable bs (length result) k u w ∙ e) in
      (ap (λ (z : Ran). Some z) r.ran_is ∙ i.0, r.result_is ∙ i.1)

-- ---- the host's number

pub number_small : (bs : List ℕ) (n k u : ℕ) {ran : Ran} → Some ran ≡ replied bs n k u → number ran.answer ≤ 300
number_small bs n k u {ran} e = go (within_bounds bs n k u) e
  where
    go : (b : Bool) → Some ran ≡ the_reply bs [] k u b → number ran.answer ≤ 300
    go true y = let z : ran ≡ ran_by (sunk bs k u) = cc in rw z (small (came (picture_in (words_of bs) k u) 3072 13120 800))
    go false y = cc
