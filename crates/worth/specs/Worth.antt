-- 01, "A round": whether a chain is looked at, as an answer on lent words. Assumes nothing.
use Rattle.std.specs.Prelude.{◌≡◌, Bool, true, List, ℕ, ◌<◌, Some}
use Rattle.model.specs.Picture.{Picture, nblocks}
use Rattle.model.specs.Move.{chain, worth_a_look}
use Rattle.chains.specs.declared.chain.Chain.{Chain}
use Rattle.chains.specs.Chain.{chain_in, Sound}

-- r is `model`'s answer for every picture of these lists
pub record Worth (bounds recs replay : List ℕ) (c : Chain) (x : ℕ) (r : Bool) : Type 0 where
  pub is : (P : Picture) → P.bounds ≡ bounds → P.recs ≡ recs → P.replay ≡ replay → r ≡ worth_a_look P x (chain_in c)

-- c is the chain from block x, and worth a look
pub record Chosen (P : Picture) (x : ℕ) (c : Chain) : Type 0 where
  pub x_block : x < nblocks P
  pub sound : Sound c (nblocks P)
  pub is_chain : chain P x ≡ Some (chain_in c)
  pub worth : worth_a_look P x (chain_in c) ≡ true
