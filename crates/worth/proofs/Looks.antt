-- The tests of look.rt are those of `model`. Assumes nothing.
use mathlib.Core.Path.{◌≡◌, refl, sym, ap, ◌∙◌}
use mathlib.Core.Bool.{Bool, true, false, ◌&&◌, ◌||◌}
use mathlib.Core.List.{List, map}
use Prim.Native.Nat.{ℕ, ◌+◌, ◌-◌, ◌*◌, ◌≤◌, ◌<◌}
use native.Mathlib.Omega.{arith}
use lib.Dec.{leb}
use lib.ListN.{get_or, length, take}
use borrow.Author.Tests.{le-leb, lt-leb, leb-true}
use Rattle.words.specs.Lists.{range, any, mem}
use Rattle.words.proofs.Lists.{take_made}
use Rattle.words.proofs.Bools.{left_true, right_true}
use Rattle.model.specs.Picture.{Picture, inst, size}
use Rattle.model.specs.Move as M
use Rattle.model.specs.Move.{chain_places, minimum, replays, worth_a_look}
use Rattle.laws.proofs.Planned.{minimum_some}
use Rattle.checks.specs.Causes.{plain_cat}
use Rattle.chains.specs.declared.chain.Chain.{Chain}
use Rattle.chains.specs.Chain.{blocks_of}
use Rattle.worth.specs.Worth.{Worth}

-- ---- the tests in order

-- what they ask of the lists, with n positions in the chain and the answer on replay
unfoldable pub asked : List ℕ → ℕ → ℕ → ℕ → Bool → Bool
asked recs a e n again =
    leb (minimum again) (e - a - 1) && leb n 800 && (again || any plain_cat (take (e - a - 1) (map (inst recs) (range a (e - a)))))

over : (x y z : Bool) → y ≡ false → false ≡ (x && y && z)
over true y z e = sym (ap (λ (t : Bool). t && z) e)
over false y z e = refl

module _ (recs : List ℕ) (a e n : ℕ) (again : Bool) where
  pub too_few : {m : ℕ} → m ≡ minimum again → e - a ≤ m → false ≡ asked recs a e n again
  unfolding asked
  too_few em h = let z = minimum_some again in
      sym (ap (λ (t : Bool). t && leb n 800 && (again || any plain_cat (take (e - a - 1) (map (inst recs) (range a (e - a)))))) (lt-leb (minimum again) (e - a - 1) (omega arith)))

  pub too_long : 800 < n → false ≡ asked recs a e n again
  unfolding asked
  too_long l = over (leb (minimum again) (e - a - 1)) (leb n 800) (again || any plain_cat (take (e - a - 1) (map (inst recs) (range a (e - a))))) (lt-leb n 800 l)

  module _ {m : ℕ} (em : m ≡ minimum again) (h : m < e - a) where
    enough : asked recs a e n again ≡ (leb n 800 && (again || any plain_cat (take (e - a - 1) (map (inst recs) (range a (e - a))))))
    unfolding asked
    enough = ap (λ (t : Bool). t && leb n 800 && (again || any plain_cat (take (e - a - 1) (map (inst recs) (range a (e - a)))))) (le-leb (minimum again) (e - a - 1) (omega arith))

    short : n ≤ 800 → asked recs a e n again ≡ (again || any plain_cat (take (e - a - 1) (map (inst recs) (range a (e - a)))))
    short l = enough ∙ ap (λ (t : Bool). t && (again || any plain_cat (take (e - a - 1) (map (inst recs) (range a (e - a)))))) (le-leb n 800 l)

    pub by_replay : n ≤ 800 → again ≡ true → true ≡ asked recs a e n again
    by_replay l t = sym (short l ∙ ap (λ (b : Bool). b || any plain_cat (take (e - a - 1) (map (inst recs) (range a (e - a))))) t)

    pub by_cat : n ≤ 800 → again ≡ false → {r : Bool} → r ≡ any plain_cat (map (inst recs) (range a (e - 1 - a))) → r ≡ asked recs a e n again
    by_cat l t k = let d : e - 1 - a ≡ e - a - 1 = omega arith in
        k ∙ ap (λ (n : ℕ). any plain_cat (map (inst recs) (range a n))) d
        ∙ ap (any plain_cat) (sym (take_made (inst recs) (e - a - 1) a (e - a) (omega arith)))
        ∙ sym (short l ∙ ap (λ (b : Bool). b || any plain_cat (take (e - a - 1) (map (inst recs) (range a (e - a))))) t)

-- of a whole picture
module _ {bounds recs replay : List ℕ} (c : Chain) (x : ℕ) {a e : ℕ} {again r : Bool} (ea : a ≡ get_or bounds (2 * x) 0) (ee : e ≡ get_or bounds (2 * x + 1) 0)
    (er : again ≡ (mem c.t.0 replay || mem c.f.0 replay)) where
  pub worth_for : ((n : ℕ) → r ≡ asked recs a e n again) → Worth bounds recs replay c x r
  unfolding asked
  worth_for k = record { is = λ P eb es ep. k (length (chain_places P (blocks_of c))) ∙ rw (ea, ee, er, eb, es, ep) }

  pub worth_is : {n : ℕ} → ((P : Picture) → P.bounds ≡ bounds → n ≡ length (chain_places P (blocks_of c))) → r ≡ asked recs a e n again → Worth bounds recs replay c x r
  unfolding asked
  worth_is en k = record { is = λ P eb es ep. k ∙ rw (en P eb, ea, ee, er, eb, es, ep) }

-- ---- what a chain that is worth a look has

pub worth_facts : (P : Picture) (x : ℕ) (c : M.Chain) → worth_a_look P x c ≡ true → (minimum (replays P c) ≤ size P x - 1) × (length (chain_places P c.blocks) ≤ 800)
worth_facts P x c e =
    let a = leb (minimum (replays P c)) (size P x - 1) in
    let b = leb (length (chain_places P c.blocks)) 800 in
    let f = left_true (a && b) _ e in
    (leb-true (minimum (replays P c)) (size P x - 1) (left_true a b f), leb-true (length (chain_places P c.blocks)) 800 (right_true a b f))

-- such a block has more than 3 instructions
pub worth_long : (P : Picture) (x : ℕ) (c : M.Chain) → worth_a_look P x c ≡ true → 3 < size P x
worth_long P x c e = let a = (worth_facts P x c e).0 in let b = minimum_some (replays P c) in omega arith
