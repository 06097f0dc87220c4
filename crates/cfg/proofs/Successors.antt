-- The words that the code returns are the successors that `model` gives. Assumes nothing.
use mathlib.Core.Path.{◌≡◌, refl, sym, ap, ◌∙◌, subst}
use mathlib.Core.Bool.{Bool, true, false}
use mathlib.Core.List.{List, [], ◌∷◌}
use Prim.Native.Nat.{ℕ, ◌+◌, ◌-◌, ◌*◌, ◌/◌, ◌≤◌, ◌<◌}
use native.Mathlib.Omega.{arith}
use denote.Enum.Declared.{tag_of}
use lib.ListN.{get_or, length, take, drop, get_or-eq_default}
use lib.Seq.{drop-cons}
use borrow.Author.Tests.{eq-eqb, ne_eqb}
use Rattle.model.specs.Kinds.{kind_of}
use Rattle.model.specs.Picture.{inst, kind, End, goes, parts, cases, stops, end_of, end_succs, size, table, succs}
use Rattle.inst.specs.Table.{packed, shape}
use Rattle.inst.specs.Shape.{shape_of}
use Rattle.inst.specs.declared.table.Shape.{Shape}
use Rattle.inst.specs.contracts.table.Shape as S
use Rattle.inst.specs.declared.table.Shape.TheVariants.{Stops, Goes, Parts, Cases}
use Rattle.inst.specs.Record.{Known, word}
use Rattle.inst.proofs.Ends.{EndsAs, ends}
use Rattle.inst.proofs.Lists.{part_is}
use Rattle.inst.proofs.Words.{word_is}
use Rattle.cfg.specs.Drawn.{drawn}
use Rattle.cfg.specs.Graph.{Graph}

-- ---- case tables

module _ (bounds recs pairs targets : List ℕ) (k : ℕ) where
  abbrev cases_of : List ℕ
  cases_of = table (drawn bounds recs [] pairs targets) k

  pub no_table : length pairs ≤ 2 * k + 1 → [] ≡ cases_of
  no_table h = sym (ap (λ (n : ℕ). take n (drop (get_or pairs (2 * k) 0) targets)) (get_or-eq_default pairs 0 h))

  pub one_table : (a l : ℕ) → a ≡ get_or pairs (2 * k) 0 → l ≡ get_or pairs (2 * k + 1) 0 → take (a + l - a) (drop a targets) ≡ cases_of
  one_table a l p q = part_is targets p q

-- the end of a block, seen from two pictures with the same tables
pub end_same : (bounds bounds' recs recs' ops ops' pairs targets : List ℕ) (e : End)
    → end_succs (drawn bounds recs ops pairs targets) e ≡ end_succs (drawn bounds' recs' ops' pairs targets) e
end_same bounds bounds' recs recs' ops ops' pairs targets (goes t) = refl
end_same bounds bounds' recs recs' ops ops' pairs targets (parts t f) = refl
end_same bounds bounds' recs recs' ops ops' pairs targets (cases t) = refl
end_same bounds bounds' recs recs' ops ops' pairs targets stops = refl

-- ---- the end of one record

take_one : (xs : List ℕ) (a : ℕ) → a < length xs → take 1 (drop a xs) ≡ get_or xs a 0 ∷ []
take_one xs a h = ap (take 1) (drop-cons xs a 0 h)

take_two : (xs : List ℕ) (a : ℕ) → a + 1 < length xs → take 2 (drop a xs) ≡ get_or xs a 0 ∷ get_or xs (a + 1) 0 ∷ []
take_two xs a h =
    ap (take 2) (drop-cons xs a 0 (omega arith)) ∙ ap (λ (l : List ℕ). get_or xs a 0 ∷ take 1 l) (ap (λ (n : ℕ). drop n xs) (sym (native.Mathlib.Numerals.add-one a)))
    ∙ ap (λ (l : List ℕ). get_or xs a 0 ∷ l) (take_one xs (a + 1) h)

-- the shape that the code looks up
pub shape_is : (f : ℕ) {s : Shape} {m k w : ℕ} → s ≡ shape_of (shape m) → m ≡ packed (kind_of k) f → k ≡ w → s ≡ shape_of (shape (packed (kind_of w) f))
shape_is f e q h = e ∙ ap (λ (m : ℕ). shape_of (shape m)) (q ∙ ap (λ (k : ℕ). packed (kind_of k) f) h)

-- the words that the code takes for a shape are those that its end names
module _ (bounds recs pairs targets : List ℕ) (p f : ℕ) {s : Shape} (w : Known recs p) (e : s ≡ shape_of (shape (packed (kind (inst recs p)) f))) where
  abbrev goes_on : End → List ℕ
  goes_on = end_succs (drawn bounds recs [] pairs targets)

  ends_as : (t : Shape) → s ≡ t → EndsAs t (inst recs p)
  ends_as t h = ends (inst recs p) f w.kind (sym h ∙ e)

  no_end : s ≡ Stops → {l : List ℕ} → l ≡ take 0 (drop (16 * p + 9) recs) → l ≡ goes_on (end_of (inst recs p))
  no_end h q = q ∙ ap goes_on (sym (ends_as Stops h))

  one_end : s ≡ Goes → {l : List ℕ} → l ≡ take 1 (drop (16 * p + 9) recs) → l ≡ goes_on (end_of (inst recs p))
  one_end h q =
      q ∙ take_one recs (16 * p + 9) (omega (arith, w.within.whole))
      ∙ ap (λ (x : ℕ). x ∷ []) (word_is recs p 9 (omega arith)) ∙ ap goes_on (sym (ends_as Goes h))

  two_ends : s ≡ Parts → {l : List ℕ} → l ≡ take 2 (drop (16 * p + 9) recs) → l ≡ goes_on (end_of (inst recs p))
  two_ends h q =
      q ∙ take_two recs (16 * p + 9) (omega (arith, w.within.whole))
      ∙ ap (λ (x : ℕ). x ∷ get_or recs (16 * p + 9 + 1) 0 ∷ []) (word_is recs p 9 (omega arith))
      ∙ ap (λ (x : ℕ). get_or (inst recs p) 9 0 ∷ x ∷ []) (ap (λ (n : ℕ). get_or recs n 0) ten ∙ word_is recs p 10 (omega arith))
      ∙ ap goes_on (sym (ends_as Parts h))
    where
      ten : 16 * p + 9 + 1 ≡ 16 * p + 10
      ten = omega arith

  pub case_ends : s ≡ Cases → {l : List ℕ} {k : ℕ} → k ≡ word recs p 9 → l ≡ table (drawn bounds recs [] pairs targets) k → l ≡ goes_on (end_of (inst recs p))
  case_ends h q t = t ∙ ap (table (drawn bounds recs [] pairs targets)) q ∙ ap goes_on (sym (ends_as Cases h))

  -- but for a Case they are as many as its shape's number
  pub ends_in_it : (s ≡ Cases → ⊥) → {l : List ℕ} → l ≡ take (tag_of S.the_type s) (drop (16 * p + 9) recs) → l ≡ goes_on (end_of (inst recs p))
  ends_in_it n {l} q = go s refl
    where
      words : Shape → List ℕ
      words t = take (tag_of S.the_type t) (drop (16 * p + 9) recs)

      go : (t : Shape) → s ≡ t → l ≡ goes_on (end_of (inst recs p))
      go Stops h = no_end h (q ∙ ap words h)
      go Goes h = one_end h (q ∙ ap words h)
      go Parts h = two_ends h (q ∙ ap words h)
      go Cases h = absurd (n h)

-- ---- a block

module _ (bounds recs pairs targets : List ℕ) (b s e : ℕ) (es : s ≡ get_or bounds (2 * b) 0) (ee : e ≡ get_or bounds (2 * b + 1) 0) where
  pub empty_block : e ≤ s → [] ≡ succs (drawn bounds recs [] pairs targets) b
  empty_block h =
      let z : size (drawn bounds recs [] pairs targets) b ≡ 0 = omega arith in
      sym (ap (λ (t : Bool). end_succs (drawn bounds recs [] pairs targets) (elim t as (λ z. End) [ true ↦ stops | false ↦ end_of (inst recs (get_or bounds (2 * b + 1) 0 - 1)) ])) (eq-eqb (size (drawn bounds recs [] pairs targets) b) 0 z))

  pub last_known : Graph bounds recs pairs targets → b < length bounds / 2 → s < e → Known recs (e - 1)
  last_known g h l = g.known (e - 1) (omega (arith, g.blocks.inside b h))

  pub full_block : s < e → (l : List ℕ) → l ≡ end_succs (drawn bounds recs [] pairs targets) (end_of (inst recs (e - 1))) → l ≡ succs (drawn bounds recs [] pairs targets) b
  full_block h l q =
      let n : size (drawn bounds recs [] pairs targets) b ≡ 0 → ⊥ = λ (z : size (drawn bounds recs [] pairs targets) b ≡ 0). omega arith in
      q ∙ ap (λ (x : ℕ). end_succs (drawn bounds recs [] pairs targets) (end_of (inst recs (x - 1)))) ee
      ∙ sym (ap (λ (t : Bool). end_succs (drawn bounds recs [] pairs targets) (elim t as (λ z. End) [ true ↦ stops | false ↦ end_of (inst recs (get_or bounds (2 * b + 1) 0 - 1)) ])) (ne_eqb (size (drawn bounds recs [] pairs targets) b) 0 n))

-- each successor is a block
pub next_block : {bounds recs pairs targets : List ℕ} {b : ℕ} (ss : List ℕ) → ss ≡ succs (drawn bounds recs [] pairs targets) b → Graph bounds recs pairs targets
    → b < length bounds / 2 → (j : ℕ) → j < length ss → get_or ss j 0 < length bounds / 2
next_block {bounds} {b = b} ss e g h j k = subst (λ (l : List ℕ). get_or l j 0 < length bounds / 2) (sym e) (g.next b j h (subst (λ (l : List ℕ). j < length l) e k))
