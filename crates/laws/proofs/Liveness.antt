-- Live-in is a solution, and the least. Assumes nothing.
use mathlib.Core.Path.{◌≡◌, sym, ap, ◌∙◌, subst}
use mathlib.Core.Bool.{Bool, true, false, not, ◌&&◌, ◌||◌}
use mathlib.Core.List.{List, [], ◌∷◌, map}
use Prim.Native.Nat.{ℕ, zero, suc, ◌<◌}
use native.Mathlib.Nat.{zero-add, lt_of_not-le, le_of_suc-le-suc}
use native.Mathlib.Decide.{dec_lt}
use native.Mathlib.Omega.{arith}
use lib.Dec.{T}
use lib.ListN.{length, length-map}
use Rattle.words.specs.Lists.{upto, any, member}
use Rattle.words.proofs.Lists.{map_map, get_or-made, get_d_past, length_made}
use Rattle.words.proofs.Alls.{any_mono}
use Rattle.words.proofs.Sets.{◌⊑◌, rests_up, iterate_keeps}
use Rattle.model.specs.Picture.{Picture, nblocks, code, succs}
use Rattle.model.specs.Live.{Node, node, live_at, live, live_in, read_first, written}

step_mono : (a k b c : Bool) → (T b → T c) → T (a || (not k && b)) → T (a || (not k && c))
step_mono true k b c i t = tt
step_mono false true b c i t = t
step_mono false false b c i t = i t

module _ (P : Picture) (r : ℕ) where
  abbrev B : ℕ
  B = nblocks P

  abbrev ns : List Node
  ns = map (node P r) (upto B)

  abbrev F : List Bool → List Bool
  F S = map (live_at S) ns

  at : (S : List Bool) (b : ℕ) → b < B → member (F S) b ≡ live_at S (node P r b)
  at S b h = ap (λ (X : List Bool). member X b) (map_map (live_at S) (node P r) (upto B)) ∙ get_or-made (λ c. live_at S (node P r c)) false 0 B b h ∙ ap (λ (c : ℕ). live_at S (node P r c)) (zero-add b)

  inside : (S : List Bool) (b : ℕ) → T (member (F S) b) → b < B
  inside S b t = go (dec_lt b B)
    where
      go : Dec (b < B) → b < B
      go (yes h) = h
      go (no h) = absurd (subst T (ap (λ (X : List Bool). member X b) (map_map (live_at S) (node P r) (upto B)) ∙ get_d_past (λ c. live_at S (node P r c)) false 0 B b (le_of_suc-le-suc (lt_of_not-le h))) t)

  F_mono : (S S' : List Bool) → member S ⊑ member S' → member (F S) ⊑ member (F S')
  F_mono S S' i b t =
      let h = inside S b t in
      let n = node P r b in
      subst T (sym (at S' b h)) (step_mono n.gen n.kill (any (member S) n.next) (any (member S') n.next) (any_mono (member S) (member S') i n.next) (subst T (at S b h) t))

  none_in : (b : ℕ) (xs : List Node) → T (member (map (λ n. false) xs) b) → ⊥
  none_in b [] t = t
  none_in zero (x ∷ xs) t = t
  none_in (suc b) (x ∷ xs) t = none_in b xs t

  len_F : (S : List Bool) → length (F S) ≡ B
  len_F S = length-map ns (live_at S) ∙ length_made (node P r) 0 B

  rest : F (live P r) ≡ live P r
  rest = rests_up F B len_F F_mono B (map (λ n. false) ns) (length-map ns (λ n. false) ∙ length_made (node P r) 0 B) (λ b t. absurd (none_in b ns t)) (omega arith)

  -- read before written, or live into a successor and not written
  pub live_solves : (b : ℕ) → b < nblocks P
      → live_in P b r ≡ (read_first P.ops r (code P b) || (not (written r (code P b)) && any (λ s. live_in P s r) (succs P b)))
  live_solves b h = ap (λ (X : List Bool). member X b) (sym rest) ∙ at (live P r) b h

  -- and no solution has less
  pub live_least : (X : ℕ → Bool)
      → ((b : ℕ) → b < nblocks P → T (read_first P.ops r (code P b) || (not (written r (code P b)) && any X (succs P b))) → T (X b))
      → (b : ℕ) → T (live_in P b r) → T (X b)
  live_least X c =
      iterate_keeps (λ S. member S ⊑ X) F
      (λ S i b t. let h = inside S b t in let n = node P r b in c b h (step_mono n.gen n.kill (any (member S) n.next) (any X n.next) (any_mono (member S) X i n.next) (subst T (at S b h) t)))
      B (map (λ n. false) ns) (λ b t. absurd (none_in b ns t))
