-- The words that `find_facts` leaves stand for the model's facts of the picture, also for registers that are new after it.
-- Assumes nothing.
use mathlib.Core.Bool.{Bool, false, cond}
use mathlib.Core.List.{List, [], ◌∷◌, map}
use mathlib.Core.Path.{◌≡◌, refl, sym, ap, ◌∙◌}
use Prim.Native.Nat.{ℕ, ◌%◌, ◌≤◌, ◌<◌}
use mathlib.Core.Logic.{inl, inr, ⊎_elim}
use native.Mathlib.Nat.{zero-add}
use native.Mathlib.Omega.{arith}
use lib.ListN.{length}
use Rattle.words.specs.Lists.{upto, filter, mem, In}
use Rattle.words.proofs.Bools.{lt?}
use Rattle.words.proofs.Lists.{get_or-made, get_d_past, length_made}
use Rattle.words.proofs.Members.{in_map, range_in}
use Rattle.model.specs.Picture.{Picture, Inst, inst, writes}
use Rattle.model.specs.Analyse.{Known, unknown, from_writers, facts, known_of, when_some, small, positive}
use Rattle.effects.proofs.Origins.{num_le}
use Rattle.regfacts.specs.Flags.{flags_of, known_from, Found, Seen}

-- ---- a register that nobody writes

none_of : (f : Inst → Bool) (is : List Inst) → ((i : Inst) → In i is → f i ≡ false) → filter f is ≡ []
none_of f [] h = refl
none_of f (i ∷ is) h =
    ap (λ (b : Bool). cond b (i ∷ filter f is) (filter f is)) (h i (inl refl)) ∙ none_of f is (λ j k. h j (inr k))

unwritten : (recs : List ℕ) (n r : ℕ) → ((p : ℕ) → p < n → mem r (writes (inst recs p)) ≡ false) → known_from recs n r ≡ unknown
unfolding known_from
unwritten recs n r h =
    ap from_writers (none_of (λ i. mem r (writes i)) (map (inst recs) (upto n)) (λ i k.
    let m = in_map (inst recs) i (upto n) k in
    ap (λ (x : Inst). mem r (writes x)) m.2 ∙ h m.0 (let b = range_in m.0 0 n m.1 in omega (arith, b.1))))

-- ---- the facts of a picture

module _ (P : Picture) where
  abbrev n : ℕ
  n = length P.locs

  abbrev about : ℕ → Known
  about r = from_writers (filter (λ i. mem r (writes i)) (map (inst P.recs) (upto n)))

  known_in : (r : ℕ) → r < P.regs → known_of (facts P) r ≡ known_from P.recs n r
  unfolding known_from
  known_in r h = get_or-made about unknown 0 P.regs r h ∙ ap about (zero-add r)

  known_out : (r : ℕ) → P.regs ≤ r → known_of (facts P) r ≡ unknown
  known_out r h = get_d_past about unknown 0 P.regs r h

  flags_low : (k : Known) → flags_of k % 16 ≡ flags_of k
  unfolding flags_of
  flags_low k = omega (arith, num_le k.ro, num_le k.frame, num_le (when_some small k.konst), num_le (when_some positive k.konst))

  -- of the first R registers, where no register in use before is past them
  pub first_seen : {K R : ℕ} {words : List ℕ} → Found P.recs n K words → P.regs ≤ R → R ≤ K
      → ((r : ℕ) → P.regs ≤ r → (p : ℕ) → p < n → mem r (writes (inst P.recs p)) ≡ false) → Seen (facts P) R words
  first_seen {K} {R} {words} f a b u = record {
    size = let e = length_made about 0 P.regs in omega (arith, e, a);
    flags = λ r h.
        ap (λ (x : ℕ). x % 16) (f.each r (omega arith)) ∙ flags_low (known_from P.recs n r)
        ∙ ap flags_of (⊎_elim (λ (l : r < P.regs). sym (known_in r l)) (λ (l : P.regs ≤ r). unwritten P.recs n r (u r l) ∙ sym (known_out r l)) (lt? r P.regs));
  }
