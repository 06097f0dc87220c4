-- The test of specs/Stood asks no more than the statement: where `Once` holds the test does too. So each wrong picture after that is
-- listed there is refuted. Assumes nothing.
use mathlib.Core.Path.{◌≡◌, subst}
use mathlib.Core.Bool.{Bool, true, false, not}
use mathlib.Core.List.{List, [], ◌∷◌}
use Prim.Native.Nat.{ℕ, ◌<◌}
use native.Mathlib.Omega.{arith}
use lib.Dec.{T, eqb, ltb, eqb→eq, eqb_refl, lt→ltb}
use lib.ListN.{get_or, length}
use Rattle.words.specs.Lists.{In, ◌implies◌, upto, conj, all, same, mem}
use Rattle.words.proofs.Bools.{T_true, true_T, T_false, clash, both, implies_of, conj_of}
use Rattle.words.proofs.Alls.{all_range}
use Rattle.words.proofs.Members.{all_of, all_in, in_get_or, in_mem}
use Rattle.model.specs.Picture.{Picture, inst, nblocks, succs}
use Rattle.kept.specs.Walk.{bare, is_walk, Once}
use Rattle.kept.specs.Stood.{same_answer, shortest, each, as_many?, old_place?, stands?, once?, bare?, loc?, via?, succs?, walks?, clauses, Wrong, wrongs}

-- ---- what is equal passes

equal : (m n : ℕ) → m ≡ n → T (eqb m n)
equal m n e = subst (λ (k : ℕ). T (eqb m k)) e (eqb_refl m)

same_self : (xs : List ℕ) → T (same xs xs)
same_self [] = tt
same_self (x ∷ xs) = both (eqb x x) (same xs xs) (eqb_refl x) (same_self xs)

alike : (xs ys : List ℕ) → xs ≡ ys → T (same xs ys)
alike xs ys e = subst (λ (zs : List ℕ). T (same xs zs)) e (same_self xs)

answer_self : (b : Bool) → T (same_answer b b)
answer_self true = tt
answer_self false = tt

answers_alike : (a b : Bool) → a ≡ b → T (same_answer a b)
answers_alike a b e = subst (λ (c : Bool). T (same_answer a c)) e (answer_self a)

below : (n : ℕ) (f : ℕ → Bool) → ((p : ℕ) → p < n → T (f p)) → T (all f (upto n))
below n f h = all_range f 0 n (λ p a b. h p (omega arith))

-- ---- clause by clause

module _ (L Q : Picture) (was : List ℕ) (s : Once L Q was) where
  many : T (as_many? L Q was)
  many =
      let n = length L.locs in
      both (eqb (length was) n) (eqb (length Q.locs) n) (equal (length was) n s.as_many.0) (equal (length Q.locs) n s.as_many.1)

  old : T (old_place? L Q was)
  old = below (length was) (λ p. ltb (get_or was p 0) (length L.locs)) (λ p h. lt→ltb (get_or was p 0) (length L.locs) (s.old_place p h))

  stand : T (stands? L Q was)
  stand = below (length L.locs) (λ o. mem o was)
      (λ o h. let z = s.stands o h in true_T (mem o was) (in_mem o was (subst (λ (q : ℕ). In q was) z.2 (in_get_or 0 was z.0 z.1))))

  single : T (once? L Q was)
  single =
      below (length was) (λ p. each was (λ q. eqb (get_or was p 0) (get_or was q 0) implies eqb p q))
      (λ p h. below (length was) (λ q. eqb (get_or was p 0) (get_or was q 0) implies eqb p q)
      (λ q k. implies_of (eqb (get_or was p 0) (get_or was q 0)) (eqb p q)
      (λ e. equal p q (s.once p q h k (eqb→eq (get_or was p 0) (get_or was q 0) (true_T (eqb (get_or was p 0) (get_or was q 0)) e))))))

  bares : T (bare? L Q was)
  bares =
      below (length was) (λ p. same (bare (inst Q.recs p)) (bare (inst L.recs (get_or was p 0))))
      (λ p h. alike (bare (inst Q.recs p)) (bare (inst L.recs (get_or was p 0))) (s.same_but_registers p h))

  locs : T (loc? L Q was)
  locs =
      below (length was) (λ p. eqb (get_or Q.locs p 0) (get_or L.locs (get_or was p 0) 0))
      (λ p h. equal (get_or Q.locs p 0) (get_or L.locs (get_or was p 0) 0) (s.same_loc p h))

  vias : T (via? L Q was)
  vias =
      both (eqb (length Q.vias) (length L.vias)) (each was (λ p. eqb (get_or Q.vias p 0) (get_or L.vias (get_or was p 0) 0)))
      (equal (length Q.vias) (length L.vias) s.same_via.0)
      (below (length was) (λ p. eqb (get_or Q.vias p 0) (get_or L.vias (get_or was p 0) 0))
      (λ p h. equal (get_or Q.vias p 0) (get_or L.vias (get_or was p 0) 0) (s.same_via.1 p h)))

  next : T (succs? L Q was)
  next = below (nblocks L) (λ b. same (succs Q b) (succs L b)) (λ b h. alike (succs Q b) (succs L b) (s.same_succs b))

  walks : T (walks? L Q was)
  walks = all_of (λ w. same_answer (is_walk Q w) (is_walk L w)) shortest (λ w i. answers_alike (is_walk Q w) (is_walk L w) (s.same_walks w))

  -- what stands once passes the test
  pub tested : T (conj (clauses L Q was))
  tested = conj_of (clauses L Q was) (many, (old, (stand, (single, (bares, (locs, (vias, (next, (walks, tt)))))))))

-- ---- the wrong pictures

fails : T (all (λ m. not (conj (clauses m.before m.then m.places))) wrongs)
fails = tt

-- in none of them does each instruction stand exactly once
pub refuted : (m : Wrong) → In m wrongs → Once m.before m.then m.places → ⊥
refuted m i s =
    let c = conj (clauses m.before m.then m.places) in
    clash (T_true c (tested m.before m.then m.places s)) (T_false c (all_in (λ m. not (conj (clauses m.before m.then m.places))) m wrongs fails i))
