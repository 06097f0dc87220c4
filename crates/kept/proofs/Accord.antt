-- The test of specs/Shown asks no more than the statement: where `Follows` holds the test does too, so a test that fails refutes it.
-- Assumes nothing.
use Rattle.std.specs.Prelude.{Option, None, Some}
use mathlib.Core.Path.{◌≡◌, sym, ap, subst}
use mathlib.Core.Logic.{⊎_elim}
use mathlib.Core.Bool.{true, false, ◌&&◌}
use mathlib.Core.List.{List, [], ◌∷◌, map}
use Prim.Native.Nat.{ℕ}
use native.Mathlib.Omega.{arith}
use lib.Dec.{T, eqb, ltb, leb, eqb→eq, eqb_refl, ltb→lt, leb→le, lt→ltb, le→leb}
use lib.ListN.{get_or, length}
use Rattle.words.specs.Lists.{In, ◌implies◌, upto, all, any}
use Rattle.words.proofs.Bools.{T_true, true_T, both, left, right, clash, bool?, implies_of}
use Rattle.words.proofs.Members.{all_of, any_no, in_map, map_in, in_concat, concat_in, in_range, range_in, in_index}
use Rattle.model.specs.Picture.{Picture, starts, ends, size, places}
use Rattle.model.specs.Analyse.{when_some, unless_some}
use Rattle.kept.specs.Walk.{Run, Write, takes, is_run, match, Matches, Each, Follows}
use Rattle.kept.specs.Shown.{runs_of, same_run, matches_it, write_matches, each_matches, reads_well, alone, read_matched, follows}

-- ---- runs

pub same_is : (u v : Run) → T (same_run u v) → u ≡ v
same_is u v t =
    let e = eqb→eq u.turn v.turn (left (eqb u.turn v.turn) (eqb u.at v.at) t) in
    let f = eqb→eq u.at v.at (right (eqb u.turn v.turn) (eqb u.at v.at) t) in
    λ z. record { turn = e z; at = f z }

self_same : (u : Run) → T (same_run u u)
self_same u = both (eqb u.turn u.turn) (eqb u.at u.at) (eqb_refl u.turn) (eqb_refl u.at)

module _ (P : Picture) (w : List ℕ) where
  abbrev at_place : ℕ → List Run
  at_place n = map (λ p. record { turn = n; at = p }) (places P (get_or w n 0))

  in_runs : (u : Run) → T (is_run P w u) → In u (runs_of P w)
  in_runs u t =
      let b = get_or w u.turn 0 in
      let one = ltb u.turn (length w) in
      let two = leb (starts P b) u.at in
      let l = ltb→lt u.turn (length w) (left one two (left (one && two) (ltb u.at (ends P b)) t)) in
      let s = leb→le (starts P b) u.at (right one two (left (one && two) (ltb u.at (ends P b)) t)) in
      let e = ltb→lt u.at (ends P b) (right (one && two) (ltb u.at (ends P b)) t) in
      in_concat u (at_place u.turn) (map at_place (upto (length w)))
      (map_in (λ p. record { turn = u.turn; at = p }) u.at (places P b) (in_range u.at (starts P b) (size P b) s (omega arith)))
      (map_in at_place u.turn (upto (length w)) (in_range u.turn 0 (length w) (omega arith) (omega arith)))

  runs_in : (u : Run) → In u (runs_of P w) → T (is_run P w u)
  runs_in u i =
      let z = concat_in u (map at_place (upto (length w))) i in
      let y = in_map at_place z.0 (upto (length w)) z.2 in
      let n = y.0 in
      let x = in_map (λ p. record { turn = n; at = p }) u (places P (get_or w n 0)) (subst (In u) y.2 z.1) in
      let b = get_or w n 0 in
      let r = range_in n 0 (length w) y.1 in
      let q = range_in x.0 (starts P b) (size P b) x.1 in
      let l = r.1 in
      let s = q.0 in
      let e = q.1 in
      subst (λ (v : Run). T (is_run P w v)) (sym x.2)
      (both (ltb n (length w) && leb (starts P b) x.0) (ltb x.0 (ends P b)) (both (ltb n (length w)) (leb (starts P b) x.0) (lt→ltb n (length w) (omega arith)) (le→leb (starts P b) x.0 s))
      (lt→ltb x.0 (ends P b) (omega arith)))

-- ---- matching

holds_same : (o : Option Run) (v : Run) → T (when_some (same_run v) o) → o ≡ Some v
holds_same None v t = absurd t
holds_same (Some u) v t = ap Some (sym (same_is v u t))

module _ (L Q : Picture) (was w : List ℕ) where
  is_match : (v u : Run) → match L was w u ≡ Some v → T (matches_it L Q was w v u)
  is_match v u e = subst (λ (o : Option Run). T (when_some (same_run v) o)) (sym e) (self_same v)

  match_is : (v u : Run) → T (matches_it L Q was w v u) → match L was w u ≡ Some v
  match_is v u t = holds_same (match L was w u) v t

  write_test : (x y : Option Write) → Matches L was w x y → T (write_matches L Q was w x y)
  write_test None None m = tt
  write_test None (Some v) m = m
  write_test (Some u) None m = m
  write_test (Some u) (Some v) m =
      both (matches_it L Q was w v.by u.by) (eqb u.slot v.slot) (is_match v.by u.by m.0) (subst (λ (k : ℕ). T (eqb u.slot k)) m.1 (eqb_refl u.slot))

  each_test : (xs ys : List (Option Write)) → Each L was w xs ys → T (each_matches L Q was w xs ys)
  each_test [] [] e = tt
  each_test [] (y ∷ ys) e = e
  each_test (x ∷ xs) [] e = e
  each_test (x ∷ xs) (y ∷ ys) e = both (write_matches L Q was w x y) (each_matches L Q was w xs ys) (write_test x y e.0) (each_test xs ys e.1)

  module _ (f : Follows L Q was w) where
    reads_test : (u : Run) → In u (runs_of Q w) → T (reads_well L Q was w u)
    reads_test u i =
        let t = runs_in Q w u i in
        let z = f.matched u t in
        let v = z.0 in
        subst (λ (o : Option Run). T (when_some (λ v. is_run L w v && each_matches L Q was w (takes Q w u) (takes L w v)) o)) (sym z.1)
        (both (is_run L w v) (each_matches L Q was w (takes Q w u) (takes L w v)) z.2 (each_test (takes Q w u) (takes L w v) (f.reads_match u v t z.1)))

    alone_test : (u : Run) → In u (runs_of Q w) → T (alone L Q was w u)
    alone_test u i = all_of (λ u'. when_some (λ v. matches_it L Q was w v u') (match L was w u) implies same_run u u') (runs_of Q w) one
      where
        t : T (is_run Q w u)
        t = runs_in Q w u i

        one : (u' : Run) → In u' (runs_of Q w) → T (when_some (λ v. matches_it L Q was w v u') (match L was w u) implies same_run u u')
        one u' j = implies_of (when_some (λ v. matches_it L Q was w v u') (match L was w u)) (same_run u u')
            (λ h. let z = f.matched u t in
            let m : T (matches_it L Q was w z.0 u') = subst (λ (o : Option Run). T (when_some (λ v. matches_it L Q was w v u') o)) z.1 (true_T (when_some (λ v. matches_it L Q was w v u') (match L was w u)) h) in
            subst (λ (y : Run). T (same_run u y)) (f.apart u u' z.0 t (runs_in Q w u' j) z.1 (match_is z.0 u' m)) (self_same u))

    read_test : (u : Run) → In u (runs_of Q w) → T (read_matched L Q was w u)
    read_test u i =
        subst (λ (o : Option Run). T (when_some (λ v. all (unless_some (λ x. is_run L w x.by implies any (matches_it L Q was w x.by) (runs_of Q w))) (takes L w v)) o)) (sym z.1)
        (all_of (unless_some (λ x. is_run L w x.by implies any (matches_it L Q was w x.by) (runs_of Q w))) (takes L w z.0) one)
      where
        t : T (is_run Q w u)
        t = runs_in Q w u i

        z : (v : Run) × (match L was w u ≡ Some v) × T (is_run L w v)
        z = f.matched u t

        one : (x : Option Write) → In x (takes L w z.0) → T (unless_some (λ x. is_run L w x.by implies any (matches_it L Q was w x.by) (runs_of Q w)) x)
        one None j = tt
        one (Some y) j = implies_of (is_run L w y.by) (any (matches_it L Q was w y.by) (runs_of Q w))
            (λ h. let k = in_index None (Some y) (takes L w z.0) j in
            ⊎_elim (λ (e : any (matches_it L Q was w y.by) (runs_of Q w) ≡ true). true_T (any (matches_it L Q was w y.by) (runs_of Q w)) e)
            (λ (e : any (matches_it L Q was w y.by) (runs_of Q w) ≡ false). absurd (f.unmatched y.by z.0 y.slot k.0 (true_T (is_run L w y.by) h) z.2 k.2
            (λ s r q. clash (T_true (matches_it L Q was w y.by s) (is_match y.by s q)) (any_no (matches_it L Q was w y.by) s (runs_of Q w) e (in_runs Q w s r))) u t z.1))
            (bool? (any (matches_it L Q was w y.by) (runs_of Q w))))

    -- what follows passes the test
    pub tested : follows L Q was w ≡ true
    tested =
        let a = all (reads_well L Q was w) (runs_of Q w) in
        let b = all (alone L Q was w) (runs_of Q w) in
        let c = all (read_matched L Q was w) (runs_of Q w) in
        T_true (a && b && c) (both (a && b) c (both a b (all_of (reads_well L Q was w) (runs_of Q w) reads_test) (all_of (alone L Q was w) (runs_of Q w) alone_test)) (all_of (read_matched L Q was w) (runs_of Q w) read_test))

  -- what does not pass does not follow
  pub refuted : follows L Q was w ≡ false → Follows L Q was w → ⊥
  refuted e f = clash (tested f) e
