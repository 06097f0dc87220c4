-- From the walk's claim on programs to the claim on flat words: matched, apart, reads_match, unmatched. Assumes nothing.
use Rattle.std.proofs.lemmas.Option.{none-some, same_Some}
use Rattle.std.specs.Prelude.{Option, None, Some}
use mathlib.Core.Path.{◌≡◌, refl, sym, ap, ap₂, ◌∙◌, subst}
use mathlib.Core.Logic.{inl, inr}
use mathlib.Core.Bool.{◌&&◌}
use mathlib.Core.List.{List, [], ◌∷◌, map}
use Prim.Native.Nat.{ℕ, zero, suc, ◌+◌, ◌-◌, ◌≤◌, ◌<◌}
use native.Mathlib.Omega.{arith}
use lib.Dec.{T, eqb, leb, ltb, ltb→lt, leb→le, eqb→eq, le→leb, lt→ltb}
use lib.ListN.{get_or, length}
use Rattle.words.specs.Lists.{mem, In}
use Rattle.words.proofs.Bools.{left, right, both, T_true}
use Rattle.words.proofs.Members.{mem_in, in_range}
use Rattle.model.specs.Picture.{Picture, nblocks, starts, ends, size, succs}
use Rattle.laws.proofs.Accepted.{Accepted}
use Rattle.laws.proofs.Sizes.{place_below}
use Rattle.walk.specs.Machine.{Instr, Prog, LastWrite, latest_visit, instr_at, takes}
use Rattle.walk.specs.Machine as M
use Rattle.walk.specs.Demand.{RunsMatch, WritesMatch, Claim, block_at, GoesOn, IsWalk, Demand3}
use Rattle.walk.specs.Demand as D
use Rattle.kept.specs.Walk as W
use Rattle.kept.specs.Walk.{Run, Write, is_walk, steps, home, is_run, match, Matches, Follows}
use Rattle.kept.proofs.Program.{Spot, spot, placed, before, behind}
use Rattle.kept.proofs.Block.{succs_same}
use Rattle.kept.proofs.Home.{in_home}
use Rattle.kept.proofs.Plainly.{latest_same, as_write, takes_same, index_at, block_length, Valid, valid_takes}
use Rattle.kept.proofs.Standing.{Standing}

-- ---- walks

walk_goes : (P : Picture) (b : ℕ) (w : List ℕ) → T (steps P b w) → GoesOn (before P) b w
walk_goes P b [] t = tt
walk_goes P b (c ∷ w) t = (subst (In c) (sym (succs_same (spot P) P b)) (mem_in c (succs P b) (T_true (mem c (succs P b)) (left (mem c (succs P b)) (steps P c w) t))), walk_goes P c w (right (mem c (succs P b)) (steps P c w) t))

walk_is : (P : Picture) (w : List ℕ) → T (is_walk P w) → IsWalk (before P) w
walk_is P [] t = tt
walk_is P (b ∷ w) t =
    let u = left (eqb b 0 && ltb b (nblocks P)) (steps P b w) t in
    (eqb→eq b 0 (left (eqb b 0) (ltb b (nblocks P)) u), walk_goes P b w (right (eqb b 0 && ltb b (nblocks P)) (steps P b w) t))

find_src : (f : LastWrite → Option Write) (xs : List LastWrite) (k : ℕ) (x : Write) → get_or (map f xs) k None ≡ Some x → (y : LastWrite) × In y xs × (f y ≡ Some x)
find_src f [] k x e = absurd (none-some x e)
find_src f (y ∷ xs) zero x e = (y, inl refl, e)
find_src f (y ∷ xs) (suc k) x e = let r = find_src f xs k x e in (r.0, inr r.1, r.2)

up : (s p : ℕ) → s ≤ p → s + (p - s) ≡ p
up s p h = omega arith

less : (s e p : ℕ) → s ≤ p → p < e → p - s < e - s
less s e p a b = omega arith

module _ (P Q : Picture) (was : List ℕ) (gP : Accepted P) (st : Standing P Q was) (dem : Demand3 (before P) (behind P Q was)) where
  abbrev uQ : ℕ → Spot
  uQ p = spot P (get_or was p 0)

  abbrev PB : Prog
  PB = before P

  abbrev QB : Prog
  QB = behind P Q was

  abbrev old : ℕ → ℕ
  old p = get_or was p 0

  old_low : (p : ℕ) → p < length Q.locs → old p < length P.locs
  old_low p h = st.once.old_place p (subst (λ (n : ℕ). p < n) (st.once.as_many.1 ∙ sym st.once.as_many.0) h)

  -- a position of a block of Q
  at_pos : (b p : ℕ) → starts Q b ≤ p → p < ends Q b → instr_at QB b (p - starts Q b) ≡ placed uQ Q p
  at_pos b p a c = index_at Q [] uQ b (p - starts Q b) (less (starts Q b) (ends Q b) p a c) ∙ ap (placed uQ Q) (up (starts Q b) p a)

  pos_low : (b p : ℕ) → starts Q b ≤ p → p < ends Q b → p < length Q.locs
  pos_low b p a c = (place_below Q st.fine b p (in_range p (starts Q b) (size Q b) a (high (starts Q b) (ends Q b) p a c))).1
    where
      high : (s e p : ℕ) → s ≤ p → p < e → p < s + (e - s)
      high s e p a c = omega arith

  -- ---- along a walk

  module _ (w : List ℕ) (iw : T (is_walk P w)) where
    cl : Claim PB QB (block_at w) (length w)
    cl = dem.along w (walk_is P w iw)

    -- a run of Q
    record Turn (n p : ℕ) : Type 0 where
      in_walk : n < length w
      from : starts Q (get_or w n 0) ≤ p
      to : p < ends Q (get_or w n 0)

    turn_of : (u : Run) → T (is_run Q w u) → Turn u.turn u.at
    turn_of u t =
        let b = get_or w u.turn 0 in
        let t1 = left (ltb u.turn (length w) && leb (starts Q b) u.at) (ltb u.at (ends Q b)) t in
        record {
          in_walk = ltb→lt u.turn (length w) (left (ltb u.turn (length w)) (leb (starts Q b) u.at) t1);
          from = leb→le (starts Q b) u.at (right (ltb u.turn (length w)) (leb (starts Q b) u.at) t1);
          to = ltb→lt u.at (ends Q b) (right (ltb u.turn (length w) && leb (starts Q b) u.at) (ltb u.at (ends Q b)) t);
        }

    is_turn : (X : Picture) (n p : ℕ) → n < length w → starts X (get_or w n 0) ≤ p → p < ends X (get_or w n 0) → T (is_run X w (record { turn = n; at = p }))
    is_turn X n p a b c =
        both (ltb n (length w) && leb (starts X (get_or w n 0)) p) (ltb p (ends X (get_or w n 0)))
        (both (ltb n (length w)) (leb (starts X (get_or w n 0)) p) (lt→ltb n (length w) a) (le→leb (starts X (get_or w n 0)) p b)) (lt→ltb p (ends X (get_or w n 0)) c)

    abbrev mat : ℕ → ℕ → ℕ
    mat n p = latest_visit (block_at w) n (home P (old p))

    module _ (n p : ℕ) (tu : Turn n p) where
      abbrev b : ℕ
      b = get_or w n 0

      abbrev j : ℕ
      j = p - starts Q b

      here : instr_at QB b j ≡ placed uQ Q p
      here = at_pos b p tu.from tu.to

      j_low : j < length (QB b)
      j_low = subst (λ (k : ℕ). j < k) (sym (block_length Q [] uQ b)) (less (starts Q b) (ends Q b) p tu.from tu.to)

      o_low : old p < length P.locs
      o_low = old_low p (pos_low b p tu.from tu.to)

      -- the matching place holds the old block
      at_m : (mat n p ≤ n) × (get_or w (mat n p) 0 ≡ home P (old p))
      at_m =
          let r = cl.there n j tu.in_walk j_low in
          let e = ap (λ (i : Instr). i.old_block) here in
          (subst (λ (y : ℕ). latest_visit (block_at w) n y ≤ n) e r.0, subst (λ (y : ℕ). get_or w (latest_visit (block_at w) n y) 0 ≡ y) e r.1)

      it_matches : match P was w (record { turn = n; at = p }) ≡ Some (record { turn = mat n p; at = old p })
      it_matches = ap (λ (l : Option ℕ). elim l as (λ z. Option Run) [ None ↦ None | Some m ↦ Some (record { turn = m; at = old p }) ]) (latest_same w n (home P (old p)) at_m.1)

      in_old : (starts P (get_or w (mat n p) 0) ≤ old p) × (old p < ends P (get_or w (mat n p) 0))
      in_old = let z = in_home P gP (old p) o_low in subst (λ (y : ℕ). (starts P y ≤ old p) × (old p < ends P y)) (sym at_m.1) (z.1, z.2)

      before_runs : T (is_run P w (record { turn = mat n p; at = old p }))
      before_runs = is_turn P (mat n p) (old p) (let a = at_m.0 in let c = tu.in_walk in omega arith) in_old.0 in_old.1

      -- as the walk's match
      runs_match : RunsMatch QB (block_at w) n j (mat n p) (old p - starts P (get_or w (mat n p) 0))
      runs_match = (
        ap (λ (i : Instr). latest_visit (block_at w) n i.old_block) here,
        ap (λ (i : Instr). i.old_index) here ∙ ap (λ (y : ℕ). old p - starts P y) (sym at_m.1),
      )

      -- and back
      from_match : (m i : ℕ) → RunsMatch QB (block_at w) n j m i → match P was w (record { turn = n; at = p }) ≡ Some (record { turn = m; at = starts P (get_or w m 0) + i })
      from_match m i r =
          let e : mat n p ≡ m = sym runs_match.0 ∙ r.0 in
          let f : old p - starts P (get_or w (mat n p) 0) ≡ i = sym runs_match.1 ∙ r.1 in
          let g : old p ≡ starts P (get_or w m 0) + i = sym (up (starts P (get_or w (mat n p) 0)) (old p) in_old.0) ∙ ap₂ (λ (x y : ℕ). starts P (get_or w x 0) + y) e f in
          it_matches ∙ ap₂ (λ (x y : ℕ). Some (record { turn = x; at = y })) e g

      takes_after : W.takes Q w (record { turn = n; at = p }) ≡ map (as_write Q w) (takes QB (block_at w) n j)
      takes_after = ap (λ (y : ℕ). W.takes Q w (record { turn = n; at = y })) (sym (up (starts Q b) p tu.from)) ∙ takes_same Q w uQ n j (less (starts Q b) (ends Q b) p tu.from tu.to)

      takes_before : W.takes P w (record { turn = mat n p; at = old p }) ≡ map (as_write P w) (takes PB (block_at w) (mat n p) (old p - starts P (get_or w (mat n p) 0)))
      takes_before =
          ap (λ (y : ℕ). W.takes P w (record { turn = mat n p; at = y })) (sym (up (starts P (get_or w (mat n p) 0)) (old p) in_old.0))
          ∙ takes_same P w (spot P) (mat n p) (old p - starts P (get_or w (mat n p) 0)) (less (starts P (get_or w (mat n p) 0)) (ends P (get_or w (mat n p) 0)) (old p) in_old.0 in_old.1)

    -- a run by index
    turn_at : (n j : ℕ) → n < length w → j < length (QB (get_or w n 0)) → Turn n (starts Q (get_or w n 0) + j)
    turn_at n j a c = record { in_walk = a; from = omega arith; to = near (starts Q (get_or w n 0)) (ends Q (get_or w n 0)) j (subst (λ (k : ℕ). j < k) (block_length Q [] uQ (get_or w n 0)) c) }
      where
        near : (s e j : ℕ) → j < e - s → s + j < e
        near s e j h = omega arith

    by_index : (n j m i : ℕ) → n < length w → j < length (QB (get_or w n 0)) → RunsMatch QB (block_at w) n j m i
        → match P was w (record { turn = n; at = starts Q (get_or w n 0) + j }) ≡ Some (record { turn = m; at = starts P (get_or w m 0) + i })
    by_index n j m i a c r = from_match n (starts Q (get_or w n 0) + j) (turn_at n j a c) m i (subst (λ (k : ℕ). RunsMatch QB (block_at w) n k m i) (sym (back (starts Q (get_or w n 0)) j)) r)
      where
        back : (s j : ℕ) → s + j - s ≡ j
        back s j = omega arith

    one_same : (x y : LastWrite) → Valid QB (block_at w) (length w) x → WritesMatch QB (block_at w) x y → Matches P was w (as_write Q w x) (as_write P w y)
    one_same M.none M.none v m = tt
    one_same M.none (M.write n j s) v m = m
    one_same (M.write n j s) M.none v m = m
    one_same (M.write n j s) (M.write k i z) v m = (by_index n j k i v.0 v.1 m.0, m.1)

    all_same : (xs ys : List LastWrite) → ((x : LastWrite) → In x xs → Valid QB (block_at w) (length w) x) → D.Pointwise (WritesMatch QB (block_at w)) xs ys → W.Each P was w (map (as_write Q w) xs) (map (as_write P w) ys)
    all_same [] [] v e = tt
    all_same [] (y ∷ ys) v e = e
    all_same (x ∷ xs) [] v e = e
    all_same (x ∷ xs) (y ∷ ys) v e = (one_same x y (v x (inl refl)) e.0, all_same xs ys (λ z i. v z (inr i)) e.1)

    abbrev old_run : Run → Run
    old_run u = record { turn = mat u.turn u.at; at = old u.at }

    is_old : (u v : Run) → T (is_run Q w u) → match P was w u ≡ Some v → old_run u ≡ v
    is_old u v t e = same_Some (old_run u) v (sym (it_matches u.turn u.at (turn_of u t)) ∙ e)

    -- its index in the block before
    abbrev idx : Run → ℕ
    idx v = v.at - starts P (get_or w v.turn 0)

    match_of : (u v : Run) (t : T (is_run Q w u)) → match P was w u ≡ Some v → RunsMatch QB (block_at w) u.turn (u.at - starts Q (get_or w u.turn 0)) v.turn (idx v)
    match_of u v t e = subst (λ (y : Run). RunsMatch QB (block_at w) u.turn (u.at - starts Q (get_or w u.turn 0)) y.turn (idx y)) (is_old u v t e) (runs_match u.turn u.at (turn_of u t))

    pub follows : Follows P Q was w
    follows = record {
      matched = λ u t. (old_run u, it_matches u.turn u.at (turn_of u t), before_runs u.turn u.at (turn_of u t));
      apart = λ u u' v t t' e e'.
          let a = turn_of u t in
          let a' = turn_of u' t' in
          let r = cl.single u.turn (u.at - starts Q (get_or w u.turn 0)) u'.turn (u'.at - starts Q (get_or w u'.turn 0)) v.turn (idx v) a.in_walk a'.in_walk
          (j_low u.turn u.at a) (j_low u'.turn u'.at a') (match_of u v t e) (match_of u' v t' e') in
          let q : u.at ≡ u'.at = sym (up (starts Q (get_or w u.turn 0)) u.at a.from) ∙ ap₂ (λ (x y : ℕ). starts Q (get_or w x 0) + y) r.0 r.1 ∙ up (starts Q (get_or w u'.turn 0)) u'.at a'.from in
          λ z. record { turn = r.0 z; at = q z };
      reads_match = λ u v t e.
          let a = turn_of u t in
          let n = u.turn in
          let j = u.at - starts Q (get_or w n 0) in
          subst (λ (y : Run). W.Each P was w (W.takes Q w u) (W.takes P w y)) (is_old u v t e)
          (subst (λ (l : List (Option Write)). W.Each P was w l (W.takes P w (old_run u))) (sym (takes_after n u.at a))
          (subst (λ (l : List (Option Write)). W.Each P was w (map (as_write Q w) (takes QB (block_at w) n j)) l) (sym (takes_before n u.at a))
          (all_same (takes QB (block_at w) n j) (takes PB (block_at w) (old_run u).turn (idx (old_run u))) (λ x i. valid_takes QB (block_at w) (length w) n j a.in_walk x i)
          (cl.reads n j (old_run u).turn (idx (old_run u)) a.in_walk (j_low n u.at a) (runs_match n u.at a)))));
      unmatched = λ v v' k i rv rv' e none_of u t q.
          let a = turn_of u t in
          let n = u.turn in
          let j = u.at - starts Q (get_or w n 0) in
          let f = find_src (as_write P w) (takes PB (block_at w) (old_run u).turn (idx (old_run u))) i (record { by = v; slot = k })
          (ap (λ (l : List (Option Write)). get_or l i None) (sym (takes_before n u.at a)) ∙ ap (λ (y : Run). get_or (W.takes P w y) i None) (is_old u v' t q) ∙ e) in
          reader n j (old_run u).turn (idx (old_run u)) a.in_walk (j_low n u.at a) (runs_match n u.at a) v k none_of f.0 f.1 f.2;
    }
      where
        reader : (n j m i : ℕ) → n < length w → j < length (QB (get_or w n 0)) → RunsMatch QB (block_at w) n j m i → (v : Run) (k : ℕ)
            → ((u : Run) → T (is_run Q w u) → ¬ (match P was w u ≡ Some v)) → (y : LastWrite) → In y (takes PB (block_at w) m i) → as_write P w y ≡ Some (record { by = v; slot = k }) → ⊥
        reader n j m i a c r v k out M.none g e = none-some (record { by = v; slot = k }) e
        reader n j m i a c r v k out (M.write m' i' s) g e =
            let z = cl.matched n j m i a c r m' i' s g in
            let t = turn_at z.0 z.1 z.2 z.3 in
            let f = same_Some (record { by = record { turn = m'; at = starts P (get_or w m' 0) + i' }; slot = s }) (record { by = v; slot = k }) e in
            out (record { turn = z.0; at = starts Q (get_or w z.0 0) + z.1 }) (is_turn Q z.0 (starts Q (get_or w z.0 0) + z.1) t.in_walk t.from t.to)
            (by_index z.0 z.1 m' i' z.2 z.3 z.4 ∙ ap (λ (x : Write). Some x.by) f)
