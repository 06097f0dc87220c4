-- One round along a walk, by an invariant over the places of the walk: outside the path from x to the target the two states agree on what is
-- live; on the path they agree on what the scan finds in place. So every run after takes what its name took before. Compose uses it for each
-- round. Assumes nothing.
use mathlib.Core.Path.{◌≡◌, refl, sym, ◌∙◌, ap, subst}
use mathlib.Core.Bool.{Bool, true}
use mathlib.Core.List.{List, [], ◌∷◌, ◌++◌}
use mathlib.Core.Logic.{inl, ⊎_elim}
use Prim.Native.Nat.{ℕ, zero, suc, ◌+◌, ◌<◌}
use native.Mathlib.Omega.{arith}
use lib.ListN.{length, length-append}
use lib.Seq.{append_snoc}
use Rattle.words.specs.Lists.{In}
use Rattle.words.proofs.Bools.{eq?}
use Rattle.words.proofs.Lists.{snoc_inj, before_last}
use Rattle.words.proofs.Members.{in_left, in_right, in_mid}
use Rattle.walk.specs.Machine.{Instr, Prog, LastWrite, State, latest_visit, Walk}
use Rattle.walk.proofs.Named.{run_named, Wanted, state_named, WantedAlong, state_named_step, wanted_append, run_append, run_other}
use Rattle.walk.proofs.Scan.{Marked, same, Locations, after_code, scan, after_chain, live_in_place, all_of, kept_of, moved_of, rename_own, ReadsInPlace, ChainInPlace, written_along, ScanRound}
use Rattle.walk.proofs.ScanLaws.{live_same, live-not_fresh, chain_in-place_at, after-chain_snoc, unwritten_snoc, above_scan, above_chain, above_live}
use Rattle.walk.proofs.Line.{AgreeInPlace, HeldInNew, held_code, kept-code_run, kept-part_run, moved_run, own_run}

-- nothing is in a new register at first
none_in_new : (l : ℕ → Bool) (σ μ : State) → HeldInNew (live_in_place l) σ μ
none_in_new l σ μ r f e = live-not_fresh l r f e

-- only what is live matters
only_live : (a : Locations) (l : ℕ → Bool) (σ κ : State) → AgreeInPlace a σ κ → ((r : ℕ) → l r ≡ true → a r ≡ same) → AgreeInPlace (live_in_place l) σ κ
only_live a l σ κ h k r e = h r (k r (live_same l r e))

agree_cast : (a : Locations) (σ σ' κ κ' : State) → σ' ≡ σ → κ' ≡ κ → AgreeInPlace a σ κ → AgreeInPlace a σ' κ'
agree_cast a σ σ' κ κ' p q h r e = ap (λ z. z r) p ∙ h r e ∙ ap (λ z. z r) (sym q)

module _ (want : ℕ → ℕ → List LastWrite) (R : ℕ) (succ : ℕ → List ℕ) (live : ℕ → ℕ → Bool) (P P' : Prog) (x t : ℕ) (chain : List ℕ) (X : List Marked)
    (rnd : ScanRound R succ live P P' x t chain X) (w : ℕ → ℕ) (N : ℕ) (wk : Walk succ w N) (wanted : WantedAlong want P w N)
    (same_visit : (m n : ℕ) → w m ≡ x → w n ≡ t → n ≡ suc (m + length chain) → n < N → (i : Instr) → In i (P x) → latest_visit w n i.old_block ≡ latest_visit w m i.old_block) where
  abbrev visit : ℕ → ℕ → ℕ
  visit n = latest_visit w n

  -- the states at place n, of the program before the round and after it
  abbrev before : ℕ → State
  before n = state_named P w n

  abbrev after : ℕ → State
  after n = state_named P' w n

  -- the scan's locations at x's entry, behind x, and behind the chain's blocks pre
  abbrev entry_x : Locations
  entry_x = live_in_place (live x)

  abbrev pub behind_x : Locations
  behind_x = scan entry_x X

  abbrev behind : List ℕ → Locations
  behind pre = after_chain P behind_x pre

  abbrev path : List ℕ
  path = chain ++ t ∷ []

  -- place n is on the path: place m held x, and the chain's blocks pre were visited since
  record Since (n m : ℕ) (pre : List ℕ) : Type 0 where
    place : n ≡ suc (m + length pre)
    was_x : w m ≡ x
    agree_then : AgreeInPlace entry_x (before m) (after m)
    agree_now : AgreeInPlace (behind pre) (before n) (after n)
    -- what the chain does not write is as x left it
    unwritten : (r : ℕ) → (In r (written_along P pre) → ⊥) → after n r ≡ after (suc m) r
    -- a state that holds in new registers what x left there still does
    hold : (μ : State) → HeldInNew behind_x (before (suc m)) μ → HeldInNew (behind pre) (before n) μ

  data Invariant (n : ℕ) : Type 0 where
    outside : (In (w n) path → ⊥) → AgreeInPlace (live_in_place (live (w n))) (before n) (after n) → Invariant n
    inside : (m : ℕ) (pre post : List ℕ) → path ≡ pre ++ w n ∷ post → Since n m pre → Invariant n

  -- the runs at place n take what is wanted, and the invariant goes on
  abbrev Step : ℕ → Type 0
  Step n = Wanted want (visit n) (P' (w n)) (after n) × (suc n < N → Invariant (suc n))

  -- ---- a block off the path

  other_step : (n : ℕ) → n < N → (In (w n) path → ⊥) → (w n ≡ x → ⊥) → AgreeInPlace (live_in_place (live (w n))) (before n) (after n) → Step n
  other_step n h ni nx ag =
      let e : P' (w n) ≡ P (w n) = rnd.new_other (w n) nx (λ q. ni (in_right (w n) chain (t ∷ []) (inl q))) in
      let k = kept-code_run want (visit n) (P (w n)) (live_in_place (live (w n))) (before n) (after n) ag (rnd.live_reads (w n)) (wanted n h) in (
        subst (λ c. Wanted want (visit n) c (after n)) (sym e) k.0,
        λ l. let f = rnd.from_other (w n) nx ni (w (suc n)) (wk.goes n l) in
            outside f.0 (only_live (after_code (live_in_place (live (w n))) (P (w n))) (live (w (suc n))) (before (suc n)) (after (suc n))
            (agree_cast (after_code (live_in_place (live (w n))) (P (w n))) (run_named (visit n) (P (w n)) (before n)) (before (suc n)) (run_named (visit n) (P (w n)) (after n)) (after (suc n))
            (state_named_step P w n (P (w n)) refl) (state_named_step P' w n (P (w n)) e) k.1) f.1),
      )

  -- ---- x, of which the kept part runs after

  x_step : (n : ℕ) → n < N → w n ≡ x → AgreeInPlace entry_x (before n) (after n) → Step n
  x_step n h ex ag =
      let eP : P (w n) ≡ all_of X = ap P ex ∙ rnd.code_x in
      let eP' : P' (w n) ≡ kept_of X = ap P' ex ∙ rnd.new_x in
      let k = kept-part_run want (visit n) R (written_along P chain) X entry_x (before n) (after n) ag rnd.scan_ok (subst (λ c. Wanted want (visit n) c (before n)) eP (wanted n h)) in
      let ag' : AgreeInPlace behind_x (before (suc n)) (after (suc n)) =
      agree_cast behind_x (run_named (visit n) (all_of X) (before n)) (before (suc n)) (run_named (visit n) (kept_of X) (after n)) (after (suc n))
      (state_named_step P w n (all_of X) eP) (state_named_step P' w n (kept_of X) eP') k.1 in (
        subst (λ c. Wanted want (visit n) c (after n)) (sym eP') k.0,
        λ l. ⊎_elim
            (λ f. inside n [] f.0 f.1 (record { place = omega arith; was_x = ex; agree_then = ag; agree_now = ag'; unwritten = λ r q. refl; hold = λ μ q. q }))
            (λ f. outside f.0 (only_live behind_x (live (w (suc n))) (before (suc n)) (after (suc n)) ag' f.1))
            (rnd.from_x (w (suc n)) (subst (λ z. In (w (suc n)) (succ z)) ex (wk.goes n l))),
      )

  -- ---- a block of the chain: kept code

  chain_step : (n : ℕ) → n < N → (m : ℕ) (pre : List ℕ) (c : ℕ) (post : List ℕ) → path ≡ pre ++ w n ∷ c ∷ post → Since n m pre → Step n
  chain_step n h m pre c post e s =
      let mi = before_last chain t pre (w n) c post e in
      let in_chain : In (w n) chain = subst (λ z. In (w n) z) (sym mi.1) (in_mid pre (w n) mi.0) in
      let eq : P' (w n) ≡ P (w n) = rnd.new_other (w n) (λ q. rnd.x_alone (subst (λ z. In z path) q (in_left (w n) chain (t ∷ []) in_chain))) (λ q. rnd.t_alone (subst (λ z. In z chain) q in_chain)) in
      let ok : ReadsInPlace (behind pre) (P (w n)) = chain_in-place_at P behind_x pre (w n) mi.0 (subst (ChainInPlace P behind_x) mi.1 rnd.chain_ok) in
      let k = kept-code_run want (visit n) (P (w n)) (behind pre) (before n) (after n) s.agree_now ok (wanted n h) in
      let s0 = state_named_step P w n (P (w n)) refl in
      let s1 = state_named_step P' w n (P (w n)) eq in
      let ag' : AgreeInPlace (after_code (behind pre) (P (w n))) (before (suc n)) (after (suc n)) =
      agree_cast (after_code (behind pre) (P (w n))) (run_named (visit n) (P (w n)) (before n)) (before (suc n)) (run_named (visit n) (P (w n)) (after n)) (after (suc n)) s0 s1 k.1 in
      let es = after-chain_snoc P behind_x pre (w n) in
      let at = s.place in (
        subst (λ z. Wanted want (visit n) z (after n)) (sym eq) k.0,
        λ l. ⊎_elim
            (λ f. inside m (pre ++ w n ∷ []) post (e ∙ ap (λ z. pre ++ w n ∷ z ∷ post) (sym f) ∙ sym (append_snoc pre (w n) (w (suc n) ∷ post))) (record {
              place = omega (arith, length-append pre (w n ∷ []));
              was_x = s.was_x;
              agree_then = s.agree_then;
              agree_now = subst (λ z. AgreeInPlace z (before (suc n)) (after (suc n))) (sym es) ag';
              unwritten = λ r q. let z = unwritten_snoc P pre (w n) r q in ap (λ y. y r) s1 ∙ run_other (visit n) (P (w n)) (after n) r z.1 ∙ s.unwritten r z.0;
              hold = λ μ q. subst (λ z. HeldInNew z (before (suc n)) μ) (sym es) (subst (λ z. HeldInNew (after_code (behind pre) (P (w n))) z μ) (sym s0)
                  (held_code (visit n) (P (w n)) (behind pre) (before n) μ (s.hold μ q)));
            }))
            (λ f. outside f.0 (only_live (after_code (behind pre) (P (w n))) (live (w (suc n))) (before (suc n)) (after (suc n)) ag' f.1))
            (rnd.from_chain pre (w n) c post (w (suc n)) e (wk.goes n l)),
      )

  -- ---- the target: the moved code, and then its own

  abbrev moved_code : List Instr
  moved_code = moved_of entry_x X

  abbrev own_code : List Instr
  own_code = rename_own (behind chain) (P t)

  t_step : (n : ℕ) → n < N → (m : ℕ) → w n ≡ t → Since n m chain → Step n
  t_step n h m et s =
      let ex = s.was_x in
      let at = s.place in
      let eX : P (w m) ≡ all_of X = ap P ex ∙ rnd.code_x in
      let eX' : P' (w m) ≡ kept_of X = ap P' ex ∙ rnd.new_x in
      let mN : m < N = omega arith in
      let mv = moved_run want (visit m) (visit n) R (written_along P chain) (after n) X entry_x (before m) (after m) (after n)
      s.agree_then (none_in_new (live x) (before m) (after n)) (λ r q. refl)
      (λ r q. s.unwritten r q ∙ ap (λ z. z r) (state_named_step P' w m (kept_of X) eX'))
      (λ i q. same_visit m n ex et at h i (subst (In i) (sym rnd.code_x) q))
      rnd.scan_ok (subst (λ c. Wanted want (visit m) c (before m)) eX (wanted m mN)) in
      let eT : P (w n) ≡ P t = ap P et in
      let eT' : P' (w n) ≡ moved_code ++ own_code = ap P' et ∙ rnd.new_t in
      let ow = own_run want (visit n) R (P t) (behind chain) (before n) (run_named (visit n) moved_code (after n))
      (λ r l q. s.agree_now r q ∙ sym (mv.2 r l))
      (s.hold (run_named (visit n) moved_code (after n)) (subst (λ z. HeldInNew behind_x z (run_named (visit n) moved_code (after n))) (sym (state_named_step P w m (all_of X) eX)) mv.1))
      (above_chain R P behind_x chain (above_scan R (written_along P chain) X entry_x rnd.scan_ok (above_live R (live x))))
      rnd.own_ok (subst (λ c. Wanted want (visit n) c (before n)) eT (wanted n h)) in (
        subst (λ c. Wanted want (visit n) c (after n)) (sym eT') (wanted_append want (visit n) moved_code own_code (after n) mv.0 ow.0),
        λ l. let f = rnd.from_t (w (suc n)) (subst (λ z. In (w (suc n)) (succ z)) et (wk.goes n l)) in
            outside f.0 (λ r q. let lv = live_same (live (w (suc n))) r q in
            ap (λ z. z r) (state_named_step P w n (P t) eT) ∙ ow.1 r (rnd.live_low (w (suc n)) r lv) (f.1 r lv)
            ∙ sym (ap (λ z. z r) (state_named_step P' w n (moved_code ++ own_code) eT' ∙ run_append (visit n) moved_code own_code (after n)))),
      )

  -- ---- along the walk

  step : (n : ℕ) → n < N → Invariant n → Step n
  step n h (outside ni ag) = ⊎_elim
      (λ e. x_step n h e (subst (λ z. AgreeInPlace (live_in_place (live z)) (before n) (after n)) e ag))
      (λ ne. other_step n h ni ne ag)
      (eq? (w n) x)
  step n h (inside m pre [] e s) = let la = snoc_inj chain t pre (w n) e in t_step n h m (sym la.1) (subst (Since n m) (sym la.0) s)
  step n h (inside m pre (c ∷ post) e s) = chain_step n h m pre c post e s

  at_start : Invariant zero
  unfolding state_named
  at_start = outside (λ q. rnd.zero_out (subst (λ z. In z path) wk.starts q)) (λ r q. refl)

  invariant : (n : ℕ) → n < N → Invariant n
  invariant zero h = at_start
  invariant (suc n) h = (step n (omega arith) (invariant n (omega arith))).1 h

  -- what every run takes after is what its name took before
  pub one_round : WantedAlong want P' w N
  one_round n h = (step n h (invariant n h)).0
