-- From the rules to the scan, 5: a round of document 01 is a round of the scan. What RuleReads says of each read holds of whole code; the new
-- code by the rules is that of the scan; and where each block's successors lie and what is live there, by rule 2 and sole predecessors.
-- Assumes nothing.
use mathlib.Core.Path.{◌≡◌, refl, sym, ◌∙◌, ap, ap₂, subst}
use mathlib.Core.Bool.{Bool, true, false, cond, false≢true}
use mathlib.Core.List.{List, [], ◌∷◌, ◌++◌, map, append_assoc}
use mathlib.Core.Logic.{◌⊎◌, inl, inr, ⊎_elim}
use Prim.Native.Nat.{ℕ, zero, suc, ◌≤◌, ◌<◌}
use native.Mathlib.Omega.{arith}
use lib.ListN.{length}
use Rattle.words.specs.Lists.{In, mem}
use Rattle.words.proofs.Bools.{eq?}
use Rattle.words.proofs.Lists.{before_last}
use Rattle.words.proofs.Members.{in_left, in_right, in_split, map_on}
use Rattle.walk.specs.Machine.{Instr, with_registers, Prog}
use Rattle.walk.specs.Rules.{written_by, ChainSteps, last_block, defined_by, Exposed, new_name, goes, owns, Round}
use Rattle.walk.proofs.Facts.{in?, none_in, behind_same}
use Rattle.walk.proofs.Scan.{Marked, same, Locations, after_writes, after_code, scan, after_chain, live_in_place, register_at, renamed, kept_of, moved_of, rename_own, ReadsInPlace, ChainInPlace, ScanAllows, OwnFindable, written_along, ScanRound}
use Rattle.walk.proofs.ScanLaws.{after-writes_out, after-writes_same, after-writes_in, after_none, after-code_out, after-code_in, exposed_in_place, own_findable, live_located, after-chain_snoc}
use Rattle.walk.proofs.Definers.{locations_next, locations_entry}
use Rattle.walk.proofs.Align.{Align, align_end, align_take, align_skip, AlignFirst, first_end, first_take, first_last, AlignChain, align_of, align_le, mark_one, mark_code, all_of_mark, kept_of_mark, scan_locations, code_locations, KeptFrom, written_along_later, kept_of_later}
use Rattle.walk.proofs.Chains.{last_block_snoc, steps_at, steps_last, path_predecessor, chain_predecessor}
use Rattle.walk.proofs.RuleReads.{straight, locations, read_facts}

module _ (R : ℕ) (succ : ℕ → List ℕ) (P P' : Prog) (rnd : Round R succ P P') where
  open rnd use {x, t, chain, live, mark, new_reg, solves, is_chain, legal}
  open read_facts R succ P P' rnd use {end_x, along_x, along_chain, kept_behind, kept_read, moved_read, moved_name, target_read, target_name, live_behind}

  abbrev S : List Instr
  S = straight rnd

  -- x's code with marks
  pub X : List Marked
  X = mark_code mark new_reg 0 (P x)

  -- the scan's locations behind x
  abbrev scanned_x : Locations
  scanned_x = scan (live_in_place (live x)) X

  -- ---- every read finds its value: x, the chain

  -- registers that are read are below R
  abbrev ReadsBelow : List Instr → Type 0
  ReadsBelow c = (i : Instr) → In i c → (r : ℕ) → In r i.reads → r < R

  -- cw is what the chain writes
  scan_legal : (cw : List ℕ) {q q' : ℕ} {c : List Instr} → AlignFirst S mark q c q' → ReadsBelow c → ((r : ℕ) → In r cw → KeptFrom S mark q' r)
      → ScanAllows R cw (locations rnd q) (mark_code mark new_reg q c)
  scan_legal cw first_end lo h = tt
  scan_legal cw (first_take {q = q} {i = i} {c = c} lt at_q f) lo h = go (mark q) refl (scan_legal cw f (λ j g. lo j (inr g)) h)
    where
      later : (r : ℕ) → In r (written_by (kept_of (mark_code mark new_reg (suc q) c)) ++ cw) → KeptFrom S mark (suc q) r
      later r g = ⊎_elim
          (λ z. kept_of_later S mark new_reg r f z)
          (λ z. let k = h r z in (k.0, (let y = k.1 in let v = align_le (align_of f) in omega arith), k.2, k.3, k.4))
          (in_split r (written_by (kept_of (mark_code mark new_reg (suc q) c))) cw g)

      go : (b : Bool) → mark q ≡ b → ScanAllows R cw (locations rnd (suc q)) (mark_code mark new_reg (suc q) c)
          → ScanAllows R cw (locations rnd q) (mark_one b (new_reg q) i ∷ mark_code mark new_reg (suc q) c)
      go true m rest = (
        rnd.fresh.above q m,
        (λ r g. moved_read q r lt (lo i (inl refl) r g) m (subst (λ z. In r z.reads) (sym at_q) g) (written_by (kept_of (mark_code mark new_reg (suc q) c)) ++ cw) (later r)),
        subst (λ z. ScanAllows R cw z (mark_code mark new_reg (suc q) c)) (locations_next S mark new_reg (live x) q i true at_q m) rest,
      )
      go false m rest = (
        (λ r g. kept_read q r lt m (subst (λ z. In r z.reads) (sym at_q) g)),
        subst (λ z. ScanAllows R cw z (mark_code mark new_reg (suc q) c)) (locations_next S mark new_reg (live x) q i false at_q m) rest,
      )
  scan_legal cw (first_last {q = q} {i = i} rr ww m) lo h =
      subst (λ b. ScanAllows R cw (locations rnd q) (mark_one b (new_reg q) i ∷ [])) (sym m) ((λ r g. absurd (none_in i.reads r rr g)), tt)

  kept_legal : {q q' : ℕ} {c : List Instr} → Align S q c q' → ((p : ℕ) → q ≤ p → mark p ≡ false) → ReadsInPlace (locations rnd q) c
  kept_legal align_end m = tt
  kept_legal (align_take {q = q} {i = i} {c = c} lt at_q f) m = (
    (λ r g. kept_read q r lt (m q (omega arith)) (subst (λ z. In r z.reads) (sym at_q) g)),
    subst (λ z. ReadsInPlace z c) (locations_next S mark new_reg (live x) q i false at_q (m q (omega arith))) (kept_legal f (λ p h. m p (omega arith))),
  )
  kept_legal (align_skip {q = q} {i = i} {c = c} rr ww f) m =
      ((λ r g. absurd (none_in i.reads r rr g)), subst (λ z. ReadsInPlace z c) (sym (after_none (locations rnd q) i.writes ww)) (kept_legal f m))

  chain_legal : (q q' : ℕ) (bs : List ℕ) → AlignChain P S q bs q' → ((p : ℕ) → q ≤ p → mark p ≡ false)
      → ChainInPlace P (locations rnd q) bs × (after_chain P (locations rnd q) bs ≡ locations rnd q')
  chain_legal q q' [] f m = (tt, ap (locations rnd) f)
  chain_legal q q' (b ∷ bs) f m =
      let e = code_locations S mark new_reg (live x) f.1 m in
      let r = chain_legal f.0 q' bs f.2 (λ p h. m p (let z = align_le f.1 in omega arith)) in
      ((kept_legal f.1 m, subst (λ z. ChainInPlace P z bs) (sym e) r.0), ap (λ z. after_chain P z bs) e ∙ r.1)

  -- ---- the new code is that of the rules

  -- what goes
  goes-moved_of : {q q' : ℕ} {c : List Instr} → AlignFirst S mark q c q' → goes S mark new_reg q c ≡ moved_of (locations rnd q) (mark_code mark new_reg q c)
  goes-moved_of first_end = refl
  goes-moved_of (first_take {q = q} {i = i} {c = c} lt at_q f) = go (mark q) refl (goes-moved_of f)
    where
      go : (b : Bool) → mark q ≡ b → goes S mark new_reg (suc q) c ≡ moved_of (locations rnd (suc q)) (mark_code mark new_reg (suc q) c)
          → cond b
          (with_registers (map (λ (r : ℕ). new_name mark new_reg (defined_by S q r) r) i.reads) (map (λ (r : ℕ). new_reg q) i.writes) i ∷ goes S mark new_reg (suc q) c)
          (goes S mark new_reg (suc q) c)
          ≡ moved_of (locations rnd q) (mark_one b (new_reg q) i ∷ mark_code mark new_reg (suc q) c)
      go true m rest = ap₂ ◌∷◌
          (ap (λ z. with_registers z (map (λ (r : ℕ). new_reg q) i.writes) i)
          (map_on (λ r. new_name mark new_reg (defined_by S q r) r) (renamed (locations rnd q)) i.reads (λ r g. moved_name q r m (subst (λ z. In r z.reads) (sym at_q) g))))
          (rest ∙ ap (λ z. moved_of z (mark_code mark new_reg (suc q) c)) (locations_next S mark new_reg (live x) q i true at_q m))
      go false m rest = rest ∙ ap (λ z. moved_of z (mark_code mark new_reg (suc q) c)) (locations_next S mark new_reg (live x) q i false at_q m)
  goes-moved_of (first_last {q = q} {i = i} rr ww m) = go (mark q) m
    where
      go : (b : Bool) → b ≡ false
          → cond b (with_registers (map (λ (r : ℕ). new_name mark new_reg (defined_by S q r) r) i.reads) (map (λ (r : ℕ). new_reg q) i.writes) i ∷ []) []
          ≡ moved_of (locations rnd q) (mark_one b (new_reg q) i ∷ [])
      go true e = absurd (false≢true (sym e))
      go false e = refl

  -- the target's own code; a is where values are, ws what it has written so far
  owns_rename_own : (c : List Instr) (ws : List ℕ) (a : Locations) → ((r : ℕ) → In r ws → a r ≡ same)
      → ((r : ℕ) → (In r ws → ⊥) → Exposed r c → new_name mark new_reg (defined_by S (length S) r) r ≡ renamed a r)
      → owns S mark new_reg ws c ≡ rename_own a c
  owns_rename_own [] ws a h k = refl
  owns_rename_own (i ∷ c) ws a h k = ap₂ ◌∷◌
      (ap (λ z. with_registers z i.writes i)
      (map_on (λ r. cond (mem r ws) r (new_name mark new_reg (defined_by S (length S) r) r)) (renamed a) i.reads
      (λ r g. ⊎_elim
      (λ q. ap (λ b. cond b r (new_name mark new_reg (defined_by S (length S) r) r)) q.1 ∙ ap (λ y. register_at y r) (sym (h r q.0)))
      (λ q. ap (λ b. cond b r (new_name mark new_reg (defined_by S (length S) r) r)) q.1 ∙ k r q.0 (inl g))
      (in? r ws))))
      (owns_rename_own c (i.writes ++ ws) (after_writes a i.writes)
      (λ r g. ⊎_elim (λ q. after-writes_in i.writes a r q) (λ q. after-writes_same i.writes a r (h r q)) (in_split r i.writes ws g))
      (λ r g e. k r (λ q. g (in_right r i.writes ws q)) (inr ((λ q. g (in_left r i.writes ws q)), e))
      ∙ ap (λ y. register_at y r) (sym (after-writes_out i.writes a r (λ q. g (in_left r i.writes ws q))))))

  -- ---- the scan's locations over blocks are those by position

  locations_0 : locations rnd 0 ≡ live_in_place (live x)
  locations_0 = locations_entry S mark new_reg (live x)

  locations_x : scanned_x ≡ locations rnd end_x
  unfolding X
  locations_x = ap (λ z. scan z (mark_code mark new_reg 0 (P x))) (sym locations_0) ∙ scan_locations S mark new_reg (live x) along_x

  locations_t : after_chain P scanned_x chain ≡ locations rnd (length S)
  locations_t = ap (λ z. after_chain P z chain) locations_x ∙ (chain_legal end_x (length S) chain along_chain kept_behind).1

  -- ---- where a block's successors lie, and what is live there

  t_in : In t (succ (last_block x chain))
  t_in = steps_last succ t x chain is_chain.steps

  -- behind the target: rule 2
  t_out : (s r : ℕ) → In s (succ t) → live s r ≡ true → after_code (locations rnd (length S)) (P t) r ≡ same
  t_out s r h e = ⊎_elim
      (λ q. after-code_in (P t) (locations rnd (length S)) r q.0)
      (λ q. after-code_out (P t) (locations rnd (length S)) r q.0
      ∙ live_behind t r t_in (solves.pass t s r h e q.0) (λ p d m. legal.last_not_past r p d m (q.0, (s, h, e))))
      (in? r (written_by (P t)))

  -- behind the chain: the target, or elsewhere (rule 2)
  exits : (s : ℕ) → In s (succ (last_block x chain)) → (s ≡ t) ⊎ ((In s (chain ++ t ∷ []) → ⊥) × ((r : ℕ) → live s r ≡ true → locations rnd (length S) r ≡ same))
  exits s h = ⊎_elim (λ y. inl y) (λ n. inr (
    (λ q. ⊎_elim
        (λ z. let k = chain_predecessor succ t x chain is_chain.linked is_chain.steps s z in
        n (sym (k.2 t (subst (λ y. In t (succ y)) (k.1.only (last_block x chain) h) t_in))))
        (λ z. only_t n z)
        (in_split s chain (t ∷ []) q)),
    (λ r g. live_behind s r h g (λ p d m. legal.last_not_other r p d m (s, h, n, g))),
  )) (eq? s t)
    where
      only_t : (s ≡ t → ⊥) → In s (t ∷ []) → ⊥
      only_t n (inl z) = n z
      only_t n (inr z) = z

  abbrev OutX : ℕ → Type 0
  OutX s = ((post : List ℕ) × (chain ++ t ∷ [] ≡ s ∷ post)) ⊎ ((In s (chain ++ t ∷ []) → ⊥) × ((r : ℕ) → live s r ≡ true → scanned_x r ≡ same))

  out_x : (s : ℕ) → In s (succ x) → (cs : List ℕ) → chain ≡ cs → OutX s
  out_x s h [] e = ⊎_elim
      (λ y. inl ([], ap (λ z. z ++ t ∷ []) e ∙ ap (λ z. z ∷ []) (sym y)))
      (λ y. inr (y.0, λ r g. ap (λ z. z r) (subst (λ z. after_chain P scanned_x z ≡ locations rnd (length S)) e locations_t) ∙ y.1 r g))
      (exits s (subst (λ z. In s (succ (last_block x z))) (sym e) h))
  out_x s h (c ∷ cs) e =
      let stp = subst (λ z. ChainSteps succ t x z) e is_chain.steps in
      inl (cs ++ t ∷ [], ap (λ z. z ++ t ∷ []) e ∙ ap (λ z. z ∷ (cs ++ t ∷ [])) (sym (stp.1 s h)))

  abbrev OutC : List ℕ → ℕ → ℕ → ℕ → Type 0
  OutC pre b c s = (s ≡ c) ⊎ ((In s (chain ++ t ∷ []) → ⊥) × ((r : ℕ) → live s r ≡ true → after_code (after_chain P scanned_x pre) (P b) r ≡ same))

  out_chain : (pre : List ℕ) (b c : ℕ) (post : List ℕ) (s : ℕ) → chain ++ t ∷ [] ≡ pre ++ b ∷ c ∷ post → In s (succ b) → (q : List ℕ) → chain ≡ pre ++ b ∷ q → OutC pre b c s
  out_chain pre b c post s e h [] g = ⊎_elim
      (λ y. inl (y ∙ sym (behind_same pre b c post t [] (sym e ∙ ap (λ z. z ++ t ∷ []) g ∙ append_assoc pre (b ∷ []) (t ∷ [])))))
      (λ y. inr (y.0, λ r k. ap (λ z. z r) (sym (after-chain_snoc P scanned_x pre b) ∙ ap (after_chain P scanned_x) (sym g) ∙ locations_t) ∙ y.1 r k))
      (exits s (subst (λ z. In s (succ z)) (sym (ap (last_block x) g ∙ last_block_snoc x pre b)) h))
  out_chain pre b c post s e h (d ∷ q) g =
      let stp = steps_at succ t x pre b (d ∷ q) (subst (λ z. ChainSteps succ t x z) g is_chain.steps) in
      inl (stp.1 s h ∙ sym (behind_same pre b c post d (q ++ t ∷ []) (sym e ∙ ap (λ z. z ++ t ∷ []) g ∙ append_assoc pre (b ∷ d ∷ q) (t ∷ []))))

  -- other blocks do not lead into the path
  not_behind : (b : ℕ) → (b ≡ x → ⊥) → (In b chain → ⊥) → (s : ℕ) → In s (succ b) → In s (chain ++ t ∷ []) → ⊥
  not_behind b nx nc s h q =
      let k = path_predecessor succ x t chain is_chain.linked s q in
      go (subst (λ z. In z (x ∷ chain)) (sym (k.1.only b h)) k.2)
    where
      go : In b (x ∷ chain) → ⊥
      go (inl z) = nx z
      go (inr z) = nc z

  x_not_t : t ≡ x → ⊥
  x_not_t e = is_chain.x_apart (in_right x chain (t ∷ []) (inl (sym e)))

  writes_below : (b : ℕ) (i : Instr) → In i (P b) → (r : ℕ) → In r i.writes → r < R
  writes_below b i h = (rnd.below b i h).1

  -- a round of document 01 is a round of the scan
  pub scan_round : ScanRound R succ live P P' x t chain X
  unfolding X
  scan_round = record {
    code_x = sym (all_of_mark mark new_reg 0 (P x));
    new_x = rnd.after_x ∙ sym (kept_of_mark mark new_reg 0 (P x));
    new_t = rnd.after_t ∙ ap₂ ◌++◌
        (goes-moved_of along_x ∙ ap (λ z. moved_of z (mark_code mark new_reg 0 (P x))) locations_0)
        (owns_rename_own (P t) [] (locations rnd (length S)) (λ r q. absurd q) (λ r q e. target_name r e) ∙ ap (λ z. rename_own z (P t)) (sym locations_t));
    new_other = rnd.after_other;
    x_alone = is_chain.x_apart;
    t_alone = is_chain.t_apart;
    zero_out = λ q. let k = path_predecessor succ x t chain is_chain.linked zero q in k.1.nonzero refl;
    scan_ok = subst (λ z. ScanAllows R (written_along P chain) z (mark_code mark new_reg 0 (P x))) locations_0
        (scan_legal (written_along P chain) along_x (λ i h. (rnd.below x i h).0)
        (λ r q. let k = written_along_later P S r end_x (length S) chain along_chain q in (k.0, k.1, k.2, kept_behind k.0 k.1, k.3)));
    chain_ok = subst (λ z. ChainInPlace P z chain) (sym locations_x) (chain_legal end_x (length S) chain along_chain kept_behind).0;
    own_ok = subst (λ z. OwnFindable R z (P t)) (sym locations_t) (own_findable R (P t) (locations rnd (length S)) target_read (writes_below t));
    live_reads = λ b. exposed_in_place (P b) (live_in_place (live b)) (λ r q. live_located (live b) r (solves.use_in b r q));
    live_low = solves.low;
    from_x = λ s h. out_x s h chain refl;
    from_chain = λ pre b c post s e h. let k = before_last chain t pre b c post e in out_chain pre b c post s e h k.0 k.1;
    from_t = λ s h. (not_behind t x_not_t is_chain.t_apart s h, λ r e. ap (λ z. after_code z (P t) r) locations_t ∙ t_out s r h e);
    from_other = λ b nx ni s h. (
      not_behind b nx (λ q. ni (in_left b chain (t ∷ []) q)) s h,
      λ r e. ⊎_elim
          (λ q. after-code_in (P b) (live_in_place (live b)) r q.0)
          (λ q. after-code_out (P b) (live_in_place (live b)) r q.0 ∙ live_located (live b) r (solves.pass b s r h e q.0))
          (in? r (written_by (P b))),
    );
  }
