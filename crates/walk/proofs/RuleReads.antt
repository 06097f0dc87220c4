-- From the rules to the scan, 4: what the rules say of each read, where its value is found, and that its new name is the register where it is.
-- By cases on who wrote the register (Definers). `ReadFacts` is all that FromRules uses. Assumes nothing.
use mathlib.Core.Path.{◌≡◌, refl, sym, ◌∙◌, ap, subst}
use mathlib.Core.Bool.{Bool, true, false, cond, false≢true}
use mathlib.Core.List.{List, []}
use Prim.Native.Nat.{ℕ, suc, ◌+◌, ◌≤◌, ◌<◌}
use native.Mathlib.Omega.{arith}
use lib.ListN.{length, get_or}
use Rattle.words.specs.Lists.{In}
use Rattle.walk.specs.Machine.{Instr, Prog, no_instr}
use Rattle.walk.specs.Rules.{last_block, without_last, straight_code, entry, by, defined_by, Exposed, new_name, Round}
use Rattle.walk.proofs.Facts.{rest_all}
use Rattle.walk.proofs.Scan.{Location, same, lost, Locations, register_at, renamed, Findable}
use Rattle.walk.proofs.ScanLaws.{live_located}
use Rattle.walk.proofs.Definers.{entry≢by, by_inj, entry_unwritten, locations_at, Located, at_entry, by_kept, by_moved, reused, located}
use Rattle.walk.proofs.Align.{AlignFirst, AlignChain, align_of, KeptFrom, written_by-later, written_along_later, align_straight}
use Rattle.walk.proofs.Chains.{steps_last, live_if_read, live_if_past}

module _ {R : ℕ} {succ : ℕ → List ℕ} {P P' : Prog} where
  -- the straight code of the round's chain
  abbrev pub straight : Round R succ P P' → List Instr
  straight rnd = straight_code P rnd.x rnd.chain

  -- the scan's locations before each position of it
  abbrev pub locations : Round R succ P P' → ℕ → Locations
  locations rnd q = locations_at (straight rnd) rnd.mark rnd.new_reg (rnd.live rnd.x) q

pub record ReadFacts (R : ℕ) (succ : ℕ → List ℕ) (P P' : Prog) (rnd : Round R succ P P') : Type 0 where
  -- the straight code runs along x and the chain; x's part ends at `end_x`, and no member stands behind it
  pub end_x : ℕ
  pub along_x : AlignFirst (straight rnd) rnd.mark 0 (P rnd.x) end_x
  pub along_chain : AlignChain P (straight rnd) end_x rnd.chain (length (straight rnd))
  pub kept_behind : (p : ℕ) → end_x ≤ p → rnd.mark p ≡ false
  -- a kept read finds its value where it was
  pub kept_read : (q r : ℕ) → q < length (straight rnd) → rnd.mark q ≡ false → In r (get_or (straight rnd) q no_instr).reads → locations rnd q r ≡ same
  -- a moved read finds it at the target, behind the kept writes ws; and its name
  pub moved_read : (q r : ℕ) → q < length (straight rnd) → r < R → rnd.mark q ≡ true → In r (get_or (straight rnd) q no_instr).reads
      → (ws : List ℕ) → (In r ws → KeptFrom (straight rnd) rnd.mark (suc q) r) → Findable R ws (locations rnd q r) r
  pub moved_name : (q r : ℕ) → rnd.mark q ≡ true → In r (get_or (straight rnd) q no_instr).reads
      → new_name rnd.mark rnd.new_reg (defined_by (straight rnd) q r) r ≡ renamed (locations rnd q) r
  -- a read of the target's own code; and its name
  pub target_read : (r : ℕ) → Exposed r (P rnd.t) → Findable R [] (locations rnd (length (straight rnd)) r) r
  pub target_name : (r : ℕ) → Exposed r (P rnd.t) → new_name rnd.mark rnd.new_reg (defined_by (straight rnd) (length (straight rnd)) r) r ≡ renamed (locations rnd (length (straight rnd))) r
  -- what is live behind the chain, and not a member's, is where it was
  pub live_behind : (s r : ℕ) → In s (succ (last_block rnd.x rnd.chain)) → rnd.live s r ≡ true
      → ((p : ℕ) → defined_by (straight rnd) (length (straight rnd)) r ≡ by p → rnd.mark p ≡ true → ⊥) → locations rnd (length (straight rnd)) r ≡ same

module _ (R : ℕ) (succ : ℕ → List ℕ) (P P' : Prog) (rnd : Round R succ P P') where
  open rnd use {x, t, chain, live, mark, new_reg, solves, is_chain, legal}

  abbrev S : List Instr
  S = straight rnd

  -- ---- the straight code along x and the chain

  unmarked : (p : ℕ) → length (without_last (P x)) ≤ p → mark p ≡ false
  unmarked p h = go (mark p) refl
    where
      go : (b : Bool) → mark p ≡ b → mark p ≡ false
      go true m = absurd (let z = legal.inside p m in omega arith)
      go false m = m

  aligned : (m : ℕ) × AlignFirst S mark 0 (P x) m × AlignChain P S m chain (length S) × (0 + length (without_last (P x)) ≤ m)
  aligned = align_straight P S mark x chain 0 (rest_all S) rnd.quiet (λ p h. unmarked p (omega arith))

  -- what comes from x's entry is live there, if it is read
  read_live : (q r : ℕ) → q < length S → In r (get_or S q no_instr).reads → defined_by S q r ≡ entry → live x r ≡ true
  read_live q r h g e =
      live_if_read R succ P live solves t S r q h g (entry_unwritten S q r e) x chain is_chain.steps 0 aligned.0 (omega arith) (align_of aligned.1) aligned.2

  -- or if it is live behind the chain
  exit_live : (s r : ℕ) → In s (succ (last_block x chain)) → live s r ≡ true → defined_by S (length S) r ≡ entry → live x r ≡ true
  exit_live s r h e d = live_if_past R succ P live solves t x chain is_chain.steps s r h e
      (λ q. let k = written_by-later S r (align_of aligned.1) q in entry_unwritten S (length S) r d k.0 k.2 k.3)
      (λ q. let k = written_along_later P S r aligned.0 (length S) chain aligned.2 q in entry_unwritten S (length S) r d k.0 k.2 k.3)

  -- ---- a read before position q, by who wrote the register

  abbrev By : ℕ → ℕ → Location → Type 0
  By q r v = Located S mark new_reg (live x) q r v

  by_cases : (q r : ℕ) → By q r (locations rnd q r)
  by_cases q r = located S mark new_reg (live x) rnd.fresh.single q r

  -- no member wrote it
  abbrev NoMember : ℕ → ℕ → Type 0
  NoMember q r = (p : ℕ) → defined_by S q r ≡ by p → mark p ≡ true → ⊥

  -- a member did, and its register is reused before q
  abbrev NotReused : ℕ → ℕ → Type 0
  NotReused q r = (p d s : ℕ) → defined_by S q r ≡ by p → mark p ≡ true → p < d → d < q → mark d ≡ true → new_reg d ≡ new_reg p → In s (get_or S d no_instr).writes → ⊥

  in_place : (q r : ℕ) → (defined_by S q r ≡ entry → live x r ≡ true) → NoMember q r → locations rnd q r ≡ same
  in_place q r en no_member = go (locations rnd q r) (by_cases q r)
    where
      go : (v : Location) → By q r v → v ≡ same
      go v (at_entry d z) = z ∙ live_located (live x) r (en d)
      go v (by_kept p d b k z) = z
      go v (by_moved p d b k z) = absurd (no_member p d k)
      go v (reused p e s d b k c c' k' f w) = absurd (no_member p d k)

  findable : (q r : ℕ) → r < R → (defined_by S q r ≡ entry → live x r ≡ true) → NotReused q r → (ws : List ℕ) → (NoMember q r → In r ws → ⊥) → Findable R ws (locations rnd q r) r
  findable q r lo en not_reused ws safe = go (locations rnd q r) (by_cases q r)
    where
      go : (v : Location) → By q r v → Findable R ws v r
      go v (at_entry d z) = subst (λ y. Findable R ws y r) (sym (z ∙ live_located (live x) r (en d))) (lo, safe (λ e f k. entry≢by e (sym d ∙ f)))
      go v (by_kept p d b k z) = subst (λ y. Findable R ws y r) (sym z) (lo, safe (λ e f j. false≢true (sym k ∙ ap mark (by_inj p e (sym d ∙ f)) ∙ j)))
      go v (by_moved p d b k z) = subst (λ y. Findable R ws y r) (sym z) tt
      go v (reused p e s d b k c c' k' f w) = absurd (not_reused p e s d k c c' k' f w)

  named : (q r : ℕ) → NotReused q r → new_name mark new_reg (defined_by S q r) r ≡ renamed (locations rnd q) r
  named q r not_reused = go (locations rnd q r) (by_cases q r)
    where
      plain : (b : Bool) → r ≡ register_at (cond b same lost) r
      plain true = refl
      plain false = refl

      go : (v : Location) → By q r v → new_name mark new_reg (defined_by S q r) r ≡ register_at v r
      go v (at_entry d z) = ap (λ y. new_name mark new_reg y r) d ∙ plain (live x r) ∙ ap (λ y. register_at y r) (sym z)
      go v (by_kept p d b k z) = ap (λ y. new_name mark new_reg y r) d ∙ ap (λ y. cond y (new_reg p) r) k ∙ ap (λ y. register_at y r) (sym z)
      go v (by_moved p d b k z) = ap (λ y. new_name mark new_reg y r) d ∙ ap (λ y. cond y (new_reg p) r) k ∙ ap (λ y. register_at y r) (sym z)
      go v (reused p e s d b k c c' k' f w) = absurd (not_reused p e s d k c c' k' f w)

  -- the law on new registers, for members and for the target
  member_fresh : (q r : ℕ) → mark q ≡ true → In r (get_or S q no_instr).reads → NotReused q r
  member_fresh q r m g p d s e k c c' k' f w = rnd.fresh.past p d q r s k k' c f w c' m g e

  target_fresh : (r : ℕ) → Exposed r (P t) → NotReused (length S) r
  target_fresh r ex p d s e k c c' k' f w = rnd.fresh.unread p d r s k k' c f w ex e

  pub read_facts : ReadFacts R succ P P' rnd
  read_facts = record {
    end_x = aligned.0;
    along_x = aligned.1;
    along_chain = aligned.2;
    kept_behind = λ p h. unmarked p (let z = aligned.3 in omega arith);
    kept_read = λ q r h m g. in_place q r (read_live q r h g) (λ p d k. false≢true (sym m ∙ legal.readers q r p h g d k));
    moved_read = λ q r h lo m g ws later.
        findable q r lo (read_live q r h g) (member_fresh q r m g) ws (λ n i. let k = later i in legal.stable q r k.0 m g n k.1 k.2 k.3 k.4);
    moved_name = λ q r m g. named q r (member_fresh q r m g);
    target_read = λ r ex. let l = solves.use_in t r ex in
        findable (length S) r (solves.low t r l) (exit_live t r (steps_last succ t x chain is_chain.steps) l) (target_fresh r ex) [] (λ n q. q);
    target_name = λ r ex. named (length S) r (target_fresh r ex);
    live_behind = λ s r h e n. in_place (length S) r (exit_live s r h e) n;
  }
