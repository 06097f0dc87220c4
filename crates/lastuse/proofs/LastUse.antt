-- The last reader, and `model`'s last use. Assumes nothing.
use mathlib.Core.Path.{◌≡◌, refl, sym, ap, ap₂, ◌∙◌, subst}
use mathlib.Core.Logic.{inl, inr, ⊎_elim}
use mathlib.Core.Bool.{Bool, true, false, not, ◌&&◌, ◌||◌, cond}
use mathlib.Core.List.{List, [], ◌∷◌, ◌++◌}
use Prim.Native.Nat.{ℕ, zero, suc, ◌+◌, ◌*◌, ◌-◌, ◌/◌, ◌≤◌, ◌<◌, max}
use native.Mathlib.Nat.{zero-add}
use native.Mathlib.Numerals.{add-one}
use native.Mathlib.Omega.{arith}
use borrow.Author.Tests.{eq-eqb}
use lib.Dec.{T, eqb}
use lib.ListN.{get_or, length}
use Rattle.words.specs.Bits.{is_in}
use Rattle.words.specs.Lists.{In, upto, all, any, mem}
use Rattle.words.specs.Last.{last_below}
use Rattle.words.proofs.Bools.{T_true, true_T, T_false, false_T, bool?, bool_ext}
use Rattle.words.proofs.Alls.{all_range, range_all}
use Rattle.words.proofs.Lists.{range_snoc}
use Rattle.words.proofs.Members.{any_in, any_of, mem_in, in_mem, range_in}
use Rattle.model.specs.Analyse.{Fact}
use Rattle.model.specs.Picture.{inst, writes}
use Rattle.model.specs.Legal.{fact_at, reads_from, writes_last}
use Rattle.model.specs.Move.{last_of, last_use, reaches}
use Rattle.legalset.specs.Chain.{View, Stands, writer}
use Rattle.legalset.proofs.Lasting.{writer_wrote, wrote_writer}
use Rattle.legalset.proofs.Pending.{reads_from_of, of_reads_from}
use Rattle.summary.specs.Passes.{result_test}
use Rattle.lastuse.specs.Uses.{reads_value, or_own, last_reader}

module _ (C : View) (n : ℕ) (run : List Fact) (s : Stands C n run) (p : ℕ) where
  reads_is : (q : ℕ) → q < n → reads_from run q p ≡ reads_value C.defs C.reads p q
  unfolding reads_value
  reads_is q h = bool_ext (reads_from run q p) (any (λ r. eqb (writer C.defs r q) (p + 1)) (C.reads q))
      (λ t. let z = of_reads_from C n run s q p h (T_true (reads_from run q p) t) in
      any_in (λ r. eqb (writer C.defs r q) (p + 1)) z.0 (C.reads q) (mem_in z.0 (C.reads q) z.1) (true_T (eqb (writer C.defs z.0 q) (p + 1)) (eq-eqb (writer C.defs z.0 q) (p + 1) (z.2 ∙ sym (add-one p)))))
      (λ t. let z = any_of (λ r. eqb (writer C.defs r q) (p + 1)) (C.reads q) t in
      true_T (reads_from run q p) (reads_from_of C n run s q p h z.0 (in_mem z.0 (C.reads q) z.1) (lib.Dec.eqb→eq (writer C.defs z.0 q) (p + 1) z.2 ∙ add-one p)))

  later : (q : ℕ) → q < n → reads_from run q p ≡ true → p < q
  later q h e = let z = of_reads_from C n run s q p h e in (writer_wrote C.defs z.0 q p z.2).before

  module _ (there : ℕ → Bool) where
    low : (xs : List ℕ) (y : ℕ) → p ≤ y → ((x : ℕ) → In x xs → x ≤ y) → last_of run there p xs ≤ y
    low [] y h k = h
    low (x ∷ xs) y h k = go (reads_from run x p) (low xs y h (λ z i. k z (inr i))) (k x (inl refl))
      where
        go : (b : Bool) → last_of run there p xs ≤ y → x ≤ y → cond b (max x (last_of run there p xs)) (last_of run there p xs) ≤ y
        go true a c = omega arith
        go false a c = a

    -- one more reader, behind all others
    more_yes : (xs : List ℕ) (y : ℕ) → reads_from run y p ≡ true → p ≤ y → ((x : ℕ) → In x xs → x ≤ y) → last_of run there p (xs ++ y ∷ []) ≡ y
    more_yes [] y e h k = ap (λ (b : Bool). cond b (max y p) p) e ∙ omega arith
    more_yes (x ∷ xs) y e h k = go (reads_from run x p) (more_yes xs y e h (λ z i. k z (inr i))) (k x (inl refl))
      where
        go : (b : Bool) → last_of run there p (xs ++ y ∷ []) ≡ y → x ≤ y → cond b (max x (last_of run there p (xs ++ y ∷ []))) (last_of run there p (xs ++ y ∷ [])) ≡ y
        go true a c = omega arith
        go false a c = a

    more_no : (xs : List ℕ) (y : ℕ) → reads_from run y p ≡ false → last_of run there p (xs ++ y ∷ []) ≡ last_of run there p xs
    more_no [] y e = ap (λ (b : Bool). cond b (max y p) p) e
    more_no (x ∷ xs) y e = ap (λ (r : ℕ). cond (reads_from run x p) (max x r) r) (more_no xs y e)

    -- the last reader is `model`'s
    pub last_of_is : (k : ℕ) → k ≤ n → last_of run there p (upto k) ≡ last_reader C.defs C.reads k p
    unfolding last_reader or_own last_below
    last_of_is zero h = refl
    last_of_is (suc k) h =
        ap (last_of run there p) (range_snoc 0 k ∙ ap (λ (y : ℕ). upto k ++ (y ∷ [])) (zero-add k))
        ∙ ⊎_elim
        (λ (e : reads_from run k p ≡ true). let l = later k (omega arith) e in
        more_yes (upto k) k e (omega arith) (λ x i. let z = (range_in x 0 k i).1 in omega arith) ∙ sym (ap (λ (b : Bool). or_own p (cond b (suc k) (last_below (reads_value C.defs C.reads p) k))) (sym (reads_is k (omega arith)) ∙ e)))
        (λ (e : reads_from run k p ≡ false). more_no (upto k) k e ∙ last_of_is k (omega arith) ∙ sym (ap (λ (b : Bool). or_own p (cond b (suc k) (last_below (reads_value C.defs C.reads p) k))) (sym (reads_is k (omega arith)) ∙ e)))
        (bool? (reads_from run k p))

-- ---- past the end

module _ (recs regs bits : List ℕ) (o : ℕ) (ls : List ℕ) (g p n : ℕ) {b : Bool} (k : b ≡ all (result_test regs bits o p) (writes (inst recs g))) where
  pub use_inside : b ≡ true → get_or ls p 0 ≡ cond (all (result_test regs bits o p) (writes (inst recs g))) (get_or ls p 0) n
  use_inside t = ap (λ (y : Bool). cond y (get_or ls p 0) n) (sym t ∙ k)

  pub use_past : b ≡ false → n ≡ cond (all (result_test regs bits o p) (writes (inst recs g))) (get_or ls p 0) n
  use_past t = ap (λ (y : Bool). cond y (get_or ls p 0) n) (sym t ∙ k)

module _ (C : View) (n : ℕ) (run : List Fact) (s : Stands C n run) (p : ℕ) (h : p < n) where
  -- p writes r last in the chain
  last_is : (r : ℕ) → In r (C.defs p) → writes_last run p r ≡ eqb (writer C.defs r n) (p + 1)
  last_is r i = bool_ext (writes_last run p r) (eqb (writer C.defs r n) (p + 1))
      (λ t. let l = s.long in true_T (eqb (writer C.defs r n) (p + 1)) (eq-eqb (writer C.defs r n) (p + 1) (wrote_writer C.defs r n p (record {
        before = h;
        writes = in_mem r (C.defs p) i;
        none = λ k a b.
            ap (mem r) (sym (s.defs k b)) ∙ T_false (mem r (fact_at run k).defs) (subst (λ (y : ℕ). T (not (mem r (fact_at run y).defs))) (omega arith)
            (range_all (λ q. not (mem r (fact_at run q).defs)) (suc p) (length run - suc p) t (k - suc p) (omega arith)));
      }) ∙ sym (add-one p))))
      (λ t. let w = writer_wrote C.defs r n p (lib.Dec.eqb→eq (writer C.defs r n) (p + 1) t ∙ add-one p) in
      all_range (λ q. not (mem r (fact_at run q).defs)) (suc p) (length run - suc p)
      (λ q a b. let l = s.long in let m : q < n = omega arith in false_T (mem r (fact_at run q).defs) (ap (mem r) (s.defs q m) ∙ w.none q a m)))

  -- `model`'s last use, by the last writers in the registers' words and a row of what the target reads
  pub last_use_is : (regs bits : List ℕ) (o : ℕ) (there : ℕ → Bool) → ((r : ℕ) → In r (C.defs p) → (get_or regs r 0 / 16 ≡ writer C.defs r n) × (is_in bits (64 * o + r) ≡ there r))
      → last_use run there p ≡ cond (all (result_test regs bits o p) (C.defs p)) (last_reader C.defs C.reads n p) n
  unfolding result_test
  last_use_is regs bits o there k =
      ap (λ (b : Bool). elim b as (λ z. ℕ) [ true ↦ length run | false ↦ last_of run there p (upto (length run)) ])
      (ap (any (reaches run there p)) (s.defs p h) ∙ split (C.defs p) (λ r i. i))
      ∙ go (all (result_test regs bits o p) (C.defs p))
    where
      one : (a b : Bool) → (a && b) ≡ not (not (a && b))
      one true true = refl
      one true false = refl
      one false b = refl

      two : (a b : Bool) → (not a || not b) ≡ not (a && b)
      two true b = refl
      two false b = refl

      split : (xs : List ℕ) → ((r : ℕ) → In r xs → In r (C.defs p)) → any (reaches run there p) xs ≡ not (all (result_test regs bits o p) xs)
      split [] i = refl
      split (x ∷ xs) i =
          ap₂ (λ (a b : Bool). a || b)
          (ap₂ (λ (a b : Bool). a && b) (sym (k x (i x (inl refl))).1) (last_is x (i x (inl refl)) ∙ ap (λ (y : ℕ). eqb y (p + 1)) (sym (k x (i x (inl refl))).0)) ∙ one (is_in bits (64 * o + x)) (eqb (get_or regs x 0 / 16) (p + 1)))
          (split xs (λ r j. i r (inr j)))
          ∙ two (not (is_in bits (64 * o + x) && eqb (get_or regs x 0 / 16) (p + 1))) (all (result_test regs bits o p) xs)

      go : (b : Bool) → elim (not b) as (λ z. ℕ) [ true ↦ length run | false ↦ last_of run there p (upto (length run)) ] ≡ cond b (last_reader C.defs C.reads n p) n
      go true = ap (λ (m : ℕ). last_of run there p (upto m)) s.long ∙ last_of_is C n run s p there n (omega arith)
      go false = s.long
