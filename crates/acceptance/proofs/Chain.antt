-- `model`'s refusal as a chain of tests: past each that is absent the answer is what the rest says. Assumes nothing.
use mathlib.Core.Path.{◌≡◌, refl, sym, ap, ◌∙◌}
use mathlib.Core.Bool.{Bool, true, false, ◌||◌}
use mathlib.Core.List.{List, [], ◌∷◌}
use Prim.Native.Nat.{ℕ, suc}
use lib.Dec.{ltb}
use lib.ListN.{length}
use Rattle.std.specs.Prelude.{Result, Ok, Err}
use Rattle.words.specs.Lists.{any}
use Rattle.model.specs.declared.Refusal.{Refusal}
use Rattle.model.specs.declared.Refusal.TheVariants as cause
use Rattle.model.specs.Picture.{Picture, nblocks}
use Rattle.model.specs.Refusal.{too_large, uneven, gaps, bad_kind, bad_list, bad_branch, work64, work32, records, lowest, refusal}
use Rattle.model.specs.Numbered.{verdict}
use Rattle.model.specs.Pass.{gated}
use Rattle.checks.specs.declared.look.Found.{Found}
use Rattle.checks.specs.Causes.{picture_of, code, bad_regs, long_cat, bad_lists, bad_targets, bad_types}
use Rattle.checks.specs.Found.{found, others}
use Rattle.checks.proofs.Seen.{found_kind, found_others}

-- one test: the answer is its number, or what the rest says
module _ {r b : Bool} {x : ℕ} (k : ℕ) (bs : List Bool) (whole : lowest k (b ∷ bs) ≡ x) (e : r ≡ b) where
  stop : r ≡ true → k ≡ x
  stop t = ap (λ (c : Bool). lowest k (c ∷ bs)) (sym t ∙ e) ∙ whole

  on : r ≡ false → lowest (suc k) bs ≡ x
  on t = ap (λ (c : Bool). lowest k (c ∷ bs)) (sym t ∙ e) ∙ whole

-- ---- the causes from each number on

module _ (P : Picture) (w64 w32 nf : ℕ) where
  abbrev n : ℕ
  n = length P.locs

  abbrev short : Bool
  short = ltb w64 (work64 P) || ltb w32 (work32 P) || ltb nf records

  unfoldable from10 : List Bool
  from10 = short ∷ []

  unfoldable from9 : List Bool
  from9 = bad_types P.types P.regs ∷ from10

  unfoldable from8 : List Bool
  from8 = any long_cat (code P.recs n) ∷ from9

  unfoldable from7 : List Bool
  from7 = bad_targets (any (bad_branch (nblocks P)) (code P.recs n)) P.targets P.pairs (nblocks P) ∷ from8

  unfoldable from6 : List Bool
  from6 = bad_lists (any (bad_list P.opers) (code P.recs n)) P.ops P.opers P.regs ∷ from7

  unfoldable from5 : List Bool
  from5 = any (bad_regs P.regs) (code P.recs n) ∷ from6

  unfoldable from4 : List Bool
  from4 = any bad_kind (code P.recs n) ∷ from5

  abbrev answer : ℕ
  answer = refusal P w64 w32 nf

  whole_chain : lowest 1 (too_large P ∷ uneven P ∷ gaps 0 n P.bounds ∷ from4) ≡ answer
  unfolding from4 from5 from6 from7 from8 from9 from10 code bad_regs bad_lists bad_targets bad_types
  whole_chain = refl

  -- ---- without causes 1 to 3, where x was found in the records
  module _ {r1 r2 r3 : Bool} {x : Result Found Refusal} (e1 : r1 ≡ too_large P) (h1 : r1 ≡ false) (e2 : r2 ≡ uneven P) (h2 : r2 ≡ false) (e3 : r3 ≡ gaps 0 n P.bounds) (h3 : r3 ≡ false)
      (e : x ≡ found P.regs P.opers (nblocks P) (code P.recs n)) where
    past3 : lowest 4 from4 ≡ answer
    past3 = on 3 from4 (on 2 (gaps 0 n P.bounds ∷ from4) (on 1 (uneven P ∷ gaps 0 n P.bounds ∷ from4) whole_chain e1 h1) e2 h2) e3 h3

    -- 4
    pub by_kind : {r : Refusal} → x ≡ Err r → Err r ≡ verdict answer
    unfolding from4
    by_kind h =
        let z = found_kind P.regs P.opers (nblocks P) (code P.recs n) e h in
        ap (λ (r : Refusal). Err r) z.1 ∙ ap verdict (stop 4 from5 past3 z.0 refl)

    module _ {f : Found} (h : x ≡ Ok f) where
      all_others : f ≡ others P.regs P.opers (nblocks P) (code P.recs n)
      all_others = (found_others P.regs P.opers (nblocks P) (code P.recs n) e h).1

      past4 : lowest 5 from5 ≡ answer
      unfolding from4
      past4 = on 4 from5 past3 (found_others P.regs P.opers (nblocks P) (code P.recs n) e h).0 refl

      -- 5
      e5 : f.regs ≡ any (bad_regs P.regs) (code P.recs n)
      e5 = ap (λ (f : Found). f.regs) all_others

      pub by_slot : f.regs ≡ true → Err cause.Slot ≡ verdict answer
      unfolding from5
      by_slot t = ap verdict (stop 5 from6 past4 e5 t)

      -- 6
      module _ (h5 : f.regs ≡ false) {r6 : Bool} (b6 : r6 ≡ bad_lists f.lists P.ops P.opers P.regs) where
        past5 : lowest 6 from6 ≡ answer
        unfolding from5
        past5 = on 5 from6 past4 e5 h5

        e6 : r6 ≡ bad_lists (any (bad_list P.opers) (code P.recs n)) P.ops P.opers P.regs
        e6 = b6 ∙ ap (λ (f : Found). bad_lists f.lists P.ops P.opers P.regs) all_others

        pub by_list : r6 ≡ true → Err cause.List ≡ verdict answer
        unfolding from6
        by_list t = ap verdict (stop 6 from7 past5 e6 t)

        -- 7
        module _ (h6 : r6 ≡ false) {r7 : Bool} (b7 : r7 ≡ bad_targets f.branches P.targets P.pairs (nblocks P)) where
          past6 : lowest 7 from7 ≡ answer
          unfolding from6
          past6 = on 6 from7 past5 e6 h6

          e7 : r7 ≡ bad_targets (any (bad_branch (nblocks P)) (code P.recs n)) P.targets P.pairs (nblocks P)
          e7 = b7 ∙ ap (λ (f : Found). bad_targets f.branches P.targets P.pairs (nblocks P)) all_others

          pub by_branch : r7 ≡ true → Err cause.Branch ≡ verdict answer
          unfolding from7
          by_branch t = ap verdict (stop 7 from8 past6 e7 t)

          -- 8
          module _ (h7 : r7 ≡ false) where
            past7 : lowest 8 from8 ≡ answer
            unfolding from7
            past7 = on 7 from8 past6 e7 h7

            e8 : f.cats ≡ any long_cat (code P.recs n)
            e8 = ap (λ (f : Found). f.cats) all_others

            pub by_cat : f.cats ≡ true → Err cause.Cat ≡ verdict answer
            unfolding from8
            by_cat t = ap verdict (stop 8 from9 past7 e8 t)

            -- 9
            module _ (h8 : f.cats ≡ false) {r9 : Bool} (e9 : r9 ≡ bad_types P.types P.regs) where
              past8 : lowest 9 from9 ≡ answer
              unfolding from8
              past8 = on 8 from9 past7 e8 h8

              pub by_type : r9 ≡ true → Err cause.Type ≡ verdict answer
              unfolding from9
              by_type t = ap verdict (stop 9 from10 past8 e9 t)

              -- 10, and none
              module _ (h9 : r9 ≡ false) {r10 : Bool} (e10 : r10 ≡ short) where
                past9 : lowest 10 from10 ≡ answer
                unfolding from9
                past9 = on 9 from10 past8 e9 h9

                pub by_work : r10 ≡ true → Err cause.Work ≡ verdict answer
                unfolding from10
                by_work t = ap verdict (stop 10 [] past9 e10 t)

                pub by_none : r10 ≡ false → Ok tt ≡ verdict answer
                unfolding from10
                by_none t = ap verdict (on 10 [] past9 e10 t)

-- ---- what the answers do not look at

-- replay, in a refusal
pub whatever_replay : (P : Picture) (w64 w32 nf : ℕ)
    → refusal (picture_of P.bounds P.recs P.locs P.vias P.types P.regs P.ops P.opers P.pairs P.targets []) w64 w32 nf ≡ refusal P w64 w32 nf
whatever_replay P w64 w32 nf = refl

-- all but bounds, records, locs and registers in use, in the gates
pub whatever_rest : (P : Picture) → gated (picture_of P.bounds P.recs P.locs [] [] P.regs [] 0 [] [] []) ≡ gated P
whatever_rest P = refl
