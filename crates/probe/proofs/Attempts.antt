-- What `virdzeba_try` gives, case by case: refused, no block, no chain, sought. Assumes nothing.
use Rattle.std.proofs.lemmas.Option.{none-some}
use Rattle.std.specs.Prelude.{Option, Some, None, Result, Ok, Err}
use mathlib.Core.Path.{◌≡◌, refl, sym, ap, ◌∙◌, subst}
use mathlib.Core.Bool.{Bool, true, false}
use mathlib.Core.List.{List}
use Prim.Native.Nat.{ℕ, zero, suc, ◌+◌, ◌-◌, ◌≤◌, ◌<◌}
use native.Mathlib.Omega.{arith}
use borrow.Author.Tests.{le-ltb, lt-ltb}
use lib.Dec.{ltb}
use lib.ListN.{length}
use Rattle.model.specs.Picture.{Picture, nblocks, size}
use Rattle.model.specs.Refusal.{refusal}
use Rattle.model.specs.Analyse.{facts}
use Rattle.model.specs.Move.{Plan, try_block}
use Rattle.laws.proofs.Accepted.{work_room, needed_records}
use Rattle.sizes.specs.declared.Room.{Room}
use Rattle.sizes.specs.declared.Sizes.{Sizes}
use Rattle.sizes.specs.Parts.{sizes_of}
use Rattle.inst.specs.Index.{block_of}
use Rattle.inst.specs.declared.index.BlockId.{BlockId}
use Rattle.inst.proofs.Indices.{is_block, not_block}
use Rattle.facts.specs.declared.Fact.{Fact}
use Rattle.apply.specs.Apply.{Stands}
use Rattle.apply.specs.declared.moves.Move.{Move}
use Rattle.chainwords.specs.Work.{Shown, chain_words}
use Rattle.trial.specs.Trial.{Found, IsTried}
use Rattle.probe.specs.declared.attempt.Asked.{Asked}
use Rattle.probe.specs.Heads.{with_four}
use Rattle.probe.specs.Attempt.{move_number, with_move, plan_number, with_plan, attempt, with_attempt, Left, Listed, Stopped, refused, no_block, Taken, IsJudged, Judges}

-- ---- acceptance and the block

module _ (P : Picture) (r : Room) (x : ℕ) (ok : refusal P r.w64 r.w32 r.records ≡ 0) where
  module _ {o : Option BlockId} (e : o ≡ block_of x (nblocks P)) where
    pub no_block_judges : o ≡ None → Judges P r x (Err 300)
    no_block_judges h = record { is = no_block ok (not_block x (nblocks P) (sym e ∙ h)) refl }

    pub block_judges : {b : BlockId} → o ≡ Some b → Judges P r x (Ok (record { block = b; sizes = sizes_of P }))
    block_judges {b} h = let i = is_block x (nblocks P) b (sym e ∙ h) in record { is = record { accepted = ok; is_block = i.1; block_is = sym i.0; sizes_are = refl } }

-- ---- the search

-- P's own lists and sizes
shown_of : (P : Picture) (w64 w32 nf : ℕ) {s : Sizes} → refusal P w64 w32 nf ≡ 0 → s ≡ sizes_of P → Shown P P.bounds P.recs P.ops P.pairs P.targets P.replay s w64 w32
shown_of P w64 w32 nf ok e = subst (λ (s : Sizes). Shown P P.bounds P.recs P.ops P.pairs P.targets P.replay s w64 w32) (sym e)
    record {
      lists = record { accepted = needed_records P w64 w32 nf ok; bounds_are = refl; recs_are = refl; ops_are = refl; blocks_are = refl; insts_are = refl; regs_are = refl; lent_are = refl };
      tabled = record { pairs_are = refl; targets_are = refl };
      replay_are = refl;
    }

-- after the search from block x of an accepted picture
record Sought (P : Picture) (work64 work32 work64' work32' : List ℕ) (x : ℕ) (r : Option Move) : Type 0 where
  pub size64 : length work64' ≡ length work64
  pub size32 : length work32' ≡ length work32
  pub is : IsTried P (facts P) x r (chain_words work32')

module _ (P : Picture) (x : ℕ) where
  -- ---- by cases

  abbrev by_block : Bool → ℕ
  by_block b = elim b as (λ z. ℕ) [ true ↦ plan_number (try_block P (facts P) x) | false ↦ 300 ]

  abbrev by_refusal : ℕ → ℕ
  by_refusal n = elim n as (λ z. ℕ) [ suc n ↦ 200 + suc n | zero ↦ by_block (ltb x (nblocks P)) ]

  abbrev out_by_block : List ℕ → Bool → List ℕ
  out_by_block out b = elim b as (λ z. List ℕ) [ true ↦ with_plan out (size P x - 1) (try_block P (facts P) x) | false ↦ out ]

  abbrev out_by_refusal : List ℕ → ℕ → List ℕ
  out_by_refusal out n = elim n as (λ z. List ℕ) [ suc n ↦ out | zero ↦ out_by_block out (ltb x (nblocks P)) ]

  refused_by : (n : ℕ) → (n ≡ 0 → ⊥) → 200 + n ≡ by_refusal n
  refused_by zero h = absurd (h refl)
  refused_by (suc n) h = refl

  refused_out : (out : List ℕ) (n : ℕ) → (n ≡ 0 → ⊥) → out ≡ out_by_refusal out n
  refused_out out zero h = absurd (h refl)
  refused_out out (suc n) h = refl

  -- ---- a search that leaves the chain's words w

  module _ (w : List ℕ) where
    same_number : (r : Option Move) → IsTried P (facts P) x r w → move_number r ≡ plan_number (try_block P (facts P) x)
    same_number (Some mv) f = sym (ap plan_number f.is)
    same_number None f = sym (ap plan_number f)

    same_words : (out : List ℕ) (mv : Move) → Found P (facts P) x mv w → with_move out (Some mv) ≡ with_plan out (size P x - 1) (try_block P (facts P) x)
    same_words out mv f =
        ap (λ (i : ℕ). with_four out i mv.inside mv.places mv.moved) f.into_is
        ∙ ap (λ (i : ℕ). with_four out f.a.into i mv.places mv.moved) f.in_x
        ∙ ap (λ (i : ℕ). with_four out f.a.into (size P x - 1) i mv.moved) (sym f.stands.long)
        ∙ ap (λ (i : ℕ). with_four out f.a.into (size P x - 1) (length f.a.run) i) f.moved_is
        ∙ sym (ap (with_plan out (size P x - 1)) f.is)

    same_out : (out : List ℕ) (r : Option Move) → IsTried P (facts P) x r w → with_move out r ≡ with_plan out (size P x - 1) (try_block P (facts P) x)
    same_out out (Some mv) f = same_words out mv f
    same_out out None f = sym (ap (with_plan out (size P x - 1)) f)

    stands_so : (r : Option Move) → IsTried P (facts P) x r w → (a : Plan) → try_block P (facts P) x ≡ Some a
        → Stands P a (size P x - 1) (length a.run) w
    stands_so (Some mv) f a e =
        let q : f.a ≡ a = ap (λ (o : Option Plan). elim o as (λ z. Plan) [ Some p ↦ p | None ↦ a ]) (sym f.is ∙ e) in
        subst (λ (p : Plan). Stands P p (size P x - 1) (length p.run) w) q
        (subst (λ (n : ℕ). Stands P f.a (size P x - 1) n w) (sym f.stands.long)
        (subst (λ (m : ℕ). Stands P f.a m mv.places w) f.in_x f.stands))
    stands_so None f a e = absurd (none-some a (sym f ∙ e))

  -- ---- the cases

  module _ (nf : ℕ) (work64 work32 : List ℕ) where
    -- nothing was sought
    left_so : (refusal P (length work64) (length work32) nf ≡ 0 → x < nblocks P → ⊥) → Left P x nf work64 work32 work64 work32
    left_so no_way = record { size64 = refl; size32 = refl; kept = λ h. (refl, refl); stands = λ a z l e. absurd (no_way z l) }

    module _ {n : ℕ} where
      number_so : Stopped P (length work64) (length work32) nf x n → n ≡ attempt P (length work64) (length work32) nf x
      number_so (refused h e) = e ∙ refused_by (refusal P (length work64) (length work32) nf) h
      number_so (no_block ok h e) = e ∙ sym (ap by_refusal ok ∙ ap by_block (le-ltb x (nblocks P) h))

      out_so : Stopped P (length work64) (length work32) nf x n → (out : List ℕ) → out ≡ with_attempt out P (length work64) (length work32) nf x
      out_so (refused h e) out = refused_out out (refusal P (length work64) (length work32) nf) h
      out_so (no_block ok h e) out = sym (ap (out_by_refusal out) ok ∙ ap (out_by_block out) (le-ltb x (nblocks P) h))

      never : Stopped P (length work64) (length work32) nf x n → refusal P (length work64) (length work32) nf ≡ 0 → x < nblocks P → ⊥
      never (refused h e) z l = h z
      never (no_block ok h e) z l = omega arith

    -- block x was tried
    module _ (ok : refusal P (length work64) (length work32) nf ≡ 0) (h : x < nblocks P) {work64' work32' : List ℕ} {r : Option Move} (s : Sought P work64 work32 work64' work32' x r) where
      left_as : Left P x nf work64 work32 work64' work32'
      left_as = record { size64 = s.size64; size32 = s.size32; kept = λ k. absurd (k ok h); stands = λ a q l e. stands_so (chain_words work32') r s.is a e }

      number_as : move_number r ≡ attempt P (length work64) (length work32) nf x
      number_as = same_number (chain_words work32') r s.is ∙ sym (ap by_refusal ok ∙ ap by_block (lt-ltb x (nblocks P) h))

      out_as : (out : List ℕ) → with_move out r ≡ with_attempt out P (length work64) (length work32) nf x
      out_as out = same_out (chain_words work32') out r s.is ∙ sym (ap (out_by_refusal out) ok ∙ ap (out_by_block out) (lt-ltb x (nblocks P) h))

  -- ---- all of it, with the list of records

  module _ (work64 work32 : List ℕ) (facts₀ : List Fact) where
    abbrev Ends : ℕ → List ℕ → List ℕ → List ℕ → List ℕ → List Fact → Type 0
    Ends n out out' work64' work32' facts' =
        (n ≡ attempt P (length work64) (length work32) (length facts₀) x) × (out' ≡ with_attempt out P (length work64) (length work32) (length facts₀) x)
        × Left P x (length facts₀) work64 work32 work64' work32' × Listed P x (length work64) (length work32) facts₀ facts'

    abbrev room : Room
    room = record { w64 = length work64; w32 = length work32; records = length facts₀ }

    pub stopped : {j : Result Asked ℕ} {n : ℕ} → Judges P room x j → j ≡ Err n → (out : List ℕ) → Ends n out out work64 work32 facts₀
    stopped d e out =
        let s = subst (IsJudged P room x) e d.is in
        (number_so (length facts₀) work64 work32 s, out_so (length facts₀) work64 work32 s out, left_so (length facts₀) work64 work32 (never (length facts₀) work64 work32 s), record { size = refl; kept = λ h. refl })

    module _ {j : Result Asked ℕ} {k : Asked} (d : Judges P room x j) (e : j ≡ Ok k) where
      taken : Taken P (length work64) (length work32) (length facts₀) x k.sizes k.block
      taken = subst (IsJudged P room x) e d.is

      pub shown : Shown P P.bounds P.recs P.ops P.pairs P.targets P.replay k.sizes (length work64) (length work32)
      shown = let t = taken in shown_of P (length work64) (length work32) (length facts₀) t.accepted t.sizes_are

      pub block_in : k.block.0 < nblocks P
      block_in = let t = taken in subst (λ (i : ℕ). i < nblocks P) (sym t.block_is) t.is_block

      pub many : 800 ≤ length facts₀
      many = (work_room P (length work64) (length work32) (length facts₀) taken.accepted).2

      pub settled : {work64' work32' out' : List ℕ} {facts' : List Fact} {n : ℕ} (out : List ℕ) (r : Option Move)
          → length work64' ≡ length work64 → length work32' ≡ length work32 → IsTried P (facts P) k.block.0 r (chain_words work32')
          → length facts' ≡ length facts₀ → (n ≡ move_number r) × (out' ≡ with_move out r) → Ends n out out' work64' work32' facts'
      settled {work64'} {work32'} out r e64 e32 f z₀ m =
          let t = taken in
          let z : Sought P work64 work32 work64' work32' x r =
          record { size64 = e64; size32 = e32; is = subst (λ (i : ℕ). IsTried P (facts P) i r (chain_words work32')) t.block_is f } in
          let ok = t.accepted in
          let h = t.is_block in
          (m.0 ∙ number_as (length facts₀) work64 work32 ok h z, m.1 ∙ out_as (length facts₀) work64 work32 ok h z out, left_as (length facts₀) work64 work32 ok h z, record { size = z₀; kept = λ k. absurd (k ok h) })
