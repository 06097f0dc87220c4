-- The picture after a move as a program of the walk: its blocks with the old place of each instruction; and what stays the same of
-- each instruction. Assumes nothing.
use mathlib.Core.Path.{◌≡◌, refl, sym, ap, ap₂, ◌∙◌, subst}
use mathlib.Core.Logic.{⊎_elim}
use mathlib.Core.Bool.{true, false}
use mathlib.Core.List.{List, [], ◌∷◌, ◌++◌, map}
use Prim.Native.Nat.{ℕ, ◌≤◌, ◌<◌}
use lib.ListN.{get_or}
use Rattle.words.specs.Lists.{In, concat, mem}
use Rattle.words.proofs.Bools.{eq?, lt?}
use Rattle.words.proofs.Lists.{map_append, map_map}
use Rattle.words.proofs.Members.{map_on, on_map}
use Rattle.words.proofs.Each.{Each}
use Rattle.model.specs.Kinds.{reading}
use Rattle.model.specs.Picture.{Picture, Inst, inst, roles, slots, chosen, writes, nblocks, places, code, end_of}
use Rattle.model.specs.Analyse.{Facts}
use Rattle.model.specs.Move.{Plan, Job, members, member_job, own_jobs, made_all, order_of, order, new_code, apply}
use Rattle.laws.proofs.Accepted.{Admitted}
use Rattle.laws.proofs.Blocks.{places_past}
use Rattle.laws.proofs.Made.{Sound, MadeFor, Pairs}
use Rattle.laws.proofs.Moving.{Moving, x_block, into_block, apart}
use Rattle.laws.proofs.Ordered.{in_x, stayers, order_x, order_into, order_else, order_place}
use Rattle.laws.proofs.Applied as A
use Rattle.laws.proofs.Endings.{same_ends}
use Rattle.walk.specs.Machine.{Instr}
use Rattle.kept.specs.Walk.{bare}
use Rattle.kept.proofs.Program.{Spot, ins, placed, prog, slots_at}
use Rattle.kept.proofs.Remade.{ins_of, made_ins, made_bare}

-- ---- two lists at once

abbrev pub zipW : {A : Type 0} → (ℕ → A → Instr) → List ℕ → List A → List Instr
zipW f [] ys = []
zipW f (x ∷ xs) [] = []
zipW f (x ∷ xs) (y ∷ ys) = f x y ∷ zipW f xs ys

map_zip : {A : Type 0} (f : ℕ → A → Instr) (g : ℕ → ℕ) (h : ℕ → A) (ps : List ℕ) → map (λ p. f (g p) (h p)) ps ≡ zipW f (map g ps) (map h ps)
map_zip f g h [] = refl
map_zip f g h (p ∷ ps) = ap (λ (l : List Instr). f (g p) (h p) ∷ l) (map_zip f g h ps)

zip_map : {A : Type 0} (f : ℕ → A → Instr) (h : ℕ → A) (ps : List ℕ) → zipW f ps (map h ps) ≡ map (λ p. f p (h p)) ps
zip_map f h [] = refl
zip_map f h (p ∷ ps) = ap (λ (l : List Instr). f p (h p) ∷ l) (zip_map f h ps)

zip_split : {A : Type 0} (f : ℕ → A → Instr) (g : ℕ → ℕ) (h : ℕ → A) (ps os : List ℕ) (js : List A) → zipW f (map g ps ++ os) (map h ps ++ js) ≡ map (λ p. f (g p) (h p)) ps ++ zipW f os js
zip_split f g h [] os js = refl
zip_split f g h (p ∷ ps) os js = ap (λ (l : List Instr). f (g p) (h p) ∷ l) (zip_split f g h ps os js)

module _ (P : Picture) (G : Facts) (a : Plan) (mv : Moving P G a) where
  abbrev Q : Picture
  Q = apply P a

  abbrev js : List Job
  js = A.js P G a mv

  abbrev shift : ℕ → ℕ
  shift = in_x P G a mv

  -- an instruction that is not renamed
  kept_ins : (s : Spot) (i : Inst) → Admitted P i → ins Q s i ≡ ins P s i
  kept_ins s i f = λ z. record {
    old_block = s.block;
    old_index = s.index;
    what = bare i;
    goes_to = same_ends P G a mv (end_of i) z;
    slots = slots_at 0 (roles i) (slots i);
    reads = chosen reading (roles i) (slots i) ++ A.kept_list P G a mv i f z;
    writes = writes i;
  }

  at_order : (b p : ℕ) → In p (order_of P a b) → Admitted P (inst P.recs p)
  at_order b p i = mv.ok.each p (order_place P G a mv b p i)

  -- ---- the blocks

  module _ (was : ℕ → Spot) where
    abbrev pub was_now : ℕ → Spot
    was_now p = was (get_or (concat (order P a)) p 0)

    laid : (b : ℕ) → b < nblocks P → prog was_now Q b ≡ zipW (λ o m. ins Q (was o) m) (order_of P a b) (new_code P a js b)
    laid b h =
        map_zip (λ o m. ins Q (was o) m) (λ p. get_or (concat (order P a)) p 0) (inst Q.recs) (places Q b)
        ∙ ap₂ (zipW (λ o m. ins Q (was o) m)) (A.places_after P G a mv b h) (A.code_after P G a mv b h)

    -- a block that only keeps
    laid_kept : (b : ℕ) → b < nblocks P → (b ≡ a.into → ⊥) → prog was_now Q b ≡ map (placed was P) (order_of P a b)
    laid_kept b h n =
        laid b h ∙ ap (zipW (λ o m. ins Q (was o) m) (order_of P a b)) (A.code_else P G a mv b n) ∙ zip_map (λ o m. ins Q (was o) m) (inst P.recs) (order_of P a b)
        ∙ map_on (λ p. ins Q (was p) (inst P.recs p)) (placed was P) (order_of P a b) (λ p i. kept_ins (was p) (inst P.recs p) (at_order b p i))

    pub after_else : (b : ℕ) → (b ≡ a.x → ⊥) → (b ≡ a.into → ⊥) → prog was_now Q b ≡ prog was P b
    after_else b n k = ⊎_elim
        (λ (h : b < nblocks P). laid_kept b h k ∙ ap (map (placed was P)) (order_else P G a mv b n k))
        (λ (h : nblocks P ≤ b). ap (map (placed was_now Q)) (places_past Q b (subst (λ (m : ℕ). m ≤ b) (sym (A.same_blocks P G a mv)) h)) ∙ sym (ap (map (placed was P)) (places_past P b h)))
        (lt? b (nblocks P))

    pub after_at_x : prog was_now Q a.x ≡ map (λ p. placed was P (shift p)) (stayers P G a mv)
    after_at_x =
        laid_kept a.x (x_block P G a mv) (apart P G a mv) ∙ ap (map (placed was P)) (order_x P G a mv) ∙ map_map (placed was P) shift (stayers P G a mv)

    zip_made : (os : List ℕ) (ms : List Inst) (ks : List Job) → Each (Sound P Q.regs) ks → Pairs (MadeFor P.ops Q.ops Q.opers) ms ks → zipW (λ o m. ins Q (was o) m) os ms ≡ zipW (λ o j. ins_of P (was o) j) os ks
    zip_made [] ms ks s p = refl
    zip_made (o ∷ os) [] [] s p = refl
    zip_made (o ∷ os) [] (k ∷ ks) s p = absurd p
    zip_made (o ∷ os) (m ∷ ms) [] s p = absurd p
    zip_made (o ∷ os) (m ∷ ms) (k ∷ ks) s p =
        ap₂ (λ (i : Instr) (l : List Instr). i ∷ l) (made_ins P Q (same_ends P G a mv) Q.regs Q.opers m k (was o) s.0 p.0) (zip_made os ms ks s.1 p.1)

    pub after_at_t : prog was_now Q a.into
        ≡ map (λ p. ins_of P (was (shift p)) (member_job P a (A.given P G a mv) p)) (members P a) ++ zipW (λ o j. ins_of P (was o) j) (places P a.into) (own_jobs (A.behind P G a mv) (code P a.into))
    after_at_t =
        laid a.into (into_block P G a mv) ∙ ap₂ (zipW (λ o m. ins Q (was o) m)) (order_into P G a mv) (A.code_into P G a mv)
        ∙ zip_made (map shift (members P a) ++ places P a.into) (made_all P.ops P.opers js) js (A.sound P G a mv) (A.made_here P G a mv)
        ∙ zip_split (λ o j. ins_of P (was o) j) shift (member_job P a (A.given P G a mv)) (members P a) (places P a.into) (own_jobs (A.behind P G a mv) (code P a.into))

  -- ---- kind, form, payload, absent slots and list length stay

  abbrev bare_at : ℕ → List ℕ
  bare_at p = bare (inst P.recs p)

  made_bares : (ms : List Inst) (ks : List Job) → Each (Sound P Q.regs) ks → Pairs (MadeFor P.ops Q.ops Q.opers) ms ks → map bare ms ≡ map (λ k. bare k.old) ks
  made_bares [] [] s p = refl
  made_bares [] (k ∷ ks) s p = absurd p
  made_bares (m ∷ ms) [] s p = absurd p
  made_bares (m ∷ ms) (k ∷ ks) s p =
      ap₂ (λ (x : List ℕ) (l : List (List ℕ)). x ∷ l) (ap bare p.0.is ∙ made_bare k p.0.start s.0.whole s.0.rd_present s.0.wr_present) (made_bares ms ks s.1 p.1)

  own_bares : (rd : ℕ → ℕ) (ps : List ℕ) → map (λ k. bare k.old) (own_jobs rd (map (inst P.recs) ps)) ≡ map bare_at ps
  own_bares rd [] = refl
  own_bares rd (p ∷ ps) = ap (λ (l : List (List ℕ)). bare_at p ∷ l) (own_bares (λ r. elim (mem r (writes (inst P.recs p))) [ true ↦ r | false ↦ rd r ]) ps)

  into_bares : map bare (new_code P a js a.into) ≡ map bare_at (order_of P a a.into)
  into_bares =
      ap (map bare) (A.code_into P G a mv)
      ∙ made_bares (made_all P.ops P.opers js) js (A.sound P G a mv) (A.made_here P G a mv)
      ∙ map_append (λ k. bare k.old) (map (member_job P a (A.given P G a mv)) (members P a)) (own_jobs (A.behind P G a mv) (code P a.into))
      ∙ ap₂ ◌++◌ (map_map (λ k. bare k.old) (member_job P a (A.given P G a mv)) (members P a) ∙ sym (map_map bare_at shift (members P a))) (own_bares (A.behind P G a mv) (places P a.into))
      ∙ sym (map_append bare_at (map shift (members P a)) (places P a.into)) ∙ sym (ap (map bare_at) (order_into P G a mv))

  pub block_bares : (b : ℕ) → b < nblocks P → map bare (code Q b) ≡ map bare_at (order_of P a b)
  block_bares b h = ap (map bare) (A.code_after P G a mv b h) ∙ ⊎_elim
      (λ (e : b ≡ a.into). subst (λ (y : ℕ). map bare (new_code P a js y) ≡ map bare_at (order_of P a y)) (sym e) into_bares)
      (λ (n : b ≡ a.into → ⊥). ap (map bare) (A.code_else P G a mv b n) ∙ map_map bare (inst P.recs) (order_of P a b))
      (eq? b a.into)

  -- by positions of a block
  pub bares_in : (b p : ℕ) → b < nblocks P → In p (places Q b) → bare (inst Q.recs p) ≡ bare_at (get_or (concat (order P a)) p 0)
  bares_in b p h i =
      on_map (λ p. bare (inst Q.recs p)) (λ p. bare_at (get_or (concat (order P a)) p 0)) (places Q b)
      (sym (map_map bare (inst Q.recs) (places Q b)) ∙ block_bares b h ∙ ap (map bare_at) (sym (A.places_after P G a mv b h)) ∙ map_map bare_at (λ p. get_or (concat (order P a)) p 0) (places Q b))
      p i
