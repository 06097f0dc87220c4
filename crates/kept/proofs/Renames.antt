-- `apply`'s renaming is that of the walk's move. Assumes nothing.
use mathlib.Core.Path.{◌≡◌, refl, sym, ap, ap₂, ◌∙◌, subst}
use mathlib.Core.Bool.{Bool, true, false, not, ◌||◌, cond}
use mathlib.Core.List.{List, [], ◌∷◌, ◌++◌, map}
use Prim.Native.Nat.{ℕ, zero, suc, ◌+◌, ◌≤◌, ◌<◌}
use native.Mathlib.Nat.{add-suc, le_refl}
use native.Mathlib.Omega.{arith}
use lib.Dec.{eqb}
use lib.ListN.{get_or, length, take}
use lib.Seq.{take-length}
use Rattle.words.specs.Lists.{range, filter, mem, member, lookup, In}
use Rattle.words.proofs.Lists.{map_self}
use Rattle.words.proofs.Members.{map_on}
use Rattle.words.proofs.Alls.{any_append}
use Rattle.model.specs.Picture.{Picture, inst, starts, size}
use Rattle.model.specs.Analyse.{Fact, last_writer}
use Rattle.model.specs.Move.{Plan, new_name, member_job, own_jobs}
use Rattle.walk.specs.Machine.{Instr, no_instr}
use Rattle.walk.specs.Rules.{Definer, entry, by, defined_by, new_name as walk_name, stays, goes, owns}
use Rattle.kept.proofs.Program.{Spot, placed}
use Rattle.kept.proofs.Straight.{opt, Tied, def_writer, def_last}
use Rattle.kept.proofs.Remade.{ins_of}
use Rattle.kept.proofs.After.{zipW}

module _ (P : Picture) (a : Plan) (S : List Instr) (tied : Tied a.run S) (given : List (ℕ × ℕ)) (fr : ℕ → ℕ)
    (m : ℕ) (short : m ≤ length S) (m_size : m ≤ size P a.x) (inside : (p : ℕ) → member a.set p ≡ true → p < m)
    (gift : (p r d : ℕ) → member a.set p ≡ true → In r (get_or S p no_instr).writes → lookup given p d ≡ fr p) where
  abbrev mark : ℕ → Bool
  mark = member a.set

  -- a register whose value comes from the writer that the walk finds gets the name that the walk gives it
  named : (q r : ℕ) (d : Definer) → q ≤ length S → defined_by S q r ≡ d → new_name P a given r (opt d) ≡ walk_name mark fr d r
  named q r entry h e = refl
  named q r (by d) h e = go (mark d) refl
    where
      go : (b : Bool) → mark d ≡ b → ◌≡◌ {A = ℕ} (elim b as (λ z. ℕ) [ true ↦ lookup given d r | false ↦ r ]) (cond b (fr d) r)
      go true k = gift d r r k (def_last a.run S tied q r d e).1
      go false k = refl

  -- before position q, and behind the chain
  pub name_at : (q r : ℕ) → q ≤ length S → new_name P a given r (last_writer 0 (take q a.run) r) ≡ walk_name mark fr (defined_by S q r) r
  name_at q r h = ap (new_name P a given r) (sym (def_writer a.run S tied r q h)) ∙ named q r (defined_by S q r) h refl

  pub name_behind : (r : ℕ) → new_name P a given r (last_writer 0 a.run r) ≡ walk_name mark fr (defined_by S (length S) r) r
  name_behind r =
      ap (λ (l : List Fact). new_name P a given r (last_writer 0 l r)) (sym (ap (λ (n : ℕ). take n a.run) (sym tied.len) ∙ take-length a.run)) ∙ name_at (length S) r (le_refl (length S))

  -- ---- the code

  module _ (was : ℕ → Spot) (at_x : (p : ℕ) → p < m → get_or S p no_instr ≡ placed was P (starts P a.x + p)) where
    abbrev Mem : ℕ → Instr
    Mem p = ins_of P (was (starts P a.x + p)) (member_job P a given p)

    abbrev Gone : ℕ → Instr → Instr
    Gone q i = record { old_block = i.old_block; old_index = i.old_index; what = i.what; goes_to = i.goes_to; slots = i.slots; reads = map (λ (r : ℕ). walk_name mark fr (defined_by S q r) r) i.reads; writes = map (λ (r : ℕ). fr q) i.writes }

    gone : (q : ℕ) → mark q ≡ true → Mem q ≡ Gone q (placed was P (starts P a.x + q))
    gone q k = λ z. record { old_block = i.old_block; old_index = i.old_index; what = i.what; goes_to = i.goes_to; slots = i.slots; reads = rds z; writes = wrs z }
      where
        i : Instr
        i = placed was P (starts P a.x + q)

        rds : map (λ r. new_name P a given r (last_writer 0 (take q a.run) r)) i.reads ≡ map (λ (r : ℕ). walk_name mark fr (defined_by S q r) r) i.reads
        rds = map_on (λ r. new_name P a given r (last_writer 0 (take q a.run) r)) (λ r. walk_name mark fr (defined_by S q r) r) i.reads (λ r j. name_at q r (let l = inside q k in omega arith))

        wrs : map (λ r. lookup given q r) i.writes ≡ map (λ (r : ℕ). fr q) i.writes
        wrs = map_on (λ r. lookup given q r) (λ r. fr q) i.writes (λ r j. gift q r r k (subst (λ (y : Instr). In r y.writes) (sym (at_x q (inside q k))) j))

    pub goes_made : (q n : ℕ) → goes S mark fr q (map (placed was P) (range (starts P a.x + q) n)) ≡ map Mem (filter mark (range q n))
    goes_made q zero = refl
    goes_made q (suc n) = go (ap (λ (k : ℕ). goes S mark fr (suc q) (map (placed was P) (range k n))) (sym (add-suc (starts P a.x) q)) ∙ goes_made (suc q) n) (mark q) refl
      where
        go : goes S mark fr (suc q) (map (placed was P) (range (suc (starts P a.x + q)) n)) ≡ map Mem (filter mark (range (suc q) n)) → (b : Bool) → mark q ≡ b
            → cond b (Gone q (placed was P (starts P a.x + q)) ∷ goes S mark fr (suc q) (map (placed was P) (range (suc (starts P a.x + q)) n))) (goes S mark fr (suc q) (map (placed was P) (range (suc (starts P a.x + q)) n)))
            ≡ map Mem (cond b (q ∷ filter mark (range (suc q) n)) (filter mark (range (suc q) n)))
        go k true e = ap₂ (λ (i : Instr) (l : List Instr). i ∷ l) (sym (gone q e)) k
        go k false e = k

    pub stays_made : (q n : ℕ) → stays mark q (map (placed was P) (range (starts P a.x + q) n)) ≡ map (λ p. placed was P (starts P a.x + p)) (filter (λ p. not (mark p)) (range q n))
    stays_made q zero = refl
    stays_made q (suc n) = go (ap (λ (k : ℕ). stays mark (suc q) (map (placed was P) (range k n))) (sym (add-suc (starts P a.x) q)) ∙ stays_made (suc q) n) (mark q)
      where
        go : stays mark (suc q) (map (placed was P) (range (suc (starts P a.x + q)) n)) ≡ map (λ p. placed was P (starts P a.x + p)) (filter (λ p. not (mark p)) (range (suc q) n)) → (b : Bool)
            → cond b (stays mark (suc q) (map (placed was P) (range (suc (starts P a.x + q)) n))) (placed was P (starts P a.x + q) ∷ stays mark (suc q) (map (placed was P) (range (suc (starts P a.x + q)) n)))
            ≡ map (λ p. placed was P (starts P a.x + p)) (cond (not b) (q ∷ filter (λ p. not (mark p)) (range (suc q) n)) (filter (λ p. not (mark p)) (range (suc q) n)))
        go k true = k
        go k false = ap (λ (l : List Instr). placed was P (starts P a.x + q) ∷ l) k

    -- what the target's own reads become, once it has written ds
    abbrev own_name : List ℕ → ℕ → ℕ
    own_name ds r = cond (mem r ds) r (walk_name mark fr (defined_by S (length S) r) r)

    pub owns_made : (rd : ℕ → ℕ) (ds ps : List ℕ) → ((r : ℕ) → rd r ≡ own_name ds r)
        → zipW (λ o j. ins_of P (was o) j) ps (own_jobs rd (map (inst P.recs) ps)) ≡ owns S mark fr ds (map (placed was P) ps)
    owns_made rd ds [] h = refl
    owns_made rd ds (p ∷ ps) h =
        ap₂ (λ (i : Instr) (l : List Instr). i ∷ l) (λ z. record { old_block = i.old_block; old_index = i.old_index; what = i.what; goes_to = i.goes_to; slots = i.slots; reads = map_on rd (own_name ds) i.reads (λ r j. h r) z; writes = map_self i.writes z })
        (owns_made (λ r. elim (mem r i.writes) [ true ↦ r | false ↦ rd r ]) (i.writes ++ ds) ps next)
      where
        i : Instr
        i = placed was P p

        next : (r : ℕ) → ◌≡◌ {A = ℕ} (elim (mem r i.writes) as (λ z. ℕ) [ true ↦ r | false ↦ rd r ]) (own_name (i.writes ++ ds) r)
        next r = go (mem r i.writes) refl
          where
            go : (b : Bool) → mem r i.writes ≡ b → ◌≡◌ {A = ℕ} (elim b as (λ z. ℕ) [ true ↦ r | false ↦ rd r ]) (own_name (i.writes ++ ds) r)
            go true e = sym (ap (λ (c : Bool). cond c r (walk_name mark fr (defined_by S (length S) r) r)) (any_append (λ x. eqb r x) i.writes ds ∙ ap (λ (c : Bool). c || mem r ds) e))
            go false e = h r ∙ sym (ap (λ (c : Bool). cond c r (walk_name mark fr (defined_by S (length S) r) r)) (any_append (λ x. eqb r x) i.writes ds ∙ ap (λ (c : Bool). c || mem r ds) e))
