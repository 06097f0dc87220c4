-- `allot` gives the registers that `model`'s `fresh` gives, and `add_types` writes its types: what a caller of the two cites.
-- Assumes nothing.
use mathlib.Core.Path.{◌≡◌, refl, sym, ap, ap₂, ◌∙◌}
use mathlib.Core.Bool.{Bool, true, false, not, cond}
use mathlib.Core.List.{List, [], ◌∷◌, ◌++◌}
use Prim.Native.Nat.{ℕ, zero, suc, ◌+◌, ◌-◌, ◌≤◌, ◌<◌}
use native.Mathlib.Nat.{zero-add}
use native.Mathlib.Omega.{arith}
use lib.ListN.{length, take}
use Rattle.words.specs.Lists.{range, upto, filter, member, lookup}
use Rattle.words.proofs.Lists.{range_snoc, range_append, filter_append, filter_none}
use Rattle.model.specs.Analyse.{Fact}
use Rattle.model.specs.Legal.{fact_at}
use Rattle.model.specs.Picture.{Picture, size}
use Rattle.model.specs.Move.{Plan, Pool, release, gives, pooled, last_use, members, fresh, apply}
use Rattle.pool.specs.Pool.{mark_at, last_at, wrote_at, new_at, after, turned, regs_of, start, typed, reg_or, Allots}
use Rattle.pool.specs.Plan.{Marked, read_there}

module _ (run : List Fact) (there : ℕ → Bool) where
  pooled_append : (s : Pool) (ps qs : List ℕ) → pooled run there s (ps ++ qs) ≡ pooled run there (pooled run there s ps) qs
  pooled_append s [] qs = refl
  pooled_append s (p ∷ ps) qs = pooled_append (gives p (last_use run there p) (release p s) (fact_at run p).defs) ps qs

  module _ (S : List Bool) (w : List ℕ) (m : ℕ) (c : Marked run there S w m) (s : Pool) where
    abbrev up_to : ℕ → Pool
    up_to p = pooled run there s (filter (member S) (upto p))

    next : (p : ℕ) → up_to (suc p) ≡ pooled run there (up_to p) (filter (member S) (p ∷ []))
    next p =
        ap (λ (l : List ℕ). pooled run there s (filter (member S) l)) (range_snoc 0 p ∙ ap (λ (k : ℕ). range 0 p ++ (k ∷ [])) (zero-add p))
        ∙ ap (pooled run there s) (filter_append (member S) (range 0 p) (p ∷ [])) ∙ pooled_append s (filter (member S) (upto p)) (filter (member S) (p ∷ []))

    turn : (p : ℕ) → p < m → (b : Bool) → member S p ≡ b → (t : Pool) → turned (mark_at w p) p (last_at w p) (wrote_at w p) t ≡ pooled run there t (cond b (p ∷ []) [])
    turn p h true e t =
        ap (λ (b : Bool). cond b t (gives p (last_at w p) (release p t) (regs_of (wrote_at w p)))) (c.marks p h ∙ ap not e)
        ∙ ap₂ (λ (u : ℕ) (ds : List ℕ). gives p u (release p t) ds) (c.lasts p h e) (c.wrotes p h e)
    turn p h false e t = ap (λ (b : Bool). cond b t (gives p (last_at w p) (release p t) (regs_of (wrote_at w p)))) (c.marks p h ∙ ap not e)

    pub after_pooled : (p : ℕ) → p ≤ m → after w p s ≡ up_to p
    unfolding after
    after_pooled zero h = refl
    after_pooled (suc p) h =
        ap (turned (mark_at w p) p (last_at w p) (wrote_at w p)) (after_pooled p (omega arith))
        ∙ turn p h (member S p) refl (up_to p) ∙ sym (next p)

-- the members are among the first m positions
pub members_are : (P : Picture) (a : Plan) (m : ℕ) → m ≤ size P a.x → ((p : ℕ) → m ≤ p → member a.set p ≡ false) → members P a ≡ filter (member a.set) (upto m)
members_are P a m h out =
    let n : ℕ = size P a.x - m in
    let e : size P a.x ≡ m + n = omega arith in
    ap (λ (k : ℕ). filter (member a.set) (upto k)) e ∙ ap (filter (member a.set)) (sym (range_append 0 m n))
    ∙ filter_append (member a.set) (upto m) (range (0 + m) n)
    ∙ ap (λ (l : List ℕ). filter (member a.set) (upto m) ++ l) (filter_none (member a.set) (0 + m) n (λ p l k. out p (omega arith)))
    ∙ mathlib.Core.List.append-nil (filter (member a.set) (upto m))

module _ (P : Picture) (a : Plan) (w v : List ℕ) (m next : ℕ) (c : Marked a.run (read_there P a) a.set w m) (h : m ≤ size P a.x)
    (l : Allots P.regs m P.types w v next) where
  pub fresh_is : fresh P a ≡ after w m (start P.regs P.types)
  fresh_is =
      ap (pooled a.run (read_there P a) (start P.regs P.types)) (members_are P a m h c.outside)
      ∙ sym (after_pooled a.run (read_there P a) a.set w m c (start P.regs P.types) m (omega arith))

  pub types_is : (fresh P a).types ≡ typed P.types v m (take P.regs P.types)
  types_is = ap (λ (s : Pool). s.types) fresh_is ∙ l.all.types_are

  -- the registers in use then, and their types behind those that the picture had
  pub apply_regs : next ≡ (apply P a).regs
  apply_regs = sym (ap (λ (s : Pool). length s.types) fresh_is ∙ l.all.next_is)

  -- each member's register
  pub given_is : (p x : ℕ) → p < m → lookup (fresh P a).given p x ≡ reg_or (new_at v p) x
  given_is p x k = ap (λ (s : Pool). lookup s.given p x) fresh_is ∙ l.all.given_are p x k
