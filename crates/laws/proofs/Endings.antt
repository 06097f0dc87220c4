-- A move keeps how each block ends, and so its successors and predecessors. Assumes nothing.
use mathlib.Core.Path.{◌≡◌, refl, sym, ap, ap₂, ◌∙◌, subst, fun_ext}
use mathlib.Core.Logic.{◌⊎◌, inl, inr, ⊎_elim}
use mathlib.Core.Bool.{Bool, true, false, not}
use mathlib.Core.List.{List, [], ◌∷◌, ◌++◌, map}
use Prim.Native.Nat.{ℕ, zero, suc, ◌+◌, ◌-◌, ◌≤◌, ◌<◌}
use native.Mathlib.Nat.{zero-add}
use native.Mathlib.Omega.{arith}
use lib.Dec.{eqb}
use Rattle.words.specs.Lists.{mem, range, upto, filter, member}
use Rattle.words.proofs.Bools.{not_true_is_false, eq?, lt?}
use Rattle.words.proofs.Lists.{map_append, map_map, range_snoc, filter_yes}
use Rattle.words.proofs.Members.{in_map, filter_in}
use Rattle.words.proofs.Each.{Each, each_of}
use Rattle.model.specs.Picture.{Picture, Inst, inst, writes, nblocks, starts, ends, size, places, code, End, goes, parts, cases, stops, end_of, ending, end_succs, succs, from_start, callers}
use Rattle.model.specs.Analyse.{Facts}
use Rattle.model.specs.Move.{Plan, Job, members, member_job, own_jobs, made_all, new_code, apply}
use Rattle.laws.proofs.Admitted.{mover_stops}
use Rattle.laws.proofs.Blocks.{last_place, places_past}
use Rattle.laws.proofs.Made.{Sound, MadeFor, Pairs, made_end}
use Rattle.laws.proofs.Moving.{Moving, apart, member_inside, member_may}
use Rattle.laws.proofs.Ordered.{in_x, stayers, order_x, order_else}
use Rattle.laws.proofs.Applied as Applied

-- ---- the last end of a list

abbrev last_end : List End → End
last_end [] = stops
last_end (e ∷ []) = e
last_end (e ∷ f ∷ es) = last_end (f ∷ es)

last_snoc : (es : List End) (e : End) → last_end (es ++ e ∷ []) ≡ e
last_snoc [] e = refl
last_snoc (x ∷ []) e = refl
last_snoc (x ∷ y ∷ es) e = last_snoc (y ∷ es) e

-- what ends nothing does not count at the head
last_cons : (e : End) (es : List End) → e ≡ stops → last_end (e ∷ es) ≡ last_end es
last_cons e [] h = h
last_cons e (f ∷ es) h = refl

last_behind : (es fs : List End) → Each (λ e. e ≡ stops) es → last_end (es ++ fs) ≡ last_end fs
last_behind [] fs h = refl
last_behind (e ∷ es) fs h = last_cons e (es ++ fs) h.0 ∙ last_behind es fs h.1

last_range : (f : ℕ → End) (s n : ℕ) → last_end (map f (range s (suc n))) ≡ f (s + n)
last_range f s n = ap (λ (l : List ℕ). last_end (map f l)) (range_snoc s n) ∙ ap last_end (map_append f (range s n) ((s + n) ∷ [])) ∙ last_snoc (map f (range s n)) (f (s + n))

-- ---- a block ends as its code does

pub ending_code : (P : Picture) (b : ℕ) → ending P b ≡ last_end (map end_of (code P b))
ending_code P b = go (size P b) refl ∙ sym (ap last_end (map_map end_of (inst P.recs) (places P b)))
  where
    at : ℕ → End
    at p = end_of (inst P.recs p)

    opened : (n : ℕ) → size P b ≡ n → ending P b ≡ elim (eqb n 0) as (λ z. End) [ true ↦ stops | false ↦ at (ends P b - 1) ]
    opened n e = ap (λ (n : ℕ). elim (eqb n 0) as (λ z. End) [ true ↦ stops | false ↦ at (ends P b - 1) ]) e

    go : (n : ℕ) → size P b ≡ n → ending P b ≡ last_end (map at (range (starts P b) (size P b)))
    go zero e = opened zero e ∙ sym (ap (λ (k : ℕ). last_end (map at (range (starts P b) k))) e)
    go (suc n) e =
        opened (suc n) e ∙ ap (λ (c : Bool). elim c as (λ z. End) [ true ↦ stops | false ↦ at (ends P b - 1) ]) (lib.Dec.eqb-suc-zero n)
        ∙ ap at (sym (last_place P b n e).0) ∙ sym (ap (λ (k : ℕ). last_end (map at (range (starts P b) k))) e ∙ last_range at (starts P b) n)

-- ---- a move

own_olds : (rd : ℕ → ℕ) (is : List Inst) → map (λ k. end_of k.old) (own_jobs rd is) ≡ map end_of is
own_olds rd [] = refl
own_olds rd (i ∷ is) = ap (λ (l : List End). end_of i ∷ l) (own_olds (λ r. elim (mem r (writes i)) [ true ↦ r | false ↦ rd r ]) is)

module _ (P : Picture) (G : Facts) (a : Plan) (mv : Moving P G a) where
  abbrev Q : Picture
  Q = apply P a

  abbrev js : List Job
  js = Applied.js P G a mv

  -- the end of x's p-th instruction
  abbrev end_in_x : ℕ → End
  end_in_x p = end_of (inst P.recs (in_x P G a mv p))

  ends_made : (ms : List Inst) (ks : List Job) → Each (Sound P Q.regs) ks → Pairs (MadeFor P.ops Q.ops Q.opers) ms ks → map end_of ms ≡ map (λ k. end_of k.old) ks
  ends_made [] [] s p = refl
  ends_made [] (k ∷ ks) s p = absurd p
  ends_made (m ∷ ms) [] s p = absurd p
  ends_made (m ∷ ms) (k ∷ ks) s p =
      ap₂ (λ (e : End) (l : List End). e ∷ l) (ap end_of p.0.is ∙ made_end k p.0.start s.0.whole s.0.rd_present s.0.wr_present) (ends_made ms ks s.1 p.1)

  -- the members, which end nothing, stand before the target's own code
  at_into : last_end (map end_of (new_code P a js a.into)) ≡ last_end (map end_of (code P a.into))
  at_into =
      ap (λ (l : List Inst). last_end (map end_of l)) (Applied.code_into P G a mv)
      ∙ ap last_end (ends_made (made_all P.ops P.opers js) js (Applied.sound P G a mv) (Applied.made_here P G a mv)
      ∙ map_append (λ k. end_of k.old) (map (member_job P a (Applied.given P G a mv)) (members P a)) (own_jobs (Applied.behind P G a mv) (code P a.into))
      ∙ ap₂ ◌++◌ (map_map (λ k. end_of k.old) (member_job P a (Applied.given P G a mv)) (members P a)) (own_olds (Applied.behind P G a mv) (code P a.into)))
      ∙ last_behind (map end_in_x (members P a)) (map end_of (code P a.into))
      (each_of (λ e. e ≡ stops) (map end_in_x (members P a))
      (λ e i. let z = in_map end_in_x e (members P a) i in
      z.2 ∙ mover_stops (inst P.recs (in_x P G a mv z.0)) (member_may P G a mv z.0 (filter_in (member a.set) z.0 (upto (size P a.x)) z.1).1)))

  -- x's last instruction stays
  at_x : last_end (map end_of (new_code P a js a.x)) ≡ last_end (map end_of (code P a.x))
  at_x =
      ap (λ (l : List Inst). last_end (map end_of l)) (Applied.code_else P G a mv a.x (apart P G a mv) ∙ ap (map (inst P.recs)) (order_x P G a mv))
      ∙ ap last_end (map_map end_of (inst P.recs) (map (in_x P G a mv) (stayers P G a mv)) ∙ map_map (λ p. end_of (inst P.recs p)) (in_x P G a mv) (stayers P G a mv))
      ∙ go (size P a.x) refl ∙ sym (ap last_end (map_map end_of (inst P.recs) (places P a.x)))
    where
      kept : ℕ → Bool
      kept p = not (member a.set p)

      at : ℕ → End
      at p = end_of (inst P.recs p)

      go : (n : ℕ) → size P a.x ≡ n → last_end (map end_in_x (filter kept (upto (size P a.x)))) ≡ last_end (map at (places P a.x))
      go zero e = ap (λ (n : ℕ). last_end (map end_in_x (filter kept (upto n)))) e ∙ sym (ap (λ (n : ℕ). last_end (map at (range (starts P a.x) n))) e)
      go (suc n) e =
          let stays : kept (0 + n) ≡ true =
          ap not (not_true_is_false (member a.set (0 + n)) (λ k. let h = member_inside P G a mv (0 + n) k in omega arith)) in
          ap (λ (n : ℕ). last_end (map end_in_x (filter kept (upto n)))) e
          ∙ ap (λ (l : List ℕ). last_end (map end_in_x l)) (ap (filter kept) (range_snoc 0 n) ∙ filter_yes kept (range 0 n) (0 + n) stays)
          ∙ ap last_end (map_append end_in_x (filter kept (range 0 n)) ((0 + n) ∷ [])) ∙ last_snoc (map end_in_x (filter kept (range 0 n))) (end_in_x (0 + n))
          ∙ ap (λ (k : ℕ). at (starts P a.x + k)) (zero-add n)
          ∙ sym (ap (λ (n : ℕ). last_end (map at (range (starts P a.x) n))) e ∙ last_range at (starts P a.x) n)

  new_end : (b : ℕ) → last_end (map end_of (new_code P a js b)) ≡ last_end (map end_of (code P b))
  new_end b = go (eq? b a.into) (eq? b a.x)
    where
      go : (b ≡ a.into) ⊎ (b ≡ a.into → ⊥) → (b ≡ a.x) ⊎ (b ≡ a.x → ⊥) → last_end (map end_of (new_code P a js b)) ≡ last_end (map end_of (code P b))
      go (inl e) d = subst (λ (y : ℕ). last_end (map end_of (new_code P a js y)) ≡ last_end (map end_of (code P y))) (sym e) at_into
      go (inr n) (inl e) = subst (λ (y : ℕ). last_end (map end_of (new_code P a js y)) ≡ last_end (map end_of (code P y))) (sym e) at_x
      go (inr n) (inr k) = ap (λ (l : List Inst). last_end (map end_of l)) (Applied.code_else P G a mv b n ∙ ap (map (inst P.recs)) (order_else P G a mv b k n))

  -- EVERY BLOCK ENDS AS BEFORE
  pub ending_kept : (b : ℕ) → ending Q b ≡ ending P b
  ending_kept b =
      ending_code Q b
      ∙ ⊎_elim (λ (h : b < nblocks P). ap (λ (l : List Inst). last_end (map end_of l)) (Applied.code_after P G a mv b h) ∙ new_end b)
      (λ (h : nblocks P ≤ b). ap (λ (l : List ℕ). last_end (map end_of (map (inst Q.recs) l))) (places_past Q b (subst (λ (m : ℕ). m ≤ b) (sym (Applied.same_blocks P G a mv)) h))
      ∙ sym (ap (λ (l : List ℕ). last_end (map end_of (map (inst P.recs) l))) (places_past P b h)))
      (lt? b (nblocks P))
      ∙ sym (ending_code P b)

  pub same_ends : (e : End) → end_succs Q e ≡ end_succs P e
  same_ends (goes t) = refl
  same_ends (parts t f) = refl
  same_ends (cases t) = refl
  same_ends stops = refl

  pub succs_kept : (b : ℕ) → succs Q b ≡ succs P b
  succs_kept b = same_ends (ending Q b) ∙ ap (end_succs P) (ending_kept b)

  pub callers_kept : (b : ℕ) → callers Q b ≡ callers P b
  callers_kept b = ap₂ (λ (f : ℕ → List ℕ) (n : ℕ). from_start n b ++ filter (λ c. mem b (f c)) (upto n)) (fun_ext succs_kept) (Applied.same_blocks P G a mv)
