-- The two words of a block after every block has told where it goes are those of `model`'s callers: the predecessors, and the start of the
-- function for block 0. Assumes nothing.
use mathlib.Core.Path.{◌≡◌, refl, sym, ap, ap₂, ◌∙◌, subst}
use mathlib.Core.Logic.{inl, inr, ⊎_elim}
use mathlib.Core.Bool.{Bool, true, false, not, cond, ◌&&◌, ◌||◌, or-false}
use mathlib.Core.List.{List, [], ◌∷◌, ◌++◌, append_assoc, append-nil}
use Prim.Native.Nat.{ℕ, zero, suc, ◌+◌, ◌*◌, ◌≤◌, ◌<◌}
use native.Mathlib.Nat.{zero-add, le_antisymm, le_refl}
use native.Mathlib.Numerals.{add-one}
use native.Mathlib.Omega.{arith}
use lib.Dec.{eqb}
use lib.ListN.{length, get_or, set, length-set}
use lib.Seq.{get_or-set_same, get_or-set_other}
use borrow.Author.Tests.{eq-eqb, ne_eqb}
use Rattle.words.specs.Lists.{In, upto, mem, filter}
use Rattle.words.proofs.Bools.{eqb_self, eq?}
use Rattle.words.proofs.Lists.{range_snoc, filter_append}
use Rattle.words.proofs.Members.{filter_in, range_in, in_split}
use Rattle.model.specs.Picture.{Picture, nblocks, succs, from_start, callers}
use Rattle.words.specs.Steps.{steps}
use Rattle.cfg.specs.Preds.{many, first, Told, Preds, count_after, which_after, noted, all_noted}

-- ---- one that goes there

-- c at the end of the list, or there already
abbrev with_c : ℕ → List ℕ → Bool → List ℕ
with_c c ps seen = ps ++ cond seen (c ∷ []) []

counted : (c : ℕ) (ps : List ℕ) (seen : Bool) → ((x : ℕ) → In x ps → x ≡ c → ⊥)
    → count_after (many (with_c c ps seen)) (first (with_c c ps seen)) c ≡ many (with_c c ps true)
counted c [] false h = refl
counted c [] true h = ap (λ (b : Bool). cond (not b) 2 1) (eqb_self c)
counted c (x ∷ []) false h = ap (λ (b : Bool). cond (not b) 2 1) (ne_eqb x c (h x (inl refl)))
counted c (x ∷ []) true h = refl
counted c (x ∷ y ∷ ps) false h = refl
counted c (x ∷ y ∷ ps) true h = refl

named : (c : ℕ) (ps : List ℕ) (seen : Bool) → which_after (many (with_c c ps seen)) (first (with_c c ps seen)) c ≡ first (with_c c ps true)
named c [] false = refl
named c [] true = refl
named c (x ∷ []) false = refl
named c (x ∷ []) true = refl
named c (x ∷ y ∷ ps) false = refl
named c (x ∷ y ∷ ps) true = refl

-- the places of the code
module _ (k p c : ℕ) where
  pub count_none : k ≡ 0 → 1 ≡ count_after k p c
  count_none e = sym (ap (λ (b : Bool). cond b 1 (cond (eqb k 1 && not (eqb p c)) 2 k)) (eq-eqb k 0 e))

  pub count_more : (k ≡ 0 → ⊥) → (eqb k 1 && not (eqb p c)) ≡ true → 2 ≡ count_after k p c
  count_more n e = sym (ap₂ (λ (a b : Bool). cond a 1 (cond b 2 k)) (ne_eqb k 0 n) e)

  pub count_same : (k ≡ 0 → ⊥) → (eqb k 1 && not (eqb p c)) ≡ false → k ≡ count_after k p c
  count_same n e = sym (ap₂ (λ (a b : Bool). cond a 1 (cond b 2 k)) (ne_eqb k 0 n) e)

  pub which_none : k ≡ 0 → c ≡ which_after k p c
  which_none e = sym (ap (λ (b : Bool). cond b c p) (eq-eqb k 0 e))

  pub which_same : (k ≡ 0 → ⊥) → p ≡ which_after k p c
  which_same n = sym (ap (λ (b : Bool). cond b c p) (ne_eqb k 0 n))

pub one_noted : (c : ℕ) (ws : List ℕ) (b x y : ℕ) → x ≡ count_after (get_or ws (2 * b) 0) (get_or ws (2 * b + 1) 0) c → y ≡ which_after (get_or ws (2 * b) 0) (get_or ws (2 * b + 1) 0) c
    → set (set ws (2 * b) x) (2 * b + 1) y ≡ noted c ws b
unfolding noted
one_noted c ws b x y p q = ap₂ (λ (u v : ℕ). set (set ws (2 * b) u) (2 * b + 1) v) p q

length_noted : (c : ℕ) (ws : List ℕ) (b : ℕ) → length (noted c ws b) ≡ length ws
unfolding noted
length_noted c ws b = simp (length-set, length-set)

pub length_all : (c : ℕ) (ws ss : List ℕ) → length (steps (noted c) ws ss) ≡ length ws
unfolding steps
length_all c ws [] = refl
length_all c ws (t ∷ ss) = length_all c (noted c ws t) ss ∙ length_noted c ws t

module _ (c b : ℕ) (ps : List ℕ) (new : (x : ℕ) → In x ps → x ≡ c → ⊥) where
  told_here : (ws : List ℕ) (seen : Bool) → 2 * b + 1 < length ws → Told ws b (with_c c ps seen) → Told (noted c ws b) b (with_c c ps true)
  unfolding noted
  told_here ws seen h t = record {
    count = get_or-set_other (set ws (2 * b) _) (2 * b + 1) (2 * b) _ 0 (λ e. omega arith) ∙ get_or-set_same ws (2 * b) _ 0 (omega arith)
        ∙ ap₂ (λ (k p : ℕ). count_after k p c) t.count t.which ∙ counted c ps seen new;
    which = get_or-set_same (set ws (2 * b) _) (2 * b + 1) _ 0 (rw length-set h) ∙ ap₂ (λ (k p : ℕ). which_after k p c) t.count t.which ∙ named c ps seen;
  }

  told_else : (ws : List ℕ) (a : ℕ) (ps : List ℕ) → (b ≡ a → ⊥) → Told ws b ps → Told (noted c ws a) b ps
  unfolding noted
  told_else ws a ps n t = record {
    count = get_or-set_other (set ws (2 * a) _) (2 * a + 1) (2 * b) _ 0 (λ e. omega arith) ∙ get_or-set_other ws (2 * a) (2 * b) _ 0 (λ e. n (omega arith)) ∙ t.count;
    which = get_or-set_other (set ws (2 * a) _) (2 * a + 1) (2 * b + 1) _ 0 (λ e. n (omega arith)) ∙ get_or-set_other ws (2 * a) (2 * b + 1) _ 0 (λ e. omega arith) ∙ t.which;
  }

  told_list : (ws ss : List ℕ) (seen : Bool) → 2 * b + 1 < length ws → Told ws b (with_c c ps seen) → Told (steps (noted c) ws ss) b (with_c c ps (seen || mem b ss))
  unfolding steps
  told_list ws [] seen h t = subst (λ (s : Bool). Told ws b (with_c c ps s)) (sym (or-false seen)) t
  told_list ws (a ∷ ss) seen h t = ⊎_elim
      (λ (e : b ≡ a). subst (λ (s : Bool). Told (steps (noted c) (noted c ws a) ss) b (with_c c ps s)) (yes seen (eqb b a) (eq-eqb b a e))
      (told_list (noted c ws a) ss true (rw (length_noted c ws a) h) (subst (λ (x : ℕ). Told (noted c ws x) b (with_c c ps true)) e (told_here ws seen h t))))
      (λ (n : b ≡ a → ⊥). subst (λ (s : Bool). Told (steps (noted c) (noted c ws a) ss) b (with_c c ps s)) (no_hit seen (eqb b a) (ne_eqb b a n))
      (told_list (noted c ws a) ss seen (rw (length_noted c ws a) h) (told_else ws a (with_c c ps seen) n t)))
      (eq? b a)
    where
      yes : (s x : Bool) → x ≡ true → true ≡ (s || (x || mem b ss))
      yes true x e = refl
      yes false x e = sym (ap (λ (y : Bool). y || mem b ss) e)

      no_hit : (s x : Bool) → x ≡ false → (s || mem b ss) ≡ (s || (x || mem b ss))
      no_hit s x e = sym (ap (λ (y : Bool). s || (y || mem b ss)) e)

-- ---- all blocks, one after the other

-- where n blocks tell it, and front leads to block b already, none of which is a block
module _ (succ : ℕ → List ℕ) (ws : List ℕ) (b n : ℕ) (front : List ℕ) (h : 2 * b + 1 < length ws) (none : (x : ℕ) → In x front → n ≤ x) where
  abbrev so_far : ℕ → List ℕ
  so_far c = front ++ filter (λ x. mem b (succ x)) (upto c)

  length-noted_all : (c : ℕ) → length (all_noted succ ws c) ≡ length ws
  unfolding all_noted
  length-noted_all zero = refl
  length-noted_all (suc c) = length_all c (all_noted succ ws c) (succ c) ∙ length-noted_all c

  one_more : (c : ℕ) → so_far c ++ cond (mem b (succ c)) (c ∷ []) [] ≡ so_far (suc c)
  one_more c =
      append_assoc front (filter (λ x. mem b (succ x)) (upto c)) (cond (mem b (succ c)) (c ∷ []) [])
      ∙ ap (λ (l : List ℕ). front ++ l)
      (sym (ap (filter (λ x. mem b (succ x))) (range_snoc 0 c ∙ ap (λ (x : ℕ). upto c ++ (x ∷ [])) (zero-add c)) ∙ filter_append (λ x. mem b (succ x)) (upto c) (c ∷ [])))

  new_one : (c : ℕ) → c < n → (x : ℕ) → In x (so_far c) → x ≡ c → ⊥
  new_one c l x i e =
      ⊎_elim (λ j. let z = none x j in omega arith)
      (λ j. let z = (range_in x 0 c (filter_in (λ x. mem b (succ x)) x (upto c) j).0).1 in omega arith)
      (in_split x front (filter (λ x. mem b (succ x)) (upto c)) i)

  pub told_all : Told ws b front → (c : ℕ) → c ≤ n → Told (all_noted succ ws c) b (so_far c)
  unfolding all_noted
  told_all t zero m = subst (Told ws b) (sym (append-nil front)) t
  told_all t (suc c) m = subst (Told (steps (noted c) (all_noted succ ws c) (succ c)) b) (one_more c)
      (told_list c b (so_far c) (new_one c (omega arith)) (all_noted succ ws c) (succ c) false (rw (length-noted_all c) h)
      (subst (Told (all_noted succ ws c) b) (sym (append-nil (so_far c))) (told_all t c (omega arith))))

-- the start of the function is no block
start_none : (n b x : ℕ) → In x (from_start n b) → n ≤ x
start_none n zero x (inl e) = omega arith
start_none n zero x (inr j) = absurd j
start_none n (suc b) x j = absurd j

pub all_preds : (P : Picture) (ws ms : List ℕ) → ((b : ℕ) → b < nblocks P → Told ws b (from_start (nblocks P) b)) → 2 * nblocks P ≤ length ws → ms ≡ all_noted (succs P) ws (nblocks P)
    → Preds P ms
all_preds P ws ms t h q = record {
  told = λ b l. subst (λ (ms : List ℕ). Told ms b (callers P b)) (sym q)
      (told_all (succs P) ws b (nblocks P) (from_start (nblocks P) b) (omega arith) (start_none (nblocks P) b) (t b l) (nblocks P) (le_refl (nblocks P)));
}

-- ---- the loop over the blocks

module _ (succ : ℕ → List ℕ) (ws : List ℕ) where
  pub noted_none : ws ≡ all_noted succ ws 0
  unfolding all_noted
  noted_none = refl

  pub noted_more : (c : ℕ) (ss : List ℕ) {l m : List ℕ} → ss ≡ succ c → l ≡ all_noted succ ws c → m ≡ steps (noted c) l ss → m ≡ all_noted succ ws (c + 1)
  unfolding all_noted
  noted_more c ss e p q = q ∙ ap₂ (λ (x y : List ℕ). steps (noted c) x y) p e ∙ ap (all_noted succ ws) (sym (add-one c))

  pub noted_end : (c n : ℕ) {l : List ℕ} → c ≤ n → n ≤ c → l ≡ all_noted succ ws c → l ≡ all_noted succ ws n
  noted_end c n h g p = p ∙ ap (all_noted succ ws) (le_antisymm h g)
