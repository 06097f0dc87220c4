-- The least solution over the rows is live_in: `laws` has that live_in solves the equations and is the least that does.
-- Assumes nothing.
use mathlib.Core.Path.{◌≡◌, sym, ap, ap₂, ◌∙◌, subst}
use mathlib.Core.Logic.{⊎_elim}
use mathlib.Core.Bool.{Bool, true, false, not, ◌&&◌, ◌||◌}
use mathlib.Core.List.{List, []}
use Prim.Native.Nat.{ℕ, ◌+◌, ◌-◌, ◌*◌, ◌/◌, ◌%◌, ◌≤◌, ◌<◌, min}
use native.Mathlib.Nat.{add-mul, add_assoc, le_refl}
use native.Mathlib.Omega.{arith}
use lib.Dec.{T}
use lib.ListN.{length, get_or, drop}
use lib.Seq.{get_or-drop}
use Rattle.words.specs.Bits.{digit, digit_in, is_in}
use Rattle.words.specs.Lists.{In, any, hit}
use Rattle.words.proofs.Bools.{T_true, bool_ext, or_cases, left, right, T_false}
use Rattle.words.proofs.Members.{any_in, any_of, in_get_or, in_index}
use Rattle.words.proofs.Rows.{hit_in, row_word, row_place}
use Rattle.model.specs.Picture.{Picture, code, succs}
use Rattle.model.specs.Live.{read_first, written, live_in}
use Rattle.laws.proofs.Liveness.{live_solves, live_least}
use Rattle.cfg.specs.Drawn.{drawn}
use Rattle.flow.specs.Progress.{cell, Among, Solved}
use Rattle.flow.specs.Live.{Live}
use Rattle.flow.proofs.Whole.{succs_ops}
use Rattle.flow.proofs.Firsts.{at}

-- ---- bits as tests and as numbers

pub cell_is : (l : List ℕ) (w x q : ℕ) → cell l w x q ≡ hit (is_in l (at w x q))
unfolding cell digit_in
cell_is l w x q = sym (hit_in l (at w x q) ∙ ap₂ (λ (a b : ℕ). digit (get_or l a 0) b) (row_word (x * w) q) (row_place (x * w) q))

-- a row behind the first n
pub cell_drop : (l : List ℕ) (w n b q : ℕ) → cell (drop (n * w) l) w b q ≡ cell l w (n + b) q
unfolding cell
cell_drop l w n b q = ap (λ (x : ℕ). digit x (q % 64)) (get_or-drop (n * w) l (b * w + q / 64) 0
    ∙ ap (λ (x : ℕ). get_or l x 0) (sym (add_assoc (n * w) (b * w) (q / 64)) ∙ ap (λ (x : ℕ). x + q / 64) (sym (add-mul n b w))))

hit_T : (b : Bool) → 1 ≤ hit b → T b
hit_T true h = tt
hit_T false h = absurd (omega arith)

T_hit : (b : Bool) → T b → hit b ≡ 1
T_hit b t = ap hit (T_true b t)

T_mono : (a b : Bool) → hit a ≤ hit b → T a → T b
T_mono a b h t = let z = T_hit a t in hit_T b (omega arith)

gen_le : (g x : Bool) → hit g ≤ hit (g || x)
gen_le true x = le_refl 1
gen_le false true = omega arith
gen_le false false = omega arith

edge_le : (x k g a : Bool) → (T x → T a) → min (hit x) (1 - hit k) ≤ hit (g || (not k && a))
edge_le false k g a h = omega arith
edge_le true true g a h = omega arith
edge_le true false true a h = omega arith
edge_le true false false a h = let z = T_hit a (h tt) in omega arith

-- ---- the theorem

-- l has at its head what each block reads first, and m is the least that holds it
module _ (bounds recs ops pairs targets : List ℕ) (w : ℕ) (l m : List ℕ)
    (first : (b r : ℕ) → b < length bounds / 2 → r < 64 * w → is_in l (at w b r) ≡ read_first ops r (code (drawn bounds recs ops pairs targets) b))
    (wrote : (b r : ℕ) → b < length bounds / 2 → r < 64 * w → is_in l (at w (length bounds / 2 + b) r) ≡ written r (code (drawn bounds recs ops pairs targets) b))
    (s : Solved (length bounds / 2) w (succs (drawn bounds recs [] pairs targets)) l m) where
  abbrev P : Picture
  P = drawn bounds recs ops pairs targets

  abbrev n : ℕ
  n = length bounds / 2

  -- what the rows begin with, and what is written
  gen : (b q : ℕ) → b < n → q < 64 * w → cell l w b q ≡ hit (read_first ops q (code P b))
  gen b q h j = cell_is l w b q ∙ ap hit (first b q h j)

  kill : (b q : ℕ) → b < n → q < 64 * w → cell (drop (n * w) l) w b q ≡ hit (written q (code P b))
  kill b q h j = cell_drop l w n b q ∙ cell_is l w (n + b) q ∙ ap hit (wrote b q h j)

  -- the two ways to say that x is a successor of b
  to_in : (b x : ℕ) → Among (succs (drawn bounds recs [] pairs targets) b) (length (succs (drawn bounds recs [] pairs targets) b)) x → In x (succs P b)
  to_in b x d = subst (In x) (succs_ops bounds recs [] ops pairs targets b)
      (subst (λ (y : ℕ). In y (succs (drawn bounds recs [] pairs targets) b)) (sym d.2) (in_get_or 0 (succs (drawn bounds recs [] pairs targets) b) d.0 d.1))

  of_in : (b x : ℕ) → In x (succs P b) → Among (succs (drawn bounds recs [] pairs targets) b) (length (succs (drawn bounds recs [] pairs targets) b)) x
  of_in b x i =
      let z = in_index 0 x (succs (drawn bounds recs [] pairs targets) b) (subst (In x) (sym (succs_ops bounds recs [] ops pairs targets b)) i) in
      (z.0, z.1, sym z.2)

  module _ (q : ℕ) (j : q < 64 * w) where
    upper : (b : ℕ) → b < n → cell m w b q ≤ hit (live_in P b q)
    upper = s.below q j (λ b. hit (live_in P b q))
        (λ b x h d. subst (λ (k : ℕ). min (hit (live_in P x q)) (1 - k) ≤ hit (live_in P b q)) (sym (kill b q h j))
        (subst (λ (t : Bool). min (hit (live_in P x q)) (1 - hit (written q (code P b))) ≤ hit t) (sym (live_solves P q b h))
        (edge_le (live_in P x q) (written q (code P b)) (read_first ops q (code P b)) (any (λ y. live_in P y q) (succs P b)) (any_in (λ y. live_in P y q) x (succs P b) (to_in b x d)))))
        (λ b h. subst (λ (k : ℕ). k ≤ hit (live_in P b q)) (sym (gen b q h j))
        (subst (λ (t : Bool). hit (read_first ops q (code P b)) ≤ hit t) (sym (live_solves P q b h))
        (gen_le (read_first ops q (code P b)) (not (written q (code P b)) && any (λ y. live_in P y q) (succs P b)))))

    X : ℕ → Bool
    X b = is_in m (at w b q)

    held : (b : ℕ) → 1 ≤ cell m w b q → T (X b)
    unfolding X
    held b h = hit_T (is_in m (at w b q)) (subst (λ (k : ℕ). 1 ≤ k) (cell_is m w b q) h)

    closed : (b : ℕ) → b < n → T (read_first ops q (code P b) || (not (written q (code P b)) && any X (succs P b))) → T (X b)
    unfolding X
    closed b h t = ⊎_elim
        (λ g. held b (let z = T_hit (read_first ops q (code P b)) g in let y = gen b q h j in let x = s.grow b q j in omega arith))
        (λ u. let k = T_false (written q (code P b)) (left (not (written q (code P b))) (any X (succs P b)) u) in
        let z = any_of X (succs P b) (right (not (written q (code P b))) (any X (succs P b)) u) in
        let one : cell m w z.0 q ≡ 1 = cell_is m w z.0 q ∙ T_hit (is_in m (at w z.0 q)) z.2 in
        let zero : cell (drop (n * w) l) w b q ≡ 0 = kill b q h j ∙ ap hit k in
        let c = s.closed b z.0 q h (of_in b z.0 z.1) j in
        held b (omega arith))
        (or_cases (read_first ops q (code P b)) (not (written q (code P b)) && any X (succs P b)) t)

    pub is_live : (b : ℕ) → b < n → is_in m (at w b q) ≡ live_in P b q
    unfolding X
    is_live b h = bool_ext (is_in m (at w b q)) (live_in P b q)
        (T_mono (is_in m (at w b q)) (live_in P b q) (subst (λ (k : ℕ). k ≤ hit (live_in P b q)) (cell_is m w b q) (upper b h)))
        (live_least P q X closed b)

  pub live_rows : Live P w m
  live_rows = record { row = λ b r h j. is_live r j b h }
