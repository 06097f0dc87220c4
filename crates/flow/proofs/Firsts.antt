-- Bit by bit, the rows that sets.rt makes are what `model` says of each block: `read_first` and `written`. Assumes nothing.
use mathlib.Core.Path.{◌≡◌, refl, sym, ap, ap₂, ◌∙◌, subst}
use mathlib.Core.Logic.{inl, inr}
use mathlib.Core.Bool.{Bool, true, false, not, ◌&&◌, ◌||◌, true≢false}
use mathlib.Core.List.{List, [], ◌∷◌}
use Prim.Native.Nat.{ℕ, ◌+◌, ◌-◌, ◌*◌, ◌/◌, ◌≤◌, ◌<◌}
use native.Mathlib.Nat.{lt_of_lt_of_le}
use native.Mathlib.Omega.{arith}
use lib.Dec.{eqb}
use lib.ListN.{length, get_or}
use borrow.Author.Tests.{ne_eqb}
use Rattle.words.specs.Bits.{is_in, set_bit, unset_bit}
use Rattle.words.specs.Lists.{In, range, mem}
use Rattle.words.proofs.Bools.{eqb_self}
use Rattle.words.proofs.Members.{in_map, range_in}
use Rattle.words.proofs.Rows.{in_set, in_unset, length-set_bit, length-unset_bit, row_eqb}
use Rattle.model.specs.Picture.{Inst, inst, reads, writes, code}
use Rattle.model.specs.Live.{read_first, written}
use Rattle.cfg.specs.Drawn.{drawn}
use Rattle.cfg.specs.Graph.{Blocks}
use Rattle.defuse.specs.Sets.{put, wrote, before, run, Code}
use Rattle.words.specs.Steps.{steps}

-- number q of row y
abbrev pub at : ℕ → ℕ → ℕ → ℕ
at w y q = 64 * (y * w) + q

fits : (w x r : ℕ) (l : List ℕ) → x * w + w ≤ length l → r < 64 * w → at w x r < 64 * length l
fits w x r l h k = omega arith

-- ---- what is read

put_bool : (a e c d : Bool) → ((a || (e && c)) || (e && d)) ≡ (a || (e && (c || d)))
put_bool true e c d = refl
put_bool false true true d = refl
put_bool false true false d = refl
put_bool false false c d = refl

no_put : (a e : Bool) → a ≡ (a || (e && false))
no_put true e = refl
no_put false true = refl
no_put false false = refl

pub put_bits : (w x : ℕ) (l rs : List ℕ) → x * w + w ≤ length l → ((r : ℕ) → In r rs → r < 64 * w)
    → (y q : ℕ) → q < 64 * w → is_in (steps (put (x * w)) l rs) (at w y q) ≡ (is_in l (at w y q) || (eqb y x && mem q rs))
unfolding steps
put_bits w x l [] h k y q j = no_put (is_in l (at w y q)) (eqb y x)
put_bits w x l (r ∷ rs) h k y q j =
    put_bits w x (set_bit l (at w x r)) rs (rw length-set_bit h) (λ s i. k s (inr i)) y q j
    ∙ ap (λ (b : Bool). b || (eqb y x && mem q rs)) (in_set l (at w x r) (fits w x r l h (k r (inl refl))) (at w y q) ∙ ap (λ (b : Bool). is_in l (at w y q) || b) (row_eqb w x y r q (k r (inl refl)) j))
    ∙ put_bool (is_in l (at w y q)) (eqb y x) (eqb q r) (mem q rs)

-- ---- what is written

wrote_bool : (e f : Bool) → (e && f) ≡ false → (a c d : Bool)
    → ((((a && not (e && c)) || (f && c)) && not (e && d)) || (f && d)) ≡ ((a && not (e && (c || d))) || (f && (c || d)))
wrote_bool true true h a c d = absurd (true≢false h)
wrote_bool true false h true true d = refl
wrote_bool true false h true false true = refl
wrote_bool true false h true false false = refl
wrote_bool true false h false c d = refl
wrote_bool false true h true c d = refl
wrote_bool false true h false true d = refl
wrote_bool false true h false false d = refl
wrote_bool false false h true c d = refl
wrote_bool false false h false c d = refl

no_wrote : (a e f : Bool) → a ≡ ((a && not (e && false)) || (f && false))
no_wrote true true true = refl
no_wrote true true false = refl
no_wrote true false true = refl
no_wrote true false false = refl
no_wrote false e true = refl
no_wrote false e false = refl

module _ (w x z : ℕ) (apart : x ≡ z → ⊥) where
  once : (y : ℕ) → (eqb y x && eqb y z) ≡ false
  once y = go (eqb y x) refl
    where
      go : (b : Bool) → eqb y x ≡ b → (b && eqb y z) ≡ false
      go true e = ne_eqb y z (λ k. apart (sym (borrow.Author.Tests.eqb-true y x e) ∙ k))
      go false e = refl

  pub wrote_bits : (l rs : List ℕ) → x * w + w ≤ length l → z * w + w ≤ length l → ((r : ℕ) → In r rs → r < 64 * w)
      → (y q : ℕ) → q < 64 * w
      → is_in (steps (wrote (x * w) (z * w)) l rs) (at w y q) ≡ ((is_in l (at w y q) && not (eqb y x && mem q rs)) || (eqb y z && mem q rs))
  unfolding steps
  wrote_bits l [] h g k y q j = no_wrote (is_in l (at w y q)) (eqb y x) (eqb y z)
  wrote_bits l (r ∷ rs) h g k y q j =
      let hr = k r (inl refl) in
      wrote_bits (wrote (x * w) (z * w) l r) rs (rw (length-set_bit, length-unset_bit) h) (rw (length-set_bit, length-unset_bit) g) (λ s i. k s (inr i)) y q j
      ∙ ap (λ (b : Bool). (b && not (eqb y x && mem q rs)) || (eqb y z && mem q rs))
      (in_set (unset_bit l (at w x r)) (at w z r) (rw length-unset_bit (fits w z r l g hr)) (at w y q)
      ∙ ap₂ (λ (a b : Bool). a || b) (in_unset l (at w x r) (fits w x r l h hr) (at w y q) ∙ ap (λ (b : Bool). is_in l (at w y q) && not b) (row_eqb w x y r q hr j)) (row_eqb w z y r q hr j))
      ∙ wrote_bool (eqb y x) (eqb y z) (once y) (is_in l (at w y q)) (eqb q r) (mem q rs)

length_steps : (f : List ℕ → ℕ → List ℕ) → ((l : List ℕ) (r : ℕ) → length (f l r) ≡ length l) → (l rs : List ℕ) → length (steps f l rs) ≡ length l
unfolding steps
length_steps f h l [] = refl
length_steps f h l (r ∷ rs) = length_steps f h (f l r) rs ∙ h l r

length_wrote : (u d : ℕ) (l : List ℕ) (r : ℕ) → length (wrote u d l r) ≡ length l
length_wrote u d l r = length-set_bit (unset_bit l (64 * u + r)) (64 * d + r) ∙ length-unset_bit l (64 * u + r)

-- ---- an instruction, and a run of them

-- its registers are below 64 w
pub record Small (ops : List ℕ) (w : ℕ) (i : Inst) : Type 0 where
  pub read : (q : ℕ) → In q (reads ops i) → q < 64 * w
  pub written : (q : ℕ) → In q (writes i) → q < 64 * w

own_bool : (a c r : Bool) → (((a && not c) || false) || r) ≡ (r || (not c && a))
own_bool true true true = refl
own_bool true true false = refl
own_bool true false true = refl
own_bool true false false = refl
own_bool false true true = refl
own_bool false true false = refl
own_bool false false true = refl
own_bool false false false = refl

kill_bool : (a c : Bool) → (((a && true) || c) || false) ≡ (c || a)
kill_bool true true = refl
kill_bool true false = refl
kill_bool false true = refl
kill_bool false false = refl

module _ (ops : List ℕ) (w x z : ℕ) (apart : x ≡ z → ⊥) where
  length_before : (l : List ℕ) (i : Inst) → length (before ops (x * w) (z * w) l i) ≡ length l
  unfolding before
  length_before l i = length_steps (put (x * w)) (λ l r. length-set_bit l (64 * (x * w) + r)) _ (reads ops i) ∙ length_steps (wrote (x * w) (z * w)) (length_wrote (x * w) (z * w)) l (writes i)

  pub length_run : (l : List ℕ) (is : List Inst) → length (run ops (x * w) (z * w) l is) ≡ length l
  unfolding run
  length_run l [] = refl
  length_run l (i ∷ is) = length_before (run ops (x * w) (z * w) l is) i ∙ length_run l is

  before_bits : (l : List ℕ) (i : Inst) → x * w + w ≤ length l → z * w + w ≤ length l → Small ops w i → (y q : ℕ) → q < 64 * w
      → is_in (before ops (x * w) (z * w) l i) (at w y q)
      ≡ (((is_in l (at w y q) && not (eqb y x && mem q (writes i))) || (eqb y z && mem q (writes i))) || (eqb y x && mem q (reads ops i)))
  unfolding before
  before_bits l i h g s y q j =
      put_bits w x (steps (wrote (x * w) (z * w)) l (writes i)) (reads ops i) (rw (length_steps (wrote (x * w) (z * w)) (length_wrote (x * w) (z * w)) l (writes i)) h) s.read y q j
      ∙ ap (λ (b : Bool). b || (eqb y x && mem q (reads ops i))) (wrote_bits w x z apart l (writes i) h g s.written y q j)

  abbrev Run : List ℕ → List Inst → List ℕ
  Run l is = run ops (x * w) (z * w) l is

  module _ (l : List ℕ) (h : x * w + w ≤ length l) (g : z * w + w ≤ length l) (q : ℕ) (j : q < 64 * w) where
    step : (i : Inst) (is : List Inst) → Small ops w i → (y : ℕ)
        → is_in (before ops (x * w) (z * w) (Run l is) i) (at w y q)
        ≡ (((is_in (Run l is) (at w y q) && not (eqb y x && mem q (writes i))) || (eqb y z && mem q (writes i))) || (eqb y x && mem q (reads ops i)))
    step i is s y = before_bits (Run l is) i (rw (length_run l is) h) (rw (length_run l is) g) s y q j

    pub run_own : is_in l (at w x q) ≡ false → (is : List Inst) → ((i : Inst) → In i is → Small ops w i) → is_in (Run l is) (at w x q) ≡ read_first ops q is
    unfolding run
    run_own e [] s = e
    run_own e (i ∷ is) s =
        step i is (s i (inl refl)) x
        ∙ ap₂ (λ (a b : Bool). ((is_in (Run l is) (at w x q) && not (a && mem q (writes i))) || (b && mem q (writes i))) || (a && mem q (reads ops i))) (eqb_self x) (ne_eqb x z apart)
        ∙ own_bool (is_in (Run l is) (at w x q)) (mem q (writes i)) (mem q (reads ops i))
        ∙ ap (λ (b : Bool). mem q (reads ops i) || (not (mem q (writes i)) && b)) (run_own e is (λ i' k. s i' (inr k)))

    pub run_kill : is_in l (at w z q) ≡ false → (is : List Inst) → ((i : Inst) → In i is → Small ops w i) → is_in (Run l is) (at w z q) ≡ written q is
    unfolding run
    run_kill e [] s = e
    run_kill e (i ∷ is) s =
        step i is (s i (inl refl)) z
        ∙ ap₂ (λ (a b : Bool). ((is_in (Run l is) (at w z q) && not (a && mem q (writes i))) || (b && mem q (writes i))) || (a && mem q (reads ops i))) (ne_eqb z x (λ k. apart (sym k))) (eqb_self z)
        ∙ kill_bool (is_in (Run l is) (at w z q)) (mem q (writes i))
        ∙ ap (λ (b : Bool). mem q (writes i) || b) (run_kill e is (λ i' k. s i' (inr k)))

-- ---- a block

-- the registers of its instructions
pub code_small : (bounds recs ops : List ℕ) (w : ℕ) {R : ℕ} → Blocks bounds recs → Code recs ops R → R ≤ 64 * w → (b : ℕ) → b < length bounds / 2
    → (i : Inst) → In i (code (drawn bounds recs ops [] []) b) → Small ops w i
code_small bounds recs ops w ok small fit b h i k =
    let z = in_map (inst recs) i (range (get_or bounds (2 * b) 0) (get_or bounds (2 * b + 1) 0 - get_or bounds (2 * b) 0)) k in
    let p : ℕ = z.0 in
    let y = range_in p (get_or bounds (2 * b) 0) (get_or bounds (2 * b + 1) 0 - get_or bounds (2 * b) 0) z.1 in
    let y1 = y.1 in
    let y0 = y.0 in
    let whole : 16 * p + 16 ≤ length recs = omega (arith, ok.inside b h) in
    subst (λ (i : Inst). Small ops w i) (sym z.2) (record { read = λ q m. lt_of_lt_of_le (small.read p q whole m) fit; written = λ q m. lt_of_lt_of_le (small.written p q whole m) fit })
