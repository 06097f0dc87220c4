-- `put_uses`: the part that is lent, and a position's last use, which is put among the words of the chain. Assumes nothing.
use mathlib.Core.Path.{◌≡◌, refl, sym, ap, ◌∙◌, subst}
use mathlib.Core.Logic.{⊎_elim}
use mathlib.Core.List.{List, ◌++◌}
use Prim.Native.Nat.{ℕ, ◌+◌, ◌*◌, ◌-◌, ◌≤◌, ◌<◌}
use native.Mathlib.Nat.{le_refl}
use native.Mathlib.Omega.{arith}
use borrow.Rule.Slice.PartMut.{put_mid, same_len_mid, mid_len, take_put, drop_put}
use lib.ListN.{get_or, length, take, drop, set, length-set, length-drop, length-append, get_or-append}
use lib.Seq.{get_or-drop, get_or-take, get_or-append_right, get_or-set_same, get_or-set_other, length-take-le}
use Rattle.std.proofs.lemmas.Bool.{cases_lt}
use Rattle.std.proofs.lemmas.Slice.{drop-append-drop}
use Rattle.words.proofs.Parts.{below_split}
use Rattle.summary.specs.Passes.{Around}
use Rattle.chainwords.specs.Puts.{use_of, Lasting}

-- ---- the part

pub part_long : (a k : ℕ) (xs : List ℕ) → a + k ≤ length xs → length (take (a + k - a) (drop a xs)) ≡ k
part_long a k xs h = mid_len a (a + k) xs h ∙ omega arith

pub around_part : {b : ℕ} (a k : ℕ) (xs ys : List ℕ) → a ≡ b → b + k ≤ length xs → length ys ≡ length (take (a + k - a) (drop a xs)) → Around b k xs (put_mid a (a + k - a) xs ys)
around_part a k xs ys q h e =
    let long : a + k ≤ length xs = omega arith in
    subst (λ (b : ℕ). Around b k xs (put_mid a (a + k - a) xs ys)) q (record {
      size = same_len_mid a (a + k - a) xs ys e;
      below = take_put a (a + k - a) xs ys (omega arith);
      behind = drop_put a (a + k) xs ys (omega arith) long (e ∙ mid_len a (a + k) xs long);
    })

-- ---- the first p positions

pub lasting_none : (recs lasts regs bits w : List ℕ) (o n : ℕ) → Lasting recs lasts regs bits w w o n 0
lasting_none recs lasts regs bits w o n = record { size = refl; last = λ q h. absurd (omega arith); others = λ q j h k. refl; rest = λ i h. refl }

module _ {recs lasts regs bits before after : List ℕ} {o n p : ℕ} (h : Lasting recs lasts regs bits before after o n p) where
  pub number : (q : ℕ) → get_or after (10 * q) 0 ≡ get_or before (10 * q) 0
  number q = let z : 10 * q + 0 ≡ 10 * q = omega arith in subst (λ (k : ℕ). get_or after k 0 ≡ get_or before k 0) z (h.others q 0 (omega arith) (λ e. let y : ◌≡◌ {A = ℕ} 0 7 = e in absurd (omega arith)))

  pub lasting_more : {y : ℕ} → p < 800 → 8000 ≤ length before → y ≡ use_of recs regs bits o lasts n (get_or after (10 * p) 0) p → Lasting recs lasts regs bits before (set after (10 * p + 7) y) o n (p + 1)
  lasting_more {y} l k ey =
      let same : y ≡ use_of recs regs bits o lasts n (get_or before (10 * p) 0) p = ey ∙ ap (λ (g : ℕ). use_of recs regs bits o lasts n g p) (number p) in
      record {
        size = length-set after (10 * p + 7) y ∙ h.size;
        last = λ q i. ⊎_elim
            (λ (b : q < p). get_or-set_other after (10 * p + 7) (10 * q + 7) y 0 (λ e. omega arith) ∙ h.last q b)
            (λ (e : q ≡ p). subst (λ (z : ℕ). get_or (set after (10 * p + 7) y) (10 * z + 7) 0 ≡ use_of recs regs bits o lasts n (get_or before (10 * z) 0) z) (sym e)
            (get_or-set_same after (10 * p + 7) y 0 (omega (arith, h.size)) ∙ same)) (below_split q p i);
        others = λ q j i d. get_or-set_other after (10 * p + 7) (10 * q + j) y 0 (λ e. d (omega arith)) ∙ h.others q j i d;
        rest = λ i b. get_or-set_other after (10 * p + 7) i y 0 (λ e. omega arith) ∙ h.rest i (omega arith);
      }

-- ---- in the words of the chain, which are the first 8,000

pub front_word : (w : List ℕ) (i : ℕ) → i < 8000 → get_or (take 8000 w) i 0 ≡ get_or w i 0
front_word w i h = get_or-take 8000 w i 0 h

module _ (w : List ℕ) (room : 8000 ≤ length w) where
  module _ {recs lasts regs bits ws : List ℕ} {o n p : ℕ} (few : p ≤ 800) (h : Lasting recs lasts regs bits (take 8000 w) ws o n p) where
    long : length ws ≡ 8000
    long = h.size ∙ length-take-le 8000 w room

    front : (i : ℕ) → i < 8000 → get_or (ws ++ drop 8000 w) i 0 ≡ get_or ws i 0
    front i l = get_or-append ws (drop 8000 w) 0 i (omega (arith, long))

    back : (i : ℕ) → 8000 ≤ i → get_or (ws ++ drop 8000 w) i 0 ≡ get_or w i 0
    back i l =
        get_or-append_right ws (drop 8000 w) i 0 (omega (arith, long)) ∙ get_or-drop 8000 w (i - length ws) 0
        ∙ ap (λ (k : ℕ). get_or w k 0) (omega (arith, long))

    same : (i : ℕ) → (i < 8000 → get_or ws i 0 ≡ get_or (take 8000 w) i 0) → get_or (ws ++ drop 8000 w) i 0 ≡ get_or w i 0
    same i f = ⊎_elim (λ (l : i < 8000). front i l ∙ f l ∙ front_word w i l) (λ (l : 8000 ≤ i). back i l) (cases_lt i 8000)

    pub lasting_whole : Lasting recs lasts regs bits w (ws ++ drop 8000 w) o n p
    lasting_whole = record {
      size = length-append ws (drop 8000 w) ∙ omega (arith, long, length-drop 8000 w);
      last = λ q l. front (10 * q + 7) (omega arith) ∙ h.last q l ∙ ap (λ (g : ℕ). use_of recs regs bits o lasts n g q) (front_word w (10 * q) (omega arith));
      others = λ q j l d. same (10 * q + j) (λ _. h.others q j l d);
      rest = λ i l. same i (λ _. h.rest i l);
    }

    pub behind_same : drop 8000 (ws ++ drop 8000 w) ≡ drop 8000 w
    behind_same = drop-append-drop 8000 w ws 8000 (le_refl 8000) long
