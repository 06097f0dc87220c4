-- The words of the registers, as a part of the work that is lent to a step. Assumes nothing.
use mathlib.Core.Path.{◌≡◌, refl, sym, ap, ◌∙◌, subst}
use mathlib.Core.Bool.{Bool}
use mathlib.Core.List.{List}
use Prim.Native.Nat.{ℕ, ◌+◌, ◌-◌, ◌≤◌}
use native.Mathlib.Omega.{arith}
use borrow.Rule.Slice.PartMut.{put_mid, mid_of, same_len_mid, mid_len, take_put, drop_put}
use lib.ListN.{length, take, drop, replicate, length-replicate}
use Rattle.summary.specs.declared.notes.Lasts.{Lasts}
use Rattle.words.proofs.Parts.{put_part}
use Rattle.facts.specs.declared.Fact.{Fact}
use Rattle.summary.specs.Passes.{Backed, Forwarded, Around, Near, Written, Readable}
use Rattle.plan.specs.Sweep.{part}

-- ---- the part that is lent comes back

pub part_len : (s k : ℕ) (work : List ℕ) → s + k ≤ length work → length (part s k work) ≡ k
part_len s k work h = let z : s + k - s ≡ k = omega arith in ap (λ (x : ℕ). length (take x (drop s work))) (sym z) ∙ mid_len s (s + k) work h ∙ z

module _ {s e : ℕ} (work ys : List ℕ) (h : s ≤ e) (l : e ≤ length work) (n : length ys ≡ length (mid_of s (e - s) work)) where
  pub part_is : part s (e - s) (put_mid s (e - s) work ys) ≡ ys
  part_is = put_part s (e - s) work ys (e - s) (omega arith) (n ∙ mid_len s e work l)

  pub part_around : Around s (e - s) work (put_mid s (e - s) work ys)
  part_around = let z : s + (e - s) ≡ e = omega arith in record {
    size = same_len_mid s (e - s) work ys n;
    below = take_put s (e - s) work ys (omega arith);
    behind = ap (λ (k : ℕ). drop k (put_mid s (e - s) work ys)) z ∙ drop_put s e work ys h l (n ∙ mid_len s e work l) ∙ ap (λ (k : ℕ). drop k work) (sym z);
  }

-- the registers' words, k from s on, end at s + k
sized : (s k : ℕ) → s + k - s ≡ k
sized s k = omega arith

module _ (s k : ℕ) (work ys : List ℕ) (l : s + k ≤ length work) (n : length ys ≡ length (mid_of s (s + k - s) work)) where
  pub words_are : part s k (put_mid s (s + k - s) work ys) ≡ ys
  words_are = subst (λ (x : ℕ). part s x (put_mid s (s + k - s) work ys) ≡ ys) (sized s k) (part_is work ys (omega arith) l n)

  pub words_around : Around s k work (put_mid s (s + k - s) work ys)
  words_around = subst (λ (x : ℕ). Around s x work (put_mid s (s + k - s) work ys)) (sized s k) (part_around work ys (omega arith) l n)

module _ {recs ops : List ℕ} {f : Fact} {p s k : ℕ} (work : List ℕ) {ys : List ℕ} {ls ls' : Lasts} {b : Bool} (l : s + k ≤ length work) where
  pub back_part : Backed recs ops f p (part s (s + k - s) work) ls ys ls' b → Backed recs ops f p (part s k work) ls (part s k (put_mid s (s + k - s) work ys)) ls' b × Around s k work (put_mid s (s + k - s) work ys)
  back_part d = (
    subst (λ (x : List ℕ). Backed recs ops f p (part s k work) ls x ls' b) (sym (words_are s k work ys l d.size))
        (subst (λ (x : ℕ). Backed recs ops f p (part s x work) ls ys ls' b) (sized s k) d),
    words_around s k work ys l d.size,
  )

  pub forth_part : {regs : List ℕ} → Forwarded recs ops regs f p (part s (s + k - s) work) ls ys ls' b
      → Forwarded recs ops regs f p (part s k work) ls (part s k (put_mid s (s + k - s) work ys)) ls' b × Around s k work (put_mid s (s + k - s) work ys)
  forth_part {regs} d = (
    subst (λ (x : List ℕ). Forwarded recs ops regs f p (part s k work) ls x ls' b) (sym (words_are s k work ys l d.stamped.size))
        (subst (λ (x : ℕ). Forwarded recs ops regs f p (part s x work) ls ys ls' b) (sized s k) d),
    words_around s k work ys l d.stamped.size,
  )

-- what the steps ask of the part
module _ (s k : ℕ) (work : List ℕ) (l : s + k ≤ length work) where
  pub words_long : length (mid_of s (s + k - s) work) ≡ k
  words_long = mid_len s (s + k) work l ∙ sized s k

  pub words_written : {recs : List ℕ} {g d : ℕ} {more : Bool} → Written recs k g d more → Written recs (length (mid_of s (s + k - s) work)) g d more
  words_written {recs} {g} {d} {more} a = subst (λ (m : ℕ). Written recs m g d more) (sym words_long) a

  pub words_readable : {recs ops : List ℕ} {f : Fact} → Readable recs ops k f → Readable recs ops (length (mid_of s (s + k - s) work)) f
  words_readable {recs} {ops} {f} a = subst (λ (m : ℕ). Readable recs ops m f) (sym words_long) a

  pub words_near : Near (part s k work) → Near (mid_of s (s + k - s) work)
  words_near a = subst (λ (x : ℕ). Near (part s x work)) (sym (sized s k)) a

-- the part is cleared: its words ys are 0
pub words_clear : (s k : ℕ) (work ys : List ℕ) → s + k ≤ length work → ys ≡ replicate (length (mid_of s (s + k - s) work)) 0 → part s k (put_mid s (s + k - s) work ys) ≡ replicate k 0 × Around s k work (put_mid s (s + k - s) work ys)
words_clear s k work ys l e =
    let n = ap length e ∙ length-replicate (length (mid_of s (s + k - s) work)) 0 in
    (words_are s k work ys l n ∙ e ∙ ap (λ (x : ℕ). replicate x 0) (words_long s k work l), words_around s k work ys l n)

pub around_on : {s k : ℕ} {x y z : List ℕ} → Around s k x y → Around s k y z → Around s k x z
around_on a b = record { size = b.size ∙ a.size; below = b.below ∙ a.below; behind = b.behind ∙ a.behind }

pub around_none : (s k : ℕ) (work : List ℕ) → Around s k work work
around_none s k work = record { size = refl; below = refl; behind = refl }
