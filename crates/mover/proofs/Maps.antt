-- What `move_bounds` leaves: a part of the bounds each of which was made anew, put back among the others. Assumes nothing.
use mathlib.Core.Path.{◌≡◌, refl, ap, ap₂, ◌∙◌}
use mathlib.Core.List.{List, [], ◌∷◌, map}
use Prim.Native.Nat.{ℕ, ◌-◌, ◌≤◌}
use native.Mathlib.Omega.{arith}
use lib.ListN.{length, drop, length-map, length-drop}
use lib.Seq.{length-take-le}
use borrow.Rule.Slice.PartMut.{put_mid, same_len_mid, take_put, drop_put}
use Rattle.std.specs.List.{AllZip}
use Rattle.words.proofs.Parts.{put_part}
use Rattle.mover.specs.Spans.{part, Mapped}

all_map : {R : ℕ → ℕ → Type 0} (f : ℕ → ℕ) → ((x y : ℕ) → R x y → y ≡ f x) → (xs ys : List ℕ) → AllZip R xs ys → ys ≡ map f xs
all_map f h [] [] a = refl
all_map f h [] (y ∷ ys) a = absurd a
all_map f h (x ∷ xs) [] a = absurd a
all_map f h (x ∷ xs) (y ∷ ys) a = ap₂ (λ (z : ℕ) (l : List ℕ). z ∷ l) (h x y a.0) (all_map f h xs ys a.1)

pub mapped_part : {R : ℕ → ℕ → Type 0} (f : ℕ → ℕ) → ((x y : ℕ) → R x y → y ≡ f x) → (a b : ℕ) (xs ys : List ℕ) → a ≤ b → b ≤ length xs → AllZip R (part a (b - a) xs) ys → Mapped f a xs (put_mid a (b - a) xs ys) b
mapped_part f h a b xs ys le top r =
    let e = all_map f h (part a (b - a) xs) ys r in
    let long : length (part a (b - a) xs) ≡ b - a = length-take-le (b - a) (drop a xs) (simp length-drop (omega arith)) in
    let n : length ys ≡ b - a = ap length e ∙ length-map (part a (b - a) xs) f ∙ long in
    record {
      size = same_len_mid a (b - a) xs ys (ap length e ∙ length-map (part a (b - a) xs) f);
      front = take_put a (b - a) xs ys (omega arith);
      mid = put_part a (b - a) xs ys (b - a) (omega arith) n ∙ e;
      back = drop_put a b xs ys le top n;
    }
