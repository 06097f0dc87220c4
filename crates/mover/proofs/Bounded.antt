-- The bounds that `move_bounds` leaves are those of the blocks after. Assumes nothing.
use mathlib.Core.Path.{◌≡◌, refl, sym, ap, ap₂, ◌∙◌, subst}
use mathlib.Core.Bool.{false}
use mathlib.Core.List.{List, ◌∷◌, ◌++◌, map}
use Prim.Native.Nat.{ℕ, ◌+◌, ◌-◌, ◌*◌, ◌≤◌, ◌<◌}
use native.Mathlib.Omega.{arith}
use lib.ListN.{length}
use Rattle.words.specs.Lists.{range, upto, spans}
use Rattle.words.proofs.Lists.{map_map, made_ext, length_made}
use Rattle.model.specs.Picture.{Picture, nblocks, size}
use Rattle.model.specs.Refusal.{gaps}
use Rattle.words.proofs.Bools.{lt?}
use mathlib.Core.Logic.{⊎_elim}
use Rattle.mover.specs.Spans.{Mapped, Shifted, ShiftAsk}
use Rattle.mover.proofs.Lengths.{bounds_of, spans_lengths, down_law, up_law}
use Rattle.mover.proofs.Laying as L

module _ (P : Picture) (n : ℕ) (laid : gaps 0 n P.bounds ≡ false) (x t c : ℕ) (x_in : x < nblocks P) (t_in : t < nblocks P) (apart : x ≡ t → ⊥) (enough : c ≤ size P x) where
  -- a list for each block: as long as before, but x's c shorter and t's c longer
  pub record Resized {A : Type 0} (F : ℕ → List A) : Type 0 where
    pub at_x : length (F x) ≡ size P x - c
    pub at_t : length (F t) ≡ size P t + c
    pub others : (b : ℕ) → b < nblocks P → (b ≡ x → ⊥) → (b ≡ t → ⊥) → length (F b) ≡ size P b

  module _ {A : Type 0} (F : ℕ → List A) (r : Resized F) where
    abbrev B : ℕ
    B = nblocks P

    abbrev len : ℕ → ℕ
    len b = length (F b)

    same : (u k : ℕ) → u + k ≤ B → ((b : ℕ) → u ≤ b → b < u + k → (b ≡ x → ⊥) × (b ≡ t → ⊥)) → map (size P) (range u k) ≡ map len (range u k)
    same u k h f = sym (made_ext len (size P) u k (λ b v w. r.others b (omega arith) (f b v w).0 (f b v w).1))

    after : bounds_of 0 (map len (upto B)) ≡ spans 0 (map F (upto B))
    after = sym (spans_lengths 0 (map F (upto B)) ∙ ap (bounds_of 0) (map_map length F (upto B)))

    -- the lengths of the blocks apart from the two, i the earlier and j the later of them
    before : (i j p q : ℕ) → i < j → j < B → size P i ≡ p → size P j ≡ q → ((b : ℕ) → (b ≡ i → ⊥) → (b ≡ j → ⊥) → (b ≡ x → ⊥) × (b ≡ t → ⊥))
        → P.bounds ≡ bounds_of 0 (map len (range 0 i) ++ (p ∷ (map len (range (i + 1) (j - (i + 1))) ++ (q ∷ map len (range (j + 1) (B - (j + 1)))))))
    before i j p q h k ep eq f =
        L.bounds_are P n laid
        ∙ ap (bounds_of 0)
        (L.split_two (size P) B i j h k
        ∙ ap₂ (λ (u v : List ℕ). u ++ v) (same 0 i (omega arith) (λ b v w. f b (λ e. omega arith) (λ e. omega arith)))
        (ap₂ (λ (u : ℕ) (v : List ℕ). u ∷ v) ep
        (ap₂ (λ (u v : List ℕ). u ++ v) (same (i + 1) (j - (i + 1)) (omega arith) (λ b v w. f b (λ e. omega arith) (λ e. omega arith)))
        (ap₂ (λ (u : ℕ) (v : List ℕ). u ∷ v) eq (same (j + 1) (B - (j + 1)) (omega arith) (λ b v w. f b (λ e. omega arith) (λ e. omega arith)))))))

    done : (i j p q : ℕ) → i < j → j < B → p ≡ len i → q ≡ len j → {ys : List ℕ}
        → ys ≡ bounds_of 0 (map len (range 0 i) ++ (p ∷ (map len (range (i + 1) (j - (i + 1))) ++ (q ∷ map len (range (j + 1) (B - (j + 1))))))) → ys ≡ spans 0 (map F (upto B))
    done i j p q h k ep eq e =
        e ∙ ap₂ (λ (u v : ℕ). bounds_of 0 (map len (range 0 i) ++ (u ∷ (map len (range (i + 1) (j - (i + 1))) ++ (v ∷ map len (range (j + 1) (B - (j + 1)))))))) ep eq
        ∙ ap (bounds_of 0) (sym (L.split_two len B i j h k)) ∙ after

    pub bounds_after : {ys : List ℕ} → Shifted x t c P.bounds ys → ys ≡ spans 0 (map F (upto B))
    bounds_after {ys} s = ⊎_elim go_later go_earlier (lt? x t)
      where
        go_later : x < t → ys ≡ spans 0 (map F (upto B))
        go_later h =
            let A : List ℕ = map len (range 0 x) in
            let M : List ℕ = map len (range (x + 1) (t - (x + 1))) in
            let Z : List ℕ = map len (range (t + 1) (B - (t + 1))) in
            let la : length A ≡ x = length_made len 0 x in
            let lm : length M ≡ t - (x + 1) = length_made len (x + 1) (t - (x + 1)) in
            done x t (size P x - c) (size P t + c) h t_in (sym r.at_x) (sym r.at_t)
            (down_law c 0 A M Z (size P x - c) (size P t) (before x t (size P x - c + c) (size P t) h t_in (omega arith) refl (λ b u v. (u, v)))
            (subst (λ (k : ℕ). Mapped (λ w. w - c) k P.bounds ys (2 * length A + 2 + 2 * length M + 1)) {x = 2 * x + 1} {y = 2 * length A + 1} (omega arith)
            (subst (Mapped (λ w. w - c) (2 * x + 1) P.bounds ys) {x = 2 * t + 1} {y = 2 * length A + 2 + 2 * length M + 1} (omega arith) (s.later h))))

        go_earlier : t ≤ x → ys ≡ spans 0 (map F (upto B))
        go_earlier g =
            let h : t < x = let ne : x ≡ t → ⊥ = apart in omega arith in
            let A : List ℕ = map len (range 0 t) in
            let M : List ℕ = map len (range (t + 1) (x - (t + 1))) in
            let Z : List ℕ = map len (range (x + 1) (B - (x + 1))) in
            let la : length A ≡ t = length_made len 0 t in
            let lm : length M ≡ x - (t + 1) = length_made len (t + 1) (x - (t + 1)) in
            done t x (size P t + c) (size P x - c) h x_in (sym r.at_t) (sym r.at_x)
            (up_law c 0 A M Z (size P x - c) (size P t) (before t x (size P t) (size P x - c + c) h x_in refl (omega arith) (λ b u v. (v, u)))
            (subst (λ (k : ℕ). Mapped (λ w. w + c) k P.bounds ys (2 * length A + 2 + 2 * length M + 1)) {x = 2 * t + 1} {y = 2 * length A + 1} (omega arith)
            (subst (Mapped (λ w. w + c) (2 * t + 1) P.bounds ys) {x = 2 * x + 1} {y = 2 * length A + 2 + 2 * length M + 1} (omega arith) (s.earlier h))))

  -- what `move_bounds` asks
  pub shift_ask : n + c < 4294967296 → ShiftAsk x t c P.bounds
  shift_ask few = record {
    other = apart;
    x_in = L.in_bounds P n laid x x_in;
    t_in = L.in_bounds P n laid t t_in;
    enough = λ k h l. L.above P n laid x k c x_in enough h (let i = L.in_bounds P n laid t t_in in omega arith);
    small = λ k h l. let b = L.below P n laid k (let i = L.in_bounds P n laid x x_in in omega arith) in omega arith;
  }

-- ---- by the places of the two blocks

module _ (x t c a b : ℕ) {xs ys : List ℕ} (ea : a ≡ x) (eb : b ≡ t) where
  pub shifted_down : a < b → Mapped (λ w. w - c) (2 * a + 1) xs ys (2 * b + 1) → Shifted x t c xs ys
  shifted_down lt m = record {
    size = m.size;
    later = λ h.
        subst (λ (z : ℕ). Mapped (λ w. w - c) (2 * x + 1) xs ys (2 * z + 1)) eb
        (subst (λ (z : ℕ). Mapped (λ w. w - c) (2 * z + 1) xs ys (2 * b + 1)) ea m);
    earlier = λ h. absurd (omega arith);
  }

  pub shifted_up : b ≤ a → Mapped (λ w. w + c) (2 * b + 1) xs ys (2 * a + 1) → Shifted x t c xs ys
  shifted_up le m = record {
    size = m.size;
    later = λ h. absurd (omega arith);
    earlier = λ h.
        subst (λ (z : ℕ). Mapped (λ w. w + c) (2 * t + 1) xs ys (2 * z + 1)) ea
        (subst (λ (z : ℕ). Mapped (λ w. w + c) (2 * z + 1) xs ys (2 * a + 1)) eb m);
  }
