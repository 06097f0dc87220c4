-- The order that the move leaves is `model`'s: of every block, and of the whole. Assumes nothing.
use mathlib.Core.Path.{◌≡◌, refl, sym, ap, ap₂, ◌∙◌}
use mathlib.Core.Bool.{Bool, true, false, not, not-not}
use mathlib.Core.List.{List, ◌∷◌, ◌++◌, map, append_assoc, append-nil}
use Prim.Native.Nat.{ℕ, ◌+◌, ◌-◌, ◌≤◌, ◌<◌}
use native.Mathlib.Nat.{zero-add, sub-zero}
use native.Mathlib.Omega.{arith}
use borrow.Author.Tests.{eq-eqb, ne_eqb}
use lib.Dec.{eqb}
use Rattle.words.specs.Lists.{range, upto, filter, concat, member}
use Rattle.words.proofs.Lists.{map_append, range_append, shift_range, filter_append, concat_append, made_ext, filter_ext, filter_none, filter_all}
use Rattle.model.specs.Picture.{Picture, nblocks, starts, size, places}
use Rattle.model.specs.Refusal.{gaps}
use Rattle.model.specs.Move.{Plan, members, order_of, order}
use Rattle.mover.specs.Order.{stays, goes, kept, gone, later, earlier}
use Rattle.mover.proofs.Laying as L

-- the marks say who is a member: of the first m positions, which are all of them
pub record Says (set : List Bool) (chain : List ℕ) (m : ℕ) : Type 0 where
  pub marks : (p : ℕ) → p < m → stays chain p ≡ not (member set p)
  pub outside : (p : ℕ) → m ≤ p → member set p ≡ false

module _ (set : List Bool) (chain : List ℕ) (m : ℕ) (c : Says set chain m) where
  -- the positions up to k, at least m of them
  upto_split : (f : ℕ → Bool) (k : ℕ) → m ≤ k → filter f (upto k) ≡ filter f (upto m) ++ filter f (range m (k - m))
  upto_split f k h =
      ap (λ (n : ℕ). filter f (upto n)) {x = k} {y = m + (k - m)} (omega arith) ∙ ap (filter f) (sym (range_append 0 m (k - m)) ∙ ap (λ (z : ℕ). range 0 m ++ range z (k - m)) (zero-add m))
      ∙ filter_append f (upto m) (range m (k - m))

  pub gone_is : (lo k : ℕ) → m ≤ k → map (λ p. lo + p) (filter (member set) (upto k)) ≡ gone chain lo m
  gone_is lo k h =
      ap (map (λ p. lo + p))
      (upto_split (member set) k h
      ∙ ap₂ (λ (x y : List ℕ). x ++ y) (filter_ext (member set) (goes chain) 0 m (λ p a b. sym (ap not (c.marks p (omega arith)) ∙ not-not (member set p))))
      (filter_none (member set) m (k - m) (λ p a b. c.outside p a))
      ∙ append-nil (filter (goes chain) (upto m)))

  pub kept_is : (lo k : ℕ) → m ≤ k → map (λ p. lo + p) (filter (λ p. not (member set p)) (upto k)) ≡ kept chain lo m ++ range (lo + m) (k - m)
  kept_is lo k h =
      ap (map (λ p. lo + p))
      (upto_split (λ p. not (member set p)) k h
      ∙ ap₂ (λ (x y : List ℕ). x ++ y) (filter_ext (λ p. not (member set p)) (stays chain) 0 m (λ p a b. sym (c.marks p (omega arith))))
      (filter_all (λ p. not (member set p)) m (k - m) (λ p a b. ap not (c.outside p a))))
      ∙ map_append (λ p. lo + p) (filter (stays chain) (upto m)) (range m (k - m)) ∙ ap (λ (l : List ℕ). kept chain lo m ++ l) (shift_range lo m (k - m))

module _ (P : Picture) (a : Plan) (n : ℕ) (laid : gaps 0 n P.bounds ≡ false) (chain : List ℕ) (m : ℕ) (c : Says a.set chain m)
    (x_in : a.x < nblocks P) (t_in : a.into < nblocks P) (apart : a.x ≡ a.into → ⊥) (room : m ≤ size P a.x) where
  abbrev x : ℕ
  x = a.x

  abbrev t : ℕ
  t = a.into

  abbrev lo : ℕ
  lo = starts P x

  abbrev edge : ℕ → ℕ
  edge b = L.at P n laid b

  pub order_x : order_of P a x ≡ kept chain lo m ++ range (lo + m) (size P x - m)
  order_x = ap (λ (b : Bool). pick b) (eq-eqb x x refl) ∙ kept_is a.set chain m c lo (size P x) room
    where
      pick : Bool → List ℕ
      pick b = elim b as (λ z. List ℕ) [
        | true ↦ map (λ p. starts P x + p) (filter (λ p. not (member a.set p)) (upto (size P x)))
        | false ↦ elim (eqb x a.into) as (λ z. List ℕ) [ true ↦ map (λ p. starts P a.x + p) (members P a) ++ places P x | false ↦ places P x ]
      ]

  pub order_t : order_of P a t ≡ gone chain lo m ++ range (edge t) (size P t)
  order_t =
      ap₂ pick (ne_eqb t x (λ e. apart (sym e))) (eq-eqb t t refl)
      ∙ ap₂ (λ (l k : List ℕ). l ++ k) (gone_is a.set chain m c lo (size P x) room) (L.places_are P n laid t t_in)
    where
      pick : Bool → Bool → List ℕ
      pick b d = elim b as (λ z. List ℕ) [
        | true ↦ map (λ p. starts P t + p) (filter (λ p. not (member a.set p)) (upto (size P t)))
        | false ↦ elim d as (λ z. List ℕ) [ true ↦ map (λ p. starts P a.x + p) (members P a) ++ places P t | false ↦ places P t ]
      ]

  pub order_other : (b : ℕ) → (b ≡ x → ⊥) → (b ≡ t → ⊥) → order_of P a b ≡ places P b
  order_other b f g = ap₂ pick (ne_eqb b x f) (ne_eqb b t g)
    where
      pick : Bool → Bool → List ℕ
      pick y d = elim y as (λ z. List ℕ) [
        | true ↦ map (λ p. starts P b + p) (filter (λ p. not (member a.set p)) (upto (size P b)))
        | false ↦ elim d as (λ z. List ℕ) [ true ↦ map (λ p. starts P a.x + p) (members P a) ++ places P b | false ↦ places P b ]
      ]

  -- blocks s to s + k, neither x nor t among them
  others : (s k : ℕ) → s + k ≤ nblocks P → ((b : ℕ) → s ≤ b → b < s + k → (b ≡ x → ⊥) × (b ≡ t → ⊥)) → concat (map (order_of P a) (range s k)) ≡ range (edge s) (edge (s + k) - edge s)
  others s k h f = ap concat (made_ext (order_of P a) (places P) s k (λ b u v. order_other b (f b u v).0 (f b u v).1)) ∙ (L.stretch P n laid k s h).1

  concat_five : {A : Type 0} (p : List (List A)) (i : List A) (q : List (List A)) (j : List A) (r : List (List A)) → concat (p ++ (i ∷ (q ++ (j ∷ r)))) ≡ concat p ++ (i ++ (concat q ++ (j ++ concat r)))
  concat_five {A} p i q j r = concat_append p (i ∷ (q ++ (j ∷ r))) ∙ ap (λ (l : List A). concat p ++ (i ++ l)) (concat_append q (j ∷ r))

  -- places one after the other
  join : (s e u : ℕ) → s ≤ e → e ≤ u → range s (e - s) ++ range e (u - e) ≡ range s (u - s)
  join s e u h k =
      ap (λ (z : ℕ). range s (e - s) ++ range z (u - e)) {x = e} {y = s + (e - s)} (omega arith) ∙ range_append s (e - s) (u - e)
      ∙ ap (range s) {x = e - s + (u - e)} {y = u - s} (omega arith)

  pub order_later : x < t → concat (order P a) ≡ later chain lo m (starts P t) n
  order_later h =
      let B = nblocks P in
      let lo_is : lo ≡ edge x = L.start_is P n laid x x_in in
      let t_is : starts P t ≡ edge t = L.start_is P n laid t t_in in
      let xe : edge (x + 1) ≡ lo + size P x = ap edge (native.Mathlib.Numerals.add-one x) ∙ L.next_is P n laid x x_in ∙ ap (λ (k : ℕ). k + size P x) (sym lo_is) in
      let te : edge (t + 1) ≡ edge t + size P t = ap edge (native.Mathlib.Numerals.add-one t) ∙ L.next_is P n laid t t_in in
      let s2 = L.stretch P n laid (t - (x + 1)) (x + 1) (omega arith) in
      let e2 : edge (x + 1 + (t - (x + 1))) ≡ edge t = ap edge {x = x + 1 + (t - (x + 1))} {y = t} (omega arith) in
      let s3 = L.stretch P n laid (B - (t + 1)) (t + 1) (omega arith) in
      let e3 : edge (t + 1 + (B - (t + 1))) ≡ n = ap edge {x = t + 1 + (B - (t + 1))} {y = B} (omega arith) ∙ L.end_is P n laid in
      let up2 = s2.0 in
      let up3 = s3.0 in
      let one : concat (map (order_of P a) (range 0 x)) ≡ range 0 lo =
      others 0 x (omega arith) (λ b u v. ((λ e. omega arith), (λ e. omega arith))) ∙ ap (range 0) (sub-zero (edge (0 + x)) ∙ ap edge (zero-add x) ∙ sym lo_is) in
      let two : concat (map (order_of P a) (range (x + 1) (t - (x + 1)))) ≡ range (edge (x + 1)) (edge t - edge (x + 1)) =
      others (x + 1) (t - (x + 1)) (omega arith) (λ b u v. ((λ e. omega arith), (λ e. omega arith))) ∙ ap (λ (k : ℕ). range (edge (x + 1)) (k - edge (x + 1))) e2 in
      let three : concat (map (order_of P a) (range (t + 1) (B - (t + 1)))) ≡ range (edge (t + 1)) (n - edge (t + 1)) =
      others (t + 1) (B - (t + 1)) (omega arith) (λ b u v. ((λ e. omega arith), (λ e. omega arith))) ∙ ap (λ (k : ℕ). range (edge (t + 1)) (k - edge (t + 1))) e3 in
      let K = kept chain lo m in
      let G = gone chain lo m in
      let rest : range (edge t) (size P t) ++ range (edge (t + 1)) (n - edge (t + 1)) ≡ range (starts P t) (n - starts P t) =
      ap (λ (k : ℕ). range (edge t) k ++ range (edge (t + 1)) (n - edge (t + 1))) {x = size P t} {y = edge (t + 1) - edge t} (omega arith)
      ∙ join (edge t) (edge (t + 1)) n (omega arith) (omega arith) ∙ ap (λ (k : ℕ). range k (n - k)) (sym t_is) in
      let mid : range (lo + m) (size P x - m) ++ range (edge (x + 1)) (edge t - edge (x + 1)) ≡ range (lo + m) (starts P t - (lo + m)) =
      ap (λ (k : ℕ). range (lo + m) k ++ range (edge (x + 1)) (edge t - edge (x + 1))) {x = size P x - m} {y = edge (x + 1) - (lo + m)} (omega arith)
      ∙ join (lo + m) (edge (x + 1)) (edge t) (omega arith) (omega arith) ∙ ap (λ (k : ℕ). range (lo + m) (k - (lo + m))) (sym t_is) in
      ap concat (L.split_two (order_of P a) B x t h t_in)
      ∙ concat_five (map (order_of P a) (range 0 x)) (order_of P a x) (map (order_of P a) (range (x + 1) (t - (x + 1)))) (order_of P a t) (map (order_of P a) (range (t + 1) (B - (t + 1))))
      ∙ ap₂ (λ (p q : List ℕ). p ++ q) one
      (ap₂ (λ (p q : List ℕ). p ++ q) order_x (ap₂ (λ (p q : List ℕ). p ++ q) two (ap₂ (λ (p q : List ℕ). p ++ q) order_t three ∙ append_assoc G (range (edge t) (size P t)) (range (edge (t + 1)) (n - edge (t + 1))) ∙ ap (λ (l : List ℕ). G ++ l) rest))
      ∙ append_assoc K (range (lo + m) (size P x - m)) (range (edge (x + 1)) (edge t - edge (x + 1)) ++ (G ++ range (starts P t) (n - starts P t)))
      ∙ ap (λ (l : List ℕ). K ++ l) (sym (append_assoc (range (lo + m) (size P x - m)) (range (edge (x + 1)) (edge t - edge (x + 1))) (G ++ range (starts P t) (n - starts P t))) ∙ ap (λ (l : List ℕ). l ++ (G ++ range (starts P t) (n - starts P t))) mid))

  pub order_earlier : t < x → concat (order P a) ≡ earlier chain lo m (starts P t) n
  order_earlier h =
      let B = nblocks P in
      let lo_is : lo ≡ edge x = L.start_is P n laid x x_in in
      let t_is : starts P t ≡ edge t = L.start_is P n laid t t_in in
      let xe : edge (x + 1) ≡ lo + size P x = ap edge (native.Mathlib.Numerals.add-one x) ∙ L.next_is P n laid x x_in ∙ ap (λ (k : ℕ). k + size P x) (sym lo_is) in
      let te : edge (t + 1) ≡ edge t + size P t = ap edge (native.Mathlib.Numerals.add-one t) ∙ L.next_is P n laid t t_in in
      let s2 = L.stretch P n laid (x - (t + 1)) (t + 1) (omega arith) in
      let e2 : edge (t + 1 + (x - (t + 1))) ≡ lo = ap edge {x = t + 1 + (x - (t + 1))} {y = x} (omega arith) ∙ sym lo_is in
      let s3 = L.stretch P n laid (B - (x + 1)) (x + 1) (omega arith) in
      let e3 : edge (x + 1 + (B - (x + 1))) ≡ n = ap edge {x = x + 1 + (B - (x + 1))} {y = B} (omega arith) ∙ L.end_is P n laid in
      let up2 = s2.0 in
      let up3 = s3.0 in
      let one : concat (map (order_of P a) (range 0 t)) ≡ range 0 (starts P t) =
      others 0 t (omega arith) (λ b u v. ((λ e. omega arith), (λ e. omega arith))) ∙ ap (range 0) (sub-zero (edge (0 + t)) ∙ ap edge (zero-add t) ∙ sym t_is) in
      let two : concat (map (order_of P a) (range (t + 1) (x - (t + 1)))) ≡ range (edge (t + 1)) (lo - edge (t + 1)) =
      others (t + 1) (x - (t + 1)) (omega arith) (λ b u v. ((λ e. omega arith), (λ e. omega arith))) ∙ ap (λ (k : ℕ). range (edge (t + 1)) (k - edge (t + 1))) e2 in
      let three : concat (map (order_of P a) (range (x + 1) (B - (x + 1)))) ≡ range (edge (x + 1)) (n - edge (x + 1)) =
      others (x + 1) (B - (x + 1)) (omega arith) (λ b u v. ((λ e. omega arith), (λ e. omega arith))) ∙ ap (λ (k : ℕ). range (edge (x + 1)) (k - edge (x + 1))) e3 in
      let K = kept chain lo m in
      let G = gone chain lo m in
      let rest : range (lo + m) (size P x - m) ++ range (edge (x + 1)) (n - edge (x + 1)) ≡ range (lo + m) (n - (lo + m)) =
      ap (λ (k : ℕ). range (lo + m) k ++ range (edge (x + 1)) (n - edge (x + 1))) {x = size P x - m} {y = edge (x + 1) - (lo + m)} (omega arith)
      ∙ join (lo + m) (edge (x + 1)) n (omega arith) (omega arith) in
      let mid : range (edge t) (size P t) ++ range (edge (t + 1)) (lo - edge (t + 1)) ≡ range (starts P t) (lo - starts P t) =
      ap (λ (k : ℕ). range (edge t) k ++ range (edge (t + 1)) (lo - edge (t + 1))) {x = size P t} {y = edge (t + 1) - edge t} (omega arith)
      ∙ join (edge t) (edge (t + 1)) lo (omega arith) (omega arith) ∙ ap (λ (k : ℕ). range k (lo - k)) (sym t_is) in
      let tail : List ℕ = K ++ range (lo + m) (n - (lo + m)) in
      ap concat (L.split_two (order_of P a) B t x h x_in)
      ∙ concat_five (map (order_of P a) (range 0 t)) (order_of P a t) (map (order_of P a) (range (t + 1) (x - (t + 1)))) (order_of P a x) (map (order_of P a) (range (x + 1) (B - (x + 1))))
      ∙ ap₂ (λ (p q : List ℕ). p ++ q) one
      (ap₂ (λ (p q : List ℕ). p ++ q) order_t (ap₂ (λ (p q : List ℕ). p ++ q) two (ap₂ (λ (p q : List ℕ). p ++ q) order_x three ∙ append_assoc K (range (lo + m) (size P x - m)) (range (edge (x + 1)) (n - edge (x + 1))) ∙ ap (λ (l : List ℕ). K ++ l) rest))
      ∙ append_assoc G (range (edge t) (size P t)) (range (edge (t + 1)) (lo - edge (t + 1)) ++ tail)
      ∙ ap (λ (l : List ℕ). G ++ l) (sym (append_assoc (range (edge t) (size P t)) (range (edge (t + 1)) (lo - edge (t + 1))) tail) ∙ ap (λ (l : List ℕ). l ++ tail) mid))
