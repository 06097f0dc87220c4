-- Where everything stands after the move: rename in place first and move after is what `model`'s `apply` says, block by block.
-- Assumes nothing.
use mathlib.Core.Path.{◌≡◌, refl, sym, ap, ap₂, ◌∙◌, subst}
use mathlib.Core.Logic.{inl, inr, ⊎_elim}
use mathlib.Core.Bool.{Bool, true, false, not, ◌||◌, cond}
use mathlib.Core.List.{List, [], ◌∷◌, ◌++◌, map}
use Prim.Native.Nat.{ℕ, suc, ◌+◌, ◌-◌, ◌*◌, ◌≤◌, ◌<◌}
use native.Mathlib.Nat.{one-mul}
use native.Mathlib.Omega.{arith}
use borrow.Author.Tests.{eqb-true, eqb-false, eq-eqb, ne_eqb, lt-ltb, le-ltb}
use lib.Dec.{eqb}
use lib.ListN.{get_or, length, take, drop, length-append, length-map}
use lib.Seq.{drop-cons}
use Rattle.words.specs.Lists.{In, mem, range, upto, filter, concat, spans}
use Rattle.words.proofs.Bools.{lt?, eq?, clash}
use Rattle.words.proofs.Alls.{any_append}
use Rattle.words.proofs.Lists.{map_append, map_map, made_ext, length_range}
use Rattle.words.proofs.Members.{in_split, in_map, filter_in, range_in, not_in_mem, in_mem, mem_in, map_on, concat_in}
use Rattle.model.specs.Picture.{Picture, Inst, inst, nblocks, starts, ends, size, places}
use Rattle.model.specs.Refusal.{gaps}
use Rattle.model.specs.Move.{Plan, Job, made_all, order_of, order, new_code}
use Rattle.laws.proofs.Applied.{length-made_all}
use Rattle.rename.specs.Runs.{Run}
use Rattle.rename.specs.All.{all_places}
use Rattle.rename.proofs.Records.{inst_same}
use Rattle.rename.proofs.Whole.{outside}
use Rattle.mover.specs.Order.{cell, cells, stays, goes, kept, gone, later, earlier, moved}
use Rattle.mover.specs.Spans.{Shifted}
use Rattle.mover.proofs.Laying as L
use Rattle.mover.proofs.Ordered.{Says, order_x, order_t, order_other, order_later, order_earlier}
use Rattle.mover.proofs.Bounded.{bounds_after}
use Rattle.apply.proofs.Asked.{taken-and_left}

concat_map : {A B : Type 0} (f : A → B) (ls : List (List A)) → concat (map (map f) ls) ≡ map f (concat ls)
concat_map f [] = refl
concat_map {A} {B} f (l ∷ ls) = ap (λ (m : List B). map f l ++ m) (concat_map f ls) ∙ sym (map_append f l (concat ls))

-- words one by one
one_cell : (xs : List ℕ) (p : ℕ) → p < length xs → cell 1 xs p ≡ get_or xs p 0 ∷ []
one_cell xs p h = ap (λ (k : ℕ). take 1 (drop k xs)) (one-mul p) ∙ ap (take 1) (drop-cons xs p 0 h)

cells_one : (xs ps : List ℕ) → ((q : ℕ) → In q ps → q < length xs) → cells 1 xs ps ≡ map (λ p. get_or xs p 0) ps
unfolding cells
cells_one xs [] h = refl
cells_one xs (p ∷ ps) h = ap₂ (λ (a b : List ℕ). a ++ b) (one_cell xs p (h p (inl refl))) (cells_one xs ps (λ q i. h q (inr i)))

module _ (P : Picture) (a : Plan) (N : ℕ) (laid : gaps 0 N P.bounds ≡ false) (w : List ℕ) (m : ℕ) (c : Says a.set w m)
    (x_in : a.x < nblocks P) (t_in : a.into < nblocks P) (apart : a.x ≡ a.into → ⊥) (room : m ≤ size P a.x) where
  abbrev x : ℕ
  x = a.x

  abbrev t : ℕ
  t = a.into

  abbrev lo : ℕ
  lo = starts P x

  abbrev B : ℕ
  B = nblocks P

  abbrev at : ℕ → ℕ
  at b = L.at P N laid b

  -- ---- blocks lie apart

  rises : (b d : ℕ) → b < d → d ≤ B → at (suc b) ≤ at d
  rises b d h k = let s = (L.stretch P N laid (d - suc b) (suc b) (omega arith)).0 in let e = ap at {x = suc b + (d - suc b)} {y = d} (omega arith) in omega arith

  record Within (b q : ℕ) : Type 0 where
    low : at b ≤ q
    high : q < at (suc b)

  places_within : (b q : ℕ) → b < B → In q (places P b) → Within b q
  places_within b q h i =
      let r = range_in q (at b) (size P b) (subst (In q) (L.places_are P N laid b h) i) in
      let n = L.next_is P N laid b h in
      record { low = r.0; high = let z = r.1 in omega arith }

  one_block : (b d q : ℕ) → b < B → d < B → Within b q → Within d q → b ≡ d
  one_block b d q h k u v =
      ⊎_elim (λ l. let r = rises b d l (omega arith) in let p = u.high in let s = v.low in absurd (omega arith))
      (λ g. ⊎_elim (λ l. let r = rises d b l (omega arith) in let p = v.high in let s = u.low in absurd (omega arith)) (λ l. omega arith) (lt? d b)) (lt? b d)

  lo_is : lo ≡ at x
  lo_is = L.start_is P N laid x x_in

  x_within : (p : ℕ) → p < size P x → Within x (lo + p)
  x_within p h = let n = L.next_is P N laid x x_in in let l = lo_is in record { low = omega arith; high = omega arith }

  -- a kept place of x
  record Kept (q : ℕ) : Type 0 where
    within : Within x q
    not_gone : mem q (gone w lo m) ≡ false

  order_x_kept : (q : ℕ) → In q (order_of P a x) → Kept q
  order_x_kept q i = ⊎_elim stay_in rest_in (in_split q (kept w lo m) (range (lo + m) (size P x - m)) (subst (In q) (order_x P a N laid w m c x_in t_in apart room) i))
    where
      stay_in : In q (kept w lo m) → Kept q
      stay_in j =
          let k = in_map (λ z. lo + z) q (filter (stays w) (upto m)) j in
          let f = filter_in (stays w) k.0 (upto m) k.1 in
          let r = (range_in k.0 0 m f.0).1 in
          record {
            within = subst (Within x) (sym k.2) (x_within k.0 (omega arith));
            not_gone = not_in_mem q (gone w lo m) (λ y.
                let k' = in_map (λ z. lo + z) q (filter (goes w) (upto m)) y in
                let f' = filter_in (goes w) k'.0 (upto m) k'.1 in
                let e : k.0 ≡ k'.0 = let u = k.2 in let v = k'.2 in omega arith in
                let s : stays w k'.0 ≡ true = ap (stays w) (sym e) ∙ f.1 in
                clash f'.1 (ap not s));
          }

      rest_in : In q (range (lo + m) (size P x - m)) → Kept q
      rest_in j =
          let r = range_in q (lo + m) (size P x - m) j in
          let u = r.0 in
          let v = r.1 in
          record { within = subst (Within x) {x = lo + (q - lo)} {y = q} (omega arith) (x_within (q - lo) (omega arith)); not_gone = outside w lo m q (λ h. u) }

  -- what stands in a block that is not the target
  order_within : (b q : ℕ) → b < B → (b ≡ t → ⊥) → In q (order_of P a b) → Within b q
  order_within b q h f i =
      ⊎_elim (λ e. subst (λ (z : ℕ). Within z q) (sym e) (order_x_kept q (subst (λ (z : ℕ). In q (order_of P a z)) e i)).within)
      (λ g. places_within b q h (subst (In q) (order_other P a N laid w m c x_in t_in apart room b g f) i)) (eq? b x)

  -- the target's code after: members first
  order_target : order_of P a t ≡ all_places w lo m (starts P t) (ends P t)
  order_target = order_t P a N laid w m c x_in t_in apart room ∙ ap (λ (k : ℕ). gone w lo m ++ range k (size P t)) (sym (L.start_is P N laid t t_in))

  gone_in_x : (q : ℕ) → mem q (gone w lo m) ≡ true → Within x q
  gone_in_x q e =
      let k = in_map (λ z. lo + z) q (filter (goes w) (upto m)) (mem_in q (gone w lo m) e) in
      let r = (range_in k.0 0 m (filter_in (goes w) k.0 (upto m) k.1).0).1 in
      subst (Within x) (sym k.2) (x_within k.0 (omega arith))

  -- places of other blocks are not renamed
  untouched : (b q : ℕ) → b < B → (b ≡ t → ⊥) → In q (order_of P a b) → mem q (all_places w lo m (starts P t) (ends P t)) ≡ false
  untouched b q h f i = any_append (λ z. eqb q z) (gone w lo m) (places P t) ∙ ap₂ (λ (u v : Bool). u || v) (not_gone (mem q (gone w lo m)) refl) (not_in_mem q (places P t) (λ j. f (one_block b t q h t_in (order_within b q h f i) (places_within t q t_in j))))
    where
      not_gone : (y : Bool) → mem q (gone w lo m) ≡ y → y ≡ false
      not_gone false e = refl
      not_gone true e =
          let s : b ≡ x = one_block b x q h x_in (order_within b q h f i) (gone_in_x q e) in
          clash e (order_x_kept q (subst (λ (z : ℕ). In q (order_of P a z)) s i)).not_gone

  -- everything is one of the N instructions
  below : (b q : ℕ) → b < B → Within b q → q < N
  below b q h u =
      let n : at (suc b) ≤ at B = ⊎_elim (λ l. rises b B h (omega arith)) (λ l. rises b B h (omega arith)) (lt? b B) in
      let e = L.end_is P N laid in
      let p = u.high in
      omega arith

  order_below : (b q : ℕ) → b < B → In q (order_of P a b) → q < N
  order_below b q h i = ⊎_elim in_t (λ f. below b q h (order_within b q h f i)) (eq? b t)
    where
      in_t : b ≡ t → q < N
      in_t e =
          ⊎_elim (λ j. below x q x_in (gone_in_x q (in_mem q (gone w lo m) j))) (λ j. below t q t_in (places_within t q t_in j))
          (in_split q (gone w lo m) (places P t) (subst (In q) (ap (order_of P a) e ∙ order_target) i))

  all_below : (q : ℕ) → In q (concat (order P a)) → q < N
  all_below q i =
      let k = concat_in q (order P a) i in
      let b = in_map (order_of P a) k.0 (upto B) k.2 in
      order_below b.0 q (let r = (range_in b.0 0 B b.1).1 in omega arith) (subst (In q) b.2 k.1)

  -- ---- the order, either way

  pub order_moved : 0 < m → concat (order P a) ≡ moved w lo m (starts P t) N
  order_moved some = ⊎_elim go_later go_earlier (lt? x t)
    where
      t_is : starts P t ≡ at t
      t_is = L.start_is P N laid t t_in

      go_later : x < t → concat (order P a) ≡ moved w lo m (starts P t) N
      go_later h =
          let r = rises x t h (omega arith) in
          let n = L.next_is P N laid x x_in in
          let l : lo < starts P t = let z = lo_is in let y = t_is in omega arith in
          order_later P a N laid w m c x_in t_in apart room h ∙ sym (ap (λ (b : Bool). cond b (later w lo m (starts P t) N) (earlier w lo m (starts P t) N)) (lt-ltb lo (starts P t) l))

      go_earlier : t ≤ x → concat (order P a) ≡ moved w lo m (starts P t) N
      go_earlier g =
          let ne : x ≡ t → ⊥ = apart in
          let h : t < x = omega arith in
          let r = rises t x h (omega arith) in
          let n = L.next_is P N laid t t_in in
          let l : starts P t ≤ lo = let z = lo_is in let y = t_is in omega arith in
          order_earlier P a N laid w m c x_in t_in apart room h ∙ sym (ap (λ (b : Bool). cond b (later w lo m (starts P t) N) (earlier w lo m (starts P t) N)) (le-ltb lo (starts P t) l))

  -- ---- words moved as the order says: locs and vias

  pub words_moved : 0 < m → (xs : List ℕ) → N ≡ length xs → {ys : List ℕ} → ys ≡ cells 1 xs (moved w lo m (starts P t) N) → ys ≡ map (λ p. get_or xs p 0) (concat (order P a))
  words_moved some xs e y = y ∙ ap (cells 1 xs) (sym (order_moved some)) ∙ cells_one xs (concat (order P a)) (λ q i. let b = all_below q i in omega arith)

  -- ---- records

  module _ (js : List Job) (ys ops' : List ℕ) (o : ℕ) (run : Run P.opers (all_places w lo m (starts P t) (ends P t)) js P.recs ys P.ops ops' o) (whole : length P.recs ≡ 16 * N) where
    block : (b : ℕ) → b < B → (d : Bool) → eqb b t ≡ d → elim d as (λ z. List Inst) [ true ↦ made_all P.ops P.opers js | false ↦ map (inst P.recs) (order_of P a b) ] ≡ map (inst ys) (order_of P a b)
    block b h true e = sym run.made_are ∙ ap (map (inst ys)) (sym (ap (order_of P a) (eqb-true b t e) ∙ order_target))
    block b h false e =
        sym (map_on (inst ys) (inst P.recs) (order_of P a b) (λ q i.
        inst_same P.recs ys q run.size (let l = order_below b q h i in omega arith) (λ k l. run.others q k (untouched b q h (eqb-false b t e) i) l)))

    pub recs_moved : 0 < m → {zs : List ℕ} → zs ≡ cells 16 ys (moved w lo m (starts P t) N) → zs ≡ concat (concat (map (new_code P a js) (upto B)))
    unfolding cells
    recs_moved some z =
        z ∙ ap (cells 16 ys) (sym (order_moved some)) ∙ ap concat (sym (concat_map (inst ys) (order P a)))
        ∙ ap (λ (l : List (List Inst)). concat (concat l))
        (map_map (map (inst ys)) (order_of P a) (upto B) ∙ sym (made_ext (new_code P a js) (λ b. map (inst ys) (order_of P a b)) 0 B (λ b u v. block b (omega arith) (eqb b t) refl)))

  -- ---- bounds

  pub bounds_moved : (js : List Job) → length js ≡ length (filter (goes w) (upto m)) + size P t → {ys : List ℕ} → Shifted x t (length (filter (goes w) (upto m))) P.bounds ys → ys ≡ spans 0 (map (new_code P a js) (upto B))
  bounds_moved js e = bounds_after P N laid x t n x_in t_in apart (let s = taken-and_left (goes w) m in omega arith) (new_code P a js) (record { at_x = at_x; at_t = at_t; others = others })
    where
      n : ℕ
      n = length (filter (goes w) (upto m))

      pick : (b : ℕ) → Bool → List Inst
      pick b d = elim d as (λ z. List Inst) [ true ↦ made_all P.ops P.opers js | false ↦ map (inst P.recs) (order_of P a b) ]

      not_t : (b : ℕ) → (b ≡ t → ⊥) → length (new_code P a js b) ≡ length (order_of P a b)
      not_t b f = ap (λ (d : Bool). length (pick b d)) (ne_eqb b t f) ∙ length-map (order_of P a b) (inst P.recs)

      count : length (filter (stays w) (upto m)) + length (filter (goes w) (upto m)) ≡ m
      count = let s = taken-and_left (stays w) m in omega arith

      at_x : length (new_code P a js x) ≡ size P x - n
      at_x =
          let k = length-map (filter (stays w) (upto m)) (λ z. lo + z) in
          let r = length_range (lo + m) (size P x - m) in
          let s = length-append (kept w lo m) (range (lo + m) (size P x - m)) in
          let y = count in
          not_t x apart ∙ ap length (order_x P a N laid w m c x_in t_in apart room) ∙ omega arith

      at_t : length (new_code P a js t) ≡ size P t + n
      at_t = ap (λ (d : Bool). length (pick t d)) (eq-eqb t t refl) ∙ length-made_all P.ops P.opers js ∙ omega arith

      others : (b : ℕ) → b < B → (b ≡ x → ⊥) → (b ≡ t → ⊥) → length (new_code P a js b) ≡ size P b
      others b h f g = not_t b g ∙ ap length (order_other P a N laid w m c x_in t_in apart room b f g) ∙ length_range (starts P b) (size P b)
