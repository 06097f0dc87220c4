-- The new registers' types, written behind those in use. Assumes nothing.
use Rattle.std.specs.Prelude.{Option}
use mathlib.Core.Path.{◌≡◌, refl, sym, ap, ap₂, ◌∙◌, subst}
use mathlib.Core.Bool.{Bool, true, false, cond}
use mathlib.Core.List.{List, [], ◌∷◌, ◌++◌, append_assoc}
use Prim.Native.Nat.{ℕ, zero, suc, ◌+◌, ◌-◌, ◌≤◌, ◌<◌}
use native.Mathlib.Nat.{le_antisymm}
use native.Mathlib.Numerals.{add-one}
use native.Mathlib.Omega.{arith}
use borrow.Author.Tests.{eq-eqb, ne_eqb, eqb-true}
use lib.Dec.{eqb}
use lib.ListN.{length, take, drop, get_or, set, length-set, length-append, length-drop, take-append-drop, get_or-append}
use lib.Seq.{drop-cons, set-append_seam, append_snoc, get_or-take, length-take-le}
use Rattle.model.specs.Picture.{absent}
use Rattle.inst.specs.Index.{reg_of, word_of, Among}
use Rattle.inst.specs.declared.index.Reg.{Reg}
use Rattle.inst.proofs.Indices.{among_made, word_made}
use Rattle.pool.specs.Pool.{grow_if, typed, width, new_at, wrote_at}
use Rattle.std.specs.Int.{from_bool}
use Rattle.pool.specs.Types.{over, TypeAdded, TypesFit}
use Rattle.pool.proofs.Lows.{grown_length}

-- one more word over T
over_more : (ts T : List ℕ) (v : ℕ) → length ts < length T → set (over ts T) (length ts) v ≡ over (ts ++ (v ∷ [])) T
over_more ts T v h =
    ap (λ (l : List ℕ). set (ts ++ l) (length ts) v) (drop-cons T (length ts) 0 h) ∙ set-append_seam ts (get_or T (length ts) 0) (drop (suc (length ts)) T) v
    ∙ sym (append_snoc ts v (drop (suc (length ts)) T)) ∙ ap (λ (k : ℕ). ts ++ (v ∷ []) ++ drop k T) (sym (length-append ts (v ∷ []) ∙ add-one (length ts)))

-- a list over a longer one, by its length
fits_over : (ts T xs : List ℕ) → xs ≡ over ts T → length ts < length xs → length ts < length T
fits_over ts T xs e h = let a = ap length e ∙ length-append ts (drop (length ts) T) in let b = length-drop (length ts) T in omega arith

pub added_none : {n d reg : ℕ} {xs : List ℕ} → (reg ≡ n → ⊥) → TypeAdded n d reg xs xs n
added_none {n} {d} {reg} {xs} z =
    let f : eqb reg n ≡ false = ne_eqb reg n z in
    record { size = refl; step = λ ts T e l. (e ∙ ap (λ (b : Bool). over (grow_if b ts (get_or xs d 0)) T) (sym f), sym l ∙ ap (λ (b : Bool). length (grow_if b ts (get_or xs d 0))) (sym f)) }

width_of : (ty : ℕ) (b : Bool) → eqb ty 4 ≡ b → width ty ≡ suc (from_bool b)
width_of ty b e = ap (λ (t : Bool). suc (from_bool t)) e

-- what is grown, by the type's test
grows : (n reg : ℕ) (ts : List ℕ) (ty : ℕ) (b : Bool) → reg ≡ n → eqb ty 4 ≡ b → grow_if (eqb reg n) ts ty ≡ ts ++ cond b (4 ∷ 0 ∷ []) (ty ∷ [])
grows n reg ts ty b e f = ap (λ (c : Bool). grow_if c ts ty) (eq-eqb reg n e) ∙ ap (λ (c : Bool). ts ++ cond c (4 ∷ 0 ∷ []) (ty ∷ [])) f

plain_added : {n d reg ty : ℕ} {xs : List ℕ} → reg ≡ n → n + width (get_or xs d 0) ≤ length xs → ty ≡ get_or xs d 0 → (ty ≡ 4 → ⊥) → TypeAdded n d reg xs (set xs n ty) (n + 1)
plain_added {n} {d} {reg} {ty} {xs} is room et n4 =
    let b : eqb (get_or xs d 0) 4 ≡ false = ne_eqb (get_or xs d 0) 4 (λ q. n4 (et ∙ q)) in
    let wd = width_of (get_or xs d 0) false b in
    record {
      size = length-set xs n ty;
      step = λ ts T e l.
          let a : grow_if (eqb reg n) ts (get_or xs d 0) ≡ ts ++ (ty ∷ []) = grows n reg ts (get_or xs d 0) false is b ∙ ap (λ (k : ℕ). ts ++ (k ∷ [])) (sym et) in (
            ap₂ (λ (z : List ℕ) (k : ℕ). set z k ty) e (sym l) ∙ over_more ts T ty (fits_over ts T xs e (omega arith)) ∙ ap (λ (z : List ℕ). over z T) (sym a),
            sym (ap length a ∙ length-append ts (ty ∷ []) ∙ ap (λ (k : ℕ). k + 1) l),
          );
    }

signal_added : {n d reg ty : ℕ} {xs : List ℕ} → reg ≡ n → n + width (get_or xs d 0) ≤ length xs → ty ≡ get_or xs d 0 → ty ≡ 4 → TypeAdded n d reg xs (set (set xs n ty) (n + 1) 0) (n + 2)
signal_added {n} {d} {reg} {ty} {xs} is room et four =
    let b : eqb (get_or xs d 0) 4 ≡ true = eq-eqb (get_or xs d 0) 4 (sym et ∙ four) in
    let wd = width_of (get_or xs d 0) true b in
    record {
      size = length-set (set xs n ty) (n + 1) 0 ∙ length-set xs n ty;
      step = λ ts T e l.
          let a : grow_if (eqb reg n) ts (get_or xs d 0) ≡ ts ++ (4 ∷ []) ++ (0 ∷ []) = grows n reg ts (get_or xs d 0) true is b ∙ sym (append_assoc ts (4 ∷ []) (0 ∷ [])) in
          let one : set xs n ty ≡ over (ts ++ (4 ∷ [])) T = ap₂ (λ (z : List ℕ) (k : ℕ). set z k ty) e (sym l) ∙ over_more ts T ty (fits_over ts T xs e (omega arith)) ∙ ap (λ (k : ℕ). over (ts ++ (k ∷ [])) T) four in
          let n1 : length (ts ++ (4 ∷ [])) ≡ n + 1 = length-append ts (4 ∷ []) ∙ ap (λ (k : ℕ). k + 1) l in
          let sz = length-set xs n ty in (
            ap₂ (λ (z : List ℕ) (k : ℕ). set z k 0) one (sym n1) ∙ over_more (ts ++ (4 ∷ [])) T 0 (fits_over (ts ++ (4 ∷ [])) T (set xs n ty) one (omega arith)) ∙ ap (λ (z : List ℕ). over z T) (sym a),
            sym (ap length a ∙ length-append (ts ++ (4 ∷ [])) (0 ∷ []) ∙ ap (λ (k : ℕ). k + 1) n1 ∙ omega arith),
          );
    }

-- a signal reference is just what takes two
two : (ty : ℕ) (b : Bool) → eqb ty 4 ≡ b → width ty ≡ 2 → ty ≡ 4
two ty true e w = eqb-true ty 4 e
two ty false e w = let z : ◌≡◌ {A = ℕ} 1 2 = sym (width_of ty false e) ∙ w in absurd (omega arith)

pub added_two : {n d reg ty k : ℕ} {xs : List ℕ} → k ≡ width ty → k ≡ 2 → reg ≡ n → n + width (get_or xs d 0) ≤ length xs → ty ≡ get_or xs d 0
    → TypeAdded n d reg xs (set (set xs n ty) (n + 1) 0) (n + k)
added_two {n} {d} {reg} {ty} {k} {xs} kw is2 is room et =
    subst (λ (j : ℕ). TypeAdded n d reg xs (set (set xs n ty) (n + 1) 0) (n + j)) (sym is2) (signal_added is room et (two ty (eqb ty 4) refl (sym kw ∙ is2)))

pub added_one : {n d reg ty k : ℕ} {xs : List ℕ} → k ≡ width ty → (k ≡ 2 → ⊥) → reg ≡ n → n + width (get_or xs d 0) ≤ length xs → ty ≡ get_or xs d 0
    → TypeAdded n d reg xs (set xs n ty) (n + k)
added_one {n} {d} {reg} {ty} {k} {xs} kw not2 is room et =
    let n4 : ty ≡ 4 → ⊥ = λ q. not2 (kw ∙ width_of ty true (eq-eqb ty 4 q)) in
    subst (λ (j : ℕ). TypeAdded n d reg xs (set xs n ty) (n + j)) (sym (kw ∙ width_of ty false (ne_eqb ty 4 n4))) (plain_added is room et n4)

-- ---- the loop

grow_front : (b : Bool) (ts : List ℕ) (ty d : ℕ) → d < length ts → get_or (grow_if b ts ty) d 0 ≡ get_or ts d 0
grow_front false ts ty d h = refl
grow_front true ts ty d h = get_or-append ts (cond (eqb ty 4) (4 ∷ 0 ∷ []) (ty ∷ [])) 0 d h

grow_grows : (b : Bool) (ts : List ℕ) (ty : ℕ) → length ts ≤ length (grow_if b ts ty)
grow_grows false ts ty = omega arith
grow_grows true ts ty = let e = grown_length ts ty in omega arith

module _ (T w : List ℕ) (ts : List ℕ) where
  abbrev types_at : ℕ → List ℕ
  types_at p = typed T w p ts

  typed_next : (p : ℕ) → types_at (suc p) ≡ grow_if (eqb (new_at w p) (length (types_at p))) (types_at p) (get_or T (wrote_at w p) 0)
  unfolding typed
  typed_next p = refl

  next_grows : (p : ℕ) → length (types_at p) ≤ length (types_at (suc p))
  next_grows p = let g = grow_grows (eqb (new_at w p) (length (types_at p))) (types_at p) (get_or T (wrote_at w p) 0) in let e = ap length (typed_next p) in omega arith

  typed_grows : (p : ℕ) → length ts ≤ length (types_at p)
  unfolding typed
  typed_grows zero = omega arith
  typed_grows (suc p) = let a = typed_grows p in let b = next_grows p in omega arith

  typed_front : (p d : ℕ) → d < length ts → get_or (types_at p) d 0 ≡ get_or ts d 0
  unfolding typed
  typed_front zero d h = refl
  typed_front (suc p) d h =
      grow_front (eqb (new_at w p) (length (types_at p))) (types_at p) (get_or T (wrote_at w p) 0) d (let a = typed_grows p in omega arith) ∙ typed_front p d h

  typed_mono : (p k : ℕ) → length (types_at p) ≤ length (types_at (k + p))
  typed_mono p zero = let e : 0 + p ≡ p = omega arith in subst (λ (j : ℕ). length (types_at p) ≤ length (types_at j)) (sym e) (omega arith)
  typed_mono p (suc k) =
      let e : suc k + p ≡ suc (k + p) = omega arith in
      let a = typed_mono p k in
      let b = next_grows (k + p) in
      subst (λ (j : ℕ). length (types_at p) ≤ length (types_at j)) (sym e) (omega arith)

pub record Typing (R m : ℕ) (T w xs : List ℕ) (n p : ℕ) : Type 0 where
  pub high : p ≤ m
  pub is : xs ≡ over (typed T w p (take R T)) T
  pub count : length (typed T w p (take R T)) ≡ n
  pub size : length xs ≡ length T

pub typing_none : {R m : ℕ} {T w : List ℕ} → TypesFit R m T w → Typing R m T w T R 0
unfolding typed
typing_none {R} {m} {T} {w} f =
    let l = length-take-le R T f.regs in
    record { high = omega arith; is = sym (take-append-drop R T) ∙ ap (λ (k : ℕ). take R T ++ drop k T) (sym l); count = l; size = refl }

module _ {R m n p : ℕ} {T w xs : List ℕ} (f : TypesFit R m T w) (t : Typing R m T w xs n p) (lt : p < m) where
  abbrev d : ℕ
  d = wrote_at w p

  abbrev reg : ℕ
  reg = new_at w p

  abbrev now_types : List ℕ
  now_types = typed T w p (take R T)

  type_same : d < R → get_or xs d 0 ≡ get_or T d 0
  type_same h =
      let l = length-take-le R T f.regs in
      let g = typed_grows T w (take R T) p in
      ap (λ (z : List ℕ). get_or z d 0) t.is ∙ get_or-append now_types (drop (length now_types) T) 0 d (omega arith)
      ∙ typed_front T w (take R T) p d (omega arith) ∙ get_or-take R T d 0 h

  fits : length (typed T w (suc p) (take R T)) ≤ length T
  fits =
      let e : m ≡ m - suc p + suc p = omega arith in
      let g = typed_mono T w (take R T) (suc p) (m - suc p) in
      let a = f.fit in
      let b = ap (λ (j : ℕ). length (typed T w j (take R T))) e in
      omega arith

  in_use : reg ≡ n → d < R
  in_use e = f.wrote_ok p lt (let a = fits in let b = next_grows T w (take R T) p in let c = t.count in let q = f.small in omega arith)

  room_for : reg ≡ n → n + width (get_or xs d 0) ≤ length xs
  room_for e =
      let h = in_use e in
      let r = f.regs in
      let s = t.size in
      let c = t.count in
      let a : length (typed T w (suc p) (take R T)) ≡ n + width (get_or T d 0) =
      ap length (typed_next T w (take R T) p) ∙ ap (λ (b : Bool). length (grow_if b now_types (get_or T d 0))) (eq-eqb reg (length now_types) (e ∙ sym c))
      ∙ grown_length now_types (get_or T d 0) ∙ ap (λ (k : ℕ). k + width (get_or T d 0)) c in
      let q : width (get_or xs d 0) ≡ width (get_or T d 0) = ap width (type_same h) in
      let z = fits in
      omega arith

  -- the register that the position writes, by its range test
  word_there : {k : Option Reg} {c : ℕ} → k ≡ reg_of d c → c ≡ R → reg ≡ n → word_of k ≡ d
  word_there made is e = word_made d R made is (λ nt. in_use e)

  pub typing_ok : {k : Option Reg} {c : ℕ} → k ≡ reg_of d c → c ≡ R → Among (length xs) k × (reg ≡ n → (word_of k ≡ absent → ⊥) × (n + width (get_or xs (word_of k) 0) ≤ length xs))
  typing_ok {k} made is =
      let r = f.regs in
      let s = t.size in
      let few = f.small in (
        among_made d R made is (length xs) (omega arith) (omega arith),
        λ e.
            let h = in_use e in
            let q = word_there made is e in
            (λ z. omega arith, subst (λ (j : ℕ). n + width (get_or xs j 0) ≤ length xs) (sym q) (room_for e)),
      )

  pub typing_more : {k : Option Reg} {c r : ℕ} {ys : List ℕ} → k ≡ reg_of d c → c ≡ R → TypeAdded n (word_of k) reg xs ys r → Typing R m T w ys r (p + 1)
  typing_more {k} {c} {r} {ys} made in_all a =
      let s = a.step now_types T t.is t.count in
      let same : grow_if (eqb reg n) now_types (get_or xs (word_of k) 0) ≡ typed T w (suc p) (take R T) =
      go (eqb reg n) refl ∙ ap (λ (k : ℕ). grow_if (eqb reg k) now_types (get_or T d 0)) (sym t.count) ∙ sym (typed_next T w (take R T) p) in
      subst (Typing R m T w ys r) (sym (add-one p)) (record {
        high = lt;
        is = s.0 ∙ ap (λ (l : List ℕ). over l T) same;
        count = sym (s.1 ∙ ap length same);
        size = a.size ∙ t.size;
      })
    where
      go : (b : Bool) → eqb reg n ≡ b → grow_if (eqb reg n) now_types (get_or xs (word_of k) 0) ≡ grow_if (eqb reg n) now_types (get_or T d 0)
      go true e =
          let is = eqb-true reg n e in
          ap (grow_if (eqb reg n) now_types) (ap (λ (j : ℕ). get_or xs j 0) (word_there made in_all is) ∙ type_same (in_use is))
      go false e = ap (λ (c : Bool). grow_if c now_types (get_or xs (word_of k) 0)) e ∙ sym (ap (λ (c : Bool). grow_if c now_types (get_or T d 0)) e)

pub typing_end : {R m n p : ℕ} {T w xs : List ℕ} → Typing R m T w xs n p → m ≤ p → (xs ≡ over (typed T w m (take R T)) T) × (n ≡ length (typed T w m (take R T)))
typing_end {R} {m} {n} {p} {T} {w} {xs} t l =
    let e : p ≡ m = le_antisymm t.high l in
    (t.is ∙ ap (λ (k : ℕ). over (typed T w k (take R T)) T) e, sym t.count ∙ ap (λ (k : ℕ). length (typed T w k (take R T))) e)
