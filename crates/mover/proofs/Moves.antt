-- From the gathering to the whole move. Assumes nothing.
use mathlib.Core.Path.{◌≡◌, sym, ap, ap₂, ◌∙◌}
use mathlib.Core.List.{List, ◌++◌, append_assoc}
use Prim.Native.Nat.{ℕ, ◌+◌, ◌-◌, ◌*◌, ◌≤◌, ◌<◌}
use native.Mathlib.Nat.{mul-zero, mul-add, mul-sub}
use native.Mathlib.Omega.{arith}
use mathlib.Core.Bool.{Bool, true, false, cond}
use lib.Dec.{eqb}
use borrow.Author.Tests.{lt-ltb, le-ltb}
use lib.ListN.{length, take, drop, length-drop, length-append, take-append-drop}
use lib.Seq.{sets, sets-eq, length-sets, take_all, take-take, take-add, take-append-le, drop-append-le, length-take-le, drop-drop}
use Rattle.words.specs.Lists.{range}
use Rattle.words.proofs.Parts.{part_first}
use Rattle.words.proofs.Copying.{front_sets, drop_sets, take_sets, back_sets}
use Rattle.mover.specs.Order.{cells, kept, gone, later, earlier, moved, all_moved, sunk, raised, Gathered, Ask}
use Rattle.mover.proofs.Cells.{cells_append, cells_range}

module _ (w : ℕ) (xs : List ℕ) where
  -- the records before lo, and those from t on
  first_cells : (lo : ℕ) → take (w * lo) xs ≡ cells w xs (range 0 lo)
  first_cells lo = sym (cells_range w xs lo 0 ∙ ap (λ (k : ℕ). take (w * lo) (drop k xs)) (mul-zero w))

  last_cells : (t n : ℕ) → length xs ≡ w * n → drop (w * t) xs ≡ cells w xs (range t (n - t))
  last_cells t n e = sym (cells_range w xs (n - t) t ∙ take_all (w * (n - t)) (drop (w * t) xs) (let a = mul-sub w n t in simp length-drop (omega arith)))

  -- five pieces
  five : (p q r u v : List ℕ) → cells w xs (p ++ (q ++ (r ++ (u ++ v)))) ≡ cells w xs p ++ (cells w xs q ++ (cells w xs r ++ (cells w xs u ++ cells w xs v)))
  five p q r u v =
      cells_append w xs p (q ++ (r ++ (u ++ v)))
      ∙ ap (λ (l : List ℕ). cells w xs p ++ l)
      (cells_append w xs q (r ++ (u ++ v)) ∙ ap (λ (l : List ℕ). cells w xs q ++ l) (cells_append w xs r (u ++ v) ∙ ap (λ (l : List ℕ). cells w xs r ++ l) (cells_append w xs u v)))

  -- a move behind, or in front, as an order of the records
  pub sunk_is : (chain : List ℕ) (lo m t n : ℕ) → length xs ≡ w * n → sunk w chain lo m (w * t) xs ≡ cells w xs (later chain lo m t n)
  unfolding sunk
  sunk_is chain lo m t n len =
      let K : List ℕ = cells w xs (kept chain lo m) in
      let G : List ℕ = cells w xs (gone chain lo m) in
      let mid : take (w * t - w * (lo + m)) (drop (w * (lo + m)) xs) ≡ cells w xs (range (lo + m) (t - (lo + m))) =
      ap (λ (k : ℕ). take k (drop (w * (lo + m)) xs)) (sym (mul-sub w t (lo + m))) ∙ sym (cells_range w xs (t - (lo + m)) (lo + m)) in
      ap₂ (λ (x y : List ℕ). x ++ (K ++ y)) (first_cells lo) (ap₂ (λ (x y : List ℕ). x ++ (G ++ y)) mid (last_cells t n len))
      ∙ sym (five (range 0 lo) (kept chain lo m) (range (lo + m) (t - (lo + m))) (gone chain lo m) (range t (n - t)))

  pub raised_is : (chain : List ℕ) (lo m t n : ℕ) → length xs ≡ w * n → raised w chain lo m (w * t) xs ≡ cells w xs (earlier chain lo m t n)
  unfolding raised
  raised_is chain lo m t n len =
      let K : List ℕ = cells w xs (kept chain lo m) in
      let G : List ℕ = cells w xs (gone chain lo m) in
      let mid : take (w * lo - w * t) (drop (w * t) xs) ≡ cells w xs (range t (lo - t)) = ap (λ (k : ℕ). take k (drop (w * t) xs)) (sym (mul-sub w lo t)) ∙ sym (cells_range w xs (lo - t) t) in
      ap₂ (λ (x y : List ℕ). x ++ (G ++ y)) (first_cells t) (ap₂ (λ (x y : List ℕ). x ++ (K ++ y)) mid (last_cells (lo + m) n len))
      ∙ sym (five (range 0 t) (gone chain lo m) (range t (lo - t)) (kept chain lo m) (range (lo + m) (n - (lo + m))))

-- a part stored where it stands
self : (xs : List ℕ) (i n : ℕ) → i + n ≤ length xs → sets xs i (take n (drop i xs)) ≡ xs
self xs i n h =
    let l : length (take n (drop i xs)) ≡ n = length-take-le n (drop i xs) (simp length-drop (omega arith)) in
    sets-eq (take n (drop i xs)) xs i (omega arith) ∙ ap₂ (λ (x : List ℕ) (k : ℕ). x ++ drop (i + k) xs) (sym (take-add i n xs)) l ∙ take-append-drop (i + n) xs

module _ {w lo m b e s : ℕ} {chain xs ys saved sv : List ℕ} (g : Gathered w chain lo xs ys saved sv m s) (a : Ask w lo m m e chain saved xs) (b_is : b ≡ w * (lo + m)) where
  front : take (b - s) ys ≡ take (w * lo) xs ++ cells w xs (kept chain lo m)
  front = ap (λ (k : ℕ). take (k - s) ys) b_is ∙ g.front

  back : drop b ys ≡ drop b xs
  back = ap (λ (k : ℕ). drop k ys) b_is ∙ g.back ∙ ap (λ (k : ℕ). drop k xs) (sym b_is)

  long : length (take s sv) ≡ s
  long = length-take-le s sv (let h = g.small in let k = g.saved_size in let r = a.room in omega arith)

  -- how many words went
  pub went : s ≡ length (cells w xs (gone chain lo m))
  went = sym long ∙ ap length g.saved_is

  sum_is : b ≡ w * lo + w * m
  sum_is = b_is ∙ mul-add w lo m

  pub sink_fits : w * (lo + m) ≤ e → (b ≤ e) × (s ≤ b) × (e ≤ length xs)
  sink_fits h = (omega arith, omega (arith, g.small, sum_is), omega (arith, a.target))

  pub sink_law : {zs us : List ℕ} → w * (lo + m) ≤ e → zs ≡ sets ys (b - s) (take (e - b) (drop b ys)) → us ≡ sets zs (e - s) (take s sv) → us ≡ sunk w chain lo m e xs
  unfolding sunk
  sink_law {zs} {us} h z u =
      let f = sink_fits h in
      let be : b ≤ e = f.0 in
      let sb : s ≤ b = f.1 in
      let ex : e ≤ length xs = f.2 in
      let ysz = g.size in
      let vs : List ℕ = take (e - b) (drop b ys) in
      let vl : length vs ≡ e - b = length-take-le (e - b) (drop b ys) (simp length-drop (omega arith)) in
      let sl = long in
      let zsz : length zs ≡ length xs = ap length z ∙ length-sets ys (b - s) vs ∙ ysz in
      let one : take (e - s) zs ≡ take (w * lo) xs ++ cells w xs (kept chain lo m) ++ vs =
      ap₂ (λ (k : ℕ) (l : List ℕ). take k l) {x = e - s} {y = b - s + length vs} (omega arith) z ∙ front_sets ys (b - s) vs (omega arith) ∙ ap (λ (l : List ℕ). l ++ vs) front in
      let two : drop (e - s + length (take s sv)) zs ≡ drop e xs =
      ap₂ (λ (k : ℕ) (l : List ℕ). drop k l) {x = e - s + length (take s sv)} {y = e} (omega arith) z ∙ drop_sets e ys (b - s) vs (omega arith)
      ∙ ap (λ (k : ℕ). drop k ys) {x = e} {y = b + (e - b)} (omega arith) ∙ sym (drop-drop (e - b) b ys) ∙ ap (drop (e - b)) back ∙ drop-drop (e - b) b xs ∙ ap (λ (k : ℕ). drop k xs) {x = b + (e - b)} {y = e} (omega arith) in
      let mid : vs ≡ take (e - w * (lo + m)) (drop (w * (lo + m)) xs) = ap (take (e - b)) back ∙ ap (λ (k : ℕ). take (e - k) (drop k xs)) b_is in
      let K : List ℕ = cells w xs (kept chain lo m) in
      let A : List ℕ = take (w * lo) xs in
      let S : List ℕ = take s sv in
      u ∙ sets-eq S zs (e - s) (omega arith) ∙ ap₂ (λ (x y : List ℕ). x ++ S ++ y) one two
      ∙ append_assoc (A ++ K ++ vs) S (drop e xs) ∙ append_assoc (A ++ K) vs (S ++ drop e xs) ∙ append_assoc A K (vs ++ (S ++ drop e xs))
      ∙ ap₂ (λ (x y : List ℕ). A ++ (K ++ (x ++ (y ++ drop e xs)))) mid g.saved_is

  -- none went: nothing else is to do
  pub sink_none : w * (lo + m) ≤ e → s ≡ 0 → ys ≡ sunk w chain lo m e xs
  sink_none h z =
      let f = sink_fits h in
      let be : b ≤ e = f.0 in
      let ex : e ≤ length xs = f.2 in
      let ysz = g.size in
      sink_law h (sym (ap (λ (k : ℕ). sets ys k (take (e - b) (drop b ys))) {x = b - s} {y = b} (omega arith) ∙ self ys b (e - b) (omega arith))) (sym (ap (λ (k : ℕ). sets ys (e - k) (take k sv)) z))

  pub raise_fits : e ≤ w * lo → (e + s ≤ b) × (b ≤ length xs)
  raise_fits h = (omega (arith, g.small, sum_is), omega (arith, a.inside))

  pub raise_law : {zs us : List ℕ} → e ≤ w * lo → zs ≡ sets ys (e + s) (take (b - s - e) (drop e ys)) → us ≡ sets zs e (take s sv) → us ≡ raised w chain lo m e xs
  unfolding raised
  raise_law {zs} {us} el z u =
      let f = raise_fits el in
      let eb : e + s ≤ b = f.0 in
      let bx : b ≤ length xs = f.1 in
      let ysz = g.size in
      let k : ℕ = b - s - e in
      let vs : List ℕ = take k (drop e ys) in
      let vl : length vs ≡ k = length-take-le k (drop e ys) (simp length-drop (omega arith)) in
      let sl = long in
      let zsz : length zs ≡ length xs = ap length z ∙ length-sets ys (e + s) vs ∙ ysz in
      let A : List ℕ = take (w * lo) xs in
      let K : List ℕ = cells w xs (kept chain lo m) in
      let al : length A ≡ w * lo = length-take-le (w * lo) xs (omega (arith, sum_is)) in
      let kl : length K ≡ b - s - w * lo = let q = sym (ap length front) ∙ length-take-le (b - s) ys (omega arith) in let r = length-append A K in omega arith in
      let small = g.small in
      let si = sum_is in
      let one : take e zs ≡ take e xs =
      ap (take e) z ∙ take_sets e ys (e + s) vs (omega arith) ∙ sym (take-take e (b - s) ys (omega arith)) ∙ ap (take e) front ∙ take-append-le e A K (omega arith) ∙ take-take e (w * lo) xs el in
      let M : List ℕ = take (w * lo - e) (drop e xs) in
      let mid : vs ≡ M ++ K =
      sym (part_first e k (b - s) ys (omega arith)) ∙ ap (λ (l : List ℕ). take k (drop e l)) front ∙ ap (take k) (drop-append-le e A K (omega arith))
      ∙ take_all k (drop e A ++ K) (let q = length-append (drop e A) K in let r = length-drop e A in omega arith)
      ∙ ap (λ (l : List ℕ). l ++ K) (sym (take_all (w * lo - e) (drop e A) (simp length-drop (omega arith))) ∙ part_first e (w * lo - e) (w * lo) xs (omega arith)) in
      let rest : drop (e + s) zs ≡ vs ++ drop b xs =
      ap (drop (e + s)) z ∙ back_sets ys (e + s) vs (omega arith) ∙ ap (λ (i : ℕ). vs ++ drop i ys) {x = e + s + length vs} {y = b} (omega arith) ∙ ap (λ (l : List ℕ). vs ++ l) back in
      let S : List ℕ = take s sv in
      u ∙ sets-eq S zs e (omega arith) ∙ ap₂ (λ (x y : List ℕ). x ++ S ++ y) one (ap (λ (i : ℕ). drop i zs) {x = e + length S} {y = e + s} (omega arith) ∙ rest)
      ∙ append_assoc (take e xs) S (vs ++ drop b xs)
      ∙ ap₂ (λ (x y : List ℕ). take e xs ++ (x ++ y)) g.saved_is (ap₂ (λ (x : List ℕ) (i : ℕ). x ++ drop i xs) mid b_is ∙ append_assoc M K (drop (w * (lo + m)) xs))

  pub raise_none : e ≤ w * lo → s ≡ 0 → ys ≡ raised w chain lo m e xs
  raise_none h z =
      let f = raise_fits h in
      let eb : e + s ≤ b = f.0 in
      let bx : b ≤ length xs = f.1 in
      let ysz = g.size in
      raise_law h (sym (ap (λ (k : ℕ). sets ys k (take (b - s - e) (drop e ys))) {x = e + s} {y = e} (omega arith) ∙ self ys e (b - s - e) (omega arith))) (sym (ap (λ (k : ℕ). sets ys e (take k sv)) z))

-- ---- either way

pub moved_later : {lo t : ℕ} (w : ℕ) (chain xs : List ℕ) (m n : ℕ) → lo < t → {ys : List ℕ} → ys ≡ cells w xs (later chain lo m t n) → ys ≡ cells w xs (moved chain lo m t n)
moved_later {lo} {t} w chain xs m n h e = e ∙ sym (ap (λ (b : Bool). cells w xs (cond b (later chain lo m t n) (earlier chain lo m t n))) (lt-ltb lo t h))

pub moved_earlier : {lo t : ℕ} (w : ℕ) (chain xs : List ℕ) (m n : ℕ) → t ≤ lo → {ys : List ℕ} → ys ≡ cells w xs (earlier chain lo m t n) → ys ≡ cells w xs (moved chain lo m t n)
moved_earlier {lo} {t} w chain xs m n h e = e ∙ sym (ap (λ (b : Bool). cells w xs (cond b (later chain lo m t n) (earlier chain lo m t n))) (le-ltb lo t h))

pub none_moved : (w : ℕ) (chain xs : List ℕ) (lo m t n : ℕ) → eqb (length xs) 0 ≡ true → xs ≡ all_moved w chain lo m t n xs
unfolding all_moved
none_moved w chain xs lo m t n e = sym (ap (λ (b : Bool). cond b xs (cells w xs (moved chain lo m t n))) e)

pub some_moved : (w : ℕ) (chain xs : List ℕ) (lo m t n : ℕ) → eqb (length xs) 0 ≡ false → {ys : List ℕ} → ys ≡ cells w xs (moved chain lo m t n) → ys ≡ all_moved w chain lo m t n xs
unfolding all_moved
some_moved w chain xs lo m t n f e = e ∙ sym (ap (λ (b : Bool). cond b xs (cells w xs (moved chain lo m t n))) f)
