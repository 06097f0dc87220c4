-- A sweep takes every block once, in either order. Assumes nothing.
use mathlib.Core.Path.{◌≡◌}
use mathlib.Core.Logic.{◌⊎◌, inl, inr, ⊎_elim}
use mathlib.Core.Bool.{Bool, ◌||◌}
use mathlib.Core.List.{List}
use Prim.Native.Nat.{ℕ, ◌+◌, ◌-◌, ◌<◌, ◌≤◌}
use native.Mathlib.Omega.{arith}
use lib.ListN.{length}
use Rattle.words.proofs.Bools.{eq?}
use Rattle.flow.specs.declared.live.Order.{Order}
use Rattle.flow.specs.declared.live.Order.TheVariants.{Down, Up}
use Rattle.flow.specs.Order.{kth}
use Rattle.flow.specs.Progress.{Among, Edges, Progress}
use Rattle.flow.proofs.Joins.{Blocks, block_more, recast}

-- block c is one of the first k of n
abbrev pub Taken : Order → ℕ → ℕ → ℕ → Type 0
Taken Down n k c = (n - k ≤ c) × (c < n)
Taken Up n k c = c < k

pub all_taken : (o : Order) (n k c : ℕ) → k ≤ n → n ≤ k → c < n → Taken o n k c
all_taken Down n k c h g l = (omega arith, l)
all_taken Up n k c h g l = omega arith

pub taken_low : (o : Order) (n k c : ℕ) → k ≤ n → Taken o n k c → c < n
taken_low Down n k c h d = d.1
taken_low Up n k c h d = omega arith

-- the next one is the k-th
next : (o : Order) (n k x c : ℕ) → k < n → x ≡ kth o k n → Taken o n (k + 1) c → Taken o n k c ⊎ (c ≡ x)
next Down n k x c h e d = ⊎_elim (λ (u : c ≡ x). inr u) (λ (u : c ≡ x → ⊥). let v = d.0 in inl (omega arith, d.1)) (eq? c x)
next Up n k x c h e d = ⊎_elim (λ (u : c ≡ x). inr u) (λ (u : c ≡ x → ⊥). inl (omega arith)) (eq? c x)

before_too : (o : Order) (n k c : ℕ) → Taken o n k c → Taken o n (k + 1) c
before_too Down n k c d = let v = d.0 in (omega arith, d.1)
before_too Up n k c d = omega arith

itself : (o : Order) (n k x c : ℕ) → k < n → x ≡ kth o k n → c ≡ x → Taken o n (k + 1) c
itself Down n k x c h e d = (omega arith, omega arith)
itself Up n k x c h e d = omega arith

pub taken_more : {n w x : ℕ} {ds l m j : List ℕ} {r r' : Bool} (o : Order) (k : ℕ) (succ : ℕ → List ℕ) (ss : List ℕ) → k < n → x ≡ kth o k n → ss ≡ succ x
    → Progress n w ds (Blocks (Taken o n k) w succ) l m r → Progress n w ds (λ c y i. (c ≡ x) × Among ss (length ss) y × (i < w)) m j r'
    → Progress n w ds (Blocks (Taken o n (k + 1)) w succ) l j (r || r')
taken_more {n} {x = x} o k succ ss h e q = block_more (Taken o n k) (Taken o n (k + 1)) succ ss q (λ c. next o n k x c h e) (λ c. before_too o n k c) (λ c. itself o n k x c h e)

pub edges_taken : {n w k : ℕ} {ds l m : List ℕ} {r : Bool} (o : Order) (succ : ℕ → List ℕ) → k ≤ n → n ≤ k
    → Progress n w ds (Blocks (Taken o n k) w succ) l m r → Progress n w ds (Edges n w succ) l m r
edges_taken {n} {k = k} o succ h g = recast (λ c x i d. (all_taken o n k c h g d.0, d.1, d.2)) (λ c x i d. (taken_low o n k c h d.0, d.1, d.2))
