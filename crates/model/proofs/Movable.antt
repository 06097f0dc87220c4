-- By kind: the arms of `analyse` that can give a movable instruction; and an instruction that is movable, in any chain with any
-- facts, is of such a kind. Assumes nothing.
use mathlib.Core.Bool.{Bool, true, false}
use mathlib.Core.List.{List, map}
use Prim.Native.Nat.{ℕ}
use lib.Dec.{T}
use lib.ListN.{get_or, length, drop}
use Rattle.model.specs.Kinds.{Arm, row, const, constF, addr_of, move, select, truth, bin, index, check, dopeLen, load, alloc, layout_of, signal, fills, store, cat, native as nativeArm, stops, deref, writes, other}
use Rattle.model.specs.Picture.{Inst, kind, reads}
use Rattle.model.specs.Analyse.{Facts, Fact, Read, Org, Unknown, fact, last_writer, arm, movable, org_of, len_of, when_some, known_of, positive, unread, is_layout}

abbrev pub may_move : Arm → Bool
may_move const = false
may_move constF = false
may_move addr_of = false
may_move move = true
may_move select = true
may_move truth = true
may_move bin = true
may_move index = true
may_move check = true
may_move dopeLen = true
may_move load = true
may_move alloc = true
may_move layout_of = true
may_move signal = true
may_move fills = true
may_move store = true
may_move cat = true
may_move nativeArm = true
may_move stops = false
may_move deref = false
may_move writes = false
may_move other = false

-- what an arm gives as movable, may move
movable_arm : (i : Inst) (p : ℕ) (k : Bool) (o : ℕ → Org) (l : ℕ → Bool) (y : ℕ → Bool) (os : List Org) (a : Arm) → T (movable (arm i p k o l y os a).class) → T (may_move a)
movable_arm i p k o l y os const t = t
movable_arm i p k o l y os constF t = t
movable_arm i p k o l y os addr_of t = t
movable_arm i p k o l y os move t = tt
movable_arm i p k o l y os select t = tt
movable_arm i p k o l y os truth t = tt
movable_arm i p k o l y os bin t = tt
movable_arm i p k o l y os index t = tt
movable_arm i p k o l y os check t = tt
movable_arm i p k o l y os dopeLen t = tt
movable_arm i p k o l y os load t = tt
movable_arm i p k o l y os alloc t = tt
movable_arm i p k o l y os layout_of t = tt
movable_arm i p k o l y os signal t = tt
movable_arm i p k o l y os fills t = tt
movable_arm i p k o l y os store t = tt
movable_arm i p k o l y os cat t = tt
movable_arm i p k o l y os nativeArm t = tt
movable_arm i p k o l y os stops t = t
movable_arm i p k o l y os deref t = t
movable_arm i p k o l y os writes t = t
movable_arm i p k o l y os other t = t

module _ (G : Facts) (ops : List ℕ) where
  pub fact_moves : (past : List Fact) (i : Inst) → T (movable (fact G ops past i).does.class) → T (may_move (row (kind i)).arm)
  fact_moves past i t =
      let us : List Read = map (λ r. record { reg = r; writer = last_writer 0 past r }) (reads ops i) in
      let orgs : List Org = map (org_of G past) us in
      let lens : List Bool = map (len_of G past) us in
      movable_arm i (length past) (when_some positive (known_of G (get_or us 1 unread).reg).konst) (λ k. get_or orgs k Unknown) (λ k. get_or lens k false) (is_layout past) (drop 3 orgs) (row (kind i)).arm t
