-- Request 2026-11: how many registers an instruction writes, of those that cause 4 lets pass, so that refusal 11 had nothing to refuse;
-- and that it is not given. proofs/Results shows the first three statements, proofs/Numbers the last. Assumes nothing.
use Rattle.std.specs.Prelude.{◌≡◌, Bool, true, false, List, ℕ, ◌≤◌, length}
use Rattle.model.specs.Kinds.{TakeBounds}
use Rattle.model.specs.Picture.{Picture, Inst, is_kind, writes}
use Rattle.model.specs.Refusal.{bad_kind, refusal}
use Rattle.model.specs.Analyse.{Facts, Fact, fact, movable}

-- the class that `analyse` gives i behind the facts of those before it in the chain
abbrev pub is_movable : Facts → List ℕ → List Fact → Inst → Bool
is_movable G ops past i = movable (fact G ops past i).does.class

-- only TakeBounds writes more than one register,
abbrev pub OnlyTakeBounds : Type 0
OnlyTakeBounds = (i : Inst) → bad_kind i ≡ false → is_kind TakeBounds i ≡ false → length (writes i) ≤ 1

-- and it isn't movable:
abbrev pub TakeBoundsStays : Type 0
TakeBoundsStays = (G : Facts) (ops : List ℕ) (past : List Fact) (i : Inst) → is_kind TakeBounds i ≡ true → is_movable G ops past i ≡ false

-- a movable instruction never writes two, in any chain, whatever is known of registers
abbrev pub MovableWritesOne : Type 0
MovableWritesOne = (G : Facts) (ops : List ℕ) (past : List Fact) (i : Inst) → bad_kind i ≡ false → is_movable G ops past i ≡ true → length (writes i) ≤ 1

-- 11 is not used again: no picture is refused with a number above 10
abbrev pub NeverEleven : Type 0
NeverEleven = (P : Picture) (w64 w32 nf : ℕ) → refusal P w64 w32 nf ≤ 10
