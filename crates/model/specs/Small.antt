-- The smallest pictures in which something can move: three members, with replay. Block 0 has a Const r1 = 8, the code of the row
-- and CondBr r0,1,2; block 1 is the target and in replay; block 2 has the Cat that the gate asks for. Nobody writes r0. Assumes
-- nothing.
use Rattle.std.specs.Prelude.{List, [], ◌∷◌, ◌++◌, ℕ, suc, length, replicate}
use Rattle.words.specs.Lists.{range, concat}
use Rattle.model.specs.declared.Answer.TheVariants.{Done}
use Rattle.model.specs.Kinds.{Kind, Const, AddrOf, Load, CallNative}
use Rattle.model.specs.Picture.{Picture, Inst}
use Rattle.model.specs.Refusal.{records}
use Rattle.model.specs.Pass.{Outcome, ends_in, used, sink}
use Rattle.model.specs.Build.{op, Room, shows}
use Rattle.model.specs.Marked.{Row, konst, cmp, cat, branch, jump, output, ret, lent}

-- ---- instructions

-- of a kind and a form, by one, two, three or four registers
abbrev pub in1 : Kind → ℕ → ℕ → Inst
in1 k f a = op k f (a ∷ []) [] []

abbrev pub in2 : Kind → ℕ → ℕ → ℕ → Inst
in2 k f a b = op k f (a ∷ b ∷ []) [] []

abbrev pub in3 : Kind → ℕ → ℕ → ℕ → ℕ → Inst
in3 k f a b c = op k f (a ∷ b ∷ c ∷ []) [] []

abbrev pub in4 : Kind → ℕ → ℕ → ℕ → ℕ → ℕ → Inst
in4 k f a b c d = op k f (a ∷ b ∷ c ∷ d ∷ []) [] []

-- a constant in register d, by its two halves
abbrev pub value : ℕ → ℕ → ℕ → Inst
value d low high = op Const 0 (d ∷ []) [] (low ∷ high ∷ [])

-- what AddrOf's forms 0 and 4 give, in r4: the frame, the pool
abbrev pub frame : Inst
frame = in1 AddrOf 0 4

abbrev pub pool : Inst
pool = in1 AddrOf 4 4

-- a byte at register s
abbrev pub load : ℕ → ℕ → Inst
load d s = in2 Load 1 d s

-- a native of form f into d, with the first n operands as its list
abbrev pub nat : ℕ → ℕ → ℕ → Inst
nat f d n = op CallNative f (d ∷ []) (0 ∷ n ∷ []) []

-- ---- block 0, step by step: what stays, and what goes with what becomes of it

pub data Step : Type 0 where
  keep : Inst → Step
  send : Inst → Inst → Step

abbrev pub before : List Step → List Inst
before [] = []
before (keep i ∷ ss) = i ∷ before ss
before (send i j ∷ ss) = i ∷ before ss

abbrev pub kept : List Step → List Inst
kept [] = []
kept (keep i ∷ ss) = i ∷ kept ss
kept (send i j ∷ ss) = kept ss

abbrev pub sent : List Step → List Inst
sent [] = []
sent (keep i ∷ ss) = sent ss
sent (send i j ∷ ss) = j ∷ sent ss

-- their places, counted from p
abbrev pub kept_at : ℕ → List Step → List ℕ
kept_at p [] = []
kept_at p (keep i ∷ ss) = p ∷ kept_at (suc p) ss
kept_at p (send i j ∷ ss) = kept_at (suc p) ss

abbrev pub sent_at : ℕ → List Step → List ℕ
sent_at p [] = []
sent_at p (keep i ∷ ss) = sent_at (suc p) ss
sent_at p (send i j ∷ ss) = p ∷ sent_at (suc p) ss

-- ---- rows

-- nine registers in use and n new ones, all I64, 12 lent; two operands, both r1, and room for one more
abbrev pub wide : ℕ → Room
wide n = record { types = replicate 9 0 ++ replicate n 0; registers = 12; ops = 1 ∷ 1 ∷ []; operands = 3 }

abbrev pub held : List (List Inst) → Picture
held bs = lent bs (wide 0) (1 ∷ [])

-- these blocks stay as they are, with these in replay, or with block 1
abbrev pub replayed : List ℕ → List (List Inst) → Row
replayed rs bs = let P = lent bs (wide 0) rs in record { what = P; gives = ends_in (Done (used 0 P)) P }

abbrev pub still : List (List Inst) → Row
still bs = replayed (1 ∷ []) bs

-- one round from block 0, step by step, into block 1, with n new registers: the blocks from 1 on, before, and after but for what
-- is sent
abbrev pub once : ℕ → List Step → List (List Inst) → List Inst → List (List Inst) → Row
once n ss bs t rest =
    let Q = shows (kept ss ∷ (sent ss ++ t) ∷ rest) (wide n) (1 ∷ []) (kept_at 0 ss ++ sent_at 0 ss ++ range (length ss) (length (concat bs))) in
    record { what = held (before ss ∷ bs); gives = record { answer = Done (used 1 Q); lines = (1 ∷ 0 ∷ 1 ∷ length (sent ss) ∷ Q.regs ∷ 2 ∷ []) ∷ []; left = Q } }

-- block 1 with an Output of r, and block 2
abbrev pub shown : ℕ → List Inst
shown r = output r ∷ ret [] ∷ []

abbrev pub other : List Inst
other = cat 0 0 0 ∷ jump 2 ∷ []

abbrev pub around : List (List Inst)
around = shown 3 ∷ other ∷ []

-- block 0 whole
abbrev pub whole : List Inst → List Inst
whole is = konst 8 ∷ is ++ branch 1 2 ∷ []

abbrev pub steps : List Step → List Step
steps ss = keep (konst 8) ∷ ss ++ keep (branch 1 2) ∷ []

-- nothing moves
abbrev pub rests : List Inst → Row
rests is = still (whole is ∷ around)

-- a round with n new registers, where r3 becomes d
abbrev pub goes : ℕ → ℕ → List Step → Row
goes n d ss = once n (steps ss) around (shown d) (other ∷ [])

-- one Cmp into r3, which becomes d, and two of them
abbrev pub cmp_to : ℕ → Step
cmp_to d = send (cmp 3 1) (cmp d 1)

abbrev pub two : List Inst
two = cmp 3 1 ∷ cmp 3 1 ∷ []

abbrev pub two_to : ℕ → List Step
two_to d = cmp_to d ∷ cmp_to d ∷ []

abbrev pub three : List Inst
three = cmp 3 1 ∷ two

abbrev pub three_to : ℕ → List Step
three_to d = cmp_to d ∷ two_to d

-- a block that only returns, and one with a Cat, block 3, that nothing else leads to
abbrev pub returns : List Inst
returns = ret [] ∷ []

abbrev pub apart : List Inst
apart = cat 0 0 0 ∷ jump 3 ∷ []

-- the call with work slices that are long enough, and records enough
abbrev pub answered : Row → Outcome
answered w = sink w.what 1000 9000 records

abbrev pub given : Row → Outcome
given w = w.gives
