-- Rows of pictures that the Rust has run: how they are written down. The pages Rows1 on are printed by tests/rust.
-- Assumes nothing.
use Rattle.std.specs.Prelude.{List, [], ◌∷◌, ◌++◌, ℕ}
use Rattle.words.specs.Lists.{concat, spans}
use Rattle.model.specs.declared.Answer.{Answer}
use Rattle.model.specs.declared.Answer.TheVariants.{Done, Short, Refused}
use Rattle.model.specs.Kinds.{Kind, Br, CondBr, Const}
use Rattle.model.specs.Picture.{Picture, Inst}
use Rattle.model.specs.Build.{op}
use Rattle.model.specs.Numbered.{refusal_of}
use Rattle.model.specs.Pass.{Outcome, ends_in}

-- the picture lent, the lengths of the two work slices, the records lent, and what the call gives: the answer, the lines, and the
-- whole picture
pub record Row : Type 0 where
  pub what : Picture
  pub w64 : ℕ
  pub w32 : ℕ
  pub nf : ℕ
  pub gives : Outcome

-- words lent, of which so many are in use
pub record Lent : Type 0 where
  pub used : ℕ
  pub words : List ℕ

-- locs and vias; case pairs, case targets and replay
pub record At : Type 0 where
  pub locs : List ℕ
  pub vias : List ℕ

pub record Beside : Type 0 where
  pub pairs : List ℕ
  pub targets : List ℕ
  pub replay : List ℕ

abbrev pub at : List ℕ → List ℕ → At
at ls vs = record { locs = ls; vias = vs }

abbrev pub registers : ℕ → List ℕ → Lent
registers n types = record { used = n; words = types }

abbrev pub operands : ℕ → List ℕ → Lent
operands n ops = record { used = n; words = ops }

abbrev pub beside : List ℕ → List ℕ → List ℕ → Beside
beside ps ts rs = record { pairs = ps; targets = ts; replay = rs }

-- ---- the commonest instructions: of form 0, with so many registers and nothing else; branches to t, or to t and f; a constant

abbrev pub op0 : Kind → Inst
op0 k = op k 0 [] [] []

abbrev pub op1 : Kind → ℕ → Inst
op1 k a = op k 0 (a ∷ []) [] []

abbrev pub op2 : Kind → ℕ → ℕ → Inst
op2 k a b = op k 0 (a ∷ b ∷ []) [] []

abbrev pub op3 : Kind → ℕ → ℕ → ℕ → Inst
op3 k a b c = op k 0 (a ∷ b ∷ c ∷ []) [] []

abbrev pub op4 : Kind → ℕ → ℕ → ℕ → ℕ → Inst
op4 k a b c d = op k 0 (a ∷ b ∷ c ∷ d ∷ []) [] []

abbrev pub op5 : Kind → ℕ → ℕ → ℕ → ℕ → ℕ → Inst
op5 k a b c d e = op k 0 (a ∷ b ∷ c ∷ d ∷ e ∷ []) [] []

abbrev pub br : ℕ → Inst
br t = op Br 0 [] [] (t ∷ [])

abbrev pub fork : ℕ → ℕ → ℕ → Inst
fork r t f = op CondBr 0 (r ∷ []) [] (t ∷ f ∷ [])

abbrev pub const : ℕ → ℕ → Inst
const r v = op Const 0 (r ∷ []) [] (v ∷ [])

-- ---- pictures

-- a picture of these blocks, end to end
abbrev pub pic : List (List Inst) → At → Lent → Lent → Beside → Picture
pic bs a r o m =
    record {
      bounds = spans 0 bs;
      recs = concat (concat bs);
      locs = a.locs;
      vias = a.vias;
      types = r.words;
      regs = r.used;
      ops = o.words;
      opers = o.used;
      pairs = m.pairs;
      targets = m.targets;
      replay = m.replay;
    }

-- the same with other bounds, and with words behind its records
abbrev pub bounded : List ℕ → Picture → Picture
bounded bs P =
    record {
      bounds = bs;
      recs = P.recs;
      locs = P.locs;
      vias = P.vias;
      types = P.types;
      regs = P.regs;
      ops = P.ops;
      opers = P.opers;
      pairs = P.pairs;
      targets = P.targets;
      replay = P.replay;
    }

abbrev pub longer : List ℕ → Picture → Picture
longer ws P =
    record {
      bounds = P.bounds;
      recs = P.recs ++ ws;
      locs = P.locs;
      vias = P.vias;
      types = P.types;
      regs = P.regs;
      ops = P.ops;
      opers = P.opers;
      pairs = P.pairs;
      targets = P.targets;
      replay = P.replay;
    }

-- the answers: rounds, registers and operands in use; or the refusal's number
abbrev pub done : ℕ → ℕ → ℕ → Answer
done n regs opers = Done (record { rounds = n; registers = regs; operands = opers })

abbrev pub short : ℕ → ℕ → ℕ → Answer
short n regs opers = Short (record { rounds = n; registers = regs; operands = opers })

abbrev pub refused : ℕ → Answer
refused n = Refused (refusal_of n)

-- some rounds: the answer, the lines, and what is left
abbrev pub moves : Picture → ℕ → ℕ → ℕ → Answer → List (List ℕ) → Picture → Row
moves P w64 w32 nf a ls Q = record { what = P; w64 = w64; w32 = w32; nf = nf; gives = record { answer = a; lines = ls; left = Q } }

-- it is left as it was: no round, or a refusal
abbrev pub stays : Picture → ℕ → ℕ → ℕ → Answer → Row
stays P w64 w32 nf a = record { what = P; w64 = w64; w32 = w32; nf = nf; gives = ends_in a P }
