-- Pictures written down block by block, for tables of cases. Assumes nothing.
use Rattle.std.specs.Prelude.{List, [], ◌∷◌, ◌++◌, map, ℕ, zero, suc, ◌-◌, length, replicate}
use Rattle.words.specs.Lists.{concat, spans}
use Rattle.model.specs.Kinds.{Kind, place}
use Rattle.model.specs.Picture.{Picture, Inst, absent}

-- n words: those given, then d
abbrev pub pad : ℕ → ℕ → List ℕ → List ℕ
pad zero d xs = []
pad (suc n) d [] = d ∷ pad n d []
pad (suc n) d (x ∷ xs) = x ∷ pad n d xs

-- a record: kind, form, slots, list start and length, payload
abbrev pub op : Kind → ℕ → List ℕ → List ℕ → List ℕ → Inst
op k f rs l w = place k ∷ f ∷ pad 5 absent rs ++ pad 2 0 l ++ pad 7 0 w

-- what stands beside the code: the types and operands in use, and how much room is lent for each; the room past them holds sevens
pub record Room : Type 0 where
  pub types : List ℕ
  pub registers : ℕ
  pub ops : List ℕ
  pub operands : ℕ

abbrev pub filled : ℕ → List ℕ → List ℕ
filled n xs = xs ++ replicate (n - length xs) 7

-- the picture of these blocks; each instruction's loc is the number given for it, and its via one more
abbrev pub shows : List (List Inst) → Room → List ℕ → List ℕ → Picture
shows bs m replay locs =
    record {
      bounds = spans 0 bs;
      recs = concat (concat bs);
      locs = locs;
      vias = map suc locs;
      types = filled m.registers m.types;
      regs = length m.types;
      ops = filled m.operands m.ops;
      opers = length m.ops;
      pairs = [];
      targets = [];
      replay = replay;
    }
