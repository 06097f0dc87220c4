-- 01, "One listing whole": a picture as bytes, the input of `sinkrounds` and of the host's entry, within the program's sizes.
-- Assumes nothing.
use Rattle.std.specs.Prelude.{◌≡◌, Bool, ◌&&◌, List, [], ◌∷◌, ◌++◌, map, ℕ, ◌+◌, ◌-◌, ◌*◌, ◌≤◌, eqb, leb, Option, Some, None, get_or, length, take, drop, replicate}
use Rattle.layout.specs.declared.Counts.{Counts}
use Rattle.layout.specs.declared.Slices.{Slices}
use Rattle.layout.specs.declared.Part.{Part}
use Rattle.layout.specs.declared.Part.TheVariants.{Bounds, Recs, Locs, Vias, Types, Ops, Pairs, Targets, Replay}
use Rattle.std.proofs.lemmas.List.Edits.{sets}
use Rattle.std.specs.Borrow.{Bor}
use Rattle.words.specs.Bytes.{words_of, bytes_of}
use Rattle.words.specs.Lists.{concat}
use Rattle.model.specs.Picture.{Picture, nblocks}

-- the eight counts: "counts of blocks, instructions, registers, operands, pair words, target words, replay, via words"
abbrev pub counts : List ℕ → Counts
counts ws =
    record {
      blocks = get_or ws 0 0;
      insts = get_or ws 1 0;
      registers = get_or ws 2 0;
      operands = get_or ws 3 0;
      pairs = get_or ws 4 0;
      targets = get_or ws 5 0;
      replay = get_or ws 6 0;
      vias = get_or ws 7 0;
    }

-- the counts in these bytes
abbrev pub held : List ℕ → Counts
held bs = counts (words_of bs)

-- "Program: 64 blocks, 512 instructions, 512 registers and 2,048 operands lent, 256 pair words, 1,024 target words, 64 replay
-- words, 512 via words"
abbrev pub within : Counts → Bool
within c =
    leb c.blocks 64 && leb c.insts 512 && leb c.registers 512 && leb c.operands 2048 && leb c.pairs 256 && leb c.targets 1024
    && leb c.replay 64 && leb c.vias 512

-- where each slice begins, in words: "then the slices: block bounds, records, locs, vias, types, operands, case pairs, case targets,
-- replay"
abbrev pub at_recs : Counts → ℕ
at_recs c = 8 + 2 * c.blocks

abbrev pub at_locs : Counts → ℕ
at_locs c = at_recs c + 16 * c.insts

abbrev pub at_vias : Counts → ℕ
at_vias c = at_locs c + c.insts

abbrev pub at_types : Counts → ℕ
at_types c = at_vias c + c.vias

abbrev pub at_ops : Counts → ℕ
at_ops c = at_types c + c.registers

abbrev pub at_pairs : Counts → ℕ
at_pairs c = at_ops c + c.operands

abbrev pub at_targets : Counts → ℕ
at_targets c = at_pairs c + c.pairs

abbrev pub at_replay : Counts → ℕ
at_replay c = at_targets c + c.targets

abbrev pub at_end : Counts → ℕ
at_end c = at_replay c + c.replay

-- the part before a part
abbrev pub before : Part → Option Part
before Bounds = None
before Recs = Some Bounds
before Locs = Some Recs
before Vias = Some Locs
before Types = Some Vias
before Ops = Some Types
before Pairs = Some Ops
before Targets = Some Pairs
before Replay = Some Targets

-- how many words a part has
abbrev pub words_in : Part → Counts → ℕ
words_in Bounds c = 2 * c.blocks
words_in Recs c = 16 * c.insts
words_in Locs c = c.insts
words_in Vias c = c.vias
words_in Types c = c.registers
words_in Ops c = c.operands
words_in Pairs c = c.pairs
words_in Targets c = c.targets
words_in Replay c = c.replay

abbrev pub start : Part → Counts → ℕ
start Bounds c = 8
start Recs c = at_recs c
start Locs c = at_locs c
start Vias c = at_vias c
start Types c = at_types c
start Ops c = at_ops c
start Pairs c = at_pairs c
start Targets c = at_targets c
start Replay c = at_replay c

-- can these bytes be read: neither cut short, nor longer than their counts say, nor past the program's sizes
abbrev pub readable : List ℕ → Bool
readable bs = leb 32 (length bs) && within (held bs) && eqb (length bs) (4 * at_end (held bs))

abbrev pub part : List ℕ → ℕ → ℕ → List ℕ
part ws at n = take n (drop at ws)

-- a part of the picture in these words
abbrev pub part_of : List ℕ → Part → List ℕ
part_of ws p = let c = counts ws in part ws (start p c) (words_in p c)

-- what is given, then zeros up to n
abbrev pub padded : ℕ → List ℕ → List ℕ
padded n xs = xs ++ replicate (n - length xs) 0

-- so many words lent
abbrev pub room : ℕ → List ℕ → List ℕ
room n xs = take n (padded n xs)

-- the picture in these words, with so many registers and operands lent
abbrev pub picture_in : List ℕ → ℕ → ℕ → Picture
picture_in ws registers operands =
    let c = counts ws in
    record {
      bounds = part ws 8 (2 * c.blocks);
      recs = part ws (at_recs c) (16 * c.insts);
      locs = part ws (at_locs c) c.insts;
      vias = part ws (at_vias c) c.vias;
      types = room registers (part ws (at_types c) c.registers);
      regs = c.registers;
      ops = room operands (part ws (at_ops c) c.operands);
      opers = c.operands;
      pairs = part ws (at_pairs c) c.pairs;
      targets = part ws (at_targets c) c.targets;
      replay = part ws (at_replay c) c.replay;
    }

-- a picture in this layout: what is in use
abbrev pub picture_bytes : Picture → List ℕ
picture_bytes P =
    bytes_of (
    nblocks P ∷ length P.locs ∷ P.regs ∷ P.opers ∷ length P.pairs ∷ length P.targets ∷ length P.replay ∷ length P.vias ∷ []
    ++ P.bounds ++ P.recs ++ P.locs ++ P.vias ++ take P.regs P.types ++ take P.opers P.ops ++ P.pairs ++ P.targets ++ P.replay
    )

-- the picture that is lent as nine slices, with so many registers and operands in use
abbrev pub pictured : Slices → ℕ → ℕ → Picture
pictured s regs opers =
    record {
      bounds = s.bounds.now;
      recs = s.recs.now;
      locs = s.locs.now;
      vias = s.vias.now;
      types = s.types.now;
      regs = regs;
      ops = s.ops.now;
      opers = opers;
      pairs = s.pairs.now;
      targets = s.targets.now;
      replay = s.replay.now;
    }

-- what a picture has in use is within the program's sizes, and n bytes hold the largest such picture: "at least 53,024 result bytes"
pub record Fitting (P : Picture) (n : ℕ) : Type 0 where
  pub bounds_fit : length P.bounds ≤ 128
  pub recs_fit : length P.recs ≤ 8192
  pub locs_fit : length P.locs ≤ 512
  pub vias_fit : length P.vias ≤ 512
  pub regs_fit : P.regs ≤ 512
  pub regs_lent : P.regs ≤ length P.types
  pub opers_fit : P.opers ≤ 2048
  pub opers_lent : P.opers ≤ length P.ops
  pub pairs_fit : length P.pairs ≤ 256
  pub targets_fit : length P.targets ≤ 1024
  pub replay_fit : length P.replay ≤ 64
  pub holds : 53024 ≤ n

-- the words of slices, one behind the other
abbrev pub joined : List (Bor (List ℕ)) → List ℕ
joined ss = concat (map (λ s. s.now) ss)

-- vs stand from place `at` on, all else is as it was, and r is the place behind them
pub record Put (before : List ℕ) (at : ℕ) (vs after : List ℕ) (r : ℕ) : Type 0 where
  pub made : after ≡ sets before at vs
  pub next : r ≡ at + length vs
