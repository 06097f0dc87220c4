-- Parts that are lent leave the rest as it was: rows of bits below them, words behind them; so what is held stays. Assumes nothing.
use mathlib.Core.Path.{◌≡◌, refl, ap, ◌∙◌}
use mathlib.Core.List.{List}
use Prim.Native.Nat.{ℕ, ◌+◌, ◌*◌, ◌%◌, ◌≤◌, ◌<◌}
use native.Mathlib.Nat.{le_trans, mul-le-mul_left}
use native.Mathlib.Omega.{arith}
use lib.ListN.{get_or, length, take, drop}
use Rattle.words.specs.Bits.{is_in}
use Rattle.words.proofs.Parts.{row_fits}
use Rattle.words.proofs.Lists.{front_same}
use Rattle.words.proofs.Rows.{in_front}
use Rattle.model.specs.Picture.{Picture, nblocks}
use Rattle.model.specs.Refusal.{records}
use Rattle.model.specs.Analyse.{Facts}
use Rattle.laws.proofs.Accepted as laws
use Rattle.laws.proofs.Sizes.{regs_lent}
use Rattle.sizes.specs.declared.Sizes.{Sizes}
use Rattle.sizes.specs.Parts.{regs_at}
use Rattle.words.specs.Bits.{width}
use Rattle.chainwords.specs.Work.{at_regs, reg_words, Held, Lists}
use Rattle.chainwords.proofs.Standing.{same_rows, Firm, firsts_before, begun_kept}

-- ---- rows of bits

pub row_low : {b w v : ℕ} (B : ℕ) → b < 4 * B → w ≤ v → b * w + w ≤ 4 * B * v
row_low {b} {w} {v} B h k = le_trans (row_fits w h) (mul-le-mul_left (4 * B) k)

module _ {P : Picture} {bounds recs ops : List ℕ} {s : Sizes} {w64 w32 : ℕ} (l : Lists P bounds recs ops s w64 w32) where
  pub ok : laws.Accepted P
  ok = laws.accepted P w64 w32 records l.accepted

  pub at_is : regs_at s ≡ at_regs P
  at_is = rw (l.blocks_are, l.lent_are) refl

  -- ---- what is held

  width_less : width P.regs ≤ width (length P.types)
  width_less = let c = regs_lent P ok in omega arith

  module _ {work64 work32 : List ℕ} {G : Facts} (h : Held P G work64 work32) (work64' work32' : List ℕ) (rows : take (at_regs P) work64' ≡ take (at_regs P) work64)
      (flags : (r : ℕ) → r < length P.types → get_or (reg_words P work64') r 0 % 16 ≡ get_or (reg_words P work64) r 0 % 16)
      (behind : drop (8000 + length P.types) work32' ≡ drop (8000 + length P.types) work32) where
    same_row : (b r : ℕ) → b < 4 * nblocks P → r < 64 * width P.regs → is_in work64' (64 * (b * width P.regs) + r) ≡ is_in work64 (64 * (b * width P.regs) + r)
    same_row b r i j = let z = row_low (nblocks P) i width_less in in_front work64' work64 (at_regs P) (64 * (b * width P.regs) + r) rows (omega (arith, z))

    firm : Firm P work64 work64'
    firm = record {
      rows = λ b i. let f = firsts_before P ok i in
          same_rows work64 work64' i (λ q u v. front_same (at_regs P) work64 work64' rows q (omega arith)) (λ q u v. front_same (at_regs P) work64 work64' rows q (omega arith));
      flags = flags;
    }

    pub held_kept : Held P G work64' work32'
    held_kept = record {
      begun = begun_kept firm (ap (take (2 * nblocks P)) behind) h.begun;
      live = record { row = λ b r i j. same_row b r (omega arith) j ∙ h.live.row b r i j };
    }
