-- What a move needs is counted in parts of the two work slices; the other words stay. Assumes nothing.
use mathlib.Core.Path.{◌≡◌, sym, ◌∙◌, subst}
use mathlib.Core.List.{List, ◌++◌}
use Prim.Native.Nat.{ℕ, ◌+◌, ◌-◌, ◌≤◌}
use native.Mathlib.Omega.{arith}
use borrow.Rule.Slice.PartMut.{put_mid, mid_len, same_len_mid, take_put}
use lib.ListN.{length, take, drop, length-append, length-drop}
use lib.Seq.{length-take-le, take_at, drop_at}
use Rattle.sizes.specs.declared.Sizes.{Sizes}
use Rattle.sizes.specs.Parts.{stamps_at}
use Rattle.apply.specs.declared.moves.Move.{Move}
use Rattle.apply.specs.declared.needs.Counts.{Counts}
use Rattle.apply.specs.Apply.{Asks, Counted}
use Rattle.chainwords.specs.Work.{chain_words}
use Rattle.oneround.specs.Weigh.{Needing, Needed}

module _ {bounds recs types ops : List ℕ} {s : Sizes} {work64 work32 : List ℕ} {insts : ℕ} {mv : Move} (k : Needing bounds recs types ops s work64 work32 insts mv) where
  pub few_lent : s.lent ≤ 65536
  few_lent = let t = k.asks.few_types in let e = k.lent_are in omega arith

  pub chain_long : 8000 ≡ length (chain_words work32)
  chain_long = sym (length-take-le 8000 work32 k.room32)

  -- new names are lent from a on
  pub names_fit : (a : ℕ) → a ≡ stamps_at s → a + s.lent ≤ length work64
  names_fit a e = subst (λ (z : ℕ). z + s.lent ≤ length work64) (sym e) k.room64

  names_long : (a : ℕ) → a ≡ stamps_at s → length (take (a + s.lent - a) (drop a work64)) ≡ s.lent
  names_long a e = mid_len a (a + s.lent) work64 (names_fit a e) ∙ omega arith

  pub ask_names : (a u : ℕ) → a ≡ stamps_at s → u ≡ s.opers
      → Asks mv.from.0 mv.into.0 mv.inside mv.places s.regs u (length (take (a + s.lent - a) (drop a work64))) insts bounds recs types ops (chain_words work32)
  ask_names a u e g =
      subst (λ (n : ℕ). Asks mv.from.0 mv.into.0 mv.inside mv.places s.regs u n insts bounds recs types ops (chain_words work32)) (sym (names_long a e))
      (subst (λ (n : ℕ). Asks mv.from.0 mv.into.0 mv.inside mv.places s.regs n s.lent insts bounds recs types ops (chain_words work32)) (sym g) k.asks)

  pub needed : {c : Counts} (a u : ℕ) (ys zs : List ℕ) → a ≡ stamps_at s → u ≡ s.opers → length ys ≡ length (take (a + s.lent - a) (drop a work64))
      → Counted mv.from.0 mv.into.0 mv.inside mv.places s.regs u bounds recs types ops (chain_words work32) zs c.regs c.opers
      → Needed bounds recs types ops s work64 work32 mv (put_mid a (a + s.lent - a) work64 ys) (zs ++ drop 8000 work32) c
  needed {c} a u ys zs e g long n =
      let fit = names_fit a e in
      let words : length zs ≡ 8000 = n.size ∙ length-take-le 8000 work32 k.room32 in
      let back : take 8000 (zs ++ drop 8000 work32) ≡ zs = take_at zs (drop 8000 work32) 8000 words in
      let room = k.room32 in
      record {
        size64 = same_len_mid a (a + s.lent - a) work64 ys long;
        size32 = length-append zs (drop 8000 work32) ∙ omega (arith, length-drop 8000 work32);
        before = subst (λ (z : ℕ). take z (put_mid a (a + s.lent - a) work64 ys) ≡ take z work64) e (take_put a (a + s.lent - a) work64 ys (omega arith));
        behind = drop_at zs (drop 8000 work32) 8000 words;
        counted = subst (λ (v : List ℕ). Counted mv.from.0 mv.into.0 mv.inside mv.places s.regs s.opers bounds recs types ops (chain_words work32) v c.regs c.opers) (sym back)
            (subst (λ (z : ℕ). Counted mv.from.0 mv.into.0 mv.inside mv.places s.regs z bounds recs types ops (chain_words work32) zs c.regs c.opers) g n);
      }
