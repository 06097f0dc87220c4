-- Acceptance gives what the functions of this crate ask. Assumes nothing.
use mathlib.Core.Path.{subst}
use mathlib.Core.List.{[]}
use Prim.Native.Nat.{ℕ, ◌+◌, ◌*◌, ◌≤◌, ◌<◌}
use native.Mathlib.Omega.{arith}
use lib.ListN.{get_or, length}
use Rattle.words.specs.Lists.{In}
use Rattle.words.proofs.Members.{in_get_or}
use Rattle.model.specs.Picture.{Picture, inst, succs}
use Rattle.laws.proofs.Accepted as laws
use Rattle.model.proofs.Results.{kind_low}
use Rattle.laws.proofs.Admitted.{writes_low, list_in, reads_low, succs_low, pair_fits}
use Rattle.laws.proofs.Sizes.{few_blocks, few_insts, few_types, regs_lent, opers_lent, recs_length, block_within}
use Rattle.inst.specs.Record.{Known}
use Rattle.cfg.specs.Drawn.{drawn}
use Rattle.cfg.specs.Graph.{Tables, Blocks, Graph}
use Rattle.defuse.specs.Sets.{Code}
use Rattle.flow.proofs.Whole.{succs_whole}

module _ (P : Picture) (ok : laws.Accepted P) where
  place : (p : ℕ) → 16 * p + 16 ≤ length P.recs → p < length P.locs
  place p h = omega (arith, recs_length P ok)

  admitted : (p : ℕ) → 16 * p + 16 ≤ length P.recs → laws.Admitted P (inst P.recs p)
  admitted p h = ok.each p (place p h)

  known : (p : ℕ) → 16 * p + 16 ≤ length P.recs → Known P.recs p
  known p h = record { within = record { whole = h }; kind = omega (arith, kind_low (inst P.recs p) (admitted p h).kind_fits) }

  pub blocks_given : Blocks P.bounds P.recs
  blocks_given = record {
    few = few_blocks P ok;
    short = omega (arith, recs_length P ok, few_insts P ok);
    inside = λ b h. let z = block_within P ok b h in let y = z.1 in omega (arith, recs_length P ok);
    order = λ b h. (block_within P ok b h).0;
  }

  pub tables_given : Tables P.pairs P.targets
  tables_given = record { inside = λ k h. (pair_fits (length P.targets) P.pairs ok.case_pairs k (omega arith)).1 }

  pub graph_given : Graph P.bounds P.recs P.pairs P.targets
  graph_given = record {
    tables = tables_given;
    blocks = blocks_given;
    known = known;
    next = λ b j h k. succs_low P ok b (get_or (succs (drawn P.bounds P.recs [] P.pairs P.targets) b) j 0)
        (subst (In (get_or (succs (drawn P.bounds P.recs [] P.pairs P.targets) b) j 0)) (succs_whole P [] b) (in_get_or 0 (succs (drawn P.bounds P.recs [] P.pairs P.targets) b) j k));
  }

  pub code_given : Code P.recs P.ops P.regs
  code_given = record {
    few = omega (arith, few_types P ok, regs_lent P ok);
    known = known;
    listed = λ p h. record { within = record { whole = h }; list = omega (arith, list_in P (inst P.recs p) (admitted p h), opers_lent P ok) };
    read = λ p q h i. reads_low P ok (inst P.recs p) (admitted p h) q i;
    written = λ p q h i. writes_low P (inst P.recs p) (admitted p h) q i;
  }
