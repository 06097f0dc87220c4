-- `chains::chain::Chain::ends` meets its contract. Assumes nothing.
use mathlib.Core.Path.{sym, ◌∙◌}
use native.Mathlib.Omega.{arith}
use Rattle.inst.proofs.Indices.{is_block, not_block}
use Rattle.chains.specs.Chain.{ended, chain_of, blocks_of, last_of}
use Rattle.chains.proofs.Search.{sound_ends}
use Rattle.chains.proofs.chain.Chain.ends.Goals as goal

pub returns-in_err-t : goal.returns-in_err-t
returns-in_err-t c = let a = c.args in let h = not_block a.t a.blocks (sym c.new.ensures ∙ c.in_err-t.was) in absurd (omega (arith, h, c.requires.1))

pub returns-in_err-f : goal.returns-in_err-f
returns-in_err-f c = let a = c.args in let h = not_block a.f a.blocks (sym c.new-2.ensures ∙ c.in_err-f.was) in absurd (omega (arith, h, c.requires.2))

pub returns : goal.returns
unfolding chain_of ended blocks_of last_of
returns c = let a = c.args in let h = is_block a.t a.blocks _ (sym c.new.ensures ∙ c.in_ok-t.was) in let g = is_block a.f a.blocks _ (sym c.new-2.ensures ∙ c.in_ok-f.was) in (sound_ends _ _ c.requires.0, rw (h.0, g.0))
