-- `write::write_picture` meets its contract: the counts and the parts, one behind the other. Assumes nothing.
use Rattle.std.proofs.Common.{ℕ, List, [], ◌∷◌, ◌/◌, length, take, subst}
use Rattle.words.specs.Bytes.{bytes_of}
use Rattle.layout.specs.Layout.{Put}
use Rattle.layout.proofs.Placing.{in_order}
use Rattle.layout.proofs.write.write_picture.Goals as goal

pub returns : goal.returns
returns c =
    let s = c.args.slices in
    let counts : List ℕ =
    length s.bounds.now / 2 ∷ length s.locs.now ∷ c.args.regs ∷ c.args.opers ∷ length s.pairs.now ∷ length s.targets.now ∷ length s.replay.now ∷ length s.vias.now ∷ [] in
    let whole = in_order counts s.bounds.now s.recs.now s.locs.now s.vias.now (take c.args.regs s.types.now) (take c.args.opers s.ops.now) s.pairs.now s.targets.now s.replay.now in
    subst (λ (ws : List ℕ). Put c.args.out.now 0 (bytes_of ws) c.put_all.new.out c.put_all.result) whole (rw c.words.ensures at c.put_all.ensures)
