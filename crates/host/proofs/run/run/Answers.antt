-- `run::run` meets its contract: the heads of the arrays are the picture in the bytes. Assumes nothing.
use mathlib.Core.List.{List}
use mathlib.Core.Path.{◌≡◌, ap, ◌∙◌}
use Prim.Native.Nat.{ℕ}
use lib.ListN.{take}
use Rattle.words.specs.Bytes.{words_of}
use Rattle.layout.specs.declared.Part.{Part}
use Rattle.layout.specs.declared.Part.TheVariants.{Bounds, Recs, Locs, Vias, Types, Ops, Pairs, Targets, Replay}
use Rattle.layout.specs.Layout.{words_in, room, part_of}
use Rattle.layout.proofs.Reading.{room_front}
use Rattle.host.proofs.Loads.{most, in_picture, part_head, ran_same}
use Rattle.host.proofs.run.run.Goals as goal

pub returns : goal.returns
returns c =
    let a = c.args in
    let bs = a.picture.bytes.now in
    let counts = a.picture.counts in
    let head = λ (p : Part) (n : ℕ) (xs : List ℕ) (e : n ≡ words_in p counts) (f : xs ≡ room (most p) (part_of (words_of bs) p)). part_head bs a.picture.can p counts n xs a.picture.counted e f in
    let types = ap (take a.registers) c.get-5.ensures ∙ room_front a.registers 512 (part_of (words_of bs) Types) c.requires.1 in
    let ops = ap (take a.operands) c.get-6.ensures ∙ room_front a.operands 2048 (part_of (words_of bs) Ops) c.requires.2 in
    ran_same _ _
    (in_picture bs a.registers a.operands counts a.picture.counted _ _ _ _ _ _ _ _ _ (head Bounds _ _ c.words_in.ensures c.get.ensures) (head Recs _ _ c.words_in-2.ensures c.get-2.ensures)
    (head Locs _ _ c.words_in-3.ensures c.get-3.ensures) (head Vias _ _ c.words_in-4.ensures c.get-4.ensures) types ops (head Pairs _ _ c.words_in-5.ensures c.get-7.ensures)
    (head Targets _ _ c.words_in-6.ensures c.get-8.ensures) (head Replay _ _ c.words_in-7.ensures c.get-9.ensures)) c.sink_into.ensures
