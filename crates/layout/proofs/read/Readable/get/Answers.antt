-- `Readable::get` meets its contract: the words of the part, then zeros. Assumes nothing.
use Rattle.std.proofs.Common.{◌≡◌, ℕ, ◌*◌, ◌∙◌, List, ◌++◌, ap, ap₂, length, take, drop, replicate, min, arith, rules}
use Rattle.words.specs.Bytes.{words_of}
use Rattle.layout.specs.Layout.{words_in}
use Rattle.layout.proofs.Order.{part_read}
use Rattle.layout.proofs.read.Readable.get.Goals as goal

pub returns : goal.returns
returns c =
    let bytes = c.args.self.bytes.now in
    let n : ℕ = length c.split_at_mut-head.result.0.now in
    let k : ℕ = length c.split_at_mut-head.result.1.now in
    let l : ℕ = length c.args.out.now in
    let zeros : c.fill.new.self ≡ replicate k 0 = c.fill.ensures.after (λ y h. h) in
    let m : c.min-n.result ≡ min (words_in c.args.part c.args.self.counts) l = search rules in
    let parts : n ≡ c.min-n.result = c.split_at_mut-head.ensures.front_len in
    let read = part_read bytes c.args.self.counts c.args.part n k l c.args.self.can c.args.self.counted (parts ∙ m) (omega (arith, parts, c.split_at_mut-head.ensures.back_len)) in
    ap₂ (λ (xs ys : List ℕ). xs ++ ys) (c.get_words.ensures ∙ ap (λ (s : ℕ). words_of (take (4 * n) (drop (4 * s) bytes))) c.start.ensures) zeros ∙ read
