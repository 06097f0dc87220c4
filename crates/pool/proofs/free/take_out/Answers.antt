-- `pool::free::take_out` meets its contract: what is left is the list closed up and cut. Assumes nothing.
use mathlib.Core.Path.{◌≡◌, ap, ◌∙◌}
use mathlib.Core.List.{List}
use Prim.Native.Nat.{ℕ, ◌+◌, ◌-◌}
use lib.ListN.{length, take, drop}
use lib.Seq.{sets}
use Rattle.std.specs.List.{refill}
use Rattle.std.proofs.lemmas.List.{take_at}
use Rattle.pool.proofs.Founds.{closed_up}
use Rattle.pool.proofs.free.take_out.Goals as goal

pub returns-clause-items : goal.returns-clause-items
returns-clause-items c =
    let xs : List ℕ = c.args.words.now.items in
    let a = c.args.at in
    let n : c.len-n.result ≡ length xs = c.len-n.ensures.value in
    let lent : c.as_mut_slice.result.now ≡ xs = c.as_mut_slice.ensures.value in
    let down : c.slide.new.xs ≡ sets xs a (take (length xs - (a + 1)) (drop (a + 1) xs)) =
    c.slide.ensures ∙ ap (λ (l : List ℕ). sets l a (take (c.len-n.result - (a + 1)) (drop (a + 1) l))) lent
    ∙ ap (λ (m : ℕ). sets xs a (take (m - (a + 1)) (drop (a + 1) xs))) n in
    let back : refill (length xs) xs c.slide.new.xs ≡ c.slide.new.xs =
    take_at c.slide.new.xs (drop (length c.slide.new.xs) xs) (length xs) (c.slide.auto.xs ∙ ap length lent) in
    c.truncate.ensures.items ∙ ap (λ (l : List ℕ). take (c.len-n.result - 1) l) (back ∙ down)
    ∙ ap (λ (m : ℕ). take (m - 1) (sets xs a (take (length xs - (a + 1)) (drop (a + 1) xs)))) n ∙ closed_up xs a c.requires
