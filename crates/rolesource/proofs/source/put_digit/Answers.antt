-- `source::put_digit` meets its contract: the rest of a division by 16 is a place among the digits. Assumes nothing.
use Rattle.std.proofs.Common.{ap, ◌∙◌, ◌%◌, ◌<◌, ℕ, [], ◌∷◌, ◌++◌, codes, arith}
use Rattle.std.proofs.lemmas.List.{get_or_default}
use Rattle.rolesource.proofs.source.put_digit.Goals as goal

pub returns-clause-text : goal.returns-clause-text
returns-clause-text c =
    let n = c.args.n in
    let h : n % 16 < 16 = omega arith in
    c.push.ensures.items ∙ ap (λ (d : ℕ). c.args.out.now.items ++ d ∷ []) (get_or_default (codes "0123456789abcdef") (n % 16) 0 48 h)
