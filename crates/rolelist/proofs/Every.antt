-- What an iterator's `all` answers. Assumes nothing.
use Rattle.std.proofs.Common.{◌≡◌, refl, ap, ◌∙◌, Bool, ◌&&◌, List, [], ◌∷◌}
use Rattle.std.specs.List.{list_all}
use Rattle.words.specs.Lists.{all}

same : {A : Type 0} (f : A → Bool) (xs : List A) → list_all f xs ≡ all f xs
same f [] = refl
same f (x ∷ xs) = ap (λ (b : Bool). f x && b) (same f xs)

pub all_is : {A : Type 0} {r : Bool} (f : A → Bool) (xs : List A) → r ≡ list_all (λ x. f x) xs → r ≡ all f xs
all_is f xs e = e ∙ same f xs
