-- 01, "The move": which records go where, in a list of records of w words each, and what the functions over it ensure. Assumes
-- nothing.
use Rattle.std.specs.Prelude.{◌≡◌, Bool, true, false, cond, not, List, ◌++◌, map, ℕ, ◌+◌, ◌-◌, ◌*◌, ◌≤◌, ◌<◌, eqb, ltb, length, take, drop, get_or}
use Rattle.std.proofs.lemmas.List.Edits.{sets}
use Rattle.words.specs.Lists.{range, upto, filter, concat}

-- record p, and the records at these places, end to end
abbrev pub cell : ℕ → List ℕ → ℕ → List ℕ
cell w xs p = take w (drop (w * p) xs)

unfoldable pub cells : ℕ → List ℕ → List ℕ → List ℕ
cells w xs ps = concat (map (cell w xs) ps)

-- ---- the marks

abbrev pub mark_at : List ℕ → ℕ → ℕ
mark_at chain p = get_or chain (10 * p + 6) 0

abbrev pub stays : List ℕ → ℕ → Bool
stays chain p = eqb (mark_at chain p) 0

abbrev pub goes : List ℕ → ℕ → Bool
goes chain p = not (stays chain p)

-- those that stay, and those that go, of the p places from lo on
abbrev pub kept : List ℕ → ℕ → ℕ → List ℕ
kept chain lo p = map (λ q. lo + q) (filter (stays chain) (upto p))

abbrev pub gone : List ℕ → ℕ → ℕ → List ℕ
gone chain lo p = map (λ q. lo + q) (filter (goes chain) (upto p))

-- ---- the order after, of n records: t lies behind the m from lo on, or in front of them

abbrev pub later : List ℕ → ℕ → ℕ → ℕ → ℕ → List ℕ
later chain lo m t n = range 0 lo ++ (kept chain lo m ++ (range (lo + m) (t - (lo + m)) ++ (gone chain lo m ++ range t (n - t))))

abbrev pub earlier : List ℕ → ℕ → ℕ → ℕ → ℕ → List ℕ
earlier chain lo m t n = range 0 t ++ (gone chain lo m ++ (range t (lo - t) ++ (kept chain lo m ++ range (lo + m) (n - (lo + m)))))

abbrev pub moved : List ℕ → ℕ → ℕ → ℕ → ℕ → List ℕ
moved chain lo m t n = cond (ltb lo t) (later chain lo m t n) (earlier chain lo m t n)

-- ---- the words after: the marked ones of the m records from lo on go before word e, which is behind them, or in front

unfoldable pub sunk : ℕ → List ℕ → ℕ → ℕ → ℕ → List ℕ → List ℕ
sunk w chain lo m e xs =
    take (w * lo) xs ++ (cells w xs (kept chain lo m) ++ (take (e - w * (lo + m)) (drop (w * (lo + m)) xs) ++ (cells w xs (gone chain lo m) ++ drop e xs)))

unfoldable pub raised : ℕ → List ℕ → ℕ → ℕ → ℕ → List ℕ → List ℕ
raised w chain lo m e xs =
    take e xs ++ (cells w xs (gone chain lo m) ++ (take (w * lo - e) (drop e xs) ++ (cells w xs (kept chain lo m) ++ drop (w * (lo + m)) xs)))

-- ---- what the functions ensure

-- a record at word e, which goes or stays, was looked at, s words having been saved before; r words more are saved
pub record One (w : ℕ) (goes : Bool) (e s : ℕ) (xs ys saved saved' : List ℕ) (r : ℕ) : Type 0 where
  pub small : r ≤ w
  pub size : length ys ≡ length xs
  pub saved_size : length saved' ≡ length saved
  pub unmarked : goes ≡ false → (r ≡ 0) × (ys ≡ sets xs (e - s) (take w (drop e xs))) × (saved' ≡ saved)
  pub marked : goes ≡ true → (r ≡ w) × (ys ≡ xs) × (saved' ≡ sets saved s (take w (drop e xs)))

-- the first p records from lo on were looked at, and s words saved
pub record Gathered (w : ℕ) (chain : List ℕ) (lo : ℕ) (xs ys saved saved' : List ℕ) (p s : ℕ) : Type 0 where
  pub size : length ys ≡ length xs
  pub saved_size : length saved' ≡ length saved
  pub small : s ≤ w * p
  pub front : take (w * (lo + p) - s) ys ≡ take (w * lo) xs ++ cells w xs (kept chain lo p)
  pub back : drop (w * (lo + p)) ys ≡ drop (w * (lo + p)) xs
  pub saved_is : take s saved' ≡ cells w xs (gone chain lo p)

-- what is asked: m records from lo on, a word e or the end, and room to save k records
pub record Ask (w lo m k e : ℕ) (chain saved xs : List ℕ) : Type 0 where
  pub inside : w * (lo + m) ≤ length xs
  pub few : lo + m ≤ length xs
  pub target : e ≤ length xs
  pub room : w * k ≤ length saved
  pub words : 10 * m ≤ length chain

-- all words of a slice moved, if there are any: vias are one each or none at all
unfoldable pub all_moved : ℕ → List ℕ → ℕ → ℕ → ℕ → ℕ → List ℕ → List ℕ
all_moved w chain lo m t n xs = cond (eqb (length xs) 0) xs (cells w xs (moved chain lo m t n))

-- what is asked of records, locs and vias
pub record Lines (lo m t : ℕ) (chain recs locs vias : List ℕ) : Type 0 where
  pub inside : lo + m ≤ length locs
  pub target : t ≤ length locs
  pub apart : lo < t → lo + m ≤ t
  pub few : m ≤ 800
  pub words : 10 * m ≤ length chain
  pub whole : length recs ≡ 16 * length locs
  pub each_or_none : (length vias ≡ 0 → ⊥) → length vias ≡ length locs

pub record Moves (lo m t : ℕ) (chain recs recs' locs locs' vias vias' : List ℕ) : Type 0 where
  pub recs_are : recs' ≡ cells 16 recs (moved chain lo m t (length locs))
  pub locs_are : locs' ≡ cells 1 locs (moved chain lo m t (length locs))
  pub vias_are : vias' ≡ all_moved 1 chain lo m t (length locs) vias
