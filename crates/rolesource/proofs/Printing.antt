-- Rows, one behind the other (specs/Source). Assumes nothing.
use Rattle.std.proofs.Common.{◌≡◌, refl, sym, ap, ◌∙◌, ℕ, ◌+◌, ◌*◌, ◌/◌, ◌%◌, add-one, List, [], ◌∷◌, ◌++◌, append_assoc, append-nil, map, get_or, codes, true, false}
use borrow.Author.Tests.{ne_eqb}
use Rattle.std.specs.Fmt.{decimal}
use Rattle.std.specs.Str.{bytes_eq}
use Rattle.words.specs.Lists.{concat, range, upto}
use Rattle.words.proofs.Lists.{made_snoc, concat_append}
use Rattle.rolelist.specs.Text.{word, line, lines}
use Rattle.rolelist.specs.Line.{is_note, digit, slots_at, shape_of, arm_of, allowed}
use Rattle.rolelist.specs.Listed.{unread}
use Rattle.rolesource.specs.Source.{bit, hex, cell, row, heading, source}

-- one more of what a rule makes
pub made_more : (f : ℕ → List ℕ) (s n m : ℕ) (o t t' x : List ℕ) → m ≡ n + 1 → x ≡ f (s + n) → t ≡ o ++ concat (map f (range s n)) → t' ≡ t ++ x
    → t' ≡ o ++ concat (map f (range s m))
made_more f s n m o t t' x h k e g =
    let front : List ℕ = concat (map f (range s n)) in
    let last : concat (map f (range s m)) ≡ front ++ x =
    ap (λ (j : ℕ). concat (map f (range s j))) (h ∙ add-one n) ∙ ap concat (made_snoc f s n) ∙ concat_append (map f (range s n)) (f (s + n) ∷ [])
    ∙ ap (λ (l : List ℕ). front ++ l) (append-nil (f (s + n)) ∙ sym k) in
    g ∙ ap (λ (l : List ℕ). l ++ x) e ∙ append_assoc o front x ∙ ap (λ (l : List ℕ). o ++ l) (sym last)

-- what the digits of a word are made of
pub record Parts (f : ℕ) (l : List ℕ) (arm shape quiet list form : ℕ) (slots : List ℕ) : Type 0 where
  pub is_arm : arm ≡ arm_of l
  pub is_shape : shape ≡ shape_of l
  pub is_quiet : quiet ≡ bit (bytes_eq (word 6 l) (codes "quiet"))
  pub has_list : list ≡ bit (bytes_eq (word 3 l) (codes "list"))
  pub has_form : form ≡ bit (allowed f l)
  pub are_slots : slots ≡ slots_at f l

-- one behind the other
pub cell_done : {f : ℕ} {l : List ℕ} (o a b c d e g : List ℕ) (arm shape quiet list form : ℕ) (slots : List ℕ) → Parts f l arm shape quiet list form slots → a ≡ o ++ codes " 0x"
    → b ≡ a ++ hex (arm / 16 + 2 * quiet) ∷ [] → c ≡ b ++ hex arm ∷ [] → d ≡ c ++ hex (shape % 4 + 4 * list + 8 * form) ∷ []
    → e ≡ d ++ map (λ s. hex (digit (get_or slots s 45))) (4 ∷ 3 ∷ 2 ∷ 1 ∷ 0 ∷ []) → g ≡ e ++ codes "," → g ≡ o ++ cell f l
unfolding cell
cell_done o a b c d e g arm shape quiet list form slots p h i j k m n =
    rw (n, m, k, j, i, h, p.is_arm, p.is_shape, p.is_quiet, p.has_list, p.has_form, p.are_slots) (simp append_assoc)

grouped : (o a l b m d : List ℕ) → o ++ a ++ l ++ b ++ m ++ d ≡ o ++ (a ++ l ++ b ++ m ++ d)
grouped o a l b m d = simp append_assoc

-- the parts of a row
pub row_done : (l o a b c d e : List ℕ) → is_note l ≡ false → a ≡ o ++ codes "    // " → b ≡ a ++ l → c ≡ b ++ codes "\n   " → d ≡ c ++ concat (map (λ f. cell f l) (range 48 8))
    → e ≡ d ++ codes "\n" → e ≡ o ++ row l
unfolding row
row_done l o a b c d e n h i j k m = rw (n, m, k, j, i, h) (grouped o (codes "    // ") l (codes "\n   ") (concat (map (λ f. cell f l) (range 48 8))) (codes "\n"))

-- a line that is passed over has none
pub row_none : (l o : List ℕ) → is_note l ≡ true → o ≡ o ++ row l
unfolding row
row_none l o n = rw n (sym (append-nil o))

module _ (t : List ℕ) (u : ℕ) (o : List ℕ) (is : u ≡ unread t) (none : o ≡ []) where
  -- the parts of a table
  pub table_done : (a b c : List ℕ) → u ≡ 0 → a ≡ o ++ heading → b ≡ a ++ concat (map (λ n. row (line n t)) (upto (lines t))) → c ≡ b ++ codes "];\n" → c ≡ source t
  unfolding source
  table_done a b c z h i j = rw (sym is, z, j, i, h, none) refl

  pub unread_done : (a : List ℕ) → (u ≡ 0 → ⊥) → a ≡ o ++ codes "unread " ++ decimal u ++ codes "\n" → a ≡ source t
  unfolding source
  unread_done a z h = rw (sym is, ne_eqb u 0 z, h, none) refl
