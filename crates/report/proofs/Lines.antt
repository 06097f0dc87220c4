-- Lines of numbers: one number after the other, and six numbers a line. Assumes nothing.
use Rattle.std.proofs.Common.{◌≡◌, refl, sym, ap, ◌∙◌, ℕ, ◌*◌, ◌<◌, ◌≤◌, List, [], ◌∷◌, ◌++◌, append_assoc, append-nil, length, length-append, map, flat_map, take, take_all, arith}
use Rattle.std.specs.Fmt.{decimal}
use Rattle.words.specs.Lists.{concat}
use Rattle.words.proofs.Each.{Each}
use Rattle.report.specs.Text.{line, lines_text}
use Rattle.host.proofs.Left.{SixAre}

-- a number and the space behind it
abbrev pub spaced : ℕ → List ℕ
spaced n = decimal n ++ 32 ∷ []

pub line_is : (front : List ℕ) (last : ℕ) → line (front ++ last ∷ []) ≡ flat_map spaced front ++ (decimal last ++ 10 ∷ [])
line_is [] last = refl
line_is (n ∷ []) last = simp (append_assoc, append-nil)
line_is (n ∷ m ∷ ns) last = ap (λ (l : List ℕ). decimal n ++ 32 ∷ l) (line_is (m ∷ ns) last) ∙ simp append_assoc

-- the last number behind the others
pub line_done : (numbers front b m a : List ℕ) (last i : ℕ) → numbers ≡ front ++ last ∷ [] → length front ≤ i → m ≡ b ++ flat_map spaced (take i front)
    → a ≡ m ++ decimal last ++ 10 ∷ [] → a ≡ b ++ line numbers
line_done numbers front b m a last i e h f g = rw (g, f, e, take_all i front h, line_is front last) (simp append_assoc)

-- six numbers, and those behind them
pub lines_more : (six rest : List ℕ) → length six ≡ 6 → lines_text (six ++ rest) ≡ line six ++ lines_text rest
unfolding lines_text
lines_more (a ∷ b ∷ c ∷ d ∷ e ∷ f ∷ []) rest h = refl
lines_more [] rest h = absurd (omega arith)
lines_more (a ∷ []) rest h = absurd (omega arith)
lines_more (a ∷ b ∷ []) rest h = absurd (omega arith)
lines_more (a ∷ b ∷ c ∷ []) rest h = absurd (omega arith)
lines_more (a ∷ b ∷ c ∷ d ∷ []) rest h = absurd (omega arith)
lines_more (a ∷ b ∷ c ∷ d ∷ e ∷ []) rest h = absurd (omega arith)
lines_more (a ∷ b ∷ c ∷ d ∷ e ∷ f ∷ g ∷ l) rest h = absurd (omega arith)

-- fewer than six make no line
pub lines_few : (ns : List ℕ) → length ns < 6 → lines_text ns ≡ []
unfolding lines_text
lines_few [] h = refl
lines_few (a ∷ []) h = refl
lines_few (a ∷ b ∷ []) h = refl
lines_few (a ∷ b ∷ c ∷ []) h = refl
lines_few (a ∷ b ∷ c ∷ d ∷ []) h = refl
lines_few (a ∷ b ∷ c ∷ d ∷ e ∷ []) h = refl
lines_few (a ∷ b ∷ c ∷ d ∷ e ∷ f ∷ ns) h = absurd (omega arith)

-- one line more, of what was left
pub lines_step : (x rest rest' o o' t : List ℕ) → rest ≡ x ++ rest' → length x ≡ 6 → o ++ lines_text rest ≡ t → o' ≡ o ++ line x → o' ++ lines_text rest' ≡ t
lines_step x rest rest' o o' t e h f g = rw g (append_assoc o (line x) (lines_text rest') ∙ ap (λ (l : List ℕ). o ++ l) (sym (ap lines_text e ∙ lines_more x rest' h)) ∙ f)

-- no line is left
pub lines_done : (rest o t : List ℕ) → length rest < 6 → o ++ lines_text rest ≡ t → o ≡ t
lines_done rest o t h e = sym (append-nil o) ∙ ap (λ (l : List ℕ). o ++ l) (sym (lines_few rest h)) ∙ e

-- lines of six numbers, end to end
pub lines_of : (ls : List (List ℕ)) → Each SixAre ls → lines_text (concat ls) ≡ concat (map line ls)
unfolding lines_text
lines_of [] e = refl
lines_of (l ∷ ls) e = lines_more l (concat ls) e.0 ∙ ap (λ (t : List ℕ). line l ++ t) (lines_of ls e.1)

pub lines_long : (ls : List (List ℕ)) → Each SixAre ls → length (concat ls) ≡ 6 * length ls
lines_long [] e = refl
lines_long (l ∷ ls) e = omega (arith, length-append l (concat ls), lines_long ls e.1, e.0)
