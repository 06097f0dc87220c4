-- 01, "One listing whole": what `sinkrounds` prints. Assumes nothing.
use Rattle.std.specs.Prelude.{List, [], ◌∷◌, ◌++◌, map, ℕ, codes}
use Rattle.std.specs.Fmt.{decimal}
use Rattle.words.specs.Lists.{concat}
use Rattle.model.specs.declared.Answer.{Answer}
use Rattle.model.specs.Numbered.{number_of}
use Rattle.model.specs.declared.Answer.TheVariants.{Done, Short, Refused}
use Rattle.model.specs.Pass.{Outcome}

-- numbers in base ten with a space between two, then byte 10
abbrev pub line : List ℕ → List ℕ
line [] = 10 ∷ []
line (n ∷ []) = decimal n ++ 10 ∷ []
line (n ∷ m ∷ ns) = decimal n ++ 32 ∷ line (m ∷ ns)

abbrev pub round_heading : List ℕ
round_heading = codes "round from into moved registers operands\n"

abbrev pub answer_heading : List ℕ
answer_heading = codes "answer rounds\n"

-- the last line: done, short or refused with its number
abbrev pub last_line : Answer → List ℕ
last_line (Done u) = codes "done " ++ line (u.rounds ∷ [])
last_line (Short u) = codes "short " ++ line (u.rounds ∷ [])
last_line (Refused r) = codes "refused " ++ line (number_of r ∷ [])

abbrev pub unread_line : List ℕ
unread_line = codes "unread 0\n"

-- the whole text: a line for each round, then the answer
abbrev pub text : Outcome → List ℕ
text o = round_heading ++ concat (map line o.lines) ++ answer_heading ++ last_line o.answer

abbrev pub unread_text : List ℕ
unread_text = round_heading ++ answer_heading ++ unread_line

-- ---- in between

-- a line for each six numbers
unfoldable pub lines_text : List ℕ → List ℕ
lines_text [] = []
lines_text (a ∷ []) = []
lines_text (a ∷ b ∷ []) = []
lines_text (a ∷ b ∷ c ∷ []) = []
lines_text (a ∷ b ∷ c ∷ d ∷ []) = []
lines_text (a ∷ b ∷ c ∷ d ∷ e ∷ []) = []
lines_text (a ∷ b ∷ c ∷ d ∷ e ∷ f ∷ ns) = line (a ∷ b ∷ c ∷ d ∷ e ∷ f ∷ []) ++ lines_text ns
