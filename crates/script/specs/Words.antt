-- The words of a line.
use Rattle.std.specs.Prelude.{ℕ, Bool, true, false, not, ◌||◌, List, [], ◌∷◌, ◌==◌, if◌then◌else◌}

-- A space, a tab and a carriage return are blank.
abbrev pub is_blank : ℕ → Bool
is_blank c = c == 32 || (c == 9 || c == 13)

-- Whether a list of bytes begins with a byte that is not blank.
abbrev pub begins_word : List ℕ → Bool
begins_word [] = false
begins_word (c ∷ cs) = not (is_blank c)

-- A byte before the first word belongs to that word.
abbrev pub lengthened : ℕ → List (List ℕ) → List (List ℕ)
lengthened c [] = (c ∷ []) ∷ []
lengthened c (w ∷ ws) = (c ∷ w) ∷ ws

-- The words of a line are its longest runs of bytes that are not blank.
abbrev pub words_of : List ℕ → List (List ℕ)
words_of [] = []
words_of (c ∷ cs) = if is_blank c then words_of cs else if begins_word cs then lengthened c (words_of cs) else (c ∷ []) ∷ words_of cs

-- A line that begins with `#` has no words.
abbrev pub line_words : List ℕ → List (List ℕ)
line_words [] = []
line_words (c ∷ cs) = if c == 35 then [] else words_of (c ∷ cs)

-- Whether there is no word.
abbrev pub none_left : List (List ℕ) → Bool
none_left [] = true
none_left (w ∷ ws) = false

-- All but the first of some words.
abbrev pub others_of : List (List ℕ) → List (List ℕ)
others_of [] = []
others_of (w ∷ ws) = ws
