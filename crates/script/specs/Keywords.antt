-- The first word of a line.
use Rattle.std.specs.Prelude.{ℕ, List, [], ◌∷◌, Some, None, codes, Option, if◌then◌else◌}
use Rattle.std.specs.Str.{bytes_eq}
use Rattle.script.specs.declared.keywords.Keyword.{Keyword}
use Rattle.script.specs.declared.keywords.Keyword.TheVariants.{Drives, Shelf, Card, Memory, Poke, Read, Write, Init, Grant, Load, Unload, Protect, Sector, Kind}

-- A word found in a list of spellings.
abbrev pub spelt : List (List ℕ × Keyword) → List ℕ → Option Keyword
spelt [] w = None
spelt (s ∷ ss) w = if bytes_eq w s.0 then Some s.1 else spelt ss w

-- The keywords and how they are spelt.
abbrev pub spellings : List (List ℕ × Keyword)
spellings = (codes "drives", Drives) ∷ (codes "shelf", Shelf) ∷ (codes "card", Card) ∷ (codes "memory", Memory) ∷ (codes "poke", Poke) ∷ (codes "read", Read) ∷ (codes "write", Write) ∷ (codes "init", Init) ∷ (codes "grant", Grant) ∷ (codes "load", Load) ∷ (codes "unload", Unload) ∷ (codes "protect", Protect) ∷ (codes "sector", Sector) ∷ (codes "kind", Kind) ∷ []

-- The keyword that a word is, if it is one.
abbrev pub keyword_of : List ℕ → Option Keyword
keyword_of w = spelt spellings w
