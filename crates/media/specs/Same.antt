-- When a pack of one shelf and a pack of another are the same.
use Rattle.std.specs.Prelude.{◌≡◌, ℕ, zero, suc, Bool, true, false, ◌&&◌, List, [], ◌∷◌, Some, None, Ok, Err, Option, Result, ◌==◌}
use Rattle.std.specs.List.{slice_get}
use Rattle.std.specs.Option.{option_map, unwrap_or}
use Rattle.media.specs.Kinds.{blocks_of, kind_number}
use Rattle.media.specs.Shelf.{Packs}
use Rattle.media.specs.declared.kinds.Kind.{Kind}
use Rattle.media.specs.declared.shelf.ShelfRefusal.{ShelfRefusal}
use Rattle.media.specs.declared.shelf.ShelfRefusal.TheVariants.{NoPack}

-- The words of a sector; a sector that is not there has none.
abbrev pub words_at : Packs → ℕ → ℕ → List ℕ
words_at shelf pack block = unwrap_or (option_map (λ s. s.words) (shelf.sector pack block)) []

-- A pack of one shelf and a pack of another are the same when their kinds and all their words agree.
abbrev pub SamePacks : Packs → ℕ → Packs → ℕ → Type 0
SamePacks left p right q = (slice_get left.kinds p ≡ slice_get right.kinds q) × ((block : ℕ) → words_at left p block ≡ words_at right q block)

-- Whether two lists of words are equal.
abbrev pub words_agree : List ℕ → List ℕ → Bool
words_agree [] [] = true
words_agree [] (y ∷ ys) = false
words_agree (x ∷ xs) [] = false
words_agree (x ∷ xs) (y ∷ ys) = x == y && words_agree xs ys

-- Whether two packs agree at each of their first n blocks.
abbrev pub blocks_agree : Packs → ℕ → Packs → ℕ → ℕ → Bool
blocks_agree left p right q zero = true
blocks_agree left p right q (suc n) = words_agree (words_at left p n) (words_at right q n) && blocks_agree left p right q n

-- The answer on two packs of these kinds; 9 where either is missing.
abbrev pub compared : Option Kind → Option Kind → (ℕ → Bool) → Result Bool ShelfRefusal
compared (Some j) (Some k) agree = Ok (kind_number j == kind_number k && agree (blocks_of j))
compared (Some j) None agree = Err NoPack
compared None other agree = Err NoPack

-- Whether two packs are the same.
abbrev pub same_reply : Packs → ℕ → Packs → ℕ → Result Bool ShelfRefusal
same_reply left p right q = compared (slice_get left.kinds p) (slice_get right.kinds q) (blocks_agree left p right q)
