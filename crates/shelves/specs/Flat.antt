-- What a flat shelf means: one pack in a slice of words, in the order of the blocks.
use Rattle.std.specs.Prelude.{ℕ, ◌+◌, ◌*◌, true, List, [], ◌∷◌, ◌++◌, length, take, drop, Some, None, Ok, Err, Option, Result, ◌==◌, if◌then◌else◌}
use Rattle.media.specs.Kinds.{kind_of, blocks_of}
use Rattle.media.specs.Marks.{clean}
use Rattle.media.specs.Shelf.{Packs, Sector, shelf_of, store_reply}
use Rattle.media.specs.declared.kinds.Kind.{Kind}
use Rattle.media.specs.declared.shelf.ShelfRefusal.{ShelfRefusal}
use Rattle.shelves.specs.declared.flat.FlatShelf.{FlatShelf}

-- The one pack, where the slice has just its words.
abbrev pub whole_pack : List ℕ → Option Kind → List Kind
whole_pack slice None = []
whole_pack slice (Some k) = if length slice == blocks_of k * 128 then k ∷ [] else []

-- Block by block, 128 words each; nothing is wrong with a sector, and it takes.
abbrev pub flat_sector : List ℕ → ℕ → Sector
flat_sector slice block = record { words = take 128 (drop (block * 128) slice); mark = clean; takes = true }

-- What a flat shelf means, by the kind of its pack, if it has one.
abbrev pub packs_of_kind : Option Kind → List ℕ → Packs
packs_of_kind kind slice = shelf_of (whole_pack slice kind) (λ _ block. flat_sector slice block)

-- What a flat shelf means, by the number of its kind.
abbrev pub flat_packs : ℕ → List ℕ → Packs
flat_packs number slice = packs_of_kind (kind_of number) slice

-- What this flat shelf means, by the slice that it was lent.
abbrev pub flat_meaning : FlatShelf → Packs
flat_meaning shelf = packs_of_kind shelf.kind shelf.words.now

-- The slice that a store leaves by its reply: the sector's words are replaced, or nothing is where the store is refused.
abbrev pub replaced : Result (Unit {0}) ShelfRefusal → List ℕ → ℕ → List ℕ → List ℕ
replaced (Ok _) slice block buffer = take (block * 128) slice ++ (buffer ++ drop (block * 128 + 128) slice)
replaced (Err _) slice block buffer = slice

-- The slice after a store.
abbrev pub flat_after : Option Kind → List ℕ → ℕ → ℕ → List ℕ → List ℕ
flat_after kind slice pack block buffer = replaced (store_reply (packs_of_kind kind slice) pack block buffer) slice block buffer
