-- What a look shows, as text.
use Rattle.std.specs.Prelude.{ℕ, zero, suc, ◌+◌, min, List, [], ◌++◌, Some, None, Ok, Err, codes, decimal, Option, Result}
use Rattle.std.specs.List.{flat_map}
use Rattle.media.specs.Kinds.{kind_number}
use Rattle.media.specs.Marks.{mark_number}
use Rattle.media.specs.Memory.{Words, read_reply}
use Rattle.media.specs.Shelf.{Sector, kind_reply, shelf_refusal_number}
use Rattle.media.specs.declared.kinds.Kind.{Kind}
use Rattle.media.specs.declared.memory.MemoryRefusal.{MemoryRefusal}
use Rattle.media.specs.declared.shelf.ShelfRefusal.{ShelfRefusal}
use Rattle.rl11.specs.Machine.{Machine}
use Rattle.script.specs.declared.steps.Look.{Look}
use Rattle.script.specs.declared.steps.Look.TheVariants as look
use Rattle.runner.specs.Answers.{refused_text}
use Rattle.runner.specs.Numerals.{six_digits}

-- Words, each with a space before it.
abbrev pub words_text : List ℕ → List ℕ
words_text = flat_map (λ w. codes " " ++ six_digits w)

-- A sector: its mark and its words; refused with 14 where there is none.
abbrev pub sector_text : Option Sector → List ℕ
sector_text None = refused_text 14
sector_text (Some s) = codes "mark " ++ (decimal (mark_number s.mark) ++ (codes " words" ++ words_text s.words))

-- The kind of a pack, or why there is none.
abbrev pub kind_text : Result Kind ShelfRefusal → List ℕ
kind_text (Ok k) = decimal (kind_number k)
kind_text (Err e) = refused_text (shelf_refusal_number e)

-- A word of memory, or that it is absent.
abbrev pub cell_text : Result ℕ MemoryRefusal → List ℕ
cell_text (Ok w) = six_digits w
cell_text (Err e) = codes "absent"

-- The address of the next word; none is above 32 bits.
abbrev pub next_address : ℕ → ℕ
next_address a = min (a + 2) 4294967295

-- So many words of memory from an address on, each with a space before it.
abbrev pub cells_text : Words → ℕ → ℕ → List ℕ
cells_text m a zero = []
cells_text m a (suc n) = codes " " ++ (cell_text (read_reply m a) ++ cells_text m (next_address a) n)

-- So many words of memory from an address on, with a space between them.
abbrev pub memory_text : Words → ℕ → ℕ → List ℕ
memory_text m a zero = []
memory_text m a (suc n) = cell_text (read_reply m a) ++ cells_text m (next_address a) n

-- What a look shows.
abbrev pub look_text : Look → Machine → List ℕ
look_text (look.Sector p b) m = sector_text (m.packs.sector p b)
look_text (look.Memory a n) m = memory_text m.contents a n
look_text (look.Kind p) m = kind_text (kind_reply m.packs p)
