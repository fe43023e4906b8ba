-- What a shelf of packs means, and what each call on it answers and leaves.
use Rattle.std.specs.Prelude.{◌≡◌, ℕ, ◌≤◌, Bool, true, false, ◌&&◌, List, length, is_some, Some, None, Ok, Err, Option, Result, ◌==◌, nat_lt, if◌then◌else◌}
use Rattle.std.specs.List.{slice_get}
use Rattle.std.specs.Option.{option_map, unwrap_or, ok_or}
use Rattle.media.specs.Kinds.{blocks_of}
use Rattle.media.specs.Marks.{mended}
use Rattle.media.specs.declared.kinds.Kind.{Kind}
use Rattle.media.specs.declared.marks.Mark.{Mark}
use Rattle.media.specs.declared.shelf.ShelfRefusal.{ShelfRefusal}
use Rattle.media.specs.declared.shelf.ShelfRefusal.TheVariants.{NoPack, BufferLength, NoSector, NotTaking}

-- A sector: its words, its mark, and whether it takes a store.
pub record Sector : Type 0 where
  pub words : List ℕ
  pub mark : Mark
  pub takes : Bool

-- A shelf: the kind of each pack, and the sector that a pack has at a block, if it has one.
pub record Packs : Type 0 where
  pub kinds : List Kind
  pub sector : ℕ → ℕ → Option Sector

-- Whether a pack of this kind has a block; a pack that is missing has none.
abbrev pub kind_has : Option Kind → ℕ → Bool
kind_has kind block = unwrap_or (option_map (λ k. nat_lt block (blocks_of k)) kind) false

-- Whether packs of these kinds have a block: its pack is there, and large enough.
abbrev pub has_block : List Kind → ℕ → ℕ → Bool
has_block kinds pack block = kind_has (slice_get kinds pack) block

-- A shelf has at most 8 packs, and a sector exactly where the kind of its pack has the block.
pub record Lawful (shelf : Packs) : Type 0 where
  pub few : length shelf.kinds ≤ 8
  pub placed : (pack block : ℕ) → is_some (shelf.sector pack block) ≡ has_block shelf.kinds pack block

-- The numbers of the refusals.
abbrev pub shelf_refusal_number : ShelfRefusal → ℕ
shelf_refusal_number NoPack = 9
shelf_refusal_number BufferLength = 13
shelf_refusal_number NoSector = 14
shelf_refusal_number NotTaking = 15

-- A buffer that has not 128 words is refused with 13, then a block that a pack of a kind lacks, or one of a missing pack, with 14.
abbrev pub sector_check : Option Kind → ℕ → List ℕ → Result (Unit {0}) ShelfRefusal
sector_check kind block buffer =
    if length buffer == 128 then (if kind_has kind block then Ok tt else Err NoSector) else Err BufferLength

-- The kind of a pack; 9 where there is no such pack.
abbrev pub kind_reply : Packs → ℕ → Result Kind ShelfRefusal
kind_reply shelf pack = ok_or (slice_get shelf.kinds pack) NoPack

-- A fetch answers the sector's mark; 13 for a buffer that has not 128 words, then 14 where there is no such sector.
abbrev pub fetch_reply : Packs → ℕ → ℕ → List ℕ → Result Mark ShelfRefusal
fetch_reply shelf pack block buffer =
    if length buffer == 128 then ok_or (option_map (λ s. s.mark) (shelf.sector pack block)) NoSector else Err BufferLength

-- A fetch leaves the sector's words in the buffer; a refused one leaves the buffer.
abbrev pub fetch_buffer : Packs → ℕ → ℕ → List ℕ → List ℕ
fetch_buffer shelf pack block buffer =
    if length buffer == 128 then unwrap_or (option_map (λ s. s.words) (shelf.sector pack block)) buffer else buffer

-- Whether a sector takes; 14 where there is none, 15 where it does not.
abbrev pub taking : Option Sector → Result (Unit {0}) ShelfRefusal
taking None = Err NoSector
taking (Some s) = if s.takes then Ok tt else Err NotTaking

-- A store goes through; 13 for a buffer that has not 128 words, then 14 where there is no such sector, then 15 where it does not take.
abbrev pub store_reply : Packs → ℕ → ℕ → List ℕ → Result (Unit {0}) ShelfRefusal
store_reply shelf pack block buffer = if length buffer == 128 then taking (shelf.sector pack block) else Err BufferLength

-- Whether a sector that is there takes.
abbrev pub takes_in : Packs → ℕ → ℕ → Bool
takes_in shelf pack block = unwrap_or (option_map (λ s. s.takes) (shelf.sector pack block)) false

-- A stored sector has the words, has lost damaged data from its mark, and takes.
abbrev pub rewritten : List ℕ → Sector → Sector
rewritten buffer s = record { words = buffer; mark = mended s.mark; takes = true }

-- Every other sector keeps its words and its mark; whether it takes afterwards is open.
abbrev pub kept : Bool → Sector → Sector
kept open_takes s = record { words = s.words; mark = s.mark; takes = open_takes }

-- The shelf after a store at a block of a pack, where `open_takes` says which of the other sectors take then.
abbrev pub stored : Packs → ℕ → ℕ → List ℕ → (ℕ → ℕ → Bool) → Packs
stored shelf pack block buffer open_takes =
    record {
      kinds = shelf.kinds;
      sector = λ p b. if p == pack && b == block then option_map (rewritten buffer) (shelf.sector p b) else option_map (kept (open_takes p b)) (shelf.sector p b);
    }

-- A refused call leaves the shelf.
abbrev pub left_by : Result (Unit {0}) ShelfRefusal → Packs → Packs → Packs
left_by (Ok _) before after = after
left_by (Err _) before after = before

-- The shelf after a store that may have been refused.
abbrev pub after_store : Packs → ℕ → ℕ → List ℕ → (ℕ → ℕ → Bool) → Packs
after_store shelf pack block buffer open_takes =
    left_by (store_reply shelf pack block buffer) shelf (stored shelf pack block buffer open_takes)

-- A shelf made of the kinds of its packs and of what stands at each place, of which it has the blocks of those kinds.
abbrev pub shelf_of : List Kind → (ℕ → ℕ → Sector) → Packs
shelf_of kinds content =
    record { kinds = kinds; sector = λ pack block. if has_block kinds pack block then Some (content pack block) else None }
