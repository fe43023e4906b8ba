-- What a copy of a sector answers and leaves.
use Rattle.std.specs.Prelude.{ℕ, Bool, Some, None, Ok, Err, Option, Result, if◌then◌else◌}
use Rattle.media.specs.Marks.{is_clean}
use Rattle.media.specs.Shelf.{Packs, Sector, store_reply, after_store}
use Rattle.media.specs.declared.shelf.ShelfRefusal.{ShelfRefusal}
use Rattle.media.specs.declared.shelf.ShelfRefusal.TheVariants.{NoSector}
use Rattle.backup.specs.declared.copy.Outcome.{Outcome}
use Rattle.backup.specs.declared.copy.Outcome.TheVariants.{Copied, Skipped}

-- An accepted store is a copy.
abbrev pub copied : Result (Unit {0}) ShelfRefusal → Result Outcome ShelfRefusal
copied (Ok _) = Ok Copied
copied (Err e) = Err e

-- A sector that is clean is stored, and any other is left out; 14 where there is none.
abbrev pub sector_reply : Option Sector → Packs → ℕ → ℕ → Result Outcome ShelfRefusal
sector_reply None target q block = Err NoSector
sector_reply (Some s) target q block = if is_clean s.mark then copied (store_reply target q block s.words) else Ok (Skipped s.mark)

-- What a copy of a block of pack p to pack q of the target answers.
abbrev pub copy_reply : Packs → ℕ → Packs → ℕ → ℕ → Result Outcome ShelfRefusal
copy_reply source p target q block = sector_reply (source.sector p block) target q block

-- The target after the sector was stored or left out.
abbrev pub after_sector : Option Sector → Packs → ℕ → ℕ → (ℕ → ℕ → Bool) → Packs
after_sector None target q block open_takes = target
after_sector (Some s) target q block open_takes = if is_clean s.mark then after_store target q block s.words open_takes else target

-- The target after a copy, where `open_takes` says which of its other sectors take then.
abbrev pub after_copy : Packs → ℕ → Packs → ℕ → ℕ → (ℕ → ℕ → Bool) → Packs
after_copy source p target q block open_takes = after_sector (source.sector p block) target q block open_takes
