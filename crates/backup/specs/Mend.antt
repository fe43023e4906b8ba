-- What it answers and leaves to store a sector's own words back onto it.
use Rattle.std.specs.Prelude.{ℕ, Bool, Some, None, Err, Option, Result}
use Rattle.media.specs.Shelf.{Packs, Sector, store_reply, after_store}
use Rattle.media.specs.declared.shelf.ShelfRefusal.{ShelfRefusal}
use Rattle.media.specs.declared.shelf.ShelfRefusal.TheVariants.{NoSector}

-- The store's reply; 14 where there is no such sector.
abbrev pub own_reply : Option Sector → Packs → ℕ → ℕ → Result (Unit {0}) ShelfRefusal
own_reply None shelf pack block = Err NoSector
own_reply (Some s) shelf pack block = store_reply shelf pack block s.words

-- What it answers.
abbrev pub mend_reply : Packs → ℕ → ℕ → Result (Unit {0}) ShelfRefusal
mend_reply shelf pack block = own_reply (shelf.sector pack block) shelf pack block

-- The shelf after the store, where `open_takes` says which of its other sectors take then.
abbrev pub after_own : Option Sector → Packs → ℕ → ℕ → (ℕ → ℕ → Bool) → Packs
after_own None shelf pack block open_takes = shelf
after_own (Some s) shelf pack block open_takes = after_store shelf pack block s.words open_takes

-- The shelf afterwards.
abbrev pub after_mend : Packs → ℕ → ℕ → (ℕ → ℕ → Bool) → Packs
after_mend shelf pack block open_takes = after_own (shelf.sector pack block) shelf pack block open_takes
