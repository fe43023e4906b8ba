-- What a sector is of which the check finds nothing to refuse.
use Rattle.std.proofs.Common.{◌≡◌, ℕ, Bool, true, false, cond, List, length, Ok, Err, Result, refl}
use Rattle.std.specs.List.{slice_get}
use Rattle.std.proofs.lemmas.Bool.{eqb-true}
use Rattle.media.specs.Shelf.{sector_check, has_block}
use Rattle.media.specs.declared.kinds.Kind.{Kind}
use Rattle.media.specs.declared.shelf.ShelfRefusal.{ShelfRefusal}
use Rattle.media.specs.declared.shelf.ShelfRefusal.TheVariants.{NoSector, BufferLength}

both : (long there : Bool) → ◌≡◌ {A = Result (Unit {0}) ShelfRefusal} (Ok tt) (cond long (cond there (Ok tt) (Err NoSector)) (Err BufferLength)) → (long ≡ true) × (there ≡ true)
both true true e = (refl, refl)
both true false e = cc
both false there e = cc

-- the buffer has 128 words, and the sector is there
pub passed : (kinds : List Kind) (pack block : ℕ) (buffer : List ℕ) → Ok tt ≡ sector_check (slice_get kinds pack) block buffer → (length buffer ≡ 128) × (has_block kinds pack block ≡ true)
passed kinds pack block buffer checked =
    let parts = both _ (has_block kinds pack block) checked in
    (eqb-true (length buffer) 128 parts.0, parts.1)
