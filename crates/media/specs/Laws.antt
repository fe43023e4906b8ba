-- Proofs of what every shelf and every memory owes, for the makes to cite. There is nothing here to believe.
use Rattle.std.specs.Prelude.{◌≡◌, ℕ, ◌%◌, ◌≤◌, Bool, true, false, ◌&&◌, List, length, is_some, Some, None, Option, ◌==◌, nat_lt, refl, if◌then◌else◌}
use Rattle.std.proofs.lemmas.Bool.{and_parts, eqb-true, ltb-true}
use Rattle.media.specs.Memory.{Words, word_limit, OnlyEvenBelowLimit, at_places}
use Rattle.media.specs.Shelf.{Sector, Lawful, shelf_of, has_block}
use Rattle.media.specs.declared.kinds.Kind.{Kind}

there_by : {A : Type 0} (there : Bool) (x : A) → is_some (if there then Some x else None) ≡ there
there_by true x = refl
there_by false x = refl

-- a shelf made of kinds and contents is lawful as soon as it has at most 8 packs
pub shelf_lawful : (kinds : List Kind) (content : ℕ → ℕ → Sector) → length kinds ≤ 8 → Lawful (shelf_of kinds content)
shelf_lawful kinds content few = record { few = few; placed = λ pack block. there_by (has_block kinds pack block) (content pack block) }

-- a memory that keeps to the places of a memory has words nowhere else
pub at_places_placed : (m : Words) → OnlyEvenBelowLimit (at_places m)
at_places_placed m a w e =
    let both = and_parts (a % 2 == 0) (nat_lt a word_limit) (kept (a % 2 == 0 && nat_lt a word_limit) (m a) e) in
    (eqb-true (a % 2) 0 both.0, ltb-true a word_limit both.1)
  where
    kept : (x : Bool) (o : Option ℕ) → (if x then o else None) ≡ Some w → x ≡ true
    kept true o h = refl
    kept false o h = cc
