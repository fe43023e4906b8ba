-- What a copy of a whole pack leaves.
use Rattle.std.specs.Prelude.{◌≡◌, ℕ, zero, suc, ◌<◌, Bool, true, false, ◌&&◌, ◌⊎◌, List, [], ◌∷◌, ◌++◌, Some, None, Ok, Err, Option, Result, ◌==◌, nat_lt, if◌then◌else◌}
use Rattle.std.specs.List.{slice_get}
use Rattle.std.specs.Option.{option_map, unwrap_or}
use Rattle.media.specs.Kinds.{kind_number, blocks_of}
use Rattle.media.specs.Marks.{clean, mended, is_clean}
use Rattle.media.specs.Same.{words_at}
use Rattle.media.specs.Shelf.{Packs, Sector, store_reply, takes_in, kept}
use Rattle.media.specs.declared.kinds.Kind.{Kind}
use Rattle.media.specs.declared.marks.Mark.{Mark}
use Rattle.media.specs.declared.shelf.ShelfRefusal.{ShelfRefusal}
use Rattle.media.specs.declared.shelf.ShelfRefusal.TheVariants.{NoPack}
use Rattle.backup.specs.declared.copy.CopyError.{CopyError}
use Rattle.backup.specs.declared.copy.CopyError.TheVariants.{Declined, KindsDiffer, NoMemory}
use Rattle.backup.specs.declared.copy.LeftOut.{LeftOut}

-- The one kind of two packs; 9 where either is missing, and a refusal of its own where the kinds differ.
abbrev pub one_kind : Option Kind → Option Kind → Result Kind CopyError
one_kind (Some j) (Some k) = if kind_number k == kind_number j then Ok j else Err KindsDiffer
one_kind (Some j) None = Err (Declined NoPack)
one_kind None other = Err (Declined NoPack)

-- The one kind of pack p of the source and pack q of the target.
abbrev pub kinds_reply : Packs → ℕ → Packs → ℕ → Result Kind CopyError
kinds_reply source p target q = one_kind (slice_get source.kinds p) (slice_get target.kinds q)

-- What is wrong with a sector.
abbrev pub mark_at : Packs → ℕ → ℕ → Mark
mark_at shelf pack block = unwrap_or (option_map (λ s. s.mark) (shelf.sector pack block)) clean

-- Whether nothing is.
abbrev pub clean_at : Packs → ℕ → ℕ → Bool
clean_at shelf pack block = is_clean (mark_at shelf pack block)

-- A sector that was copied onto has the words, has lost damaged data from its mark, and takes or not.
abbrev pub copied_onto : List ℕ → Bool → Sector → Sector
copied_onto buffer open_takes s = record { words = buffer; mark = mended s.mark; takes = open_takes }

-- The target after the first n blocks of pack p were copied to its pack q: each of these that is clean has the words of its source, and every other
-- sector is as it was; only which sectors take is open.
abbrev pub copied_front : Packs → ℕ → Packs → ℕ → ℕ → (ℕ → ℕ → Bool) → Packs
copied_front source p before q n open_takes =
    record {
      kinds = before.kinds;
      sector = λ pack block. if pack == q && (nat_lt block n && clean_at source p block) then option_map (copied_onto (words_at source p block) (open_takes pack block)) (before.sector pack block) else option_map (kept (open_takes pack block)) (before.sector pack block);
    }

-- Those of the first n blocks that are not clean, in their order, each with its mark.
abbrev pub marked_blocks : Packs → ℕ → ℕ → List LeftOut
marked_blocks source p zero = []
marked_blocks source p (suc n) =
    marked_blocks source p n ++ (if clean_at source p n then [] else (record { block = n; mark = mark_at source p n }) ∷ [])

-- A whole pack was copied, and these sectors were left out.
pub record Whole (source : Packs) (p : ℕ) (before : Packs) (q : ℕ) (after : Packs) (left : List LeftOut) : Type 0 where
  pub kind : Kind
  pub fits : kinds_reply source p before q ≡ Ok kind
  pub target : after ≡ copied_front source p before q (blocks_of kind) (takes_in after)
  pub left_out : left ≡ marked_blocks source p (blocks_of kind)

-- A copy stopped at block n, of which the blocks before are copied: the target declined a clean sector, or there was no memory to list one that is not.
pub record StoppedAt (source : Packs) (p : ℕ) (before : Packs) (q : ℕ) (after : Packs) (why : CopyError) (n : ℕ) : Type 0 where
  pub kind : Kind
  pub fits : kinds_reply source p before q ≡ Ok kind
  pub within : n < blocks_of kind
  pub target : after ≡ copied_front source p before q n (takes_in after)
  pub cause : ((clean_at source p n ≡ true) × ((x : ShelfRefusal) × (store_reply after q n (words_at source p n) ≡ Err x) × (why ≡ Declined x))) ⊎ ((clean_at source p n ≡ false) × (why ≡ NoMemory))

-- A copy was refused: the packs do not fit each other, and the target is as it was; or it stopped at a block.
abbrev pub Stopped : Packs → ℕ → Packs → ℕ → Packs → CopyError → Type 0
Stopped source p before q after why =
    ((kinds_reply source p before q ≡ Err why) × (after ≡ before)) ⊎ ((n : ℕ) × StoppedAt source p before q after why n)
