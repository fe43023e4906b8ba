-- What a shelf means that repeats one sector.
use Rattle.std.specs.Prelude.{ℕ, false, List, [], ◌∷◌}
use Rattle.media.specs.Shelf.{Packs, shelf_of}
use Rattle.media.specs.declared.kinds.Kind.{Kind}
use Rattle.media.specs.declared.marks.Mark.{Mark}

-- There is one pack, of which each sector has the same words and the same mark, and does not take.
abbrev pub stamp_packs : Kind → List ℕ → Mark → Packs
stamp_packs k ws m = shelf_of (k ∷ []) (λ _ _. record { words = ws; mark = m; takes = false })
