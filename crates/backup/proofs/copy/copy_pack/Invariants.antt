-- The blocks before this one are copied, and those of them that are not clean are in the list.
use Rattle.std.proofs.Common.{◌≡◌, vec_items}
use Rattle.media.specs.Shelf.{takes_in}
use Rattle.backup.specs.Whole.{copied_front, marked_blocks}
use Rattle.backup.proofs.copy.copy_pack.Given as goal

abbrev pub invariant-loop-block : goal.invariant-loop-block
invariant-loop-block g l =
    (g.T.Shelf.packs l.to ≡ copied_front (g.F.Shelf.packs l.from) l.from_pack (g.T.Shelf.packs l.initial.to) l.to_pack l.block (takes_in (g.T.Shelf.packs l.to)))
    × (vec_items l.left_out ≡ marked_blocks (g.F.Shelf.packs l.from) l.from_pack l.block)
