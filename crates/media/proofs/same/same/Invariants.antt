use Rattle.std.proofs.Common.{◌≡◌, true}
use Rattle.media.specs.Same.{blocks_agree}
use Rattle.media.proofs.same.same.Given as goal

abbrev pub invariant-loop-block : goal.invariant-loop-block
invariant-loop-block g l = blocks_agree (g.L.Shelf.packs l.left) l.left_pack (g.R.Shelf.packs l.right) l.right_pack l.block ≡ true
