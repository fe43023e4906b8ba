use Rattle.std.proofs.Common.{replicate, Ok, refl, ap, ◌∙◌}
use Rattle.std.proofs.lemmas.Slice.Eq.{slice_eq-Decides}
use Rattle.std.proofs.lemmas.Bool.Decides.{same_from_decides, Decides-eqb}
use Rattle.media.specs.Same.{words_agree}
use Rattle.media.proofs.SamePacks.{brings, agree_decides}
use Rattle.media.proofs.same.same_sector.Goals as goal

pub returns : goal.returns
returns g c =
    let left = c.args.left.now in
    let right = c.args.right.now in
    let block = c.args.block in
    let ours = c.fetch.ensures.filled ∙ brings (g.L.Shelf.packs left) (g.L.Shelf.lawful left) c.args.left_pack block (replicate 128 0) refl c.requires.left_there in
    let theirs = c.fetch-2.ensures.filled ∙ brings (g.R.Shelf.packs right) (g.R.Shelf.lawful right) c.args.right_pack block (replicate 128 0) refl c.requires.right_there in
    let fetched = c.fetch.new.buffer in
    let fetched_2 = c.fetch-2.new.buffer in
    let agree = same_from_decides c.eq.result (words_agree fetched fetched_2) (slice_eq-Decides Decides-eqb fetched fetched_2 c.eq.result c.eq.ensures) (agree_decides fetched fetched_2) in
    ap Ok (agree ∙ ap (λ ws. words_agree ws fetched_2) ours ∙ ap (words_agree _) theirs)
