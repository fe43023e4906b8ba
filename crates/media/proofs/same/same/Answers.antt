use Rattle.std.proofs.Common.{◌≡◌, true, false, sym, arith, rules}
use denote.Enum.Bare.{differs_false}
use Rattle.media.specs.Kinds.{blocks_of}
use Rattle.media.specs.contracts.kinds.Kind.{the_type}
use Rattle.media.specs.Same.{words_at, words_agree}
use Rattle.media.proofs.SamePacks.{answered, differ}
use Rattle.media.proofs.same.same.Goals as goal

pub returns-then-not-branch : goal.returns-then-not-branch
returns-then-not-branch g c =
    let equal = differs_false the_type (search rules) c.in_ok-kind-2.field-0 c.in_ok-kind.kind (sym c.if-ne.ensures) in
    let apart : words_agree (words_at (g.L.Shelf.packs c.args.left.now) c.args.left_pack c.loop-block.block) (words_at (g.R.Shelf.packs c.args.right.now) c.args.right_pack c.loop-block.block) ≡ false = cc (c.in_ok-same_sector.ensures, c.if-not-branch.true) in
    let packs = answered _ (g.L.Shelf.lawful c.args.left.now) _ _ (g.R.Shelf.lawful c.args.right.now) _ _ _ c.in_ok-kind.ensures c.in_ok-kind-2.ensures equal in
    let facts = packs false (differ _ (g.L.Shelf.lawful c.args.left.now) _ _ (g.R.Shelf.lawful c.args.right.now) _ _ _ c.in_ok-kind.ensures c.in_ok-kind-2.ensures equal _ (omega arith) apart) in
    record { reply = facts.0; exact = facts.1 }

pub returns : goal.returns
returns g c =
    let equal = differs_false the_type (search rules) c.in_ok-kind-2.field-0 c.in_ok-kind.kind (sym c.if-ne.ensures) in
    let done : c.loop-block.block ≡ blocks_of c.in_ok-kind.kind = omega arith in
    let facts = answered _ (g.L.Shelf.lawful c.args.left.now) _ _ (g.R.Shelf.lawful c.args.right.now) _ _ _ c.in_ok-kind.ensures c.in_ok-kind-2.ensures equal true (rw done at c.loop-block.invariant) in
    record { reply = facts.0; exact = facts.1 }
