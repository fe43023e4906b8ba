use Rattle.std.proofs.Common.{◌≡◌, ◌<◌, length, is_some, arith, rules}
use Rattle.std.specs.List.{take_while}
use Rattle.std.proofs.lemmas.Grind.{common_steps}
use Rattle.shelves.proofs.KindRows.{kind_at_place}
use Rattle.shelves.proofs.cards.CardShelf.kind_at.Goals as goal

pub returns-then-from-packs : goal.returns-then-from-packs
returns-then-from-packs c =
    let same : c.from-then-from-packs.result ≡ c.args.pack = search rules in
    let below : c.args.pack < length (take_while is_some c.args.self.now.kinds) = search rules in
    let few : c.args.pack < 8 = grind (arith, common_steps) in
    rw same (kind_at_place 8 c.args.self.now.kinds c.args.pack below few)
