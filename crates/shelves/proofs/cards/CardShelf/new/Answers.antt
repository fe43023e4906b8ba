use Rattle.std.proofs.Common.{◌≡◌, map, ap, sym, ◌∙◌, arith}
use Rattle.std.proofs.lemmas.List.{same_lists, get_or-map, length-map}
use Rattle.media.specs.Kinds.{kind_of}
use Rattle.shelves.specs.Cards.{packs_of_kinds}
use Rattle.shelves.proofs.cards.CardShelf.new.Goals as goal

pub returns-clause-meaning : goal.returns-clause-meaning
returns-clause-meaning c =
    let known : c.map.result ≡ map kind_of c.args.kinds =
    same_lists c.map.result (map kind_of c.args.kinds) (simp length-map (omega arith))
    (λ i d below. (c.map.ensures.items.at i 0 d (omega arith)).2.met ∙ sym (get_or-map kind_of c.args.kinds i 0 d (omega arith))) in
    ap (λ kinds. packs_of_kinds kinds c.args.cards.now) known
