use Rattle.std.proofs.Common.{sym, refl, ◌∙◌}
use Rattle.shelves.proofs.CardPacks.{written_own, written_free, refused_full}
use Rattle.shelves.proofs.cards.CardShelfShelf.store.Goals as goal

pub returns-in-Some : goal.returns-in-Some
returns-in-Some c =
    let shelf = c.args.self.now in
    let checked = sym c.in_ok-check.was ∙ c.check.ensures in
    let facts = written_own shelf.kinds shelf.cards.now c.args.pack c.args.block c.args.buffer.now checked c.in-Some.i c.overwrite.new.self c.in-Some.ensures c.overwrite.ensures in
    record { reply = facts.reply; after = facts.after; lender = refl; deck = facts.cards }

pub returns-in-Some-free_place : goal.returns-in-Some-free_place
returns-in-Some-free_place c =
    let shelf = c.args.self.now in
    let checked = sym c.in_ok-check.was ∙ c.check.ensures in
    let none = sym c.in_default.is ∙ c.place.ensures in
    let facts = written_free shelf.kinds shelf.cards.now c.args.pack c.args.block c.args.buffer.now checked c.in-Some-free_place.i c.claim.new.self none c.in-Some-free_place.ensures c.claim.ensures in
    record { reply = facts.reply; after = facts.after; lender = refl; deck = facts.cards }

pub returns-in_default-free_place : goal.returns-in_default-free_place
returns-in_default-free_place c =
    let shelf = c.args.self.now in
    let checked = sym c.in_ok-check.was ∙ c.check.ensures in
    let none = sym c.in_default.is ∙ c.place.ensures in
    let no_room = sym c.in_default-free_place.is ∙ c.free_place.ensures in
    let facts = refused_full shelf.kinds shelf.cards.now c.args.pack c.args.block c.args.buffer.now checked none no_room in
    record { reply = facts.reply; after = facts.after; lender = refl; deck = facts.cards }
