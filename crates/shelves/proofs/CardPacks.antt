-- What a store on a card shelf does, by where the first card stands that it looks for.
use Rattle.std.proofs.Common.{◌≡◌, ℕ, ◌/◌, ◌%◌, ◌<◌, Bool, true, false, cond, ◌&&◌, eqb, List, [], length, get_or, set, find, position, is_some, Some, None, Ok, Err, Option, Result, sym, refl, ap, ◌∙◌, arith}
use mathlib.Core.Path.{subst⁻¹}
use Rattle.std.specs.List.{slice_get}
use Rattle.std.proofs.lemmas.Bool.{eqb-true, eq-eqb, and_parts, and_from}
use Rattle.std.proofs.lemmas.Bool.Decides.{nat_tests}
use Rattle.std.proofs.lemmas.List.Folds.{find-set, find_past}
use Rattle.shelves.specs.Cards.{is_of, is_free, card_of, card_kinds, on_card, card_sector, packs_of_kinds, overwritten, claimed, put_card, deck_left, card_after}
use Rattle.media.specs.Marks.{mark_of, mended}
use Rattle.media.specs.Shelf.{has_block, sector_check, store_reply, after_store, takes_in, stored, left_by, rewritten, kept}
use Rattle.shelves.specs.declared.cards.Card.{Card}
use Rattle.media.specs.declared.kinds.Kind.{Kind}
use Rattle.media.specs.declared.shelf.ShelfRefusal.{ShelfRefusal}
use Rattle.media.specs.declared.shelf.ShelfRefusal.TheVariants.{NotTaking}
use Rattle.shelves.proofs.Decks.{first_at, changed_at, nowhere, find_new}
use Rattle.shelves.proofs.Sectors.{passed}
use Rattle.shelves.specs.Laws.{few_cards}
use Rattle.media.proofs.Shelves.{in_row, store_there, after_there, stored_shelf}

-- without damaged data
mended_mark : (m : ℕ) → mark_of (m % 2) ≡ mended (mark_of m)
mended_mark m =
    let header : (m % 2) % 2 ≡ m % 2 = omega arith in
    let data_bit : (m % 2) / 2 % 2 ≡ 0 = omega arith in
    rw (header, data_bit)

-- a sector whose card is the same keeps words and mark
kept_on_card : (room' room : Bool) (card : Option Card) → on_card room' card ≡ kept (on_card room' card).takes (on_card room card)
kept_on_card room' room (Some c) = refl
kept_on_card room' room None = refl

-- which cards are another sector's
not_of : (p b pack block : ℕ) (c : Card) → is_of pack block c ≡ true → (eqb p pack && eqb b block) ≡ false → is_of p b c ≡ false
not_of p b pack block c is other = grind (arith, nat_tests)

not_claimed : (p b pack block : ℕ) → (eqb p pack && eqb b block) ≡ false → (eqb pack p && eqb block b) ≡ false
not_claimed p b pack block other = grind (arith, nat_tests)

not_free : (p b : ℕ) (c : Card) → p < 8 → is_free c ≡ true → is_of p b c ≡ false
not_free p b c below free = grind (arith, nat_tests)

of_claimed : (pack block : ℕ) → (eqb pack pack && eqb block block) ≡ true
of_claimed pack block = and_from (eqb pack pack) (eqb block block) (eq-eqb pack pack refl) (eq-eqb block block refl)

abbrev no_card : Card
no_card = card_of 0 0 0 []

-- What a store promises of its answer and of the cards that it leaves.
pub record StoredAs (kinds : List (Option Kind)) (deck : List Card) (pack block : ℕ) (buffer : List ℕ) (reply' : Result (Unit {0}) ShelfRefusal) (deck' : List Card) : Type 0 where
  pub reply : reply' ≡ store_reply (packs_of_kinds kinds deck) pack block buffer
  pub after : packs_of_kinds kinds deck' ≡ after_store (packs_of_kinds kinds deck) pack block buffer (takes_in (packs_of_kinds kinds deck'))
  pub cards : deck' ≡ card_after kinds deck pack block buffer

-- A store of 128 words on a sector that is there.
module _ (kinds : List (Option Kind)) (deck : List Card) (pack block : ℕ) (buffer : List ℕ) (checked : Ok tt ≡ sector_check (slice_get (card_kinds kinds) pack) block buffer) where
  long : length buffer ≡ 128
  long = (passed (card_kinds kinds) pack block buffer checked).0

  there : has_block (card_kinds kinds) pack block ≡ true
  there = (passed (card_kinds kinds) pack block buffer checked).1

  -- where the sector takes, a deck on which it is rewritten and every other sector has the card that it had is what the store leaves
  module _ (takes : (card_sector deck pack block).takes ≡ true) where
    accepted : Ok tt ≡ store_reply (packs_of_kinds kinds deck) pack block buffer
    accepted = sym (store_there (card_kinds kinds) (card_sector deck) pack block buffer long there ∙ ap (λ b. cond b (Ok tt) (Err NotTaking)) takes)

    stored_deck : (new : List Card) → card_sector new pack block ≡ rewritten buffer (card_sector deck pack block) → ((p b : ℕ) → p < 8 → (eqb p pack && eqb b block) ≡ false → find (is_of p b) new ≡ find (is_of p b) deck) → packs_of_kinds kinds new ≡ after_store (packs_of_kinds kinds deck) pack block buffer (takes_in (packs_of_kinds kinds new))
    stored_deck new stores keeps =
        stored_shelf (card_kinds kinds) (card_sector deck) (card_sector new) pack block buffer
        (λ p b same. let parts = and_parts (eqb p pack) (eqb b block) same in
        rw (eqb-true p pack parts.0, eqb-true b block parts.1) stores)
        (λ p b here other.
        let below : p < 8 = omega (arith, in_row (card_kinds kinds) p b here, few_cards kinds) in
        let room = is_some (find is_free new) in
        ap (on_card room) (keeps p b below other) ∙ kept_on_card room (is_some (find is_free deck)) (find (is_of p b) deck)
        ∙ ap (λ o. kept (on_card room o).takes (card_sector deck p b)) (sym (keeps p b below other)))
        ∙ sym (after_there (card_kinds kinds) (card_sector deck) pack block buffer long there _ takes)

    stored_as : (deck' new : List Card) → deck' ≡ new → put_card (is_some (find (is_of pack block) deck)) deck pack block buffer ≡ new → card_sector new pack block ≡ rewritten buffer (card_sector deck pack block) → ((p b : ℕ) → p < 8 → (eqb p pack && eqb b block) ≡ false → find (is_of p b) new ≡ find (is_of p b) deck) → StoredAs kinds deck pack block buffer (Ok tt) deck'
    stored_as deck' new written put stores keeps =
        record {
          reply = accepted;
          after = subst⁻¹ (λ d. packs_of_kinds kinds d ≡ after_store (packs_of_kinds kinds deck) pack block buffer (takes_in (packs_of_kinds kinds d))) written (stored_deck new stores keeps);
          cards = written ∙ sym put ∙ ap (λ r. deck_left r deck pack block buffer) accepted;
        }

  -- the sector's card is overwritten
  pub written_own : (i : ℕ) (y : Card) → Some i ≡ position (is_of pack block) deck → y ≡ overwritten buffer (get_or deck i no_card) → StoredAs kinds deck pack block buffer (Ok tt) (set deck i y)
  written_own i y found is =
      let own = is_of pack block in
      let room = is_some (find is_free deck) in
      let card = get_or deck i no_card in
      let first = first_at own deck i no_card (sym found) in
      let new = set deck i (overwritten buffer card) in
      stored_as (ap (λ o. (on_card room o).takes) first.card) (set deck i y) new (ap (set deck i) is)
      (ap (λ o. put_card (is_some o) deck pack block buffer) first.card ∙ changed_at own (overwritten buffer) deck i no_card first)
      (ap (on_card (is_some (find is_free new))) (find-set own deck i (overwritten buffer card) first.is first.within first.passes)
      ∙ ap (λ m. record { words = buffer; mark = m; takes = true }) (mended_mark card.mark)
      ∙ sym (ap (λ o. rewritten buffer (on_card room o)) first.card))
      (λ p b below other. find_past (is_of p b) deck i (overwritten buffer card) no_card (not_of p b pack block card first.passes other) (not_of p b pack block card first.passes other))

  -- a sector without a card claims the first that is free
  pub written_free : (i : ℕ) (y : Card) → None ≡ position (is_of pack block) deck → Some i ≡ position is_free deck → y ≡ claimed pack block buffer (get_or deck i no_card) → StoredAs kinds deck pack block buffer (Ok tt) (set deck i y)
  written_free i y none found is =
      let own = is_of pack block in
      let room = is_some (find is_free deck) in
      let card = get_or deck i no_card in
      let no_own = nowhere own deck (sym none) in
      let first = first_at is_free deck i no_card (sym found) in
      let new = set deck i (claimed pack block buffer card) in
      stored_as (ap (λ o. (on_card room o).takes) no_own ∙ ap is_some first.card) (set deck i y) new (ap (set deck i) is)
      (ap (λ o. put_card (is_some o) deck pack block buffer) no_own ∙ changed_at is_free (claimed pack block buffer) deck i no_card first)
      (ap (on_card (is_some (find is_free new))) (find_new own deck i (claimed pack block buffer card) no_own first.within (of_claimed pack block))
      ∙ sym (ap (λ o. rewritten buffer (on_card room o)) no_own))
      (λ p b below other. find_past (is_of p b) deck i (claimed pack block buffer card) no_card (not_free p b card below first.passes) (not_claimed p b pack block other))

  -- without a card and with none free the store is refused
  pub refused_full : None ≡ position (is_of pack block) deck → None ≡ position is_free deck → StoredAs kinds deck pack block buffer (Err NotTaking) deck
  refused_full none no_room =
      let shelf = packs_of_kinds kinds deck in
      let full = ap (λ o. (on_card (is_some (find is_free deck)) o).takes) (nowhere (is_of pack block) deck (sym none)) ∙ ap is_some (nowhere is_free deck (sym no_room)) in
      let refused = sym (store_there (card_kinds kinds) (card_sector deck) pack block buffer long there ∙ ap (λ b. cond b (Ok tt) (Err NotTaking)) full) in
      record {
        reply = refused;
        after = ap (λ r. left_by r shelf (stored shelf pack block buffer (takes_in shelf))) refused;
        cards = ap (λ r. deck_left r deck pack block buffer) refused;
      }
