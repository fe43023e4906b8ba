-- What a card shelf means: sectors that stand on cards.
use Rattle.std.specs.Prelude.{ℕ, ◌%◌, Bool, true, ◌&&◌, List, [], ◌∷◌, map, take, find, replicate, is_some, Some, None, Ok, Err, Option, Result, ◌==◌, if◌then◌else◌}
use Rattle.media.specs.Kinds.{kind_of}
use Rattle.media.specs.Marks.{mark_of, clean}
use Rattle.media.specs.Shelf.{Packs, Sector, shelf_of, store_reply}
use Rattle.shelves.specs.declared.cards.Card.{Card}
use Rattle.shelves.specs.declared.cards.CardShelf.{CardShelf}
use Rattle.media.specs.declared.kinds.Kind.{Kind}
use Rattle.media.specs.declared.shelf.ShelfRefusal.{ShelfRefusal}

-- A kind and those behind it; a place that has none ends the row.
abbrev pub and_more : Option Kind → List Kind → List Kind
and_more None more = []
and_more (Some k) more = k ∷ more

-- The kinds before the first place that has none.
abbrev pub leading_kinds : List (Option Kind) → List Kind
leading_kinds [] = []
leading_kinds (k ∷ ks) = and_more k (leading_kinds ks)

-- The kinds of the packs of a card shelf, of which there are at most 8.
abbrev pub card_kinds : List (Option Kind) → List Kind
card_kinds kinds = leading_kinds (take 8 kinds)

-- A card is a sector's when it has its pack and block.
abbrev pub is_of : ℕ → ℕ → Card → Bool
is_of pack block c = c.pack == pack && c.block == block

-- A card with pack 255 is free.
abbrev pub is_free : Card → Bool
is_free c = c.pack == 255

-- A sector with a card has its words and mark, and takes. One without has zero words, is clean, and takes where there is room.
abbrev pub on_card : Bool → Option Card → Sector
on_card room (Some c) = record { words = c.words; mark = mark_of c.mark; takes = true }
on_card room None = record { words = replicate 128 0; mark = clean; takes = room }

-- A sector stands on the first card that has its pack and block; there is room while a card is free.
abbrev pub card_sector : List Card → ℕ → ℕ → Sector
card_sector deck pack block = on_card (is_some (find is_free deck)) (find (is_of pack block) deck)

-- What a card shelf means, by the kinds of its packs.
abbrev pub packs_of_kinds : List (Option Kind) → List Card → Packs
packs_of_kinds kinds deck = shelf_of (card_kinds kinds) (card_sector deck)

-- What a card shelf means, by the numbers of its kinds.
abbrev pub card_packs : List ℕ → List Card → Packs
card_packs numbers deck = packs_of_kinds (map kind_of numbers) deck

-- What this card shelf means, by the cards that it was lent.
abbrev pub card_meaning : CardShelf → Packs
card_meaning shelf = packs_of_kinds shelf.kinds shelf.cards.now

-- The first card that passes a test, changed.
abbrev pub change_first : (Card → Bool) → (Card → Card) → List Card → List Card
change_first test change [] = []
change_first test change (c ∷ cs) = if test c then change c ∷ cs else c ∷ change_first test change cs

-- The card with these parts.
abbrev pub card_of : ℕ → ℕ → ℕ → List ℕ → Card
card_of p b m ws = record { pack = p; block = b; mark = m; words = ws }

-- A sector's card after a store: it has the words, and its mark has lost damaged data.
abbrev pub overwritten : List ℕ → Card → Card
overwritten buffer c = card_of c.pack c.block (c.mark % 2) buffer

-- A free card that a store takes for a sector: it has the words, and is clean.
abbrev pub claimed : ℕ → ℕ → List ℕ → Card → Card
claimed pack block buffer _ = card_of pack block 0 buffer

-- A store overwrites the sector's card; where it has none, it claims the first that is free.
abbrev pub put_card : Bool → List Card → ℕ → ℕ → List ℕ → List Card
put_card has_card deck pack block buffer =
    if has_card then change_first (is_of pack block) (overwritten buffer) deck else change_first is_free (claimed pack block buffer) deck

-- The cards that a store leaves by its reply; a refused one leaves them as they are.
abbrev pub deck_left : Result (Unit {0}) ShelfRefusal → List Card → ℕ → ℕ → List ℕ → List Card
deck_left (Ok _) deck pack block buffer = put_card (is_some (find (is_of pack block) deck)) deck pack block buffer
deck_left (Err _) deck pack block buffer = deck

-- The cards after a store.
abbrev pub card_after : List (Option Kind) → List Card → ℕ → ℕ → List ℕ → List Card
card_after kinds deck pack block buffer = deck_left (store_reply (packs_of_kinds kinds deck) pack block buffer) deck pack block buffer
