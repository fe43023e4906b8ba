-- Proofs that the two makes have what every shelf has. There is nothing here to believe.
use Rattle.std.specs.Prelude.{ℕ, zero, suc, ◌≤◌, Bool, true, false, List, [], ◌∷◌, length, take, Some, None, Option, if◌then◌else◌}
use Rattle.std.proofs.Common.{zero-le, suc-le-suc, lit≤}
use Rattle.media.specs.Laws.{shelf_lawful}
use Rattle.media.specs.Shelf.{Lawful}
use Rattle.media.specs.declared.kinds.Kind.{Kind}
use Rattle.shelves.specs.Cards.{and_more, leading_kinds, card_kinds, card_sector, packs_of_kinds}
use Rattle.shelves.specs.Flat.{whole_pack, flat_sector, packs_of_kind}
use Rattle.shelves.specs.declared.cards.Card.{Card}

at_most_one : (whole : Bool) (k : Kind) → length (if whole then k ∷ [] else []) ≤ 8
at_most_one true k = lit≤ tt
at_most_one false k = lit≤ tt

few_flat : (slice : List ℕ) (kind : Option Kind) → length (whole_pack slice kind) ≤ 8
few_flat slice None = lit≤ tt
few_flat slice (Some k) = at_most_one _ k

-- a flat shelf
pub flat_lawful : (kind : Option Kind) (slice : List ℕ) → Lawful (packs_of_kind kind slice)
flat_lawful kind slice = shelf_lawful (whole_pack slice kind) (λ _ block. flat_sector slice block) (few_flat slice kind)

few_more : (kind : Option Kind) (more : List Kind) (n : ℕ) → length more ≤ n → length (and_more kind more) ≤ suc n
few_more None more n few = zero-le
few_more (Some k) more n few = suc-le-suc few

few_leading : (n : ℕ) (kinds : List (Option Kind)) → length (leading_kinds (take n kinds)) ≤ n
few_leading zero kinds = zero-le
few_leading (suc n) [] = zero-le
few_leading (suc n) (k ∷ kinds) = few_more k (leading_kinds (take n kinds)) n (few_leading n kinds)

-- a card shelf
pub few_cards : (kinds : List (Option Kind)) → length (card_kinds kinds) ≤ 8
few_cards kinds = few_leading 8 kinds

pub card_lawful : (kinds : List (Option Kind)) (deck : List Card) → Lawful (packs_of_kinds kinds deck)
card_lawful kinds deck = shelf_lawful (card_kinds kinds) (card_sector deck) (few_cards kinds)
