-- Worked figures: what the definitions give beside what is wanted.
use Rattle.std.specs.Prelude.{◌≡◌, ℕ, List, [], ◌∷◌, map, Ok, Err, Result}
use Rattle.media.specs.declared.address.AddressRefusal.{AddressRefusal}
use Rattle.media.specs.declared.address.Place.{Place}
use Rattle.media.specs.Address.{address_refusal_number, place_given, block_reply, header_reply, place_of_block, place_of_header, check_of}

-- A number, a place by cylinder, head and sector, or a refusal by its number.
pub data Value : Type 0 where
  number : ℕ → Value
  place : ℕ → ℕ → ℕ → Value
  refused : ℕ → Value

-- What the definitions give, and what is wanted.
pub record Figure : Type 0 where
  pub given : Value
  pub wanted : Value

-- A reply that is a number, or refused.
abbrev pub number_shown : Result ℕ AddressRefusal → Value
number_shown (Ok n) = number n
number_shown (Err e) = refused (address_refusal_number e)

-- A reply that is a place, or refused.
abbrev pub place_shown : Result Place AddressRefusal → Value
place_shown (Ok p) = place p.cylinder p.head p.sector
place_shown (Err e) = refused (address_refusal_number e)

-- A figure: a given value beside the wanted one.
abbrev pub figure_of : Value → Value → Figure
figure_of v w = record { given = v; wanted = w }

-- The worked figures of addresses and check words.
abbrev pub figures : List Figure
figures =
    figure_of (number_shown (block_reply 1 (place_given 3 1 5))) (number 285)
    ∷ figure_of (number_shown (header_reply 1 (place_given 3 1 5))) (number 0o705)
    ∷ figure_of (number (check_of 0o705)) (number 0o6155)
    ∷ figure_of (number (check_of 0)) (number 0)
    ∷ figure_of (number (check_of 1)) (number 0o176001)
    ∷ figure_of (place_shown (place_of_block 1 285)) (place 3 1 5)
    ∷ figure_of (place_shown (place_of_header 1 0o705)) (place 3 1 5)
    ∷ figure_of (place_shown (place_of_block 1 20479)) (place 255 1 39)
    ∷ figure_of (place_shown (place_of_block 1 20480)) (refused 14)
    ∷ figure_of (number_shown (block_reply 1 (place_given 0 0 39))) (number 39)
    ∷ figure_of (number_shown (block_reply 1 (place_given 0 0 40))) (refused 14)
    ∷ []

-- Each figure of a table is as wanted.
abbrev pub AllHold : List Figure → Type 0
AllHold fs = map (λ f. f.given) fs ≡ map (λ f. f.wanted) fs

-- Each worked figure is as wanted.
abbrev pub FiguresHold : Type 0
FiguresHold = AllHold figures
