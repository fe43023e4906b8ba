-- How a script sets a bench up.
use Rattle.std.specs.Prelude.{ℕ, zero, suc, List, [], ◌∷◌, replicate, Ok, Err, codes, Result, if◌then◌else◌}
use Rattle.std.specs.Str.{bytes_eq}
use Rattle.script.specs.Arguments.{argument, wanted, closed, and_then}
use Rattle.script.specs.Numbers.{number_of}
use Rattle.script.specs.Words.{others_of}
use Rattle.script.specs.declared.faults.Fault.{Fault}
use Rattle.script.specs.declared.faults.Fault.TheVariants.{UnknownWord, MissingWord}
use Rattle.script.specs.declared.numbers.Base.TheVariants.{Octal, Decimal}
use Rattle.script.specs.declared.setup.ShelfSetup.TheVariants.{Flat, Cards}
use Rattle.script.specs.declared.setup.MemorySetup.TheVariants.{Board, Stack}
use Rattle.script.specs.declared.setup.Setup.{Setup}
use Rattle.script.specs.declared.setup.Setup.TheVariants.{Drives, Shelf, Card, Memory, Poke}

-- The next words are so many kinds, decimal numbers of 8 bits, and what follows is read with them.
abbrev pub with_kinds : ℕ → (List ℕ → List (List ℕ) → Result Setup Fault) → List (List ℕ) → Result Setup Fault
with_kinds zero f ws = f [] ws
with_kinds (suc n) f ws = and_then (argument Decimal 255 ws) (λ k. with_kinds n (λ ks. f (k ∷ ks)) (others_of ws))

-- The drives are four kinds.
abbrev pub drives_setup : List (List ℕ) → Result Setup Fault
drives_setup = with_kinds 4 (λ ks. closed (Drives ks))

-- A flat shelf has one kind.
abbrev pub flat_setup : List (List ℕ) → Result Setup Fault
flat_setup ws = and_then (argument Decimal 255 ws) (λ k. closed (Shelf (Flat k)) (others_of ws))

-- The room of a card shelf stands after a word of its own, a decimal number of 32 bits.
abbrev pub roomy : List ℕ → List (List ℕ) → Result Setup Fault
roomy ks ws = and_then (wanted (codes "room") ws) (λ _. and_then (argument Decimal 4294967295 (others_of ws)) (λ n. closed (Shelf (Cards ks n)) (others_of (others_of ws))))

-- A card shelf has eight kinds and a room.
abbrev pub cards_setup : List (List ℕ) → Result Setup Fault
cards_setup = with_kinds 8 roomy

-- A shelf is flat or of cards.
abbrev pub shelf_setup : List (List ℕ) → Result Setup Fault
shelf_setup [] = Err MissingWord
shelf_setup (w ∷ ws) = if bytes_eq w (codes "flat") then flat_setup ws else if bytes_eq w (codes "cards") then cards_setup ws else Err UnknownWord

-- The words that a line gives to so many places, octal numbers of 16 bits; the other places have zeros.
abbrev pub filled : ℕ → List (List ℕ) → Result (List ℕ) Fault
filled zero ws = closed [] ws
filled (suc n) [] = Ok (replicate (suc n) 0)
filled (suc n) (w ∷ ws) = and_then (number_of Octal 65535 w) (λ x. and_then (filled n ws) (λ xs. Ok (x ∷ xs)))

-- A card has a pack, a block and a mark, decimal numbers of 8, 16 and 8 bits, and up to 128 words.
abbrev pub card_setup : List (List ℕ) → Result Setup Fault
card_setup ws = and_then (argument Decimal 255 ws) (λ p. and_then (argument Decimal 65535 (others_of ws)) (λ b. and_then (argument Decimal 255 (others_of (others_of ws))) (λ m. and_then (filled 128 (others_of (others_of (others_of ws)))) (λ xs. Ok (Card (record { pack = p; block = b; mark = m; words = xs }))))))

-- Words for memory have an octal address of 32 bits, and are read after it.
abbrev pub poke_setup : List (List ℕ) → Result Setup Fault
poke_setup ws = and_then (argument Octal 4294967295 ws) (λ a. Ok (Poke a))

-- A board has a decimal count of 32 bits.
abbrev pub board_setup : List (List ℕ) → Result Setup Fault
board_setup ws = and_then (argument Decimal 4294967295 ws) (λ n. closed (Memory (Board n)) (others_of ws))

-- A stack has an octal border and two decimal counts, of 32 bits each.
abbrev pub stack_setup : List (List ℕ) → Result Setup Fault
stack_setup ws = and_then (argument Octal 4294967295 ws) (λ b. and_then (argument Decimal 4294967295 (others_of ws)) (λ m. and_then (argument Decimal 4294967295 (others_of (others_of ws))) (λ n. closed (Memory (Stack b m n)) (others_of (others_of (others_of ws))))))
