-- What a script runs on, and what it tells where it cannot be run.
use Rattle.std.specs.Prelude.{ℕ, ◌-◌, ◌*◌, List, [], ◌∷◌, ◌++◌, map, length, replicate, is_ok, Some, None, Ok, Err, codes, decimal, Option, Result, slice_index, if◌then◌else◌}
use Rattle.std.specs.List.{slice_get}
use Rattle.std.specs.Option.{option_map_or}
use Rattle.media.specs.Kinds.{kind_of, blocks_of}
use Rattle.media.specs.Memory.{Words, write_reply, after_write}
use Rattle.media.specs.Shelf.{Packs}
use Rattle.exchanges.specs.Refusals.{make_refusal_number}
use Rattle.exchanges.specs.declared.refusals.MakeRefusal.{MakeRefusal}
use Rattle.memories.specs.Board.{board_contents}
use Rattle.memories.specs.Stack.{even_border, stack_contents}
use Rattle.rl11.specs.Machine.{Machine, kinds_reply}
use Rattle.rl11.specs.State.{fresh_state}
use Rattle.script.specs.Scripts.{Bench}
use Rattle.script.specs.declared.scripts.CardLine.{CardLine}
use Rattle.script.specs.declared.scripts.PokeLine.{PokeLine}
use Rattle.script.specs.declared.setup.MemorySetup.{MemorySetup}
use Rattle.script.specs.declared.setup.MemorySetup.TheVariants.{Board, Stack}
use Rattle.script.specs.declared.setup.ShelfSetup.{ShelfSetup}
use Rattle.script.specs.declared.setup.ShelfSetup.TheVariants.{Flat, Cards}
use Rattle.shelves.specs.Cards.{card_of, card_packs}
use Rattle.shelves.specs.Flat.{flat_packs}
use Rattle.shelves.specs.declared.cards.Card.{Card}
use Rattle.runner.specs.Answers.{refused_text}
use Rattle.runner.specs.Numerals.{long_octal}
use Rattle.runner.specs.Steps.{run_text}

-- What is told of a line with something wrong: its number, and what it is.
abbrev pub wrong_line : ℕ → List ℕ → List ℕ
wrong_line n what = codes "line " ++ (decimal n ++ (codes ": " ++ (what ++ (10 ∷ []))))

-- What is told of a card for which there is no room.
abbrev pub no_room_text : CardLine → List ℕ
no_room_text c = wrong_line c.line (codes "there is no room for this card")

-- What is told of a word for memory where there is none.
abbrev pub no_word_text : PokeLine → List ℕ
no_word_text p = wrong_line p.line (codes "there is no memory word at " ++ long_octal p.address)

-- What is told of drives of which a kind is refused.
abbrev pub refused_drives : List ℕ → MakeRefusal → List ℕ
refused_drives ks e = codes "drives " ++ (decimal (slice_index ks 0) ++ (codes " " ++ (decimal (slice_index ks 1) ++ (codes " " ++ (decimal (slice_index ks 2) ++ (codes " " ++ (decimal (slice_index ks 3) ++ (codes " -> " ++ (refused_text (make_refusal_number e) ++ (10 ∷ []))))))))))

-- A fresh controller over packs and a memory.
abbrev pub fresh_machine : List ℕ → Packs → Words → Machine
fresh_machine ks s m = record { state = fresh_state (map kind_of ks); packs = s; contents = m }

-- The steps are run where no kind is refused.
abbrev pub started_text : Bench → Packs → Words → Result (Unit {0}) MakeRefusal → List ℕ
started_text b s m (Ok _) = run_text b.steps (fresh_machine b.drives s m)
started_text b s m (Err e) = refused_drives b.drives e

-- A memory with words put into it, or the first of them for which there is no place.
abbrev pub poked_memory : Words → List PokeLine → Result Words PokeLine
poked_memory m [] = Ok m
poked_memory m (p ∷ ps) = if is_ok (write_reply m p.address) then poked_memory (after_write m p.address p.word) ps else Err p

-- A controller is made where each word for memory has its place.
abbrev pub poked_text : Bench → Packs → Result Words PokeLine → List ℕ
poked_text b s (Ok m) = started_text b s m (kinds_reply b.drives)
poked_text b s (Err p) = no_word_text p

-- What is told of a script on packs and a memory.
abbrev pub on_memory_text : Bench → Packs → Words → List ℕ
on_memory_text b s m = poked_text b s (poked_memory m b.pokes)

-- A memory as it is set up, of zero words.
abbrev pub memory_made : MemorySetup → Words
memory_made (Board n) = board_contents (replicate n 0)
memory_made (Stack b l u) = stack_contents (even_border b) (board_contents (replicate l 0)) (board_contents (replicate u 0))

-- What is told of a script on packs.
abbrev pub on_shelf_text : Bench → Packs → List ℕ
on_shelf_text b s = on_memory_text b s (memory_made b.memory)

-- How many words a flat shelf has: those of a pack of its kind, or none.
abbrev pub flat_length : ℕ → ℕ
flat_length k = option_map_or (λ kind. blocks_of kind * 128) (kind_of k) 0

-- A free card.
abbrev pub free_card : Card
free_card = card_of 255 0 0 (replicate 128 0)

-- The cards of a script, and free ones for the rest of the room.
abbrev pub deck_made : ℕ → List CardLine → List Card
deck_made room cs = map (λ c. c.card) cs ++ replicate (room - length cs) free_card

-- A shelf as it is set up.
abbrev pub shelf_made : ShelfSetup → List CardLine → Packs
shelf_made (Flat k) cs = flat_packs k (replicate (flat_length k) 0)
shelf_made (Cards ks room) cs = card_packs ks (deck_made room cs)

-- For how many cards there is room; a flat shelf has none.
abbrev pub room_for : ShelfSetup → ℕ
room_for (Flat k) = 0
room_for (Cards ks room) = room

-- A script is run where there is room for each card.
abbrev pub roomy_text : Bench → Option CardLine → List ℕ
roomy_text b (Some c) = no_room_text c
roomy_text b None = on_shelf_text b (shelf_made b.shelf b.cards)

-- What is told of a script.
abbrev pub bench_text : Bench → List ℕ
bench_text b = roomy_text b (slice_get b.cards (room_for b.shelf))
