-- A line of a script.
use Rattle.std.specs.Prelude.{ℕ, List, [], ◌∷◌, Some, None, Ok, Err, codes, Option, Result, if◌then◌else◌}
use Rattle.std.specs.Str.{bytes_eq}
use Rattle.exchanges.specs.declared.calls.Call.TheVariants as call
use Rattle.script.specs.Arguments.{closed, and_then}
use Rattle.script.specs.Keywords.{keyword_of}
use Rattle.script.specs.Numbers.{number_of}
use Rattle.script.specs.Setup.{drives_setup, shelf_setup, card_setup, poke_setup, board_setup, stack_setup}
use Rattle.script.specs.Steps.{read_step, write_step, load_step, unload_step, protect_step, sector_step, memory_step, kind_step}
use Rattle.script.specs.declared.faults.Fault.{Fault}
use Rattle.script.specs.declared.faults.Fault.TheVariants.{UnknownWord, MissingWord}
use Rattle.script.specs.declared.keywords.Keyword.{Keyword}
use Rattle.script.specs.declared.keywords.Keyword.TheVariants.{Drives, Shelf, Card, Memory, Poke, Read, Write, Init, Grant, Load, Unload, Protect, Sector, Kind}
use Rattle.script.specs.declared.lines.Line.{Line}
use Rattle.script.specs.declared.lines.Line.TheVariants as line
use Rattle.script.specs.declared.numbers.Base.TheVariants.{Octal}
use Rattle.script.specs.declared.setup.Setup.{Setup}
use Rattle.script.specs.declared.steps.Step.{Step}
use Rattle.script.specs.declared.steps.Step.TheVariants as step

-- A line that sets the bench up, unless there was a fault.
abbrev pub as_setup : Result Setup Fault → Result Line Fault
as_setup r = and_then r (λ s. Ok (line.Setup s))

-- A line that is run, unless there was a fault.
abbrev pub as_step : Result Step Fault → Result Line Fault
as_step r = and_then r (λ s. Ok (line.Step s))

-- Memory is set up as a board or as a stack; or else it is looked at from an octal address of 32 bits on.
abbrev pub memory_line : List (List ℕ) → Result Line Fault
memory_line [] = Err MissingWord
memory_line (w ∷ ws) = if bytes_eq w (codes "board") then as_setup (board_setup ws) else if bytes_eq w (codes "stack") then as_setup (stack_setup ws) else and_then (number_of Octal 4294967295 w) (λ a. as_step (memory_step a ws))

-- What a line says, by its first word.
abbrev pub keyword_line : Keyword → List (List ℕ) → Result Line Fault
keyword_line Drives ws = as_setup (drives_setup ws)
keyword_line Shelf ws = as_setup (shelf_setup ws)
keyword_line Card ws = as_setup (card_setup ws)
keyword_line Memory ws = memory_line ws
keyword_line Poke ws = as_setup (poke_setup ws)
keyword_line Read ws = as_step (read_step ws)
keyword_line Write ws = as_step (write_step ws)
keyword_line Init ws = as_step (closed (step.Call call.Init) ws)
keyword_line Grant ws = as_step (closed (step.Call call.Grant) ws)
keyword_line Load ws = as_step (load_step ws)
keyword_line Unload ws = as_step (unload_step ws)
keyword_line Protect ws = as_step (protect_step ws)
keyword_line Sector ws = as_step (sector_step ws)
keyword_line Kind ws = as_step (kind_step ws)

-- What a line says whose first word may be a keyword.
abbrev pub said_by : Option Keyword → List (List ℕ) → Result Line Fault
said_by None ws = Err UnknownWord
said_by (Some k) ws = keyword_line k ws

-- What a line of these words says.
abbrev pub line_of : List (List ℕ) → Result Line Fault
line_of [] = Ok line.Blank
line_of (w ∷ ws) = said_by (keyword_of w) ws
