-- A whole script.
use Rattle.std.specs.Prelude.{◌≡◌, ℕ, ◌+◌, min, Bool, true, false, List, [], ◌∷◌, ◌++◌, map, is_some, Some, None, Ok, Err, vec_items, string_bytes, Option, Result, if◌then◌else◌}
use Rattle.std.proofs.Math.Utf8.{encodes}
use Rattle.std.specs.Option.{unwrap_or}
use Rattle.script.specs.Arguments.{and_then}
use Rattle.script.specs.Echoes.{joined}
use Rattle.script.specs.Lines.{line_of}
use Rattle.script.specs.Numbers.{number_of}
use Rattle.script.specs.Texts.{lines_of}
use Rattle.script.specs.Words.{line_words, others_of}
use Rattle.script.specs.declared.faults.Fault.{Fault}
use Rattle.script.specs.declared.faults.Fault.TheVariants.{MissingWord, LateSetup, SetupTwice}
use Rattle.script.specs.declared.faults.LineFault.{LineFault}
use Rattle.script.specs.declared.lines.Line.{Line}
use Rattle.script.specs.declared.lines.Line.TheVariants as line
use Rattle.script.specs.declared.numbers.Base.TheVariants.{Octal}
use Rattle.script.specs.declared.scripts.CardLine.{CardLine}
use Rattle.script.specs.declared.scripts.Draft.{Draft}
use Rattle.script.specs.declared.scripts.LineError.{LineError}
use Rattle.script.specs.declared.scripts.LineError.TheVariants as line_error
use Rattle.script.specs.declared.scripts.PokeLine.{PokeLine}
use Rattle.script.specs.declared.scripts.Script.{Script}
use Rattle.script.specs.declared.scripts.ScriptError.{ScriptError}
use Rattle.script.specs.declared.scripts.ScriptError.TheVariants as script_error
use Rattle.script.specs.declared.scripts.StepLine.{StepLine}
use Rattle.script.specs.declared.setup.MemorySetup.{MemorySetup}
use Rattle.script.specs.declared.setup.MemorySetup.TheVariants.{Board}
use Rattle.script.specs.declared.setup.Setup.{Setup}
use Rattle.script.specs.declared.setup.Setup.TheVariants as setup
use Rattle.script.specs.declared.setup.ShelfSetup.{ShelfSetup}
use Rattle.script.specs.declared.setup.ShelfSetup.TheVariants.{Flat}
use Rattle.script.specs.declared.steps.Step.{Step}
use Rattle.shelves.specs.declared.cards.Card.{Card}

-- A call or a look, with the number of its line and the bytes of its echo.
pub record Told : Type 0 where
  pub line : ℕ
  pub step : Step
  pub echo : List ℕ

-- What some lines of a script say.
pub record Plan : Type 0 where
  pub drives : Option (List ℕ)
  pub shelf : Option ShelfSetup
  pub memory : Option MemorySetup
  pub cards : List CardLine
  pub pokes : List PokeLine
  pub steps : List Told

-- What a script says.
pub record Bench : Type 0 where
  pub drives : List ℕ
  pub shelf : ShelfSetup
  pub memory : MemorySetup
  pub cards : List CardLine
  pub pokes : List PokeLine
  pub steps : List Told

-- A step as it is told.
abbrev pub told_by : StepLine → Told
told_by s = record { line = s.line; step = s.step; echo = string_bytes s.echo }

-- What a script says.
abbrev pub bench_of : Script → Bench
bench_of s = record { drives = s.drives; shelf = s.shelf; memory = s.memory; cards = vec_items s.cards; pokes = vec_items s.pokes; steps = map told_by (vec_items s.steps) }

-- What the lines that are read say.
abbrev pub plan_of : Draft → Plan
plan_of s = record { drives = s.drives; shelf = s.shelf; memory = s.memory; cards = vec_items s.cards; pokes = vec_items s.pokes; steps = map told_by (vec_items s.steps) }

-- No lines say nothing.
abbrev pub empty_plan : Plan
empty_plan = record { drives = None; shelf = None; memory = None; cards = []; pokes = []; steps = [] }

-- The drives are of kind 0, the shelf is flat and of kind 1, and the memory is a board of no words, unless a line says otherwise.
abbrev pub settled : Plan → Bench
settled p = record { drives = unwrap_or p.drives (0 ∷ 0 ∷ 0 ∷ 0 ∷ []); shelf = unwrap_or p.shelf (Flat 1); memory = unwrap_or p.memory (Board 0); cards = p.cards; pokes = p.pokes; steps = p.steps }

-- The drives are set up once.
abbrev pub with_drives : List ℕ → Plan → Result Plan Fault
with_drives ks p = if is_some p.drives then Err SetupTwice else Ok (record { drives = Some ks; shelf = p.shelf; memory = p.memory; cards = p.cards; pokes = p.pokes; steps = p.steps })

-- The shelf is set up once.
abbrev pub with_shelf : ShelfSetup → Plan → Result Plan Fault
with_shelf s p = if is_some p.shelf then Err SetupTwice else Ok (record { drives = p.drives; shelf = Some s; memory = p.memory; cards = p.cards; pokes = p.pokes; steps = p.steps })

-- The memory is set up once.
abbrev pub with_memory : MemorySetup → Plan → Result Plan Fault
with_memory m p = if is_some p.memory then Err SetupTwice else Ok (record { drives = p.drives; shelf = p.shelf; memory = Some m; cards = p.cards; pokes = p.pokes; steps = p.steps })

-- A card more.
abbrev pub with_card : ℕ → Card → Plan → Plan
with_card n c p = record { drives = p.drives; shelf = p.shelf; memory = p.memory; cards = p.cards ++ (record { line = n; card = c } ∷ []); pokes = p.pokes; steps = p.steps }

-- More words for memory.
abbrev pub with_pokes : List PokeLine → Plan → Plan
with_pokes ps p = record { drives = p.drives; shelf = p.shelf; memory = p.memory; cards = p.cards; pokes = p.pokes ++ ps; steps = p.steps }

-- A step more.
abbrev pub with_step : Told → Plan → Plan
with_step t p = record { drives = p.drives; shelf = p.shelf; memory = p.memory; cards = p.cards; pokes = p.pokes; steps = p.steps ++ (t ∷ []) }

-- Words for memory from an address on, octal numbers of 16 bits, each 2 further than the last; no address is above 32 bits.
abbrev pub poked : ℕ → ℕ → List (List ℕ) → Result (List PokeLine) Fault
poked n a [] = Ok []
poked n a (w ∷ ws) = and_then (number_of Octal 65535 w) (λ x. and_then (poked n (min (a + 2) 4294967295) ws) (λ ps. Ok (record { line = n; address = a; word = x } ∷ ps)))

-- There is a word at least.
abbrev pub poke_lines : ℕ → ℕ → List (List ℕ) → Result (List PokeLine) Fault
poke_lines n a [] = Err MissingWord
poke_lines n a (w ∷ ws) = poked n a (w ∷ ws)

-- What a set-up line of these words adds.
abbrev pub set_up : ℕ → List (List ℕ) → Setup → Plan → Result Plan Fault
set_up n ws (setup.Drives ks) p = with_drives ks p
set_up n ws (setup.Shelf s) p = with_shelf s p
set_up n ws (setup.Card c) p = Ok (with_card n c p)
set_up n ws (setup.Memory m) p = with_memory m p
set_up n ws (setup.Poke a) p = and_then (poke_lines n a (others_of (others_of ws))) (λ ps. Ok (with_pokes ps p))

-- Whether there is a step.
abbrev pub is_begun : List Told → Bool
is_begun [] = false
is_begun (t ∷ ts) = true

-- A step on a line of these words.
abbrev pub told_of : ℕ → Step → List (List ℕ) → Told
told_of n s ws = record { line = n; step = s; echo = encodes (joined ws) }

-- What a line of these words adds; no set-up line may follow a step.
abbrev pub with_line : ℕ → List (List ℕ) → Line → Plan → Result Plan Fault
with_line n ws line.Blank p = Ok p
with_line n ws (line.Setup s) p = if is_begun p.steps then Err LateSetup else set_up n ws s p
with_line n ws (line.Step s) p = Ok (with_step (told_of n s ws) p)

-- What a line adds, if it can be read.
abbrev pub line_added : ℕ → List ℕ → Plan → Result Plan Fault
line_added n l p = and_then (line_of (line_words l)) (λ said. with_line n (line_words l) said p)

-- A fault has the number of its line.
abbrev pub numbered : ℕ → Result Plan Fault → (Plan → Result Plan LineFault) → Result Plan LineFault
numbered n (Ok p) f = f p
numbered n (Err e) f = Err (record { line = n; fault = e })

-- What lines add one after the other, after n lines.
abbrev pub read_from : ℕ → Plan → List (List ℕ) → Result Plan LineFault
read_from n p [] = Ok p
read_from n p (l ∷ ls) = numbered (n + 1) (line_added (n + 1) l p) (λ q. read_from (n + 1) q ls)

-- What a script says whose lines are all read.
abbrev pub finished : Result Plan LineFault → Result Bench LineFault
finished (Ok p) = Ok (settled p)
finished (Err e) = Err e

-- What the script of a text says.
abbrev pub script_of : List ℕ → Result Bench LineFault
script_of text = finished (read_from 0 empty_plan (lines_of text))

-- The error of a line of this number.
abbrev pub error_at : ℕ → LineError → ScriptError
error_at n (line_error.Fault f) = script_error.Line (record { line = n; fault = f })
error_at n line_error.NoMemory = script_error.NoMemory

-- A part of a script is added as wanted, or its fault is told, or there is no memory.
abbrev pub Reported : {X : Type 0} → Result X Fault → Result (Unit {0}) LineError → X → Type 0
Reported want (Ok _) x = want ≡ Ok x
Reported want (Err (line_error.Fault f)) x = want ≡ Err f
Reported want (Err line_error.NoMemory) x = Unit {0}

-- A line is added as wanted, or its fault is told with its number, or there is no memory.
abbrev pub AddedSo : Result Plan LineFault → Result (Unit {0}) ScriptError → Plan → Type 0
AddedSo want (Ok _) p = want ≡ Ok p
AddedSo want (Err (script_error.Line f)) p = want ≡ Err f
AddedSo want (Err script_error.NoMemory) p = Unit {0}

-- A script is read as wanted, or its first fault is told, or there is no memory.
abbrev pub ReadSo : Result Bench LineFault → Result Script ScriptError → Type 0
ReadSo want (Ok s) = want ≡ Ok (bench_of s)
ReadSo want (Err (script_error.Line f)) = want ≡ Err f
ReadSo want (Err script_error.NoMemory) = Unit {0}
