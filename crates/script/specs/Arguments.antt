-- What follows the first word of a line.
use Rattle.std.specs.Prelude.{ℕ, List, [], ◌∷◌, Ok, Err, Result, if◌then◌else◌}
use Rattle.std.specs.Str.{bytes_eq}
use Rattle.script.specs.Numbers.{number_of}
use Rattle.script.specs.declared.faults.Fault.{Fault}
use Rattle.script.specs.declared.faults.Fault.TheVariants.{UnknownWord, MissingWord, ExtraWord}
use Rattle.script.specs.declared.numbers.Base.{Base}

-- The number that the first of some words writes.
abbrev pub argument : Base → ℕ → List (List ℕ) → Result ℕ Fault
argument b limit [] = Err MissingWord
argument b limit (w ∷ ws) = number_of b limit w

-- The first of some words is spelt so.
abbrev pub wanted : List ℕ → List (List ℕ) → Result (Unit {0}) Fault
wanted spelling [] = Err MissingWord
wanted spelling (w ∷ ws) = if bytes_eq w spelling then Ok tt else Err UnknownWord

-- No word may follow.
abbrev pub closed : {X : Type 0} → X → List (List ℕ) → Result X Fault
closed x [] = Ok x
closed x (w ∷ ws) = Err ExtraWord

-- What is read next, unless there was a fault.
abbrev pub and_then : {X Y : Type 0} → Result X Fault → (X → Result Y Fault) → Result Y Fault
and_then (Ok x) f = f x
and_then (Err e) f = Err e
