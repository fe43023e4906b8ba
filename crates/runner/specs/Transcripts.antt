-- What is told of the script of a text.
use Rattle.std.specs.Prelude.{ℕ, List, [], ◌∷◌, ◌++◌, Ok, Err, Result}
use Rattle.script.specs.Faults.{line_fault_text}
use Rattle.script.specs.Scripts.{Bench}
use Rattle.script.specs.declared.faults.LineFault.{LineFault}
use Rattle.runner.specs.Setups.{bench_text}

-- What is told of a script, or its first fault alone on a line.
abbrev pub script_text : Result Bench LineFault → List ℕ
script_text (Ok b) = bench_text b
script_text (Err f) = line_fault_text f ++ (10 ∷ [])
