-- Faults as text.
use Rattle.std.specs.Prelude.{ℕ, List, ◌++◌, codes, decimal}
use Rattle.script.specs.declared.faults.Fault.{Fault}
use Rattle.script.specs.declared.faults.Fault.TheVariants.{UnknownWord, TooLarge, NotANumber, MissingWord, ExtraWord, LateSetup, SetupTwice}
use Rattle.script.specs.declared.faults.LineFault.{LineFault}

-- What is wrong with a line, in words.
abbrev pub fault_text : Fault → List ℕ
fault_text UnknownWord = codes "unknown word"
fault_text TooLarge = codes "a number is too large"
fault_text NotANumber = codes "a word is not a number"
fault_text MissingWord = codes "a word is missing"
fault_text ExtraWord = codes "there is a word too many"
fault_text LateSetup = codes "a set-up line stands after the first call or look"
fault_text SetupTwice = codes "this was set up already"

-- A fault with the number of its line.
abbrev pub line_fault_text : LineFault → List ℕ
line_fault_text f = codes "line " ++ (decimal f.line ++ (codes ": " ++ fault_text f.fault))
