-- Calls and looks, as a script has them.
use Rattle.std.specs.Prelude.{ℕ, List, Result}
use Rattle.exchanges.specs.declared.calls.Call.TheVariants.{Read, Write, Load, Unload, Protect}
use Rattle.script.specs.Arguments.{argument, closed, and_then}
use Rattle.script.specs.Words.{others_of}
use Rattle.script.specs.declared.faults.Fault.{Fault}
use Rattle.script.specs.declared.numbers.Base.TheVariants.{Octal, Decimal}
use Rattle.script.specs.declared.steps.Look.TheVariants.{Sector, Memory, Kind}
use Rattle.script.specs.declared.steps.Step.{Step}
use Rattle.script.specs.declared.steps.Step.TheVariants.{Call, Look}

-- A bus read has an octal address of 32 bits.
abbrev pub read_step : List (List ℕ) → Result Step Fault
read_step ws = and_then (argument Octal 4294967295 ws) (λ a. closed (Call (Read a)) (others_of ws))

-- A bus write has an octal address of 32 bits and an octal word of 16 bits.
abbrev pub write_step : List (List ℕ) → Result Step Fault
write_step ws = and_then (argument Octal 4294967295 ws) (λ a. and_then (argument Octal 65535 (others_of ws)) (λ w. closed (Call (Write a w)) (others_of (others_of ws))))

-- A load press has a unit and a pack, decimal numbers of 8 bits.
abbrev pub load_step : List (List ℕ) → Result Step Fault
load_step ws = and_then (argument Decimal 255 ws) (λ u. and_then (argument Decimal 255 (others_of ws)) (λ p. closed (Call (Load u p)) (others_of (others_of ws))))

-- An unload press has a unit, a decimal number of 8 bits.
abbrev pub unload_step : List (List ℕ) → Result Step Fault
unload_step ws = and_then (argument Decimal 255 ws) (λ u. closed (Call (Unload u)) (others_of ws))

-- A press of the protect switch has a unit, a decimal number of 8 bits.
abbrev pub protect_step : List (List ℕ) → Result Step Fault
protect_step ws = and_then (argument Decimal 255 ws) (λ u. closed (Call (Protect u)) (others_of ws))

-- A look at a sector has a pack and a block, decimal numbers of 8 and of 16 bits.
abbrev pub sector_step : List (List ℕ) → Result Step Fault
sector_step ws = and_then (argument Decimal 255 ws) (λ p. and_then (argument Decimal 65535 (others_of ws)) (λ b. closed (Look (Sector p b)) (others_of (others_of ws))))

-- A look at memory has, after its address, a decimal count of 32 bits.
abbrev pub memory_step : ℕ → List (List ℕ) → Result Step Fault
memory_step a ws = and_then (argument Decimal 4294967295 ws) (λ n. closed (Look (Memory a n)) (others_of ws))

-- A look at a kind has a pack, a decimal number of 8 bits.
abbrev pub kind_step : List (List ℕ) → Result Step Fault
kind_step ws = and_then (argument Decimal 255 ws) (λ p. closed (Look (Kind p)) (others_of ws))
