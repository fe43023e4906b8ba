-- Numbers of a script.
use Rattle.std.specs.Prelude.{ℕ, ◌+◌, ◌-◌, ◌*◌, ◌||◌, List, [], ◌∷◌, Some, None, Ok, Err, Option, Result, nat_le, nat_lt, if◌then◌else◌}
use Rattle.script.specs.declared.faults.Fault.{Fault}
use Rattle.script.specs.declared.faults.Fault.TheVariants.{NotANumber, TooLarge}
use Rattle.script.specs.declared.numbers.Base.{Base}
use Rattle.script.specs.declared.numbers.Base.TheVariants.{Octal, Decimal}

-- An octal number has base 8, a decimal one base 10.
abbrev pub radix_of : Base → ℕ
radix_of Octal = 8
radix_of Decimal = 10

-- A digit is a character from `0` on, of which a base has as many as it says.
abbrev pub digit_of : Base → ℕ → Option ℕ
digit_of b c = if nat_lt c 48 || nat_le (radix_of b) (c - 48) then None else Some (c - 48)

-- A number is too large where it is above the limit.
abbrev pub held_to : ℕ → ℕ → Result ℕ Fault
held_to limit n = if nat_le n limit then Ok n else Err TooLarge

-- A digit more, or no number.
abbrev pub with_digit : Option ℕ → (ℕ → Result ℕ Fault) → Result ℕ Fault
with_digit None f = Err NotANumber
with_digit (Some d) f = f d

-- The number that digits write after a number n; a character that is no digit makes it no number, however large it is.
abbrev pub number_after : Base → ℕ → ℕ → List ℕ → Result ℕ Fault
number_after b limit n [] = held_to limit n
number_after b limit n (c ∷ cs) = with_digit (digit_of b c) (λ d. number_after b limit (n * radix_of b + d) cs)

-- The number that a word writes; a word of no characters is none.
abbrev pub number_of : Base → ℕ → List ℕ → Result ℕ Fault
number_of b limit [] = Err NotANumber
number_of b limit (c ∷ cs) = number_after b limit 0 (c ∷ cs)
