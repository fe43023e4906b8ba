-- The bits of a word, and of a bus address.
use Rattle.std.specs.Prelude.{ℕ, ◌+◌, ◌*◌, ◌/◌, ◌%◌, ◌^◌, Bool, ◌==◌, if◌then◌else◌}

-- Whether a bit of a word is set.
abbrev pub bit_of : ℕ → ℕ → Bool
bit_of k w = w / 2 ^ k % 2 == 1

-- What a bit adds to a word where it is set.
abbrev pub worth : ℕ → Bool → ℕ
worth k b = (if b then 1 else 0) * 2 ^ k

-- The low 16 bits of a bus address.
abbrev pub low_word : ℕ → ℕ
low_word a = a % 2 ^ 16

-- Bits 16 and 17 of a bus address.
abbrev pub extension_of : ℕ → ℕ
extension_of a = a / 2 ^ 16 % 4

-- A bus address with other low bits, bit 0 clear.
abbrev pub with_low_word : ℕ → ℕ → ℕ
with_low_word a w = a / 2 ^ 16 * 2 ^ 16 + w / 2 * 2

-- A bus address with other bits 16 and 17.
abbrev pub with_extension : ℕ → ℕ → ℕ
with_extension a x = x * 2 ^ 16 + a % 2 ^ 16
