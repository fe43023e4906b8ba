-- Octal numbers as text.
use Rattle.std.specs.Prelude.{ℕ, ◌/◌, ◌%◌, List, [], ◌++◌, decimal, ◌==◌, if◌then◌else◌}

-- The octal digit of a number that has this weight.
abbrev pub digit_at : ℕ → ℕ → List ℕ
digit_at weight n = decimal (n / weight % 8)

-- The six low octal digits of a number.
abbrev pub six_digits : ℕ → List ℕ
six_digits n = digit_at 32768 n ++ (digit_at 4096 n ++ (digit_at 512 n ++ (digit_at 64 n ++ (digit_at 8 n ++ decimal (n % 8)))))

-- The last octal digit of a number; nothing where the number is 0.
abbrev pub high_digit : ℕ → List ℕ
high_digit n = if n == 0 then [] else decimal (n % 8)

-- A number of 16 bits in octal, without zeros in front.
abbrev pub plain_octal : ℕ → List ℕ
plain_octal n = high_digit (n / 32768) ++ (high_digit (n / 4096) ++ (high_digit (n / 512) ++ (high_digit (n / 64) ++ (high_digit (n / 8) ++ decimal (n % 8)))))

-- A number of 32 bits in octal, of six digits at least.
abbrev pub long_octal : ℕ → List ℕ
long_octal n = high_digit (n / 1073741824) ++ (high_digit (n / 134217728) ++ (high_digit (n / 16777216) ++ (high_digit (n / 2097152) ++ (high_digit (n / 262144) ++ six_digits n))))
