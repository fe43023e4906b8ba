-- What the formatter writes of a number in octal.
use Rattle.std.proofs.Common.{◌≡◌, ℕ, zero, suc, ◌+◌, ◌-◌, ◌/◌, ◌%◌, ◌^◌, ◌<◌, ◌≤◌, Bool, true, false, List, [], ◌∷◌, ◌++◌, length, replicate, decimal, nat_lt, sym, refl, ap, ◌∙◌, append_assoc, append-nil, arith, length-append}
use Rattle.std.specs.Prelude.{◌==◌, if◌then◌else◌}
use Rattle.std.specs.Fmt.{digit_glyph, digits, digits_onto, format_spec, padded_integral, char_count}
use Rattle.std.proofs.lemmas.Fmt.{decimal_digit}
use Rattle.std.proofs.lemmas.Grind.{replicate_next}
use borrow.Author.Tests.{lt-ltb, ne_eqb, ltb-true, ltb-false}
use Rattle.runner.specs.Numerals.{six_digits, high_digit, plain_octal, long_octal}

-- the octal digits of a number, none of 0; `k` bounds how many are written
abbrev front : ℕ → ℕ → List ℕ
front k n = if n == 0 then [] else digits_onto k 8 false n []

-- an octal digit is written as its decimal number is
glyph : (d : ℕ) → d < 8 → digit_glyph false d ∷ [] ≡ decimal d
glyph d h = ap (λ b. (if b then 48 + d else 87 + d) ∷ []) (lt-ltb d 10 (omega arith)) ∙ sym (decimal_digit d (omega arith))

-- a number that is not 0 has its last digit
high_some : (n : ℕ) → (n ≡ 0 → ⊥) → high_digit n ≡ decimal (n % 8)
high_some n some = ap (λ b. if b then [] else decimal (n % 8)) (ne_eqb n 0 some)

-- a digit behind what stands before it, if anything does
split_by : (b : Bool) (w x y : List ℕ) → y ≡ x ++ w → (if b then w else y) ≡ (if b then [] else x) ++ w
split_by true w x y e = refl
split_by false w x y e = e

-- digits written before others are the digits alone, and then the others
onto-append : (k n : ℕ) (acc : List ℕ) → digits_onto k 8 false n acc ≡ digits_onto k 8 false n [] ++ acc
onto-append zero n acc = refl
onto-append (suc k) n acc =
    let g = digit_glyph false (n % 8) in
    let b = n / 8 == 0 in
    let x = digits_onto k 8 false (n / 8) [] in
    split_by b (g ∷ acc) x (digits_onto k 8 false (n / 8) (g ∷ acc)) (onto-append k (n / 8) (g ∷ acc))
    ∙ sym (append_assoc (if b then [] else x) (g ∷ []) acc)
    ∙ ap (λ y. y ++ acc) (sym (split_by b (g ∷ []) x (digits_onto k 8 false (n / 8) (g ∷ [])) (onto-append k (n / 8) (g ∷ []))))

-- the last digit, and those before it
onto_last : (k n : ℕ) → digits_onto (suc k) 8 false n [] ≡ front k (n / 8) ++ decimal (n % 8)
onto_last k n =
    let g = digit_glyph false (n % 8) in
    split_by (n / 8 == 0) (g ∷ []) (digits_onto k 8 false (n / 8) []) (digits_onto k 8 false (n / 8) (g ∷ [])) (onto-append k (n / 8) (g ∷ []))
    ∙ ap (λ x. front k (n / 8) ++ x) (glyph (n % 8) (omega arith))

-- the formatter's digits, before nothing
digits_nil : (n : ℕ) → digits 8 false n ≡ digits_onto 64 8 false n []
unfolding digits
digits_nil n = refl

-- the last digit of a number, and those before it, which are none below 8
digits_last : (n : ℕ) → digits 8 false n ≡ front 63 (n / 8) ++ decimal (n % 8)
digits_last n = digits_nil n ∙ onto_last 63 n

-- the last digit of a number, and those before it; none of 0
front_last : (k n : ℕ) → front (suc k) n ≡ front k (n / 8) ++ high_digit n
front_last k zero = refl
front_last k (suc n) =
    let some : suc n ≡ 0 → ⊥ = λ e. omega arith in
    ap (λ b. if b then [] else digits_onto (suc k) 8 false (suc n) []) (ne_eqb (suc n) 0 some)
    ∙ onto_last k (suc n)
    ∙ ap (λ x. front k (suc n / 8) ++ x) (sym (high_some (suc n) some))

-- one more digit of a number divided by a weight
next_digit : (k n w v : ℕ) (t : List ℕ) → n / w / 8 ≡ n / v → front (suc k) (n / w) ++ t ≡ front k (n / v) ++ (high_digit (n / w) ++ t)
next_digit k n w v t e = ap (λ x. x ++ t) (front_last k (n / w)) ∙ append_assoc (front k (n / w / 8)) (high_digit (n / w)) t ∙ ap (λ m. front k m ++ (high_digit (n / w) ++ t)) e

-- the digits of a number that is not bounded here, the six lowest of them apart
digits_six : (n : ℕ) → digits 8 false n ≡ front 58 (n / 262144) ++ plain_octal n
digits_six n = digits_last n
    ∙ next_digit 62 n 8 64 _ (omega arith)
    ∙ next_digit 61 n 64 512 _ (omega arith)
    ∙ next_digit 60 n 512 4096 _ (omega arith)
    ∙ next_digit 59 n 4096 32768 _ (omega arith)
    ∙ next_digit 58 n 32768 262144 _ (omega arith)

-- the digits before the six lowest ones of a number of 32 bits
front_five : (n : ℕ) (t : List ℕ) → n < 2 ^ 32 → front 58 (n / 262144) ++ t ≡ high_digit (n / 1073741824) ++ (high_digit (n / 134217728) ++ (high_digit (n / 16777216) ++ (high_digit (n / 2097152) ++ (high_digit (n / 262144) ++ t))))
front_five n t small = next_digit 57 n 262144 2097152 _ (omega arith)
    ∙ next_digit 56 n 2097152 16777216 _ (omega arith)
    ∙ next_digit 55 n 16777216 134217728 _ (omega arith)
    ∙ next_digit 54 n 134217728 1073741824 _ (omega arith)
    ∙ next_digit 53 n 1073741824 8589934592 _ (omega arith)
    ∙ ap (λ m. front 53 m ++ (high_digit (n / 1073741824) ++ (high_digit (n / 134217728) ++ (high_digit (n / 16777216) ++ (high_digit (n / 2097152) ++ (high_digit (n / 262144) ++ t)))))) {x = n / 8589934592} {y = 0} (omega arith)

-- `{:o}` of a number of 16 bits
pub octal_written : (n : ℕ) → n < 2 ^ 16 → digits 8 false n ≡ plain_octal n
octal_written n small = digits_six n ∙ ap (λ m. front 58 m ++ plain_octal n) {x = n / 262144} {y = 0} (omega arith)

-- so many low octal digits of a number
abbrev low : ℕ → ℕ → List ℕ
low zero n = []
low (suc j) n = low j (n / 8) ++ decimal (n % 8)

-- the low digits of 0 are zeros
low_none : (j : ℕ) → low j 0 ≡ replicate j 48
low_none zero = refl
low_none (suc j) =
    ap (λ x. x ++ decimal 0) (low_none j)
    ∙ ap (λ x. replicate j 48 ++ x) (decimal_digit 0 (omega arith))
    ∙ sym (replicate_next j 48)
    ∙ ap (λ i. replicate i 48) {x = j + 1} {y = suc j} (omega arith)

-- six low digits, spelt out
low_six : (n : ℕ) → low 6 n ≡ six_digits n
low_six n =
    let second : n / 8 / 8 ≡ n / 64 = omega arith in
    let third : n / 64 / 8 ≡ n / 512 = omega arith in
    let fourth : n / 512 / 8 ≡ n / 4096 = omega arith in
    let fifth : n / 4096 / 8 ≡ n / 32768 = omega arith in
    simp (second, third, fourth, fifth, append_assoc)

-- zeros in front stay as many when a digit is put behind
push_last : (j g : ℕ) (before ds whole : List ℕ) → ds ≡ before ++ (g ∷ []) → replicate (j - length before) 48 ++ before ≡ whole → replicate (suc j - length ds) 48 ++ ds ≡ whole ++ (g ∷ [])
push_last j g before ds whole e h =
    let len : length ds ≡ length before + 1 = ap length e ∙ length-append before (g ∷ []) in
    let count : suc j - length ds ≡ j - length before = omega arith in
    ap (λ i. replicate i 48 ++ ds) count
    ∙ ap (λ x. replicate (j - length before) 48 ++ x) e
    ∙ sym (append_assoc (replicate (j - length before) 48) before (g ∷ []))
    ∙ ap (λ x. x ++ (g ∷ [])) h

-- zeros in front of the digits make them so many
filled : (j k n : ℕ) → j ≤ k → n < 8 ^ j → replicate (j - length (front k n)) 48 ++ front k n ≡ low j n
filled zero k n bound small = let none : n ≡ 0 = omega arith in rw none refl
filled (suc j) zero n bound small = absurd (omega arith)
filled (suc j) (suc k) zero bound small =
    ap (λ i. replicate i 48 ++ []) {x = suc j - 0} {y = suc j} (omega arith)
    ∙ append-nil (replicate (suc j) 48) ∙ sym (low_none (suc j))
filled (suc j) (suc k) (suc n) bound small =
    let some : suc n ≡ 0 → ⊥ = λ e. omega arith in
    let last : decimal (suc n % 8) ≡ (48 + suc n % 8) ∷ [] = decimal_digit (suc n % 8) (omega arith) in
    let before = front k (suc n / 8) in
    push_last j (48 + suc n % 8) before (front (suc k) (suc n)) (low j (suc n / 8)) (front_last k (suc n) ∙ ap (λ x. before ++ x) (high_some (suc n) some ∙ last)) (filled j k (suc n / 8) (omega arith) (omega arith))
    ∙ ap (λ x. low j (suc n / 8) ++ x) (sym last)

-- a number of 18 bits, with zeros in front to six digits
zeros_six : (n : ℕ) → n < 262144 → replicate (6 - length (digits 8 false n)) 48 ++ digits 8 false n ≡ six_digits n
zeros_six n small =
    let last : decimal (n % 8) ≡ (48 + n % 8) ∷ [] = decimal_digit (n % 8) (omega arith) in
    push_last 5 (48 + n % 8) (front 63 (n / 8)) (digits 8 false n) (low 5 (n / 8)) (digits_last n ∙ ap (λ x. front 63 (n / 8) ++ x) last) (filled 5 63 (n / 8) (omega arith) (omega arith))
    ∙ ap (λ x. low 5 (n / 8) ++ x) (sym last)
    ∙ low_six n

-- a number of more than six octal digits has six low ones
full : (n : ℕ) → 262144 ≤ n → plain_octal n ≡ six_digits n
full n large = rw (high_some (n / 32768) (λ e. omega arith), high_some (n / 4096) (λ e. omega arith), high_some (n / 512) (λ e. omega arith), high_some (n / 64) (λ e. omega arith), high_some (n / 8) (λ e. omega arith))

-- six digits are six bytes
length_six : (n : ℕ) → length (six_digits n) ≡ 6
length_six n = rw (decimal_digit (n / 32768 % 8) (omega arith), decimal_digit (n / 4096 % 8) (omega arith), decimal_digit (n / 512 % 8) (omega arith), decimal_digit (n / 64 % 8) (omega arith), decimal_digit (n / 8 % 8) (omega arith), decimal_digit (n % 8) (omega arith))

-- a number of 32 bits, with zeros in front to six digits
zeros_long : (n : ℕ) → n < 2 ^ 32 → (b : Bool) → nat_lt n 262144 ≡ b → replicate (6 - length (digits 8 false n)) 48 ++ digits 8 false n ≡ long_octal n
zeros_long n small true below =
    let low_only : 0 ≡ n / 262144 = omega (arith, ltb-true n 262144 below) in
    zeros_six n (ltb-true n 262144 below) ∙ ap (λ m. front 58 m ++ six_digits n) low_only ∙ front_five n (six_digits n) small
zeros_long n small false above =
    let high = front 58 (n / 262144) in
    let whole : digits 8 false n ≡ high ++ six_digits n = digits_six n ∙ ap (λ x. high ++ x) (full n (ltb-false n 262144 above)) in
    let len : length (digits 8 false n) ≡ length high + length (six_digits n) = ap length whole ∙ length-append high (six_digits n) in
    let none : 6 - length (digits 8 false n) ≡ 0 = omega (arith, length_six n) in
    ap (λ i. replicate i 48 ++ digits 8 false n) none ∙ whole ∙ front_five n (six_digits n) small

-- what `{:06o}` puts in front of the digits
padded_by_zeros : (ds : List ℕ) → padded_integral (format_spec 32 0 4 6 (2 ^ 64 - 1)) false [] ds ≡ replicate (6 - length ds) 48 ++ ds
unfolding padded_integral char_count
padded_by_zeros ds = ap (λ x. replicate (6 - length ds - 0 - 0) 48 ++ x) (append-nil ds) ∙ ap (λ i. replicate i 48 ++ ds) {x = 6 - length ds - 0 - 0} {y = 6 - length ds} (omega arith)

-- `{:06o}` of a number of 16 bits, and of 32 bits
pub six_written : (n : ℕ) → n < 2 ^ 16 → padded_integral (format_spec 32 0 4 6 (2 ^ 64 - 1)) false [] (digits 8 false n) ≡ six_digits n
six_written n small = padded_by_zeros (digits 8 false n) ∙ zeros_six n (omega arith)

pub long_written : (n : ℕ) → n < 2 ^ 32 → padded_integral (format_spec 32 0 4 6 (2 ^ 64 - 1)) false [] (digits 8 false n) ≡ long_octal n
long_written n small = padded_by_zeros (digits 8 false n) ∙ zeros_long n small (nat_lt n 262144) refl
