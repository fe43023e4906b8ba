-- The fields of a header word, packed and unpacked.
use Rattle.std.proofs.Common.{◌≡◌, ℕ, ◌+◌, ◌*◌, ◌%◌, ◌<◌, ◌∙◌, arith}
use lib.Bits.{bit_and, bit_or}
use Rattle.std.proofs.lemmas.Nat.{or_shifted, and_mask}

-- Fields packed by shifts and `|`, in a word of 16 bits, are their sum.
pub packed : (c h s : ℕ) → c < 512 → h < 2 → s < 64
    → bit_or (bit_or (c * 128 % 65536) (h * 64 % 65536)) s ≡ c * 128 + h * 64 + s
packed c h s p q t =
    let high : c * 128 % 65536 ≡ c * 128 = omega arith in
    let mid : h * 64 % 65536 ≡ h * 64 = omega arith in
    let small : h * 64 < 128 = omega arith in
    let upper : bit_or (c * 128) (h * 64) ≡ (c * 2 + h) * 64 = or_shifted c 7 (h * 64) small ∙ omega arith in
    rw (high, mid, upper) (or_shifted (c * 2 + h) 6 s t ∙ omega arith)

-- The low bit by a mask.
pub low_bit : (n : ℕ) → bit_and n 1 ≡ n % 2
low_bit n = and_mask n 1
