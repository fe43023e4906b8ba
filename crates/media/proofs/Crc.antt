-- A CRC, bit by bit and word by word.
use Rattle.std.proofs.Common.{◌≡◌, ℕ, suc, ◌+◌, ◌-◌, ◌/◌, ◌%◌, ◌<◌, ◌≤◌, ap, arith}
use Rattle.media.specs.Address.{crc_over, crc_step, low_bits}

-- What is left of a word after one bit more.
pub crc_more : (c w i : ℕ) → i < 16
    → crc_over c (low_bits (16 - i) w) ≡ crc_over (crc_step c (w % 2)) (low_bits (16 - (i + 1)) (w / 2))
unfolding low_bits
crc_more c w i h =
    let e : 16 - i ≡ suc (16 - (i + 1)) = omega arith in
    ap (λ (n : ℕ). crc_over c (low_bits n w)) e

-- Nothing is left of a word after its last bit.
pub crc_all : (c w i : ℕ) → 16 ≤ i → crc_over c (low_bits (16 - i) w) ≡ c
unfolding low_bits
crc_all c w i h =
    let e : 16 - i ≡ 0 = omega arith in
    ap (λ (n : ℕ). crc_over c (low_bits n w)) e
