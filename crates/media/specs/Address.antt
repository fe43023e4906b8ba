-- Where a sector lies, the numbers that name it, and the check word of its header.
use Rattle.std.specs.Prelude.{ℕ, zero, suc, ◌+◌, ◌*◌, ◌/◌, ◌%◌, Bool, false, ◌&&◌, List, [], ◌∷◌, ◌++◌, fold, Some, None, Ok, Err, Result, ◌==◌, bit_xor, nat_lt, if◌then◌else◌}
use Rattle.media.specs.declared.address.AddressRefusal.{AddressRefusal}
use Rattle.media.specs.declared.address.AddressRefusal.TheVariants.{NoSector}
use Rattle.media.specs.declared.address.Place.{Place}
use Rattle.media.specs.declared.kinds.Kind.{Kind}
use Rattle.media.specs.Kinds.{kind_of, cylinders_of, blocks_of}

-- Each refusal has a number.
abbrev pub address_refusal_number : AddressRefusal → ℕ
address_refusal_number NoSector = 14

-- The place with these numbers.
abbrev pub place_given : ℕ → ℕ → ℕ → Place
place_given c h s = record { cylinder = c; head = h; sector = s }

-- A cylinder has 2 heads, and a track 40 sectors, all numbered from 0.
abbrev pub on_pack : Kind → Place → Bool
on_pack k p = nat_lt p.cylinder (cylinders_of k) && (nat_lt p.head 2 && nat_lt p.sector 40)

-- Whether a number is that of a kind whose packs pass a test.
abbrev pub for_kind : ℕ → (Kind → Bool) → Bool
for_kind n test = elim (kind_of n) [ Some k ↦ test k | None ↦ false ]

-- What is asked for, or that there is no such sector.
abbrev pub or_no_sector : {A : Type 0} → Bool → A → Result A AddressRefusal
or_no_sector there x = if there then Ok x else Err NoSector

-- Blocks are numbered along a track, then over the heads, then over the cylinders.
abbrev pub block_at : Place → ℕ
block_at p = (p.cylinder * 2 + p.head) * 40 + p.sector

-- A header word has the sector in its low six bits, then the head, then the cylinder.
abbrev pub header_at : Place → ℕ
header_at p = p.cylinder * 128 + p.head * 64 + p.sector

-- The place with a block number.
abbrev pub place_at_block : ℕ → Place
place_at_block b = record { cylinder = b / 80; head = b / 40 % 2; sector = b % 40 }

-- The place that the fields of a header word name.
abbrev pub place_in_header : ℕ → Place
place_in_header w = record { cylinder = w / 128; head = w / 64 % 2; sector = w % 64 }

-- The block number of a place on a pack of the kind with a number.
abbrev pub block_reply : ℕ → Place → Result ℕ AddressRefusal
block_reply n p = or_no_sector (for_kind n (λ k. on_pack k p)) (block_at p)

-- The header word of a place on a pack of the kind with a number.
abbrev pub header_reply : ℕ → Place → Result ℕ AddressRefusal
header_reply n p = or_no_sector (for_kind n (λ k. on_pack k p)) (header_at p)

-- The place of a block on a pack of the kind with a number.
abbrev pub place_of_block : ℕ → ℕ → Result Place AddressRefusal
place_of_block n b = or_no_sector (for_kind n (λ k. nat_lt b (blocks_of k))) (place_at_block b)

-- The place of a header word on a pack of the kind with a number.
abbrev pub place_of_header : ℕ → ℕ → Result Place AddressRefusal
place_of_header n w = or_no_sector (for_kind n (λ k. on_pack k (place_in_header w))) (place_in_header w)

-- One bit into a CRC: a shift right, and 0o120001 where the bit shifted out differs from the incoming one.
abbrev pub crc_step : ℕ → ℕ → ℕ
crc_step c b = if c % 2 == b then c / 2 else bit_xor (c / 2) 0o120001

-- A list of bits into a CRC, one after the other.
abbrev pub crc_over : ℕ → List ℕ → ℕ
crc_over c bits = fold crc_step c bits

-- The lowest bits of a number, bit 0 first.
unfoldable pub low_bits : ℕ → ℕ → List ℕ
low_bits zero w = []
low_bits (suc n) w = w % 2 ∷ low_bits n (w / 2)

-- The 16 bits of a word, bit 0 first.
abbrev pub word_bits : ℕ → List ℕ
word_bits w = low_bits 16 w

-- The check word of a header word: the CRC over it and a zero word, from 0.
abbrev pub check_of : ℕ → ℕ
check_of w = crc_over 0 (word_bits w ++ word_bits 0)
