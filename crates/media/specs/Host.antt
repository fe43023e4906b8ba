-- What the calls from C answer, on plain numbers.
use Rattle.std.specs.Prelude.{ℕ, ◌+◌, Ok, Err, Result, nat_lt}
use Rattle.media.specs.declared.address.AddressRefusal.{AddressRefusal}
use Rattle.media.specs.Address.{address_refusal_number, or_no_sector, place_given, block_reply, header_reply, check_of}

-- A result is told as it is, and a refusal as 65,536 plus its number.
abbrev pub host_number : Result ℕ AddressRefusal → ℕ
host_number (Ok n) = n
host_number (Err e) = 65536 + address_refusal_number e

-- The check word of a header word, which has 16 bits.
abbrev pub check_reply : ℕ → Result ℕ AddressRefusal
check_reply w = or_no_sector (nat_lt w 65536) (check_of w)

-- The block number of a place, kind first.
abbrev pub host_block : ℕ → ℕ → ℕ → ℕ → ℕ
host_block n c h s = host_number (block_reply n (place_given c h s))

-- The header word of a place, kind first.
abbrev pub host_header : ℕ → ℕ → ℕ → ℕ → ℕ
host_header n c h s = host_number (header_reply n (place_given c h s))

-- The check word of a header word.
abbrev pub host_check : ℕ → ℕ
host_check w = host_number (check_reply w)
