-- What the disk address register orders.
use Rattle.std.specs.Prelude.{ℕ, ◌/◌, ◌%◌, ◌^◌, Bool, not, ◌&&◌, Some, None, Option, ◌==◌, if◌then◌else◌}
use Rattle.rl11.specs.Words.{bit_of}
use Rattle.rl11.specs.declared.orders.Head.{Head}
use Rattle.rl11.specs.declared.orders.Head.TheVariants.{Upper, Lower}
use Rattle.rl11.specs.declared.orders.SeekOrder.{SeekOrder}
use Rattle.rl11.specs.declared.orders.StatusOrder.{StatusOrder}
use Rattle.rl11.specs.declared.orders.StatusOrder.TheVariants.{Tell, ClearAndTell}

-- The head with a number's low bit.
abbrev pub head_for : Bool → Head
head_for lower = if lower then Lower else Upper

-- Head 0 is the upper one, head 1 the lower one.
abbrev pub head_number : Head → ℕ
head_number Upper = 0
head_number Lower = 1

-- A seek has bit 0 set and bits 1, 3, 5 and 6 clear.
abbrev pub is_seek : ℕ → Bool
is_seek w = bit_of 0 w && (not (bit_of 1 w) && (not (bit_of 3 w) && (not (bit_of 5 w) && not (bit_of 6 w))))

-- Bit 2 means inward, bit 4 is the head, bits 7 to 15 the difference.
abbrev pub seek_order : ℕ → Option SeekOrder
seek_order w = if is_seek w then Some (record { inward = bit_of 2 w; head = head_for (bit_of 4 w); difference = w / 2 ^ 7 }) else None

-- A low byte of 3 asks for the status, one of 0o13 has the errors cleared before.
abbrev pub status_order : ℕ → Option StatusOrder
status_order w = if w % 2 ^ 8 == 0o3 then Some Tell else if w % 2 ^ 8 == 0o13 then Some ClearAndTell else None
