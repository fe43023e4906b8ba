-- The memory that a slice of words makes.
use Rattle.std.specs.Prelude.{ℕ, ◌/◌, List, is_ok, slice_set, if◌then◌else◌}
use Rattle.std.specs.List.{slice_get}
use Rattle.media.specs.Memory.{Words, at_places, write_reply}

-- The word at an even address below the limit is the one at half that address in the slice.
abbrev pub board_contents : List ℕ → Words
board_contents ws = at_places (λ a. slice_get ws (a / 2))

-- The slice after a write: one word of it is changed where the write is accepted, none where it is refused.
abbrev pub board_after_write : List ℕ → ℕ → ℕ → List ℕ
board_after_write ws a w = if is_ok (write_reply (board_contents ws) a) then slice_set ws (a / 2) w else ws
