-- What is wrong with a sector.
use Rattle.std.specs.Prelude.{ℕ, ◌+◌, ◌/◌, ◌%◌, Bool, false, not, ◌&&◌, ◌==◌, if◌then◌else◌}
use Rattle.media.specs.declared.marks.Mark.{Mark}

-- A mark is 1 for an unreadable header plus 2 for damaged data.
abbrev pub mark_number : Mark → ℕ
mark_number m = (if m.unreadable then 1 else 0) + (if m.damaged then 2 else 0)

-- The mark with a number, read modulo 4.
abbrev pub mark_of : ℕ → Mark
mark_of n = record { unreadable = (n % 2 == 1); damaged = (n / 2 % 2 == 1) }

-- Nothing is wrong.
abbrev pub clean : Mark
clean = record { unreadable = false; damaged = false }

-- Whether nothing is wrong.
abbrev pub is_clean : Mark → Bool
is_clean m = not m.unreadable && not m.damaged

-- The mark without damaged data.
abbrev pub mended : Mark → Mark
mended m = record { unreadable = m.unreadable; damaged = false }
