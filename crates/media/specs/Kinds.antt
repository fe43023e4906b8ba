-- The two kinds of pack and their sizes.
use Rattle.std.specs.Prelude.{ℕ, ◌*◌, Some, None, Option, Result, ◌==◌, if◌then◌else◌}
use Rattle.std.specs.Option.{ok_or}
use Rattle.media.specs.declared.kinds.Kind.{Kind}
use Rattle.media.specs.declared.kinds.Kind.TheVariants.{Rl01, Rl02}
use Rattle.media.specs.declared.kinds.UnknownKind.{UnknownKind}

-- Kind 1 is an RL01, kind 2 an RL02.
abbrev pub kind_number : Kind → ℕ
kind_number Rl01 = 1
kind_number Rl02 = 2

-- The kind with a number; no other number is a kind.
abbrev pub kind_of : ℕ → Option Kind
kind_of n = if n == 1 then Some Rl01 else if n == 2 then Some Rl02 else None

-- The kind with a number, or that number where it is no kind's.
abbrev pub kind_numbered : ℕ → Result Kind UnknownKind
kind_numbered n = ok_or (kind_of n) (record { 0 = n })

-- An RL01 pack has 256 cylinders, an RL02 pack 512.
abbrev pub cylinders_of : Kind → ℕ
cylinders_of Rl01 = 256
cylinders_of Rl02 = 512

-- A cylinder has 2 tracks of 40 sectors.
abbrev pub blocks_of : Kind → ℕ
blocks_of k = cylinders_of k * 80
