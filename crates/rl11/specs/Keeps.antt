-- What the drives always keep.
use Rattle.std.specs.Prelude.{ℕ, Bool, true, not, ◌&&◌, List, [], ◌∷◌, is_some, Some, None, Option, if◌then◌else◌}
use Rattle.std.specs.List.{list_all}
use Rattle.rl11.specs.Drive.{is_empty}
use Rattle.rl11.specs.State.{is_loaded}
use Rattle.rl11.specs.declared.drive.Drive.{Drive}

-- A drive has a pack exactly outside state 0.
abbrev pub is_coupled : Drive → Bool
is_coupled d = if is_empty d.state then not (is_some d.pack) else is_some d.pack

-- Every drive has a pack exactly outside state 0.
abbrev pub all_coupled : List Drive → Bool
all_coupled ds = list_all is_coupled ds

-- Whether the pack of a drive, if it has one, is in none of the others.
abbrev pub is_alone : Option ℕ → List Drive → Bool
is_alone None ds = true
is_alone (Some p) ds = not (is_loaded p ds)

-- No two drives have the same pack.
abbrev pub packs_apart : List Drive → Bool
packs_apart [] = true
packs_apart (d ∷ ds) = is_alone d.pack ds && packs_apart ds
