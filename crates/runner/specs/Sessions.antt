-- What a session tells.
use Rattle.std.specs.Prelude.{◌≡◌, ℕ, List, ◌++◌, string_bytes}
use Rattle.media.specs.Memory.{Words}
use Rattle.media.specs.Shelf.{Packs}
use Rattle.rl11.specs.Machine.{Machine, machine_of}
use Rattle.runner.specs.declared.sessions.Session.{Session}

-- A session tells this text of its machine, which then is the machine after it.
pub record Tells {S M : Type 0} (packs : S → Packs) (contents : M → Words) (old new : Session S M) (text : Machine → List ℕ) (after : Machine → Machine) : Type 0 where
  pub told : string_bytes new.text ≡ string_bytes old.text ++ text (machine_of packs contents old.controller)
  pub machine : machine_of packs contents new.controller ≡ after (machine_of packs contents old.controller)

-- The machine as it was.
abbrev pub unchanged : Machine → Machine
unchanged m = m
