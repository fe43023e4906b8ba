-- A controller without its type parameters: its state, and what its shelf and its memory mean.
use Rattle.std.specs.Prelude.{ℕ, List, Ok, Err, Option, Result, nat_lt, if◌then◌else◌}
use Rattle.std.specs.List.{list_any}
use Rattle.media.specs.Kinds.{kind_of}
use Rattle.media.specs.Memory.{Words}
use Rattle.media.specs.Shelf.{Packs}
use Rattle.media.specs.declared.kinds.Kind.{Kind}
use Rattle.rl11.specs.declared.controller.Controller.{Controller}
use Rattle.exchanges.specs.declared.refusals.MakeRefusal.{MakeRefusal}
use Rattle.exchanges.specs.declared.refusals.MakeRefusal.TheVariants.{NoSuchKind}
use Rattle.rl11.specs.declared.state.State.{State}

-- A controller, its packs and the words of its memory.
pub record Machine : Type 0 where
  pub state : State
  pub packs : Packs
  pub contents : Words

-- The machine that a controller is, by the meanings of its shelf and of its memory.
abbrev pub machine_of : {S M : Type 0} → (S → Packs) → (M → Words) → Controller S M → Machine
machine_of shelf_meaning memory_meaning c =
    record { state = c.core.state; packs = shelf_meaning c.shelf; contents = memory_meaning c.memory }

-- What a number says of a unit: 0 that it has no drive, 1 and 2 the kind of its drive; any other is refused with 1.
abbrev pub drive_kind_reply : ℕ → Result (Option Kind) MakeRefusal
drive_kind_reply n = if nat_lt 2 n then Err NoSuchKind else Ok (kind_of n)

-- Kinds are 0 for no drive, 1 and 2; a controller with another is refused with 1.
abbrev pub kinds_reply : List ℕ → Result (Unit {0}) MakeRefusal
kinds_reply ks = if list_any (nat_lt 2) ks then Err NoSuchKind else Ok tt

-- The machine with another state of its controller.
abbrev pub with_state : State → Machine → Machine
with_state s m = record { state = s; packs = m.packs; contents = m.contents }

-- The machine with other words in its memory.
abbrev pub with_contents : Words → Machine → Machine
with_contents w m = record { state = m.state; packs = m.packs; contents = w }
