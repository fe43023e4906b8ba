-- Presses on the panels.
use Rattle.std.specs.Prelude.{ℕ, Bool, false, not, List, is_some, Some, None, Ok, Err, Option, Result, ◌==◌, slice_index_or, slice_set, if◌then◌else◌}
use Rattle.std.specs.List.{slice_get}
use Rattle.media.specs.Kinds.{kind_number}
use Rattle.media.specs.declared.kinds.Kind.{Kind}
use Rattle.rl11.specs.Drive.{is_there, is_empty, runs, after_event}
use Rattle.rl11.specs.Machine.{Machine, with_state}
use Rattle.rl11.specs.State.{is_unit, no_drive, drive_at, is_loaded}
use Rattle.rl11.specs.declared.drive.Drive.{Drive}
use Rattle.rl11.specs.declared.drive.Event.{Event}
use Rattle.rl11.specs.declared.drive.Event.TheVariants.{Load, Unload, Protect}
use Rattle.exchanges.specs.declared.refusals.PanelRefusal.{PanelRefusal}
use Rattle.exchanges.specs.declared.refusals.PanelRefusal.TheVariants.{NoDrive, NotEmpty, NoPack, OtherKind, InAnotherDrive, NotRunning}
use Rattle.rl11.specs.declared.state.State.{State}

-- Whether two kinds, if both are there, are the same.
abbrev pub same_kind : Option Kind → Option Kind → Bool
same_kind None k = false
same_kind (Some j) None = false
same_kind (Some j) (Some k) = kind_number j == kind_number k

-- Whether a load press is accepted, with a pack of the offered kind or with none: 7 where there is no such drive, 8 where it is not empty, 9 where there is no such pack, 10 where it is of another kind, 11 where it is in another drive.
abbrev pub load_check : ℕ → ℕ → Option Kind → List Drive → Result (Unit {0}) PanelRefusal
load_check u p offered ds =
    if not (is_there (drive_at ds u)) then Err NoDrive
    else if not (is_empty (drive_at ds u).state) then Err NotEmpty
    else if not (is_some offered) then Err NoPack
    else if not (same_kind offered (drive_at ds u).kind) then Err OtherKind
    else if is_loaded p ds then Err InAnotherDrive
    else Ok tt

-- Whether an unload press is accepted: 7 where there is no such drive, 12 where it does not run.
abbrev pub unload_check : ℕ → List Drive → Result (Unit {0}) PanelRefusal
unload_check u ds = if not (is_there (drive_at ds u)) then Err NoDrive else if runs (drive_at ds u).state then Ok tt else Err NotRunning

-- Whether a protect press is accepted: 7 where there is no such drive.
abbrev pub protect_check : ℕ → List Drive → Result (Unit {0}) PanelRefusal
protect_check u ds = if is_there (drive_at ds u) then Ok tt else Err NoDrive

-- The controller with other drives.
abbrev pub with_drives : List Drive → State → State
with_drives ds s = record { registers = s.registers; drives = ds; angle = s.angle }

-- What happens to a unit's drive leaves the others.
abbrev pub after_event_at : ℕ → Event → State → State
after_event_at u e s = if is_unit u then with_drives (slice_set s.drives u (after_event e (slice_index_or s.drives u no_drive))) s else s

-- An accepted press happens to its drive; a refused one changes nothing.
abbrev pub pressed : Result (Unit {0}) PanelRefusal → ℕ → Event → State → State
pressed (Ok _) u e s = after_event_at u e s
pressed (Err _) u e s = s

-- What a load press answers: the shelf has the kind of the pack, if it has such a pack.
abbrev pub load_reply : ℕ → ℕ → Machine → Result (Unit {0}) PanelRefusal
load_reply u p m = load_check u p (slice_get m.packs.kinds p) m.state.drives

-- The machine after a load press.
abbrev pub after_load : ℕ → ℕ → Machine → Machine
after_load u p m = with_state (pressed (load_reply u p m) u (Load p) m.state) m

-- What an unload press answers.
abbrev pub unload_reply : ℕ → Machine → Result (Unit {0}) PanelRefusal
unload_reply u m = unload_check u m.state.drives

-- The machine after an unload press.
abbrev pub after_unload : ℕ → Machine → Machine
after_unload u m = with_state (pressed (unload_reply u m) u Unload m.state) m

-- What a protect press answers.
abbrev pub protect_reply : ℕ → Machine → Result (Unit {0}) PanelRefusal
protect_reply u m = protect_check u m.state.drives

-- The machine after a protect press.
abbrev pub after_protect : ℕ → Machine → Machine
after_protect u m = with_state (pressed (protect_reply u m) u Protect m.state) m
