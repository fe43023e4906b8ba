-- A drive: what a press or a tick makes of it, how a seek starts, and its status word.
use Rattle.std.specs.Prelude.{ℕ, ◌+◌, ◌-◌, ◌*◌, ◌/◌, ◌^◌, min, Bool, true, false, not, ◌&&◌, ◌||◌, is_some, Some, None, Option, ◌==◌, nat_lt, if◌then◌else◌}
use Rattle.media.specs.Kinds.{cylinders_of}
use Rattle.media.specs.declared.kinds.Kind.{Kind}
use Rattle.media.specs.declared.kinds.Kind.TheVariants.{Rl01, Rl02}
use Rattle.rl11.specs.Orders.{head_number}
use Rattle.rl11.specs.Words.{worth}
use Rattle.rl11.specs.declared.drive.Drive.{Drive}
use Rattle.rl11.specs.declared.drive.DriveErrors.{DriveErrors}
use Rattle.rl11.specs.declared.drive.DriveState.{DriveState}
use Rattle.rl11.specs.declared.drive.DriveState.TheVariants.{Empty, SpinUp, Brush, LoadHeads, Seek, LockOn, UnloadHeads, SpinDown}
use Rattle.rl11.specs.declared.drive.Event.{Event}
use Rattle.rl11.specs.declared.drive.Event.TheVariants.{Load, Unload, Protect, Tick}
use Rattle.rl11.specs.declared.orders.Head.TheVariants.{Upper}
use Rattle.rl11.specs.declared.orders.SeekOrder.{SeekOrder}

-- The states are numbered from 0 to 7.
abbrev pub state_number : DriveState → ℕ
state_number Empty = 0
state_number SpinUp = 1
state_number Brush = 2
state_number LoadHeads = 3
state_number (Seek _) = 4
state_number LockOn = 5
state_number UnloadHeads = 6
state_number SpinDown = 7

-- State 0.
abbrev pub is_empty : DriveState → Bool
is_empty s = state_number s == 0

-- State 5.
abbrev pub is_locked : DriveState → Bool
is_locked s = state_number s == 5

-- States 1 to 5, in which an unload press stops the drive.
abbrev pub runs : DriveState → Bool
runs s = nat_lt 0 (state_number s) && nat_lt (state_number s) 6

-- Whether the drive exists: a missing one has kind 0.
abbrev pub is_there : Drive → Bool
is_there d = is_some d.kind

-- Whether what is in a drive, if anything, is this pack.
abbrev pub is_pack : ℕ → Option ℕ → Bool
is_pack p None = false
is_pack p (Some held) = held == p

-- Whether a pack is in the drive.
abbrev pub holds : ℕ → Drive → Bool
holds p d = is_pack p d.pack

-- No error stands.
abbrev pub no_errors : DriveErrors
no_errors = record { volume_check = false; write_gate = false; write_data = false }

-- Whether any error of a drive stands.
abbrev pub has_error : Drive → Bool
has_error d = d.errors.volume_check || (d.errors.write_gate || d.errors.write_data)

-- A drive as it is made: empty, its heads at cylinder and head 0, not protected, without errors.
abbrev pub fresh_drive : Option Kind → Drive
fresh_drive k = record { kind = k; state = Empty; pack = None; cylinder = 0; head = Upper; protected = false; errors = no_errors }

-- The drive in another state, with a pack or none in it.
abbrev pub turned : DriveState → Option ℕ → Drive → Drive
turned s p d =
    record { kind = d.kind; state = s; pack = p; cylinder = d.cylinder; head = d.head; protected = d.protected; errors = d.errors }

-- The drive in another state, with its pack.
abbrev pub in_state : DriveState → Drive → Drive
in_state s d = turned s d.pack d

-- The drive with other errors.
abbrev pub with_errors : DriveErrors → Drive → Drive
with_errors e d =
    record { kind = d.kind; state = d.state; pack = d.pack; cylinder = d.cylinder; head = d.head; protected = d.protected; errors = e }

-- The errors with volume check set.
abbrev pub volume_changed : DriveErrors → DriveErrors
volume_changed e = record { volume_check = true; write_gate = e.write_gate; write_data = e.write_data }

-- The drive as its heads load: cylinder and head become 0, and volume check is set.
abbrev pub heads_loaded : Drive → Drive
heads_loaded d =
    record { kind = d.kind; state = LoadHeads; pack = d.pack; cylinder = 0; head = Upper; protected = d.protected; errors = volume_changed d.errors }

-- The drive with its protect switch turned over.
abbrev pub switched : Drive → Drive
switched d =
    record { kind = d.kind; state = d.state; pack = d.pack; cylinder = d.cylinder; head = d.head; protected = not d.protected; errors = d.errors }

-- A tick turns spin up into brush, brush into load heads as the heads load, load heads into lock on, a seek in its last tick into lock on, unload heads into spin down, and empties a drive that spins down.
abbrev pub ticked_in : DriveState → Drive → Drive
ticked_in Empty d = d
ticked_in SpinUp d = in_state Brush d
ticked_in Brush d = heads_loaded d
ticked_in LoadHeads d = in_state LockOn d
ticked_in (Seek n) d = in_state (if nat_lt 1 n then Seek (n - 1) else LockOn) d
ticked_in LockOn d = d
ticked_in UnloadHeads d = in_state SpinDown d
ticked_in SpinDown d = turned Empty None d

-- What a press or a tick makes of a drive: a load press puts a pack into an empty one and spins it up, an unload press stops one that runs, a protect press turns the switch over.
abbrev pub after_event : Event → Drive → Drive
after_event (Load p) d = if is_empty d.state then turned SpinUp (Some p) d else d
after_event Unload d = if runs d.state then in_state UnloadHeads d else d
after_event Protect d = switched d
after_event Tick d = ticked_in d.state d

-- The drive with its errors cleared.
abbrev pub cleared : Drive → Drive
cleared d = with_errors no_errors d

-- The innermost cylinder.
abbrev pub last_cylinder : Option Kind → ℕ
last_cylinder None = 0
last_cylinder (Some k) = cylinders_of k - 1

-- Where a seek comes to rest: heads stop at cylinder 0 or the last.
abbrev pub resting_place : SeekOrder → Drive → ℕ
resting_place o d = if o.inward then min (d.cylinder + o.difference) (last_cylinder d.kind) else d.cylinder - o.difference

-- How many cylinders lie between two.
abbrev pub crossed : ℕ → ℕ → ℕ
crossed a b = (a - b) + (b - a)

-- A seek takes 24 ticks, and one for every four cylinders crossed.
abbrev pub seek_ticks : ℕ → ℕ
seek_ticks n = 24 + n / 4

-- The drive as a seek starts.
abbrev pub after_seek : SeekOrder → Drive → Drive
after_seek o d =
    record {
      kind = d.kind;
      state = Seek (seek_ticks (crossed d.cylinder (resting_place o d)));
      pack = d.pack;
      cylinder = resting_place o d;
      head = o.head;
      protected = d.protected;
      errors = d.errors;
    }

-- States 4 and 5, in which the heads are out.
abbrev pub heads_out : DriveState → Bool
heads_out s = state_number s == 4 || state_number s == 5

-- State 2.
abbrev pub is_brushing : DriveState → Bool
is_brushing s = state_number s == 2

-- Kind 2.
abbrev pub is_rl02 : Option Kind → Bool
is_rl02 None = false
is_rl02 (Some Rl01) = false
is_rl02 (Some Rl02) = true

-- The status word: the state in bits 0 to 2, bit 3 unless brushing, bit 4 with the heads out, the head in 6, 7 for an RL02, volume check in 9, write gate in 10, protect in 13, write data in 15.
abbrev pub status_word : Drive → ℕ
status_word d =
    worth 15 d.errors.write_data
    + worth 13 d.protected
    + worth 10 d.errors.write_gate
    + worth 9 d.errors.volume_check
    + worth 7 (is_rl02 d.kind)
    + head_number d.head * 2 ^ 6
    + worth 4 (heads_out d.state)
    + worth 3 (not (is_brushing d.state))
    + state_number d.state
