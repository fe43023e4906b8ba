-- The controller without its shelf and its memory: registers, drives and the angle of the packs.
use Rattle.std.specs.Prelude.{ℕ, ◌%◌, Bool, false, not, ◌&&◌, List, map, is_some, None, Ok, Err, Option, Result, nat_lt, slice_index_or, if◌then◌else◌}
use Rattle.std.specs.List.{list_any}
use Rattle.media.specs.declared.kinds.Kind.{Kind}
use Rattle.rl11.specs.Drive.{fresh_drive, is_there, holds, is_locked, has_error}
use Rattle.rl11.specs.Registers.{control_word, fresh_registers, with_disk_address, with_word_count, with_interrupt, after_address_write, after_silo_read, after_control_write}
use Rattle.rl11.specs.Words.{low_word, extension_of}
use Rattle.rl11.specs.declared.drive.Drive.{Drive}
use Rattle.exchanges.specs.declared.refusals.GrantRefusal.{GrantRefusal}
use Rattle.exchanges.specs.declared.refusals.GrantRefusal.TheVariants.{NothingWaiting}
use Rattle.rl11.specs.declared.registers.ControlStatus.{ControlStatus}
use Rattle.rl11.specs.declared.registers.Register.{Register}
use Rattle.rl11.specs.declared.registers.Register.TheVariants.{ControlStatus as CS, BusAddress, DiskAddress, Multipurpose}
use Rattle.rl11.specs.declared.registers.Registers.{Registers}
use Rattle.rl11.specs.declared.state.State.{State}

-- A fresh controller has fresh registers, fresh drives of these kinds, and angle 0.
abbrev pub fresh_state : List (Option Kind) → State
fresh_state kinds = record { registers = fresh_registers; drives = map fresh_drive kinds; angle = 0 }

-- Units are numbered from 0 to 3.
abbrev pub is_unit : ℕ → Bool
is_unit u = nat_lt u 4

-- A unit without a drive.
abbrev pub no_drive : Drive
no_drive = fresh_drive None

-- The drive of a unit; a missing one where there is no such unit.
abbrev pub drive_at : List Drive → ℕ → Drive
drive_at ds u = if is_unit u then slice_index_or ds u no_drive else no_drive

-- Whether a pack is in any of the drives.
abbrev pub is_loaded : ℕ → List Drive → Bool
is_loaded p ds = list_any (holds p) ds

-- The drive that the control and status register selects.
abbrev pub selected : State → Drive
selected s = drive_at s.drives (s.registers.command.unit % 4)

-- Whether a function is at work.
abbrev pub is_working : State → Bool
is_working s = is_some s.registers.working

-- What the control and status register shows: bits 0 and 14 are those of the drive selected now, and clear where it is missing.
abbrev pub control_status : State → ControlStatus
control_status s =
    record {
      drive_ready = is_there (selected s) && is_locked (selected s).state;
      function = s.registers.command.function;
      extension = extension_of s.registers.address;
      enable = s.registers.command.enable;
      ready = not (is_working s);
      unit = s.registers.command.unit;
      faults = s.registers.faults;
      drive_error = is_there (selected s) && has_error (selected s);
    }

-- The word that a bus read of a register answers.
abbrev pub register_word : Register → State → ℕ
register_word CS s = control_word (control_status s)
register_word BusAddress s = low_word s.registers.address
register_word DiskAddress s = s.registers.disk_address
register_word Multipurpose s = s.registers.silo.first

-- The controller with other registers.
abbrev pub with_registers : Registers → State → State
with_registers r s = record { registers = r; drives = s.drives; angle = s.angle }

-- A bus read changes nothing but the silo, at MP.
abbrev pub after_register_read : Register → State → State
after_register_read CS s = s
after_register_read BusAddress s = s
after_register_read DiskAddress s = s
after_register_read Multipurpose s = with_registers (after_silo_read s.registers) s

-- A bus write of a register; at MP it sets the word count.
abbrev pub registers_written : Register → ℕ → Registers → Registers
registers_written CS w r = after_control_write w r
registers_written BusAddress w r = after_address_write w r
registers_written DiskAddress w r = with_disk_address w r
registers_written Multipurpose w r = with_word_count w r

-- The controller after a bus write of a register.
abbrev pub after_register_write : Register → ℕ → State → State
after_register_write g w s = with_registers (registers_written g w s.registers) s

-- INIT leaves nothing but the drives and the angle.
abbrev pub after_reset : State → State
after_reset s = with_registers fresh_registers s

-- A waiting interrupt is granted with vector 0o160; 6 where none is waiting.
abbrev pub vector_reply : State → Result ℕ GrantRefusal
vector_reply s = if s.registers.interrupt then Ok 0o160 else Err NothingWaiting

-- No interrupt is waiting any more.
abbrev pub after_withdrawal : State → State
after_withdrawal s = with_registers (with_interrupt false s.registers) s
