-- The registers, and the words that the bus reads and writes there.
use Rattle.std.specs.Prelude.{◌≡◌, ℕ, ◌<◌, ◌+◌, ◌*◌, ◌/◌, ◌%◌, ◌^◌, Bool, false, not, ◌&&◌, ◌||◌, Some, None, Option, ◌==◌, if◌then◌else◌}
use Rattle.rl11.specs.Words.{bit_of, worth, with_low_word, with_extension}
use Rattle.rl11.specs.declared.registers.ControlStatus.{ControlStatus}
use Rattle.rl11.specs.declared.registers.Faults.{Faults}
use Rattle.rl11.specs.declared.registers.Function.{Function}
use Rattle.rl11.specs.declared.registers.Function.TheVariants.{NoOp, WriteCheck, GetStatus, Seek, ReadHeader, WriteData, ReadData, ReadWithoutHeaderCheck}
use Rattle.rl11.specs.declared.registers.Registers.{Registers}
use Rattle.rl11.specs.declared.registers.Silo.{Silo}
use Rattle.rl11.specs.declared.registers.Register.{Register}
use Rattle.rl11.specs.declared.registers.Register.TheVariants.{ControlStatus as CS, BusAddress, DiskAddress, Multipurpose}

-- The four registers lie at 0o774400, 0o774402, 0o774404 and 0o774406.
abbrev pub register_at : ℕ → Option Register
register_at a =
    if a == 0o774400 then Some CS
    else if a == 0o774402 then Some BusAddress
    else if a == 0o774404 then Some DiskAddress
    else if a == 0o774406 then Some Multipurpose
    else None

-- The functions are numbered from 0 to 7.
abbrev pub function_number : Function → ℕ
function_number NoOp = 0
function_number WriteCheck = 1
function_number GetStatus = 2
function_number Seek = 3
function_number ReadHeader = 4
function_number WriteData = 5
function_number ReadData = 6
function_number ReadWithoutHeaderCheck = 7

-- The function with a number below 8.
abbrev pub function_numbered : ℕ → Function
function_numbered n =
    if n == 0 then NoOp
    else if n == 1 then WriteCheck
    else if n == 2 then GetStatus
    else if n == 3 then Seek
    else if n == 4 then ReadHeader
    else if n == 5 then WriteData
    else if n == 6 then ReadData
    else ReadWithoutHeaderCheck

-- Whether anything went wrong, in the controller or in the drive: any of bits 10 to 14.
abbrev pub any_error : ControlStatus → Bool
any_error c =
    c.faults.incomplete || (c.faults.check || (c.faults.no_header || (c.faults.no_memory || c.drive_error)))

-- CS: bit 0 where the drive has locked on, the function in 1 to 3, address bits 16 and 17 in 4 and 5, interrupt enable in 6, ready in 7, the unit in 8 and 9, incomplete in 10, check in 11, header not found in 12, no memory in 13, an error of the drive in 14, any of 10 to 14 in 15.
abbrev pub control_word : ControlStatus → ℕ
control_word c =
    worth 15 (any_error c)
    + worth 14 c.drive_error
    + worth 13 c.faults.no_memory
    + worth 12 c.faults.no_header
    + worth 11 c.faults.check
    + worth 10 c.faults.incomplete
    + c.unit % 4 * 2 ^ 8
    + worth 7 c.ready
    + worth 6 c.enable
    + c.extension % 4 * 2 ^ 4
    + function_number c.function * 2 ^ 1
    + worth 0 c.drive_ready

-- The fields of a word, each at its bits.
abbrev pub control_fields : ℕ → ControlStatus
control_fields w =
    record {
      drive_ready = bit_of 0 w;
      function = function_numbered (w / 2 ^ 1 % 8);
      extension = w / 2 ^ 4 % 4;
      enable = bit_of 6 w;
      ready = bit_of 7 w;
      unit = w / 2 ^ 8 % 4;
      faults = record { incomplete = bit_of 10 w; check = bit_of 11 w; no_header = bit_of 12 w; no_memory = bit_of 13 w };
      drive_error = bit_of 14 w;
    }

-- The word has these fields at their bits, and shows them again if unit and extension have two bits.
pub record IsControlWord (c : ControlStatus) (w : ℕ) : Type 0 where
  pub packed : w ≡ control_word c
  pub back : c.extension < 4 → c.unit < 4 → control_fields w ≡ c

-- These are the fields of the word, and make it again but for bit 15, which the others decide.
pub record HasControlFields (w : ℕ) (c : ControlStatus) : Type 0 where
  pub fields : c ≡ control_fields w
  pub back : control_word c % 2 ^ 15 ≡ w % 2 ^ 15

-- Nothing went wrong.
abbrev pub no_faults : Faults
no_faults = record { incomplete = false; check = false; no_header = false; no_memory = false }

-- A fresh controller is ready, and all else is zero.
abbrev pub fresh_registers : Registers
fresh_registers =
    record {
      command = record { function = NoOp; unit = 0; enable = false };
      faults = no_faults;
      address = 0;
      disk_address = 0;
      word_count = 0;
      silo = record { first = 0; second = 0; third = 0 };
      working = None;
      interrupt = false;
    }

-- The registers with another bus address.
abbrev pub with_address : ℕ → Registers → Registers
with_address a r =
    record {
      command = r.command;
      faults = r.faults;
      address = a;
      disk_address = r.disk_address;
      word_count = r.word_count;
      silo = r.silo;
      working = r.working;
      interrupt = r.interrupt;
    }

-- The registers with another disk address.
abbrev pub with_disk_address : ℕ → Registers → Registers
with_disk_address w r =
    record {
      command = r.command;
      faults = r.faults;
      address = r.address;
      disk_address = w;
      word_count = r.word_count;
      silo = r.silo;
      working = r.working;
      interrupt = r.interrupt;
    }

-- The registers with another word count.
abbrev pub with_word_count : ℕ → Registers → Registers
with_word_count w r =
    record {
      command = r.command;
      faults = r.faults;
      address = r.address;
      disk_address = r.disk_address;
      word_count = w;
      silo = r.silo;
      working = r.working;
      interrupt = r.interrupt;
    }

-- The registers with another silo.
abbrev pub with_silo : Silo → Registers → Registers
with_silo s r =
    record {
      command = r.command;
      faults = r.faults;
      address = r.address;
      disk_address = r.disk_address;
      word_count = r.word_count;
      silo = s;
      working = r.working;
      interrupt = r.interrupt;
    }

-- The registers with an interrupt waiting or not.
abbrev pub with_interrupt : Bool → Registers → Registers
with_interrupt b r =
    record {
      command = r.command;
      faults = r.faults;
      address = r.address;
      disk_address = r.disk_address;
      word_count = r.word_count;
      silo = r.silo;
      working = r.working;
      interrupt = b;
    }

-- A write at BA sets the low bits of the bus address, bit 0 clear, and leaves bits 16 and 17.
abbrev pub after_address_write : ℕ → Registers → Registers
after_address_write w r = with_address (with_low_word r.address w) r

-- A read at MP moves the words of the silo up, the last repeated.
abbrev pub after_silo_read : Registers → Registers
after_silo_read r = with_silo (record { first = r.silo.second; second = r.silo.third; third = r.silo.third }) r

-- Whether an interrupt waits after a write at CS: one with interrupt enable clear withdraws it, one with interrupt enable and ready set makes it fall due if interrupt enable was clear before.
abbrev pub interrupt_after : ControlStatus → Registers → Bool
interrupt_after c r = c.enable && (r.interrupt || (c.ready && not r.command.enable))

-- A write at CS sets bits 1 to 6, 8 and 9; with bit 7 clear it clears bits 7 and 10 to 13 and begins the function, in which no tick has passed.
abbrev pub control_set : ControlStatus → Registers → Registers
control_set c r =
    record {
      command = record { function = c.function; unit = c.unit; enable = c.enable };
      faults = if c.ready then r.faults else no_faults;
      address = with_extension r.address c.extension;
      disk_address = r.disk_address;
      word_count = r.word_count;
      silo = r.silo;
      working = if c.ready then r.working else Some 0;
      interrupt = interrupt_after c r;
    }

-- A write of a word at CS.
abbrev pub after_control_write : ℕ → Registers → Registers
after_control_write w r = control_set (control_fields w) r
