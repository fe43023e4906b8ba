-- The bus side of a controller: reads and writes, INIT, and interrupt grants.
use Rattle.std.specs.Prelude.{ℕ, ◌%◌, ◌^◌, Some, None, Ok, Err, Option, Result, ◌==◌, nat_lt, if◌then◌else◌}
use Rattle.std.specs.Option.{ok_or, option_map}
use Rattle.media.specs.Memory.{after_write}
use Rattle.rl11.specs.Machine.{Machine, with_state, with_contents}
use Rattle.rl11.specs.Registers.{register_at}
use Rattle.rl11.specs.State.{is_working, register_word, after_register_read, after_register_write, after_reset, vector_reply, after_withdrawal}
use Rattle.exchanges.specs.declared.refusals.BusRefusal.{BusRefusal}
use Rattle.exchanges.specs.declared.refusals.BusRefusal.TheVariants.{BeyondBus, OddAddress, NothingThere, Working}
use Rattle.exchanges.specs.declared.refusals.GrantRefusal.{GrantRefusal}
use Rattle.rl11.specs.declared.registers.Register.{Register}

-- An address of more than 18 bits is refused with 2, an odd one with 3.
abbrev pub address_reply : ℕ → Result (Unit {0}) BusRefusal
address_reply a = if nat_lt a (2 ^ 18) then (if a % 2 == 1 then Err OddAddress else Ok tt) else Err BeyondBus

-- What an address answers, if the bus has it.
abbrev pub if_on_bus : {A : Type 0} → ℕ → Result A BusRefusal → Result A BusRefusal
if_on_bus a reply = elim (address_reply a) [ Ok _ ↦ reply | Err e ↦ Err e ]

-- A read of a register answers its word; elsewhere memory answers, or 4 where it has no word.
abbrev pub word_there : Option Register → ℕ → Machine → Result ℕ BusRefusal
word_there (Some g) a m = Ok (register_word g m.state)
word_there None a m = ok_or (m.contents a) NothingThere

-- What a bus read answers.
abbrev pub bus_read_reply : ℕ → Machine → Result ℕ BusRefusal
bus_read_reply a m = if_on_bus a (word_there (register_at a) a m)

-- A bus read changes a register at most.
abbrev pub after_bus_read : ℕ → Machine → Machine
after_bus_read a m = elim (register_at a) [ Some g ↦ with_state (after_register_read g m.state) m | None ↦ m ]

-- A write of a register is refused with 5 while a function works; elsewhere a write is refused with 4 where memory has no word.
abbrev pub taken_there : Option Register → ℕ → Machine → Result (Unit {0}) BusRefusal
taken_there (Some g) a m = if is_working m.state then Err Working else Ok tt
taken_there None a m = ok_or (option_map (λ _. tt) (m.contents a)) NothingThere

-- What a bus write answers.
abbrev pub bus_write_reply : ℕ → Machine → Result (Unit {0}) BusRefusal
bus_write_reply a m = if_on_bus a (taken_there (register_at a) a m)

-- A write puts a word into a register or into memory.
abbrev pub word_put : Option Register → ℕ → ℕ → Machine → Machine
word_put (Some g) a w m = with_state (after_register_write g w m.state) m
word_put None a w m = with_contents (after_write m.contents a w) m

-- A refused bus write changes nothing.
abbrev pub after_bus_write : ℕ → ℕ → Machine → Machine
after_bus_write a w m = elim (bus_write_reply a m) [ Ok _ ↦ word_put (register_at a) a w m | Err _ ↦ m ]

-- INIT leaves nothing but units, angle, packs and memory.
abbrev pub after_init : Machine → Machine
after_init m = with_state (after_reset m.state) m

-- What a grant answers.
abbrev pub grant_reply : Machine → Result ℕ GrantRefusal
grant_reply m = vector_reply m.state

-- After a grant no interrupt is waiting.
abbrev pub after_grant : Machine → Machine
after_grant m = with_state (after_withdrawal m.state) m
