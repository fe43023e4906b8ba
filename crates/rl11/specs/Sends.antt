-- What any call answers, and what it leaves.
use Rattle.std.specs.Prelude.{ℕ, Ok, Err, Result}
use Rattle.rl11.specs.Bus.{bus_read_reply, after_bus_read, bus_write_reply, after_bus_write, after_init, grant_reply, after_grant}
use Rattle.rl11.specs.Machine.{Machine}
use Rattle.rl11.specs.Panel.{load_reply, after_load, unload_reply, after_unload, protect_reply, after_protect}
use Rattle.exchanges.specs.Calls.{Answer}
use Rattle.exchanges.specs.declared.calls.Call.{Call}
use Rattle.exchanges.specs.declared.calls.Call.TheVariants.{Read, Write, Init, Grant as GrantCall, Load, Unload, Protect}
use Rattle.exchanges.specs.declared.calls.Reply.TheVariants.{Word, Done, Vector}
use Rattle.exchanges.specs.declared.refusals.BusRefusal.{BusRefusal}
use Rattle.exchanges.specs.declared.refusals.GrantRefusal.{GrantRefusal}
use Rattle.exchanges.specs.declared.refusals.PanelRefusal.{PanelRefusal}
use Rattle.exchanges.specs.declared.refusals.Refusal.TheVariants.{Bus, Grant, Panel}

-- The answer to a bus read.
abbrev pub read_answer : Result ℕ BusRefusal → Answer
read_answer (Ok w) = Ok (Word w)
read_answer (Err e) = Err (Bus e)

-- The answer to a bus write.
abbrev pub write_answer : Result (Unit {0}) BusRefusal → Answer
write_answer (Ok _) = Ok Done
write_answer (Err e) = Err (Bus e)

-- The answer to a grant.
abbrev pub grant_answer : Result ℕ GrantRefusal → Answer
grant_answer (Ok v) = Ok (Vector v)
grant_answer (Err e) = Err (Grant e)

-- The answer to a press.
abbrev pub press_answer : Result (Unit {0}) PanelRefusal → Answer
press_answer (Ok _) = Ok Done
press_answer (Err e) = Err (Panel e)

-- The answer to any call.
abbrev pub answer_to : Call → Machine → Answer
answer_to (Read a) m = read_answer (bus_read_reply a m)
answer_to (Write a w) m = write_answer (bus_write_reply a m)
answer_to Init m = Ok Done
answer_to GrantCall m = grant_answer (grant_reply m)
answer_to (Load u p) m = press_answer (load_reply u p m)
answer_to (Unload u) m = press_answer (unload_reply u m)
answer_to (Protect u) m = press_answer (protect_reply u m)

-- The machine after any call.
abbrev pub after_call : Call → Machine → Machine
after_call (Read a) m = after_bus_read a m
after_call (Write a w) m = after_bus_write a w m
after_call Init m = after_init m
after_call GrantCall m = after_grant m
after_call (Load u p) m = after_load u p m
after_call (Unload u) m = after_unload u m
after_call (Protect u) m = after_protect u m
