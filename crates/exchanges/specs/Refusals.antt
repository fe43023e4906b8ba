-- The numbers of the refusals.
use Rattle.std.specs.Prelude.{ℕ}
use Rattle.exchanges.specs.declared.refusals.MakeRefusal.{MakeRefusal}
use Rattle.exchanges.specs.declared.refusals.MakeRefusal.TheVariants.{NoSuchKind}
use Rattle.exchanges.specs.declared.refusals.BusRefusal.{BusRefusal}
use Rattle.exchanges.specs.declared.refusals.BusRefusal.TheVariants.{BeyondBus, OddAddress, NothingThere, Working}
use Rattle.exchanges.specs.declared.refusals.GrantRefusal.{GrantRefusal}
use Rattle.exchanges.specs.declared.refusals.GrantRefusal.TheVariants.{NothingWaiting}
use Rattle.exchanges.specs.declared.refusals.PanelRefusal.{PanelRefusal}
use Rattle.exchanges.specs.declared.refusals.PanelRefusal.TheVariants.{NoDrive, NotEmpty, NoPack, OtherKind, InAnotherDrive, NotRunning}
use Rattle.exchanges.specs.declared.refusals.Refusal.{Refusal}
use Rattle.exchanges.specs.declared.refusals.Refusal.TheVariants.{Bus, Grant, Panel}

-- A kind above 2 as a controller is made is 1.
abbrev pub make_refusal_number : MakeRefusal → ℕ
make_refusal_number NoSuchKind = 1

-- On the bus, an address of more than 18 bits is 2, an odd one 3, one with nothing there 4, a register write while a function works 5.
abbrev pub bus_refusal_number : BusRefusal → ℕ
bus_refusal_number BeyondBus = 2
bus_refusal_number OddAddress = 3
bus_refusal_number NothingThere = 4
bus_refusal_number Working = 5

-- A grant with nothing waiting is 6.
abbrev pub grant_refusal_number : GrantRefusal → ℕ
grant_refusal_number NothingWaiting = 6

-- On a panel, no such drive is 7, a drive that is not empty 8, no such pack 9, one of another kind 10, one in another drive 11, and unload of a drive that does not run 12.
abbrev pub panel_refusal_number : PanelRefusal → ℕ
panel_refusal_number NoDrive = 7
panel_refusal_number NotEmpty = 8
panel_refusal_number NoPack = 9
panel_refusal_number OtherKind = 10
panel_refusal_number InAnotherDrive = 11
panel_refusal_number NotRunning = 12

-- A refusal of any call keeps its number.
abbrev pub refusal_number : Refusal → ℕ
refusal_number (Bus r) = bus_refusal_number r
refusal_number (Grant r) = grant_refusal_number r
refusal_number (Panel r) = panel_refusal_number r
