-- Worked figures: what the definitions give beside what is wanted.
use Rattle.std.specs.Prelude.{ℕ, zero, suc, false, List, [], ◌∷◌, ◌++◌, Some, None}
use Rattle.std.specs.Option.{unwrap_or, option_map}
use Rattle.media.specs.Figures.{number, Figure, figure_of, figures, AllHold}
use Rattle.media.specs.declared.kinds.Kind.{Kind}
use Rattle.media.specs.declared.kinds.Kind.TheVariants.{Rl01, Rl02}
use Rattle.rl11.specs.Drive.{state_number, no_errors, volume_changed, after_event, after_seek, status_word}
use Rattle.rl11.specs.Orders.{seek_order}
use Rattle.rl11.specs.State.{fresh_state, register_word}
use Rattle.rl11.specs.declared.drive.Drive.{Drive}
use Rattle.rl11.specs.declared.drive.DriveErrors.{DriveErrors}
use Rattle.rl11.specs.declared.drive.DriveState.TheVariants.{LockOn}
use Rattle.rl11.specs.declared.drive.Event.TheVariants.{Tick}
use Rattle.rl11.specs.declared.orders.Head.TheVariants.{Upper}
use Rattle.rl11.specs.declared.registers.Register.TheVariants.{ControlStatus}

-- A drive of a kind that has locked on with pack 0 at a cylinder, under head 0.
abbrev pub locked : Kind → ℕ → DriveErrors → Drive
locked k c e = record { kind = Some k; state = LockOn; pack = Some 0; cylinder = c; head = Upper; protected = false; errors = e }

-- A drive after so many ticks.
abbrev pub after_ticks : ℕ → Drive → Drive
after_ticks zero d = d
after_ticks (suc n) d = after_event Tick (after_ticks n d)

-- A drive after the seek that a disk address orders, if it orders one.
abbrev pub sought : ℕ → Drive → Drive
sought w d = unwrap_or (option_map (λ o. after_seek o d) (seek_order w)) d

-- An RL01 drive at cylinder 250, told to seek inward by 10 under head 0.
abbrev pub seeking : Drive
seeking = sought 0o2405 (locked Rl01 250 no_errors)

-- The worked figures, those of addresses first: two status words, a seek that rests at the last cylinder after 25 ticks, and a fresh control and status register.
abbrev pub controller_figures : List Figure
controller_figures =
    figures
    ++ (
    figure_of (number (status_word (locked Rl01 0 (volume_changed no_errors)))) (number 0o1035)
    ∷ figure_of (number (status_word (locked Rl02 0 no_errors))) (number 0o235)
    ∷ figure_of (number seeking.cylinder) (number 255)
    ∷ figure_of (number (state_number (after_ticks 24 seeking).state)) (number 4)
    ∷ figure_of (number (state_number (after_ticks 25 seeking).state)) (number 5)
    ∷ figure_of (number (register_word ControlStatus (fresh_state (None ∷ None ∷ None ∷ None ∷ [])))) (number 0o200)
    ∷ []
    )

-- Each worked figure is as wanted.
abbrev pub ControllerFiguresHold : Type 0
ControllerFiguresHold = AllHold controller_figures
