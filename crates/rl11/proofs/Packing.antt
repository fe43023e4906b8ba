-- The fields of a word, packed by shifts and `|`.
use Rattle.std.proofs.Common.{◌≡◌, ℕ, ◌+◌, ◌*◌, ◌/◌, ◌%◌, ◌^◌, ◌<◌, Bool, true, false, if◌then◌else◌, sym, refl, ap, ◌∙◌, arith}
use lib.Bits.{bit_or}
use mir.Val.{bool_byte}
use Rattle.std.proofs.lemmas.Nat.{or_shifted, shr_split, pow_pos}
use Rattle.std.proofs.lemmas.Grind.{pow_more}
use Rattle.rl11.specs.Drive.{state_number}
use Rattle.rl11.specs.Orders.{head_number}
use Rattle.rl11.specs.Registers.{function_number}
use Rattle.rl11.specs.Words.{worth}
use Rattle.rl11.specs.declared.drive.DriveState.{DriveState}
use Rattle.rl11.specs.declared.drive.DriveState.TheVariants.{Empty, SpinUp, Brush, LoadHeads, Seek as Seeking, LockOn, UnloadHeads, SpinDown}
use Rattle.rl11.specs.declared.orders.Head.{Head}
use Rattle.rl11.specs.declared.orders.Head.TheVariants.{Upper, Lower}
use Rattle.rl11.specs.declared.registers.Function.{Function}
use Rattle.rl11.specs.declared.registers.Function.TheVariants.{NoOp, WriteCheck, GetStatus, Seek, ReadHeader, WriteData, ReadData, ReadWithoutHeaderCheck}

-- One field more, below all that is packed so far.
pub with_field : {w sum : ℕ} (k field : ℕ) → w ≡ sum → sum % 2 ^ k ≡ 0 → field < 2 ^ k → bit_or w field ≡ sum + field
with_field {w = w} {sum = sum} k field e clear small =
    let whole : sum ≡ sum / 2 ^ k * 2 ^ k = omega (arith, shr_split sum k) in
    ap (λ n. bit_or n field) (e ∙ whole) ∙ or_shifted (sum / 2 ^ k) k field small ∙ ap (λ n. n + field) (sym whole)

-- One field more, shifted to its place.
pub with_shifted : {w sum : ℕ} (j k field : ℕ) → w ≡ sum → sum % 2 ^ j ≡ 0 → field * 2 ^ k < 2 ^ j → 2 ^ j < 65537
    → bit_or w (field * 2 ^ k % 65536) ≡ sum + field * 2 ^ k
with_shifted j k field e clear small fits =
    let whole : field * 2 ^ k % 65536 ≡ field * 2 ^ k = omega arith in
    rw whole (with_field j (field * 2 ^ k) e clear small)

-- A flag as a number has one bit.
pub flag_small : (b : Bool) → (if b then 1 else 0) < 2
flag_small true = omega arith
flag_small false = omega arith

-- A flag at its bit.
pub first_flag : (k : ℕ) (b : Bool) → 2 ^ k < 65536 → bool_byte b * 2 ^ k % 65536 ≡ worth k b
first_flag k true fits = omega arith
first_flag k false fits = omega arith

-- A flag at the lowest bit.
pub lowest_flag : (b : Bool) → bool_byte b ≡ worth 0 b
lowest_flag true = refl
lowest_flag false = refl

-- One flag more, below all that is packed so far.
pub with_flag : {w sum : ℕ} (k : ℕ) (b : Bool) → w ≡ sum → sum % 2 ^ (k + 1) ≡ 0 → 2 ^ k < 65536
    → bit_or w (bool_byte b * 2 ^ k % 65536) ≡ sum + worth k b
with_flag k b e clear fits = rw (first_flag k b fits) (with_field (k + 1) (worth k b) e clear (below b))
  where
    below : (b : Bool) → worth k b < 2 ^ (k + 1)
    below true = omega (arith, pow_more 2 k, pow_pos k)
    below false = omega (arith, pow_pos (k + 1))

-- A head's number has one bit, a state's three.
pub head_small : (h : Head) → head_number h < 2
head_small Upper = omega arith
head_small Lower = omega arith

pub state_small : (s : DriveState) → state_number s < 8
state_small Empty = omega arith
state_small SpinUp = omega arith
state_small Brush = omega arith
state_small LoadHeads = omega arith
state_small (Seeking n) = omega arith
state_small LockOn = omega arith
state_small UnloadHeads = omega arith
state_small SpinDown = omega arith

-- A function's number has three bits.
pub function_small : (f : Function) → function_number f < 8
function_small NoOp = omega arith
function_small WriteCheck = omega arith
function_small GetStatus = omega arith
function_small Seek = omega arith
function_small ReadHeader = omega arith
function_small WriteData = omega arith
function_small ReadData = omega arith
function_small ReadWithoutHeaderCheck = omega arith
