-- The control and status word and its fields are inverse to one another.
use Rattle.std.proofs.Common.{◌≡◌, ℕ, zero, suc, ◌+◌, ◌*◌, ◌/◌, ◌%◌, ◌^◌, ◌<◌, Bool, true, false, cond, eqb, refl, ap, ◌∙◌, arith}
use Rattle.std.proofs.lemmas.Nat.{mod-pow-add}
use Rattle.std.proofs.lemmas.Bool.Decides.{nat_tests}
use Rattle.rl11.proofs.Packing.{flag_small, function_small}
use Rattle.rl11.specs.Registers.{function_number, function_numbered, any_error, control_word, control_fields}
use Rattle.rl11.specs.declared.registers.ControlStatus.{ControlStatus}
use Rattle.rl11.specs.declared.registers.Function.{Function}
use Rattle.rl11.specs.declared.registers.Function.TheVariants.{NoOp, WriteCheck, GetStatus, Seek, ReadHeader, WriteData, ReadData, ReadWithoutHeaderCheck}

-- A flag as a number, and back.
set_again : (b : Bool) (n : ℕ) → n ≡ cond b 1 0 → eqb n 1 ≡ b
set_again true n e = grind (arith, nat_tests)
set_again false n e = grind (arith, nat_tests)

worth_again : (n : ℕ) → n < 2 → cond (eqb n 1) 1 0 ≡ n
worth_again n p = grind (arith, nat_tests)

-- A function's number, and back.
function_again : (f : Function) (n : ℕ) → n ≡ function_number f → function_numbered n ≡ f
function_again NoOp n e = rw e
function_again WriteCheck n e = rw e
function_again GetStatus n e = rw e
function_again Seek n e = rw e
function_again ReadHeader n e = rw e
function_again WriteData n e = rw e
function_again ReadData n e = rw e
function_again ReadWithoutHeaderCheck n e = rw e

-- The fields of the word made of some fields are those fields.
pub fields_again : (c : ControlStatus) → c.extension < 4 → c.unit < 4 → control_fields (control_word c) ≡ c
fields_again c px pu =
    let function = function_small c.function in
    let f14 = set_again c.drive_error (control_word c / 2 ^ 14 % 2) (omega (arith, flag_small)) in
    let f13 = set_again c.faults.no_memory (control_word c / 2 ^ 13 % 2) (omega (arith, flag_small)) in
    let f12 = set_again c.faults.no_header (control_word c / 2 ^ 12 % 2) (omega (arith, flag_small)) in
    let f11 = set_again c.faults.check (control_word c / 2 ^ 11 % 2) (omega (arith, flag_small)) in
    let f10 = set_again c.faults.incomplete (control_word c / 2 ^ 10 % 2) (omega (arith, flag_small)) in
    let f8 : control_word c / 2 ^ 8 % 4 ≡ c.unit = omega (arith, flag_small) in
    let f7 = set_again c.ready (control_word c / 2 ^ 7 % 2) (omega (arith, flag_small)) in
    let f6 = set_again c.enable (control_word c / 2 ^ 6 % 2) (omega (arith, flag_small)) in
    let f4 : control_word c / 2 ^ 4 % 4 ≡ c.extension = omega (arith, flag_small) in
    let f1 = function_again c.function (control_word c / 2 ^ 1 % 8) (omega (arith, flag_small)) in
    let f0 = set_again c.drive_ready (control_word c / 2 ^ 0 % 2) (omega (arith, flag_small)) in
    λ i. record {
      drive_ready = f0 i;
      function = f1 i;
      extension = f4 i;
      enable = f6 i;
      ready = f7 i;
      unit = f8 i;
      faults = record { incomplete = f10 i; check = f11 i; no_header = f12 i; no_memory = f13 i };
      drive_error = f14 i;
    }

-- A function with a number below 8 has that number.
number_again : (n : ℕ) → n < 8 → function_number (function_numbered n) ≡ n
number_again zero p = refl
number_again (suc zero) p = refl
number_again (suc (suc zero)) p = refl
number_again (suc (suc (suc zero))) p = refl
number_again (suc (suc (suc (suc zero)))) p = refl
number_again (suc (suc (suc (suc (suc zero))))) p = refl
number_again (suc (suc (suc (suc (suc (suc zero)))))) p = refl
number_again (suc (suc (suc (suc (suc (suc (suc zero))))))) p = refl
number_again (suc (suc (suc (suc (suc (suc (suc (suc n)))))))) p = absurd (omega arith)

-- A word of 15 bits, field by field from above: each remainder is its highest field and the next remainder.
gathered : (m15 m14 m13 m12 m11 m10 m8 m7 m6 m4 m1 x14 x13 x12 x11 x10 x8 x7 x6 x4 x1 x0 top : ℕ)
    → m15 ≡ x14 * 16384 + m14 → m14 ≡ x13 * 8192 + m13 → m13 ≡ x12 * 4096 + m12 → m12 ≡ x11 * 2048 + m11 → m11 ≡ x10 * 1024 + m10
    → m10 ≡ x8 * 256 + m8 → m8 ≡ x7 * 128 + m7 → m7 ≡ x6 * 64 + m6 → m6 ≡ x4 * 16 + m4 → m4 ≡ x1 * 2 + m1 → m1 ≡ x0
    → top * 32768 + x14 * 16384 + x13 * 8192 + x12 * 4096 + x11 * 2048 + x10 * 1024 + x8 * 256 + x7 * 128 + x6 * 64 + x4 * 16 + x1 * 2 + x0 * 1
    ≡ top * 32768 + m15
gathered m15 m14 m13 m12 m11 m10 m8 m7 m6 m4 m1 x14 x13 x12 x11 x10 x8 x7 x6 x4 x1 x0 top e14 e13 e12 e11 e10 e8 e7 e6 e4 e1 e0 = omega arith

-- A highest field and its remainder, as the fields are read from a word.
flag_below : (w k : ℕ) → w % 2 ^ (1 + k) ≡ cond (eqb (w / 2 ^ k % 2) 1) 1 0 * 2 ^ k + w % 2 ^ k
flag_below w k = rw (worth_again (w / 2 ^ k % 2) (omega arith)) (mod-pow-add w 1 k)

pair_below : (w k : ℕ) → w % 2 ^ (2 + k) ≡ w / 2 ^ k % 4 % 4 * 2 ^ k + w % 2 ^ k
pair_below w k = let once : w / 2 ^ k % 4 % 4 ≡ w / 2 ^ k % 4 = omega arith in rw once (mod-pow-add w 2 k)

function_below : (w : ℕ) → w % 2 ^ 4 ≡ function_number (function_numbered (w / 2 ^ 1 % 8)) * 2 ^ 1 + w % 2 ^ 1
function_below w = rw (number_again (w / 2 ^ 1 % 8) (omega arith)) (mod-pow-add w 3 1)

lowest : (w : ℕ) → w % 2 ^ 1 ≡ cond (eqb (w / 2 ^ 0 % 2) 1) 1 0
lowest w = let low : w / 2 ^ 0 % 2 ≡ w % 2 = omega arith in rw (low, worth_again (w % 2) (omega arith))

-- The word made of the fields of a word is that word, but for bit 15, which the others decide.
pub word_again : (w : ℕ) → control_word (control_fields w) % 2 ^ 15 ≡ w % 2 ^ 15
word_again w =
    let whole =
    gathered _ _ _ _ _ _ _ _ _ _ _ _ _ _ _ _ _ _ _ _ _ _ (cond (any_error (control_fields w)) 1 0)
    (flag_below w 14) (flag_below w 13) (flag_below w 12) (flag_below w 11) (flag_below w 10)
    (pair_below w 8) (flag_below w 7) (flag_below w 6) (pair_below w 4) (function_below w) (lowest w)
    in
    ap (λ n. n % 2 ^ 15) whole ∙ omega arith
