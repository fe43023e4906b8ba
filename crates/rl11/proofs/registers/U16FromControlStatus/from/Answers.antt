use Rattle.std.proofs.Common.{◌%◌, ◌∙◌, ap, arith}
use Rattle.std.proofs.lemmas.Nat.{and_mask}
use Rattle.rl11.proofs.ControlWords.{fields_again}
use Rattle.rl11.proofs.Packing.{first_flag, lowest_flag, flag_small, with_flag, with_shifted, with_field, function_small}
use Rattle.rl11.proofs.registers.U16FromControlStatus.from.Goals as goal
use Rattle.rl11.specs.Registers.{any_error, control_fields, function_number}
use Rattle.rl11.specs.Words.{worth}

pub returns : goal.returns
returns c =
    let fields = c.args.fields in
    let function = function_small fields.function in
    let e15 = first_flag 15 (any_error fields) (omega arith) in
    let e14 = with_flag 14 fields.drive_error e15 (omega arith) (omega arith) in
    let e13 = with_flag 13 fields.faults.no_memory e14 (omega arith) (omega arith) in
    let e12 = with_flag 12 fields.faults.no_header e13 (omega arith) (omega arith) in
    let e11 = with_flag 11 fields.faults.check e12 (omega arith) (omega arith) in
    let e10 = with_flag 10 fields.faults.incomplete e11 (omega arith) (omega arith) in
    let e8 = with_shifted 10 8 (fields.unit % 4) e10 (omega arith) (omega arith) (omega arith) in
    let e7 = with_flag 7 fields.ready e8 (omega arith) (omega arith) in
    let e6 = with_flag 6 fields.enable e7 (omega arith) (omega arith) in
    let e4 = with_shifted 6 4 (fields.extension % 4) e6 (omega arith) (omega arith) (omega arith) in
    let e1 = with_shifted 4 1 (function_number fields.function) e4 (omega arith) (omega arith) (omega arith) in
    let packed = with_field 1 (worth 0 fields.drive_ready) e1 (omega arith) (omega (arith, flag_small fields.drive_ready)) in
    rw (c.any_error.ensures, c.from.ensures, and_mask fields.unit 2, and_mask fields.extension 2, lowest_flag fields.drive_ready)
    (record { packed = packed; back = λ px pu. ap control_fields packed ∙ fields_again fields px pu })
