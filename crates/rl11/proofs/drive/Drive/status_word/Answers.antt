use Rattle.std.proofs.Common.{not, arith}
use Rattle.rl11.proofs.Packing.{first_flag, with_flag, with_shifted, with_field, head_small, state_small}
use Rattle.rl11.proofs.drive.Drive.status_word.Goals as goal
use Rattle.rl11.specs.Drive.{is_rl02, heads_out, is_brushing}
use Rattle.rl11.specs.Orders.{head_number}

pub returns : goal.returns
returns c =
    let drive = c.args.self.now in
    let head = head_small drive.head in
    let state = state_small drive.state in
    let e15 = first_flag 15 drive.errors.write_data (omega arith) in
    let e13 = with_flag 13 drive.protected e15 (omega arith) (omega arith) in
    let e10 = with_flag 10 drive.errors.write_gate e13 (omega arith) (omega arith) in
    let e9 = with_flag 9 drive.errors.volume_check e10 (omega arith) (omega arith) in
    let e7 = with_flag 7 (is_rl02 drive.kind) e9 (omega arith) (omega arith) in
    let e6 = with_shifted 7 6 (head_number drive.head) e7 (omega arith) (omega arith) (omega arith) in
    let e4 = with_flag 4 (heads_out drive.state) e6 (omega arith) (omega arith) in
    let e3 = with_flag 3 (not (is_brushing drive.state)) e4 (omega arith) (omega arith) in
    rw (c.is_rl02.ensures, c.heads_out.ensures, c.is_brushing.ensures, c.from.ensures, c.number.ensures)
    (with_field 3 _ e3 (omega arith) state)
