use Rattle.std.proofs.Common.{rules, arith}
use Rattle.rl11.proofs.Kept.{fresh_coupled, fresh_apart}
use Rattle.rl11.proofs.controller.Controller.fresh.Goals as goal

pub invariant_of-result : goal.invariant_of-result
invariant_of-result g c =
    rw c.fresh.ensures (record { coupled = search (rules, fresh_coupled); apart = search (rules, fresh_apart); turning = omega arith })
