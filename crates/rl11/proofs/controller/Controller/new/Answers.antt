use Rattle.std.proofs.Common.{rules, refl}
use Rattle.rl11.proofs.Makes.{kinds_refused, kinds_taken}
use Rattle.rl11.proofs.controller.Controller.new.Goals as goal

pub returns-in-Err : goal.returns-in-Err
returns-in-Err g c = let refused = c.in-Err.ensures.err in (kinds_refused _ _ _ refused.1 (search rules), refl, refl)

pub returns-in-Ok : goal.returns-in-Ok
returns-in-Ok g c =
    let taken = kinds_taken (λ n k called. search rules) c.args.kinds c.in-Ok.kinds c.in-Ok.ensures.ok.whole in
    (rw taken.0, search (rules, taken.1), search rules, search rules)
