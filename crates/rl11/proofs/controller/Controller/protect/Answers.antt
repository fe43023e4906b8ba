use Rattle.rl11.proofs.Kept.{protect_kept}
use Rattle.rl11.proofs.controller.Controller.protect.Goals as goal

pub invariant_of-self : goal.invariant_of-self
invariant_of-self g c = rw c.protect.ensures.after (protect_kept c.args.unit c.args.self.now.core)
