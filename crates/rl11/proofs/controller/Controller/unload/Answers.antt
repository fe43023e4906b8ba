use Rattle.rl11.proofs.Kept.{unload_kept}
use Rattle.rl11.proofs.controller.Controller.unload.Goals as goal

pub invariant_of-self : goal.invariant_of-self
invariant_of-self g c = rw c.unload.ensures.after (unload_kept c.args.unit c.args.self.now.core)
