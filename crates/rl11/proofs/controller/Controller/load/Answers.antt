use Rattle.rl11.proofs.Kept.{load_kept}
use Rattle.rl11.proofs.controller.Controller.load.Goals as goal

pub invariant_of-self : goal.invariant_of-self
invariant_of-self g c = rw c.load.ensures.after (load_kept c.args.unit c.args.pack _ c.args.self.now.core)
