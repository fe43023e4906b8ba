use Rattle.std.proofs.Common.{sym}
use Rattle.runner.proofs.benches.Runner.refused_drives.Goals as goal

pub returns : goal.returns
returns c = let e = sym c.from.ensures in simp e c.format.ensures.ok
