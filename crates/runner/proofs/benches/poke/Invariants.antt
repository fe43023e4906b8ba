use Rattle.std.proofs.Common.{◌≡◌, drop}
use Rattle.runner.specs.Setups.{poked_memory}
use Rattle.runner.proofs.benches.poke.Given as goal

abbrev pub invariant-loop-poke : goal.invariant-loop-poke
invariant-loop-poke g l = poked_memory (g.M.BusMemory.contents l.memory) (drop l.poke-index l.pokes) ≡ poked_memory (g.M.BusMemory.contents l.initial.memory) l.pokes
