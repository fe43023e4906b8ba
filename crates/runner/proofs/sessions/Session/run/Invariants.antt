use Rattle.std.proofs.Common.{◌≡◌, ◌++◌, map, drop, string_bytes}
use Rattle.rl11.specs.Machine.{machine_of}
use Rattle.script.specs.Scripts.{told_by}
use Rattle.runner.specs.Steps.{run_text}
use Rattle.runner.proofs.sessions.Session.run.Given as goal

abbrev pub invariant-loop-step : goal.invariant-loop-step
invariant-loop-step g l =
    let machine = machine_of g.S.Shelf.packs g.M.BusMemory.contents in
    string_bytes l.self.text ++ run_text (map told_by (drop l.step-index l.steps)) (machine l.self.controller)
    ≡ string_bytes l.initial.self.text ++ run_text (map told_by l.steps) (machine l.initial.self.controller)
