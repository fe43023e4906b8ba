use Rattle.std.proofs.Common.{◌≡◌, ◌-◌, ◌++◌, string_bytes}
use Rattle.runner.specs.Looks.{cells_text}
use Rattle.runner.proofs.sessions.Session.look_at_cells.Given as goal

abbrev pub invariant-loop-turn : goal.invariant-loop-turn
invariant-loop-turn g l =
    let cells = cells_text (g.M.BusMemory.contents l.initial.self.controller.memory) in
    record {
      controller : l.self.controller ≡ l.initial.self.controller;
      told : string_bytes l.self.text ++ cells l.at (l.count - l._turn) ≡ string_bytes l.initial.self.text ++ cells l.address l.count;
    }
