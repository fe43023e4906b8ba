use Rattle.std.proofs.Common.{rules, ◌≡◌, ℕ, zero, suc, ◌+◌, ◌-◌, ◌<◌, ◌++◌, codes, ap, arith}
use Rattle.std.proofs.lemmas.Grind.{common_steps}
use Rattle.media.specs.Memory.{Words, read_reply}
use Rattle.runner.specs.Looks.{cell_text, cells_text, next_address}
use Rattle.runner.proofs.sessions.Session.look_at_cells.Goals as goal

-- the first of the cells, and the others
cells_more : (m : Words) (a n : ℕ) → 0 < n → cells_text m a n ≡ codes " " ++ (cell_text (read_reply m a) ++ cells_text m (next_address a) (n - 1))
cells_more m a zero h = absurd (omega arith)
cells_more m a (suc n) h = ap (λ k. codes " " ++ (cell_text (read_reply m a) ++ cells_text m (next_address a) k)) {x = n} {y = suc n - 1} (omega arith)

pub loop-turn-preserved : goal.loop-turn-preserved
loop-turn-preserved g c =
    let m = g.M.BusMemory.contents c.args.self.now.controller.memory in
    let left : c.args.count - c.loop-turn._turn - 1 ≡ c.args.count - (c.loop-turn._turn + 1) = omega arith in
    record {
      controller = search rules;
      told = grind (arith, common_steps, cells_more m c.loop-turn.at (c.args.count - c.loop-turn._turn) (omega arith));
    }
