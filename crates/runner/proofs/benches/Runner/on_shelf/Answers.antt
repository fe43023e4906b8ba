use Rattle.std.proofs.Common.{◌≡◌, ℕ, List, replicate, IfOk, string_bytes, subst, ◌∙◌}
use Rattle.media.specs.Memory.{Words}
use Rattle.memories.specs.Board.{board_contents}
use Rattle.memories.specs.Stack.{even_border, stack_contents}
use Rattle.script.specs.Scripts.{bench_of}
use Rattle.script.specs.declared.setup.MemorySetup.{MemorySetup}
use Rattle.script.specs.declared.setup.MemorySetup.TheVariants.{Stack}
use Rattle.runner.specs.Setups.{memory_made, on_memory_text}
use Rattle.runner.proofs.benches.Runner.on_shelf.Goals as goal

-- a stack of two boards of zero words is what the set-up says
stack_made : (setup : MemorySetup) (b l u : ℕ) (ls us : List ℕ) (lower upper : Words) → setup ≡ Stack b l u → ls ≡ replicate l 0 → us ≡ replicate u 0 → lower ≡ board_contents ls → upper ≡ board_contents us → stack_contents (even_border b) lower upper ≡ memory_made setup
stack_made setup b l u ls us lower upper is zeros_below zeros_above below above = rw (is, below, above, zeros_below, zeros_above)

pub returns-in_ok-upper-in-Stack : goal.returns-in_ok-upper-in-Stack
returns-in_ok-upper-in-Stack g c =
    let script = c.args.self.now.script in
    let made = stack_made script.memory _ _ _ _ _ _ _ c.in-Stack.is (c.deref_mut-in-Stack.ensures.value ∙ c.in_ok-lower-in-Stack.ensures) (c.deref_mut-in-Stack-2.ensures.value ∙ c.in_ok-upper-in-Stack.ensures) c.new-in-Stack.ensures.meaning c.new-in-Stack-2.ensures.meaning in
    subst (λ m. IfOk c.on_memory-in-Stack.result (λ text. string_bytes text ≡ on_memory_text (bench_of script) (g.S.Shelf.packs c.args.shelf) m)) (c.new-memory.ensures.meaning ∙ made) c.on_memory-in-Stack.ensures
