use Rattle.std.proofs.Common.{◌≡◌, ℕ, ◌-◌, List, ◌++◌, length, take, Result}
use Rattle.script.specs.Setup.{with_kinds}
use Rattle.script.specs.declared.faults.Fault.{Fault}
use Rattle.script.specs.declared.setup.Setup.{Setup}
use Rattle.script.proofs.setup.take_kinds.Given as goal

abbrev pub invariant-loop-kind : goal.invariant-loop-kind
invariant-loop-kind g l =
    ((f : List ℕ → List (List ℕ) → Result Setup Fault) → with_kinds g.row.N f l.initial.words ≡ with_kinds (g.row.N - l.kind-index) (λ ks. f (take l.kind-index l.kind-items ++ ks)) l.words)
    × (length l.kind-items ≡ g.row.N)
