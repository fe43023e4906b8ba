use Rattle.std.proofs.Common.{◌≡◌, ◌++◌, Ok, vec_items}
use Rattle.script.specs.Arguments.{and_then}
use Rattle.script.specs.Scripts.{poked}
use Rattle.script.proofs.scripts.push_pokes.Given as goal

abbrev pub invariant-loop-word : goal.invariant-loop-word
invariant-loop-word l =
    and_then (poked l.line l.address l.word-iterator) (λ ps. Ok (vec_items l.pokes ++ ps))
    ≡ and_then (poked l.line l.fn.address l.fn.words) (λ ps. Ok (vec_items l.fn.pokes ++ ps))
