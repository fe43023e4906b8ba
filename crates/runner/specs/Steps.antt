-- What a run of steps tells.
use Rattle.std.specs.Prelude.{ℕ, List, [], ◌∷◌, ◌++◌, codes}
use Rattle.rl11.specs.Machine.{Machine}
use Rattle.rl11.specs.Sends.{answer_to, after_call}
use Rattle.script.specs.Scripts.{Told}
use Rattle.script.specs.declared.steps.Step.{Step}
use Rattle.script.specs.declared.steps.Step.TheVariants as step
use Rattle.runner.specs.Answers.{answer_text}
use Rattle.runner.specs.Looks.{look_text}

-- What a step tells of a machine: the answer to its call, or what its look shows.
abbrev pub step_text : Step → Machine → List ℕ
step_text (step.Call c) m = answer_text (answer_to c m)
step_text (step.Look l) m = look_text l m

-- The machine after a step; a look leaves it.
abbrev pub after_step : Step → Machine → Machine
after_step (step.Call c) m = after_call c m
after_step (step.Look l) m = m

-- The line of a step: its echo, an arrow and what it tells.
abbrev pub line_text : Told → Machine → List ℕ
line_text t m = t.echo ++ (codes " -> " ++ (step_text t.step m ++ (10 ∷ [])))

-- The lines of steps one after the other, each at the machine that those before it leave.
abbrev pub run_text : List Told → Machine → List ℕ
run_text [] m = []
run_text (t ∷ ts) m = line_text t m ++ run_text ts (after_step t.step m)
