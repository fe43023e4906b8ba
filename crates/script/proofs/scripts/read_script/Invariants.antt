use Rattle.std.proofs.Common.{◌≡◌, length, drop}
use Rattle.script.specs.Scripts.{plan_of, empty_plan, read_from}
use Rattle.script.specs.Texts.{lines_of}
use Rattle.script.proofs.Feeds.{parts_of}
use Rattle.script.proofs.scripts.read_script.Given as goal

abbrev pub invariant-loop-at : goal.invariant-loop-at
invariant-loop-at l = read_from (length l.yielded) (plan_of l.draft) (drop (length l.yielded) (parts_of l.text)) ≡ read_from 0 empty_plan (lines_of l.text)
