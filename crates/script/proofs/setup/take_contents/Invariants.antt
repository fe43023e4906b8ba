use Rattle.std.proofs.Common.{◌≡◌, ◌-◌, length, take, drop, replicate}
use Rattle.script.specs.Setup.{filled}
use Rattle.script.proofs.Contents.{after}
use Rattle.script.proofs.setup.take_contents.Given as goal

abbrev pub invariant-loop-place : goal.invariant-loop-place
invariant-loop-place l =
    (after (take l.place-index l.place-items) (filled (128 - l.place-index) l.words) ≡ filled 128 l.initial.words)
    × (drop l.place-index l.place-items ≡ replicate (128 - l.place-index) 0)
    × (length l.place-items ≡ 128)
