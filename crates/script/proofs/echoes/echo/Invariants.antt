use Rattle.std.proofs.Common.{◌≡◌, ◌++◌, string_bytes}
use lib.Utf8.{encodes}
use Rattle.script.specs.Echoes.{joined, spaced}
use Rattle.script.specs.Words.{line_words}
use Rattle.script.proofs.echoes.echo.Given as goal

abbrev pub invariant-loop-word : goal.invariant-loop-word
invariant-loop-word l = encodes (joined (line_words l.line)) ≡ string_bytes l.text ++ encodes (spaced l.word-iterator)
