use Rattle.std.proofs.Common.{sym, ap, ◌∙◌}
use Rattle.script.specs.Keywords.{keyword_of}
use Rattle.script.specs.Lines.{line_of}
use Rattle.script.proofs.Spellings.{said_ok}
use Rattle.script.proofs.lines.read_line.Goals as goal

pub returns : goal.returns
returns c =
    c.keyword_line.ensures ∙ said_ok (keyword_of c.in-Some.word.now) _ _ (sym c.try_from.ensures ∙ c.in_ok-try_from.was) ∙ ap line_of (sym c.in-Some.ensures.steps ∙ c.of_line-words.ensures)
