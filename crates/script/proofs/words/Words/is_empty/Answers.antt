use Rattle.std.proofs.Common.{ap, ◌∙◌}
use Rattle.script.specs.Words.{none_left}
use Rattle.script.proofs.Runs.{is_none_left}
use Rattle.script.proofs.words.Words.is_empty.Goals as goal

pub returns : goal.returns
returns c = is_none_left c.word_start.result c.self.inside.rest.now c.is_none.result c.word_start.ensures c.is_none.ensures ∙ ap none_left c.self.view_is
