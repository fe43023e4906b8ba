use Rattle.std.proofs.Common.{◌<◌, length, sym, ap, ◌∙◌, arith, rules}
use Rattle.script.specs.Words.{words_of}
use Rattle.script.proofs.Runs.{no_word, word_first}
use Rattle.script.proofs.words.WordsIterator.next.Goals as goal

pub returns-in_err-word_start-clause-steps : goal.returns-in_err-word_start-clause-steps
returns-in_err-word_start-clause-steps c =
    let none = sym c.self.view_is ∙ no_word c.self.inside.rest.now (sym c.word_start.ensures ∙ c.in_err-word_start.was) in
    rw c.from_residual.ensures (none, none)

pub returns-clause-steps : goal.returns-clause-steps
returns-clause-steps c =
    sym c.self.view_is ∙ word_first _ _ _ _ _ _ (sym c.word_start.ensures ∙ c.in_ok-word_start.was) c.split_at.ensures.back c.word_len.ensures.value c.split_at-2.ensures.front c.split_at-2.ensures.back

pub returns-clause-goes : goal.returns-clause-goes
returns-clause-goes c =
    let first = word_first _ _ _ _ _ _ (sym c.word_start.ensures ∙ c.in_ok-word_start.was) c.split_at.ensures.back c.word_len.ensures.value c.split_at-2.ensures.front c.split_at-2.ensures.back in
    let fewer : length (words_of c.split_at-2.result.1.now) < length c.args.self.now = omega (arith, ap length first, ap length c.self.view_is) in
    search rules
