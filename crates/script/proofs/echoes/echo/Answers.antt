use Rattle.std.proofs.Common.{◌∷◌, ◌++◌, string_bytes, sym, ap, ◌∙◌, append-nil}
use lib.Utf8.{encodes}
use Rattle.script.specs.Echoes.{spaced}
use Rattle.script.proofs.Spaces.{told_first, told_none, told_more, same_words}
use Rattle.script.proofs.echoes.echo.Goals as goal
use Rattle.script.proofs.echoes.echo.Goals.{in-Some+in_ok-push_word, in_default}

pub loop-word-init : goal.loop-word-init
loop-word-init c =
    let rest = c.into_iter-word-iterator.ensures.into_iter_gives in
    elim c.match-next.branch [
      | in-Some+in_ok-push_word v ↦ told_first _ _ v.in-Some.word.now _ (sym c.of_line-words.ensures ∙ v.in-Some.ensures.steps ∙ ap (λ ws. v.in-Some.word.now ∷ ws) (sym rest)) (ap string_bytes v.text-is ∙ v.in_ok-push_word.ensures ∙ ap (λ s. s ++ encodes v.in-Some.word.now) c.new-text.ensures.bytes)
      | in_default v ↦ told_none _ _ _ (sym c.of_line-words.ensures ∙ v.in_default.ensures.steps.0) (rest ∙ v.in_default.ensures.steps.1) (ap string_bytes v.text-is ∙ c.new-text.ensures.bytes)
    ]

pub loop-word-preserved : goal.loop-word-preserved
loop-word-preserved c =
    let w = c.in-Some-word.word.now in
    let told = c.loop-word.invariant ∙ ap (λ ws. string_bytes c.loop-word.text ++ encodes (spaced ws)) c.in-Some-word.ensures.steps in
    told_more _ (string_bytes c.loop-word.text) _ w _ told (c.in_ok-push_word-2.ensures ∙ ap (λ s. s ++ encodes w) c.in_ok-push.ensures.bytes)

pub returns : goal.returns
returns c =
    let told = c.loop-word.invariant ∙ ap (λ ws. string_bytes c.loop-word.text ++ encodes (spaced ws)) c.in-None.ensures.steps.0 ∙ append-nil (string_bytes c.loop-word.text) in
    (sym told, same_words c.args.line.now)
