use Rattle.std.proofs.Common.{sym, ap, ◌∙◌}
use Rattle.std.proofs.lemmas.Result.{err_from_is_err_and}
use Rattle.script.specs.Arguments.{closed, and_then}
use Rattle.script.specs.declared.setup.Setup.TheVariants.{Drives}
use Rattle.script.proofs.setup.take_drives.Goals as goal

pub returns-in_err-kinds : goal.returns-in_err-kinds
returns-in_err-kinds c =
    let told = err_from_is_err_and c.from_residual.result c.from_residual.ensures.1 in
    rw (told.1, told.2) (sym (c.take_kinds.ensures (λ ks. closed (Drives ks)) ∙ ap (λ r. and_then r (λ ks. closed (Drives ks) c.take_kinds.new.words)) c.in_err-kinds.was))

pub returns : goal.returns
returns c = c.close.ensures ∙ sym (c.take_kinds.ensures (λ ks. closed (Drives ks)) ∙ ap (λ r. and_then r (λ ks. closed (Drives ks) c.take_kinds.new.words)) c.in_ok-kinds.was)
