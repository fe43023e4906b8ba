use Rattle.std.proofs.Common.{Some, ap, subst, ◌∙◌, arith}
use Rattle.std.specs.Fmt.{DisplaysOnOk}
use Rattle.runner.proofs.Octals.{octal_written}
use Rattle.runner.proofs.numerals.PlainOctalDisplay.fmt.Goals as goal

pub returns-clause-writes : goal.returns-clause-writes
returns-clause-writes g c =
    let told = c.in_radix.ensures ∙ ap Some (octal_written c.args.self.now.0 (omega arith)) in
    subst (λ o. DisplaysOnOk g.W.Write.write_str_gives c.args.f.now c.write.result o c.write.new.self) told c.write.ensures.writes
