use Rattle.std.proofs.Common.{false, [], Some, ◌-◌, ◌^◌, ap, subst, ◌∙◌, arith}
use Rattle.std.specs.Fmt.{DisplaysOnOk, format_spec, padded_integral, styled_digits_output}
use Rattle.std.specs.Option.{option_map}
use Rattle.runner.proofs.Octals.{six_written}
use Rattle.runner.proofs.numerals.OctalDisplay.fmt.Goals as goal

pub returns-clause-writes : goal.returns-clause-writes
returns-clause-writes g c =
    let told = ap (styled_digits_output c.in_radix.result) c.laid_out.ensures ∙ ap (option_map (padded_integral (format_spec 32 0 4 6 (2 ^ 64 - 1)) false [])) c.in_radix.ensures ∙ ap Some (six_written c.args.self.now.0 (omega arith)) in
    subst (λ o. DisplaysOnOk g.W.Write.write_str_gives c.args.f.now c.write.result o c.write.new.self) told c.write.ensures.writes
