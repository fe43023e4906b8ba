use Rattle.std.proofs.Common.{true, not, Ok, vec_items, vec_len, sym, ap, ◌∙◌}
use Rattle.script.specs.Scripts.{plan_of}
use Rattle.script.proofs.Plans.{begun_by, setup_line}
use Rattle.script.proofs.scripts.Draft.add_line.Goals as goal

pub returns-in-Setup : goal.returns-in-Setup
returns-in-Setup c =
    let steps = c.args.self.now.steps in
    let begun = begun_by (vec_items steps) (vec_len steps) steps.ok.0 ∙ ap not (sym c.is_empty.ensures ∙ c.if-not-is_empty.true) in
    let said = sym c.read_line.ensures ∙ c.in_ok-read_line.was ∙ ap Ok c.in-Setup.is in
    rw c.into.ensures (setup_line c.args.line.now.number c.args.line.now.text.now c.in-Setup.field-0 (plan_of c.args.self.now) true said begun)
