use Rattle.std.proofs.Common.{◌≡◌, Ok, vec_items, sym, ap, ◌∙◌, subst}
use Rattle.script.specs.Arguments.{and_then}
use Rattle.script.specs.Scripts.{plan_of, with_pokes, poked, poke_lines, Reported}
use Rattle.script.specs.Words.{line_words, others_of}
use Rattle.script.proofs.Plans.{others_left, some_poked, plan_poked, with_poked}
use Rattle.script.proofs.scripts.Draft.add_pokes.Goals as goal

pub returns : goal.returns
returns c =
    let n = c.args.line.now.number in
    let a = c.args.address in
    let p = plan_of c.args.self.now in
    let ws = c.next-2.new.self in
    let items = vec_items c.push_pokes.new.pokes in
    let left : ws ≡ others_of (others_of (line_words c.args.line.now.text.now)) = others_left _ _ _ c.next-2.ensures.steps ∙ ap others_of (others_left _ _ _ c.next.ensures.steps ∙ ap others_of c.of_line-words.ensures) in
    let same : poke_lines n a (others_of (others_of (line_words c.args.line.now.text.now))) ≡ poked n a ws = ap (poke_lines n a) (sym left) ∙ some_poked n a ws (sym c.is_empty.ensures ∙ c.if-is_empty.false) in
    subst (λ r. Reported (and_then r (λ ps. Ok (with_pokes ps p))) c.push_pokes.result (with_poked p items)) (sym same) (plan_poked (poked n a ws) p c.push_pokes.result items c.push_pokes.ensures)
