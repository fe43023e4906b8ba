use Rattle.std.proofs.Common.{eqb, Ok, sym, ap, ◌∙◌, rules, tests}
use Rattle.std.proofs.lemmas.Iterator.Consumers.{YieldsList-at, YieldsList-from_enumerate, YieldsList-turn, YieldsList-end}
use Rattle.std.proofs.lemmas.Iterator.Splits.{YieldsList-from_slice_split}
use Rattle.std.proofs.lemmas.List.{length_push}
use Rattle.std.proofs.lemmas.Result.{err_from_is_err_and}
use Rattle.script.specs.Scripts.{plan_of, empty_plan, read_from, finished}
use Rattle.script.proofs.Feeds.{parts_of, parts_read, line_read, line_refused, all_read}
use Rattle.script.proofs.scripts.read_script.Goals as goal

pub loop-at-init : goal.loop-at-init
loop-at-init c = ap (λ p. read_from 0 p (parts_of c.args.text.now)) c.new-draft.ensures ∙ parts_read 0 empty_plan c.args.text.now

pub loop-at-preserved : goal.loop-at-preserved
loop-at-preserved c =
    let here = YieldsList-turn (YieldsList-at c.into_iter-at-iterator.ensures.into_iter_gives (YieldsList-from_enumerate (YieldsList-at c.enumerate-at-items.ensures.source (YieldsList-from_slice_split _ (λ b. eqb b 10) c.args.text.now c.split.ensures.rest c.split.ensures.done c.split.ensures.closure (λ x r q k. search (rules, tests)))) c.enumerate-at-items.ensures.count)) c.loop-at.yielded _ c.loop-at.yielded_by _ _ (c.in-Some.at, c.in-Some.text) c.in-Some.is c.next.ensures.steps in
    line_read (parts_of c.args.text.now) _ c.in-Some.at _ c.in-Some.text.now (plan_of c.loop-at.draft) _ _ here (length_push c.loop-at.yielded (c.in-Some.at, c.in-Some.text)) c.in_ok-add_numbered.ensures c.loop-at.invariant

pub returns-in_err-add_numbered : goal.returns-in_err-add_numbered
returns-in_err-add_numbered c =
    let here = YieldsList-turn (YieldsList-at c.into_iter-at-iterator.ensures.into_iter_gives (YieldsList-from_enumerate (YieldsList-at c.enumerate-at-items.ensures.source (YieldsList-from_slice_split _ (λ b. eqb b 10) c.args.text.now c.split.ensures.rest c.split.ensures.done c.split.ensures.closure (λ x r q k. search (rules, tests)))) c.enumerate-at-items.ensures.count)) c.loop-at.yielded _ c.loop-at.yielded_by _ _ (c.in-Some.at, c.in-Some.text) c.in-Some.is c.next.ensures.steps in
    let told = err_from_is_err_and c.from_residual.result c.from_residual.ensures.1 in
    rw (told.1, told.2) (line_refused (parts_of c.args.text.now) _ c.in-Some.at c.in-Some.text.now (plan_of c.loop-at.draft) (plan_of c.add_numbered.new.self) c.in_err-add_numbered.field-0.0 _ here c.in_err-add_numbered.ensures c.loop-at.invariant)

pub returns : goal.returns
returns c =
    let all = YieldsList-end (YieldsList-at c.into_iter-at-iterator.ensures.into_iter_gives (YieldsList-from_enumerate (YieldsList-at c.enumerate-at-items.ensures.source (YieldsList-from_slice_split _ (λ b. eqb b 10) c.args.text.now c.split.ensures.rest c.split.ensures.done c.split.ensures.closure (λ x r q k. search (rules, tests)))) c.enumerate-at-items.ensures.count)) c.loop-at.yielded _ c.loop-at.yielded_by _ _ c.in-None.is c.next.ensures.steps in
    ap finished (all_read (parts_of c.args.text.now) _ (plan_of c.loop-at.draft) _ all.1 c.loop-at.invariant) ∙ ap Ok (sym c.finish.ensures)
