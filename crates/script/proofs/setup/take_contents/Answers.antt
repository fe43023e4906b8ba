use Rattle.std.proofs.Common.{Ok, sym, ap, ◌∙◌, arith}
use lib.Seq.{set-get_or}
use Rattle.std.proofs.lemmas.Result.{err_from_is_err_and}
use Rattle.script.proofs.Contents.{again, stopped, broken, full}
use Rattle.script.proofs.setup.take_contents.Goals as goal

pub returns-then-is_empty : goal.returns-then-is_empty
returns-then-is_empty c =
    let inv = c.loop-place.invariant in
    ap Ok (set-get_or c.loop-place.place-items c.loop-place.place-index 0) ∙ stopped c.loop-place.place-items c.loop-place.place-index c.loop-place.words _ (sym c.is_empty.ensures ∙ c.if-is_empty.true) inv.0 inv.1

pub returns-in_err-place : goal.returns-in_err-place
returns-in_err-place c =
    let inv = c.loop-place.invariant in
    let p = err_from_is_err_and c.from_residual.result c.from_residual.ensures.1 in
    let e = broken c.loop-place.place-items c.loop-place.place-index c.loop-place.words c.in_err-place.field-0.0 _ (omega arith) (sym c.is_empty.ensures ∙ c.if-is_empty.false) (sym c.take_u16.ensures.value ∙ c.in_err-place.was) inv.0 in
    rw (p.1, p.2) e

pub loop-place-preserved : goal.loop-place-preserved
loop-place-preserved c =
    let inv = c.loop-place.invariant in
    let more = again c.loop-place.place-items c.loop-place.place-index c.loop-place.words c.in_ok-place.field-0 _ (omega arith) inv.2 (sym c.take_u16.ensures.value ∙ c.in_ok-place.was) inv.0 inv.1 in
    (rw c.take_u16.ensures.left more.0, more.1, more.2)

pub returns : goal.returns
returns c =
    let inv = c.loop-place.invariant in
    c.close.ensures ∙ full c.loop-place.place-items c.loop-place.place-index c.loop-place.words _ (omega arith) inv.2 inv.0
