use Rattle.std.proofs.Common.{◌≡◌, ◌-◌, sym, ap, ◌∙◌, arith, length-set}
use Rattle.std.proofs.lemmas.List.{length-replicate}
use Rattle.std.proofs.lemmas.Result.{err_from_is_err_and}
use Rattle.script.specs.Setup.{with_kinds}
use Rattle.script.proofs.KindsRead.{next_kind, no_kind, all_kinds}
use Rattle.script.proofs.setup.take_kinds.Goals as goal

pub loop-kind-init : goal.loop-kind-init
loop-kind-init g c =
    let whole : g.row.N ≡ g.row.N - 0 = omega arith in
    (λ f. ap (λ n. with_kinds n f c.args.words.now) whole, length-replicate g.row.N 0)

pub returns-in_err-kind : goal.returns-in_err-kind
returns-in_err-kind g c f =
    let told = err_from_is_err_and c.from_residual.result c.from_residual.ensures.1 in
    rw (told.1, told.2) (c.loop-kind.invariant.0 f ∙ no_kind g.row.N c.loop-kind.kind-index c.loop-kind.words c.in_err-kind.field-0.0 _ (omega arith) (sym c.take_u8.ensures.value ∙ c.in_err-kind.was))

pub loop-kind-preserved : goal.loop-kind-preserved
loop-kind-preserved g c = (
  λ f. rw c.take_u8.ensures.left (c.loop-kind.invariant.0 f ∙ next_kind g.row.N c.loop-kind.kind-index c.loop-kind.kind-items c.loop-kind.words c.in_ok-kind.field-0 f (omega arith) c.loop-kind.invariant.1 (sym c.take_u8.ensures.value ∙ c.in_ok-kind.was)),
  length-set c.loop-kind.kind-items c.loop-kind.kind-index c.in_ok-kind.field-0 ∙ c.loop-kind.invariant.1,
)

pub returns : goal.returns
returns g c f = c.loop-kind.invariant.0 f ∙ all_kinds g.row.N c.loop-kind.kind-index c.loop-kind.kind-items c.loop-kind.words f (omega arith) c.loop-kind.invariant.1
