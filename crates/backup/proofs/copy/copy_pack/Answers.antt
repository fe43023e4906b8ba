use Rattle.std.proofs.Common.{◌≡◌, [], ◌∷◌, ◌++◌, Ok, vec_items, sym, ap, ◌∙◌, arith}
use Rattle.std.proofs.lemmas.Result.{err_from_is_err_and}
use Rattle.backup.proofs.Fronts.{not_skipped, on_copied, on_skipped, past_skipped, stopped_declined, stopped_unlisted, none_more, one_more}
use Rattle.backup.proofs.copy.copy_pack.Goals as goal
use Rattle.backup.proofs.copy.copy_pack.Goals.{in-Skipped+in_ok-push, in_default}

pub returns-in_err-mark : goal.returns-in_err-mark
returns-in_err-mark g c =
    let said = c.in_err-mark.ensures in
    let e = err_from_is_err_and c.from_residual-in_err-mark.result c.from_residual-in_err-mark.ensures.1 in
    rw e.1
    (stopped_declined _ _ _ _ _ _ _ c.loop-block.invariant.0 said.after
    (g.F.Shelf.lawful c.args.from.now) c.in_ok-kind.kind c.in_ok-kind.ensures (omega arith) c.in_err-mark.field-0.0 _ e.2 said.reply)

pub returns-in_err-push : goal.returns-in_err-push
returns-in_err-push g c =
    let said = c.in_ok-mark.ensures in
    let e = err_from_is_err_and c.from_residual-in_err-push.result c.from_residual-in_err-push.ensures.1 in
    rw e.1
    (stopped_unlisted _ _ _ _ _ _ _ c.loop-block.invariant.0 said.after
    (g.F.Shelf.lawful c.args.from.now) c.in_ok-kind.kind c.in_ok-kind.ensures (omega arith) c.in-Skipped.mark _ e.2 (sym said.reply ∙ ap Ok c.in-Skipped.is))

pub loop-block-preserved : goal.loop-block-preserved
loop-block-preserved g c =
    let source = g.F.Shelf.packs c.args.from.now in
    let before = g.T.Shelf.packs c.args.to.now in
    let target = g.T.Shelf.packs c.loop-block.to in
    let after = g.T.Shelf.packs c.copy_sector.new.to in
    let p = c.args.from_pack in
    let q = c.args.to_pack in
    let n = c.loop-block.block in
    let inv = c.loop-block.invariant in
    let said = c.in_ok-mark.ensures in
    elim c.match-branch-3.branch [
      | in-Skipped+in_ok-push w ↦
          (let facts = on_skipped source p before q target after n inv.0 said.after w.in-Skipped.mark (sym said.reply ∙ ap Ok w.in-Skipped.is) in
          let pushed : vec_items w.push.new.self ≡ vec_items c.loop-block.left_out ++ (record { block = n; mark = w.in-Skipped.mark }) ∷ [] = rw w.in_ok-push.was at w.push.ensures.items in
          (past_skipped source p before q target after n inv.0 said.after facts.0 facts.1, ap vec_items w.left_out-is ∙ pushed ∙ one_more source p n _ inv.1 w.in-Skipped.mark facts.1 facts.2))
      | in_default w ↦
          (let facts = on_copied source p before q target after n inv.0 said.after (sym said.reply ∙ ap Ok (not_skipped _ w.in_default.not-Skipped)) in
          (facts.0, ap vec_items w.left_out-is ∙ none_more source p n _ inv.1 facts.1))
    ]
