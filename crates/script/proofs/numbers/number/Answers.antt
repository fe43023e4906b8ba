use Rattle.std.proofs.Common.{◌≡◌, ◌+◌, ◌*◌, ◌<◌, ◌≤◌, length, drop, sym, ap, ◌∙◌, arith}
use lib.Seq.{drop-length}
use Rattle.std.proofs.lemmas.Result.{err_from_is_err_and}
use Rattle.std.proofs.lemmas.Bool.{le-leb, lt-leb, cond-true, cond-false}
use Rattle.std.proofs.lemmas.Bool.Decides.{nat_tests}
use Rattle.script.specs.Numbers.{radix_of, number_after}
use Rattle.script.proofs.Digits.{above, started, digit_more, no_digit, grows}
use Rattle.script.proofs.numbers.number.Goals as goal
use Rattle.script.proofs.numbers.number.Goals.{then-value-from, else-value-from}

pub returns-in_err-digit : goal.returns-in_err-digit
returns-in_err-digit c =
    let w = c.args.word.now in
    let some : 0 < length w = grind (arith, nat_tests) in
    let here = no_digit c.args.base c.args.limit c.loop-byte.value c.loop-byte.byte-index w _ c.in_err-digit.field-0.0 (omega arith) c.digit.ensures (sym c.ok_or.ensures.value ∙ c.in_err-digit.was) in
    let told = err_from_is_err_and c.from_residual.result c.from_residual.ensures.1 in
    record { value = rw (told.1, told.2) (sym (started c.args.base c.args.limit w some ∙ sym c.loop-byte.invariant ∙ here)); within = rw told.1 tt }

pub loop-byte-preserved : goal.loop-byte-preserved
loop-byte-preserved c =
    let w = c.args.word.now in
    let b = c.args.base in
    let limit = c.args.limit in
    let n = c.loop-byte.value in
    let d = c.in_ok-digit.digit in
    let rest = drop (c.loop-byte.byte-index + 1) w in
    let here = digit_more b limit n c.loop-byte.byte-index w _ d (omega arith) c.digit.ensures (sym c.ok_or.ensures.value ∙ c.in_ok-digit.was) in
    elim c.if-value-from.branch [
      | then-value-from v ↦ (let e : c.if-value-from.value ≡ n * radix_of b + d = cc in ap (λ m. number_after b limit m rest) e ∙ sym here ∙ c.loop-byte.invariant)
      | else-value-from v ↦ (
          let over : limit < n = omega arith in
          let stays = above b limit n (n * radix_of b + d) rest over (grows b limit n d over) in
          ap (λ m. number_after b limit m rest) v.value-is ∙ stays ∙ sym here ∙ c.loop-byte.invariant)
    ]

pub returns-then-value-from-2 : goal.returns-then-value-from-2
returns-then-value-from-2 c =
    let w = c.args.word.now in
    let some : 0 < length w = grind (arith, nat_tests) in
    let done : c.loop-byte.byte-index ≡ length w = omega arith in
    let over : c.args.limit < c.loop-byte.value = omega arith in
    let inv = simp (done, drop-length w) at c.loop-byte.invariant in
    record { value = sym (started c.args.base c.args.limit w some ∙ sym inv ∙ cond-false _ _ _ (lt-leb _ _ over)); within = tt }

pub returns : goal.returns
returns c =
    let w = c.args.word.now in
    let some : 0 < length w = grind (arith, nat_tests) in
    let done : c.loop-byte.byte-index ≡ length w = omega arith in
    let under : c.loop-byte.value ≤ c.args.limit = omega arith in
    let inv = simp (done, drop-length w) at c.loop-byte.invariant in
    record { value = sym (started c.args.base c.args.limit w some ∙ sym inv ∙ cond-true _ _ _ (le-leb _ _ under)); within = under }
