-- The answers of a controller as text.
use Rattle.std.specs.Prelude.{ℕ, List, ◌++◌, Ok, Err, codes, decimal, if◌then◌else◌}
use Rattle.exchanges.specs.Refusals.{refusal_number}
use Rattle.exchanges.specs.Calls.{Answer}
use Rattle.exchanges.specs.declared.calls.Reply.TheVariants.{Word, Done, Vector, Ticked}
use Rattle.exchanges.specs.declared.calls.Move.{Move}
use Rattle.exchanges.specs.declared.calls.Move.TheVariants.{Nothing, Fetched, Stored, Compared}
use Rattle.exchanges.specs.declared.calls.Passage.{Passage}
use Rattle.exchanges.specs.declared.calls.Report.{Report}
use Rattle.runner.specs.Numerals.{six_digits, plain_octal, long_octal}

-- A refusal is told by its number.
abbrev pub refused_text : ℕ → List ℕ
refused_text n = codes "refused " ++ decimal n

-- Which words passed.
abbrev pub passage_text : Passage → List ℕ
passage_text p = codes " unit " ++ (decimal p.unit ++ (codes " pack " ++ (decimal p.pack ++ (codes " block " ++ (decimal p.block ++ (codes " address " ++ (long_octal p.address ++ (codes " words " ++ decimal p.words))))))))

-- What moved.
abbrev pub move_text : Move → List ℕ
move_text Nothing = codes "nothing"
move_text (Fetched p) = codes "fetched" ++ passage_text p
move_text (Stored p) = codes "stored" ++ passage_text p
move_text (Compared p) = codes "compared" ++ passage_text p

-- What a tick did: 1 where a function ended, else 0, and what moved.
abbrev pub report_text : Report → List ℕ
report_text r = codes "ended " ++ (decimal (if r.ended then 1 else 0) ++ (codes " moved " ++ move_text r.moved))

-- What is told of an answer.
abbrev pub answer_text : Answer → List ℕ
answer_text (Ok (Word w)) = six_digits w
answer_text (Ok Done) = codes "done"
answer_text (Ok (Vector v)) = codes "vector " ++ plain_octal v
answer_text (Ok (Ticked r)) = report_text r
answer_text (Err e) = refused_text (refusal_number e)
