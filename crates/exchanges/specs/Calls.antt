-- Calls and answers as values.
use Rattle.std.specs.Prelude.{Result}
use Rattle.exchanges.specs.declared.calls.Move.{Move}
use Rattle.exchanges.specs.declared.calls.Move.TheVariants.{Nothing, Fetched, Stored, Compared}
use Rattle.exchanges.specs.declared.calls.Passage.{Passage}
use Rattle.exchanges.specs.declared.calls.Reply.{Reply}
use Rattle.exchanges.specs.declared.refusals.Refusal.{Refusal}

-- The answer to a call: a reply, or why it is refused.
abbrev pub Answer : Type 0
Answer = Result Reply Refusal

-- Where nothing moved, unit, pack, block, address and number of words are all zero.
abbrev pub no_passage : Passage
no_passage = record { unit = 0; pack = 0; block = 0; address = 0; words = 0 }

-- What words moved.
abbrev pub passage_of : Move → Passage
passage_of Nothing = no_passage
passage_of (Fetched p) = p
passage_of (Stored p) = p
passage_of (Compared p) = p
