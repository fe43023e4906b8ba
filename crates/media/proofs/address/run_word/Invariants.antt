-- What is left of the word gives the CRC after the whole word.
use Rattle.std.proofs.Common.{◌≡◌, ◌-◌}
use Rattle.media.specs.Address.{crc_over, low_bits, word_bits}
use Rattle.media.proofs.address.run_word.Given as goal

abbrev pub invariant-loop-turn : goal.invariant-loop-turn
invariant-loop-turn l =
    crc_over l.crc (low_bits (16 - l._turn) l.word) ≡ crc_over l.initial.crc (word_bits l.initial.word)
