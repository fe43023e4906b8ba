-- A turn takes one bit more, and after the last turn no bit is left.
use Rattle.std.proofs.Common.{arith, rules}
use Rattle.media.proofs.Crc.{crc_more, crc_all}
use Rattle.media.proofs.Headers.{low_bit}
use Rattle.media.proofs.address.run_word.Goals as goal

pub loop-turn-preserved : goal.loop-turn-preserved
loop-turn-preserved c =
    let more = crc_more c.loop-turn.crc c.loop-turn.word c.loop-turn._turn c.loop-turn-test.true in
    let bit = low_bit c.loop-turn.word in search rules

pub returns : goal.returns
returns c =
    let all = crc_all c.loop-turn.crc c.loop-turn.word c.loop-turn._turn (omega arith) in search rules
