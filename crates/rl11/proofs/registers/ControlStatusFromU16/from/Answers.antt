use Rattle.std.proofs.Common.{◌/◌, refl}
use Rattle.std.proofs.lemmas.Nat.{and_mask}
use Rattle.rl11.proofs.ControlWords.{word_again}
use Rattle.rl11.proofs.registers.ControlStatusFromU16.from.Goals as goal

pub returns : goal.returns
returns c =
    rw (c.has_bit.ensures, c.numbered.ensures, c.has_bit-2.ensures, c.has_bit-3.ensures, c.from_word.ensures, c.has_bit-4.ensures, and_mask (c.args.word / 2) 3, and_mask (c.args.word / 16) 2, and_mask (c.args.word / 256) 2)
    (record { fields = refl; back = word_again c.args.word })
