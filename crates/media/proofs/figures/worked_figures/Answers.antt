-- Each figure is computed.
use Rattle.std.proofs.Common.{refl}
use Rattle.media.specs.Address.{low_bits}
use Rattle.media.proofs.figures.worked_figures.Goals as goal

pub returns : goal.returns
unfolding low_bits
returns c = record { count = refl; hold = refl }
