use Rattle.std.proofs.Common.{rules, tests}
use Rattle.std.proofs.lemmas.Iterator.{YieldsList-from_slice, YieldsList-from_map}
use Rattle.std.proofs.lemmas.Iterator.Adapters.{items_from_extend}
use Rattle.std.proofs.lemmas.List.{map-id}
use Rattle.script.proofs.echoes.push_word.Goals as goal

pub returns : goal.returns
returns c =
    simp map-id at (items_from_extend c.extend.result c.extend.ensures.ran (YieldsList-from_map _ (λ b. b) (YieldsList-from_slice c.args.word.now cc) c.map.ensures.closure (λ x r q k. search (rules, tests))))
