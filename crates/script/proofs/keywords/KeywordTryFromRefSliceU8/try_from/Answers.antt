use Rattle.std.proofs.Common.{rules, arith, codes}
use Rattle.script.proofs.Spellings.{keyword_spelt}
use Rattle.script.proofs.keywords.KeywordTryFromRefSliceU8.try_from.Goals as goal

pub returns-in-drives : goal.returns-in-drives
returns-in-drives c = keyword_spelt c.args.word.now (codes "drives") (omega arith) (search rules)

pub returns-in-shelf : goal.returns-in-shelf
returns-in-shelf c = keyword_spelt c.args.word.now (codes "shelf") (omega arith) (search rules)

pub returns-in-card : goal.returns-in-card
returns-in-card c = keyword_spelt c.args.word.now (codes "card") (omega arith) (search rules)

pub returns-in-memory : goal.returns-in-memory
returns-in-memory c = keyword_spelt c.args.word.now (codes "memory") (omega arith) (search rules)

pub returns-in-poke : goal.returns-in-poke
returns-in-poke c = keyword_spelt c.args.word.now (codes "poke") (omega arith) (search rules)

pub returns-in-read : goal.returns-in-read
returns-in-read c = keyword_spelt c.args.word.now (codes "read") (omega arith) (search rules)

pub returns-in-write : goal.returns-in-write
returns-in-write c = keyword_spelt c.args.word.now (codes "write") (omega arith) (search rules)

pub returns-in-init : goal.returns-in-init
returns-in-init c = keyword_spelt c.args.word.now (codes "init") (omega arith) (search rules)

pub returns-in-grant : goal.returns-in-grant
returns-in-grant c = keyword_spelt c.args.word.now (codes "grant") (omega arith) (search rules)

pub returns-in-load : goal.returns-in-load
returns-in-load c = keyword_spelt c.args.word.now (codes "load") (omega arith) (search rules)

pub returns-in-unload : goal.returns-in-unload
returns-in-unload c = keyword_spelt c.args.word.now (codes "unload") (omega arith) (search rules)

pub returns-in-protect : goal.returns-in-protect
returns-in-protect c = keyword_spelt c.args.word.now (codes "protect") (omega arith) (search rules)

pub returns-in-sector : goal.returns-in-sector
returns-in-sector c = keyword_spelt c.args.word.now (codes "sector") (omega arith) (search rules)

pub returns-in-kind : goal.returns-in-kind
returns-in-kind c = keyword_spelt c.args.word.now (codes "kind") (omega arith) (search rules)
