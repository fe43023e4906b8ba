-- The packed fields are their sum, and the rest is arithmetic.
use Rattle.std.proofs.Common.{◌<◌, rules}
use Rattle.media.proofs.Headers.{packed}
use Rattle.media.proofs.address.Place.header.Goals as goal

pub returns : goal.returns
returns c =
    let on = c.in_ok-check.ensures in
    let p : c.args.self.cylinder < 512 = search rules in
    let q : c.args.self.head < 2 = search rules in
    let t : c.args.self.sector < 64 = search rules in
    let sum = packed c.args.self.cylinder c.args.self.head c.args.self.sector p q t in search rules
