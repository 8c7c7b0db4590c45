use Rattle.std.proofs.Common.{◌≡◌, rules, eqb}
use Rattle.std.specs.Prelude.{position}
use Rattle.distances.proofs.LowestApart.{lowest_is}
use Rattle.distances.proofs.unreached.unreached.Goals as goal

pub returns : goal.returns
returns c =
    let e : c.map.result ≡ position (λ k. eqb k 4294967295) c.distances.new.dist = search rules in
    let l = lowest_is c.args.map.now c.distances.new.dist c.distances.ensures.far (search rules) c.map.result e in
    record { value = l.0; lowest = l.1 }
