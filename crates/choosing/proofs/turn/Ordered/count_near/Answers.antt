use Rattle.std.proofs.Common.{◌<◌, ◌≢◌, length, arith, get_or-set_other, get_or-set_same, below_more}
use Rattle.choosing.proofs.Losses.{nears_few}
use Rattle.choosing.proofs.RowParts.{row_gives}
use Rattle.choosing.proofs.turn.Ordered.count_near.Goals as goal

pub loop-u-preserved : goal.loop-u-preserved
loop-u-preserved c =
    let r = c.args.self.now.rows in
    let here = row_gives r.n c.loop-u.u r.dist.now c.args.away.now c.dists.result.now c.dists.ensures.is c.requires.aways c.near_count.result c.near_count.ensures in
    let lt : c.loop-u.u < length c.loop-u.near = omega arith in
    below_more _ _ (λ k h. let ne : k ≢ c.loop-u.u = omega arith in rw get_or-set_other (c.loop-u.invariant k h)) (rw get_or-set_same here)

pub returns-clause-few : goal.returns-clause-few
returns-clause-few c =
    let r = c.args.self.now.rows in
    nears_few r.n r.dist.now c.args.away.now c.loop-u.near (λ u h. c.loop-u.invariant u (omega arith)) r.few (omega arith)
