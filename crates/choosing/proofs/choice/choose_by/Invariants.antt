use Rattle.std.proofs.Common.{◌+◌, ◌-◌, ◌<◌, ◌≤◌}
use Rattle.ways.specs.Map.{Map}
use Rattle.choosing.specs.Tables.{Table}
use Rattle.choosing.specs.Turns.{Outers}
use Rattle.choosing.proofs.Loops.{Choosing}
use Rattle.choosing.proofs.choice.choose_by.Given as goal

abbrev pub invariant-choosing : goal.invariant-choosing
invariant-choosing l =
    let r = l.map.rows in
    record {
      rule : (z : Map) → Table z r.n r.dist.now → Choosing z l.room r.n r.dist.now l.marks l.away l.count;
      few : l.count ≤ l.room + 1;
      some : 0 < l.count;
      outers : Outers r.n r.dist.now r.order.now l.away l.ball;
    }

abbrev pub decreases-choosing : goal.decreases-choosing
decreases-choosing l = l.room + 2 - l.count
