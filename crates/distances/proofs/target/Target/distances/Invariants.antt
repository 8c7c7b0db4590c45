use Rattle.std.proofs.Common.{◌≡◌, ◌+◌, ◌-◌, ◌≤◌, get_or}
use Rattle.ways.specs.Ways.{count_below}
use Rattle.maps.specs.Charts.{chart}
use Rattle.distances.specs.Orders.{Goes}
use Rattle.distances.proofs.OrdersOf.{Noting}
use Rattle.distances.proofs.Searching.{Searching, settled}
use Rattle.distances.proofs.target.Target.distances.Given as goal

abbrev pub invariant-loop-u : goal.invariant-loop-u
invariant-loop-u g l = record {
  size : l.queue.n ≡ l.self.map.n;
  searching : Searching (chart l.self.map) l.self.map.n l.self.place l.dist l.queue.keys;
  noting : Goes g.O.Order.holds l.initial.order l.order (l.from + l.self.map.n) (Noting l.self.map.n l.from (λ a. get_or l.dist a 0) (settled l.self.map.n l.dist l.queue.keys) l.count);
  few : l.count ≤ l.self.map.n;
}

-- how many places are not settled yet
abbrev pub decreases-loop-u : goal.decreases-loop-u
decreases-loop-u g l = l.self.map.n - count_below l.self.map.n (settled l.self.map.n l.dist l.queue.keys)
