use Rattle.std.proofs.Common.{◌≡◌, ◌*◌, length}
use Rattle.maps.specs.Charts.{chart}
use Rattle.distances.specs.Keys.{Idle}
use Rattle.distances.specs.Orders.{Goes}
use Rattle.distances.proofs.OrdersOf.{OrdersBefore}
use Rattle.distances.proofs.RowsOf.{RowsBefore}
use Rattle.distances.proofs.rows.work_out_all.Given as goal

-- the rows before are done, and no place waits in the queue
abbrev pub invariant-loop-place : goal.invariant-loop-place
invariant-loop-place g l = record {
  size : l.queue.n ≡ l.n;
  idle : Idle l.n l.queue.keys;
  dists : length l.dist ≡ l.n * l.n;
  nexts : length l.next ≡ l.n * l.n;
  rows : RowsBefore (chart l.map) l.n l.place l.dist l.next;
  orders : Goes g.O.Order.holds l.initial.order l.order (l.n * l.n) (OrdersBefore l.n l.place l.dist);
}
