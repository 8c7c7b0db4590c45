use Rattle.std.proofs.Common.{◌≡◌}
use Rattle.distances.specs.Steps.{Followed}
use Rattle.distances.proofs.dijkstra.follow.Given as goal

-- the arcs before are followed
abbrev pub invariant-loop-k : goal.invariant-loop-k
invariant-loop-k l = record {
  size : l.queue.n ≡ l.initial.queue.n;
  followed : Followed l.initial.queue.n l.arcs.places.now l.arcs.costs.now l.away l.k l.initial.dist l.dist l.initial.queue.keys l.queue.keys;
}
