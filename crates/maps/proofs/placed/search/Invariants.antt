-- What a search keeps: the place is not among those that are done with. Assumes nothing.
use Rattle.std.proofs.Common.{◌-◌, ◌≤◌, length}
use Rattle.maps.proofs.Halves.{Halved}
use Rattle.maps.proofs.placed.search.Given as goal

abbrev pub invariant-loop-high : goal.invariant-loop-high
invariant-loop-high g l = (l.low ≤ l.high) × (l.high ≤ length l.items) × Halved g.T.Placed.stands l.items l.place l.low l.high

abbrev pub decreases-loop-high : goal.decreases-loop-high
decreases-loop-high g l = l.high - l.low
