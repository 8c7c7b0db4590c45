use Rattle.std.proofs.Common.{◌≡◌, ◌≤◌}
use Rattle.choosing.specs.Tables.{near_by}
use Rattle.choosing.proofs.counting.near_count.Given as goal

abbrev pub invariant-loop-v : goal.invariant-loop-v
invariant-loop-v l = (l.near ≡ near_by l.v l.row l.away) × (l.near ≤ l.v)
