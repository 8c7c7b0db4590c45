use Rattle.std.proofs.Common.{◌≡◌, ℕ, ◌<◌, get_or}
use Rattle.ways.specs.Map.{hop}
use Rattle.maps.specs.Charts.{chart}
use Rattle.distances.specs.Rows.{hop_number}
use Rattle.distances.proofs.target.Target.nexts.Given as goal

-- the places before are done
abbrev pub invariant-loop-a : goal.invariant-loop-a
invariant-loop-a l = (b : ℕ) → b < l.a → get_or l.next b 0 ≡ hop_number (hop (chart l.self.map) l.self.place b)
