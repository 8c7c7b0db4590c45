-- Distances as numbers of 32 bits: each number stands for one distance. Assumes nothing.
use Rattle.std.proofs.Common.{◌≡◌, ℕ, ◌<◌, sym, ap, ◌∙◌, arith}
use Rattle.ways.specs.Map.{Far, Never, At, far}
use Rattle.ways.proofs.LeastWays.{far_cheap}
use Rattle.maps.specs.Charts.{chart}
use Rattle.maps.specs.declared.map.RoadMap.{RoadMap}
use Rattle.maps.proofs.Views.{view_arcs}
use Rattle.maps.proofs.Costs.{meaning}
use Rattle.distances.specs.Rows.{far_number}
use Rattle.distances.proofs.Searching.{none}

-- a number below that of no way is a distance
pub number_at : (x : Far) (k : ℕ) → k ≡ far_number x → k < none → x ≡ At k
number_at Never k e l = absurd (omega (arith, e))
number_at (At c) k e l = ap At (sym e)

pub at_number : (x : Far) (k c : ℕ) → k ≡ far_number x → x ≡ At c → k ≡ c
at_number x k c e h = e ∙ ap far_number h

-- every distance of a map in memory is below the number of no way
pub far_fits : (m : RoadMap) (d a c : ℕ) → d < m.n → a < m.n → far (chart m) d a ≡ At c → c < none
far_fits m d a c dn an e =
    omega (arith, (view_arcs m).few, far_cheap (chart m) (meaning m.n m.starts.now m.places.now m.costs.now (view_arcs m)).cheap d a c dn an e)
