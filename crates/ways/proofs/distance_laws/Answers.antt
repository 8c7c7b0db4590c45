use Rattle.std.proofs.Common.{refl}
use Rattle.ways.proofs.LeastWays.{least_ways, roads_suffice, distances_fixed}
use Rattle.ways.proofs.Metric.{symmetric, triangles}
use Rattle.ways.proofs.distance_laws.Goals as goal

pub returns : goal.returns
returns c = record { count = refl; least = least_ways; suffice = roads_suffice; fixed = distances_fixed; symmetric = symmetric; triangle = triangles }
