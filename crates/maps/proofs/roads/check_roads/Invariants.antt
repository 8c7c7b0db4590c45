use Rattle.std.proofs.Common.{◌≡◌, drop, None}
use Rattle.maps.specs.Roads.{roads_fault}
use Rattle.maps.proofs.roads.check_roads.Given as goal

-- what is left has the first fault of the whole
abbrev pub invariant-loop-road : goal.invariant-loop-road
invariant-loop-road l = roads_fault l.n None l.roads ≡ roads_fault l.n l.last (drop l.road-index l.roads)
