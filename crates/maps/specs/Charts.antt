-- The abstract maps that maps in memory stand for. Assumes nothing.
use Rattle.std.specs.Prelude.{vec_items}
use Rattle.ways.specs.Map.{Map}
use Rattle.maps.specs.Arcs.{map_in}
use Rattle.maps.specs.Roads.{map_of}
use Rattle.maps.specs.declared.buf.RoadMapBuf.{RoadMapBuf}
use Rattle.maps.specs.declared.map.RoadMap.{RoadMap}

abbrev pub chart : RoadMap → Map
chart m = map_in m.n m.starts.now m.places.now m.costs.now

-- the map of an owner is that of its roads
abbrev pub ground_of : RoadMapBuf → Map
ground_of b = map_of b.n (vec_items b.roads)
