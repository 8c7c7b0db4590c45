-- Roads as records of 6 bytes: their two places and their cost. Assumes nothing.
use Rattle.std.specs.Prelude.{ℕ, List, ◌++◌}
use Rattle.maps.specs.Roads.{road_fault}
use Rattle.maps.specs.declared.kinds.Road.{Road}
use Rattle.reading.specs.declared.kinds.Record.TheVariants.{Road as RoadRecord}
use Rattle.reading.specs.Reading.{Shape, word, bytes_of}

abbrev pub road_of : List ℕ → Road
road_of bs = record { from = word bs 0; to = word bs 2; cost = word bs 4 }

abbrev pub road_shape : Shape Road
road_shape = record { sort = RoadRecord; size = 6; value = road_of; fault = road_fault }

abbrev pub road_bytes : Road → List ℕ
road_bytes r = bytes_of r.from ++ bytes_of r.to ++ bytes_of r.cost
