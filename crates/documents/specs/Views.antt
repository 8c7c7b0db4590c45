-- What the values of the code hold, and what building a map leads to. Assumes nothing.
use Rattle.std.specs.Prelude.{◌≡◌, Ok, Err, vec_items, Result}
use Rattle.maps.specs.declared.buf.RoadMapBuf.{RoadMapBuf}
use Rattle.reading.specs.declared.kinds.Stop.{Stop}
use Rattle.reading.specs.declared.kinds.Stop.TheVariants.{Memory}
use Rattle.documents.specs.Maps.{Charted}

-- a map in memory, as it is written
abbrev pub charted : RoadMapBuf → Charted
charted b = record { places = b.n; roads = vec_items b.roads }

-- a map without a fault is built, unless memory runs out
abbrev pub Built : Charted → Result RoadMapBuf Stop → Type 0
Built m (Ok b) = charted b ≡ m
Built m (Err e) = e ≡ Memory
