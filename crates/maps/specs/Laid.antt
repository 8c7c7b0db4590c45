-- What laying out a map leads to: a map of these places and roads, or why there is none. Assumes nothing.
use Rattle.std.specs.Prelude.{◌≡◌, ℕ, ◌⊎◌, List, Some, None, Ok, Err, vec_items, Result}
use Rattle.maps.specs.declared.kinds.Fault.{Fault}
use Rattle.maps.specs.declared.kinds.Fault.TheVariants.{Memory}
use Rattle.maps.specs.declared.kinds.Road.{Road}
use Rattle.maps.specs.declared.buf.RoadMapBuf.{RoadMapBuf}
use Rattle.maps.specs.Roads.{map_fault}

-- a map is made just where there is no fault, unless memory runs out
abbrev pub Laid : ℕ → List Road → Result RoadMapBuf Fault → Type 0
Laid n roads (Ok b) = (b.n ≡ n) × (vec_items b.roads ≡ roads) × (map_fault n roads ≡ None)
Laid n roads (Err f) = (f ≡ Memory) ⊎ (map_fault n roads ≡ Some f)
