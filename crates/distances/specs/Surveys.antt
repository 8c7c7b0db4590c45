-- What surveying a map gives, and what is found in it. Assumes nothing.
use Rattle.std.specs.Prelude.{◌≡◌, ℕ, cond, ◌&&◌, Ok, Err, Result, nat_lt}
use Rattle.distances.specs.Rows.{far_number, hop_number}
use Rattle.distances.specs.declared.survey.Survey.{Survey}
use Rattle.maps.specs.declared.buf.RoadMapBuf.{RoadMapBuf}
use Rattle.maps.specs.declared.kinds.Fault.{Fault}
use Rattle.maps.specs.declared.kinds.Fault.TheVariants.{Memory}
use Rattle.ways.specs.Map.{Map, far, hop}

-- the survey of just this map; only memory can be wanting
abbrev pub Surveyed : RoadMapBuf → Result Survey Fault → Type 0
Surveyed map (Ok s) = s.map ≡ map
Surveyed map (Err f) = f ≡ Memory

-- the number of a distance, that of no way beyond the places
abbrev pub far_in : Map → ℕ → ℕ → ℕ
far_in z d a = cond (nat_lt d z.n && nat_lt a z.n) (far_number (far z d a)) 4294967295

-- the number of a next place, that of none beyond the places
abbrev pub hop_in : Map → ℕ → ℕ → ℕ
hop_in z d a = cond (nat_lt d z.n && nat_lt a z.n) (hop_number (hop z d a)) 65535
