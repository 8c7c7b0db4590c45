-- A map as a list of roads: what is wrong with one, and the abstract map that it stands for. Assumes nothing.
--
-- Glossary
--   rises         a road comes after the one before it: by its first place, then by its second
--   road_fault    what is wrong with a road of a map of n places after another, the lowest number first
--   roads_fault   the first fault of a list of roads
--   map_fault     what is wrong with a number of places and a list of roads
--   faultless     nothing is
--   cost_in       the cost of the road between two places, 0 where there is none
--   map_of        the abstract map of n places and these roads
use Rattle.std.specs.Prelude.{◌≡◌, ℕ, ◌<◌, ◌≤◌, Bool, true, false, cond, not, ◌&&◌, ◌||◌, List, [], ◌∷◌, length, Some, None, Option, ◌==◌, nat_le, nat_lt}
use Rattle.ways.specs.Map.{Map}
use Rattle.maps.specs.declared.kinds.Fault.{Fault}
use Rattle.maps.specs.declared.kinds.Fault.TheVariants.{Range, Order, Cost}
use Rattle.maps.specs.declared.kinds.Road.{Road}

abbrev pub comes_after : Road → Road → Bool
comes_after a b = nat_lt a.from b.from || (a.from == b.from && nat_lt a.to b.to)

abbrev pub rises : Option Road → Road → Bool
rises None b = true
rises (Some a) b = comes_after a b

abbrev pub road_fault : ℕ → Option Road → Road → Option Fault
road_fault n last r =
    cond (nat_le n r.from || nat_le n r.to || nat_le r.to r.from) (Some Range)
    (cond (not (rises last r)) (Some Order)
    (cond (r.cost == 0) (Some Cost) None))

-- a fault, or else what comes after it
abbrev pub or_else : Option Fault → Option Fault → Option Fault
or_else None g = g
or_else (Some f) g = Some f

unfoldable pub roads_fault : ℕ → Option Road → List Road → Option Fault
roads_fault n last [] = None
roads_fault n last (r ∷ rs) = or_else (road_fault n last r) (roads_fault n (Some r) rs)

-- how many places and roads there may be
abbrev pub size_fault : ℕ → ℕ → Option Fault
size_fault n roads = cond (n == 0 || nat_lt 512 n || nat_lt 4096 roads) (Some Range) None

abbrev pub map_fault : ℕ → List Road → Option Fault
map_fault n roads = or_else (size_fault n (length roads)) (roads_fault n None roads)

abbrev pub no_fault : Option Fault → Bool
no_fault None = true
no_fault (Some f) = false

abbrev pub faultless : ℕ → List Road → Bool
faultless n roads = no_fault (map_fault n roads)

abbrev pub joins : Road → ℕ → ℕ → Bool
joins r a e = (r.from == a && r.to == e) || (r.from == e && r.to == a)

unfoldable pub cost_in : List Road → ℕ → ℕ → ℕ
cost_in [] a e = 0
cost_in (r ∷ rs) a e = cond (joins r a e) r.cost (cost_in rs a e)

abbrev pub map_of : ℕ → List Road → Map
map_of n roads = record { n = n; cost = cost_in roads }

-- Something that holds of each element and the one before it.
abbrev pub Each : {A : Type 0} → (Option A → A → Type 0) → Option A → List A → Type 0
Each P last [] = Unit {0}
Each P last (a ∷ rest) = P last a × Each P (Some a) rest

-- A road that may follow another in a map of n places.
pub record SoundRoad (n : ℕ) (last : Option Road) (r : Road) : Type 0 where
  pub upward : r.from < r.to
  pub there : r.to < n
  pub later : rises last r ≡ true
  pub costs : 0 < r.cost

-- A map of n places and these roads that has no fault.
pub record SoundRoads (n : ℕ) (roads : List Road) : Type 0 where
  pub some : 0 < n
  pub few : n ≤ 512
  pub short : length roads ≤ 4096
  pub each : Each (SoundRoad n) None roads
