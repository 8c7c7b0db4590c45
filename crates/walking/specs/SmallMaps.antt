-- Small maps that one can draw, and their landmarks. Assumes nothing.
use Rattle.std.specs.Prelude.{ℕ, Bool, true, cond, ◌&&◌, ◌||◌, List, [], ◌∷◌, ◌==◌}
use Rattle.ways.specs.Map.{Map}
use Rattle.landmarks.specs.Landmarks.{Marks}

-- ---- maps of roads that cost the same both ways
pub record Road : Type 0 where
  pub one : ℕ
  pub other : ℕ
  pub price : ℕ

abbrev pub between : ℕ → ℕ → ℕ → Road
between a e c = record { one = a; other = e; price = c }

-- whether a road leads from a to e
abbrev pub leads : Road → ℕ → ℕ → Bool
leads r a e = (r.one == a && r.other == e) || (r.one == e && r.other == a)

unfoldable pub priced : List Road → ℕ → ℕ → ℕ
priced [] a e = 0
priced (r ∷ rs) a e = cond (leads r a e) r.price (priced rs a e)

abbrev pub road_map : ℕ → List Road → Map
road_map n rs = record { n = n; cost = priced rs }

--   0 - 1 - 2 - 3 - 4      a row
abbrev pub row : Map
row = road_map 5 (between 0 1 1 ∷ between 1 2 1 ∷ between 2 3 1 ∷ between 3 4 1 ∷ [])

--   1   2
--     0                    a star
--   3   4
abbrev pub star : Map
star = road_map 5 (between 0 1 1 ∷ between 0 2 1 ∷ between 0 3 1 ∷ between 0 4 1 ∷ [])

--   0 -1- 1
--    3   3                 a triangle
--      2
abbrev pub triangle : Map
triangle = road_map 3 (between 0 1 1 ∷ between 0 2 3 ∷ between 1 2 3 ∷ [])

--   0 -1- 1
--    2   1                 a triangle whose long side costs as much as the others together
--      2
abbrev pub flat_roads : List Road
flat_roads = between 0 1 1 ∷ between 0 2 2 ∷ between 1 2 1 ∷ []

abbrev pub flat : Map
flat = road_map 3 flat_roads

-- one landmark alone, and landmarks everywhere
abbrev pub only : ℕ → Marks
only m v = v == m

abbrev pub every : Marks
every v = true
