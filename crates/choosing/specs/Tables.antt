-- All distances of a map in a list, how far each place is from its landmark, and counting by them. Assumes nothing.
--
-- Glossary
--   table   all distances, row by row
--   away    how far each place is from its landmark
--   near    how many places are closer to a place than to their landmarks; the place itself is one of them, unless it is a landmark
--   lost    how many of these a landmark more takes away
use Rattle.std.specs.Prelude.{◌≡◌, ℕ, ◌+◌, ◌-◌, ◌*◌, ◌<◌, ◌≤◌, cond, ◌&&◌, ltb, Bool, false, List, nat_le, nat_lt, slice_index, slice_index_or}
use Rattle.choosing.specs.Choosing.{sum_below}
use Rattle.landmarks.specs.Landmarks.{Marks, away_of, mark_of}
use Rattle.ways.specs.Map.{Map, At, far}
use Rattle.ways.specs.Ways.{count_below}

-- how far u and v are apart, by the table
abbrev pub apart : ℕ → List ℕ → ℕ → ℕ → ℕ
apart n table u v = slice_index table (u * n + v)

-- the table has all distances of the map, and there is a way from each place to each
pub record Table (z : Map) (n : ℕ) (table : List ℕ) : Type 0 where
  pub places : z.n ≡ n
  pub is : (v u : ℕ) → v < n → u < n → far z v u ≡ At (apart n table v u)
  pub both : (v u : ℕ) → v < n → u < n → apart n table v u ≡ apart n table u v

-- and away has how far each place is from its landmark
pub record Aways (z : Map) (l : Marks) (n : ℕ) (table away : List ℕ) : Type 0 where
  pub tabled : Table z n table
  pub aways : (v : ℕ) → v < n → away_of (mark_of z l v) ≡ At (slice_index away v)

-- how many of the first k places of a row are closer than they are to their landmarks
abbrev pub near_by : ℕ → List ℕ → List ℕ → ℕ
near_by k row away = count_below k (λ v. ltb (slice_index row v) (slice_index away v))

abbrev pub near_to : ℕ → List ℕ → List ℕ → ℕ → ℕ
near_to n table away u = count_below n (λ v. ltb (apart n table u v) (slice_index away v))

-- near has for each post how many places are near
abbrev pub Nears : ℕ → List ℕ → List ℕ → List ℕ → Type 0
Nears n table away near = (u : ℕ) → u < n → slice_index near u ≡ near_to n table away u

-- lines above room, over the posts below k, with so many landmarks: a post has a line for each landmark and for each place that is near, but
-- not for its own place, which is one of these
abbrev pub over_below : List ℕ → ℕ → ℕ → ℕ → ℕ
over_below near count room k = sum_below k (λ u. (count + slice_index near u) - (room + 1))

-- 1 from `low` on and before `high`, else 0
abbrev pub between01 : ℕ → ℕ → ℕ → ℕ
between01 low high x = cond (nat_le low x && nat_lt x high) 1 0

-- how many of the places below k were near u, and are no closer to u than to c
abbrev pub lost_below : ℕ → List ℕ → List ℕ → ℕ → ℕ → ℕ → ℕ
lost_below n table away c u k = count_below k (λ v. nat_le (apart n table c v) (apart n table v u) && nat_lt (apart n table v u) (slice_index away v))

-- lines above room that are left where so many are lost
abbrev pub left_below : List ℕ → List ℕ → ℕ → ℕ → ℕ → ℕ
left_below near lost count room k = sum_below k (λ u. (count + slice_index near u) - (slice_index lost u + (room + 1)))

-- what one place v loses at all posts by a landmark c, each post counting as much as w says
abbrev pub loss_at : ℕ → List ℕ → List ℕ → (ℕ → ℕ) → ℕ → ℕ → ℕ
loss_at n table away w v c = sum_below n (λ u. cond (nat_le (apart n table v c) (apart n table v u) && nat_lt (apart n table v u) (slice_index away v)) (w u) 0)

-- how much a post counts by a list that says which posts do
abbrev pub weight : List Bool → ℕ → ℕ
weight hot u = cond (slice_index_or hot u false) 1 0

-- total has for each place at least what it would take away as a landmark, at the posts that count
abbrev pub Bounds : ℕ → List ℕ → List ℕ → List Bool → List ℕ → Type 0
Bounds n table away hot total = (c : ℕ) → c < n → sum_below n (λ v. loss_at n table away (weight hot) v c) ≤ slice_index total c

-- the posts that count: those that would have more lines than room with one landmark more that takes nothing away
abbrev pub Hots : ℕ → List ℕ → ℕ → ℕ → List Bool → Type 0
Hots n near count room hot = (u : ℕ) → u < n → slice_index_or hot u false ≡ nat_lt room (count + slice_index near u)
