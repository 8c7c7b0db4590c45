-- What stands on the post at a place, line by line, and how a line is found. Assumes nothing.
--
-- Glossary
--   line_of    the line for v on the post at u
--   lines_of   the lines on the post at u for the places v, v + 1, .., v + k - 1, in that order
--   post_of    all lines of the post at u, in rising order of places
--   told       the lines that a post in memory holds
--   find_in    the line for a place among some lines
--   place_at   the place that the line at an index names
use Rattle.std.specs.Prelude.{ℕ, zero, suc, ◌+◌, false, cond, List, [], ◌∷◌, take, Some, None, Option, ◌==◌, slice_index_or}
use Rattle.ways.specs.Map.{Map, hop}
use Rattle.distances.specs.Rows.{hop_number}
use Rattle.landmarks.specs.Landmarks.{Marks, near, on_post}
use Rattle.posts.specs.declared.kinds.Line.{Line}
use Rattle.posts.specs.declared.kinds.Post.{Post}

abbrev pub line_of : Map → Marks → ℕ → ℕ → Line
line_of z l u v = record { place = v; next = hop_number (hop z v u); near = near z l u v }

unfoldable pub lines_of : Map → Marks → ℕ → ℕ → ℕ → List Line
lines_of z l u v zero = []
lines_of z l u v (suc k) = cond (on_post z l u v) (line_of z l u v ∷ lines_of z l u (v + 1) k) (lines_of z l u (v + 1) k)

abbrev pub post_of : Map → Marks → ℕ → List Line
post_of z l u = lines_of z l u 0 z.n

abbrev pub told : Post → List Line
told p = take p.count p.lines

abbrev pub find_in : ℕ → List Line → Option Line
find_in place [] = None
find_in place (x ∷ xs) = cond (x.place == place) (Some x) (find_in place xs)

abbrev pub place_at : List Line → ℕ → ℕ
place_at xs k = (slice_index_or xs k (record { place = 0; next = 0; near = false })).place
