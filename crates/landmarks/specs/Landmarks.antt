-- Landmarks, the landmark of a place, what is near, and how many lines a post has. Assumes nothing.
--
-- Glossary
--   Marks        which places are landmarks
--   nearest      the landmark closest to v among the places 0 to k - 1, with its distance: the lowest among equals
--   mark_of      the landmark of v: the one at the least distance, the lowest among equals
--   near         v is near u: u is closer to v than v's landmark is ("closer", not "as close")
--   on_post      v has a line on the post at u: v is a landmark or near u, and is not u
--   line_count   how many lines the post at u has
use Rattle.std.specs.Prelude.{◌≡◌, ℕ, zero, suc, ◌<◌, Bool, true, false, cond, not, ◌&&◌, ◌||◌, List, ◌==◌, nat_lt, slice_index_or}
use Rattle.ways.specs.Map.{Map, Far, Never, At, far}
use Rattle.ways.specs.Ways.{BothWays, Joined, count_below}

abbrev pub Marks : Type 0
Marks = ℕ → Bool

-- landmarks as a list holds them, place by place
abbrev pub marks_in : List Bool → Marks
marks_in marks a = slice_index_or marks a false

abbrev pub closer : Far → Far → Bool
closer Never f = false
closer (At a) Never = true
closer (At a) (At e) = nat_lt a e

pub data Mark : Type 0 where
  NoMark : Mark
  Is : (place : ℕ) → (away : Far) → Mark

abbrev pub or_closer : Mark → ℕ → Far → Mark
or_closer NoMark k f = Is k f
or_closer (Is m a) k f = cond (closer f a) (Is k f) (Is m a)

unfoldable pub nearest : Map → Marks → ℕ → ℕ → Mark
nearest z l v zero = NoMark
nearest z l v (suc k) = cond (l k) (or_closer (nearest z l v k) k (far z v k)) (nearest z l v k)

abbrev pub mark_of : Map → Marks → ℕ → Mark
mark_of z l v = nearest z l v z.n

abbrev pub away_of : Mark → Far
away_of NoMark = Never
away_of (Is m a) = a

abbrev pub place_of : Mark → ℕ
place_of NoMark = 0
place_of (Is m a) = m

abbrev pub near : Map → Marks → ℕ → ℕ → Bool
near z l u v = closer (far z v u) (away_of (mark_of z l v))

abbrev pub on_post : Map → Marks → ℕ → ℕ → Bool
on_post z l u v = not (v == u) && (l v || near z l u v)

abbrev pub line_count : Map → Marks → ℕ → ℕ
line_count z l u = count_below z.n (on_post z l u)

-- roads cost the same both ways, there is a way from each place to each, and there is a landmark
pub record Sound (z : Map) (l : Marks) : Type 0 where
  pub both : BothWays z
  pub joined : Joined z
  pub some_mark : (m : ℕ) × (m < z.n) × (l m ≡ true)
