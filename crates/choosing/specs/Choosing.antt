-- How landmarks are chosen, so that every post has room for its lines. Assumes nothing.
--
-- Glossary
--   room        how many lines a post has room for, its own place not counted
--   above       the lines above room, summed over all posts
--   with_mark   one landmark more
--   best        of the places 0 to k - 1 that aren't landmarks the one after which the lines above room are fewest, the lowest among equals
--   Chosen      what the rule ends with: landmarks that leave every post with room, or landmarks with which it gave up
--   choose      the rule from some landmarks on: it ends when no post has more lines than room, or when there are more landmarks than room
--   chosen      the rule from its start: place 0 is the only landmark
use Rattle.std.specs.Prelude.{ℕ, zero, suc, ◌+◌, ◌-◌, cond, ◌||◌, ◌==◌, nat_lt}
use Rattle.landmarks.specs.Landmarks.{Marks, line_count}
use Rattle.ways.specs.Map.{Map}
use Rattle.ways.specs.Ways.{count_below}

-- the sum of f over the numbers below k
unfoldable pub sum_below : ℕ → (ℕ → ℕ) → ℕ
sum_below zero f = 0
sum_below (suc k) f = f k + sum_below k f

-- a post that has no more lines than room has none above it: the difference stops at 0
abbrev pub above : Map → ℕ → Marks → ℕ
above z room l = sum_below z.n (λ u. line_count z l u - room)

abbrev pub with_mark : ℕ → Marks → Marks
with_mark c l v = v == c || l v

pub data Best : Type 0 where
  NoPlace : Best
  Place : (place lines : ℕ) → Best

abbrev pub or_better : ℕ → ℕ → Best → Best
or_better c x NoPlace = Place c x
or_better c x (Place d y) = cond (nat_lt x y) (Place c x) (Place d y)

unfoldable pub best : Map → ℕ → Marks → ℕ → Best
best z room l zero = NoPlace
best z room l (suc c) = cond (l c) (best z room l c) (or_better c (above z room (with_mark c l)) (best z room l c))

pub data Chosen : Type 0 where
  NoRoom : Marks → Chosen
  Marked : Marks → Chosen

abbrev pub go_on : (Marks → Chosen) → Marks → Best → Chosen
go_on f l NoPlace = NoRoom l
go_on f l (Place c x) = f (with_mark c l)

unfoldable pub choose : ℕ → Map → ℕ → Marks → Chosen
choose zero z room l = NoRoom l
choose (suc k) z room l =
    cond (above z room l == 0) (Marked l)
    (cond (nat_lt room (count_below z.n l)) (NoRoom l) (go_on (choose k z room) l (best z room l z.n)))

abbrev pub first : Marks
first v = v == 0

-- each turn adds a landmark, and with more than room of them it ends: room + 2 turns are enough
abbrev pub chosen : Map → ℕ → Chosen
chosen z room = choose (suc (suc room)) z room first
