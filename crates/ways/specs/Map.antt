-- The abstract map, the distance of two places, and the next place on a cheapest way. Assumes nothing.
--
-- Glossary
--   Map        places 0 to n - 1, and what the road from one place to another costs; 0 where there is none
--   Far        a distance: At c, or Never where there is no way
--   within k   the least cost of a way of at most k roads
--   far        the distance from a to d: the least cost of a way of at most n roads, which is the least of all
--   Hop        the next place of a way: To e, or Nowhere
--   hop        the next place from a towards d: the lowest neighbour on a way of least cost
use Rattle.std.specs.Prelude.{ℕ, zero, suc, ◌+◌, Bool, true, false, cond, ◌&&◌, ◌==◌, nat_lt}

pub record Map : Type 0 where
  pub n : ℕ
  pub cost : ℕ → ℕ → ℕ

pub data Far : Type 0 where
  Never : Far
  At : (cost : ℕ) → Far

-- a road and then a way
abbrev pub plus : ℕ → Far → Far
plus zero f = Never
plus (suc c) Never = Never
plus (suc c) (At k) = At (suc c + k)

-- the lower of two distances
abbrev pub lower : Far → Far → Far
lower Never f = f
lower (At a) Never = At a
lower (At a) (At e) = At (cond (nat_lt e a) e a)

-- the lowest by way of the next places 0 to k - 1
unfoldable pub lowest : Map → (ℕ → Far) → ℕ → ℕ → Far
lowest z f a zero = Never
lowest z f a (suc k) = lower (lowest z f a k) (plus (z.cost a k) (f k))

-- no road at all
abbrev pub home : ℕ → ℕ → Far
home d a = cond (a == d) (At 0) Never

unfoldable pub within : ℕ → Map → ℕ → ℕ → Far
within zero z d a = home d a
within (suc k) z d a = lower (home d a) (lowest z (λ e. within k z d e) a z.n)

abbrev pub far : Map → ℕ → ℕ → Far
far z d a = within z.n z d a

abbrev pub same_far : Far → Far → Bool
same_far Never Never = true
same_far Never (At e) = false
same_far (At a) Never = false
same_far (At a) (At e) = a == e

-- there is a way
abbrev pub some : Far → Bool
some Never = false
some (At c) = true

pub data Hop : Type 0 where
  Nowhere : Hop
  To : (place : ℕ) → Hop

-- the road from a to e is the first of a way of least cost to d
abbrev pub on_way : Map → ℕ → ℕ → ℕ → Bool
on_way z d a e = some (plus (z.cost a e) (far z d e)) && same_far (plus (z.cost a e) (far z d e)) (far z d a)

-- the lowest such place of e, e + 1, .., e + k - 1
unfoldable pub first_on_way : Map → ℕ → ℕ → ℕ → ℕ → Hop
first_on_way z d a e zero = Nowhere
first_on_way z d a e (suc k) = cond (on_way z d a e) (To e) (first_on_way z d a (e + 1) k)

abbrev pub hop : Map → ℕ → ℕ → Hop
hop z d a = cond (a == d) Nowhere (first_on_way z d a 0 z.n)
