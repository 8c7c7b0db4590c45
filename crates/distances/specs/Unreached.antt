-- The lowest place from which there is no way to place 0. Assumes nothing.
--
-- Glossary
--   first_apart    the first such place of a, a + 1, .., a + k - 1
--   lowest_apart   the first of all places
--   Lowest         what that is: none just where the map hangs together, else a place that has no way, and all below it have one
use Rattle.std.specs.Prelude.{◌≡◌, ℕ, zero, suc, ◌+◌, ◌<◌, true, false, cond, Some, None, Option}
use Rattle.ways.specs.Map.{Map, far, some}
use Rattle.ways.specs.Ways.{hangs_together}

unfoldable pub first_apart : Map → ℕ → ℕ → Option ℕ
first_apart z a zero = None
first_apart z a (suc k) = cond (some (far z 0 a)) (first_apart z (a + 1) k) (Some a)

abbrev pub lowest_apart : Map → Option ℕ
lowest_apart z = first_apart z 0 z.n

abbrev pub Lowest : Map → Option ℕ → Type 0
Lowest z None = hangs_together z ≡ true
Lowest z (Some p) = (p < z.n) × (some (far z 0 p) ≡ false) × ((a : ℕ) → a < p → some (far z 0 a) ≡ true)
