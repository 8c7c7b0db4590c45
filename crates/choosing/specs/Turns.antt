-- What one turn of choosing goes by, and what it finds. Assumes nothing.
--
-- Glossary
--   ball     how many places are closer to a place than its landmark is: the first so many of its order
--   Ranked   each row has each place once, the closest first
--   Picked   the place after which the lines above room are fewest, if any place is left
use Rattle.std.specs.Prelude.{◌≡◌, ℕ, ◌<◌, ◌≤◌, Bool, false, List, Some, None, Option, slice_index, slice_index_or}
use Rattle.choosing.specs.Choosing.{Best, NoPlace, Place, best}
use Rattle.choosing.specs.Tables.{apart}
use Rattle.choosing.specs.declared.turn.Best.{Best as Best₀}
use Rattle.distances.specs.Orders.{Sorted, in_order, rank_in}
use Rattle.landmarks.specs.Landmarks.{Marks}
use Rattle.ways.specs.Map.{Map}

-- the first so many of an order are closer than `to`, and no others
pub record Ball (n : ℕ) (far seq : ℕ → ℕ) (to ball : ℕ) : Type 0 where
  pub few : ball ≤ n
  pub inner : (j : ℕ) → j < ball → far (seq j) < to
  pub outer : (j : ℕ) → ball ≤ j → j < n → to ≤ far (seq j)

-- none past the first so many is closer than `to`
pub record Outer (n : ℕ) (far seq : ℕ → ℕ) (to ball : ℕ) : Type 0 where
  pub few : ball ≤ n
  pub outer : (j : ℕ) → ball ≤ j → j < n → to ≤ far (seq j)

abbrev pub SortedAt : ℕ → List ℕ → List ℕ → ℕ → Type 0
SortedAt n table order v = Sorted n (apart n table v) (in_order n order v)

abbrev pub BallAt : ℕ → List ℕ → List ℕ → ℕ → ℕ → ℕ → Type 0
BallAt n table order v to ball = Ball n (apart n table v) (in_order n order v) to ball

abbrev pub OuterAt : ℕ → List ℕ → List ℕ → ℕ → ℕ → ℕ → Type 0
OuterAt n table order v to ball = Outer n (apart n table v) (in_order n order v) to ball

abbrev pub Balls : ℕ → List ℕ → List ℕ → List ℕ → List ℕ → Type 0
Balls n table order away ball = (v : ℕ) → v < n → BallAt n table order v (slice_index away v) (slice_index ball v)

abbrev pub Outers : ℕ → List ℕ → List ℕ → List ℕ → List ℕ → Type 0
Outers n table order away ball = (v : ℕ) → v < n → OuterAt n table order v (slice_index away v) (slice_index ball v)

pub record RankedAt (n : ℕ) (table order : List ℕ) (v : ℕ) : Type 0 where
  pub inside : (j : ℕ) → j < n → in_order n order v j < n
  pub there : (u : ℕ) → u < n → rank_in n order v u < n
  pub back : (u : ℕ) → u < n → in_order n order v (rank_in n order v u) ≡ u
  pub forth : (j : ℕ) → j < n → rank_in n order v (in_order n order v j) ≡ j
  pub rises : (i j : ℕ) → i ≤ j → j < n → apart n table v (in_order n order v i) ≤ apart n table v (in_order n order v j)

abbrev pub Ranked : ℕ → List ℕ → List ℕ → Type 0
Ranked n table order = (v : ℕ) → v < n → RankedAt n table order v

abbrev pub read_best : Option Best₀ → Best
read_best None = NoPlace
read_best (Some b) = Place b.place b.lines

-- the best place, or none if none is left
abbrev pub Picked : Map → ℕ → Marks → Option Best₀ → Type 0
Picked z room l r = best z room l z.n ≡ read_best r

-- a place below i that is no landmark, if any
abbrev pub Open : List Bool → ℕ → Option Best₀ → Type 0
Open marks i None = Unit {0}
Open marks i (Some b) = (b.place < i) × (slice_index_or marks b.place false ≡ false)
