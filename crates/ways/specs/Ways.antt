-- Ways along roads, maps that hang together, and what makes a table the distances to a place. Assumes nothing.
use Rattle.std.specs.Prelude.{◌≡◌, ℕ, zero, suc, ◌+◌, ◌<◌, ◌≤◌, Bool, true, cond, ◌&&◌, ◌≢◌}
use Rattle.ways.specs.Map.{Map, Far, At, far, some}

-- Route z d a c k: a way from a to d that costs c and has k roads. It is no road at all, or a road and a way from its end.
pub data Route (z : Map) (d : ℕ) : ℕ → ℕ → ℕ → Type 0 where
  arrived : d < z.n → Route z d d 0 0
  road : (a e c k : ℕ) → a < z.n → 0 < z.cost a e → Route z d e c k → Route z d a (z.cost a e + c) (1 + k)

-- a distance that is there and at most so much
abbrev pub AtMost : Far → ℕ → Type 0
AtMost x c = (j : ℕ) × (x ≡ At j) × (j ≤ c)

-- roads cost the same both ways
abbrev pub BothWays : Map → Type 0
BothWays z = (a e : ℕ) → z.cost a e ≡ z.cost e a

-- there is a way from each place to each
abbrev pub Joined : Map → Type 0
Joined z = (a e : ℕ) → a < z.n → e < z.n → (c : ℕ) × (far z a e ≡ At c)

-- A table f of distances to d bears itself out: d is at 0; from elsewhere some road leads on to a place that is closer by its cost; no road
-- leads to a place that is closer by more. Three laws on neighbours alone, and they fix the whole table.
pub record Distances (z : Map) (d : ℕ) (f : ℕ → Far) : Type 0 where
  pub here : f d ≡ At 0
  pub step : (a k : ℕ) → a < z.n → (a ≢ d) → f a ≡ At k → (e : ℕ) × (j : ℕ) × (e < z.n) × (0 < z.cost a e) × (f e ≡ At j) × (k ≡ z.cost a e + j)
  pub less : (a e j : ℕ) → a < z.n → e < z.n → 0 < z.cost a e → f e ≡ At j → (k : ℕ) × (f a ≡ At k) × (k ≤ z.cost a e + j)

-- f holds of each number below k
unfoldable pub all_below : ℕ → (ℕ → Bool) → Bool
all_below zero f = true
all_below (suc k) f = f k && all_below k f

-- the map hangs together: there is a way from each place to place 0
abbrev pub hangs_together : Map → Bool
hangs_together z = all_below z.n (λ a. some (far z 0 a))

-- how many numbers below k there are of which f holds
unfoldable pub count_below : ℕ → (ℕ → Bool) → ℕ
count_below zero f = 0
count_below (suc k) f = cond (f k) 1 0 + count_below k f
