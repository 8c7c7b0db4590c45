-- The laws of distances and next places, each as a type; a proof of the type is the theorem. Assumes nothing.
use Rattle.std.specs.Prelude.{◌≡◌, ℕ, ◌+◌, ◌<◌, ◌≤◌, true, ◌≢◌}
use Rattle.ways.specs.Map.{Map, Far, Never, At, within, far, Nowhere, To, hop}
use Rattle.ways.specs.Ways.{Route, AtMost, BothWays, Joined, Distances, hangs_together}

-- The distance is the cost of a way of fewer than n roads, and no way costs less; where there is no distance there is no way.
pub record LeastWay (z : Map) (d a : ℕ) : Type 0 where
  pub some_way : (c : ℕ) → far z d a ≡ At c → (k : ℕ) × (k < z.n) × Route z d a c k
  pub no_less : (c k : ℕ) → Route z d a c k → AtMost (far z d a) c

abbrev pub LeastWays : Type 0
LeastWays = (z : Map) (d a : ℕ) → d < z.n → a < z.n → LeastWay z d a

-- n - 1 roads suffice: more roads give nothing cheaper.
abbrev pub RoadsSuffice : Type 0
RoadsSuffice = (z : Map) (d a k : ℕ) → d < z.n → a < z.n → z.n ≤ k + 1 → within k z d a ≡ far z d a

-- Where roads cost the same both ways, so do ways.
abbrev pub Symmetric : Type 0
Symmetric = (z : Map) → BothWays z → (a e : ℕ) → a < z.n → e < z.n → far z a e ≡ far z e a

-- Going over a third place is never cheaper.
abbrev pub Triangle : Type 0
Triangle = (z : Map) (a e c p q : ℕ) → a < z.n → e < z.n → c < z.n → far z e a ≡ At p → far z c e ≡ At q → AtMost (far z c a) (p + q)

-- A table that bears itself out has the distances, and the distances bear themselves out.
abbrev pub DistancesFixed : Type 0
DistancesFixed = (z : Map) (d : ℕ) → d < z.n → Distances z d (far z d) × ((f : ℕ → Far) → Distances z d f → (a : ℕ) → a < z.n → far z d a ≡ f a)

-- w is one road closer to d than a is, by a road that costs just the difference.
pub record Closer (z : Map) (d a w : ℕ) : Type 0 where
  pub there : w < z.n
  pub neighbour : 0 < z.cost a w
  pub rest : ℕ
  pub rest_is : far z d w ≡ At rest
  pub whole_is : far z d a ≡ At (z.cost a w + rest)

-- The next place is a neighbour, closer to d by the cost of the road, and the lowest such; there is one wherever there is a way, but at d itself.
pub record NextPlace (z : Map) (d a : ℕ) : Type 0 where
  pub closer : (w : ℕ) → hop z d a ≡ To w → Closer z d a w
  pub lowest_such : (w x : ℕ) → hop z d a ≡ To w → x < w → Closer z d a x → ⊥
  pub there : (c : ℕ) → far z d a ≡ At c → (a ≢ d) → (w : ℕ) × (hop z d a ≡ To w)
  pub nowhere_at : a ≡ d → hop z d a ≡ Nowhere
  pub nowhere_cut : far z d a ≡ Never → hop z d a ≡ Nowhere

abbrev pub NextPlaces : Type 0
NextPlaces = (z : Map) (d a : ℕ) → d < z.n → a < z.n → NextPlace z d a

-- Where every place has a way to one and roads cost the same both ways, there is a way from each to each.
abbrev pub JoinedByOne : Type 0
JoinedByOne = (z : Map) (d : ℕ) → BothWays z → d < z.n → ((a : ℕ) → a < z.n → (c : ℕ) × (far z d a ≡ At c)) → Joined z

-- The test on place 0 says just that there is a way from each place to each.
abbrev pub HangingTogether : Type 0
HangingTogether = (z : Map) → BothWays z → 0 < z.n → (hangs_together z ≡ true → Joined z) × (Joined z → hangs_together z ≡ true)
