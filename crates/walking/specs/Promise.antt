-- The promise of the whole: by the posts and the card of a map everybody arrives, and at which cost. Assumes nothing.
use Rattle.std.specs.Prelude.{◌≡◌, ℕ, ◌+◌, ◌*◌, ◌<◌, ◌≤◌, true, List, [], ◌∷◌}
use Rattle.ways.specs.Map.{Map, At, far}
use Rattle.ways.specs.Ways.{Route}
use Rattle.landmarks.specs.Landmarks.{Marks, near, Sound}
use Rattle.posts.specs.Posts.{post_of}
use Rattle.cards.specs.Cards.{card_of}
use Rattle.cards.specs.declared.kinds.Card.{Card}
use Rattle.walking.specs.Walks.{Posts, walk_of, travels, trail_of, posts_of}
use Rattle.walking.specs.General.{saying, Leads, Inside}
use Rattle.walking.specs.declared.kinds.End.{End}
use Rattle.walking.specs.declared.kinds.End.TheVariants.{Arrived}

-- The walk from u with the card of v, by the posts of the map.
pub record Whole (z : Map) (l : Marks) (u v : ℕ) : Type 0 where
  pub cost : ℕ
  pub roads : ℕ
  pub away : ℕ
  -- one arrives, within the budget of 2 n roads
  pub arrives : walk_of z (posts_of z l) (card_of z l v) u ≡ Arrived cost
  -- and in truth after so many roads, fewer than n
  pub few : roads < z.n
  pub in_time : (k : ℕ) → roads < k → travels k z (posts_of z l) (card_of z l v) 0 u ≡ Arrived cost
  -- no place on the way comes twice
  pub no_ring : (x i j : ℕ) → Leads (saying (posts_of z l) (card_of z l v)) v x u i → Leads (saying (posts_of z l) (card_of z l v)) v x x (1 + j) → ⊥
  -- what is walked is a way of the map, of just that cost
  pub way : Route z v u cost roads
  -- it costs at most three times the distance
  pub away_is : far z v u ≡ At away
  pub thrice : cost ≤ 3 * away
  -- and just the distance, if the place is near the first post or is a landmark
  pub from_near : near z l u v ≡ true → cost ≡ away
  pub to_landmark : l v ≡ true → cost ≡ away

abbrev pub Promise : Type 0
Promise = (z : Map) (l : Marks) → Sound z l → (u v : ℕ) → u < z.n → v < z.n → Whole z l u v

-- By whatever posts and card, right or wrong: whoever arrives has walked a way of the map of just that cost, by fewer roads than he might go.
abbrev pub WalksWays : Type 0
WalksWays = (z : Map) (posts : Posts) (card : Card) (k u c : ℕ) → Inside z → u < z.n → card.place < z.n → travels k z posts card 0 u ≡ Arrived c → (j : ℕ) × (j < k) × Route z card.place u c j

-- What the end r of a walk from u to v keeps of the promise: one has arrived, by a way of the map of just that cost and of fewer than n roads;
-- it costs at most three times the distance, and just the distance, if the place is near the first post or is a landmark.
pub record Kept (z : Map) (l : Marks) (u v : ℕ) (r : End) : Type 0 where
  pub cost : ℕ
  pub roads : ℕ
  pub away : ℕ
  pub arrived : r ≡ Arrived cost
  pub few : roads < z.n
  pub way : Route z v u cost roads
  pub away_is : far z v u ≡ At away
  pub thrice : cost ≤ 3 * away
  pub from_near : near z l u v ≡ true → cost ≡ away
  pub to_landmark : l v ≡ true → cost ≡ away

-- The end r of a walk from u by posts and a card keeps the promise, whatever the landmarks are of which they are the posts and the card.
abbrev pub Keeps : Map → Posts → Card → ℕ → End → Type 0
Keeps z posts card u r =
    (l : Marks) (v : ℕ) → Sound z l → u < z.n → v < z.n → ((a : ℕ) → a < z.n → posts a ≡ post_of z l a) → card ≡ card_of z l v → Kept z l u v r

-- From u by the places of a list, one after the other, one comes to v; there is a road from each to the next, and the roads cost c in all.
pub data Along (z : Map) (v : ℕ) : ℕ → ℕ → List ℕ → Type 0 where
  here : Along z v v 0 []
  by : (u e c : ℕ) (xs : List ℕ) → 0 < z.cost u e → Along z v e c xs → Along z v u (z.cost u e + c) (e ∷ xs)

-- If r is an arrival, the places to which one came lead from u to the place of the card at just that cost, by whatever posts.
abbrev pub Passes : Map → Posts → Card → ℕ → End → Type 0
Passes z posts card u r = (c : ℕ) → r ≡ Arrived c → Along z card.place u c (trail_of z posts card u)
