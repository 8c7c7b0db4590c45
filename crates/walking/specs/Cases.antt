-- Worked cases: what is near, hinted, passed and paid on small maps with their landmarks. Assumes nothing.
use Rattle.std.specs.Prelude.{◌≡◌, ℕ, ◌*◌, ◌<◌, ◌≤◌, Bool, true, false, not, ◌&&◌, List, [], ◌∷◌, length, ◌==◌}
use Rattle.ways.specs.Map.{Map, Far, At, far, same_far}
use Rattle.ways.specs.Ways.{all_below}
use Rattle.landmarks.specs.Landmarks.{Marks, near, Sound}
use Rattle.posts.specs.declared.kinds.Line.{Line}
use Rattle.posts.specs.Posts.{post_of}
use Rattle.cards.specs.Cards.{hint_number, card_of}
use Rattle.walking.specs.Walks.{walk_of, trail_of, posts_of}
use Rattle.walking.specs.Trees.{Tree}
use Rattle.walking.specs.SmallMaps.{row, star, triangle, flat, only, every}
use Rattle.walking.specs.declared.kinds.End.{End}
use Rattle.walking.specs.declared.kinds.End.TheVariants.{Arrived, Stuck, Worn}

-- ---- a case, and whether it holds
pub record Case : Type 0 where
  pub map : Map
  pub marks : Marks
  pub from : ℕ
  pub to : ℕ
  pub is_near : Bool
  pub away : ℕ
  pub hint : ℕ
  pub by : List ℕ
  pub cost : ℕ

abbrev pub same_bool : Bool → Bool → Bool
same_bool true b = b
same_bool false b = not b

unfoldable pub same_list : List ℕ → List ℕ → Bool
same_list [] [] = true
same_list [] (y ∷ ys) = false
same_list (x ∷ xs) [] = false
same_list (x ∷ xs) (y ∷ ys) = x == y && same_list xs ys

-- one has arrived, at the cost of a distance
abbrev pub arrived_at : End → Far → Bool
arrived_at (Arrived c) f = same_far (At c) f
arrived_at (Stuck u) f = false
arrived_at Worn f = false

abbrev pub holds : Case → Bool
holds c =
    same_bool (near c.map c.marks c.from c.to) c.is_near
    && same_far (far c.map c.to c.from) (At c.away)
    && hint_number (card_of c.map c.marks c.to).hint == c.hint
    && same_list (trail_of c.map (posts_of c.map c.marks) (card_of c.map c.marks c.to) c.from) c.by
    && arrived_at (walk_of c.map (posts_of c.map c.marks) (card_of c.map c.marks c.to) c.from) (At c.cost)

unfoldable pub all_hold : List Case → Bool
all_hold [] = true
all_hold (c ∷ cs) = holds c && all_hold cs

-- ---- the table
abbrev pub cases : List Case
cases =
    record { map = row; marks = only 0; from = 0; to = 3; is_near = false; away = 3; hint = 1; by = 1 ∷ 2 ∷ 3 ∷ []; cost = 3 }
    ∷ record { map = row; marks = only 0; from = 1; to = 3; is_near = true; away = 2; hint = 1; by = 2 ∷ 3 ∷ []; cost = 2 }
    ∷ record { map = row; marks = only 0; from = 2; to = 3; is_near = true; away = 1; hint = 1; by = 3 ∷ []; cost = 1 }
    ∷ record { map = row; marks = only 0; from = 4; to = 3; is_near = true; away = 1; hint = 1; by = 3 ∷ []; cost = 1 }
    ∷ record { map = row; marks = only 0; from = 4; to = 1; is_near = false; away = 3; hint = 1; by = 3 ∷ 2 ∷ 1 ∷ []; cost = 3 }
    ∷ record { map = star; marks = only 1; from = 2; to = 3; is_near = false; away = 2; hint = 0; by = 0 ∷ 3 ∷ []; cost = 2 }
    ∷ record { map = star; marks = only 1; from = 0; to = 3; is_near = true; away = 1; hint = 0; by = 3 ∷ []; cost = 1 }
    ∷ record { map = triangle; marks = only 0; from = 1; to = 2; is_near = false; away = 3; hint = 2; by = 0 ∷ 2 ∷ []; cost = 4 }
    ∷ record { map = flat; marks = only 0; from = 2; to = 1; is_near = false; away = 1; hint = 1; by = 0 ∷ 1 ∷ []; cost = 3 }
    ∷ record { map = row; marks = every; from = 4; to = 1; is_near = false; away = 3; hint = 65535; by = 3 ∷ 2 ∷ 1 ∷ []; cost = 3 }
    ∷ record { map = triangle; marks = every; from = 1; to = 2; is_near = false; away = 3; hint = 65535; by = 2 ∷ []; cost = 3 }
    ∷ []

abbrev pub CasesHold : Type 0
CasesHold = all_hold cases ≡ true

-- ---- landmarks everywhere
unfoldable pub none_near : List Line → Bool
none_near [] = true
none_near (x ∷ xs) = not x.near && none_near xs

-- nothing is near, all lines are of landmarks, and every way is cheapest
abbrev pub everywhere : Map → Bool
everywhere z =
    all_below z.n (λ u.
    none_near (post_of z every u)
    && all_below z.n (λ v. not (near z every u v) && arrived_at (walk_of z (posts_of z every) (card_of z every v) u) (far z v u)))

abbrev pub LandmarksEverywhere : Type 0
LandmarksEverywhere = (everywhere row && everywhere triangle) ≡ true

-- ---- on a map of nine places no post has more than 8 lines, with place 0 as the only landmark
abbrev pub NinePlaces : Type 0
NinePlaces = (z : Map) (u : ℕ) → z.n ≡ 9 → u < 9 → length (post_of z (only 0) u) ≤ 8

-- ---- the row and the star are trees
abbrev pub TreesThere : Type 0
TreesThere = Tree row × Tree star

-- ---- the bound of three times the distance is reached
pub record Thrice : Type 0 where
  pub z : Map
  pub l : Marks
  pub u : ℕ
  pub v : ℕ
  pub away : ℕ
  pub sound : Sound z l
  pub u_there : u < z.n
  pub v_there : v < z.n
  pub away_is : far z v u ≡ At away
  pub some : 0 < away
  pub reached : walk_of z (posts_of z l) (card_of z l v) u ≡ Arrived (3 * away)
