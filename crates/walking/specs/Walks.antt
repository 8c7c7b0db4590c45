-- How one walks by posts and a card, and how a walk ends. Assumes nothing.
--
-- Glossary
--   Posts     the lines that stand at each place, right or wrong
--   goes      where one goes on at u, by the lines there and the card alone
--   step_of   the step of a walker at u: he has arrived, or goes on
--   turn_by   what comes of a step at u on a map, after roads of some cost
--   travels   how a walk ends that may go so many roads more, from u, after roads of some cost
--   trail     the places to which one comes on such a walk after u, in their order
use Rattle.std.specs.Prelude.{ℕ, zero, suc, ◌+◌, ◌*◌, cond, List, [], ◌∷◌, map, Some, None, Option, Ok, Err, Result, ◌==◌, nat_lt, slice_index_or}
use Rattle.ways.specs.Map.{Map, Hop, Nowhere, To}
use Rattle.landmarks.specs.Landmarks.{Marks}
use Rattle.posts.specs.declared.kinds.Line.{Line}
use Rattle.posts.specs.declared.kinds.Post.{Post}
use Rattle.posts.specs.Posts.{told, find_in, post_of}
use Rattle.cards.specs.declared.kinds.Hint.{Hint}
use Rattle.cards.specs.declared.kinds.Hint.TheVariants.{Next, Unneeded}
use Rattle.cards.specs.declared.kinds.Card.{Card}
use Rattle.walking.specs.declared.kinds.Step.{Step}
use Rattle.walking.specs.declared.kinds.Step.TheVariants.{Here, On, Lost}
use Rattle.walking.specs.declared.kinds.Leg.{Leg}
use Rattle.walking.specs.declared.kinds.End.{End}
use Rattle.walking.specs.declared.kinds.End.TheVariants.{Arrived, Stuck, Worn}

abbrev pub Posts : Type 0
Posts = ℕ → List Line

-- posts in memory, in the order of their places; beyond the last there are no lines
abbrev pub posts_in : List Post → Posts
posts_in posts u = slice_index_or (map told posts) u []

-- the number of each end
abbrev pub end_number : End → ℕ
end_number (Arrived c) = 0
end_number (Stuck u) = 1
end_number Worn = 2

-- as a line says, whatever it stands there as
abbrev pub as_line : Option Line → Hop
as_line None = Nowhere
as_line (Some x) = To x.next

abbrev pub as_hint : Hint → Hop
as_hint Unneeded = Nowhere
as_hint (Next e) = To e

-- as a line says that stands there as near, or else as something else says
abbrev pub as_near : Option Line → Hop → Hop
as_near None h = h
as_near (Some x) h = cond x.near (To x.next) h

-- At the landmark of the card, as the hint says. Else as the line of the landmark says.
abbrev pub past_near : List Line → Card → ℕ → Hop
past_near lines card u = cond (u == card.landmark) (as_hint card.hint) (as_line (find_in card.landmark lines))

-- If the place has a line as near, as it says. Else, at the landmark of the card, as the hint says. Else as the line of the landmark says.
abbrev pub goes : List Line → Card → ℕ → Hop
goes lines card u = as_near (find_in card.place lines) (past_near lines card u)

-- one step: first of all, whether one has arrived
abbrev pub as_step : Hop → Step
as_step Nowhere = Lost
as_step (To e) = On e

abbrev pub step_of : List Line → Card → ℕ → Step
step_of lines card u = cond (u == card.place) Here (as_step (goes lines card u))

-- one step on a map, along a road, if there is one; else the walk is over
abbrev pub turn_by : Map → ℕ → ℕ → Step → Result Leg End
turn_by z cost u Here = Err (Arrived cost)
turn_by z cost u Lost = Err (Stuck u)
turn_by z cost u (On e) = cond (nat_lt 0 (z.cost u e)) (Ok (record { place = e; toll = z.cost u e })) (Err (Stuck u))

-- along a road, if there is one
abbrev pub onward : (ℕ → ℕ → End) → Map → ℕ → ℕ → Hop → End
onward f z cost u Nowhere = Stuck u
onward f z cost u (To e) = cond (nat_lt 0 (z.cost u e)) (f (cost + z.cost u e) e) (Stuck u)

-- A walk that has gone all its roads is worn out, even if the last of them ended at the place.
unfoldable pub travels : ℕ → Map → Posts → Card → ℕ → ℕ → End
travels zero z posts card cost u = Worn
travels (suc k) z posts card cost u = cond (u == card.place) (Arrived cost) (onward (travels k z posts card) z cost u (goes (posts u) card u))

-- a whole walk, with its budget of 2 n roads
abbrev pub walk_of : Map → Posts → Card → ℕ → End
walk_of z posts card u = travels (2 * z.n) z posts card 0 u

-- the posts of a map and its landmarks
abbrev pub posts_of : Map → Marks → Posts
posts_of z l u = post_of z l u

-- the places to which one comes, the last one too if one is worn out there
abbrev pub comes : (ℕ → List ℕ) → Result Leg End → List ℕ
comes f (Ok leg) = leg.place ∷ f leg.place
comes f (Err r) = []

unfoldable pub trail : ℕ → Map → Posts → Card → ℕ → List ℕ
trail zero z posts card u = []
trail (suc k) z posts card u = comes (trail k z posts card) (turn_by z 0 u (step_of (posts u) card u))

abbrev pub trail_of : Map → Posts → Card → ℕ → List ℕ
trail_of z posts card u = trail (2 * z.n) z posts card u
