-- What planning and walking must be: what the posts and cards of a plan say, as laws over the definitions that the contracts use. Assumes nothing.
--
-- Glossary
--   Outcome      what planning comes to: the landmarks and the plan, or the landmarks with which the rule gave up
--   outcome_of   what it comes to for a map and a room
--   go           where one goes on at u with a card, by what is near and which places are landmarks
--   Code         the laws of any planning and walking
--   Signposts    that these definitions keep them
use Rattle.std.specs.Prelude.{◌≡◌, ℕ, ◌<◌, cond, List, [], length, ◌==◌, slice_index_or}
use Rattle.cards.specs.Cards.{card_of}
use Rattle.cards.specs.declared.kinds.Card.{Card}
use Rattle.cards.specs.declared.kinds.Hint.TheVariants.{Next}
use Rattle.choosing.specs.Choosing.{Chosen, NoRoom, Marked, chosen}
use Rattle.landmarks.specs.Landmarks.{Marks, near, line_count}
use Rattle.plans.specs.Plans.{Planned, plan_of}
use Rattle.posts.specs.declared.kinds.Line.{Line}
use Rattle.walking.specs.Walks.{as_hint, goes}
use Rattle.ways.specs.Map.{Map, Hop, Nowhere, hop}
use Rattle.ways.specs.Ways.{Joined}

pub data Outcome : Type 0 where
  Full : Marks → Outcome
  Made : Marks → Planned → Outcome

abbrev pub plan_for : Map → ℕ → Chosen → Outcome
plan_for z room (NoRoom l) = Full l
plan_for z room (Marked l) = Made l (plan_of z room l)

abbrev pub outcome_of : Map → ℕ → Outcome
outcome_of z room = plan_for z room (chosen z room)

-- the lines at a place, and the card of a place, as a plan has them; none beyond the places
abbrev pub post_in : Planned → ℕ → List Line
post_in p u = slice_index_or p.posts u []

abbrev pub card_in : Planned → ℕ → Card
card_in p v = slice_index_or p.cards v (record { place = 0; landmark = 0; hint = Next 0 })

abbrev pub marks_of_outcome : Outcome → Chosen
marks_of_outcome (Full l) = NoRoom l
marks_of_outcome (Made l p) = Marked l

abbrev pub post_of_outcome : Outcome → ℕ → List Line
post_of_outcome (Full l) u = []
post_of_outcome (Made l p) u = post_in p u

abbrev pub card_of_outcome : Outcome → ℕ → Card
card_of_outcome (Full l) v = record { place = 0; landmark = 0; hint = Next 0 }
card_of_outcome (Made l p) v = card_in p v

abbrev pub lines_of_outcome : Outcome → ℕ → ℕ
lines_of_outcome o u = length (post_of_outcome o u)

-- whoever has arrived goes nowhere; else by the lines and the card alone
abbrev pub goes_on_at : List Line → Card → ℕ → Hop
goes_on_at lines card u = cond (u == card.place) Nowhere (goes lines card u)

-- If the place is near, to the next place towards it; else, at the landmark of the card, as the hint says; else to the next place towards that
-- landmark, if it is one.
abbrev pub go : Map → Marks → Card → ℕ → Hop
go z l card u = cond (near z l u card.place) (hop z card.place u) (cond (u == card.landmark) (as_hint card.hint) (cond (l card.landmark) (hop z card.landmark u) Nowhere))

-- Planning for a map and a room, and walking by one post and the card. Plans are for maps that hang together.
pub record Code (Plan Post : Type 0) (plan : Map → ℕ → Plan) (marks : Plan → Chosen) (card : Plan → ℕ → Card) (post : Plan → ℕ → Post) (Goes-by : Post → Card → ℕ → Hop) (lines : Plan → ℕ → ℕ) : Type 0 where
  pub marks_so : (z : Map) (room : ℕ) → marks (plan z room) ≡ chosen z room
  pub card_so : (z : Map) (room : ℕ) (l : Marks) (v : ℕ) → chosen z room ≡ Marked l → v < z.n → card (plan z room) v ≡ card_of z l v
  pub goes_so : (z : Map) (room : ℕ) (l : Marks) (u v : ℕ) → Joined z → chosen z room ≡ Marked l → u < z.n → v < z.n → Goes-by (post (plan z room) u) (card_of z l v) u ≡ go z l (card_of z l v) u
  pub lines_so : (z : Map) (room : ℕ) (l : Marks) (u : ℕ) → chosen z room ≡ Marked l → u < z.n → lines (plan z room) u ≡ line_count z l u

abbrev pub Signposts : Type 0
Signposts = Code Outcome (List Line) outcome_of marks_of_outcome card_of_outcome post_of_outcome goes_on_at lines_of_outcome
