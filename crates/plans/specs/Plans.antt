-- A plan as it is written, and the plan of a map, of a room and of landmarks. Assumes nothing.
--
-- Glossary
--   Planned   what stands in a plan: for how many lines a post has room, the landmarks, the lines of every post, the cards
--   planned   what stands in a plan in memory
--   marked    the landmarks among the places v, v + 1, .., v + k - 1, in that order
--   plan_of   the plan of a map: its landmarks, and for each place the post and the card that the rules give it
use Rattle.std.specs.Prelude.{ℕ, zero, suc, ◌+◌, cond, List, [], ◌∷◌, map, vec_items}
use Rattle.std.specs.List.{range_with_len}
use Rattle.cards.specs.Cards.{card_of}
use Rattle.cards.specs.declared.kinds.Card.{Card}
use Rattle.landmarks.specs.Landmarks.{Marks}
use Rattle.plans.specs.declared.kinds.Plan.{Plan}
use Rattle.posts.specs.Posts.{post_of, told}
use Rattle.posts.specs.declared.kinds.Line.{Line}
use Rattle.ways.specs.Map.{Map}

pub record Planned : Type 0 where
  pub room : ℕ
  pub landmarks : List ℕ
  pub posts : List (List Line)
  pub cards : List Card

abbrev pub planned : Plan → Planned
planned p = record { room = p.room; landmarks = vec_items p.landmarks; posts = map told (vec_items p.posts); cards = vec_items p.cards }

unfoldable pub marked : Marks → ℕ → ℕ → List ℕ
marked l v zero = []
marked l v (suc k) = cond (l v) (v ∷ marked l (v + 1) k) (marked l (v + 1) k)

abbrev pub plan_of : Map → ℕ → Marks → Planned
plan_of z room l = record {
  room = room;
  landmarks = marked l 0 z.n;
  posts = map (post_of z l) (range_with_len 0 z.n);
  cards = map (card_of z l) (range_with_len 0 z.n);
}
