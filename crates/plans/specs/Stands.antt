-- What making a plan gives, and what is promised of a plan so made. Assumes nothing.
--
-- Glossary
--   Listed     the plan of a map and its landmarks, or a post that has more lines than room
--   Stands     a plan keeps what was promised: room on every post, and everybody arrives
--   Planning   what making a plan for a map and a room gives
use Rattle.std.specs.Prelude.{◌≡◌, ℕ, ◌<◌, ◌≤◌, true, length, Some, None, Ok, Err, Result}
use Rattle.choosing.specs.Choosing.{NoRoom, chosen}
use Rattle.choosing.specs.Chosen.{Crowding}
use Rattle.choosing.specs.Laws.{Roomy, Crowded as Crowded₀}
use Rattle.distances.specs.Unreached.{Lowest}
use Rattle.landmarks.specs.Landmarks.{Marks}
use Rattle.maps.specs.declared.kinds.Fault.{Fault}
use Rattle.maps.specs.declared.kinds.Fault.TheVariants.{Apart as Apart₀, Cost, Form, Memory as Memory₀, Order, Plan as Plan₀, Range as Range₀, Room, Same}
use Rattle.plans.specs.Code.{Made, outcome_of, post_in, card_in}
use Rattle.plans.specs.Plans.{Planned, planned, plan_of}
use Rattle.plans.specs.declared.kinds.NoPlan.{NoPlan}
use Rattle.plans.specs.declared.kinds.NoPlan.TheVariants.{Apart, Crowded, Memory, Range}
use Rattle.plans.specs.declared.kinds.Plan.{Plan}
use Rattle.walking.specs.Promise.{Kept}
use Rattle.walking.specs.Walks.{walk_of}
use Rattle.ways.specs.Map.{Map}

-- the plan of just these landmarks, where every post has room; refused only where some post has more lines, or for want of memory
abbrev pub Listed : Map → ℕ → Marks → Result Plan Fault → Type 0
Listed z room l (Ok p) = (planned p ≡ plan_of z room l) × Roomy z room l
Listed z room l (Err Room) = Crowded₀ z room l
Listed z room l (Err Memory₀) = Unit {0}
Listed z room l (Err Range₀) = ⊥
Listed z room l (Err Form) = ⊥
Listed z room l (Err Order) = ⊥
Listed z room l (Err Cost) = ⊥
Listed z room l (Err Apart₀) = ⊥
Listed z room l (Err Plan₀) = ⊥
Listed z room l (Err Same) = ⊥

-- The plan of the map and of chosen landmarks, place 0 among them; no post has more lines than room; and whoever walks from u by the posts and the
-- card of v arrives, by a way of fewer than n roads, at no more than three times the distance, and at just the distance if v is near u or a landmark.
pub record Stands (z : Map) (room : ℕ) (p : Planned) : Type 0 where
  pub marks : Marks
  pub made : outcome_of z room ≡ Made marks p
  pub plan_is : p ≡ plan_of z room marks
  pub first : marks 0 ≡ true
  pub roomy : (u : ℕ) → u < z.n → length (post_in p u) ≤ room
  pub walks : (u v : ℕ) → u < z.n → v < z.n → Kept z marks u v (walk_of z (post_in p) (card_in p v) u)

-- a plan that stands; or why there is none: room for fewer than 8 lines; a place that can't be reached, the lowest; the post that was fullest when
-- the rule gave up
abbrev pub Planning : Map → ℕ → Result Plan NoPlan → Type 0
Planning z room (Ok p) = (8 ≤ room) × Stands z room (planned p)
Planning z room (Err Range) = room < 8
Planning z room (Err (Apart a)) = (8 ≤ room) × Lowest z (Some a)
Planning z room (Err (Crowded crowd)) = (8 ≤ room) × Lowest z None × (l : Marks) × (chosen z room ≡ NoRoom l) × Crowding z l crowd
Planning z room (Err Memory) = Unit {0}
