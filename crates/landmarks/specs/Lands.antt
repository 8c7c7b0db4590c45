-- What a surveyed map with landmarks stands for, and what making one gives. Assumes nothing.
use Rattle.std.specs.Prelude.{◌≡◌, ℕ, ◌<◌, Bool, false, cond, ◌&&◌, List, Ok, Err, vec_items, Result, nat_lt}
use Rattle.distances.specs.declared.survey.Survey.{Survey}
use Rattle.landmarks.specs.Landmarks.{Marks, marks_in, near, on_post}
use Rattle.landmarks.specs.Laws.{SomeMark}
use Rattle.landmarks.specs.declared.land.Land.{Land}
use Rattle.maps.specs.Charts.{ground_of}
use Rattle.maps.specs.declared.kinds.Fault.{Fault}
use Rattle.maps.specs.declared.kinds.Fault.TheVariants.{Apart, Cost, Form, Memory, Order, Plan, Range, Room, Same}
use Rattle.ways.specs.Map.{Map}
use Rattle.ways.specs.Ways.{count_below}

abbrev pub map_in : Land → Map
map_in s = ground_of s.survey.map

abbrev pub marks_of : Land → Marks
marks_of s = marks_in (vec_items s.marks)

-- the land of just this survey and these landmarks, of which there is one at least; refused only where no place is a landmark, or for want of memory
abbrev pub Settled : Survey → List Bool → Result Land Fault → Type 0
Settled survey marks (Ok s) = (s.survey ≡ survey) × (vec_items s.marks ≡ marks) × SomeMark (ground_of survey.map) (marks_in marks)
Settled survey marks (Err Range) = (v : ℕ) → v < (ground_of survey.map).n → marks_in marks v ≡ false
Settled survey marks (Err Memory) = Unit {0}
Settled survey marks (Err Form) = ⊥
Settled survey marks (Err Order) = ⊥
Settled survey marks (Err Cost) = ⊥
Settled survey marks (Err Apart) = ⊥
Settled survey marks (Err Room) = ⊥
Settled survey marks (Err Plan) = ⊥
Settled survey marks (Err Same) = ⊥

-- what is near and what stands on a post, nothing beyond the places
abbrev pub near_in : Land → ℕ → ℕ → Bool
near_in s u v = cond (nat_lt u (map_in s).n && nat_lt v (map_in s).n) (near (map_in s) (marks_of s) u v) false

abbrev pub on_post_in : Land → ℕ → ℕ → Bool
on_post_in s u v = cond (nat_lt u (map_in s).n && nat_lt v (map_in s).n) (on_post (map_in s) (marks_of s) u v) false

-- how many lines the post at u has, none beyond the places
abbrev pub lines_in : Land → ℕ → ℕ
lines_in s u = count_below (map_in s).n (on_post_in s u)
