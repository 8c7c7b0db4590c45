-- What making the post at a place gives. Assumes nothing.
use Rattle.std.specs.Prelude.{◌≡◌, ℕ, ◌<◌, ◌≤◌, [], map, Ok, Err, vec_items, vec_len, Result, Vec, slice_index_or}
use Rattle.std.specs.declared.alloc.Global.{Global}
use Rattle.landmarks.specs.Landmarks.{Marks, line_count}
use Rattle.maps.specs.declared.kinds.Fault.{Fault}
use Rattle.maps.specs.declared.kinds.Fault.TheVariants.{Apart, Cost, Form, Memory, Order, Plan, Range, Room, Same}
use Rattle.posts.specs.Posts.{post_of, told}
use Rattle.posts.specs.declared.kinds.Post.{Post}
use Rattle.ways.specs.Map.{Map}

-- just the lines of the post; refused only beyond the places, and where there are more than 255 lines
abbrev pub Posted : Map → Marks → ℕ → Result Post Fault → Type 0
Posted z l u (Ok p) = (u < z.n) × (told p ≡ post_of z l u)
Posted z l u (Err Range) = z.n ≤ u
Posted z l u (Err Room) = (u < z.n) × (255 < line_count z l u)
Posted z l u (Err Form) = ⊥
Posted z l u (Err Order) = ⊥
Posted z l u (Err Cost) = ⊥
Posted z l u (Err Apart) = ⊥
Posted z l u (Err Plan) = ⊥
Posted z l u (Err Same) = ⊥
Posted z l u (Err Memory) = ⊥

-- all posts, one after the other; refused only where some post has more than 255 lines, or for want of memory
abbrev pub PostedAll : Map → Marks → Result (Vec Post Global) Fault → Type 0
PostedAll z l (Ok ps) = (vec_len ps ≡ z.n) × ((u : ℕ) → u < z.n → slice_index_or (map told (vec_items ps)) u [] ≡ post_of z l u)
PostedAll z l (Err Room) = (u : ℕ) × (u < z.n) × (255 < line_count z l u)
PostedAll z l (Err Memory) = Unit {0}
PostedAll z l (Err Range) = ⊥
PostedAll z l (Err Form) = ⊥
PostedAll z l (Err Order) = ⊥
PostedAll z l (Err Cost) = ⊥
PostedAll z l (Err Apart) = ⊥
PostedAll z l (Err Plan) = ⊥
PostedAll z l (Err Same) = ⊥
