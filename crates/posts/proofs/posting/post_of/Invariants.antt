use Rattle.std.proofs.Common.{◌≡◌}
use Rattle.landmarks.specs.Lands.{map_in, marks_of}
use Rattle.posts.proofs.posting.post_of.Given as goal
use Rattle.posts.specs.Posts.{lines_of, told}

-- the lines for the places before
abbrev pub invariant-loop-v : goal.invariant-loop-v
invariant-loop-v l = told l.post ≡ lines_of (map_in l.land) (marks_of l.land) l.u 0 l.v
