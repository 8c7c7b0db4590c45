use Rattle.std.proofs.Common.{◌≡◌, ℕ, ◌<◌, [], map, get_or, vec_items, vec_len}
use Rattle.landmarks.specs.Lands.{map_in, marks_of}
use Rattle.posts.proofs.posting.posts_of.Given as goal
use Rattle.posts.specs.Posts.{post_of, told}

abbrev pub invariant-loop-u : goal.invariant-loop-u
invariant-loop-u l =
    (vec_len l.posts ≡ l.u)
    × ((w : ℕ) → w < l.u → get_or (map told (vec_items l.posts)) w [] ≡ post_of (map_in l.land) (marks_of l.land) w)
