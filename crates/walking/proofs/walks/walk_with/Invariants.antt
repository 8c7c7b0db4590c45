-- What the loop of a walk keeps: what is left gives the whole, there is room for it, and what is noted with the rest of the trail is the whole trail. Assumes nothing.
use Rattle.std.proofs.Common.{◌≡◌, ◌-◌, ◌*◌, ◌≤◌}
use Rattle.std.specs.List.{FoldsTo}
use Rattle.maps.specs.Charts.{chart}
use Rattle.walking.specs.Walks.{posts_in, travels, trail, walk_of, trail_of}
use Rattle.walking.proofs.walks.walk_with.Given as goal

abbrev pub invariant-loop-i : goal.invariant-loop-i
invariant-loop-i g l =
    (travels (2 * l.map.n - l._i) (chart l.map) (posts_in l.posts) l.walker.card l.cost l.walker.at ≡ walk_of (chart l.map) (posts_in l.posts) l.fn.start.card l.fn.start.at)
    × (l.cost ≤ 65535 * l._i)
    × g.N.Notes.room l.notes (2 * l.map.n - l._i)
    × ((last : _) → FoldsTo g.N.Notes.noted l.notes (trail (2 * l.map.n - l._i) (chart l.map) (posts_in l.posts) l.walker.card l.walker.at) last
    → FoldsTo g.N.Notes.noted l.initial.notes (trail_of (chart l.map) (posts_in l.posts) l.fn.start.card l.fn.start.at) last)
