use Rattle.std.proofs.Common.{◌≡◌, ℕ, ◌<◌, get_or, vec_items, vec_len}
use Rattle.landmarks.proofs.land.Land.new.Given as goal
use Rattle.landmarks.specs.Landmarks.{mark_of, marks_in}
use Rattle.landmarks.specs.Laws.{SomeMark}
use Rattle.landmarks.specs.Numbers.{mark_number}
use Rattle.maps.specs.Charts.{ground_of}

abbrev pub invariant-loop-v : goal.invariant-loop-v
invariant-loop-v l =
    (vec_len l.nearest ≡ l.v)
    × (0 < l.v → SomeMark (ground_of l.survey.map) (marks_in (vec_items l.marks)))
    × ((w : ℕ) → w < l.v → get_or (vec_items l.nearest) w (record { place = 0; away = 0 }) ≡ mark_number (mark_of (ground_of l.survey.map) (marks_in (vec_items l.marks)) w))
